use Rattle.std.proofs.Common.{sym, subst}
use Rattle.ref_meaning.specs.Views.{part_in}
use Rattle.ref_meaning.specs.Holding.{NodeStands}
use Rattle.ref_meaning.specs.Items.{ItemIs, block_of}
use Rattle.ref_meaning.proofs.Numbered.{item-found}
use Rattle.ref_meaning.proofs.statement.block_item.Goals as goal

pub returns-in-Body : goal.returns-in-Body
returns-in-Body c = λ table stands.
    subst (λ n. ItemIs table c.args.number (block_of (part_in table n)) c.get.result) (sym c.in-Body.is)
    (item-found table c.in-Body.function.now.body.items c.deref.result.now c.args.number c.get.result c.deref.ensures.value c.get.ensures.lookup c.deref.type_inv.0 (subst (NodeStands table) c.in-Body.is stands).3)
