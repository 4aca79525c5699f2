use Rattle.ref_meaning.proofs.Numbered.{block-found}
use Rattle.ref_meaning.proofs.statement.inner_item.Goals as goal

pub returns-in-Block : goal.returns-in-Block
returns-in-Block c = λ table stands.
    block-found table c.args.stmt.now c.in-Block.items c.deref.result.now c.args.number c.get.result c.in-Block.is c.deref.ensures.value c.get.ensures.lookup c.deref.type_inv.0 stands
