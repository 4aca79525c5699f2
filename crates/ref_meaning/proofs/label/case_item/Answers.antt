use Rattle.ref_meaning.proofs.Numbered.{switch-found}
use Rattle.ref_meaning.proofs.label.case_item.Goals as goal

pub returns-in-Switch : goal.returns-in-Switch
returns-in-Switch c = λ table stands.
    switch-found table c.args.stmt.now c.in-Switch.value c.in-Switch.items c.deref.result.now c.args.number c.get.result c.in-Switch.is c.deref.ensures.value c.get.ensures.lookup c.deref.type_inv.0 stands
