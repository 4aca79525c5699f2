use Rattle.std.proofs.Common.{sym, ◌∙◌}
use Rattle.dsa_bottom_up.proofs.Shapes.{void_in, local_past}
use Rattle.dsa_bottom_up.proofs.types.local.Goals as goal

pub returns-in-None : goal.returns-in-None
returns-in-None c = λ table. void_in table ∙ sym (local_past table c.args.scope.now c.args.number c.in-None.ensures.lookup.3)
