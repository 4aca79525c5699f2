use Rattle.std.proofs.Common.{sym, ◌∙◌}
use Rattle.dsa_bottom_up.proofs.Shapes.{void_in, no_target}
use Rattle.dsa_bottom_up.proofs.types.target.Goals as goal

pub returns-in_default : goal.returns-in_default
returns-in_default c = λ table. void_in table ∙ sym (no_target table c.args.shape c.in_default.not-Pointer)
