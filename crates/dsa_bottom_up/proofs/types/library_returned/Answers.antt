use Rattle.std.proofs.Common.{sym, ap, ◌∙◌}
use Rattle.c_typed.specs.Types.{Pointer}
use Rattle.dsa_bottom_up.specs.ExpressionTypes.{library_type}
use Rattle.dsa_bottom_up.proofs.Shapes.{void_in}
use Rattle.dsa_bottom_up.proofs.types.library_returned.Goals as goal

pub returns-in-Malloc : goal.returns-in-Malloc
returns-in-Malloc c = λ table. ap Pointer (void_in table) ∙ ap library_type (sym c.in-Malloc.is)
