use Rattle.std.proofs.Common.{refl}
use Rattle.c_typed.proofs.Grown.{void_stands}
use Rattle.c_types_expressions.proofs.Deriving.{null-known}
use Rattle.c_types_expressions.proofs.constants.null.Goals as goal

pub pointer_to-requires : goal.pointer_to-requires
pointer_to-requires c = (void_stands c.args.checker.now.table (record { 0 = 0 }) refl).0

pub returns : goal.returns
returns c = null-known (record { 0 = 0 }) c.in_ok-pointer_to.field-0 c.in_ok-new.field-0 c.in_ok-new.ensures.ok refl c.in_ok-pointer_to.ensures.made
