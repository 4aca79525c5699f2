-- Operands stay while a table grows.
use Rattle.c_types_state.specs.declared.known.TypedExpr.TheVariants as E
use Rattle.c_types_state.specs.Staying.{Stays}
use Rattle.c_types_state.proofs.Findings.{stays-expr}
use Rattle.c_types_state.specs.Operands.{IsOperand, IsTarget}

pub stays-operand : Stays IsOperand
stays-operand old new grows b a h =
    stays-expr old new grows (record { c_type = b.c_type; typed = E.Value b.value; constness = b.constness; is_null = b.is_null; address = b.address }) a h

pub stays-target : Stays IsTarget
stays-target old new grows b a h =
    stays-expr old new grows (record { c_type = b.c_type; typed = E.Object b.object; constness = b.constness; is_null = b.is_null; address = b.address }) a h
