use Rattle.std.proofs.Common.{List, map, refl, arith}
use Rattle.c_typed.specs.DefinitionViews.{literal_of}
use Rattle.c_typed.specs.declared.definition.LiteralDef.{LiteralDef}
use Rattle.c_types.specs.Limits.{literals_size}
use Rattle.c_types.proofs.Totals.{literals_size-before, whole_at-end}
use Rattle.c_types.proofs.limits.literals_size.Goals as goal

pub loop-literal-init : goal.loop-literal-init
loop-literal-init c = record { fits = omega arith; whole = literals_size-before (map literal_of c.args.literals.now) }

pub returns : goal.returns
returns c = whole_at-end (λ (literals : List LiteralDef). literals_size (map literal_of literals)) c.args.literals.now c.loop-literal.literal-index c.loop-literal.size (omega arith) refl (omega arith) c.loop-literal.invariant.whole
