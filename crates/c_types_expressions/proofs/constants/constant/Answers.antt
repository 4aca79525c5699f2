use Rattle.std.proofs.Common.{FitsSigned, to_z-of_z, rules, sym, subst, ◌∙◌}
use Rattle.std.specs.Int.{w128}
use Rattle.c_typed.specs.declared.typed.Value.{Value}
use Rattle.c_typed.specs.Views.{ValueStands}
use Rattle.c_types_expressions.proofs.Deriving.{constant-known}
use Rattle.c_types_expressions.proofs.constants.constant.Goals as goal

pub returns : goal.returns
returns c = λ table.
    let fits : FitsSigned w128 c.args.number = search rules in
    let is = c.in_ok-new.ensures.ok in
    let made = c.integer.ensures table (subst (λ (v : Value). ValueStands table v) (sym is) tt) in
    let known = c.into_known.ensures table made.0 in
    (known.0, constant-known table c.args.int_type (known.1 ∙ made.1) is (to_z-of_z fits))
