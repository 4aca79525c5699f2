use Rattle.std.proofs.Common.{true, false, sym, ap, ◌∙◌}
use Rattle.c_syntax.specs.declared.expr.Declarator.{Declarator}
use Rattle.c_syntax.specs.Views.{declarator_tree, suffixes_of}
use Rattle.c_rules.specs.Expressions.{adds}
use Rattle.c_rules.specs.Programs.{own_parameters, first_parameters}
use Rattle.c_types.proofs.Declaring.{nested-own, plain-own}
use Rattle.c_types.proofs.parameters.+own_parameters.Goals.{in_default-via-in-Nested+else-declarator_adds, in_default-via-in_default}
use Rattle.c_types.proofs.parameters.+own_parameters.Goals as goal

pub returns-in-Nested : goal.returns-in-Nested
returns-in-Nested t c =
    let d = c.args.declarator.now in
    c.own_parameters.ensures
    ∙ ap (λ (d : Declarator). own_parameters (declarator_tree d)) c.deref-in-Nested.ensures
    ∙ nested-own d.direct c.in-Nested.inner (suffixes_of d.suffixes.items) true c.in-Nested.is
    (ap (λ (d : Declarator). adds (declarator_tree d)) (sym c.deref.ensures) ∙ sym c.declarator_adds.ensures ∙ c.if-declarator_adds.true)

pub returns-in_default : goal.returns-in_default
returns-in_default t c =
    let d = c.args.declarator.now in
    c.first_parameters.ensures
    ∙ ap (λ suffixes. first_parameters (suffixes_of suffixes)) c.as_slice.ensures.value
    ∙ elim c.in_default.branch [
      | in_default-via-in-Nested+else-declarator_adds w ↦ nested-own d.direct w.in-Nested.inner (suffixes_of d.suffixes.items) false w.in-Nested.is
          (ap (λ (d : Declarator). adds (declarator_tree d)) (sym w.deref.ensures) ∙ sym w.declarator_adds.ensures ∙ w.if-declarator_adds.false)
      | in_default-via-in_default w ↦ plain-own d.direct (suffixes_of d.suffixes.items) w.in_default.not-Nested
    ]
