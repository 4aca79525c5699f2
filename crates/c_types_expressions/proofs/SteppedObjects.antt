-- What `++` and `--` find of an object.
use Rattle.std.proofs.Common.{◌≡◌, Box, Global, Bool, true, false, ◌||◌, Option, Some, None, sym, ap, subst, ◌∙◌}
use Rattle.run_theory.specs.declared.place.Pos.{Pos}
use Rattle.c_rules.specs.declared.rule.TypeRule.TheVariants as T
use Rattle.c_typed.specs.declared.typed.Stepping.{Stepping}
use Rattle.c_typed.specs.declared.typed.Value as memory_value
use Rattle.c_typed.specs.declared.c_type.Shape.{Shape}
use Rattle.c_typed.specs.Types.{is_integer}
use Rattle.c_typed.specs.Table.{type_in, shape_type}
use Rattle.c_typed.specs.Views.{value_in, object_in}
use Rattle.c_types_state.specs.declared.known.Known as memory_known
use Rattle.c_rules.specs.Known.{Checked, Known, give, unless, require, with_known, value_of_type}
use Rattle.c_rules.specs.Operators as rules
use Rattle.c_rules.specs.Operators.{modifiable_rule, stepped, is_scalar, is_pointer_to_complete, step_value}
use Rattle.c_rules.specs.Names.{Scope}
use Rattle.c_types_state.specs.NameTables.{State, scope_of}
use Rattle.c_types_state.specs.Finding.{noted, Finds, each_in, expr_in}
use Rattle.c_types_state.proofs.Findings.{finds-give, finds-unknown, finds-stands, finds-then}
use Rattle.c_types_state.specs.declared.operands.Operand as memory_operand
use Rattle.c_types_state.specs.declared.targets.Target as memory_target
use Rattle.c_types_state.specs.Operands.{IsOperand, target_in, TargetStands, IsTarget}
use Rattle.c_types_state.proofs.Steps.{fails, passes, unchanged}

module _ (stepping : Stepping) (whole place : Pos) where
  -- what is asked of the object, and what is made of it
  abbrev pub steps : Scope → Known → Checked Known
  steps scope object =
      require (is_scalar object.c_type) T.T07 place
      (require (is_integer object.c_type || is_pointer_to_complete scope object.c_type) T.T14 whole
      (give (value_of_type object.c_type (step_value stepping whole object.c_type (rules.object_in object.typed)))))

  pub stepped-unknown : (s : State) (operand : Option memory_known.Known) → operand ≡ None → Finds IsOperand (with_known (each_in expr_in s.table operand) (stepped (scope_of s) stepping whole place)) s s None
  stepped-unknown s operand e =
      subst (λ o. Finds IsOperand (with_known (each_in expr_in s.table o) (stepped (scope_of s) stepping whole place)) s s None) (sym e) finds-unknown

  module _ (s t : State) (operand : Option memory_known.Known) (known : memory_known.Known) (found : Option memory_target.Target) (e : operand ≡ Some known) (first : Finds IsTarget (modifiable_rule whole (expr_in s.table known)) s t found) where
    pub stepped-none : found ≡ None → Finds IsOperand (with_known (each_in expr_in s.table operand) (stepped (scope_of s) stepping whole place)) s t None
    stepped-none is =
        subst (λ o. Finds IsOperand (with_known (each_in expr_in s.table o) (stepped (scope_of s) stepping whole place)) s t None) (sym e)
        (finds-then TargetStands target_in (λ _. modifiable_rule whole (expr_in s.table known)) steps (subst (λ r. Finds IsTarget (modifiable_rule whole (expr_in s.table known)) s t r) is first) finds-unknown)

    module _ (target : memory_target.Target) (is : found ≡ Some target) where
      pub target-stands : TargetStands t.table target
      target-stands = finds-stands TargetStands target_in (subst (λ r. Finds IsTarget (modifiable_rule whole (expr_in s.table known)) s t r) is first)

      stepped-after : (u : State) (r : Option memory_operand.Operand) → Finds IsOperand (steps (scope_of t) (target_in t.table target)) t u r → Finds IsOperand (with_known (each_in expr_in s.table operand) (stepped (scope_of s) stepping whole place)) s u r
      stepped-after u r second =
          subst (λ o. Finds IsOperand (with_known (each_in expr_in s.table o) (stepped (scope_of s) stepping whole place)) s u r) (sym e)
          (finds-then TargetStands target_in (λ _. modifiable_rule whole (expr_in s.table known)) steps (subst (λ r. Finds IsTarget (modifiable_rule whole (expr_in s.table known)) s t r) is first) second)

      module _ (u : State) (scalar asked : Bool) (tested : scalar ≡ is_scalar (type_in t.table target.c_type)) (answered : asked ≡ scalar) (noted-u : u ≡ record t { least = noted t.least (unless scalar T.T07 place) }) where
        pub stepped-not_scalar : asked ≡ false → Finds IsOperand (with_known (each_in expr_in s.table operand) (stepped (scope_of s) stepping whole place)) s u None
        stepped-not_scalar failed =
            stepped-after u None
            (fails (is_scalar (type_in t.table target.c_type)) T.T07 place
            (require (is_integer (type_in t.table target.c_type) || is_pointer_to_complete (scope_of t) (type_in t.table target.c_type)) T.T14 whole
            (give (value_of_type (type_in t.table target.c_type) (step_value stepping whole (type_in t.table target.c_type) (object_in t.table target.object.value)))))
            tested answered failed noted-u)

        module _ (held : asked ≡ true) where
          pub same-u : u ≡ t
          same-u = unchanged T.T07 place answered held noted-u

          pub target-stands-u : TargetStands u.table target
          target-stands-u = subst (λ (x : State). TargetStands x.table target) (sym same-u) target-stands

          module _ (w : State) (can asked' : Bool) (tested' : can ≡ (is_integer (type_in u.table target.c_type) || is_pointer_to_complete (scope_of u) (type_in u.table target.c_type))) (answered' : asked' ≡ can) (noted-w : w ≡ record u { least = noted u.least (unless can T.T14 whole) }) where
            tested-t : can ≡ (is_integer (type_in t.table target.c_type) || is_pointer_to_complete (scope_of t) (type_in t.table target.c_type))
            tested-t = subst (λ (x : State). can ≡ (is_integer (type_in x.table target.c_type) || is_pointer_to_complete (scope_of x) (type_in x.table target.c_type))) same-u tested'

            stepped-scalar : (r : Option memory_operand.Operand) → Finds IsOperand (require (is_integer (type_in t.table target.c_type) || is_pointer_to_complete (scope_of t) (type_in t.table target.c_type)) T.T14 whole (give (value_of_type (type_in t.table target.c_type) (step_value stepping whole (type_in t.table target.c_type) (object_in t.table target.object.value))))) u w r → Finds IsOperand (with_known (each_in expr_in s.table operand) (stepped (scope_of s) stepping whole place)) s w r
            stepped-scalar r third =
                stepped-after w r
                (passes (is_scalar (type_in t.table target.c_type)) T.T07 place
                (require (is_integer (type_in t.table target.c_type) || is_pointer_to_complete (scope_of t) (type_in t.table target.c_type)) T.T14 whole
                (give (value_of_type (type_in t.table target.c_type) (step_value stepping whole (type_in t.table target.c_type) (object_in t.table target.object.value)))))
                tested answered held noted-u third)

            pub stepped-not_complete : asked' ≡ false → Finds IsOperand (with_known (each_in expr_in s.table operand) (stepped (scope_of s) stepping whole place)) s w None
            stepped-not_complete failed =
                stepped-scalar None
                (fails (is_integer (type_in t.table target.c_type) || is_pointer_to_complete (scope_of t) (type_in t.table target.c_type)) T.T14 whole
                (give (value_of_type (type_in t.table target.c_type) (step_value stepping whole (type_in t.table target.c_type) (object_in t.table target.object.value))))
                tested-t answered' failed noted-w)

            module _ (held' : asked' ≡ true) where
              pub same-w : w ≡ t
              same-w = unchanged T.T14 whole answered' held' noted-w ∙ same-u

              pub target-stands-w : TargetStands w.table target
              target-stands-w = subst (λ (x : State). TargetStands x.table target) (sym same-w) target-stands

              pub stepped-made : (shape : Shape) (value : Box memory_value.Value Global) (made : memory_operand.Operand) → type_in w.table target.c_type ≡ shape_type w.table shape → value_in w.table value.value ≡ step_value stepping whole (shape_type w.table shape) (object_in w.table target.object.value) → IsOperand w.table made (value_of_type (type_in w.table target.c_type) (value_in w.table value.value)) → Finds IsOperand (with_known (each_in expr_in s.table operand) (stepped (scope_of s) stepping whole place)) s w (Some made)
              stepped-made shape value made means valued h =
                  let there : IsOperand w.table made (value_of_type (type_in w.table target.c_type) (step_value stepping whole (type_in w.table target.c_type) (object_in w.table target.object.value))) =
                  (h.0, h.1 ∙ ap (value_of_type (type_in w.table target.c_type)) (valued ∙ (λ i. step_value stepping whole (sym means i) (object_in w.table target.object.value)))) in
                  let here = subst (λ (x : State). IsOperand w.table made (value_of_type (type_in x.table target.c_type) (step_value stepping whole (type_in x.table target.c_type) (object_in x.table target.object.value)))) same-w there in
                  stepped-scalar (Some made)
                  (passes (is_integer (type_in t.table target.c_type) || is_pointer_to_complete (scope_of t) (type_in t.table target.c_type)) T.T14 whole
                  (give (value_of_type (type_in t.table target.c_type) (step_value stepping whole (type_in t.table target.c_type) (object_in t.table target.object.value))))
                  tested-t answered' held' noted-w (finds-give here))
