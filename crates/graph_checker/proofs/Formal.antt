-- Parameters and their targets, one after another.
use Rattle.std.proofs.Common.{◌≡◌, ℕ, suc, true, false, ◌&&◌, List, [], ◌∷◌, Option, refl, sym, ap, ◌∙◌}
use Rattle.c_typed.specs.Types.{CType, CTypes, MoreTypes}
use Rattle.tac_ir.specs.declared.register.Register.TheVariants as R
use Rattle.tac_ir.specs.declared.register.Local.TheVariants as L
use Rattle.tac_ir.specs.States.{InFunction}
use Rattle.heap_graph.specs.Graphs.{Target}
use Rattle.heap_graph.specs.Targets.{has_target, implies}
use Rattle.heap_graph.specs.Points.{is_data_pointer}
use Rattle.heap_graph.specs.Closed.{Family, parameters_in, formals_closed}
use Rattle.heap_graph.specs.Frozen.{target_in}
use Rattle.heap_graph.specs.declared.frozen.FunctionNames.{FunctionNames}
use Rattle.heap_graph.specs.Shows.{ShowsNames}
use Rattle.graph_checker.specs.Formals.{have_targets}

-- ---- one parameter

module _ (targets : ℕ → Option Target) (types : CTypes) (first : CType) (others : CTypes) (split : types ≡ MoreTypes first others) where
  pub fails : false ≡ implies (is_data_pointer first) (has_target (targets 0)) → false ≡ have_targets targets 0 (parameters_in types)
  fails not = (λ i. not i && have_targets targets 1 (parameters_in others)) ∙ sym (ap (λ (ts : CTypes). have_targets targets 0 (parameters_in ts)) split)

  pub goes_on : (left : ℕ → Option Target) → ((number : ℕ) → left number ≡ targets (suc number)) → true ≡ implies (is_data_pointer first) (has_target (targets 0))
      → have_targets left 0 (parameters_in others) ≡ have_targets targets 0 (parameters_in types)
  goes_on left moved has =
      behind 0 (parameters_in others) ∙ ((λ i. has i && have_targets targets 1 (parameters_in others)) ∙ sym (ap (λ (ts : CTypes). have_targets targets 0 (parameters_in ts)) split))
    where
      behind : (number : ℕ) (types : List CType) → have_targets left number types ≡ have_targets targets (suc number) types
      behind number [] = refl
      behind number (c_type ∷ more) = λ i. implies (is_data_pointer c_type) (has_target (moved number i)) && behind (suc number) more i

-- ---- all of them

-- the targets are those of formals
pub formals_shown : (family : Family) (function : ℕ) (names : FunctionNames) → ShowsNames family (InFunction function) names → (number : ℕ) (types : List CType)
    → have_targets (target_in names.parameters.items) number types ≡ formals_closed family (InFunction function) function number types
formals_shown family function names shows number [] = refl
formals_shown family function names shows number (c_type ∷ types) =
    λ i. implies (is_data_pointer c_type) (has_target (sym (shows.registers (R.Local (L.Parameter number))) i)) && formals_shown family function names shows (suc number) types i
