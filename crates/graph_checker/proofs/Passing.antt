-- One argument of a call, and those behind it.
use Rattle.std.proofs.Common.{◌≡◌, ℕ, suc, ◌+◌, ◌≤◌, Bool, true, ◌&&◌, List, [], ◌∷◌, length, drop, Option, refl, sym, ap, ◌∙◌, arith}
use Rattle.std.proofs.lemmas.List.{drop_all}
use Rattle.c_typed.specs.Types.{CType, CTypes, NoTypes, MoreTypes}
use Rattle.tac_ir.specs.declared.register.Register.{Register}
use Rattle.tac_ir.specs.States.{Owner}
use Rattle.heap_graph.specs.Graphs.{Target}
use Rattle.heap_graph.specs.Points.{is_data_pointer}
use Rattle.heap_graph.specs.Targets.{implies, has_target, same_target}
use Rattle.heap_graph.specs.Closed.{Family, parameters_in, arguments_closed}
use Rattle.heap_graph.specs.Frozen.{register_target}
use Rattle.heap_graph.specs.declared.frozen.FunctionNames.{FunctionNames}
use Rattle.heap_graph.specs.Shows.{ShowsNames}

module _ (family : Family) (owner : Owner) (names : FunctionNames) (shows : ShowsNames family owner names) (formals : ℕ → Option Target) where
  pub one_more : (number : ℕ) (c_type : CType) (types others : CTypes) (argument : Register) (arguments : List Register) (formal : Option Target) (test : Bool)
      → types ≡ MoreTypes c_type others → drop number arguments ≡ argument ∷ drop (number + 1) arguments → formals number ≡ formal
      → test ≡ implies (is_data_pointer c_type) (has_target (register_target names argument) && same_target (register_target names argument) formal)
      → arguments_closed family owner formals number (parameters_in types) (drop number arguments)
      ≡ (test && arguments_closed family owner formals (number + 1) (parameters_in others) (drop (number + 1) arguments))
  one_more number c_type types others argument arguments formal test split item is tested =
      let rest = λ (n : ℕ). arguments_closed family owner formals n (parameters_in others) (drop (number + 1) arguments) in
      let next : suc number ≡ number + 1 = omega arith in
      (λ i. arguments_closed family owner formals number (parameters_in (split i)) (item i))
      ∙ (λ i. implies (is_data_pointer c_type) (has_target (shows.registers argument i) && same_target (shows.registers argument i) (is i)) && rest (suc number))
      ∙ ap (λ t. t && rest (suc number)) (sym tested) ∙ ap (λ n. test && rest n) next

module _ (family : Family) (owner : Owner) (formals : ℕ → Option Target) (number : ℕ) where
  none_left : (types : CTypes) → arguments_closed family owner formals number (parameters_in types) [] ≡ true
  none_left NoTypes = refl
  none_left (MoreTypes first others) = refl

  pub no_more : (types : CTypes) (arguments : List Register) → length arguments ≤ number → arguments_closed family owner formals number (parameters_in types) (drop number arguments) ≡ true
  no_more types arguments all = ap (arguments_closed family owner formals number (parameters_in types)) (drop_all number arguments all) ∙ none_left types
