-- The nodes of all of a function's names.
use Rattle.std.proofs.Common.{◌≡◌, ℕ, ◌⊎◌, inl, inr, List, Option, subst}
use Rattle.tac_ir.specs.declared.register.Local.TheVariants as L
use Rattle.tac_ir.specs.declared.register.Register.TheVariants as R
use Rattle.heap_graph.specs.declared.graph.Target as memory_target
use Rattle.heap_graph.specs.Frozen.{optional_target, target_in}
use Rattle.heap_graph.specs.declared.frozen.FunctionNames.{FunctionNames}
use Rattle.heap_graph.specs.declared.marks.NodeMarks.{NodeMarks}
use Rattle.heap_graph.specs.Marks.{Adds, IsNodeOf, IsAmong, IsNamedBy, by_register, by_result, by_object}
use Rattle.heap_graph.proofs.Adding.{adds_both, adds_same}

pub adds_in : (old new : NodeMarks) (some same : List (Option memory_target.Target)) → some ≡ same → Adds old new (IsAmong (target_in some)) → Adds old new (IsAmong (target_in same))
adds_in old new some same is adds = subst (λ l. Adds old new (IsAmong (target_in l))) is adds

module _ (names : FunctionNames) where
  abbrev Of : List (Option memory_target.Target) → ℕ → Type 0
  Of targets number = IsAmong (target_in targets) number

  abbrev Result : ℕ → Type 0
  Result number = IsNodeOf (optional_target names.returned) number

  abbrev InOrder : ℕ → Type 0
  InOrder number =
      ((((((Of names.parameters.items number ⊎ Of names.variables.items number) ⊎ Of names.calls.items number) ⊎ Of names.arguments.items number) ⊎ Of names.expressions.items number)
      ⊎ Of names.parameter_objects.items number) ⊎ Of names.variable_objects.items number) ⊎ Result number

  is_named : (number : ℕ) → InOrder number → IsNamedBy names number
  is_named number (inr is) = by_result is
  is_named number (inl (inr is)) = by_object (L.Variable is.0) is.1
  is_named number (inl (inl (inr is))) = by_object (L.Parameter is.0) is.1
  is_named number (inl (inl (inl (inr is)))) = by_register (R.Expression is.0) is.1
  is_named number (inl (inl (inl (inl (inr is))))) = by_register (R.Argument is.0) is.1
  is_named number (inl (inl (inl (inl (inl (inr is)))))) = by_register (R.Call is.0) is.1
  is_named number (inl (inl (inl (inl (inl (inl (inr is))))))) = by_register (R.Local (L.Variable is.0)) is.1
  is_named number (inl (inl (inl (inl (inl (inl (inl is))))))) = by_register (R.Local (L.Parameter is.0)) is.1

  in_order : (number : ℕ) → IsNamedBy names number → InOrder number
  in_order number (by_result is) = inr is
  in_order number (by_object (L.Variable place) is) = inl (inr (place, is))
  in_order number (by_object (L.Parameter place) is) = inl (inl (inr (place, is)))
  in_order number (by_register (R.Expression place) is) = inl (inl (inl (inr (place, is))))
  in_order number (by_register (R.Argument place) is) = inl (inl (inl (inl (inr (place, is)))))
  in_order number (by_register (R.Call place) is) = inl (inl (inl (inl (inl (inr (place, is))))))
  in_order number (by_register (R.Local (L.Variable place)) is) = inl (inl (inl (inl (inl (inl (inr (place, is)))))))
  in_order number (by_register (R.Local (L.Parameter place)) is) = inl (inl (inl (inl (inl (inl (inl (place, is)))))))
  in_order number (by_register (R.Temporary place) is) = absurd is

  pub adds_names : (a b c d e f g h i : NodeMarks) → Adds a b (Of names.parameters.items) → Adds b c (Of names.variables.items) → Adds c d (Of names.calls.items)
      → Adds d e (Of names.arguments.items) → Adds e f (Of names.expressions.items) → Adds f g (Of names.parameter_objects.items) → Adds g h (Of names.variable_objects.items)
      → Adds h i Result → Adds a i (IsNamedBy names)
  adds_names a b c d e f g h i one two three four five six seven eight =
      adds_same a i InOrder (IsNamedBy names) is_named in_order
      (adds_both a h i _ _ (adds_both a g h _ _ (adds_both a f g _ _ (adds_both a e f _ _ (adds_both a d e _ _ (adds_both a c d _ _ (adds_both a b c _ _ one two) three) four) five) six) seven) eight)
