-- What holds of all keys of an embedding holds of all numbers that have an image, and the other way.
use Rattle.std.proofs.Common.{◌≡◌, ℕ, ◌<◌, ◌==◌, Bool, true, length, get_or, Option, Some, None, refl, sym, ap, subst, ◌∙◌, true≢false, is_some}
use Rattle.indexmap.specs.IndexMap.{IndexMap, keys, get_by}
use Rattle.heap_graph.specs.declared.graph.Target as memory_target
use Rattle.heap_graph.specs.Graphs.{Target}
use Rattle.heap_graph.specs.Memory.{target_of}
use Rattle.heap_graph.specs.Frozen.{optional_target, static_in}
use Rattle.graph_checker.proofs.ClosedCalls.Found.{key_found, key_there}

module _ {S : Type 0} (holds : ℕ → Bool) (embedding : IndexMap ℕ memory_target.Target S) where
  pub all_hold : ((place : ℕ) → place < length (keys embedding) → holds (get_or (keys embedding) place 0) ≡ true) → (number : ℕ) (target : Target) → static_in embedding number ≡ Some target
      → holds number ≡ true
  all_hold each number target is = by (get_by (λ key. number == key) embedding) refl
    where
      by : (found : Option memory_target.Target) → get_by (λ key. number == key) embedding ≡ found → holds number ≡ true
      by None none = absurd (true≢false (sym (ap is_some (sym (ap optional_target none) ∙ is))))
      by (Some value) some =
          let at = key_found number embedding.entries value some in
          subst (λ key. holds key ≡ true) at.1.is (each at.0 at.1.within)

  pub one_holds : ((number : ℕ) (target : Target) → static_in embedding number ≡ Some target → holds number ≡ true) → (place : ℕ) → place < length (keys embedding)
      → holds (get_or (keys embedding) place 0) ≡ true
  one_holds all place within =
      let there = key_there embedding.entries place within in
      all (get_or (keys embedding) place 0) (target_of there.0) (ap optional_target there.1)
