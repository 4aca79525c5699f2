-- Targets at the places of a list or of a map.
use Rattle.std.proofs.Common.{◌≡◌, ℕ, ◌≤◌, ◌<◌, List, length, get_or, Option, Some, None, refl, sym, ap, subst, ◌∙◌, arith}
use Rattle.std.specs.Prelude.{slice_get, ◌==◌}
use Rattle.std.specs.Cmp.{nat_eq_equiv}
use Rattle.std.proofs.lemmas.Option.{slice_get_past, slice_get-get_or}
use Rattle.std.proofs.lemmas.Map.Entries.{place_from_lookup, lookup_from_place}
use Rattle.std.specs.Prelude.{nat_eq}
use Rattle.indexmap.specs.IndexMap.{IndexMap, IsUnique, get_by}
use Rattle.heap_graph.specs.declared.graph.Target as memory_target
use Rattle.heap_graph.specs.Graphs.{Target}
use Rattle.heap_graph.specs.Memory.{target_of}
use Rattle.heap_graph.specs.Frozen.{optional_target, flat, target_in, static_in}
use Rattle.heap_graph.specs.Marks.{Adds, IsNodeOf, IsAmong}
use Rattle.heap_graph.specs.declared.marks.NodeMarks.{NodeMarks}
use Rattle.heap_graph.proofs.Adding.{IsAmongFirst, adds_all, adds_same}

-- ---- of a list

pub target_there : (targets : List (Option memory_target.Target)) (place : ℕ) → place < length targets → target_in targets place ≡ optional_target (get_or targets place None)
target_there targets place within = ap flat (slice_get-get_or targets place None within)

pub target_past : (targets : List (Option memory_target.Target)) (count place : ℕ) → length targets ≤ count → count ≤ place → target_in targets place ≡ None
target_past targets count place long past = ap flat (slice_get_past targets place (omega (arith, long, past)))

-- ---- of a map

abbrev pub value_of : Option (ℕ × memory_target.Target) → Option Target
value_of None = None
value_of (Some entry) = Some (target_of entry.1)

abbrev pub value_at : List (ℕ × memory_target.Target) → ℕ → Option Target
value_at entries place = value_of (slice_get entries place)

pub value_past : (entries : List (ℕ × memory_target.Target)) (count place : ℕ) → length entries ≤ count → count ≤ place → value_at entries place ≡ None
value_past entries count place long past = ap value_of (slice_get_past entries place (omega (arith, long, past)))

module _ {S : Type 0} (targets : IndexMap ℕ memory_target.Target S) (unique : IsUnique nat_eq targets) where
  found_by_place : (number : ℕ) → IsAmong (value_at targets.entries) number → IsAmong (static_in targets) number
  found_by_place number found = by (slice_get targets.entries found.0) refl
    where
      by : (entry : Option (ℕ × memory_target.Target)) → slice_get targets.entries found.0 ≡ entry → IsAmong (static_in targets) number
      by None none = absurd (subst (λ t. IsNodeOf t number) (ap value_of none) found.1)
      by (Some entry) is =
          (entry.0, subst (λ t. IsNodeOf t number) (ap value_of is ∙ sym (ap optional_target (lookup_from_place nat_eq_equiv targets.entries found.0 entry.0 entry.1 unique is))) found.1)

  found_by_key : (number : ℕ) → IsAmong (static_in targets) number → IsAmong (value_at targets.entries) number
  found_by_key number found = by (get_by (λ key. found.0 == key) targets) refl
    where
      by : (target : Option memory_target.Target) → get_by (λ key. found.0 == key) targets ≡ target → IsAmong (value_at targets.entries) number
      by None none = absurd (subst (λ t. IsNodeOf t number) (ap optional_target none) found.1)
      by (Some target) is =
          let place = place_from_lookup (λ key. found.0 == key) targets.entries target is in
          (place.0, subst (λ t. IsNodeOf t number) (ap optional_target is ∙ sym (ap value_of place.2)) found.1)

  -- all targets of a map were added
  pub adds_entries : (old new : NodeMarks) (count : ℕ) → length targets.entries ≤ count → Adds old new (IsAmongFirst count (value_at targets.entries)) → Adds old new (IsAmong (static_in targets))
  adds_entries old new count long adds =
      adds_same old new (IsAmong (value_at targets.entries)) (IsAmong (static_in targets)) found_by_place found_by_key
      (adds_all old new (value_at targets.entries) count (λ place past. value_past targets.entries count place long past) adds)
