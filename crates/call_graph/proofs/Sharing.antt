-- Lists that are kept once each.
use Rattle.std.proofs.Common.{◌≡◌, ℕ, zero, suc, ◌<◌, Bool, true, false, if◌then◌else◌, List, [], ◌∷◌, ◌++◌, length, map, set, get_or, replicate, slice_get, option_map, Some, Vec, Global, vec_items, All, refl, sym, ap, ◌∙◌, arith}
use Rattle.std.specs.Prelude.{bytes_eq}
use Rattle.std.specs.List.{list_any}
use Rattle.std.proofs.lemmas.List.{map-append, map-set, length-map, get_or_append_left}
use Rattle.std.proofs.lemmas.Option.{get_or_from_slice_get, slice_get-map}
use Rattle.std.proofs.lemmas.Slice.Eq.{bytes_eq-Decides}
use Rattle.indexmap.specs.IndexSet.{insert_key}
use Rattle.call_graph.specs.Lists.{list_at}

map-replicate : {A B : Type 0} (f : A → B) (count : ℕ) (a : A) → map f (replicate count a) ≡ replicate count (f a)
map-replicate f zero a = refl
map-replicate f (suc count) a = ap (λ l. f a ∷ l) (map-replicate f count a)

-- a list that is at an index, or one equal to it
at_index : (lists : List (Vec ℕ Global)) (index : ℕ) (list : Vec ℕ Global) → (found : Vec ℕ Global) × (slice_get lists index ≡ Some found) × (bytes_eq list.items found.items ≡ true) → list_at lists index ≡ list.items
at_index lists index list found =
    let is = sym ((bytes_eq-Decides list.items found.0.items).0 found.2) in
    get_or_from_slice_get (map vec_items lists) index found.0.items [] (slice_get-map vec_items lists index ∙ ap (option_map vec_items) found.1) ∙ is

module _ (lists : List (Vec ℕ Global)) (list : Vec ℕ Global) where
  abbrev more : List (Vec ℕ Global)
  more = insert_key (λ (a b : Vec ℕ Global). bytes_eq a.items b.items) lists list

  stays : (index : ℕ) → index < length lists → list_at more index ≡ list_at lists index
  stays index less = by (list_any (λ (other : Vec ℕ Global). bytes_eq list.items other.items) lists)
    where
      by : (b : Bool) → list_at (if b then lists else lists ++ list ∷ []) index ≡ list_at lists index
      by true = refl
      by false =
          let long = length-map lists vec_items in
          ap (λ l. get_or l index []) (map-append vec_items lists (list ∷ [])) ∙ get_or_append_left (map vec_items lists) (list.items ∷ []) [] index (omega (arith, less, long))

  all_stay : (indices : List ℕ) → All (λ index. index < length lists) indices → map (list_at more) indices ≡ map (list_at lists) indices
  all_stay [] within = refl
  all_stay (index ∷ indices) within = λ i. stays index (within 0 0 (omega arith)) i ∷ all_stay indices (λ k d less. within (suc k) d (omega (arith, less))) i

-- no list but the empty one
pub all_empty : (lists : List (Vec ℕ Global)) (list : Vec ℕ Global) (index count : ℕ) (indices : List ℕ) → list.items ≡ [] → indices ≡ replicate count index
    → (found : Vec ℕ Global) × (slice_get lists index ≡ Some found) × (bytes_eq list.items found.items ≡ true) → map (list_at lists) indices ≡ replicate count []
all_empty lists list index count indices none all found =
    ap (map (list_at lists)) all ∙ (map-replicate (list_at lists) count index ∙ ap (replicate count) (at_index lists index list found ∙ none))

-- one number has another list
pub row_set : (lists new : List (Vec ℕ Global)) (list : Vec ℕ Global) (indices : List ℕ) (number index : ℕ) → All (λ other. other < length lists) indices
    → new ≡ insert_key (λ (a b : Vec ℕ Global). bytes_eq a.items b.items) lists list
    → (found : Vec ℕ Global) × (slice_get new index ≡ Some found) × (bytes_eq list.items found.items ≡ true)
    → map (list_at new) (set indices number index) ≡ set (map (list_at lists) indices) number list.items
row_set lists new list indices number index within is found =
    map-set (list_at new) indices number index
    ∙ (ap (set (map (list_at new) indices) number) (at_index new index list found)
    ∙ ap (λ (l : List (List ℕ)). set l number list.items) (ap (λ l. map (list_at l) indices) is ∙ all_stay lists list indices within))
