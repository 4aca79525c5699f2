-- What a table's fields say of its types.
use Rattle.std.proofs.Common.{◌≡◌, ℕ, zero, suc, ◌+◌, ◌-◌, ◌<◌, ◌≤◌, Bool, true, false, List, [], ◌∷◌, length, reverse, map, slice_get, Option, Some, None, refl, sym, ap, subst, ◌∙◌, arith, ◌⊎◌, inl, inr, Vec}
use Rattle.std.specs.Prelude.{option_map}
use Rattle.std.proofs.lemmas.Bool.{false≢true}
use Rattle.std.proofs.lemmas.Option.{none-some, same_Some, slice_get-map, slice_get_within}
use Rattle.c_typed.specs.declared.c_type.StructId as tag
use Rattle.c_typed.specs.declared.c_type.Derived.{Derived}
use Rattle.c_typed.specs.declared.c_type.Derived.TheVariants as D
use Rattle.c_typed.specs.declared.c_type.Shape.TheVariants as S
use Rattle.c_typed.specs.declared.extent.Extent.{Extent}
use Rattle.c_typed.specs.declared.structure.Structure.{Structure}
use Rattle.c_typed.specs.Types.{CType, Void, Integer, Pointer, Array, Struct, Function, is_array}
use Rattle.c_typed.specs.Extents.{extent_layout}
use Rattle.c_typed.specs.Layouts.{StructDef, layout_of, members_by_tag, is_complete}
use Rattle.c_typed.specs.Table.{Interned, Meaning, AType, AList, Nothing, base_meaning, pointer_to, array_of, struct_of, function_of, parameter_of, meaning_in, meaning_of, derived_meaning, numbered, the_tag, the_type, structs_in, IsAType, IsAList, HasShape, tag_in}
use Rattle.c_typed.specs.Inside.{IsSomething, is_sized, HasExtent, struct_entries, completed_index, types_of, tags_of, interned, IsTable, EntryIs, IsStructure}
use Rattle.c_typed.proofs.Meanings.{entry-means, base_or_entry, IsBase, IsEntry, meaning-below, numbered-below}
use Rattle.c_typed.proofs.Apart.{type-something, type-is, below_nine}
use Rattle.c_typed.proofs.Lists.{numbered-reverse}
use Rattle.c_typed.proofs.Growth.{sized-type, length-types}
use Rattle.c_typed.proofs.Structures.{structure_there, not_completed}

-- ---- the types that are in every table

module _ (table : Interned) (n : ℕ) where
  pub base_means : IsSomething (meaning_of table n) → n < 9 → meaning_of table n ≡ base_meaning n
  base_means h lt = by (base_or_entry table.tags table.entries n h)
    where
      by : IsBase table.tags table.entries n ⊎ IsEntry table.tags table.entries n → meaning_of table n ≡ base_meaning n
      by (inl base) = base.means
      by (inr found) = let e = found.number in absurd (omega arith)

  pub derived_number : (test : Meaning → Bool) → ((k : ℕ) → k < 9 → test (base_meaning k) ≡ false) → IsSomething (meaning_of table n) → test (meaning_of table n) ≡ true → 9 ≤ n
  derived_number test fails h passes = by (base_or_entry table.tags table.entries n h)
    where
      by : IsBase table.tags table.entries n ⊎ IsEntry table.tags table.entries n → 9 ≤ n
      by (inl base) = absurd (false≢true (sym (fails n base.below) ∙ ap test (sym base.means) ∙ passes))
      by (inr found) = let e = found.number in omega arith

abbrev is_array_type : Meaning → Bool
is_array_type m = is_array (the_type m)

abbrev is_list : Meaning → Bool
is_list (AList ts) = true
is_list _ = false

pub array_number : (table : Interned) (n : ℕ) → IsAType (meaning_of table n) → is_array (the_type (meaning_of table n)) ≡ true → 9 ≤ n
array_number table n h e =
    derived_number table n is_array_type (below_nine (λ k. is_array_type (base_meaning k) ≡ false) refl refl refl refl refl refl refl refl refl)
    (type-something (meaning_of table n) h) e

pub list_number : (table : Interned) (n : ℕ) → IsAList (meaning_of table n) → 9 ≤ n
list_number table n h = by (meaning_of table n) refl h
  where
    by : (m : Meaning) → meaning_of table n ≡ m → IsAList m → 9 ≤ n
    by (AType t) e h = absurd h
    by Nothing e h = absurd h
    by (AList ts) e h =
        derived_number table n is_list (below_nine (λ k. is_list (base_meaning k) ≡ false) refl refl refl refl refl refl refl refl refl)
        (subst IsSomething (sym e) tt) (ap is_list e)

-- ---- entries

none_past_end : {A : Type 0} (xs : List A) (n : ℕ) → slice_get xs n ≡ None → length xs ≤ n
none_past_end [] n e = omega arith
none_past_end (x ∷ xs) zero e = absurd (none-some x (sym e))
none_past_end (x ∷ xs) (suc n) e = let le = none_past_end xs n e in omega arith

nothing_from : (m : Meaning) → (IsSomething m → ⊥) → m ≡ Nothing
nothing_from (AType t) h = absurd (h tt)
nothing_from (AList ts) h = absurd (h tt)
nothing_from Nothing h = refl

-- an entry of another kind is no array
module _ (tags : List (List ℕ)) (f : ℕ → Meaning) where
  no_pointer_array : (m : Meaning) → is_array (the_type (pointer_to m)) ≡ false
  no_pointer_array (AType t) = refl
  no_pointer_array (AList ts) = refl
  no_pointer_array Nothing = refl

  no_struct_array : (o : Option (List ℕ)) → is_array (the_type (struct_of o)) ≡ false
  no_struct_array (Some tag) = refl
  no_struct_array None = refl

  no_function_array : (m l : Meaning) → is_array (the_type (function_of m l)) ≡ false
  no_function_array (AType t) (AList ts) = refl
  no_function_array (AType t) (AType t') = refl
  no_function_array (AType t) Nothing = refl
  no_function_array (AList ts) l = refl
  no_function_array Nothing l = refl

  no_parameter_array : (m l : Meaning) → is_array (the_type (parameter_of m l)) ≡ false
  no_parameter_array (AType t) (AList ts) = refl
  no_parameter_array (AType t) (AType t') = refl
  no_parameter_array (AType t) Nothing = refl
  no_parameter_array (AList ts) l = refl
  no_parameter_array Nothing l = refl

-- the layout that is kept with an array is its layout
kept_layout : (table : Interned) (n : ℕ) (entry : Derived) (extent : Extent) → EntryIs table n (Some entry) → is_array (the_type (meaning_of table n)) ≡ true
    → HasExtent table entry extent → extent_layout extent ≡ layout_of (structs_in table) (the_type (meaning_of table n))
kept_layout table n (D.Array element long) extent means array h =
    let stands = sized-type (structs_in table) (meaning_of table element.0) h.0 in
    let is : the_type (meaning_of table n) ≡ Array (the_type (meaning_of table element.0)) long =
    ap the_type means ∙ ap (λ m. the_type (array_of m long)) (type-is (meaning_of table element.0) stands) in
    h.1 ∙ ap (layout_of (structs_in table)) (sym is)
kept_layout table n (D.Pointer t) extent means array h =
    absurd (false≢true (sym (no_pointer_array table.tags (meaning_of table) (meaning_of table t.0)) ∙ ap (λ m. is_array (the_type m)) (sym means) ∙ array))
kept_layout table n (D.Struct id) extent means array h =
    absurd (false≢true (sym (no_struct_array table.tags (meaning_of table) (numbered table.tags id.0)) ∙ ap (λ m. is_array (the_type m)) (sym means) ∙ array))
kept_layout table n (D.Function t ps) extent means array h =
    absurd (false≢true (sym (no_function_array table.tags (meaning_of table) (meaning_of table t.0) (meaning_of table ps.0)) ∙ ap (λ m. is_array (the_type m)) (sym means) ∙ array))
kept_layout table n D.NoParameters extent means array h = absurd (false≢true (ap (λ m. is_array (the_type m)) (sym means) ∙ array))
kept_layout table n (D.Parameter t ps) extent means array h =
    absurd (false≢true (sym (no_parameter_array table.tags (meaning_of table) (meaning_of table t.0) (meaning_of table ps.0)) ∙ ap (λ m. is_array (the_type m)) (sym means) ∙ array))

-- and its size is known to the last element
kept_sized : (table : Interned) (n : ℕ) (entry : Derived) (extent : Extent) → EntryIs table n (Some entry) → is_array (the_type (meaning_of table n)) ≡ true
    → HasExtent table entry extent → is_sized (structs_in table) (the_type (meaning_of table n)) ≡ true
kept_sized table n (D.Array element long) extent means array h =
    let stands = sized-type (structs_in table) (meaning_of table element.0) h.0 in
    let is : the_type (meaning_of table n) ≡ Array (the_type (meaning_of table element.0)) long =
    ap the_type means ∙ ap (λ m. the_type (array_of m long)) (type-is (meaning_of table element.0) stands) in
    ap (is_sized (structs_in table)) is ∙ h.0
kept_sized table n (D.Pointer t) extent means array h =
    absurd (false≢true (sym (no_pointer_array table.tags (meaning_of table) (meaning_of table t.0)) ∙ ap (λ m. is_array (the_type m)) (sym means) ∙ array))
kept_sized table n (D.Struct id) extent means array h =
    absurd (false≢true (sym (no_struct_array table.tags (meaning_of table) (numbered table.tags id.0)) ∙ ap (λ m. is_array (the_type m)) (sym means) ∙ array))
kept_sized table n (D.Function t ps) extent means array h =
    absurd (false≢true (sym (no_function_array table.tags (meaning_of table) (meaning_of table t.0) (meaning_of table ps.0)) ∙ ap (λ m. is_array (the_type m)) (sym means) ∙ array))
kept_sized table n D.NoParameters extent means array h = absurd (false≢true (ap (λ m. is_array (the_type m)) (sym means) ∙ array))
kept_sized table n (D.Parameter t ps) extent means array h =
    absurd (false≢true (sym (no_parameter_array table.tags (meaning_of table) (meaning_of table t.0) (meaning_of table ps.0)) ∙ ap (λ m. is_array (the_type m)) (sym means) ∙ array))

-- of other types the size is known to the last element where it is known at all
pub sized_unless_array : (structs : List StructDef) (t c_type : CType) → t ≡ c_type → is_array c_type ≡ false → is_complete structs t ≡ true → is_sized structs t ≡ true
sized_unless_array structs t c_type e other h = ap (is_sized structs) e ∙ by c_type other (ap (is_complete structs) (sym e) ∙ h)
  where
    by : (c_type : CType) → is_array c_type ≡ false → is_complete structs c_type ≡ true → is_sized structs c_type ≡ true
    by Void other h = h
    by (Integer t) other h = h
    by (Pointer t) other h = h
    by (Array t n) other h = absurd (false≢true (sym other))
    by (Struct tag) other h = h
    by (Function t ts) other h = h

module _ {Z : Type 0} (entries : List (Derived × Extent)) (tags : List (Vec ℕ Z × Option ℕ)) (structures : List Structure)
    (table : IsTable entries tags structures) where
  entry_at : (n : ℕ) (kept : Derived × Extent) → slice_get entries n ≡ Some kept → numbered (types_of entries) n ≡ Some kept.0
  entry_at n kept at =
      numbered-reverse (map (λ (e : Derived × Extent). e.0) entries) n
      ∙ slice_get-map (λ (e : Derived × Extent). e.0) entries n
      ∙ ap (option_map (λ (e : Derived × Extent). e.0)) at

  pub entry_is : (n : ℕ) → 9 ≤ n → (kept : Derived × Extent) → slice_get entries (n - 9) ≡ Some kept → EntryIs (interned entries tags structures) n (Some kept.0)
  entry_is n le kept at =
      let number : 9 + (n - 9) ≡ n = omega arith in
      ap (meaning_in (tags_of tags) (types_of entries)) (sym number)
      ∙ (entry-means (tags_of tags) (types_of entries) (n - 9) kept.0 table.meanings (entry_at (n - 9) kept at)).0

  pub no_entry : (n : ℕ) → 9 ≤ n → slice_get entries (n - 9) ≡ None → EntryIs (interned entries tags structures) n None
  no_entry n le none =
      let past = none_past_end entries (n - 9) none in
      let long = length-types entries tags structures table in
      nothing_from (meaning_in (tags_of tags) (types_of entries) n) (λ h. let lt = meaning-below (tags_of tags) (types_of entries) n h in absurd (omega arith))

  pub entry_something : (n : ℕ) → 9 ≤ n → (kept : Derived × Extent) → slice_get entries (n - 9) ≡ Some kept → IsSomething (derived_meaning (tags_of tags) (meaning_in (tags_of tags) (types_of entries)) kept.0)
  entry_something n le kept at = (entry-means (tags_of tags) (types_of entries) (n - 9) kept.0 table.meanings (entry_at (n - 9) kept at)).1

  pub array_layout : (n : ℕ) → 9 ≤ n → is_array (the_type (meaning_of (interned entries tags structures) n)) ≡ true → (kept : Derived × Extent) → slice_get entries (n - 9) ≡ Some kept
      → extent_layout kept.1 ≡ layout_of (structs_in (interned entries tags structures)) (the_type (meaning_of (interned entries tags structures) n))
  array_layout n le array kept at =
      kept_layout (interned entries tags structures) n kept.0 kept.1 (entry_is n le kept at) array (table.extents (n - 9) kept at)

  pub array_sized : (n : ℕ) → 9 ≤ n → is_array (the_type (meaning_of (interned entries tags structures) n)) ≡ true → (kept : Derived × Extent) → slice_get entries (n - 9) ≡ Some kept
      → is_sized (structs_in (interned entries tags structures)) (the_type (meaning_of (interned entries tags structures) n)) ≡ true
  array_sized n le array kept at =
      kept_sized (interned entries tags structures) n kept.0 kept.1 (entry_is n le kept at) array (table.extents (n - 9) kept at)

-- ---- shapes

pub struct_shape : (table : Interned) (n : ℕ) (id : tag.StructId) → IsAType (meaning_of table n) → meaning_of table n ≡ struct_of (numbered table.tags id.0)
    → HasShape table (the_type (meaning_of table n)) (S.Struct id)
struct_shape table n id h e = by (numbered table.tags id.0) refl
  where
    by : (o : Option (List ℕ)) → numbered table.tags id.0 ≡ o → HasShape table (the_type (meaning_of table n)) (S.Struct id)
    by (Some tag) at = record {
      means = ap the_type (e ∙ ap struct_of at) ∙ ap (λ o. Struct (the_tag o)) (sym at);
      parts = numbered-below table.tags id.0 tag at;
    }
    by None at = absurd (subst IsAType (e ∙ ap struct_of at) h)

-- ---- structures

module _ {Z : Type 0} (entries : List (Derived × Extent)) (tags : List (Vec ℕ Z × Option ℕ)) (structures : List Structure)
    (table : IsTable entries tags structures) (id : tag.StructId) (lt : id.0 < length (tags_of tags)) where
  pub structure_is : (n : ℕ) → completed_index (struct_entries (reverse structures)) id.0 ≡ Some n → (s : Structure) → slice_get structures n ≡ Some s
      → IsStructure (interned entries tags structures) id s
  structure_is n some s at =
      let found = structure_there (tags_of tags) (types_of entries) table.tags_apart (reverse structures) table.placed id.0 lt n some in
      let same : found.structure ≡ s = same_Some found.structure s (sym found.at ∙ numbered-reverse structures n ∙ at) in
      let facts = found.facts in
      subst (IsStructure (interned entries tags structures) id) same
      (record { members = facts.members; extent = facts.extent; stand = facts.stand; slots = facts.slots; offsets = facts.offsets; numbers = facts.numbers })

  pub structure_within : (n : ℕ) → completed_index (struct_entries (reverse structures)) id.0 ≡ Some n → n < length structures
  structure_within n some =
      let found = structure_there (tags_of tags) (types_of entries) table.tags_apart (reverse structures) table.placed id.0 lt n some in
      slice_get_within structures n found.structure (sym (numbered-reverse structures n) ∙ found.at)

  pub no_structure : completed_index (struct_entries (reverse structures)) id.0 ≡ None
      → members_by_tag (structs_in (interned entries tags structures)) (tag_in (interned entries tags structures) id) ≡ None
  no_structure none = not_completed (tags_of tags) (types_of entries) table.tags_apart (reverse structures) table.placed id.0 lt none

-- ---- what stands is something

pub nothing_stands : (m : Meaning) → IsAType m → m ≡ Nothing → ⊥
nothing_stands m h e = subst IsAType e h
