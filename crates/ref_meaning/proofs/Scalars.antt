-- Places and contents that point to nothing.
use Rattle.std.proofs.Common.{◌≡◌, ℕ, ◌+◌, eqb, List, [], ◌∷◌, length, Some, arith, refl, sym, ap, subst, ◌∙◌}
use Rattle.std.proofs.lemmas.Bool.{cond-false, ne_eqb}
use Rattle.c_typed.specs.declared.c_type.Derived.{Derived}
use Rattle.c_typed.specs.declared.c_type.CType as number
use Rattle.c_typed.specs.Table.{Interned, AType, IsAType, meaning_in, meaning_of, Stands, the_type}
use Rattle.c_typed.specs.Types.{Void}
use Rattle.ref_semantics.specs.Values.{Content, no_row, place_of, first_of_row, Heap}
use Rattle.ref_semantics.specs.Store.{row_of}
use Rattle.ref_meaning.specs.declared.object.Content.TheVariants as C
use Rattle.ref_meaning.specs.declared.value.Row as memory_row
use Rattle.ref_meaning.specs.declared.value.Place as memory_place
use Rattle.ref_meaning.specs.declared.value.Scalar as memory_scalar
use Rattle.ref_meaning.specs.declared.value.Scalar.TheVariants as M
use Rattle.ref_meaning.specs.declared.value.Name.TheVariants as N
use Rattle.ref_meaning.specs.RefStore.Views.{row_in, place_in, scalar_in}
use Rattle.ref_meaning.specs.declared.object.Elements as memory_elements
use Rattle.ref_meaning.specs.Fitting.{ElementsStand}
use Rattle.ref_meaning.specs.RefStore.Holding.{ContentIs, raw, elements}

abbrev pub void : number.CType
void = record { 0 = 0 }

abbrev pub nothing : memory_row.Row
nothing = record { start = 0; c_type = void; count = 0 }

-- ---- `void` is in every table

void_in : (tags : List (List ℕ)) (entries : List Derived) → meaning_in tags entries 0 ≡ AType Void
void_in tags [] = refl
void_in tags (newest ∷ older) = cond-false (eqb 0 (9 + length older)) _ (meaning_in tags older 0) (ne_eqb 0 (9 + length older) (λ e. omega (arith, e))) ∙ void_in tags older

pub void_means : (table : Interned) → meaning_of table 0 ≡ AType Void
void_means table = void_in table.tags table.entries

pub void_stands : (table : Interned) → Stands table void
void_stands table = subst IsAType (sym (void_means table)) tt

pub nothing_means : (table : Interned) → row_in table nothing ≡ no_row
nothing_means table = λ i. record { start = 0; c_type = the_type (void_means table i); count = 0 }

-- ---- what scalars point to

-- that of a scalar that is no pointer to a place
pub no_place : (table : Interned) (value : memory_scalar.Scalar) → ((place : memory_place.Place) → value ≡ M.Pointer place → ⊥) → ((number : ℕ) → value ≡ M.Raw number → ⊥)
    → place_in table (record { name = N.Heap 0; row = nothing; index = 0 }) ≡ place_of (scalar_in table value)
no_place table (M.Pointer place) not_pointer not_raw = absurd (not_pointer place refl)
no_place table (M.Raw number) not_pointer not_raw = absurd (not_raw number refl)
no_place table (M.Integer value) not_pointer not_raw = ap (first_of_row (Heap 0)) (nothing_means table)
no_place table M.Null not_pointer not_raw = ap (first_of_row (Heap 0)) (nothing_means table)
no_place table (M.Function name) not_pointer not_raw = ap (first_of_row (Heap 0)) (nothing_means table)

-- ---- rows of contents

pub raw_row : (table : Interned) (content : Content) (size : ℕ) → ContentIs table (Some (C.Raw size)) content → row_in table nothing ≡ row_of content
raw_row table content size (raw bytes) = nothing_means table

pub elements_stand : (table : Interned) (content : Content) (made : memory_elements.Elements) → ContentIs table (Some (C.Elements made)) content → ElementsStand table made.c_type made.count
elements_stand table content made (elements _ held stands all) = stands
