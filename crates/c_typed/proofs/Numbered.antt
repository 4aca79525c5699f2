-- The one number of a type.
use Rattle.std.proofs.Common.{◌≡◌, ℕ, ◌+◌, ◌<◌, Bool, true, false, eqb, List, [], ◌∷◌, length, slice_get, Option, Some, None, refl, sym, ap, subst, ◌∙◌, ◌-◌, ◌≤◌, arith, Vec}
use Rattle.std.proofs.lemmas.Bool.{eqb-true}
use Rattle.c_typed.specs.declared.c_type.CType as number
use Rattle.c_typed.specs.declared.c_type.Derived.{Derived}
use Rattle.c_typed.specs.declared.c_type.Derived.TheVariants as D
use Rattle.c_typed.specs.declared.extent.Extent.{Extent}
use Rattle.c_typed.specs.declared.structure.Structure.{Structure}
use Rattle.c_typed.specs.Types.{Void, same_type}
use Rattle.c_typed.specs.Table.{Interned, Meaning, AType, AList, Nothing, IsAType, the_type, meaning_in, meaning_of, base_meaning, pointer_to, array_of, struct_of, function_of, parameter_of, numbered, derived_meaning, Stands, type_in, IsNumberOf}
use Rattle.c_typed.specs.Inside.{IsTable, IsSomething, HaveMeanings, AreApart, interned, is_type_entry, IsTypeNumber}
use Rattle.c_typed.proofs.Apart.{same_numbers, below_nine}
use Rattle.c_typed.proofs.Meanings.{meaning_older}
use Rattle.c_typed.proofs.Reading.{entry_is, entry_something, no_entry}
use Rattle.c_typed.proofs.Same.{same_type-refl}

-- ---- what stands for a type

pub record Tells (table : Interned) : Type 0 where
  pub meanings : HaveMeanings table.tags table.entries
  pub apart : AreApart table.entries
  pub tags_apart : AreApart table.tags

pub number_of_itself : (table : Interned) → Tells table → (t : number.CType) → Stands table t → IsNumberOf table (type_in table t) t
number_of_itself table tells t stands =
    record {
      stands = stands;
      means = refl;
      only = λ other other_stands same.
          let as_one : eqb other.0 t.0 ≡ true =
          same_numbers table.tags table.entries tells.meanings tells.apart tells.tags_apart other.0 t.0 other_stands stands
          ∙ ap (λ c_type. same_type c_type (type_in table t)) same ∙ same_type-refl (type_in table t) in
          let is = eqb-true other.0 t.0 as_one in
          λ i. record { 0 = is i };
    }

-- ---- void

pub base_meaning_in : (tags : List (List ℕ)) (es : List Derived) (n : ℕ) → n < 9 → meaning_in tags es n ≡ base_meaning n
base_meaning_in tags [] n lt = refl
base_meaning_in tags (newest ∷ older) n lt =
    meaning_older tags newest older n (λ (e : n ≡ 9 + length older). absurd (omega arith)) ∙ base_meaning_in tags older n lt

pub base_stands : (n : ℕ) → n < 9 → IsAType (base_meaning n)
base_stands = below_nine (λ n. IsAType (base_meaning n)) tt tt tt tt tt tt tt tt tt

pub void_of : (m : Meaning) → (IsAType m → ⊥) → the_type m ≡ Void
void_of (AType t) none = absurd (none tt)
void_of (AList list) none = refl
void_of Nothing none = refl

abbrev pub void : number.CType
void = record { 0 = 0 }

pub void_for_none : (table : Interned) → Tells table → (t : number.CType) → (Stands table t → ⊥) → IsNumberOf table (type_in table t) void
void_for_none table tells t none =
    let means = base_meaning_in table.tags table.entries 0 (omega arith) in
    let own = number_of_itself table tells void (subst IsAType (sym means) tt) in
    subst (λ c_type. IsNumberOf table c_type void) (ap the_type means ∙ sym (void_of (meaning_of table t.0) none)) own

-- ---- entries that are types

pointer_type : (m : Meaning) → IsSomething (pointer_to m) → IsAType (pointer_to m)
pointer_type (AType t) h = tt
pointer_type (AList ts) h = absurd h
pointer_type Nothing h = absurd h

array_type : (m : Meaning) (n : ℕ) → IsSomething (array_of m n) → IsAType (array_of m n)
array_type (AType t) n h = tt
array_type (AList ts) n h = absurd h
array_type Nothing n h = absurd h

struct_kind : (tag : Option (List ℕ)) → IsSomething (struct_of tag) → IsAType (struct_of tag)
struct_kind (Some tag) h = tt
struct_kind None h = absurd h

function_type : (m l : Meaning) → IsSomething (function_of m l) → IsAType (function_of m l)
function_type (AType t) (AList ts) h = tt
function_type (AType t) (AType t') h = absurd h
function_type (AType t) Nothing h = absurd h
function_type (AList ts) l h = absurd h
function_type Nothing l h = absurd h

parameter_list : (m l : Meaning) → IsAType (parameter_of m l) → ⊥
parameter_list (AType t) (AList ts) h = h
parameter_list (AType t) (AType t') h = h
parameter_list (AType t) Nothing h = h
parameter_list (AList ts) l h = h
parameter_list Nothing l h = h

abbrev IsTypeMeaning : Meaning → Bool → Type 0
IsTypeMeaning m true = IsAType m
IsTypeMeaning m false = IsAType m → ⊥

derived_type : (tags : List (List ℕ)) (f : ℕ → Meaning) (entry : Derived) → IsSomething (derived_meaning tags f entry) → IsTypeMeaning (derived_meaning tags f entry) (is_type_entry entry)
derived_type tags f (D.Pointer target) h = pointer_type (f target.0) h
derived_type tags f (D.Array element n) h = array_type (f element.0) n h
derived_type tags f (D.Struct id) h = struct_kind (numbered tags id.0) h
derived_type tags f (D.Function returned ps) h = function_type (f returned.0) (f ps.0) h
derived_type tags f D.NoParameters h = λ is. is
derived_type tags f (D.Parameter first others) h = parameter_list (f first.0) (f others.0)

as_number : (table : Interned) (n : ℕ) (m : Meaning) (is : Bool) → meaning_of table n ≡ m → IsTypeMeaning m is → IsTypeNumber table n is
as_number table n m true e h = subst IsAType (sym e) h
as_number table n m false e h = λ stands. h (subst IsAType e stands)

pub entry_type : (table : Interned) (n : ℕ) (entry : Derived) → meaning_of table n ≡ derived_meaning table.tags (meaning_of table) entry
    → IsSomething (derived_meaning table.tags (meaning_of table) entry) → IsTypeNumber table n (is_type_entry entry)
entry_type table n entry e h = as_number table n _ (is_type_entry entry) e (derived_type table.tags (meaning_of table) entry h)

pub nothing_no_type : (table : Interned) (n : ℕ) → meaning_of table n ≡ Nothing → IsTypeNumber table n false
nothing_no_type table n e = λ stands. subst IsAType e stands

-- ---- numbers of types

pub below_nine_number : (table : Interned) → Tells table → (t : number.CType) → t.0 < 9 → IsNumberOf table (type_in table t) t
below_nine_number table tells t lt = number_of_itself table tells t (subst IsAType (sym (base_meaning_in table.tags table.entries t.0 lt)) (base_stands t.0 lt))

abbrev KnownEntry : Interned → number.CType → Bool → Type 0
KnownEntry table t true = IsNumberOf table (type_in table t) t
KnownEntry table t false = IsNumberOf table (type_in table t) void

known_entry : (table : Interned) → Tells table → (t : number.CType) (is : Bool) → IsTypeNumber table t.0 is → KnownEntry table t is
known_entry table tells t true stands = number_of_itself table tells t stands
known_entry table tells t false none = void_for_none table tells t none

module _ {Z : Type 0} (entries : List (Derived × Extent)) (tags : List (Vec ℕ Z × Option ℕ)) (structures : List Structure) (known : IsTable entries tags structures) where
  abbrev pub table : Interned
  table = interned entries tags structures

  tells : Tells table
  tells = record { meanings = known.meanings; apart = known.apart; tags_apart = known.tags_apart }

  pub base_number_of : (t : number.CType) → t.0 < 9 → IsNumberOf table (type_in table t) t
  base_number_of t lt = below_nine_number table tells t lt

  known_by : (t : number.CType) → 9 ≤ t.0 → (kept : Derived × Extent) → slice_get entries (t.0 - 9) ≡ Some kept → IsTypeNumber table t.0 (is_type_entry kept.0)
  known_by t le kept at = entry_type table t.0 kept.0 (entry_is entries tags structures known t.0 le kept at) (entry_something entries tags structures known t.0 le kept at)

  pub entry_number_of : (t : number.CType) → 9 ≤ t.0 → (kept : Derived × Extent) → slice_get entries (t.0 - 9) ≡ Some kept → is_type_entry kept.0 ≡ true → IsNumberOf table (type_in table t) t
  entry_number_of t le kept at is = known_entry table tells t true (subst (IsTypeNumber table t.0) is (known_by t le kept at))

  pub list_number_of : (t : number.CType) → 9 ≤ t.0 → (kept : Derived × Extent) → slice_get entries (t.0 - 9) ≡ Some kept → is_type_entry kept.0 ≡ false → IsNumberOf table (type_in table t) void
  list_number_of t le kept at is = known_entry table tells t false (subst (IsTypeNumber table t.0) is (known_by t le kept at))

  pub no_number_of : (t : number.CType) → 9 ≤ t.0 → slice_get entries (t.0 - 9) ≡ None → IsNumberOf table (type_in table t) void
  no_number_of t le none = void_for_none table tells t (nothing_no_type table t.0 (no_entry entries tags structures known t.0 le none))
