-- What the type of an expression for an object tells of its parts: names that are there, locals that lie in memory, and what the code
-- of its parts comes to.
use Rattle.std.proofs.Common.{◌≡◌, ℕ, zero, suc, Bool, true, false, ◌&&◌, ◌||◌, ◌==◌, if◌then◌else◌, List, [], ◌∷◌, length, Option, Some, None, is_some, refl, sym, ap, ◌∙◌, subst, bytes_eq, ◌⊎◌, inl, inr}
use Rattle.std.proofs.lemmas.Bool.{false≢true, true≢false}
use Rattle.std.proofs.lemmas.Option.{none-some, same_Some}
use Rattle.run_theory.specs.declared.place.Pos.{Pos}
use Rattle.c_num.specs.declared.IntType.{IntType}
use Rattle.c_typed.specs.Types.{CType, Void, Integer, Pointer, Array, Struct, Function, is_integer, is_void, is_array, is_struct}
use Rattle.c_typed.specs.Places.{is_same_place}
use Rattle.c_typed.specs.Layouts.{StructDef, is_complete}
use Rattle.c_typed.specs.Table.{Interned, Meaning, AType, AList, Nothing, meaning_of, IsAType, the_type, Stands}
use Rattle.c_typed.specs.Typed as T
use Rattle.c_typed.specs.Typed.{Program, Value, Object, GlobalDef, LiteralDef}
use Rattle.c_typed.specs.Context.{local_type, global_type, literal_bytes}
use Rattle.c_typed.specs.Expressions.{given, element, pointed, member_of, type_of_object}
use Rattle.c_typed.proofs.Splitting.{given_parts}
use Rattle.tac_ir.specs.First.{named_global, placed_literal}
use Rattle.tac_build.specs.declared.lowered.Lowered as memory_lowered
use Rattle.tac_build.specs.declared.lowered.Lowered.TheVariants as L
use Rattle.tac_build.specs.declared.lowered.Place.{Place}
use Rattle.tac_build.specs.Homes.{Home, Scope, home_of, in_register, register_home, home_behind, names_local, names_behind, takes, takes_in}
use Rattle.tac_build.specs.Spots.{Lowered, AsObject, Kept, Row}
use Rattle.tac_build.specs.Code.{type_of_member}
use Rattle.tac_build.specs.Forms.{scope_types, context_of, HasForm, HasObjectForm}
use Rattle.tac_build.specs.Building.{lowered_in, place_in, IsInteger, IsObject, IsArrayType, IsRow}
use Rattle.tac_build.specs.Lowering.{LoweredHolds}
use Rattle.tac_build.proofs.Everywhere.{stands_everywhere}
use Rattle.tac_build.proofs.Forms.{home_type}

-- ---- names that have a type are there

types_count : (scope : Scope) → length (scope_types scope) ≡ length scope
types_count [] = refl
types_count (newest ∷ others) = ap suc (types_count others)

pub typed_home : (scope : Scope) (number : ℕ) (t : CType) → local_type (scope_types scope) number ≡ Some t → (home : Home) × (home_of scope number ≡ Some home)
typed_home [] number t typed = absurd (none-some t typed)
typed_home (newest ∷ others) number t typed =
    by (length others == number) (subst (λ n. (if n == number then Some newest.c_type else local_type (scope_types others) number) ≡ Some t) (types_count others) typed) (typed_home others number t)
  where
    by : (b : Bool) → (if b then Some newest.c_type else local_type (scope_types others) number) ≡ Some t
        → (local_type (scope_types others) number ≡ Some t → (home : Home) × (home_of others number ≡ Some home)) → (home : Home) × ((if b then Some newest else home_of others number) ≡ Some home)
    by true typed rest = (newest, refl)
    by false typed rest = rest typed

pub typed_global : (globals : List GlobalDef) (name : List ℕ) (from : ℕ) (t : CType) → global_type globals name ≡ Some t → is_some (named_global from globals name) ≡ true
typed_global [] name from t typed = absurd (none-some t typed)
typed_global (first ∷ others) name from t typed = by (bytes_eq first.name name) typed (typed_global others name (suc from) t)
  where
    by : (b : Bool) → (if b then Some first.c_type else global_type others name) ≡ Some t → (global_type others name ≡ Some t → is_some (named_global (suc from) others name) ≡ true)
        → is_some (if b then Some (from, first) else named_global (suc from) others name) ≡ true
    by true typed rest = refl
    by false typed rest = rest typed

listed_literal : (literals : List LiteralDef) (place : Pos) (from : ℕ) (bytes : List ℕ) → literal_bytes literals place ≡ Some bytes → is_some (placed_literal from literals place) ≡ true
listed_literal [] place from bytes listed = absurd (none-some bytes listed)
listed_literal (first ∷ others) place from bytes listed = by (is_same_place first.place place) listed (listed_literal others place (suc from) bytes)
  where
    by : (b : Bool) → (if b then Some first.bytes else literal_bytes others place) ≡ Some bytes → (literal_bytes others place ≡ Some bytes → is_some (placed_literal (suc from) others place) ≡ true)
        → is_some (if b then Some (from, first) else placed_literal (suc from) others place) ≡ true
    by true listed rest = refl
    by false listed rest = rest listed

pub typed_literal : (literals : List LiteralDef) (place : Pos) (rule : List ℕ → Option CType) (t : CType) → given (literal_bytes literals place) rule ≡ Some t → is_some (placed_literal 0 literals place) ≡ true
typed_literal literals place rule t typed = let parts = given_parts (literal_bytes literals place) rule t typed in listed_literal literals place 0 parts.0 parts.1

-- ---- locals in registers and in memory

pub in_memory_is : (found : Option Home) (home : Home) → in_register found ≡ None → found ≡ Some home → home.is_object ≡ true
in_memory_is None home none at = absurd (none-some home at)
in_memory_is (Some found) home none at = ap (λ (h : Home). h.is_object) (sym (same_Some found home at)) ∙ by found.is_object refl none
  where
    by : (b : Bool) → found.is_object ≡ b → (if b then None else Some found) ≡ None → found.is_object ≡ true
    by true e none = e
    by false e none = absurd (none-some found (sym none))

register_parts : (found : Option Home) (home : Home) → in_register found ≡ Some home → (found ≡ Some home) × (home.is_object ≡ false)
register_parts None home at = absurd (none-some home at)
register_parts (Some found) home at = by found.is_object refl at
  where
    by : (b : Bool) → found.is_object ≡ b → (if b then None else Some found) ≡ Some home → (Some found ≡ Some home) × (home.is_object ≡ false)
    by true e at = absurd (none-some home at)
    by false e at = (at, ap (λ (h : Home). h.is_object) (sym (same_Some found home at)) ∙ e)

mutual
  home_found : (scope : Scope) (object : Object) (home : Home) → register_home scope object ≡ Some home → (number : ℕ) × (home_of scope number ≡ Some home) × (home.is_object ≡ false)
  home_found scope (T.Local number) home at = let parts = register_parts (home_of scope number) home at in (number, parts.0, parts.1)
  home_found scope (T.GroupedObject place inner) home at = home_found scope inner home at
  home_found scope (T.Pointed place pointer) home at = behind_found scope pointer home at
  home_found scope object home at = absurd (none-some home at)

  behind_found : (scope : Scope) (v : Value) (home : Home) → home_behind scope v ≡ Some home → (number : ℕ) × (home_of scope number ≡ Some home) × (home.is_object ≡ false)
  behind_found scope (T.Grouped inner) home at = behind_found scope inner home at
  behind_found scope (T.AddressOf place object) home at = home_found scope object home at
  behind_found scope v home at = absurd (none-some home at)

-- arrays and structures lie in memory
abbrev pub MustLie : Scope → Type 0
MustLie scope = (number : ℕ) (home : Home) → home_of scope number ≡ Some home → (is_array home.c_type || is_struct home.c_type) ≡ true → home.is_object ≡ true

pub lies : (program : Program) (scope : Scope) → MustLie scope → (object : Object) (t : CType) → type_of_object (context_of program scope) object ≡ Some t → (is_array t || is_struct t) ≡ true
    → register_home scope object ≡ None
lies program scope lie object t typed kind = by (register_home scope object) refl
  where
    by : (found : Option Home) → register_home scope object ≡ found → register_home scope object ≡ None
    by None e = e
    by (Some home) e =
        let found = home_found scope object home e in
        let same : t ≡ home.c_type = home_type program [] scope object home t e typed in
        absurd (true≢false (sym (lie found.0 home found.1 (subst (λ u. (is_array u || is_struct u) ≡ true) same kind)) ∙ found.2))

-- what has a member is a structure
pub has_member : (structs : List StructDef) (number : ℕ) (u t : CType) → member_of structs number u ≡ Some t → ((is_array u || is_struct u) ≡ true) × (type_of_member structs u number ≡ Some t)
has_member structs number (Struct tag) t is = (refl, is)
has_member structs number Void t is = absurd (none-some t is)
has_member structs number (Integer n) t is = absurd (none-some t is)
has_member structs number (Pointer target) t is = absurd (none-some t is)
has_member structs number (Array u count) t is = absurd (none-some t is)
has_member structs number (Function u us) t is = absurd (none-some t is)

-- ---- locals whose address is taken

-- a pointer that is kept takes the address of the local that it names, too
pub takes_kept : (number : ℕ) (v : Value) → takes false number v ≡ true → (takes true number v ≡ true) ⊎ (names_behind number v ≡ true)
takes_kept number (T.Grouped inner) taken = takes_kept number inner taken
takes_kept number (T.AddressOf place object) taken = by (names_local number object) refl taken
  where
    by : (b : Bool) → names_local number object ≡ b → ((true && b) || takes_in number object) ≡ true → (takes_in number object ≡ true) ⊎ (names_local number object ≡ true)
    by true e taken = inr e
    by false e taken = inl taken
takes_kept number v taken = inl taken

-- ---- kinds

pub element_integer : (structs : List StructDef) (u number t : CType) → element structs u number ≡ Some t → is_integer number ≡ true
element_integer structs u number t is = by (is_integer number) is
  where
    by : (b : Bool) → (if b then pointed structs u else None) ≡ Some t → b ≡ true
    by true is = refl
    by false is = absurd (none-some t is)

pub integer_kept : (table : Interned) (lowered : memory_lowered.Lowered) (t : CType) → is_integer t ≡ true → HasForm Kept (lowered_in table lowered) t → IsInteger lowered
integer_kept table (L.Integer own tree) t kind form = tt
integer_kept table (L.Pointer register target) t kind form = absurd (false≢true (ap is_integer (sym form) ∙ kind))
integer_kept table (L.Object path own) t kind form = absurd form
integer_kept table L.Nothing t kind form = absurd (false≢true (ap is_integer (sym form) ∙ kind))

not_integer : (t : CType) (own : IntType) → Pointer t ≡ Integer own → ⊥
not_integer t own e = cc

not_void : (t : CType) → Pointer t ≡ Void → ⊥
not_void t e = cc

pub row_of : (table : Interned) (lowered : memory_lowered.Lowered) (followed : Bool) (t : CType) → HasForm (Row followed) (lowered_in table lowered) (Pointer t) → LoweredHolds table lowered → IsRow table lowered
row_of table (L.Integer own tree) followed t form holds = absurd (not_integer t own form)
row_of table (L.Pointer register target) followed t form holds = tt
row_of table (L.Object path own) followed t form holds = (holds, subst IsArrayType (sym form.2) tt)
row_of table L.Nothing followed t form holds = absurd (not_void t form)

pub object_found : (table : Interned) (lowered : memory_lowered.Lowered) (t : CType) → HasObjectForm false (lowered_in table lowered) t → IsObject lowered
object_found table (L.Integer own tree) t form = absurd form
object_found table (L.Pointer register target) t form = absurd form
object_found table (L.Object path own) t form = tt
object_found table L.Nothing t form = absurd form

-- a number that stands for a type that isn't void stands for a type
pub meaning_stands : (meaning : Meaning) → is_void (the_type meaning) ≡ false → IsAType meaning
meaning_stands (AType t) some = tt
meaning_stands (AList ts) some = absurd (true≢false some)
meaning_stands Nothing some = absurd (true≢false some)

pub complete_not_void : (structs : List StructDef) (t : CType) → is_complete structs t ≡ true → is_void t ≡ false
complete_not_void structs Void complete = absurd (false≢true complete)
complete_not_void structs (Integer n) complete = refl
complete_not_void structs (Pointer target) complete = refl
complete_not_void structs (Array u count) complete = refl
complete_not_void structs (Struct tag) complete = refl
complete_not_void structs (Function u us) complete = refl

-- the types in what a complete object comes to are in the table
pub complete_holds : (table : Interned) (structs : List StructDef) (is_kept : Bool) (lowered : memory_lowered.Lowered) (t : CType) → is_complete structs t ≡ true → HasObjectForm is_kept (lowered_in table lowered) t
    → LoweredHolds table lowered
complete_holds table structs is_kept (L.Integer own tree) t complete form = tt
complete_holds table structs true (L.Pointer register target) t complete form = meaning_stands (meaning_of table target.0) (ap is_void (sym form) ∙ complete_not_void structs t complete)
complete_holds table structs false (L.Pointer register target) t complete form = absurd form
complete_holds table structs is_kept (L.Object path own) t complete form = meaning_stands (meaning_of table own.0) (ap is_void (sym form) ∙ complete_not_void structs t complete)
complete_holds table structs is_kept L.Nothing t complete form = tt

-- ---- objects of which the path is taken

abbrev type_at : Lowered → CType
type_at (AsObject path c_type) = c_type
type_at _ = Void

pub place_stands : (lowered : memory_lowered.Lowered) (place : Place) → ((table : Interned) → lowered_in table lowered ≡ place_in table place) → (table : Interned) → LoweredHolds table lowered → Stands table place.c_type
place_stands (L.Object path own) place told table holds = stands_everywhere place.c_type own (λ any. ap type_at (sym (told any))) table holds
place_stands (L.Integer own tree) place told table holds = let is = told table in absurd (cc)
place_stands (L.Pointer register target) place told table holds = let is = told table in absurd (cc)
place_stands L.Nothing place told table holds = let is = told table in absurd (cc)
