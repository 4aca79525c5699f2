-- The names and places of constants lead to the static objects of a program.
use Rattle.std.proofs.Common.{◌≡◌, ℕ, zero, suc, ◌+◌, ◌*◌, Bool, true, false, ◌&&◌, if◌then◌else◌, List, [], ◌∷◌, slice_get, Option, Some, None, bytes_eq, refl, ap, subst, ◌∙◌, arith}
use Rattle.std.proofs.lemmas.Bool.{cond-true, cond-false, and_parts}
use Rattle.std.proofs.lemmas.Option.{none-some, same_Some}
use Rattle.run_theory.specs.declared.place.Pos.{Pos}
use Rattle.c_typed.specs.Types.{CType, literal_type}
use Rattle.c_typed.specs.Places.{is_same_place}
use Rattle.c_typed.specs.Typed.{GlobalDef, LiteralDef, Program}
use Rattle.c_typed.specs.Values.{Static, StaticVariable, StaticLiteral}
use Rattle.c_typed.specs.Context.{global_type, literal_bytes}
use Rattle.c_typed.specs.Expressions.{given}
use Rattle.c_typed.specs.Programs.{static_type}
use Rattle.c_typed.specs.Sizes.{HasStorableTypes, is_storable, globals_make, literals_make, functions_make}
use Rattle.ref_semantics.specs.Rows.{IsSmall}
use Rattle.ref_semantics.proofs.Storable.{storable_small}
use Rattle.tac_ir.specs.Values.{Object, OfGlobal, OfLiteral}
use Rattle.tac_ir.specs.Layouts.{size_of}
use Rattle.tac_ir.specs.Objects.{extent_of}
use Rattle.tac_ir.specs.Code.{Function, Tac}
use Rattle.tac_ir.specs.First.{named_global, placed_literal, static_of, global_content, literal_content, first_objects}

-- ---- lists

start_of : (number : ℕ) → number ≡ number + 0
start_of number = omega arith

next_of : (from number : ℕ) → suc from + number ≡ from + suc number
next_of from number = omega arith

from_zero : (number : ℕ) → 0 + number ≡ number
from_zero number = omega arith

-- the variable that a name means
record VariableFound (globals : List GlobalDef) (from : ℕ) (name : List ℕ) (t : CType) : Type 0 where
  number : ℕ
  global : GlobalDef
  named : named_global from globals name ≡ Some (from + number, global)
  there : slice_get globals number ≡ Some global
  typed : global.c_type ≡ t

variable_found : (globals : List GlobalDef) (from : ℕ) (name : List ℕ) (t : CType) → global_type globals name ≡ Some t → VariableFound globals from name t
variable_found [] from name t is = absurd (none-some t is)
variable_found (first ∷ others) from name t is = by (bytes_eq first.name name) refl is (variable_found others (suc from) name t)
  where
    by : (b : Bool) → bytes_eq first.name name ≡ b → (if b then Some first.c_type else global_type others name) ≡ Some t
        → (global_type others name ≡ Some t → VariableFound others (suc from) name t) → VariableFound (first ∷ others) from name t
    by true at is rest =
        record {
          number = 0;
          global = first;
          named = cond-true (bytes_eq first.name name) (Some (from, first)) (named_global (suc from) others name) at ∙ ap (λ n. Some (n, first)) (start_of from);
          there = refl;
          typed = same_Some first.c_type t is;
        }
    by false at is rest =
        let found = rest is in
        record {
          number = suc found.number;
          global = found.global;
          named = cond-false (bytes_eq first.name name) (Some (from, first)) (named_global (suc from) others name) at ∙ found.named ∙ ap (λ n. Some (n, found.global)) (next_of from found.number);
          there = found.there;
          typed = found.typed;
        }

-- the literal at a place
record LiteralFound (literals : List LiteralDef) (from : ℕ) (place : Pos) (bytes : List ℕ) : Type 0 where
  number : ℕ
  literal : LiteralDef
  placed : placed_literal from literals place ≡ Some (from + number, literal)
  there : slice_get literals number ≡ Some literal
  same : literal.bytes ≡ bytes

literal_found : (literals : List LiteralDef) (from : ℕ) (place : Pos) (bytes : List ℕ) → literal_bytes literals place ≡ Some bytes → LiteralFound literals from place bytes
literal_found [] from place bytes is = absurd (none-some bytes is)
literal_found (first ∷ others) from place bytes is = by (is_same_place first.place place) refl is (literal_found others (suc from) place bytes)
  where
    by : (b : Bool) → is_same_place first.place place ≡ b → (if b then Some first.bytes else literal_bytes others place) ≡ Some bytes
        → (literal_bytes others place ≡ Some bytes → LiteralFound others (suc from) place bytes) → LiteralFound (first ∷ others) from place bytes
    by true at is rest =
        record {
          number = 0;
          literal = first;
          placed = cond-true (is_same_place first.place place) (Some (from, first)) (placed_literal (suc from) others place) at ∙ ap (λ n. Some (n, first)) (start_of from);
          there = refl;
          same = same_Some first.bytes bytes is;
        }
    by false at is rest =
        let found = rest is in
        record {
          number = suc found.number;
          literal = found.literal;
          placed = cond-false (is_same_place first.place place) (Some (from, first)) (placed_literal (suc from) others place) at ∙ found.placed ∙ ap (λ n. Some (n, found.literal)) (next_of from found.number);
          there = found.there;
          same = found.same;
        }

-- ---- allowed types

pub allowed_global : (allowed : CType → Bool) (globals : List GlobalDef) (number : ℕ) (global : GlobalDef) → globals_make allowed globals ≡ true → slice_get globals number ≡ Some global
    → allowed global.c_type ≡ true
allowed_global allowed [] number global all there = absurd (none-some global there)
allowed_global allowed (first ∷ others) zero global all there =
    subst (λ (g : GlobalDef). allowed g.c_type ≡ true) (same_Some first global there) (and_parts (allowed first.c_type) (globals_make allowed others) all).0
allowed_global allowed (first ∷ others) (suc number) global all there = allowed_global allowed others number global (and_parts (allowed first.c_type) (globals_make allowed others) all).1 there

allowed_literal : (allowed : CType → Bool) (literals : List LiteralDef) (number : ℕ) (literal : LiteralDef) → literals_make allowed literals ≡ true → slice_get literals number ≡ Some literal
    → allowed (literal_type literal.bytes) ≡ true
allowed_literal allowed [] number literal all there = absurd (none-some literal there)
allowed_literal allowed (first ∷ others) zero literal all there =
    subst (λ (l : LiteralDef). allowed (literal_type l.bytes) ≡ true) (same_Some first literal there) (and_parts (allowed (literal_type first.bytes)) (literals_make allowed others) all).0
allowed_literal allowed (first ∷ others) (suc number) literal all there =
    allowed_literal allowed others number literal (and_parts (allowed (literal_type first.bytes)) (literals_make allowed others) all).1 there

-- ---- code with the program's structures and objects

abbrev pub code_of : Program → List Function → Function → Tac
code_of program functions start = record { structs = program.structs; globals = program.globals; literals = program.literals; functions = functions; start = start }

module _ (program : Program) (storable : HasStorableTypes program) where
  made : (globals_make (is_storable program.structs) program.globals ≡ true) × (literals_make (is_storable program.structs) program.literals ≡ true)
  made =
      let parts = and_parts (globals_make (is_storable program.structs) program.globals && literals_make (is_storable program.structs) program.literals)
      (functions_make (is_storable program.structs) program.functions) storable.1 in
      and_parts (globals_make (is_storable program.structs) program.globals) (literals_make (is_storable program.structs) program.literals) parts.0

  -- a variable has an exact size
  pub global_small : (number : ℕ) (global : GlobalDef) → slice_get program.globals number ≡ Some global → IsSmall program.structs global.c_type
  global_small number global there = storable_small program.structs global.c_type (allowed_global (is_storable program.structs) program.globals number global made.0 there)

  literal_small : (number : ℕ) (literal : LiteralDef) → slice_get program.literals number ≡ Some literal → IsSmall program.structs (literal_type literal.bytes)
  literal_small number literal there =
      storable_small program.structs (literal_type literal.bytes) (allowed_literal (is_storable program.structs) program.literals number literal made.1 there)

  module _ (functions : List Function) (start : Function) where
    -- the object of a constant's root, which has an exact size
    pub record RootFound (root : Static) (t : CType) : Type 0 where
      pub object : Object
      pub found : static_of (code_of program functions start) root ≡ Some (object, t)
      pub extent : extent_of program.structs (first_objects (code_of program functions start) object) ≡ 1 * size_of program.structs t
      pub small : IsSmall program.structs t

    pub root_found : (root : Static) (t : CType) → static_type program root ≡ Some t → RootFound root t
    root_found (StaticVariable name) t is =
        let tac = code_of program functions start in
        let known = variable_found program.globals 0 name t is in
        let named : named_global 0 program.globals name ≡ Some (known.number, known.global) = known.named ∙ ap (λ n. Some (n, known.global)) (from_zero known.number) in
        record {
          object = OfGlobal known.number;
          found = rw named (ap (λ c. Some (OfGlobal known.number, c)) known.typed);
          extent = ap (λ g. extent_of program.structs (global_content tac g)) known.there ∙ ap (λ c. 1 * size_of program.structs c) known.typed;
          small = subst (IsSmall program.structs) known.typed (global_small known.number known.global known.there);
        }
    root_found (StaticLiteral place) t is = by (literal_bytes program.literals place) refl is
      where
        by : (listed : Option (List ℕ)) → literal_bytes program.literals place ≡ listed → given listed (λ bytes. Some (literal_type bytes)) ≡ Some t → RootFound (StaticLiteral place) t
        by None at is = absurd (none-some t is)
        by (Some bytes) at is =
            let known = literal_found program.literals 0 place bytes at in
            let placed : placed_literal 0 program.literals place ≡ Some (known.number, known.literal) = known.placed ∙ ap (λ n. Some (n, known.literal)) (from_zero known.number) in
            let typed : literal_type known.literal.bytes ≡ t = ap literal_type known.same ∙ same_Some (literal_type bytes) t is in
            record {
              object = OfLiteral known.number;
              found = rw placed (ap (λ c. Some (OfLiteral known.number, c)) typed);
              extent = ap (λ l. extent_of program.structs (literal_content l)) known.there ∙ ap (λ c. 1 * size_of program.structs c) typed;
              small = subst (IsSmall program.structs) typed (literal_small known.number known.literal known.there);
            }
