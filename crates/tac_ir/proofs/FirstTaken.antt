-- What objects hold at first: a function's number only where the function's address is taken.
use Rattle.std.proofs.Common.{◌≡◌, ℕ, zero, suc, Bool, true, false, List, [], ◌∷◌, Option, Some, None, ap, ◌∙◌, refl, eq-eqb}
use Rattle.std.specs.Prelude.{if◌then◌else◌, slice_get}
use Rattle.std.specs.List.{list_any}
use Rattle.std.proofs.lemmas.Bool.{or_left, or_right}
use Rattle.c_typed.specs.Types.{CType, Void, Integer, Pointer, Array, Struct, Function}
use Rattle.c_typed.specs.Values.{FirstPlace, FirstScalar, IntegerValue, NullValue, FunctionValue, PointerValue, Held}
use Rattle.c_typed.specs.Typed.{GlobalDef, LiteralDef}
use Rattle.tac_ir.specs.Values.{Object, OfHeap, OfGlobal, OfLiteral, OfActivation}
use Rattle.tac_ir.specs.Layouts.{leaf_at}
use Rattle.tac_ir.specs.First.{named_function, static_of, offset_in, address_of, constant_of, cleared, is_at, first_held, global_content, characters, literal_content, first_objects, initial}
use Rattle.tac_ir.specs.Code.{Tac}
use Rattle.tac_ir.specs.Targets.{takes_in, names, names_in, is_taken}
use Rattle.tac_ir.proofs.Members.{any_at}
use Rattle.tac_ir.proofs.Taken.{IfHeld, InContent, InObjects, InState}

module _ (tac : Tac) where
  -- ---- constants

  address_taken : (place : FirstPlace) → IfHeld tac (address_of tac place)
  address_taken place = by (static_of tac place.root) refl
    where
      by : (root : Option (Object × CType)) → static_of tac place.root ≡ root → IfHeld tac (address_of tac place)
      by None is = rw is tt
      by (Some root) is = within (offset_in tac root.1 place.steps place.index) refl
        where
          within : (offset : Option ℕ) → offset_in tac root.1 place.steps place.index ≡ offset → IfHeld tac (address_of tac place)
          within None found = rw is (rw found tt)
          within (Some offset) found = rw is (rw found tt)

  constant_taken : (value : FirstScalar) → ((function : ℕ) → names tac function value ≡ true → is_taken tac function ≡ true) → IfHeld tac (constant_of tac value)
  constant_taken (IntegerValue z) taken = tt
  constant_taken NullValue taken = tt
  constant_taken (FunctionValue name) taken = by (named_function 0 tac.functions name) refl
    where
      by : (found : Option ℕ) → named_function 0 tac.functions name ≡ found → IfHeld tac (constant_of tac (FunctionValue name))
      by None is = rw is tt
      by (Some number) is = let known = taken number (ap (is_at number) is ∙ eq-eqb number number refl) in rw is known
  constant_taken (PointerValue place) taken = address_taken place

  cleared_taken : (leaf : Option CType) → IfHeld tac (cleared leaf)
  cleared_taken None = tt
  cleared_taken (Some (Integer int_type)) = tt
  cleared_taken (Some Void) = tt
  cleared_taken (Some (Pointer target)) = tt
  cleared_taken (Some (Array element length)) = tt
  cleared_taken (Some (Struct tag)) = tt
  cleared_taken (Some (Function result parameters)) = tt

  -- ---- objects

  -- what a variable names is taken
  held_taken : (c_type : CType) (all : List Held) → ((function : ℕ) → list_any (λ (held : Held). names tac function held.value) all ≡ true → is_taken tac function ≡ true) → (offset : ℕ)
      → IfHeld tac (first_held tac c_type all offset)
  held_taken c_type [] taken offset = cleared_taken (leaf_at tac.structs c_type 1 offset)
  held_taken c_type (one ∷ others) taken offset =
      by (is_at offset (offset_in tac c_type one.leaf.steps one.leaf.index))
      (constant_taken one.value (λ function named. taken function (or_left (names tac function one.value) (list_any (λ (held : Held). names tac function held.value) others) named)))
      (held_taken c_type others (λ function named. taken function (or_right (names tac function one.value) (list_any (λ (held : Held). names tac function held.value) others) named)) offset)
    where
      by : (b : Bool) → IfHeld tac (constant_of tac one.value) → IfHeld tac (first_held tac c_type others offset) → IfHeld tac (if b then constant_of tac one.value else first_held tac c_type others offset)
      by true here rest = here
      by false here rest = rest

  global_taken : (number : ℕ) (found : Option GlobalDef) → slice_get tac.globals number ≡ found → InContent tac (global_content tac found)
  global_taken number None is = λ offset. tt
  global_taken number (Some global) is = held_taken global.c_type global.first (λ function named.
      or_right (list_any (takes_in function) tac.functions) _
      (or_right (takes_in function tac.start) _ (any_at (names_in tac function) tac.globals number global is named)))

  characters_taken : (bytes : List ℕ) (offset : ℕ) → IfHeld tac (characters bytes offset)
  characters_taken [] zero = tt
  characters_taken [] (suc offset) = tt
  characters_taken (byte ∷ bytes) zero = tt
  characters_taken (byte ∷ bytes) (suc offset) = characters_taken bytes offset

  literal_taken : (found : Option LiteralDef) → InContent tac (literal_content found)
  literal_taken None = λ offset. tt
  literal_taken (Some literal) = characters_taken literal.bytes

  objects_taken : InObjects tac (first_objects tac)
  objects_taken (OfGlobal number) = global_taken number (slice_get tac.globals number) refl
  objects_taken (OfLiteral number) = literal_taken (slice_get tac.literals number)
  objects_taken (OfHeap number) = λ offset. tt
  objects_taken (OfActivation activation local) = λ offset. tt

  pub first_taken : (input : List ℕ) → InState tac (initial tac input)
  first_taken input = ((λ register. tt), tt, objects_taken)
