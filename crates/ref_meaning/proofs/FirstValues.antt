-- What the loops over first values keep.
use Rattle.std.proofs.Common.{◌≡◌, ℕ, zero, suc, ◌+◌, ◌<◌, Bool, true, false, ◌==◌, if◌then◌else◌, List, [], ◌∷◌, ◌++◌, length, get_or, take, Option, Some, None, pos, refl, sym, ap, subst, ◌∙◌, arith, append_assoc, append-nil, length-take-le}
use Rattle.std.proofs.lemmas.List.{take_more}
use Rattle.std.proofs.Math.Dec.{eqb-zero-suc, eqb-suc-zero, eqb-suc-suc}
use Rattle.c_num.specs.declared.IntType.{IntType}
use Rattle.c_num.specs.declared.IntType.TheVariants as I
use Rattle.c_num.specs.Conversion.{convert_to}
use Rattle.c_typed.specs.declared.part.Part.{Part}
use Rattle.c_typed.specs.declared.definition.First as memory_first
use Rattle.c_typed.specs.Types.{CType}
use Rattle.c_typed.specs.Values as values
use Rattle.c_typed.specs.Typed.{Program}
use Rattle.c_typed.specs.Table.{Interned}
use Rattle.c_typed.specs.DefinitionViews.{characters_held, first_of, all_first}
use Rattle.ref_semantics.specs.Values.{Heap, Place, Scalar, IntegerValue, object_place, at_index}
use Rattle.ref_semantics.specs.Store.{TypeEnvironment, offset_of}
use Rattle.ref_semantics.specs.First.{around_of, stepped, walked, first_scalar, first_held, characters}
use Rattle.ref_meaning.specs.declared.value.Scalar as memory_scalar
use Rattle.ref_meaning.specs.RefStore.Views.{scalar_in, ScalarStands}
use Rattle.ref_meaning.specs.RefStore.Holding.{HeldIs}
use Rattle.ref_meaning.specs.Firsts.{or_else, with_first, text_held, with_text, with_given}

-- a scalar is stored
pub held_put : (table : Interned) (offset other : ℕ) (value : memory_scalar.Scalar) (old new : Option memory_scalar.Scalar) (held : Option Scalar) → new ≡ (if offset == other then Some value else old) → ScalarStands table value
    → HeldIs table old held → HeldIs table new (if offset == other then Some (scalar_in table value) else held)
held_put table offset other value old new held is stands had = subst (λ n. HeldIs table n (if offset == other then Some (scalar_in table value) else held)) (sym is) (by (offset == other))
  where
    by : (b : Bool) → HeldIs table (if b then Some value else old) (if b then Some (scalar_in table value) else held)
    by true = (refl, stands)
    by false = had

or_else_assoc : (a b c : Option Scalar) → or_else (or_else a b) c ≡ or_else a (or_else b c)
or_else_assoc (Some a) b c = refl
or_else_assoc None b c = refl

-- ---- the characters of a literal

abbrev character : ℕ → Option Scalar
character byte = Some (IntegerValue (convert_to I.Char (pos byte)))

characters_more : (xs : List ℕ) (x k : ℕ) → characters (xs ++ x ∷ []) k ≡ (if length xs == k then character x else characters xs k)
characters_more [] x zero = refl
characters_more [] x (suc k) = λ i. if sym (eqb-zero-suc k) i then character x else None
characters_more (y ∷ ys) x zero = λ i. if sym (eqb-suc-zero (length ys)) i then character x else character y
characters_more (y ∷ ys) x (suc k) = characters_more ys x k ∙ λ i. if sym (eqb-suc-suc (length ys) k) i then character x else characters ys k

pub characters_step : (bytes : List ℕ) (n k : ℕ) → n < length bytes → characters (take (n + 1) bytes) k ≡ (if n == k then character (get_or bytes n 0) else characters (take n bytes) k)
characters_step bytes n k lt =
    ap (λ l. characters l k) (take_more bytes n 0 lt)
    ∙ (characters_more (take n bytes) (get_or bytes n 0) k
    ∙ ap (λ l. if l == k then character (get_or bytes n 0) else characters (take n bytes) k) (length-take-le n bytes (omega arith)))

-- ---- bytes as the elements of a row

module _ (around : TypeEnvironment) (place : Place) (int_type : IntType) where
  abbrev one : ℕ → ℕ → ℕ → Option Scalar
  one index byte offset = if offset_of around (at_index place index) == offset then Some (IntegerValue (convert_to int_type (pos byte))) else None

  text_more : (index : ℕ) (xs : List ℕ) (x offset : ℕ) → text_held around place int_type index (xs ++ x ∷ []) offset ≡ or_else (text_held around place int_type index xs offset) (one (index + length xs) x offset)
  text_more index [] x offset = let e : index ≡ index + 0 = omega arith in ap (λ k. one k x offset) e
  text_more index (y ∷ ys) x offset =
      let e : suc index + length ys ≡ index + suc (length ys) = omega arith in
      by (text_more (suc index) ys x offset ∙ ap (λ k. or_else (text_held around place int_type (suc index) ys offset) (one k x offset)) e) (offset_of around (at_index place index) == offset)
    where
      by : text_held around place int_type (suc index) (ys ++ x ∷ []) offset ≡ or_else (text_held around place int_type (suc index) ys offset) (one (index + suc (length ys)) x offset)
          → (b : Bool) → (if b then Some (IntegerValue (convert_to int_type (pos y))) else text_held around place int_type (suc index) (ys ++ x ∷ []) offset)
          ≡ or_else (if b then Some (IntegerValue (convert_to int_type (pos y))) else text_held around place int_type (suc index) ys offset) (one (index + suc (length ys)) x offset)
      by more true = refl
      by more false = more

  pub text_step : (bytes : List ℕ) (n : ℕ) (held : ℕ → Option Scalar) (offset : ℕ) → n < length bytes
      → with_text around place int_type 0 (take (n + 1) bytes) held offset
      ≡ with_first around (at_index place n) (IntegerValue (convert_to int_type (pos (get_or bytes n 0)))) (with_text around place int_type 0 (take n bytes) held) offset
  text_step bytes n held offset lt =
      let e : 0 + length (take n bytes) ≡ n = omega (arith, length-take-le n bytes (omega arith)) in
      let before = text_held around place int_type 0 (take n bytes) offset in
      ap (λ l. or_else (held offset) (text_held around place int_type 0 l offset)) (take_more bytes n 0 lt)
      ∙ (ap (or_else (held offset)) (text_more 0 (take n bytes) (get_or bytes n 0) offset)
      ∙ (ap (λ k. or_else (held offset) (or_else before (one k (get_or bytes n 0) offset))) e
      ∙ sym (or_else_assoc (held offset) before (one n (get_or bytes n 0) offset))))

-- ---- what initializers give

walked_at : (around : TypeEnvironment) (place : Place) (steps : List Part) (index : ℕ) → walked around place steps index ≡ at_index (walked around place steps 0) index
walked_at around place [] index = refl
walked_at around place (step ∷ steps) index = walked_at around (stepped around place step) steps index

module _ (program : Program) (c_type : CType) where
  abbrev root : Place
  root = object_place (Heap 0) c_type

  given_append : (xs ys : List values.Held) (offset : ℕ) → first_held program c_type (xs ++ ys) offset ≡ or_else (first_held program c_type xs offset) (first_held program c_type ys offset)
  given_append [] ys offset = refl
  given_append (x ∷ xs) ys offset = by (given_append xs ys offset) (offset_of (around_of program) (walked (around_of program) root x.leaf.steps x.leaf.index) == offset)
    where
      by : first_held program c_type (xs ++ ys) offset ≡ or_else (first_held program c_type xs offset) (first_held program c_type ys offset)
          → (b : Bool) → (if b then Some (first_scalar program x.value) else first_held program c_type (xs ++ ys) offset)
          ≡ or_else (if b then Some (first_scalar program x.value) else first_held program c_type xs offset) (first_held program c_type ys offset)
      by more true = refl
      by more false = more

  text_given : (steps : List Part) (int_type : IntType) (index : ℕ) (bytes : List ℕ) (offset : ℕ)
      → first_held program c_type (characters_held steps int_type index bytes) offset ≡ text_held (around_of program) (walked (around_of program) root steps 0) int_type index bytes offset
  text_given steps int_type index [] offset = refl
  text_given steps int_type index (byte ∷ bytes) offset =
      let value = Some (IntegerValue (convert_to int_type (pos byte))) in
      let rest = first_held program c_type (characters_held steps int_type (suc index) bytes) offset in
      let place = walked (around_of program) root steps 0 in
      ap (λ p. if offset_of (around_of program) p == offset then value else rest) (walked_at (around_of program) root steps index)
      ∙ ap (λ others. if offset_of (around_of program) (at_index place index) == offset then value else others) (text_given steps int_type (suc index) bytes offset)

  -- an initializer with a scalar
  pub scalar_added : (place : Place) (value : Scalar) (given : values.Held) (held : ℕ → Option Scalar) (offset : ℕ)
      → place ≡ walked (around_of program) root given.leaf.steps given.leaf.index → value ≡ first_scalar program given.value
      → with_first (around_of program) place value held offset ≡ with_given program c_type (given ∷ []) held offset
  scalar_added place value given held offset at is = λ i. or_else (held offset) (if offset_of (around_of program) (at i) == offset then Some (is i) else None)

  -- one with a text
  pub text_added : (place : Place) (steps : List Part) (int_type : IntType) (bytes : List ℕ) (held : ℕ → Option Scalar) (offset : ℕ) → place ≡ walked (around_of program) root steps 0
      → with_text (around_of program) place int_type 0 bytes held offset ≡ with_given program c_type (characters_held steps int_type 0 bytes) held offset
  text_added place steps int_type bytes held offset at =
      ap (λ p. or_else (held offset) (text_held (around_of program) p int_type 0 bytes offset)) at
      ∙ ap (or_else (held offset)) (sym (text_given steps int_type 0 bytes offset))

  all_more : (xs : List memory_first.First) (x : memory_first.First) → all_first (xs ++ x ∷ []) ≡ all_first xs ++ first_of x
  all_more [] x = append-nil (first_of x)
  all_more (y ∷ ys) x = ap (λ l. first_of y ++ l) (all_more ys x) ∙ sym (append_assoc (first_of y) (all_first ys) (first_of x))

  -- one more of them
  pub given_step : (all : List memory_first.First) (n : ℕ) (x : memory_first.First) (offset : ℕ) → n < length all → x ≡ get_or all n x
      → with_given program c_type (first_of x) (first_held program c_type (all_first (take n all))) offset ≡ first_held program c_type (all_first (take (n + 1) all)) offset
  given_step all n x offset lt is =
      sym (given_append (all_first (take n all)) (first_of x) offset)
      ∙ ap (λ l. first_held program c_type l offset) (sym (all_more (take n all) x) ∙ (ap (λ y. all_first (take n all ++ y ∷ [])) is ∙ ap all_first (sym (take_more all n x lt))))
