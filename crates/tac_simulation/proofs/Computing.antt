-- Trees compute what the reference's operators give on values of their types.
use Rattle.std.proofs.Common.{◌≡◌, ℕ, ◌-◌, ◌%◌, ◌^◌, ◌<◌, Bool, true, false, not, ◌&&◌, ◌||◌, if◌then◌else◌, ℤ, pos, negsuc, neg_ℤ, ◌-ℤ◌, Some, Ok, refl, sym, ap, ◌∙◌, arith, true≢false}
use Rattle.std.proofs.lemmas.Int.{ints}
use Rattle.std.proofs.lemmas.Nat.{pow_pos}
use Rattle.run_theory.specs.declared.place.Pos.{Pos}
use Rattle.c_num.specs.declared.IntType.{IntType}
use Rattle.c_num.specs.declared.IntType.TheVariants as I
use Rattle.c_num.specs.declared.BinOp.{BinOp}
use Rattle.c_num.specs.declared.Relation.{Relation}
use Rattle.c_num.specs.Types.{is_value, width_of}
use Rattle.c_num.specs.Conversion.{modulo, value_of_bits, convert_to}
use Rattle.c_num.specs.Arith.{is_shift, outcome_of, complement_of, compare_of}
use Rattle.c_num.proofs.Conversions.{convert_to-same, convert_to-in_range, modulo_below}
use Rattle.c_num.proofs.Outcomes.{is_value-Decides}
use Rattle.c_typed.specs.Values.{not_zero}
use Rattle.ref_semantics.specs.Values.{IntegerValue}
use Rattle.ref_semantics.specs.Pointers as P
use Rattle.ref_semantics.specs.Meaning.{right_of, outcome_at, arithmetic}
use Rattle.tac_ir.specs.Trees.{Registers, truth, is_zero, computes}
use Rattle.tac_ir.specs.Code.{Tree, Convert, Complement, Not, Arithmetic, Compare}

-- ---- values of integer types

pub converts : (t : IntType) (z : ℤ) → is_value t z ≡ true → convert_to t z ≡ z
converts t z e = convert_to-same t z ((is_value-Decides t z).0 e)

pub converted_fits : (t : IntType) (z : ℤ) → is_value t (convert_to t z) ≡ true
converted_fits t z = (is_value-Decides t (convert_to t z)).1 (convert_to-in_range t z)

pub zero_fits : (t : IntType) → is_value t (pos 0) ≡ true
zero_fits I.Char = refl
zero_fits I.UChar = refl
zero_fits I.Short = refl
zero_fits I.UShort = refl
zero_fits I.Int = refl
zero_fits I.UInt = refl
zero_fits I.Long = refl
zero_fits I.ULong = refl

pub truth_fits : (b : Bool) → is_value I.Int (truth b) ≡ true
truth_fits true = refl
truth_fits false = refl

-- ---- truths

pub truth_is : (b : Bool) → P.truth b ≡ IntegerValue (truth b)
truth_is true = refl
truth_is false = refl

pub negated_zero : (z : ℤ) → P.truth (not (not_zero z)) ≡ IntegerValue (truth (is_zero z))
negated_zero z = by (is_zero z)
  where
    by : (b : Bool) → P.truth (not (not b)) ≡ IntegerValue (truth b)
    by true = refl
    by false = refl

-- ---- operators

inverted : (m : ℕ) (a : ℤ) → 0 < m → modulo (neg_ℤ a -ℤ pos 1) m ≡ m - 1 - modulo a m
inverted m (pos n) some = let e : neg_ℤ (pos n) -ℤ pos 1 ≡ negsuc n = omega (arith, ints) in ap (λ z. modulo z m) e
inverted m (negsuc n) some =
    let e : neg_ℤ (negsuc n) -ℤ pos 1 ≡ pos n = omega (arith, ints) in
    ap (λ z. modulo z m) e ∙ (let below : n % m < m = modulo_below (pos n) m some in omega arith)

-- the complement in two's complement
pub complement_is : (t : IntType) (z : ℤ) → convert_to t (neg_ℤ z -ℤ pos 1) ≡ complement_of t z
unfolding convert_to complement_of
complement_is t z = ap (value_of_bits t) (inverted (2 ^ width_of t) z (pow_pos (width_of t)))

-- operands that are values of the type are not converted; the amount of a shift may be any number
pub arithmetic_is : (op : BinOp) (t : IntType) (place : Pos) (a b : ℤ) → is_value t a ≡ true → (is_shift op ≡ false → is_value t b ≡ true)
    → arithmetic op t place (IntegerValue a) (IntegerValue b) ≡ outcome_at place (outcome_of op t a b)
arithmetic_is op t place a b left right = ap (λ x. outcome_at place (outcome_of op t x (right_of op t b))) (converts t a left) ∙ ap (λ y. outcome_at place (outcome_of op t a y)) (by (is_shift op) refl)
  where
    by : (shifts : Bool) → is_shift op ≡ shifts → (if shifts then b else convert_to t b) ≡ b
    by true e = refl
    by false e = converts t b (right e)

-- ---- trees

allowed : (v shifts w : Bool) → v ≡ true → (shifts ≡ false → w ≡ true) → (v && (shifts || w)) ≡ true
allowed true true w is right = refl
allowed true false w is right = right refl
allowed false shifts w is right = absurd (true≢false (sym is))

pub computes_arithmetic : (registers : Registers) (op : BinOp) (t : IntType) (left right : Tree) (a b z : ℤ) → computes registers left ≡ Some a → computes registers right ≡ Some b
    → is_value t a ≡ true → (is_shift op ≡ false → is_value t b ≡ true) → outcome_of op t a b ≡ Ok z → computes registers (Arithmetic op t left right) ≡ Some z
computes_arithmetic registers op t left right a b z first second fits fits' is = rw (first, second, allowed (is_value t a) (is_shift op) (is_value t b) fits fits', is) refl

pub computes_compare : (registers : Registers) (relation : Relation) (t : IntType) (left right : Tree) (a b : ℤ) → computes registers left ≡ Some a → computes registers right ≡ Some b
    → is_value t a ≡ true → is_value t b ≡ true → computes registers (Compare relation t left right) ≡ Some (truth (compare_of relation a b))
computes_compare registers relation t left right a b first second fits fits' = rw (first, second, fits, fits') refl

pub computes_complement : (registers : Registers) (t : IntType) (tree : Tree) (z : ℤ) → computes registers tree ≡ Some z → is_value t z ≡ true
    → computes registers (Complement t tree) ≡ Some (convert_to t (neg_ℤ z -ℤ pos 1))
computes_complement registers t tree z is fits = rw (is, fits) (ap Some (sym (complement_is t z)))

pub computes_not : (registers : Registers) (t : IntType) (tree : Tree) (z : ℤ) → computes registers tree ≡ Some z → is_value t z ≡ true → computes registers (Not t tree) ≡ Some (truth (is_zero z))
computes_not registers t tree z is fits = rw (is, fits) refl

-- whether an integer isn't 0
pub computes_truth : (registers : Registers) (t : IntType) (tree : Tree) (z : ℤ) → computes registers tree ≡ Some z → is_value t z ≡ true
    → computes registers (Not I.Int (Not t tree)) ≡ Some (truth (not_zero z))
computes_truth registers t tree z is fits = computes_not registers I.Int (Not t tree) (truth (is_zero z)) (computes_not registers t tree z is fits) (truth_fits (is_zero z)) ∙ ap Some (by (is_zero z))
  where
    by : (b : Bool) → truth (is_zero (truth b)) ≡ truth (not b)
    by true = refl
    by false = refl

pub computes_convert : (registers : Registers) (t : IntType) (tree : Tree) (z : ℤ) → computes registers tree ≡ Some z → computes registers (Convert t tree) ≡ Some (convert_to t z)
computes_convert registers t tree z is = rw is refl
