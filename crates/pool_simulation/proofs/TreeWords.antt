-- What trees come to in words that stand for what registers hold.
use Rattle.std.proofs.Common.{◌≡◌, ◌%◌, Bool, true, false, ◌&&◌, ◌||◌, if◌then◌else◌, Option, Some, None, Result, Ok, Err, ℤ, pos, negsuc, refl, sym, ap, ap₂, ◌∙◌, subst, arith}
use Rattle.std.proofs.Math.Nat.{mod-eq_of_lt}
use Rattle.std.proofs.lemmas.Int.{ints}
use Rattle.std.proofs.lemmas.Bool.{and_parts, true≢false}
use Rattle.c_num.specs.declared.IntType.{IntType}
use Rattle.c_num.specs.declared.IntType.TheVariants as I
use Rattle.c_num.specs.declared.BinOp.{BinOp}
use Rattle.c_num.specs.declared.ArithUb.{ArithUb}
use Rattle.c_num.specs.Types.{IsValue, is_value}
use Rattle.c_num.specs.Conversion.{bits_of, convert_to, word_of}
use Rattle.c_num.specs.Arith.{is_shift, IsRightOperand, outcome_of, complement_of, compare_of}
use Rattle.c_num.proofs.Outcomes.{is_value-Decides}
use Rattle.tac_ir.specs.declared.register.Register.{Register}
use Rattle.tac_ir.specs.Values.{Value, Number, NoAddress, Code, Address, Objects}
use Rattle.tac_ir.specs.Trees.{Registers, then_integer, where_value, integer_in, is_zero, truth, where_defined, computed, computes}
use Rattle.tac_ir.specs.Calls.{natural_of}
use Rattle.tac_ir.specs.Code.{Tree, Constant, Held, Convert, Complement, Not, Arithmetic, Compare, Operand, IntegerOperand, PointerOperand}
use Rattle.tac_ir.specs.Meaning.{value_of}
use Rattle.pool_isa.specs.Machine.{binary_word, complement_word, compared_word, converted_word}
use Rattle.pool_ir.specs.Words.{Words, truth_word, is_zero_word, word_in, operand_word}
use Rattle.pool_rewrite.specs.Standing.{MemoryMap, Stands, WordsStand}
use Rattle.pool_simulation.proofs.WordValues.{word, word_of-value, word-byte, word-truth, converted_word-value, is_zero_word-value, binary_word-outcome, complement_word-value, compared_word-truth}

-- ---- what a tree tells of its operands

-- an integer was there, and the rest gives one
then_some : (o : Option ℤ) (next : ℤ → Option ℤ) (r : ℤ) → then_integer o next ≡ Some r → (z : ℤ) × (o ≡ Some z) × (next z ≡ Some r)
then_some None next r e = absurd (cc)
then_some (Some z) next r e = (z, refl, e)

-- a value of the type was there
where_some : (type : IntType) (z r : ℤ) (next : Option ℤ) → where_value type z next ≡ Some r → IsValue type z × (next ≡ Some r)
where_some type z r next e = by (is_value type z) refl e
  where
    by : (b : Bool) → is_value type z ≡ b → (if b then next else None) ≡ Some r → IsValue type z × (next ≡ Some r)
    by true is e = ((is_value-Decides type z).0 is, e)
    by false is e = absurd (cc)

defined_some : (outcome : Result ℤ ArithUb) (r : ℤ) → where_defined outcome ≡ Some r → outcome ≡ Ok r
defined_some (Ok z) r e = cc
defined_some (Err ub) r e = absurd (cc)

right_operand : (operator : BinOp) (type : IntType) (b : ℤ) → (is_shift operator || is_value type b) ≡ true → IsRightOperand operator type b
right_operand operator type b e not_shift = by (is_shift operator) not_shift e
  where
    by : (s : Bool) → s ≡ false → (s || is_value type b) ≡ true → IsValue type b
    by true is e = absurd (true≢false is)
    by false is e = (is_value-Decides type b).0 e

-- both operands may stand there, and the operator is defined
computed_some : (operator : BinOp) (type : IntType) (a b r : ℤ) → computed operator type a b ≡ Some r → IsValue type a × IsRightOperand operator type b × (outcome_of operator type a b ≡ Ok r)
computed_some operator type a b r e = by (is_value type a && (is_shift operator || is_value type b)) refl e
  where
    by : (test : Bool) → (is_value type a && (is_shift operator || is_value type b)) ≡ test → (if test then where_defined (outcome_of operator type a b) else None) ≡ Some r
        → IsValue type a × IsRightOperand operator type b × (outcome_of operator type a b ≡ Ok r)
    by true is e =
        let parts = and_parts (is_value type a) (is_shift operator || is_value type b) is in
        ((is_value-Decides type a).0 parts.0, right_operand operator type b parts.1, defined_some (outcome_of operator type a b) r e)
    by false is e = absurd (cc)

integer_some : (held : Option Value) (z : ℤ) → integer_in held ≡ Some z → held ≡ Some (Number z)
integer_some None z e = absurd (cc)
integer_some (Some (Number n)) z e = cc
integer_some (Some NoAddress) z e = absurd (cc)
integer_some (Some (Code function)) z e = absurd (cc)
integer_some (Some (Address object offset)) z e = absurd (cc)

-- ---- trees

module _ (objects : Objects) (memory : MemoryMap) (registers : Registers) (words : Words) (stand : WordsStand objects memory registers words) where
  held_word : (register : Register) (z : ℤ) → integer_in (registers register) ≡ Some z → words register ≡ word z
  held_word register z e = stand register (Number z) (integer_some (registers register) z e) ∙ word_of-value z

  -- the word of a tree is that of the integer that it computes
  pub tree_word : (tree : Tree) (z : ℤ) → computes registers tree ≡ Some z → word_in words tree ≡ word z
  tree_word (Constant n) z e = word_of-value n ∙ ap word (cc)
  tree_word (Held register) z e = held_word register z e
  tree_word (Convert type operand) z e =
      let own = then_some (computes registers operand) (λ a. Some (convert_to type a)) z e in
      ap (converted_word type) (tree_word operand own.0 own.1) ∙ converted_word-value type own.0 ∙ ap word (cc own.2)
  tree_word (Complement type operand) z e =
      let own = then_some (computes registers operand) (λ a. where_value type a (Some (complement_of type a))) z e in
      let fits = where_some type own.0 z (Some (complement_of type own.0)) own.2 in
      ap (complement_word type) (tree_word operand own.0 own.1) ∙ complement_word-value type own.0 fits.0 ∙ ap word (cc fits.1)
  tree_word (Not type operand) z e =
      let own = then_some (computes registers operand) (λ a. where_value type a (Some (truth (is_zero a)))) z e in
      let fits = where_some type own.0 z (Some (truth (is_zero own.0))) own.2 in
      ap (λ w. truth_word (is_zero_word type w)) (tree_word operand own.0 own.1) ∙ ap truth_word (is_zero_word-value type own.0 fits.0) ∙ word-truth (is_zero own.0) ∙ ap word (cc fits.1)
  tree_word (Arithmetic operator type left right) z e =
      let first = then_some (computes registers left) (λ a. then_integer (computes registers right) (computed operator type a)) z e in
      let second = then_some (computes registers right) (computed operator type first.0) z first.2 in
      let gives = computed_some operator type first.0 second.0 z second.2 in
      ap₂ (binary_word operator type) (tree_word left first.0 first.1) (tree_word right second.0 second.1) ∙ binary_word-outcome type operator first.0 second.0 z gives.0 gives.1 gives.2
  tree_word (Compare relation type left right) z e =
      let first = then_some (computes registers left) (λ a. then_integer (computes registers right) (λ b. where_value type a (where_value type b (Some (truth (compare_of relation a b)))))) z e in
      let second = then_some (computes registers right) (λ b. where_value type first.0 (where_value type b (Some (truth (compare_of relation first.0 b))))) z first.2 in
      let fits = where_some type first.0 z (where_value type second.0 (Some (truth (compare_of relation first.0 second.0)))) second.2 in
      let fits' = where_some type second.0 z (Some (truth (compare_of relation first.0 second.0))) fits.1 in
      ap₂ (compared_word relation type) (tree_word left first.0 first.1) (tree_word right second.0 second.1) ∙ compared_word-truth type relation first.0 second.0 fits.0 fits'.0 ∙ ap word (cc fits'.1)

-- what a tree computes stands in its word
pub tree_stands : (objects : Objects) (memory : MemoryMap) (registers : Registers) (words : Words) (tree : Tree) (z : ℤ) → WordsStand objects memory registers words
    → computes registers tree ≡ Some z → word_in words tree ≡ word_of I.ULong z
tree_stands objects memory registers words tree z stand e = tree_word objects memory registers words stand tree z e ∙ sym (word_of-value z)

-- the low byte of the word is that of the integer
pub byte_stands : (objects : Objects) (memory : MemoryMap) (registers : Registers) (words : Words) (tree : Tree) (z : ℤ) → WordsStand objects memory registers words
    → computes registers tree ≡ Some z → word_in words tree % 256 ≡ bits_of I.UChar z
byte_stands objects memory registers words tree z stand e = ap (λ w. w % 256) (tree_word objects memory registers words stand tree z e) ∙ word-byte z

-- a branch is taken alike
pub branch_stands : (objects : Objects) (memory : MemoryMap) (registers : Registers) (words : Words) (int_type : IntType) (tree : Tree) (z : ℤ) → WordsStand objects memory registers words
    → computes registers tree ≡ Some z → is_value int_type z ≡ true → is_zero_word int_type (word_in words tree) ≡ is_zero z
branch_stands objects memory registers words int_type tree z stand e is =
    ap (is_zero_word int_type) (tree_word objects memory registers words stand tree z e) ∙ is_zero_word-value int_type z ((is_value-Decides int_type z).0 is)

-- the word of a test stands for it
pub truth_stands : (test : Bool) → truth_word test ≡ word_of I.ULong (truth test)
truth_stands test = word-truth test ∙ sym (word_of-value (truth test))

-- the value of an operand stands in its word
pub operand_stands : (objects : Objects) (memory : MemoryMap) (registers : Registers) (words : Words) (operand : Operand) (value : Value) → WordsStand objects memory registers words
    → value_of registers operand ≡ Some value → Stands objects memory value (operand_word words operand)
operand_stands objects memory registers words (PointerOperand register) value stand e = stand register value e
operand_stands objects memory registers words (IntegerOperand tree) value stand e = by (computes registers tree) refl e
  where
    integer : Option ℤ → Option Value
    integer None = None
    integer (Some z) = Some (Number z)

    by : (o : Option ℤ) → computes registers tree ≡ o → integer o ≡ Some value → Stands objects memory value (word_in words tree)
    by None is e = absurd (cc)
    by (Some z) is e = let same : Number z ≡ value = cc in subst (λ v. Stands objects memory v (word_in words tree)) same (tree_stands objects memory registers words tree z stand is)

-- the size of an allocation
pub size_stands : (objects : Objects) (memory : MemoryMap) (registers : Registers) (words : Words) (tree : Tree) (z : ℤ) → WordsStand objects memory registers words
    → computes registers tree ≡ Some z → is_value I.ULong z ≡ true → word_in words tree ≡ natural_of z
size_stands objects memory registers words tree z stand e is = tree_word objects memory registers words stand tree z e ∙ by z ((is_value-Decides I.ULong z).0 is)
  where
    by : (z : ℤ) → IsValue I.ULong z → word z ≡ natural_of z
    by (pos n) is = let most = is.greatest in mod-eq_of_lt (omega (arith, ints))
    by (negsuc n) is = let least = is.least in absurd (omega (arith, ints))
