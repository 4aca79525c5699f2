-- What stands in a slot of memory, read back as a word.
use Rattle.std.proofs.Common.{◌≡◌, ℕ, ◌+◌, ◌*◌, ◌%◌, ◌^◌, ◌≤◌, true, List, ℤ, pos, refl, sym, ap, subst, ◌∙◌, arith}
use Rattle.std.proofs.lemmas.Nat.{pow_pos}
use Rattle.std.proofs.lemmas.Bool.{false≢true}
use Rattle.c_num.specs.declared.IntType.{IntType}
use Rattle.c_num.specs.declared.IntType.TheVariants as I
use Rattle.c_num.specs.Types.{width_of, IsValue}
use Rattle.c_num.specs.Conversion.{modulo, word_of}
use Rattle.c_num.proofs.Conversions.{convert_to-same, same_converted, congruent_from_word, modulo-congruent}
use Rattle.c_num.proofs.Outcomes.{is_value-Decides}
use Rattle.c_typed.specs.Types.{CType, Void, Integer, Pointer, Array, Struct, Function}
use Rattle.c_typed.specs.Layouts.{StructDef}
use Rattle.pool_isa.specs.Machine.{size_of, loaded_word}
use Rattle.tac_ir.specs.Values.{Value, Number, NoAddress, Code, Address, Objects}
use Rattle.tac_ir.specs.Objects.{extent_of, fits}
use Rattle.pool_ir.specs.States as P
use Rattle.pool_ir.specs.Memory.{slot_size, slot_word, slot_number}
use Rattle.pool_rewrite.specs.Rewriting.{slot_of}
use Rattle.pool_rewrite.specs.Standing.{MemoryMap, Stands}
use Rattle.pool_simulation.specs.Placed.{KeepsOffsets, Placed, IsInside}
use Rattle.pool_simulation.proofs.WordValues.{word, word_of-value}

-- ---- slots of one pool

-- the word itself is put in the slot
pub slot_number-same : (machine : P.State) (own : CType) (word : ℕ) → slot_number machine (slot_of own) word ≡ word
slot_number-same machine (Integer int_type) word = refl
slot_number-same machine Void word = refl
slot_number-same machine (Pointer target) word = refl
slot_number-same machine (Array element count) word = refl
slot_number-same machine (Struct tag) word = refl
slot_number-same machine (Function result parameters) word = refl

integer_some : (int_type : IntType) → 1 ≤ size_of int_type
integer_some I.Char = omega arith
integer_some I.UChar = omega arith
integer_some I.Short = omega arith
integer_some I.UShort = omega arith
integer_some I.Int = omega arith
integer_some I.UInt = omega arith
integer_some I.Long = omega arith
integer_some I.ULong = omega arith

-- a slot has a byte or more
pub slot_some : (own : CType) → 1 ≤ slot_size (slot_of own)
slot_some (Integer int_type) = integer_some int_type
slot_some Void = omega arith
slot_some (Pointer target) = omega arith
slot_some (Array element count) = omega arith
slot_some (Struct tag) = omega arith
slot_some (Function result parameters) = omega arith

-- ---- integers

whole_width : (int_type : IntType) → 8 * size_of int_type ≡ width_of int_type
whole_width I.Char = refl
whole_width I.UChar = refl
whole_width I.Short = refl
whole_width I.UShort = refl
whole_width I.Int = refl
whole_width I.UInt = refl
whole_width I.Long = refl
whole_width I.ULong = refl

-- the low bytes of the word of a value, as many as its type has, tell the value
low_bytes : (int_type : IntType) (z : ℤ) → IsValue int_type z → loaded_word int_type (word z % 2 ^ width_of int_type) ≡ word z
unfolding word_of
low_bytes int_type z is =
    let m = 2 ^ width_of int_type in
    let low = same_converted int_type (pos (word z % m)) (pos (word z)) (modulo-congruent (pos (word z)) m (pow_pos (width_of int_type))) in
    let all = same_converted int_type (pos (word z)) z (congruent_from_word int_type (pos (word z)) z (modulo-congruent z (2 ^ 64) (omega arith))) in
    ap (λ x. modulo x (2 ^ 64)) (low ∙ all ∙ convert_to-same int_type z is)

pub integer_reads : (int_type : IntType) (z : ℤ) (own : ℕ) → IsValue int_type z → own ≡ word_of I.ULong z → loaded_word int_type (own % 2 ^ (8 * size_of int_type)) ≡ word_of I.ULong z
integer_reads int_type z own is e =
    ap (λ n. loaded_word int_type (own % 2 ^ n)) (whole_width int_type)
    ∙ ap (λ n. loaded_word int_type (n % 2 ^ width_of int_type)) (e ∙ word_of-value z)
    ∙ low_bytes int_type z is ∙ sym (word_of-value z)

-- ---- values

-- A word that stands for a value of a scalar's type is read back from its slot, where it was put.
pub slot_reads : (structs : List StructDef) (objects : Objects) (memory : MemoryMap) (machine : P.State) (own : CType) (value : Value) (word : ℕ) → KeepsOffsets memory → Placed structs memory objects
    → IsInside structs objects value → fits own value ≡ true → Stands objects memory value word
    → Stands objects memory value (slot_word machine (slot_of own) (word % 2 ^ (8 * slot_size (slot_of own))))
slot_reads structs objects memory machine (Integer int_type) (Number z) word keeps placed inside fits stands = integer_reads int_type z word ((is_value-Decides int_type z).0 fits) stands
slot_reads structs objects memory machine (Pointer target) NoAddress word keeps placed inside fits stands = omega (arith, stands)
slot_reads structs objects memory machine (Pointer target) (Code function) word keeps placed inside fits stands = omega (arith, stands, inside)
slot_reads structs objects memory machine (Pointer target) (Address object offset) word keeps placed inside fits stands = λ there.
    let own = stands there in
    let place = placed.there object there in
    let same : own.0 ≡ place.0 = cc (sym own.1 ∙ place.1) in
    (own.0, own.1, exact word own.0 offset (memory.moved object offset) (extent_of structs (objects object)) (keeps object offset) (inside there) own.2 (subst (λ n. n + extent_of structs (objects object) ≤ 2 ^ 46) (sym same) place.3))
  where
    exact : (word address offset moved extent : ℕ) → moved ≡ offset → offset ≤ extent → word ≡ address + moved → address + extent ≤ 2 ^ 46 → word % 2 ^ (8 * 8) ≡ address + moved
    exact word address offset moved extent keeps inside e most = omega (arith, keeps, inside, e, most)
slot_reads structs objects memory machine _ _ word keeps placed inside fits stands = absurd (false≢true fits)
