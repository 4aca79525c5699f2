-- The first contents of the globals are bytes.
use Rattle.std.proofs.Common.{ℕ, zero, suc, ◌+◌, ◌%◌, ◌/◌, ◌^◌, ◌<◌, List, [], ◌∷◌, ◌++◌, length, take, drop, Option, Some, None, pos, arith}
use Rattle.std.specs.Prelude.{replicate}
use Rattle.std.specs.List.{AllByRecursion}
use Rattle.std.specs.Int.{byte_at, bytes_low_first}
use Rattle.byteorder.specs.Endian.{little_bytes}
use Rattle.c_num.specs.declared.IntType.TheVariants as I
use Rattle.c_num.specs.Conversion.{convert_to, word_of}
use Rattle.c_typed.specs.Types.{CType}
use Rattle.c_typed.specs.Typed.{GlobalDef, LiteralDef}
use Rattle.c_typed.specs.Values as first
use Rattle.tac_ir.specs.Layouts.{leaf_at}
use Rattle.tac_ir.specs.First.{offset_in, constant_of}
use Rattle.tac_ir.specs.Code.{Tac}
use Rattle.pool_isa.specs.Machine.{spliced}
use Rattle.pool_rewrite.specs.Placing.{global_offset, literal_offset, statics_size}
use Rattle.pool_rewrite.specs.Rewriting.{value_word, leaf_size, with_scalar, with_first, with_globals, character_bytes, with_literals, first_contents}

abbrev AreBytes : List ℕ → Type 0
AreBytes bytes = AllByRecursion (λ byte. byte < 256) bytes

-- ---- lists of bytes

joined_bytes : (front back : List ℕ) → AreBytes front → AreBytes back → AreBytes (front ++ back)
joined_bytes [] back one other = other
joined_bytes (first ∷ front) back one other = (one.0, joined_bytes front back one.1 other)

taken_bytes : (count : ℕ) (bytes : List ℕ) → AreBytes bytes → AreBytes (take count bytes)
taken_bytes zero [] all = tt
taken_bytes zero (first ∷ bytes) all = tt
taken_bytes (suc count) [] all = tt
taken_bytes (suc count) (first ∷ bytes) all = (all.0, taken_bytes count bytes all.1)

dropped_bytes : (count : ℕ) (bytes : List ℕ) → AreBytes bytes → AreBytes (drop count bytes)
dropped_bytes zero [] all = tt
dropped_bytes zero (first ∷ bytes) all = all
dropped_bytes (suc count) [] all = tt
dropped_bytes (suc count) (first ∷ bytes) all = dropped_bytes count bytes all.1

spliced_bytes : (bytes : List ℕ) (offset : ℕ) (new : List ℕ) → AreBytes bytes → AreBytes new → AreBytes (spliced bytes offset new)
spliced_bytes bytes offset new old fresh =
    joined_bytes (take offset bytes ++ new) (drop (offset + length new) bytes) (joined_bytes (take offset bytes) new (taken_bytes offset bytes old) fresh)
    (dropped_bytes (offset + length new) bytes old)

zero_bytes : (count : ℕ) → AreBytes (replicate count 0)
zero_bytes zero = tt
zero_bytes (suc count) = (omega arith, zero_bytes count)

byte_small : (number word : ℕ) → byte_at number word < 256
byte_small zero word = omega arith
byte_small (suc number) word = by (word / 256 ^ suc number)
  where
    by : (part : ℕ) → part % 256 < 256
    by part = omega arith

number_bytes : (first count word : ℕ) → AreBytes (bytes_low_first first count word)
number_bytes first zero word = tt
number_bytes first (suc count) word = (byte_small first word, number_bytes (suc first) count word)

-- a character's word
character_small : (byte : ℕ) → word_of I.UChar (pos byte) < 256
unfolding word_of convert_to
character_small byte = omega arith

character_are : (bytes : List ℕ) → AreBytes (character_bytes bytes)
character_are [] = tt
character_are (first ∷ others) = (character_small first, character_are others)

-- ---- first contents

module _ (tac : Tac) where
  scalar_bytes : (c_type : CType) (start : ℕ) (offset : Option ℕ) (value : first.FirstScalar) (bytes : List ℕ) → AreBytes bytes → AreBytes (with_scalar tac c_type start offset value bytes)
  scalar_bytes c_type start None value bytes all = all
  scalar_bytes c_type start (Some offset) value bytes all =
      let size = leaf_size (leaf_at tac.structs c_type 1 offset) in
      let word = value_word tac (constant_of tac value) in
      spliced_bytes bytes (start + offset) (little_bytes size word) all (number_bytes 0 size word)

  variable_bytes : (c_type : CType) (start : ℕ) (held : List first.Held) (bytes : List ℕ) → AreBytes bytes → AreBytes (with_first tac c_type start held bytes)
  variable_bytes c_type start [] bytes all = all
  variable_bytes c_type start (one ∷ others) bytes all =
      scalar_bytes c_type start (offset_in tac c_type one.leaf.steps one.leaf.index) one.value (with_first tac c_type start others bytes) (variable_bytes c_type start others bytes all)

  globals_bytes : (number : ℕ) (globals : List GlobalDef) (bytes : List ℕ) → AreBytes bytes → AreBytes (with_globals tac number globals bytes)
  globals_bytes number [] bytes all = all
  globals_bytes number (global ∷ others) bytes all =
      let start = global_offset tac number in
      globals_bytes (suc number) others (with_first tac global.c_type start global.first bytes) (variable_bytes global.c_type start global.first bytes all)

  literals_bytes : (number : ℕ) (literals : List LiteralDef) (bytes : List ℕ) → AreBytes bytes → AreBytes (with_literals tac number literals bytes)
  literals_bytes number [] bytes all = all
  literals_bytes number (literal ∷ others) bytes all =
      let start = literal_offset tac number in
      literals_bytes (suc number) others (spliced bytes start (character_bytes literal.bytes)) (spliced_bytes bytes start (character_bytes literal.bytes) all (character_are literal.bytes))

  pub contents_bytes : AllByRecursion (λ byte. byte < 256) (first_contents tac)
  contents_bytes =
      let zeros = replicate (statics_size tac) 0 in
      literals_bytes 0 tac.literals (with_globals tac 0 tac.globals zeros) (globals_bytes 0 tac.globals zeros (zero_bytes (statics_size tac)))
