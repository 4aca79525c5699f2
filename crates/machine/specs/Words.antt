-- The operators on words of 64 bits: what they give on the values that the words stand for.
use Rattle.std.specs.Prelude.{ℕ, if◌then◌else◌, ℤ, pos}
use Rattle.c_num.specs.declared.IntType.{IntType}
use Rattle.c_num.specs.declared.BinOp.{BinOp}
use Rattle.c_num.specs.declared.Relation.{Relation}
use Rattle.c_num.specs.Conversion.{convert_to, word_of}
use Rattle.c_num.specs.Arith.{wrapped, wrapped_negation, complement_of, compare_of}

-- the value of a type that a word stands for: the word converted to the type
abbrev pub value_in : IntType → ℕ → ℤ
value_in type word = convert_to type (pos word)

-- the word of a number that is converted to a type
abbrev pub converted_word : IntType → ℕ → ℕ
converted_word type number = word_of type (pos number)

-- The word of what an operator gives on the values. No operator on words is undefined.
abbrev pub binary_word : BinOp → IntType → ℕ → ℕ → ℕ
binary_word op type left right = word_of type (wrapped op type (value_in type left) (value_in type right))

abbrev pub negated_word : IntType → ℕ → ℕ
negated_word type word = word_of type (wrapped_negation type (value_in type word))

abbrev pub complement_word : IntType → ℕ → ℕ
complement_word type word = word_of type (complement_of type (value_in type word))

-- 1 where the relation holds between the values, otherwise 0 (C17 6.5.8 paragraph 6, 6.5.9 paragraph 3)
abbrev pub compared_word : Relation → IntType → ℕ → ℕ → ℕ
compared_word relation type left right = if compare_of relation (value_in type left) (value_in type right) then 1 else 0
