-- The codes of types, widths and operators.
use Rattle.std.specs.Prelude.{◌≡◌, ℕ, List, [], ◌∷◌}
use Rattle.c_num.specs.declared.IntType.{IntType}
use Rattle.c_num.specs.declared.IntType.TheVariants.{Char, UChar, Short, UShort, Int, UInt, Long, ULong}
use Rattle.c_num.specs.declared.BinOp.{BinOp}
use Rattle.c_num.specs.declared.BinOp.TheVariants.{Add, Sub, Mul, Div, Rem, Shl, Shr, And, Or, Xor}
use Rattle.pool_isa.specs.declared.instr.Width.{Width}
use Rattle.pool_isa.specs.declared.instr.Width.TheVariants.{One, Two, Four, Eight}
use Rattle.c_num.specs.declared.Relation.{Relation}
use Rattle.c_num.specs.declared.Relation.TheVariants.{Eq, Ne, Lt, Le, Gt, Ge}

abbrev pub type_code : IntType → ℕ
type_code Char = 0
type_code UChar = 1
type_code Short = 2
type_code UShort = 3
type_code Int = 4
type_code UInt = 5
type_code Long = 6
type_code ULong = 7

-- the byte of a type
abbrev pub IsTypeSpelling : List ℕ → Type 0
IsTypeSpelling bytes = (t : IntType) × (bytes ≡ type_code t ∷ [])

abbrev pub width_code : Width → ℕ
width_code One = 0
width_code Two = 1
width_code Four = 2
width_code Eight = 3

abbrev pub operator_code : BinOp → ℕ
operator_code Add = 0
operator_code Sub = 1
operator_code Mul = 2
operator_code Div = 3
operator_code Rem = 4
operator_code Shl = 5
operator_code Shr = 6
operator_code And = 7
operator_code Or = 8
operator_code Xor = 9

abbrev pub relation_code : Relation → ℕ
relation_code Eq = 0
relation_code Ne = 1
relation_code Lt = 2
relation_code Le = 3
relation_code Gt = 4
relation_code Ge = 5
