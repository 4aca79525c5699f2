-- What a code says of the bytes behind it.
use Rattle.std.specs.Prelude.{◌≡◌, ℕ}
use Rattle.c_num.specs.declared.IntType.{IntType}
use Rattle.pool_isa.specs.declared.code.Operand.TheVariants.{Nothing}
use Rattle.pool_isa.specs.declared.head.Head.{Head}
use Rattle.pool_isa.specs.declared.head.Head.TheVariants as heads
use Rattle.pool_isa.specs.declared.head.NumberForm.{NumberForm}
use Rattle.pool_isa.specs.declared.head.NumberForm.TheVariants as numbers
use Rattle.pool_isa.specs.declared.head.TypeForm.{TypeForm}
use Rattle.pool_isa.specs.declared.head.TypeForm.TheVariants as types
use Rattle.pool_isa.specs.declared.instr.Instr.{Instr}
use Rattle.pool_isa.specs.declared.instr.Instr.TheVariants.{Constant, Local, Jump, JumpIfZero, JumpIfNotZero, Call, CallIndirect, Binary, Negate, Complement, Compare, Convert, PoolInit}
use Rattle.pool_isa.specs.Instr.{code_of, operand_of}

-- the instruction of a form with its number
abbrev pub with_number : NumberForm → ℕ → Instr
with_number numbers.Constant n = Constant n
with_number numbers.Local n = Local n
with_number numbers.Jump n = Jump n
with_number numbers.JumpIfZero n = JumpIfZero n
with_number numbers.JumpIfNotZero n = JumpIfNotZero n
with_number numbers.Call n = Call n
with_number numbers.CallIndirect n = CallIndirect n
with_number numbers.PoolInit n = PoolInit n

-- the instruction of a form with its type
abbrev pub with_type : TypeForm → IntType → Instr
with_type (types.Binary op) t = Binary op t
with_type types.Negate t = Negate t
with_type types.Complement t = Complement t
with_type (types.Compare c) t = Compare c t
with_type types.Convert t = Convert t

-- every instruction that a head leads to has this code
abbrev pub HasCode : Head → ℕ → Type 0
HasCode (heads.Alone instr) code = (code_of instr ≡ code) × (operand_of instr ≡ Nothing)
HasCode (heads.Numbered form) code = (n : ℕ) → code_of (with_number form n) ≡ code
HasCode (heads.Typed form) code = (t : IntType) → code_of (with_type form t) ≡ code
