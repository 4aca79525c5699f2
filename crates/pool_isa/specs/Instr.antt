-- The spelling of an instruction: a byte that is its code, and then its operand, a number or the byte of a type.
use Rattle.std.specs.Prelude.{◌≡◌, ℕ, ◌+◌, ◌^◌, ◌<◌, List, [], ◌∷◌}
use Rattle.pool_isa.specs.declared.instr.Instr.{Instr}
use Rattle.pool_isa.specs.declared.instr.Instr.TheVariants.{Constant, Discard, Duplicate, Swap, Local, Load, Store, LoadLink, StoreLink, Jump, JumpIfZero, JumpIfNotZero, Call, CallIndirect, Return, ReturnValue, Exit, Trap, Binary, Negate, Complement, Compare, Convert, PoolInit, PoolDestroy, PoolAlloc, PoolFree, GetChar, PutChar}
use Rattle.pool_isa.specs.declared.code.Operand.{Operand}
use Rattle.pool_isa.specs.declared.code.Operand.TheVariants.{Nothing, Number, Typed}
use Rattle.pool_isa.specs.Code.{type_code, width_code, operator_code, relation_code}
use Rattle.pool_isa.specs.Number.{number_bytes}

-- the byte that an instruction begins with
abbrev pub code_of : Instr → ℕ
code_of (Constant n) = 0x01
code_of Discard = 0x02
code_of Duplicate = 0x03
code_of Swap = 0x04
code_of (Local n) = 0x05
code_of (Load t) = 0x10 + type_code t
code_of (Store w) = 0x18 + width_code w
code_of LoadLink = 0x1C
code_of StoreLink = 0x1D
code_of (Jump n) = 0x20
code_of (JumpIfZero n) = 0x21
code_of (JumpIfNotZero n) = 0x22
code_of (Call n) = 0x23
code_of (CallIndirect n) = 0x24
code_of Return = 0x25
code_of ReturnValue = 0x26
code_of Exit = 0x27
code_of Trap = 0x28
code_of (Binary op t) = 0x30 + operator_code op
code_of (Negate t) = 0x3A
code_of (Complement t) = 0x3B
code_of (Compare c t) = 0x3C + relation_code c
code_of (Convert t) = 0x42
code_of (PoolInit n) = 0x50
code_of PoolDestroy = 0x51
code_of PoolAlloc = 0x52
code_of PoolFree = 0x53
code_of GetChar = 0x60
code_of PutChar = 0x61

-- what follows the code
abbrev pub operand_of : Instr → Operand
operand_of (Constant n) = Number n
operand_of (Local n) = Number n
operand_of (Jump n) = Number n
operand_of (JumpIfZero n) = Number n
operand_of (JumpIfNotZero n) = Number n
operand_of (Call n) = Number n
operand_of (CallIndirect n) = Number n
operand_of (PoolInit n) = Number n
operand_of (Binary op t) = Typed t
operand_of (Negate t) = Typed t
operand_of (Complement t) = Typed t
operand_of (Compare c t) = Typed t
operand_of (Convert t) = Typed t
operand_of _ = Nothing

abbrev pub operand_bytes : Operand → List ℕ
operand_bytes Nothing = []
operand_bytes (Number n) = number_bytes n
operand_bytes (Typed t) = type_code t ∷ []

-- the one spelling of an instruction
abbrev pub spelling : Instr → List ℕ
spelling instr = code_of instr ∷ operand_bytes (operand_of instr)

-- numbers have 64 bits
abbrev pub FitsOperand : Operand → Type 0
FitsOperand Nothing = Unit {0}
FitsOperand (Number n) = n < 2 ^ 64
FitsOperand (Typed t) = Unit {0}

abbrev pub Fits : Instr → Type 0
Fits instr = FitsOperand (operand_of instr)

abbrev pub IsInstrSpelling : List ℕ → Type 0
IsInstrSpelling bytes = (instr : Instr) × Fits instr × (bytes ≡ spelling instr)
