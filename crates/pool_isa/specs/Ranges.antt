-- When a function can stand in an image: its numbers are in their ranges, and control stays in it.
use Rattle.std.specs.Prelude.{ℕ, ◌^◌, ◌<◌, ◌≤◌, Bool, true, false, IsTrue, List, [], ◌∷◌, length}
use Rattle.std.specs.List.{AllByRecursion}
use Rattle.pool_isa.specs.declared.instr.Instr.{Instr}
use Rattle.pool_isa.specs.declared.instr.Instr.TheVariants as instrs
use Rattle.pool_isa.specs.Instr.{Fits}
use Rattle.pool_isa.specs.Machine.{Function}

-- a value in a range, its ends included
abbrev pub IsWithin : ℕ → ℕ → ℕ → Type 0
IsWithin low high value = (low ≤ value) × (value ≤ high)

-- the instruction's operand is in range: a jump stays in the function, and functions and kinds are there
abbrev pub InRange : ℕ → ℕ → ℕ → Instr → Type 0
InRange kinds functions instructions (instrs.Jump target) = target < instructions
InRange kinds functions instructions (instrs.JumpIfZero target) = target < instructions
InRange kinds functions instructions (instrs.JumpIfNotZero target) = target < instructions
InRange kinds functions instructions (instrs.Call function) = function < functions
InRange kinds functions instructions (instrs.PoolInit kind) = kind < kinds
InRange kinds functions instructions _ = Unit {0}

-- control doesn't fall through the instruction
abbrev pub is_last : Instr → Bool
is_last (instrs.Jump target) = true
is_last instrs.Return = true
is_last instrs.ReturnValue = true
is_last instrs.Exit = true
is_last instrs.Trap = true
is_last _ = false

-- the last of a list is so; there is one
abbrev pub LastIs : {X : Type 0} → (X → Type 0) → List X → Type 0
LastIs P [] = ⊥
LastIs P (item ∷ []) = P item
LastIs P (item ∷ next ∷ items) = LastIs P (next ∷ items)

pub record IsFunction (kinds functions : ℕ) (function : Function) : Type 0 where
  pub parameters : function.parameters ≤ 320
  pub extra : function.extra ≤ 67108864
  pub height : IsWithin 1 65536 function.height
  pub signature : function.signature < 2 ^ 32
  pub instructions : length function.code < 2 ^ 32
  pub operands : AllByRecursion (λ instr. Fits instr × InRange kinds functions (length function.code) instr) function.code
  pub last : LastIs (λ instr. IsTrue (is_last instr)) function.code
