use Rattle.std.proofs.Common.{◌≡◌, ◌++◌, drop}
use Rattle.std.specs.List.{AllByRecursion}
use Rattle.pool_ir.specs.Views.{frame_of, function_of}
use Rattle.stack_code.specs.Emitting.{registers_code}
use Rattle.stack_code.specs.Standing.{HasRegister}
use Rattle.stack_code.proofs.calls.push_registers.Given as goal

-- with the registers that are left, the code is the whole
abbrev pub invariant-loop-register : goal.invariant-loop-register
invariant-loop-register l = record {
  fits : AllByRecursion (HasRegister (frame_of l.function.frame)) (drop l.register-index l.registers);
  code : l.code.items ++ registers_code (function_of l.function) (drop l.register-index l.registers) ≡ l.initial.code.items ++ registers_code (function_of l.function) l.registers;
}
