use Rattle.std.proofs.Common.{◌≡◌}
use Rattle.pool_isa.specs.Machine.{Function, next_start}
use Rattle.machine.specs.Promises.{AdvancesBy}
use Rattle.machine.proofs.activation.Activation.advance_by.Given as goal

abbrev pub invariant-loop-made : goal.invariant-loop-made
invariant-loop-made l = record {
  function : l.self.function ≡ l.initial.self.function;
  frame : next_start l.self ≡ next_start l.initial.self;
  start : l.self.start ≡ l.initial.self.start;
  advances : (function : Function) → function.code ≡ l.fn.code → function.height ≡ l.fn.height → AdvancesBy function l.made l.initial.self l.self;
}
