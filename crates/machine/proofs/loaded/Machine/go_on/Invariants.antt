use Rattle.std.proofs.Common.{◌≡◌, ℕ, ◌+◌, ◌≤◌, List, ◌++◌, Some}
use Rattle.run_theory.specs.Runs.{Trace, output_of}
use Rattle.pool_isa.specs.Machine.{History}
use Rattle.machine.specs.Run.{state_at}
use Rattle.machine.specs.Loaded.{ready_of, IsLoaded}
use Rattle.machine.proofs.Running.{Stands, Kept}
use Rattle.machine.proofs.loaded.Machine.go_on.Given as goal

abbrev pub invariant-loop-remaining : goal.invariant-loop-remaining
invariant-loop-remaining g l = record {
  loaded : IsLoaded l.self;
  kept : Kept (ready_of l.initial.self) (ready_of l.self);
  within : l.remaining ≤ l.fn.steps;
  spent : l.self.spent + l.remaining ≡ l.initial.self.spent + l.fn.steps;
  read_faultless : g.I.Source.faults l.input ≡ g.I.Source.faults l.initial.input;
  write_faultless : g.O.Sink.faults l.out ≡ g.O.Sink.faults l.initial.out;
  stands : (made : ℕ) → made + l.remaining ≡ l.fn.steps → (history : History) (left base : List ℕ) (trace : Trace) → g.I.Source.left l.initial.input ≡ Some left → g.O.Sink.written l.initial.out ≡ Some (base ++ output_of trace)
      → Stands (ready_of l.initial.self).code (state_at (ready_of l.initial.self) history left trace) base made (ready_of l.self).activations (ready_of l.self).heap (g.I.Source.left l.input) (g.O.Sink.written l.out);
}

abbrev pub decreases-loop-remaining : goal.decreases-loop-remaining
decreases-loop-remaining g l = l.remaining
