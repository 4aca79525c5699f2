use Rattle.std.proofs.Common.{◌≡◌, ℕ, ◌+◌, ◌≤◌, List, ◌++◌, Some}
use Rattle.ref_meaning.specs.Running.{Behaviour, StandsFor, IsConsistentUnlessOver}
use Rattle.ref_meaning.proofs.Going.{Goes}
use Rattle.ref_meaning.proofs.run.RefRun.go_on.Given as goal

-- each run that it stood for goes on behind the units that are spent
abbrev pub invariant-loop : goal.invariant-loop
invariant-loop g l = record {
  can : IsConsistentUnlessOver l.self;
  counted : l.self.spent + l.left ≡ l.initial.self.spent + l.steps;
  counts : l.initial.self.spent ≤ l.self.spent;
  goes : (written : List ℕ) (behaviour : Behaviour) (base rest : List ℕ) → StandsFor l.initial.self written behaviour → g.I.Source.left l.initial.input ≡ Some rest → g.O.Sink.written l.initial.out ≡ Some (base ++ written)
      → Goes l.initial.self l.self behaviour base rest l.steps l.left (g.I.Source.left l.input) (g.O.Sink.written l.out);
  reads : g.I.Source.faults l.input ≡ g.I.Source.faults l.initial.input;
  writes : g.O.Sink.faults l.out ≡ g.O.Sink.faults l.initial.out;
}
