use Rattle.std.proofs.Common.{◌≡◌, ◌+◌, ◌*◌, ◌<◌, drop}
use Rattle.std.specs.Prelude.{◌^◌, IfSome}
use Rattle.heap_graph.specs.Closed.{first_part}
use Rattle.heap_graph.specs.TargetParts.Parts.{root_in, part_in}
use Rattle.graph_checker.specs.Values.{family_of}
use Rattle.graph_checker.proofs.values.Values.place_of.Given as goal

-- the steps from the index on lead from the part on, whose shift grew by at most 2 ^ 62 with each step
abbrev pub invariant-loop-step : goal.invariant-loop-step
invariant-loop-step l = record {
  leads : first_part (family_of l.self) (drop l.step-index l.parts) (part_in l.self.tac.now.types l.part) ≡ first_part (family_of l.self) l.parts (root_in l.self.tac.now.types l.fn.root);
  small : IfSome l.part.target (λ r. r.shift < 2 ^ 64 + l.step-index * 2 ^ 62);
}
