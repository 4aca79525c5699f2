use Rattle.std.proofs.Common.{◌≡◌, ◌+◌, ◌*◌, ◌<◌, map, drop}
use Rattle.std.specs.Prelude.{◌^◌, IfSome}
use Rattle.tac_ir.specs.Views.{step_of}
use Rattle.heap_graph.specs.Points.{steps_part}
use Rattle.heap_graph.specs.TargetParts.Parts.{root_in, part_in}
use Rattle.graph_checker.specs.Contexts.{code_of, graph_of, owner_of}
use Rattle.graph_checker.proofs.context.Context.place_of.Given as goal

-- the steps from the index on lead from the part on, whose shift grew by at most 2 ^ 62 with each step
abbrev pub invariant-loop-step : goal.invariant-loop-step
invariant-loop-step l = record {
  leads : steps_part (code_of l.self) (graph_of l.self) (owner_of l.self) (map step_of (drop l.step-index l.steps)) (part_in l.self.tac.now.types l.part)
      ≡ steps_part (code_of l.self) (graph_of l.self) (owner_of l.self) (map step_of l.steps) (root_in l.self.tac.now.types l.fn.root);
  small : IfSome l.part.target (λ r. r.shift < 2 ^ 64 + l.step-index * 2 ^ 62);
}
