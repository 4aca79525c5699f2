use Rattle.std.proofs.Common.{◌≡◌, map, drop}
use Rattle.std.specs.List.{list_any}
use Rattle.tac_ir.specs.Views.{step_of}
use Rattle.heap_graph.specs.Points.{is_member}
use Rattle.graph_checker.proofs.context.has_member.Given as goal

-- there is none before the index
abbrev pub invariant-loop-step : goal.invariant-loop-step
invariant-loop-step l = list_any is_member (map step_of (drop l.step-index l.steps)) ≡ list_any is_member (map step_of l.steps)
