use Rattle.std.proofs.Common.{◌≡◌, drop}
use Rattle.c_typed.specs.DefinitionViews.{all_first}
use Rattle.heap_graph.specs.Closed.{all_held_closed}
use Rattle.heap_graph.specs.TargetParts.Parts.{root_in}
use Rattle.graph_checker.specs.Values.{family_of}
use Rattle.graph_checker.proofs.values.Values.all_closed.Given as goal

-- the values from the index on ask what all ask
abbrev pub invariant-loop-first : goal.invariant-loop-first
invariant-loop-first l =
    all_held_closed (family_of l.self) (root_in l.self.tac.now.types l.global) (all_first (drop l.first-index l.firsts))
    ≡ all_held_closed (family_of l.self) (root_in l.self.tac.now.types l.global) (all_first l.firsts)
