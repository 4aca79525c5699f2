use Rattle.std.proofs.Common.{◌≡◌, map, drop}
use Rattle.c_typed.specs.DefinitionViews.{global_in}
use Rattle.heap_graph.specs.Closed.{first_closed}
use Rattle.graph_checker.specs.Values.{family_of}
use Rattle.graph_checker.proofs.values.Values.globals_closed.Given as goal

-- the variables from the number on ask what all ask
abbrev pub invariant-loop-number : goal.invariant-loop-number
invariant-loop-number l =
    first_closed (family_of l.self) l.number (map (global_in l.self.tac.now.types) (drop l.number l.globals)) ≡ first_closed (family_of l.self) 0 (map (global_in l.self.tac.now.types) l.globals)
