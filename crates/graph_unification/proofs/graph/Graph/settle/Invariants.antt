use Rattle.std.proofs.Common.{[], ◌∷◌, reverse}
use Rattle.graph_unification.specs.Turns.{ask_in, asks_in, Goes}
use Rattle.graph_unification.proofs.graph.Graph.settle.Given as goal

abbrev pub invariant-loop-turn : goal.invariant-loop-turn
invariant-loop-turn l = Goes l.types l.fn.self l.self (ask_in l.fn.self.nodes l.fn.ask ∷ []) (asks_in l.self.nodes (reverse l.work.items))
