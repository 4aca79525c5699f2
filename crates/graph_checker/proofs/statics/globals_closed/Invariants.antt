use Rattle.std.proofs.Common.{◌≡◌, map, drop}
use Rattle.std.specs.List.{list_all}
use Rattle.c_typed.specs.Table.{structs_in, type_in}
use Rattle.heap_graph.specs.Frozen.{bare, static_in}
use Rattle.graph_checker.specs.Objects.{static_at}
use Rattle.graph_checker.proofs.statics.globals_closed.Given as goal

-- what is asked holds of the numbers from the index on just where it holds of all
abbrev pub invariant-loop-number : goal.invariant-loop-number
invariant-loop-number l =
    list_all (static_at (structs_in l.types) (bare l.types l.graph) (static_in l.graph.globals) (map (λ global. type_in l.types global.c_type) l.globals)) (drop l.number-index l.number-items)
    ≡ list_all (static_at (structs_in l.types) (bare l.types l.graph) (static_in l.graph.globals) (map (λ global. type_in l.types global.c_type) l.globals)) l.number-items
