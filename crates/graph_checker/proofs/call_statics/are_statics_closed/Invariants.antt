use Rattle.std.proofs.Common.{◌≡◌, ℕ, ◌<◌, true, get_or}
use Rattle.c_typed.specs.Table.{Interned}
use Rattle.heap_graph.specs.Frozen.{bare, static_in}
use Rattle.graph_checker.specs.Images.{static_kept}
use Rattle.graph_checker.proofs.call_statics.are_statics_closed.Given as goal

-- those before this place are kept
abbrev pub invariant-loop-number : goal.invariant-loop-number
invariant-loop-number l =
    (place : ℕ) → place < l.number-index → get_or l.number-items place 0 < l.count → (table : Interned)
    → static_kept (bare table l.graph) (static_in l.embedding) (static_in l.own (get_or l.number-items place 0)) (static_in l.called (get_or l.number-items place 0)) ≡ true
