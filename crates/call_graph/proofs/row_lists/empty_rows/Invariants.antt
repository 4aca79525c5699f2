use Rattle.call_graph.specs.Rows.{AreEmpty}
use Rattle.call_graph.proofs.row_lists.empty_rows.Given as goal

abbrev pub invariant-loop : goal.invariant-loop
invariant-loop l = AreEmpty l.counter l.rows
