-- What escapes a function.
use Rattle.std.proofs.Common.{◌≡◌, ℕ, ◌<◌, ◌↔◌, ◌⊎◌, inl, inr, true, length}
use Rattle.c_typed.specs.Table.{Interned}
use Rattle.tac_ir.specs.declared.register.Local.TheVariants as L
use Rattle.tac_ir.specs.declared.register.Register.TheVariants as R
use Rattle.tac_ir.specs.States.{Owner}
use Rattle.heap_graph.specs.Escaping.{Escapes}
use Rattle.heap_graph.specs.Closed.{Family, graph_of}
use Rattle.heap_graph.specs.declared.frozen.FunctionNames.{FunctionNames}
use Rattle.heap_graph.specs.declared.frozen.FrozenGraph.{FrozenGraph}
use Rattle.heap_graph.specs.Shows.{ShowsGraph, ShowsNames}
use Rattle.heap_graph.specs.declared.marks.NodeMarks.{NodeMarks}
use Rattle.heap_graph.specs.Marks.{is_marked, IsOutside, IsMentionedBy}
use Rattle.heap_graph.specs.Edges.{EdgesAreFound, Comes}
use Rattle.heap_graph.proofs.Marking.{AreThese}
use Rattle.heap_graph.proofs.Outside.{Begins, escapes_from, begins_outside, begins_mentioned, outside_or_mentioned}
use Rattle.heap_graph.proofs.Reaching.{reaches_from_comes, comes_from_reaches}

module _ (table : Interned) (family : Family) (owner : Owner) (graph : FrozenGraph) (names : FunctionNames) (shows : ShowsGraph table family owner graph) (named : ShowsNames family owner names) where
  begins : (number : ℕ) → IsOutside names number ⊎ IsMentionedBy graph number → Begins (graph_of family owner) owner number
  begins number (inl is) =
      begins_outside (graph_of family owner) owner names graph (λ place. named.registers (R.Local (L.Parameter place))) named.returned shows.globals shows.literals number is
  begins number (inr is) =
      begins_mentioned (graph_of family owner) owner names graph (λ place. named.registers (R.Local (L.Parameter place))) named.returned shows.globals shows.literals number is

  pub marked_escapes : EdgesAreFound graph → (marks : NodeMarks)
      → AreThese graph.nodes.items marks (λ number. (start : ℕ) × (IsOutside names start ⊎ IsMentionedBy graph start) × Comes graph.nodes.items start number)
      → (number : ℕ) → number < length graph.nodes.items → (is_marked marks number ≡ true) ↔ Escapes (graph_of family owner) owner number
  marked_escapes found marks these number within = (λ is. to ((these.exactly number within).0 is), λ escapes. (these.exactly number within).1 (from escapes))
    where
      to : (start : ℕ) × (IsOutside names start ⊎ IsMentionedBy graph start) × Comes graph.nodes.items start number → Escapes (graph_of family owner) owner number
      to come = escapes_from (graph_of family owner) owner come.0 number (begins come.0 come.1) (reaches_from_comes table graph (graph_of family owner) shows.nodes found come.0 number come.2)

      from : Escapes (graph_of family owner) owner number → (start : ℕ) × (IsOutside names start ⊎ IsMentionedBy graph start) × Comes graph.nodes.items start number
      from escapes = (
        escapes.target.node,
        outside_or_mentioned (graph_of family owner) owner names graph (λ place. named.registers (R.Local (L.Parameter place))) named.returned shows.globals shows.literals
            escapes.name escapes.target escapes.outside escapes.is,
        comes_from_reaches table graph (graph_of family owner) shows.nodes escapes.target.node number escapes.reaches,
      )
