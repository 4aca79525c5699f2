-- The graph of a group in memory that is only read.
use Rattle.std.specs.Prelude.{◌≡◌, List, length, Option}
use Rattle.c_typed.specs.Table.{Interned}
use Rattle.tac_ir.specs.declared.register.FunctionId.{FunctionId}
use Rattle.tac_ir.specs.declared.program.Tac.{Tac}
use Rattle.tac_ir.specs.Views.{tac_of}
use Rattle.heap_graph.specs.Graphs.{Graph}
use Rattle.heap_graph.specs.Frozen.{graph_with}
use Rattle.heap_graph.specs.Completed.{HasNodes}
use Rattle.heap_graph.specs.Edges.{EdgesAreFound}
use Rattle.dsa_inlining.specs.declared.group.Frozen.{Frozen}
use Rattle.dsa_inlining.specs.Owners.{is_owner, names_in}
use Rattle.dsa_inlining.specs.Kept.{IsFrozen}

-- the graph in which the owners have their names
abbrev pub kept_in : Interned → List (Option FunctionId) → Frozen → Graph
kept_in table owners frozen = graph_with table frozen.graph (names_in owners frozen.names.items)

-- That graph is what is kept of the one that was made. Its names and edges lead to nodes, and each edge in memory is the one that is found at
-- its slot.
pub record IsFrozenGroup (table : Interned) (tac : Tac) (owners : List (Option FunctionId)) (made : Graph) (frozen : Frozen) : Type 0 where
  pub size : length frozen.names.items ≡ length owners
  pub kept : IsFrozen (tac_of tac) (is_owner owners) made (kept_in table owners frozen)
  pub sound : HasNodes (kept_in table owners frozen)
  pub found : EdgesAreFound frozen.graph
