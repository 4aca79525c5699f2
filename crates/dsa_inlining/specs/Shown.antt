-- A function that is called, in memory.
use Rattle.std.specs.Prelude.{ℕ, ◌<◌, length, Option}
use Rattle.c_typed.specs.DefinitionViews.{LiteralsStand}
use Rattle.tac_ir.specs.Code.{Tac}
use Rattle.tac_ir.specs.Views.{tac_of}
use Rattle.heap_graph.specs.Graphs.{Graph}
use Rattle.graph_unification.specs.declared.graph.Graph as memory_graph
use Rattle.graph_unification.specs.Memory.{graph_in}
use Rattle.heap_graph.specs.Frozen.{bare, own_graph}
use Rattle.graph_unification.specs.Standing.{CodeStands}
use Rattle.dsa_inlining.specs.Copied.{numbers_in, AreCopied}
use Rattle.dsa_inlining.specs.declared.crossed.Crossed.{Crossed}
use Rattle.dsa_inlining.specs.Crossed.{IsCallee}

abbrev pub code_of : Crossed → Tac
code_of crossed = tac_of crossed.tac.now

-- the graph that its caller has in memory
abbrev pub shown : Crossed → memory_graph.Graph → Graph
shown crossed graph = graph_in crossed.tac.now.types graph

-- its own
abbrev pub callee_of : Crossed → Graph
callee_of crossed = own_graph crossed.tac.now.types crossed.callee.now crossed.names.now

abbrev pub copies_of : Crossed → ℕ → Option ℕ
copies_of crossed = numbers_in crossed.copies.now

-- what is known of it and of the program
pub record IsKnown (crossed : Crossed) : Type 0 where
  pub code : CodeStands (code_of crossed)
  pub literals : LiteralsStand crossed.tac.now.types crossed.tac.now.literals.items
  pub within : crossed.called < length crossed.tac.now.functions.items
  pub callee : IsCallee (code_of crossed) crossed.called (callee_of crossed) (copies_of crossed)

-- its nodes are copied into its caller's graph
abbrev pub HasCopies : Crossed → memory_graph.Graph → Type 0
HasCopies crossed graph = AreCopied (code_of crossed).structs (shown crossed graph) (bare crossed.tac.now.types crossed.callee.now) (copies_of crossed)
