-- Programs without structures, variables outside functions and literals.
use Rattle.std.specs.Prelude.{◌≡◌, List, [], length}
use Rattle.std.specs.List.{AllByRecursion}
use Rattle.c_typed.specs.Table.{Interned, structs_in}
use Rattle.tac_ir.specs.declared.program.Function.{Function}
use Rattle.tac_ir.specs.declared.program.Tac.{Tac}
use Rattle.heap_graph.specs.declared.frozen.FrozenGraph.{FrozenGraph}
use Rattle.heap_graph.specs.Embeddings.{NodesHaveSlots}

pub record IsPlain (tac : Tac) : Type 0 where
  pub structs : structs_in tac.types ≡ []
  pub globals : tac.globals.items ≡ []
  pub literals : tac.literals.items ≡ []

-- a function has no local in memory
abbrev pub HasNoObjects : Function → Type 0
HasNoObjects function = length function.objects.items ≡ 0

abbrev pub HaveNoObjects : List Function → Type 0
HaveNoObjects functions = AllByRecursion HasNoObjects functions

-- the types of all graphs' nodes have slots
abbrev pub HaveSlots : Interned → List FrozenGraph → Type 0
HaveSlots table graphs = AllByRecursion (NodesHaveSlots table) graphs
