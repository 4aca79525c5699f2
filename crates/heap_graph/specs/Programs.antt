-- The plain graphs for which the graphs of a program in memory stand.
use Rattle.std.specs.Prelude.{ℕ, suc, ◌==◌, Bool, ◌&&◌, if◌then◌else◌, List, [], ◌∷◌, slice_get, Option, Some, None}
use Rattle.indexmap.specs.IndexMap.{IndexMap, get_by}
use Rattle.c_typed.specs.Table.{Interned}
use Rattle.tac_ir.specs.declared.program.Tac as memory_tac
use Rattle.tac_ir.specs.Views.{tac_of}
use Rattle.tac_ir.specs.States.{Owner, InStart, InFunction}
use Rattle.heap_graph.specs.declared.graph.Target as memory_target
use Rattle.heap_graph.specs.Graphs.{Target, Graph, Crossing, Embedding}
use Rattle.heap_graph.specs.Closed.{Family, group_from}
use Rattle.heap_graph.specs.Frozen.{static_in, graph_with}
use Rattle.heap_graph.specs.declared.frozen.FunctionNames.{FunctionNames}
use Rattle.heap_graph.specs.declared.frozen.FrozenGraph.{FrozenGraph}
use Rattle.heap_graph.specs.declared.program.Crossing as memory_crossing
use Rattle.heap_graph.specs.declared.program.FunctionGraph.{FunctionGraph}
use Rattle.heap_graph.specs.declared.program.ProgramGraphs.{ProgramGraphs}

-- ---- names

abbrev pub names_if : Bool → Option FunctionGraph → Option FunctionNames
names_if test None = None
names_if test (Some function) = if test then Some function.names else None

-- the names of the functions of the group with this number
abbrev pub group_names : List (List ℕ) → List FunctionGraph → ℕ → Owner → Option FunctionNames
group_names groups functions number InStart = None
group_names groups functions number (InFunction own) = names_if (group_from 0 groups own == number) (slice_get functions own)

-- those of `start`
abbrev pub start_names : FunctionGraph → Owner → Option FunctionNames
start_names start InStart = Some start.names
start_names start (InFunction own) = None

-- ---- graphs

-- those of the groups from a number on
abbrev pub group_graphs : Interned → List (List ℕ) → List FunctionGraph → ℕ → List FrozenGraph → List Graph
group_graphs table groups functions number [] = []
group_graphs table groups functions number (graph ∷ graphs) =
    graph_with table graph (group_names groups functions number) ∷ group_graphs table groups functions (suc number) graphs

-- ---- embeddings

abbrev pub is_crossing : ℕ → ℕ → memory_crossing.Crossing → Bool
is_crossing site called crossing = (crossing.site == site) && (crossing.called == called)

abbrev pub image_in : {S : Type 0} → Option (IndexMap ℕ memory_target.Target S) → ℕ → Option Target
image_in None number = None
image_in (Some targets) number = static_in targets number

abbrev pub function_embedding : Option FunctionGraph → ℕ → ℕ → Embedding
function_embedding None site called number = None
function_embedding (Some function) site called number = image_in (get_by (is_crossing site called) function.embeddings) number

abbrev pub embedding_in : ProgramGraphs → Crossing → Embedding
embedding_in graphs at = of_owner at.owner at.site at.called
  where
    of_owner : Owner → ℕ → ℕ → Embedding
    of_owner InStart site called = function_embedding (Some graphs.start_function) site called
    of_owner (InFunction number) site called = function_embedding (slice_get graphs.functions.items number) site called

-- a program with its groups and their graphs
abbrev pub family_in : memory_tac.Tac → List (List ℕ) → ProgramGraphs → Family
family_in tac groups graphs =
    record {
      tac = tac_of tac;
      groups = groups;
      graphs = record {
        graphs = group_graphs tac.types groups graphs.functions.items 0 graphs.graphs.items;
        start = graph_with tac.types graphs.start (start_names graphs.start_function);
        embedding = embedding_in graphs;
      };
    }
