-- What was made of groups, as the graphs of a program show it.
use Rattle.std.specs.Prelude.{◌≡◌, ℕ, List, slice_get, Option, Some}
use Rattle.tac_ir.specs.declared.register.FunctionId.{FunctionId}
use Rattle.tac_ir.specs.States.{Owner, InStart, InFunction}
use Rattle.graph_unification.specs.Memory.{owner_of}
use Rattle.heap_graph.specs.declared.program.FunctionGraph.{FunctionGraph}
use Rattle.heap_graph.specs.declared.program.ProgramGraphs.{ProgramGraphs}
use Rattle.heap_graph.specs.Shows.{ShowsGraph, ShowsNames}
use Rattle.dsa_inlining.specs.Before.{GraphsBefore, IsReached}
use Rattle.dsa_bottom_up.specs.AssembledGroups.Making.{family_at}

-- the graphs of functions of groups before stand in the family
abbrev pub ShowsReached : GraphsBefore → ProgramGraphs → Type 0
ShowsReached before all =
    (called : ℕ) (reached : IsReached before called) → ShowsGraph before.tac.types (family_at before all) (InFunction called) reached.graph × ShowsNames (family_at before all) (InFunction called) reached.own.names

-- what the graphs of a program tell of an owner
abbrev pub function_in : ProgramGraphs → Owner → Option FunctionGraph
function_in all InStart = Some all.start_function
function_in all (InFunction number) = slice_get all.functions.items number

-- what was made of the owners stands in the graphs of the program
abbrev pub ShowsOwners : ProgramGraphs → List (Option FunctionId) → List FunctionGraph → Type 0
ShowsOwners all owners functions = (place : ℕ) (owner : Option FunctionId) → slice_get owners place ≡ Some owner → function_in all (owner_of owner) ≡ slice_get functions place
