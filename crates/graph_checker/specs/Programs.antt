-- A program with its groups and graphs, and one function of it.
use Rattle.std.specs.Prelude.{◌≡◌, ℕ, length, Option, Some, None}
use Rattle.indexmap.specs.IndexMap.{get_by}
use Rattle.c_typed.specs.Table.{Interned, type_in}
use Rattle.tac_ir.specs.declared.register.FunctionId.{FunctionId}
use Rattle.tac_ir.specs.Views.{tac_of}
use Rattle.tac_ir.specs.States.{Owner, InStart, InFunction}
use Rattle.tac_ir.specs.Groups.{AreGroups}
use Rattle.heap_graph.specs.Closed.{Family, group_of, function_type}
use Rattle.call_graph.specs.GroupViews.{groups_of, IsOf}
use Rattle.heap_graph.specs.Programs.{is_crossing, image_in, family_in}
use Rattle.heap_graph.specs.Shows.{ShowsGraph, ShowsNames}
use Rattle.graph_checker.specs.declared.program.Program.{Program}
use Rattle.graph_checker.specs.declared.program.Member.{Member}

abbrev pub family_of : Program → Family
family_of program = family_in program.tac.now (groups_of program.groups.now) program.graphs.now

-- the groups are those of the program, and there is a graph for each of them and for each of its functions
pub record IsProgram (program : Program) : Type 0 where
  pub groups : AreGroups (tac_of program.tac.now) (groups_of program.groups.now)
  pub of : IsOf program.tac.now program.groups.now
  pub graphs : length program.graphs.now.graphs.items ≡ length program.groups.now.members.items
  pub functions : length program.graphs.now.functions.items ≡ length program.tac.now.functions.items

-- the number of the group of a function; `start` has none
abbrev pub GroupIs : Family → Owner → Option ℕ → Type 0
GroupIs family InStart group = group ≡ None
GroupIs family (InFunction number) group = group ≡ Some (group_of family number)

abbrev pub owner_at : Option FunctionId → Owner
owner_at None = InStart
owner_at (Some function) = InFunction function.0

abbrev pub TypeIs : Interned → Family → Owner → Member → Type 0
TypeIs table family InStart member = Unit {0}
TypeIs table family (InFunction number) member = function_type family.tac number ≡ type_in table member.c_type

-- what is kept of a function: its graph, its names, its embeddings, its type and its group
pub record IsMember (table : Interned) (family : Family) (owner : Owner) (member : Member) : Type 0 where
  pub graph : ShowsGraph table family owner member.graph.now
  pub names : ShowsNames family owner member.names.now
  pub embeddings : (site called node : ℕ) → family.graphs.embedding (record { owner = owner; site = site; called = called }) node ≡ image_in (get_by (is_crossing site called) member.embeddings.now) node
  pub c_type : TypeIs table family owner member
  pub group : GroupIs family owner member.group
