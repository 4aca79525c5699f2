-- A function of a program with its graph, while its points are judged.
use Rattle.std.specs.Prelude.{◌≡◌, true}
use Rattle.c_typed.specs.Table.{type_in}
use Rattle.c_typed.specs.DefinitionViews.{LiteralsStand}
use Rattle.c_typed.specs.Sizes.{are_filled}
use Rattle.tac_ir.specs.declared.register.Local.{Local}
use Rattle.tac_ir.specs.declared.register.Register.{Register}
use Rattle.tac_ir.specs.Code.{Tac}
use Rattle.tac_ir.specs.Objects.{own_type}
use Rattle.tac_ir.specs.States.{Owner, function_of, objects_of}
use Rattle.tac_ir.specs.Views.{tac_of}
use Rattle.heap_graph.specs.Graphs.{Graph}
use Rattle.heap_graph.specs.Points.{is_null, type_of_inner}
use Rattle.heap_graph.specs.Structures.{AreMade}
use Rattle.heap_graph.specs.Frozen.{own_graph}
use Rattle.heap_graph.specs.Known.{is_marked, local_type, owner_at}
use Rattle.graph_checker.specs.declared.context.Context.{Context}

abbrev pub code_of : Context → Tac
code_of context = tac_of context.tac.now

abbrev pub graph_of : Context → Graph
graph_of context = own_graph context.tac.now.types context.graph.now context.names.now

abbrev pub owner_of : Context → Owner
owner_of context = owner_at context.scope.now.owner

-- The function is one of the program.
pub record IsContext (context : Context) : Type 0 where
  pub nulls : (register : Register) → is_marked context.scope.now.nulls register ≡ is_null (code_of context) (owner_of context) register
  pub types : (local : Local)
      → type_in context.tac.now.types (local_type context.scope.now.locals local) ≡ type_of_inner (own_type (objects_of (function_of (code_of context) (owner_of context))) local)
  pub literals : LiteralsStand context.tac.now.types context.tac.now.literals.items
  pub made : AreMade (code_of context).structs
  pub filled : are_filled (code_of context).structs ≡ true
