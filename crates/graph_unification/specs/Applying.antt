-- What is done to a graph that is being made.
use Rattle.std.specs.Prelude.{◌≡◌, Bool, true, false, ◌&&◌, ◌||◌, List, [], ◌∷◌}
use Rattle.std.specs.List.{list_any}
use Rattle.c_typed.specs.Types.{CType}
use Rattle.c_typed.specs.Layouts.{StructDef}
use Rattle.c_typed.specs.Table.{type_in}
use Rattle.c_typed.specs.DefinitionViews.{LiteralsStand}
use Rattle.tac_ir.specs.declared.register.Local.{Local}
use Rattle.tac_ir.specs.declared.register.Register.{Register}
use Rattle.tac_ir.specs.declared.path.Base as memory_base
use Rattle.tac_ir.specs.declared.path.Path as memory_path
use Rattle.tac_ir.specs.Code.{Op, Path, Operand, Tac}
use Rattle.tac_ir.specs.Objects.{own_type}
use Rattle.tac_ir.specs.States.{Owner, function_of, objects_of}
use Rattle.tac_ir.specs.Views.{tac_of, base_in, path_in}
use Rattle.heap_graph.specs.Graphs.{Name, Graph}
use Rattle.heap_graph.specs.Targets.{Part, same_target, at_target, edge_at, points_to, implies}
use Rattle.heap_graph.specs.Points.{is_null, type_of_inner, is_data_pointer, is_member, of_register, takes, base_part, path_part, base_typed, base_used, stored_closed}
use Rattle.heap_graph.specs.Structures.{AreMade}
use Rattle.heap_graph.specs.Merging.{GraphMap, Maps, IsOnto}
use Rattle.heap_graph.specs.Known.{is_marked, local_type, owner_at}
use Rattle.graph_unification.specs.declared.graph.Graph as memory_graph
use Rattle.graph_unification.specs.Memory.{graph_in}
use Rattle.graph_unification.specs.declared.marks.Mark.{Mark}
use Rattle.graph_unification.specs.Asked.{has_mark}
use Rattle.graph_unification.specs.Leading.{Leads}
use Rattle.heap_graph.specs.Asks.{is_certain, point_asked}
use Rattle.graph_unification.specs.declared.applied.Applied.{Applied}

-- ---- the function whose points are applied

abbrev pub code_of : Applied → Tac
code_of applied = tac_of applied.tac.now

abbrev pub owner_of : Applied → Owner
owner_of applied = owner_at applied.scope.now.owner

-- the graph that it has in memory
abbrev pub shown : Applied → memory_graph.Graph → Graph
shown applied graph = graph_in applied.tac.now.types graph

abbrev pub base_at : Applied → memory_graph.Graph → memory_base.Base → Part
base_at applied graph base = base_part (code_of applied) (shown applied graph) (owner_of applied) (base_in applied.tac.now.types base)

abbrev pub path_at : Applied → memory_graph.Graph → memory_path.Path → Part
path_at applied graph path = path_part (code_of applied) (shown applied graph) (owner_of applied) (path_in applied.tac.now.types path)

-- what is known of it is so
pub record IsKnown (applied : Applied) : Type 0 where
  pub nulls : (register : Register) → is_marked applied.scope.now.nulls register ≡ is_null (code_of applied) (owner_of applied) register
  pub types : (local : Local)
      → type_in applied.tac.now.types (local_type applied.scope.now.locals local) ≡ type_of_inner (own_type (objects_of (function_of (code_of applied) (owner_of applied))) local)
  pub literals : LiteralsStand applied.tac.now.types applied.tac.now.literals.items
  pub made : AreMade (code_of applied).structs

-- ---- changes of a graph

-- A graph is changed, if at all, on the way to each that is wanted; where it isn't changed, it is wanted itself.
pub record Applies (structs : List StructDef) (changed : Bool) (old new : Graph) (wanted : Graph → Type 0) : Type 0 where
  pub leads : Leads structs old new wanted
  pub map : GraphMap
  pub maps : Maps structs old new map
  pub onto : IsOnto old new map
  pub done : changed ≡ false → (new ≡ old) × wanted new

abbrev pub AppliesTo : Applied → Bool → memory_graph.Graph → memory_graph.Graph → (Graph → Type 0) → Type 0
AppliesTo applied changed old new wanted = Applies (code_of applied).structs changed (shown applied old) (shown applied new) wanted

-- ---- what is wanted

abbrev pub AreSame : Name → Name → Graph → Type 0
AreSame a b graph = same_target (graph.targets a) (graph.targets b) ≡ true

abbrev pub IsMarked : Name → Mark → Graph → Type 0
IsMarked name mark graph = at_target graph (graph.targets name) (λ node shift. has_mark mark node.flags) ≡ true

abbrev pub IsMarkedIf : Bool → Name → Mark → Graph → Type 0
IsMarkedIf asked name mark graph = at_target graph (graph.targets name) (λ node shift. implies asked (has_mark mark node.flags)) ≡ true

abbrev pub IsTold : List StructDef → Name → CType → Graph → Type 0
IsTold structs name c_type graph = points_to structs graph c_type (graph.targets name) ≡ true

-- what a register holds comes to the target of a name, unless it is a null constant's
abbrev pub IsTaken : Tac → Owner → Name → Register → Graph → Type 0
IsTaken tac owner name from graph = takes tac graph owner (graph.targets name) from ≡ true

-- what a register points to is an array's element, once that is asked
abbrev pub IsOfArray : Tac → Owner → Register → Graph → Type 0
IsOfArray tac owner from graph =
    (is_null tac owner from || implies (is_certain graph (of_register tac graph owner from)) (at_target graph (of_register tac graph owner from) (λ node shift. node.flags.array))) ≡ true

-- it is of a type, once that is asked
abbrev pub IsOfType : Tac → Owner → CType → Register → Graph → Type 0
IsOfType tac owner c_type from graph =
    (is_null tac owner from || implies (is_certain graph (of_register tac graph owner from)) (points_to tac.structs graph c_type (of_register tac graph owner from))) ≡ true

abbrev pub IsPlace : Tac → Owner → Name → Path → Graph → Type 0
IsPlace tac owner name path graph = same_target (graph.targets name) (path_part tac graph owner path).target ≡ true

abbrev pub IsLinked : Tac → Owner → Name → Path → Graph → Type 0
IsLinked tac owner name path graph = same_target (graph.targets name) (edge_at graph (path_part tac graph owner path).target) ≡ true

-- where a path has a member, what its pointer points to is of the type that the pointer tells
abbrev pub IsMemberTyped : Tac → Owner → Path → Graph → Type 0
IsMemberTyped tac owner path graph = implies (list_any is_member path.steps) (base_typed tac graph owner path.base) ≡ true

-- the object of a path is of the type that a pointer tells, an array where it is indexed, and read or written
abbrev pub IsTouched : Tac → Owner → Path → Mark → Graph → Type 0
IsTouched tac owner path mark graph =
    (base_typed tac graph owner path.base ≡ true) × (base_used tac graph owner path ≡ true) × (at_target graph (base_part tac graph owner path.base).target (λ node shift. has_mark mark node.flags) ≡ true)

-- a pointer that is read from where a path leads is held by a register
abbrev pub IsHeld : Tac → Owner → Register → CType → Path → Graph → Type 0
IsHeld tac owner to scalar path graph =
    implies (is_data_pointer scalar) (is_certain graph (of_register tac graph owner to) && same_target (of_register tac graph owner to) (edge_at graph (path_part tac graph owner path).target)) ≡ true

-- a pointer that is stored is kept where the path leads
abbrev pub IsKept : Tac → Owner → CType → Operand → Path → Graph → Type 0
IsKept tac owner scalar value path graph = stored_closed tac graph owner scalar value path ≡ true

-- ---- points

abbrev pub IsAsked : Tac → Owner → Op → Graph → Type 0
IsAsked tac owner op graph = point_asked tac graph owner op ≡ true

abbrev pub AllAsked : Tac → Owner → List Op → Graph → Type 0
AllAsked tac owner [] graph = Unit {0}
AllAsked tac owner (op ∷ ops) graph = IsAsked tac owner op graph × AllAsked tac owner ops graph

-- where what is left is done after what was done, all is done
abbrev pub GoesOn : Tac → Owner → Graph → List Op → Bool → Graph → List Op → Type 0
GoesOn tac owner start all changed graph left =
    (b : Bool) (new : Graph) → Applies tac.structs b graph new (AllAsked tac owner left) → Applies tac.structs (changed || b) start new (AllAsked tac owner all)
