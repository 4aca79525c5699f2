-- What is known before a function is judged.
use Rattle.std.specs.Prelude.{◌≡◌, ℕ, ◌<◌, ◌↔◌, true, List, map, length, slice_get, Option, Some, None}
use Rattle.std.specs.List.{AllByRecursion}
use Rattle.c_typed.specs.declared.definition.GlobalDef.{GlobalDef}
use Rattle.c_typed.specs.declared.definition.LiteralDef.{LiteralDef}
use Rattle.c_typed.specs.DefinitionViews.{LiteralsStand}
use Rattle.c_typed.specs.Table.{structs_in, type_in}
use Rattle.c_typed.specs.Sizes.{are_filled}
use Rattle.tac_ir.specs.declared.program.Function as memory_function
use Rattle.tac_ir.specs.declared.program.LocalObject.{LocalObject}
use Rattle.tac_ir.specs.declared.program.Tac as memory_tac
use Rattle.tac_ir.specs.declared.register.Register.{Register}
use Rattle.tac_ir.specs.Code as O
use Rattle.tac_ir.specs.Code.{Callee, Known, Op}
use Rattle.tac_ir.specs.States.{InFunction}
use Rattle.tac_ir.specs.Views.{tac_of}
use Rattle.tac_ir.specs.Targets.{is_target}
use Rattle.call_graph.specs.GroupViews.{CallsKnown}
use Rattle.heap_graph.specs.Closed.{Family, graph_of, group_of}
use Rattle.heap_graph.specs.Escaping.{Escapes}
use Rattle.heap_graph.specs.Structures.{AreMade}
use Rattle.heap_graph.specs.declared.frozen.FrozenGraph.{FrozenGraph}
use Rattle.heap_graph.specs.declared.marks.NodeMarks.{NodeMarks}
use Rattle.heap_graph.specs.Marks.{is_marked}
use Rattle.heap_graph.specs.Edges.{EdgesAreFound}
use Rattle.graph_checker.specs.Objects.{ObjectsHaveSlots}
use Rattle.heap_graph.specs.Embeddings.{NodesHaveSlots}
use Rattle.graph_checker.specs.declared.program.Member.{Member}
use Rattle.graph_checker.specs.declared.program.Program.{Program}
use Rattle.graph_checker.specs.Programs.{family_of, IsProgram}

-- the groups before that of a function; before `start` all of them
abbrev pub limit_of : Program → Option ℕ → ℕ
limit_of program None = length program.groups.now.members.items
limit_of program (Some group) = group

-- a call may come to functions of the program alone, in its own group or in one before
pub record CallFits (program : Program) (group : Option ℕ) (callee : Callee) : Type 0 where
  pub within : (called : ℕ) → is_target (tac_of program.tac.now) callee called ≡ true → called < length program.tac.now.functions.items
  pub before : (called : ℕ) → is_target (tac_of program.tac.now) callee called ≡ true → (group ≡ Some (group_of (family_of program) called) → ⊥)
      → group_of (family_of program) called < limit_of program group

abbrev pub OpFits : Program → Option ℕ → Op → Type 0
OpFits program group (O.Call site callee arguments) = CallFits program group callee
OpFits program group op = Unit {0}

abbrev pub AllFit : Program → Option ℕ → List Op → Type 0
AllFit program group ops = AllByRecursion (OpFits program group) ops

-- ---- graphs of the groups before

-- the nodes that escape a function are nodes of its graph
abbrev pub EscapeWithin : Family → ℕ → Type 0
EscapeWithin family called = (node : ℕ) → Escapes (graph_of family (InFunction called)) (InFunction called) node → node < length (graph_of family (InFunction called)).nodes

-- of the nodes of a function's graph, those that escape it are marked
abbrev pub AreEscaping : Family → ℕ → Member → NodeMarks → Type 0
AreEscaping family called member marks =
    (node : ℕ) → node < length member.graph.now.nodes.items → (is_marked marks node ≡ true) ↔ Escapes (graph_of family (InFunction called)) (InFunction called) node

-- in graphs of these groups, edges are those that are found at their slots, and what escapes a function is there
pub record SoundBefore (program : Program) (limit : ℕ) : Type 0 where
  pub edges : (at : ℕ) → at < limit → (graph : FrozenGraph) → slice_get program.graphs.now.graphs.items at ≡ Some graph → EdgesAreFound graph
  pub inside : (called : ℕ) → group_of (family_of program) called < limit → EscapeWithin (family_of program) called

-- ---- programs

abbrev pub ObjectsFit : memory_tac.Tac → memory_function.Function → Type 0
ObjectsFit tac function = ObjectsHaveSlots (structs_in tac.types) (map (λ (object : LocalObject). type_in tac.types object.c_type) function.objects.items)

-- The groups are those of the program, with a graph for each; functions that are called by name are the program's; types are as the table
-- keeps them, and objects and nodes are of types that have slots.
pub record IsFit (program : Program) : Type 0 where
  pub whole : IsProgram program
  pub known : CallsKnown (tac_of program.tac.now)
  pub known_first : (at site function : ℕ) (arguments : List Register) → slice_get (tac_of program.tac.now).start.points at ≡ Some (O.Call site (Known function) arguments)
      → function < length program.tac.now.functions.items
  pub made : AreMade (structs_in program.tac.now.types)
  pub filled : are_filled (structs_in program.tac.now.types) ≡ true
  pub literals : LiteralsStand program.tac.now.types program.tac.now.literals.items
  pub objects : (number : ℕ) (function : memory_function.Function) → slice_get program.tac.now.functions.items number ≡ Some function → ObjectsFit program.tac.now function
  pub first_objects : ObjectsFit program.tac.now program.tac.now.start
  pub variables : ObjectsHaveSlots (structs_in program.tac.now.types) (map (λ (global : GlobalDef). type_in program.tac.now.types global.c_type) program.tac.now.globals.items)
  pub literal_types : ObjectsHaveSlots (structs_in program.tac.now.types) (map (λ (literal : LiteralDef). type_in program.tac.now.types literal.c_type) program.tac.now.literals.items)
  pub nodes : (number : ℕ) (graph : FrozenGraph) → slice_get program.graphs.now.graphs.items number ≡ Some graph → NodesHaveSlots program.tac.now.types graph
  pub first_nodes : NodesHaveSlots program.tac.now.types program.graphs.now.start
