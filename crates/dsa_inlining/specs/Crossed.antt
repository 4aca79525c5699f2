-- What a call out of a group asks of the caller's graph, in which the nodes that escape the function that is called are copied: what is passed
-- and given, and the variables outside functions and the literals, come to these copies.
use Rattle.std.specs.Prelude.{◌≡◌, ℕ, ◌<◌, Bool, true, false, ◌&&◌, List, length, slice_get, Option, Some}
use Rattle.c_typed.specs.Types.{CType, literal_type}
use Rattle.c_typed.specs.Layouts.{StructDef}
use Rattle.c_typed.specs.Typed.{GlobalDef, LiteralDef}
use Rattle.tac_ir.specs.declared.register.Register.{Register}
use Rattle.tac_ir.specs.declared.register.Register.TheVariants as R
use Rattle.tac_ir.specs.Code.{Tac}
use Rattle.tac_ir.specs.States.{Owner, InFunction}
use Rattle.heap_graph.specs.Graphs.{Target, Name, OfRegister, OfResult, OfGlobal, OfLiteral, Graph}
use Rattle.heap_graph.specs.Targets.{has_target}
use Rattle.heap_graph.specs.Merging.{IsSlot, IsSound}
use Rattle.heap_graph.specs.Points.{is_data_pointer}
use Rattle.heap_graph.specs.Escaping.{is_outside}
use Rattle.heap_graph.specs.Closed.{parameters_of, result_of, function_type, formal}
use Rattle.heap_graph.specs.Asks.{is_certain}
use Rattle.graph_unification.specs.Adding.{NameFits}
use Rattle.graph_unification.specs.GraphNames.First.{object_node, static_flags}
use Rattle.dsa_inlining.specs.Copied.{image}

-- ---- one name

-- a name has the target, of a certain node, where a target of the function that is called is
pub record IsImage (copies : ℕ → Option ℕ) (name : Name) (target : Target) (graph : Graph) : Type 0 where
  pub at : Target
  pub is : graph.targets name ≡ Some at
  pub certain : is_certain graph (Some at) ≡ true
  pub copied : image graph copies target ≡ Some at

-- a name's target is that of a name of the function that is called, if this has one
abbrev pub Comes : Graph → (ℕ → Option ℕ) → Name → Name → Graph → Type 0
Comes callee copies own its graph = (target : Target) → callee.targets its ≡ Some target → IsImage copies own target graph

-- so it is of each variable outside functions, or of each literal
abbrev pub AllCome : Graph → (ℕ → Option ℕ) → (ℕ → Name) → Graph → Type 0
AllCome callee copies name graph = (number : ℕ) → Comes callee copies (name number) (name number) graph

-- the formal has one, and the argument's is that
pub record IsPassed (callee : Graph) (copies : ℕ → Option ℕ) (argument formal : Name) (graph : Graph) : Type 0 where
  pub target : Target
  pub is : callee.targets formal ≡ Some target
  pub comes : IsImage copies argument target graph

-- ---- a call

-- arguments that are pointers to objects or to void are passed to the formals of their numbers
abbrev pub ArePassed : Graph → (ℕ → Option ℕ) → Owner → ℕ → List CType → List Register → Graph → Type 0
ArePassed callee copies owner called types arguments graph =
    (number : ℕ) (c_type : CType) (argument : Register) → slice_get types number ≡ Some c_type → slice_get arguments number ≡ Some argument → is_data_pointer c_type ≡ true
    → IsPassed callee copies (OfRegister owner argument) (formal called number) graph

-- the call's register is what the function gives, where that is a pointer to an object or to void
abbrev pub IsGiven : Graph → (ℕ → Option ℕ) → Owner → ℕ → ℕ → CType → Graph → Type 0
IsGiven callee copies owner site called c_type graph = is_data_pointer (result_of c_type) ≡ true → Comes callee copies (OfRegister owner (R.Call site)) (OfResult (InFunction called)) graph

-- what a call passes and is given comes to the copies of a function's nodes
pub record IsJoined (tac : Tac) (owner : Owner) (site : ℕ) (arguments : List Register) (called : ℕ) (callee : Graph) (copies : ℕ → Option ℕ) (graph : Graph) : Type 0 where
  pub passed : ArePassed callee copies owner called (parameters_of (function_type tac called)) arguments graph
  pub given : IsGiven callee copies owner site called (function_type tac called) graph

-- a call uses the copies of a function's nodes
pub record IsCrossed (tac : Tac) (owner : Owner) (site : ℕ) (arguments : List Register) (called : ℕ) (callee : Graph) (copies : ℕ → Option ℕ) (graph : Graph) : Type 0 where
  pub passed : ArePassed callee copies owner called (parameters_of (function_type tac called)) arguments graph
  pub given : IsGiven callee copies owner site called (function_type tac called) graph
  pub globals : AllCome callee copies OfGlobal graph
  pub literals : AllCome callee copies OfLiteral graph

-- ---- names that may get targets

abbrev pub is_static : Name → Bool
is_static (OfGlobal number) = true
is_static (OfLiteral number) = true
is_static name = false

-- a variable outside functions or a literal of which the graph of the function that is called tells
abbrev pub is_mentioned : Graph → Name → Bool
is_mentioned callee name = is_static name && has_target (callee.targets name)

-- ---- premises

-- a slot of a node that is copied
pub record IsCopied (structs : List StructDef) (callee : Graph) (copies : ℕ → Option ℕ) (target : Target) : Type 0 where
  pub slot : IsSlot structs callee target
  pub copy : ℕ
  pub is : copies target.node ≡ Some copy

-- All targets are slots of nodes, and where callers see them the nodes are copied. Formals that are pointers to objects or to void have
-- targets; variables outside functions and literals that have one are the program's.
pub record IsCallee (tac : Tac) (called : ℕ) (callee : Graph) (copies : ℕ → Option ℕ) : Type 0 where
  pub sound : IsSound tac.structs callee
  pub copied : (name : Name) (target : Target) → is_outside (InFunction called) name ≡ true → callee.targets name ≡ Some target → (copy : ℕ) × (copies target.node ≡ Some copy)
  pub formals : (number : ℕ) (c_type : CType) → slice_get (parameters_of (function_type tac called)) number ≡ Some c_type → is_data_pointer c_type ≡ true
      → has_target (callee.targets (formal called number)) ≡ true
  pub globals : (number : ℕ) (target : Target) → callee.targets (OfGlobal number) ≡ Some target → number < length tac.globals
  pub literals : (number : ℕ) (target : Target) → callee.targets (OfLiteral number) ≡ Some target → number < length tac.literals

-- arguments and the call have targets
pub record CallNamed (owner : Owner) (site : ℕ) (arguments : List Register) (graph : Graph) : Type 0 where
  pub passed : (number : ℕ) (argument : Register) → slice_get arguments number ≡ Some argument → has_target (graph.targets (OfRegister owner argument)) ≡ true
  pub call : has_target (graph.targets (OfRegister owner (R.Call site))) ≡ true

-- ---- other graphs

-- the variables outside functions and the literals of which the graph of the function that is called tells have targets in another graph that
-- keep what is told of them
pub record StaticsFit (tac : Tac) (callee other : Graph) : Type 0 where
  pub globals : (number : ℕ) (global : GlobalDef) → slice_get tac.globals number ≡ Some global → is_mentioned callee (OfGlobal number) ≡ true
      → NameFits tac.structs other (OfGlobal number) (object_node global.c_type (static_flags global.c_type))
  pub literals : (number : ℕ) (literal : LiteralDef) → slice_get tac.literals number ≡ Some literal → is_mentioned callee (OfLiteral number) ≡ true
      → NameFits tac.structs other (OfLiteral number) (object_node (literal_type literal.bytes) (static_flags (literal_type literal.bytes)))
