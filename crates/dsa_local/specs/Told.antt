-- What is told of names in a graph that is being made, and that is asked of the graphs of a program later.
use Rattle.std.specs.Prelude.{◌≡◌, ℕ, Bool, true, false, List, slice_get, Option, Some, None}
use Rattle.c_typed.specs.Types.{CType, literal_type}
use Rattle.c_typed.specs.Layouts.{StructDef}
use Rattle.c_typed.specs.Typed.{GlobalDef, LiteralDef}
use Rattle.tac_ir.specs.declared.register.Local.{Local}
use Rattle.tac_ir.specs.Code.{Function, Tac}
use Rattle.tac_ir.specs.Layouts.{Inner}
use Rattle.tac_ir.specs.Objects.{own_type}
use Rattle.tac_ir.specs.States.{Owner, InFunction, function_of}
use Rattle.heap_graph.specs.Graphs.{Target, Flags, Name, OfObject, OfGlobal, OfLiteral, OfCopy, Graph, is_copy}
use Rattle.heap_graph.specs.Targets.{has_target, at_target, holds_part, is_array, elements_of, implies}
use Rattle.heap_graph.specs.Points.{is_data_pointer}
use Rattle.heap_graph.specs.Closed.{parameters_of, is_name, is_slot}
use Rattle.heap_graph.specs.Asks.{is_certain}
use Rattle.graph_unification.specs.GraphNames.First.{formal_at}
use Rattle.graph_unification.specs.Fitting.{FunctionFits}
use Rattle.graph_unification.specs.Named.{HasNames}
use Rattle.dsa_local.specs.Mentioned.{is_global, is_literal, any_begins, is_among}

-- ---- objects

-- An object of a type is one of a certain node's, which has its flag: a part is of the type of its elements, or the node is collapsed; and an
-- array is known to be one.
pub record IsObject (structs : List StructDef) (graph : Graph) (c_type : CType) (has_flag : Flags → Bool) (target : Option Target) : Type 0 where
  pub certain : is_certain graph target ≡ true
  pub part : at_target graph target (holds_part structs (elements_of c_type)) ≡ true
  pub flag : at_target graph target (λ node shift. has_flag node.flags) ≡ true
  pub array : at_target graph target (λ node shift. implies (is_array c_type) node.flags.array) ≡ true

-- ---- names of functions

-- A function has its names; formals that are pointers to objects or to void are certain, and locals in memory are objects.
pub record FunctionTold (tac : Tac) (graph : Graph) (owner : Owner) (function : Function) : Type 0 where
  pub names : HasNames tac graph owner function
  pub formals : (own : ℕ) → owner ≡ InFunction own → (number : ℕ) (c_type : CType) → slice_get (parameters_of function.c_type) number ≡ Some c_type → is_data_pointer c_type ≡ true
      → is_certain graph (graph.targets (formal_at owner number)) ≡ true
  pub locals : (local : Local) (inner : Inner) → own_type function.objects local ≡ Some inner
      → IsObject tac.structs graph inner.c_type (λ flags. flags.stack) (graph.targets (OfObject owner local))

-- ---- variables outside functions, and literals

abbrev pub GlobalTold : Tac → Graph → ℕ → Type 0
GlobalTold tac graph number =
    (global : GlobalDef) → slice_get tac.globals number ≡ Some global → has_target (graph.targets (OfGlobal number)) ≡ true
    → IsObject tac.structs graph global.c_type (λ flags. flags.global) (graph.targets (OfGlobal number))

abbrev pub LiteralTold : Tac → Graph → ℕ → Type 0
LiteralTold tac graph number =
    (literal : LiteralDef) → slice_get tac.literals number ≡ Some literal → has_target (graph.targets (OfLiteral number)) ≡ true
    → IsObject tac.structs graph (literal_type literal.bytes) (λ flags. flags.global) (graph.targets (OfLiteral number))

-- those that have targets are objects
pub record StaticsTold (tac : Tac) (graph : Graph) : Type 0 where
  pub globals : (number : ℕ) → GlobalTold tac graph number
  pub literals : (number : ℕ) → LiteralTold tac graph number

-- ---- all names

-- only names of the functions, of variables outside functions and of literals have targets, beside copies
abbrev pub OnlyNames : Tac → List Owner → Graph → Type 0
OnlyNames tac owners graph = (name : Name) → is_copy name ≡ false → has_target (graph.targets name) ≡ true → is_name tac (λ owner. is_among owner owners) name ≡ true

pub record NamesTold (tac : Tac) (owners : List Owner) (graph : Graph) : Type 0 where
  pub functions : (owner : Owner) (function : Function) → is_among owner owners ≡ true → function_of tac owner ≡ Some function → FunctionTold tac graph owner function
  pub statics : StaticsTold tac graph
  pub only : OnlyNames tac owners graph

-- there are no copies
abbrev pub NoCopies : Graph → Type 0
NoCopies graph = (number : ℕ) → graph.targets (OfCopy number) ≡ None

-- the same names have targets, beside copies
abbrev pub SameNames : Graph → Graph → Type 0
SameNames old new = (name : Name) → is_copy name ≡ false → has_target (new.targets name) ≡ has_target (old.targets name)

-- ---- other graphs

-- A graph in which the names with which a group begins are: those of its functions fit, and variables outside functions and literals with which
-- paths begin are objects.
pub record GroupFits (tac : Tac) (owners : List Owner) (graph : Graph) : Type 0 where
  pub slots : (name : Name) → is_slot graph (graph.targets name) ≡ true
  pub functions : (owner : Owner) (function : Function) → is_among owner owners ≡ true → function_of tac owner ≡ Some function → FunctionFits tac.structs graph owner function
  pub globals : (number : ℕ) (global : GlobalDef) → slice_get tac.globals number ≡ Some global → any_begins (is_global number) tac owners ≡ true
      → IsObject tac.structs graph global.c_type (λ flags. flags.global) (graph.targets (OfGlobal number))
  pub literals : (number : ℕ) (literal : LiteralDef) → slice_get tac.literals number ≡ Some literal → any_begins (is_literal number) tac owners ≡ true
      → IsObject tac.structs graph (literal_type literal.bytes) (λ flags. flags.global) (graph.targets (OfLiteral number))
