-- What calls within a group ask of a graph that is being made: what they pass and give are the formals and the results of the functions to
-- which they may come.
use Rattle.std.specs.Prelude.{◌≡◌, ℕ, ◌<◌, Bool, true, List, length, slice_get, Some}
use Rattle.c_typed.specs.Types.{CType}
use Rattle.c_typed.specs.Layouts.{StructDef}
use Rattle.tac_ir.specs.declared.register.Register.{Register}
use Rattle.tac_ir.specs.declared.register.Register.TheVariants as R
use Rattle.tac_ir.specs.Code as O
use Rattle.tac_ir.specs.Code.{Callee, Through, Function, Op, Tac}
use Rattle.tac_ir.specs.States.{Owner, InFunction, function_of}
use Rattle.tac_ir.specs.Targets.{is_target}
use Rattle.call_graph.specs.TargetLists.{IsFirstTarget}
use Rattle.heap_graph.specs.Graphs.{Target, Name, OfRegister, OfResult, Graph}
use Rattle.heap_graph.specs.Targets.{has_target}
use Rattle.heap_graph.specs.Points.{is_data_pointer}
use Rattle.heap_graph.specs.Closed.{parameters_of, result_of, function_type, formal, has_register}
use Rattle.heap_graph.specs.Asks.{is_certain}
use Rattle.graph_unification.specs.Leading.{Leads}
use Rattle.graph_unification.specs.Going.{GoesOn}

-- two names have one target
pub record HaveOne (a b : Name) (graph : Graph) : Type 0 where
  pub target : Target
  pub first : graph.targets a ≡ Some target
  pub second : graph.targets b ≡ Some target

-- the target of an argument is certain, and that of the formal
pub record IsPassed (argument formal : Name) (graph : Graph) : Type 0 where
  pub certain : is_certain graph (graph.targets argument) ≡ true
  pub one : HaveOne argument formal graph

-- ---- calls

-- arguments that are pointers to objects or to void are passed to the formals of their numbers
abbrev pub ArePassed : Owner → ℕ → List CType → List Register → Graph → Type 0
ArePassed owner called types arguments graph =
    (number : ℕ) (c_type : CType) (argument : Register) → slice_get types number ≡ Some c_type → slice_get arguments number ≡ Some argument → is_data_pointer c_type ≡ true
    → IsPassed (OfRegister owner argument) (formal called number) graph

-- the call's register is what the function gives, where that is a pointer to an object or to void
abbrev pub IsTaken : Owner → ℕ → ℕ → CType → Graph → Type 0
IsTaken owner site called c_type graph = is_data_pointer (result_of c_type) ≡ true → HaveOne (OfRegister owner (R.Call site)) (OfResult (InFunction called)) graph

-- a call uses the nodes of a function
pub record IsJoined (tac : Tac) (owner : Owner) (site : ℕ) (arguments : List Register) (called : ℕ) (graph : Graph) : Type 0 where
  pub passed : ArePassed owner called (parameters_of (function_type tac called)) arguments graph
  pub taken : IsTaken owner site called (function_type tac called) graph

-- a call uses the nodes of each function of the group to which it may come
abbrev pub OpJoined : Tac → (ℕ → Bool) → Owner → Op → Graph → Type 0
OpJoined tac inside owner op graph =
    (site : ℕ) (callee : Callee) (arguments : List Register) (called : ℕ) → op ≡ O.Call site callee arguments → is_target tac callee called ≡ true → inside called ≡ true
    → IsJoined tac owner site arguments called graph

-- so do the calls of a function
abbrev pub CallsJoined : Tac → (ℕ → Bool) → ℕ → Graph → Type 0
CallsJoined tac inside caller graph =
    (function : Function) (at : ℕ) (op : Op) → slice_get tac.functions caller ≡ Some function → slice_get function.points at ≡ Some op → OpJoined tac inside (InFunction caller) op graph

-- ---- classes

-- two functions share formals and result
pub record AreJoined (tac : Tac) (a b : ℕ) (graph : Graph) : Type 0 where
  pub formals : (number : ℕ) → number < length (parameters_of (function_type tac a)) → HaveOne (formal a number) (formal b number) graph
  pub result : HaveOne (OfResult (InFunction a)) (OfResult (InFunction b)) graph

-- a function of the program, or `start`, has this call
pub record IsCalled (tac : Tac) (callee : Callee) : Type 0 where
  pub caller : Owner
  pub function : Function
  pub is : function_of tac caller ≡ Some function
  pub at : ℕ
  pub site : ℕ
  pub arguments : List Register
  pub point : slice_get function.points at ≡ Some (O.Call site callee arguments)

-- one call may come to both functions through a pointer, and to none outside of the group
pub record AreShared (tac : Tac) (inside : ℕ → Bool) (a b : ℕ) : Type 0 where
  pub pointer : Register
  pub c_type : CType
  pub called : IsCalled tac (Through pointer c_type)
  pub within : (function : ℕ) → is_target tac (Through pointer c_type) function ≡ true → inside function ≡ true
  pub first : is_target tac (Through pointer c_type) a ≡ true
  pub second : is_target tac (Through pointer c_type) b ≡ true

abbrev pub ClassesJoined : Tac → (ℕ → Bool) → Graph → Type 0
ClassesJoined tac inside graph = (a b : ℕ) → AreShared tac inside a b → AreJoined tac a b graph

-- the functions of a class are joined with the first of it
abbrev pub ClassJoined : Tac → (ℕ → Bool) → ℕ → Graph → Type 0
ClassJoined tac inside first graph =
    (other : ℕ) (shared : AreShared tac inside first other) → IsFirstTarget tac (Through shared.pointer shared.c_type) (Some first) → AreJoined tac first other graph

-- formals that are pointers to objects or to void are certain
abbrev pub FormalsCertain : Tac → ℕ → Graph → Type 0
FormalsCertain tac function graph =
    (number : ℕ) (c_type : CType) → slice_get (parameters_of (function_type tac function)) number ≡ Some c_type → is_data_pointer c_type ≡ true
    → is_certain graph (graph.targets (formal function number)) ≡ true

-- ---- changes

-- A graph goes on to one in which something holds, on the way to each in which it does.
pub record Joins (structs : List StructDef) (old new : Graph) (wanted : Graph → Type 0) : Type 0 where
  pub goes : GoesOn structs old new
  pub leads : Leads structs old new wanted
  pub joined : wanted new

-- ---- premises

-- the registers of a function and its result have targets
pub record HasOwn (owner : Owner) (function : Function) (graph : Graph) : Type 0 where
  pub registers : (register : Register) → has_register function register ≡ true → has_target (graph.targets (OfRegister owner register)) ≡ true
  pub result : has_target (graph.targets (OfResult owner)) ≡ true

-- so it is of each function of the group
abbrev pub AllHaveOwn : Tac → (ℕ → Bool) → Graph → Type 0
AllHaveOwn tac inside graph = (number : ℕ) (function : Function) → slice_get tac.functions number ≡ Some function → inside number ≡ true → HasOwn (InFunction number) function graph

-- arguments have targets, and formals
pub record PassedNamed (tac : Tac) (owner : Owner) (arguments : List Register) (called : ℕ) (graph : Graph) : Type 0 where
  pub passed : (number : ℕ) (argument : Register) → slice_get arguments number ≡ Some argument → has_target (graph.targets (OfRegister owner argument)) ≡ true
  pub formals : (number : ℕ) → number < length (parameters_of (function_type tac called)) → has_target (graph.targets (formal called number)) ≡ true

-- so do a call and the result
pub record CallNamed (tac : Tac) (owner : Owner) (site : ℕ) (arguments : List Register) (called : ℕ) (graph : Graph) : Type 0 where
  pub passed : PassedNamed tac owner arguments called graph
  pub call : has_target (graph.targets (OfRegister owner (R.Call site))) ≡ true
  pub result : has_target (graph.targets (OfResult (InFunction called))) ≡ true

-- formals and results of two functions have targets
pub record BothNamed (tac : Tac) (a b : ℕ) (graph : Graph) : Type 0 where
  pub formals : (number : ℕ) → number < length (parameters_of (function_type tac a)) → (has_target (graph.targets (formal a number)) ≡ true) × (has_target (graph.targets (formal b number)) ≡ true)
  pub results : (has_target (graph.targets (OfResult (InFunction a))) ≡ true) × (has_target (graph.targets (OfResult (InFunction b))) ≡ true)
