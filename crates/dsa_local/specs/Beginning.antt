-- The nodes with which the graph of a group begins.
use Rattle.std.specs.Prelude.{◌≡◌, ℕ, ◌==◌, true, if◌then◌else◌, List, slice_get, Option, Some, None}
use Rattle.std.specs.List.{AllByRecursion}
use Rattle.tac_ir.specs.Code.{Base, AtGlobal, AtLiteral, Path, Function, Op, Tac}
use Rattle.tac_ir.specs.Layouts.{Inner}
use Rattle.tac_ir.specs.Objects.{global_type, literal_object}
use Rattle.tac_ir.specs.States.{Owner, function_of}
use Rattle.heap_graph.specs.Graphs.{Node, Name, OfRegister, OfResult, OfObject, OfGlobal, OfLiteral, OfCopy, Graph}
use Rattle.heap_graph.specs.Targets.{has_target}
use Rattle.heap_graph.specs.Closed.{no_graph}
use Rattle.graph_unification.specs.Adding.{AddsSome}
use Rattle.graph_unification.specs.GraphNames.First.{object_node, static_flags, first_node}
use Rattle.dsa_local.specs.Mentioned.{path_of, is_global, is_literal, any_begins, is_among}

-- ---- first nodes

-- that of a variable outside functions or of a literal
abbrev pub static_node : Option Inner → Option Node
static_node None = None
static_node (Some inner) = Some (object_node inner.c_type (static_flags inner.c_type))

abbrev pub global_node : Tac → ℕ → Option Node
global_node tac number = static_node (global_type (slice_get tac.globals number))

abbrev pub literal_node : Tac → ℕ → Option Node
literal_node tac number = static_node (literal_object (slice_get tac.literals number))

-- that of a function's name, where the function is there
abbrev pub function_node : Owner → Option Function → Name → Option Node
function_node owner None name = None
function_node owner (Some function) name = first_node owner function name

abbrev pub member_node : Tac → List Owner → Owner → Name → Option Node
member_node tac owners owner name = if is_among owner owners then function_node owner (function_of tac owner) name else None

-- The node with which a name begins: those of the functions, and of the variables outside functions and the literals with which their paths
-- begin.
abbrev pub group_node : Tac → List Owner → Name → Option Node
group_node tac owners (OfRegister owner register) = member_node tac owners owner (OfRegister owner register)
group_node tac owners (OfResult owner) = member_node tac owners owner (OfResult owner)
group_node tac owners (OfObject owner local) = member_node tac owners owner (OfObject owner local)
group_node tac owners (OfGlobal number) = if any_begins (is_global number) tac owners then global_node tac number else None
group_node tac owners (OfLiteral number) = if any_begins (is_literal number) tac owners then literal_node tac number else None
group_node tac owners (OfCopy number) = None

-- each of these names, and no other, got its node
pub record Begins (tac : Tac) (owners : List Owner) (graph : Graph) : Type 0 where
  pub adds : AddsSome (group_node tac owners) no_graph graph
  pub has : (name : Name) (node : Node) → group_node tac owners name ≡ Some node → has_target (graph.targets name) ≡ true

-- ---- one after another

abbrev pub FirstNodes : Type 0
FirstNodes = Name → Option Node

-- what has a node by the one has it by the other
abbrev pub Covers : FirstNodes → FirstNodes → Type 0
Covers own first = (name : Name) (node : Node) → own name ≡ Some node → first name ≡ Some node

abbrev pub HaveTargets : FirstNodes → Graph → Type 0
HaveTargets own graph = (name : Name) (node : Node) → own name ≡ Some node → has_target (graph.targets name) ≡ true

-- Names got nodes, unless they had targets: those that first nodes cover. What is asked of the new graph holds, and no name lost its target.
pub record AddsCovered (covered : FirstNodes → Type 0) (had : Graph → Type 0) (old new : Graph) : Type 0 where
  pub adds : (first : FirstNodes) → covered first → AddsSome first old new
  pub has : had new
  pub stays : (name : Name) → has_target (old.targets name) ≡ true → has_target (new.targets name) ≡ true

-- the variable outside functions or the literal with which a path begins
abbrev pub if_global : ℕ → Option Node → FirstNodes
if_global number found (OfGlobal other) = if number == other then found else None
if_global number found name = None

abbrev pub if_literal : ℕ → Option Node → FirstNodes
if_literal number found (OfLiteral other) = if number == other then found else None
if_literal number found name = None

abbrev pub no_node : FirstNodes
no_node name = None

abbrev pub base_node : Tac → Base → FirstNodes
base_node tac (AtGlobal number) = if_global number (global_node tac number)
base_node tac (AtLiteral number) = if_literal number (literal_node tac number)
base_node tac base = no_node

abbrev pub path_node : Tac → Option Path → FirstNodes
path_node tac None = no_node
path_node tac (Some path) = base_node tac path.base

abbrev pub op_node : Tac → Op → FirstNodes
op_node tac op = path_node tac (path_of op)

abbrev pub AddsBase : Tac → Base → Graph → Graph → Type 0
AddsBase tac base old new = AddsCovered (Covers (base_node tac base)) (HaveTargets (base_node tac base)) old new

abbrev pub AddsOp : Tac → Op → Graph → Graph → Type 0
AddsOp tac op old new = AddsCovered (Covers (op_node tac op)) (HaveTargets (op_node tac op)) old new

abbrev pub CoversOps : Tac → List Op → FirstNodes → Type 0
CoversOps tac ops first = AllByRecursion (λ op. Covers (op_node tac op) first) ops

abbrev pub OpsHave : Tac → List Op → Graph → Type 0
OpsHave tac ops graph = AllByRecursion (λ op. HaveTargets (op_node tac op) graph) ops

abbrev pub AddsOps : Tac → List Op → Graph → Graph → Type 0
AddsOps tac ops old new = AddsCovered (CoversOps tac ops) (OpsHave tac ops) old new

-- the names of a function, and those with which its paths begin
pub record CoversFunction (tac : Tac) (owner : Owner) (function : Function) (first : FirstNodes) : Type 0 where
  pub own : Covers (first_node owner function) first
  pub outside : CoversOps tac function.points first

pub record FunctionHas (tac : Tac) (owner : Owner) (function : Function) (graph : Graph) : Type 0 where
  pub own : HaveTargets (first_node owner function) graph
  pub outside : OpsHave tac function.points graph

abbrev pub AddsMember : Tac → Owner → Function → Graph → Graph → Type 0
AddsMember tac owner function old new = AddsCovered (CoversFunction tac owner function) (FunctionHas tac owner function) old new

-- the same of a function that may be there
abbrev pub CoversOwner : Tac → Owner → FirstNodes → Type 0
CoversOwner tac owner first = (function : Function) → function_of tac owner ≡ Some function → CoversFunction tac owner function first

abbrev pub OwnerHas : Tac → Owner → Graph → Type 0
OwnerHas tac owner graph = (function : Function) → function_of tac owner ≡ Some function → FunctionHas tac owner function graph

abbrev pub AddsOwner : Tac → Owner → Graph → Graph → Type 0
AddsOwner tac owner old new = AddsCovered (CoversOwner tac owner) (OwnerHas tac owner) old new

abbrev pub CoversOwners : Tac → List Owner → FirstNodes → Type 0
CoversOwners tac owners first = AllByRecursion (λ owner. CoversOwner tac owner first) owners

abbrev pub OwnersHave : Tac → List Owner → Graph → Type 0
OwnersHave tac owners graph = AllByRecursion (λ owner. OwnerHas tac owner graph) owners

abbrev pub AddsOwners : Tac → List Owner → Graph → Graph → Type 0
AddsOwners tac owners old new = AddsCovered (CoversOwners tac owners) (OwnersHave tac owners) old new

-- where what is left is added after what was added, all is added
abbrev pub OpsGoOn : Tac → List Op → Graph → List Op → Graph → Type 0
OpsGoOn tac all start left graph = (new : Graph) → AddsOps tac left graph new → AddsOps tac all start new

abbrev pub OwnersGoOn : Tac → List Owner → Graph → List Owner → Graph → Type 0
OwnersGoOn tac all start left graph = (new : Graph) → AddsOwners tac left graph new → AddsOwners tac all start new
