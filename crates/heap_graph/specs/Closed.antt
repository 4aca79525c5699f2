-- When the graphs of a program are closed: what is asked by each point, by each name, and by each call from a group to another. No node stands
-- that isn't named or embedded.
use Rattle.std.specs.Prelude.{◌≡◌, ℕ, zero, suc, ◌==◌, nat_lt, Bool, true, false, ◌&&◌, ◌||◌, not, if◌then◌else◌, List, [], ◌∷◌, length, slice_get, Option, Some, None}
use Rattle.std.specs.List.{list_any}
use Rattle.c_typed.specs.Types.{CType, CTypes, NoTypes, MoreTypes, Function, Void, literal_type}
use Rattle.c_typed.specs.declared.part.Part.{Part}
use Rattle.c_typed.specs.declared.part.Part.TheVariants as P
use Rattle.c_typed.specs.Values as first
use Rattle.c_typed.specs.Typed.{GlobalDef, LiteralDef}
use Rattle.tac_ir.specs.declared.register.Local.{Local}
use Rattle.tac_ir.specs.declared.register.Register.{Register}
use Rattle.tac_ir.specs.declared.register.Register.TheVariants as R
use Rattle.tac_ir.specs.declared.register.Local.TheVariants as L
use Rattle.tac_ir.specs.Code as O
use Rattle.tac_ir.specs.Code.{AtGlobal, AtLiteral, Base, Callee, Through, Op, LocalObject, Tac}
use Rattle.tac_ir.specs.Values.{same_local}
use Rattle.tac_ir.specs.First.{named_global, placed_literal}
use Rattle.tac_ir.specs.States.{Owner, InStart, InFunction, function_of}
use Rattle.tac_ir.specs.Targets.{is_target}
use Rattle.heap_graph.specs.Graphs.{Target, Flags, Edge, Node, Name, OfRegister, OfResult, OfObject, OfGlobal, OfLiteral, OfCopy, Graph, Crossing, Embedding, ProgramGraphs, edge_in, node_at}
use Rattle.heap_graph.specs.Targets.{same_target, has_target, at_target, is_collapsed, shifted, edge_at, holds_part, is_array, elements_of, implies, types_differ, flags_kept, element_kept}
use Rattle.heap_graph.specs.Targets as T
use Rattle.heap_graph.specs.Points.{is_data_pointer, point_closed}
use Rattle.heap_graph.specs.Escaping.{Escapes}

-- a program with its groups of functions, callees first, and a graph for each
pub record Family : Type 0 where
  pub tac : Tac
  pub groups : List (List ℕ)
  pub graphs : ProgramGraphs

-- ---- groups and their graphs

abbrev pub is_in : ℕ → List ℕ → Bool
is_in number group = list_any (λ other. other == number) group

-- the number of a function's group
abbrev pub group_from : ℕ → List (List ℕ) → ℕ → ℕ
group_from count [] number = count
group_from count (group ∷ others) number = if is_in number group then count else group_from (suc count) others number

abbrev pub group_of : Family → ℕ → ℕ
group_of family number = group_from 0 family.groups number

abbrev pub no_graph : Graph
no_graph = record { nodes = []; targets = λ name. None }

abbrev pub or_no_graph : Option Graph → Graph
or_no_graph None = no_graph
or_no_graph (Some graph) = graph

abbrev pub graph_of : Family → Owner → Graph
graph_of family InStart = family.graphs.start
graph_of family (InFunction number) = or_no_graph (slice_get family.graphs.graphs (group_of family number))

-- `start` is in no group
abbrev pub same_group : Family → Owner → ℕ → Bool
same_group family InStart number = false
same_group family (InFunction own) number = group_of family own == group_of family number

-- ---- types of functions

abbrev pub parameters_in : CTypes → List CType
parameters_in NoTypes = []
parameters_in (MoreTypes first others) = first ∷ parameters_in others

abbrev pub parameters_of : CType → List CType
parameters_of (Function result parameters) = parameters_in parameters
parameters_of c_type = []

abbrev pub result_of : CType → CType
result_of (Function result parameters) = result
result_of c_type = Void

abbrev pub type_of : Option O.Function → CType
type_of None = Void
type_of (Some function) = function.c_type

abbrev pub function_type : Tac → ℕ → CType
function_type tac number = type_of (slice_get tac.functions number)

-- the formal of this number
abbrev pub formal : ℕ → ℕ → Name
formal function number = OfRegister (InFunction function) (R.Local (L.Parameter number))

-- one function's formals and result are the other's
pub record AreOne (family : Family) (a b : ℕ) : Type 0 where
  pub group : group_of family a ≡ group_of family b
  pub formals : (number : ℕ) → (graph_of family (InFunction a)).targets (formal a number) ≡ (graph_of family (InFunction a)).targets (formal b number)
  pub result : (graph_of family (InFunction a)).targets (OfResult (InFunction a)) ≡ (graph_of family (InFunction a)).targets (OfResult (InFunction b))

-- ---- calls

module _ (family : Family) (owner : Owner) where
  abbrev pub own : Graph
  own = graph_of family owner

  -- each argument that is a pointer to an object or to void has a target, to which that of the formal comes
  abbrev pub arguments_closed : (ℕ → Option Target) → ℕ → List CType → List Register → Bool
  arguments_closed formals number (c_type ∷ types) (argument ∷ arguments) =
      implies (is_data_pointer c_type) (has_target (own.targets (OfRegister owner argument)) && same_target (own.targets (OfRegister owner argument)) (formals number))
      && arguments_closed formals (suc number) types arguments
  arguments_closed formals number _ _ = true

  -- so does what the function gives, if it has a target
  abbrev pub result_closed : CType → Option Target → ℕ → Bool
  result_closed c_type result site = implies (is_data_pointer c_type) (implies (has_target result) (same_target (own.targets (OfRegister owner (R.Call site))) result))

  -- a call within the group uses the same nodes
  abbrev pub inner_call : ℕ → List Register → ℕ → Bool
  inner_call site arguments called =
      let c_type = function_type family.tac called in
      arguments_closed (λ number. own.targets (formal called number)) 0 (parameters_of c_type) arguments
      && implies (is_data_pointer (result_of c_type)) (same_target (own.targets (OfRegister owner (R.Call site))) (own.targets (OfResult (InFunction called))))

  abbrev pub crossing : ℕ → ℕ → Crossing
  crossing site called = record { owner = owner; site = site; called = called }

  -- where a target of the graph of the function that is called is in the caller's
  abbrev pub image : Embedding → Option Target → Option Target
  image embedding None = None
  image embedding (Some target) = shifted own target.shift (embedding target.node)

  abbrev pub statics_closed : Graph → Embedding → (ℕ → Name) → ℕ → Bool
  statics_closed callee embedding name number =
      let target = callee.targets (name number) in
      implies (has_target target) (has_target (own.targets (name number)) && same_target (own.targets (name number)) (image embedding target))

  abbrev pub all_statics_closed : Graph → Embedding → (ℕ → Name) → ℕ → Bool
  all_statics_closed callee embedding name zero = true
  all_statics_closed callee embedding name (suc count) = statics_closed callee embedding name count && all_statics_closed callee embedding name count

  -- a call out of the group uses the images of the nodes that escape
  abbrev pub outer_call : ℕ → List Register → ℕ → Bool
  outer_call site arguments called =
      let callee = graph_of family (InFunction called) in
      let embedding = family.graphs.embedding (crossing site called) in
      let c_type = function_type family.tac called in
      arguments_closed (λ number. image embedding (callee.targets (formal called number))) 0 (parameters_of c_type) arguments
      && (result_closed (result_of c_type) (image embedding (callee.targets (OfResult (InFunction called)))) site
      && (all_statics_closed callee embedding OfGlobal (length family.tac.globals) && all_statics_closed callee embedding OfLiteral (length family.tac.literals)))

  abbrev pub call_of : ℕ → List Register → ℕ → Bool
  call_of site arguments called = if same_group family owner called then inner_call site arguments called else outer_call site arguments called

  -- of each function to which the call may come
  abbrev pub call_closed : ℕ → ℕ → Callee → List Register → Bool
  call_closed zero site callee arguments = true
  call_closed (suc count) site callee arguments = implies (is_target family.tac callee count) (call_of site arguments count) && call_closed count site callee arguments

  abbrev pub op_closed : Op → Bool
  op_closed (O.Call site callee arguments) = call_closed (length family.tac.functions) site callee arguments
  op_closed op = point_closed family.tac own owner op

  -- ---- nodes that escape the function that is called

  abbrev pub node_kept : Node → Node → ℕ → Bool
  node_kept old new shift = element_kept family.tac.structs old.element new shift && (flags_kept old.flags new.flags && implies (old.flags.heap && types_differ old.element new.element) new.flags.array)

  abbrev pub edges_kept : Embedding → Option Target → List Edge → Bool
  edges_kept embedding at [] = true
  edges_kept embedding at (edge ∷ edges) = same_target (edge_at own (shifted own edge.slot at)) (image embedding (Some edge.to)) && edges_kept embedding at edges

  -- the image of a node that escapes
  pub record IsKept (embedding : Embedding) (number : ℕ) (node : Node) : Type 0 where
    pub at : Target
    pub is : embedding number ≡ Some at
    pub kept : at_target own (Some at) (node_kept node) ≡ true
    pub edges : edges_kept embedding (Some at) node.edges ≡ true

  -- exactly the nodes that escape have an image
  pub record IsEmbedding (site called : ℕ) : Type 0 where
    pub escaping : (number : ℕ) (node : Node) → node_at (graph_of family (InFunction called)) number ≡ Some node → Escapes (graph_of family (InFunction called)) (InFunction called) number
        → IsKept (family.graphs.embedding (crossing site called)) number node
    pub others : (number : ℕ) → (Escapes (graph_of family (InFunction called)) (InFunction called) number → ⊥) → family.graphs.embedding (crossing site called) number ≡ None

  -- ---- names

  -- formals that are pointers to an object or to void have targets
  abbrev pub formals_closed : ℕ → ℕ → List CType → Bool
  formals_closed function number [] = true
  formals_closed function number (c_type ∷ types) = implies (is_data_pointer c_type) (has_target (own.targets (formal function number))) && formals_closed function (suc number) types

  -- an object is one of a node's: its type, or that of its elements, is a part
  abbrev pub object_closed : CType → (Flags → Bool) → Option Target → Bool
  object_closed c_type kind target =
      has_target target && at_target own target (λ node shift. holds_part family.tac.structs (elements_of c_type) node shift && (kind node.flags && implies (is_array c_type) node.flags.array))

  abbrev pub locals_closed : List LocalObject → Bool
  locals_closed [] = true
  locals_closed (object ∷ objects) = object_closed object.c_type (λ flags. flags.stack) (own.targets (OfObject owner object.local)) && locals_closed objects

  -- a variable outside functions or a literal of which the graph tells
  abbrev pub global_closed : ℕ → GlobalDef → Bool
  global_closed number global = implies (has_target (own.targets (OfGlobal number))) (object_closed global.c_type (λ flags. flags.global) (own.targets (OfGlobal number)))

  abbrev pub globals_closed : ℕ → List GlobalDef → Bool
  globals_closed number [] = true
  globals_closed number (first ∷ others) = global_closed number first && globals_closed (suc number) others

  abbrev pub literal_closed : ℕ → LiteralDef → Bool
  literal_closed number literal = implies (has_target (own.targets (OfLiteral number))) (object_closed (literal_type literal.bytes) (λ flags. flags.global) (own.targets (OfLiteral number)))

  abbrev pub literals_closed : ℕ → List LiteralDef → Bool
  literals_closed number [] = true
  literals_closed number (first ∷ others) = literal_closed number first && literals_closed (suc number) others

  -- what a path begins with, it mentions
  abbrev pub base_mentioned : Base → Bool
  base_mentioned (AtGlobal number) = has_target (own.targets (OfGlobal number))
  base_mentioned (AtLiteral number) = has_target (own.targets (OfLiteral number))
  base_mentioned base = true

  abbrev pub mentions_closed : Op → Bool
  mentions_closed (O.AddressOf to path) = base_mentioned path.base
  mentions_closed (O.Load to scalar path) = base_mentioned path.base
  mentions_closed (O.Store path scalar value) = base_mentioned path.base
  mentions_closed op = true

  abbrev pub ops_closed : List Op → Bool
  ops_closed [] = true
  ops_closed (op ∷ ops) = mentions_closed op && (op_closed op && ops_closed ops)

-- ---- first values: `start` stores each of them into its variable

module _ (family : Family) where
  abbrev pub in_start : Graph
  in_start = family.graphs.start

  abbrev pub first_part : List Part → T.Part → T.Part
  first_part [] part = part
  first_part (P.Member index number ∷ steps) part = first_part steps (T.member_part family.tac.structs in_start number part)
  first_part (P.Elements index ∷ steps) part = first_part steps (T.element_part part)

  abbrev pub global_part : Option (ℕ × GlobalDef) → T.Part
  global_part None = record { target = None; c_type = Void }
  global_part (Some found) = record { target = in_start.targets (OfGlobal found.0); c_type = found.1.c_type }

  abbrev pub literal_part : Option (ℕ × LiteralDef) → T.Part
  literal_part None = record { target = None; c_type = Void }
  literal_part (Some found) = record { target = in_start.targets (OfLiteral found.0); c_type = literal_type found.1.bytes }

  abbrev pub static_part : first.Static → T.Part
  static_part (first.StaticVariable name) = global_part (named_global 0 family.tac.globals name)
  static_part (first.StaticLiteral place) = literal_part (placed_literal 0 family.tac.literals place)

  -- an element of a row other than the first, or of an array
  abbrev pub is_moved : Part → Bool
  is_moved (P.Member index number) = not (index == 0)
  is_moved (P.Elements index) = true

  abbrev pub place_closed : Option Target → first.FirstPlace → Bool
  place_closed edge place =
      let root = static_part place.root in
      has_target root.target && (same_target edge (first_part place.steps root).target
      && at_target in_start root.target (λ node shift. implies (list_any is_moved place.steps || not (place.index == 0)) node.flags.array))

  abbrev pub constant_closed : Option Target → first.FirstScalar → Bool
  constant_closed edge (first.PointerValue place) = place_closed edge place
  constant_closed edge value = true

  abbrev pub held_closed : T.Part → first.Held → Bool
  held_closed global held =
      has_target global.target && (at_target in_start global.target (λ node shift. node.flags.modified)
      && constant_closed (edge_at in_start (first_part held.leaf.steps global).target) held.value)

  abbrev pub all_held_closed : T.Part → List first.Held → Bool
  all_held_closed global [] = true
  all_held_closed global (held ∷ others) = held_closed global held && all_held_closed global others

  abbrev pub first_closed : ℕ → List GlobalDef → Bool
  first_closed number [] = true
  first_closed number (global ∷ others) = all_held_closed (global_part (Some (number, global))) global.first && first_closed (suc number) others

-- ---- functions

pub record FunctionClosed (family : Family) (owner : Owner) (function : O.Function) : Type 0 where
  pub formals : (number : ℕ) → owner ≡ InFunction number → formals_closed family owner number 0 (parameters_of function.c_type) ≡ true
  pub locals : locals_closed family owner function.objects ≡ true
  pub points : ops_closed family owner function.points ≡ true
  -- each call out of the group has an embedding for each function to which it may come
  pub embeddings : (site : ℕ) (callee : Callee) (arguments : List Register) (at called : ℕ) → slice_get function.points at ≡ Some (O.Call site callee arguments)
      → is_target family.tac callee called ≡ true → same_group family owner called ≡ false → IsEmbedding family owner site called
  -- functions to which one call may come through a pointer share formals and results
  pub classes : (site : ℕ) (pointer : Register) (c_type : CType) (arguments : List Register) (at a b : ℕ) → slice_get function.points at ≡ Some (O.Call site (Through pointer c_type) arguments)
      → is_target family.tac (Through pointer c_type) a ≡ true → is_target family.tac (Through pointer c_type) b ≡ true → AreOne family a b

-- ---- graphs

-- a target is a slot of a node; a collapsed node has one
abbrev pub is_slot : Graph → Option Target → Bool
is_slot graph target = at_target graph target (λ node shift. implies (is_collapsed node.element) (shift == 0))

abbrev pub edges_sound : Graph → Node → List Edge → Bool
edges_sound graph node [] = true
edges_sound graph node (edge ∷ edges) =
    same_target (edge_in node.edges edge.slot) (Some edge.to) && (is_slot graph (Some edge.to) && (implies (is_collapsed node.element) (edge.slot == 0) && edges_sound graph node edges))

-- a register that the function has
abbrev pub has_register : O.Function → Register → Bool
has_register function (R.Local (L.Parameter number)) = nat_lt number function.parameters
has_register function (R.Local (L.Variable number)) = nat_lt number function.counts.variables
has_register function (R.Call number) = nat_lt number function.counts.calls
has_register function (R.Argument number) = nat_lt number function.counts.arguments
has_register function (R.Expression number) = nat_lt number function.counts.expressions
has_register function (R.Temporary number) = false

abbrev pub has_object : O.Function → Local → Bool
has_object function local = list_any (λ (object : LocalObject). same_local object.local local) function.objects

abbrev pub of_function : Option O.Function → (O.Function → Bool) → Bool
of_function None test = false
of_function (Some function) test = test function

-- a name of a graph's functions, of a variable outside functions or of a literal
abbrev pub is_name : Tac → (Owner → Bool) → Name → Bool
is_name tac owners (OfRegister owner register) = owners owner && of_function (function_of tac owner) (λ function. has_register function register)
is_name tac owners (OfResult owner) = owners owner
is_name tac owners (OfObject owner local) = owners owner && of_function (function_of tac owner) (λ function. has_object function local)
is_name tac owners (OfGlobal number) = nat_lt number (length tac.globals)
is_name tac owners (OfLiteral number) = nat_lt number (length tac.literals)
is_name tac owners (OfCopy number) = false

-- a call out of the group: of this function, from this site, to a function that it may reach and that is in another group
pub record IsCrossing (family : Family) (at : Crossing) : Type 0 where
  pub function : O.Function
  pub is : function_of family.tac at.owner ≡ Some function
  pub point : ℕ
  pub callee : Callee
  pub arguments : List Register
  pub call : slice_get function.points point ≡ Some (O.Call at.site callee arguments)
  pub target : is_target family.tac callee at.called ≡ true
  pub outer : same_group family at.owner at.called ≡ false

-- a node is that of a name, or the image of a node at a call out of the group
pub data IsNeeded (family : Family) (graph : Graph) (owners : Owner → Bool) (number : ℕ) : Type 0 where
  named : (name : Name) (target : Target) → graph.targets name ≡ Some target → target.node ≡ number → IsNeeded family graph owners number
  embedded : (at : Crossing) (node : ℕ) (target : Target) → owners at.owner ≡ true → IsCrossing family at → family.graphs.embedding at node ≡ Some target → target.node ≡ number
      → IsNeeded family graph owners number

pub record GraphClosed (family : Family) (graph : Graph) (owners : Owner → Bool) (one : Owner) : Type 0 where
  pub names : (name : Name) → is_slot graph (graph.targets name) ≡ true
  pub own : (name : Name) → has_target (graph.targets name) ≡ true → is_name family.tac owners name ≡ true
  pub edges : (number : ℕ) (node : Node) → node_at graph number ≡ Some node → edges_sound graph node node.edges ≡ true
  pub globals : globals_closed family one 0 family.tac.globals ≡ true
  pub literals : literals_closed family one 0 family.tac.literals ≡ true
  -- all that may point to a node which escapes no function of the group is known
  pub complete : (number : ℕ) (node : Node) → node_at graph number ≡ Some node → ((function : ℕ) → owners (InFunction function) ≡ true → Escapes graph (InFunction function) number → ⊥)
      → node.flags.complete ≡ true
  pub needed : (number : ℕ) (node : Node) → node_at graph number ≡ Some node → IsNeeded family graph owners number

abbrev pub is_start : Owner → Bool
is_start InStart = true
is_start (InFunction number) = false

abbrev pub of_group : List ℕ → Owner → Bool
of_group group InStart = false
of_group group (InFunction number) = is_in number group

pub record Closed (family : Family) : Type 0 where
  pub functions : (number : ℕ) (function : O.Function) → slice_get family.tac.functions number ≡ Some function → FunctionClosed family (InFunction number) function
  pub start : FunctionClosed family InStart family.tac.start
  pub first : first_closed family 0 family.tac.globals ≡ true
  pub graphs : (number one : ℕ) (group : List ℕ) → slice_get family.groups number ≡ Some group → is_in one group ≡ true
      → GraphClosed family (graph_of family (InFunction one)) (of_group group) (InFunction one)
  pub last : GraphClosed family family.graphs.start is_start InStart
