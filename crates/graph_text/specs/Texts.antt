-- The text of the graphs of a program. Each line ends with the byte 0A.
use Rattle.std.specs.Prelude.{◌≡◌, ℕ, suc, List, [], ◌∷◌, ◌++◌, Vec, map, get_or, slice_get, Option, Some, None, codes, decimal}
use Rattle.std.specs.Borrow.{Bor}
use Rattle.c_typed.specs.Table.{Interned}
use Rattle.tac_ir.specs.declared.program.Tac.{Tac}
use Rattle.tac_ir.specs.declared.register.FunctionId.{FunctionId}
use Rattle.heap_graph.specs.Memory.{element_in}
use Rattle.heap_graph.specs.declared.graph.Target.{Target}
use Rattle.heap_graph.specs.Frozen.{node_there}
use Rattle.heap_graph.specs.declared.frozen.Edge.{Edge}
use Rattle.heap_graph.specs.declared.frozen.Node.{Node}
use Rattle.heap_graph.specs.declared.frozen.FrozenGraph.{FrozenGraph}
use Rattle.call_graph.specs.declared.group_lists.Groups.{Groups}
use Rattle.heap_graph.specs.declared.program.FunctionGraph.{FunctionGraph}
use Rattle.heap_graph.specs.declared.program.ProgramGraphs.{ProgramGraphs}
use Rattle.graph_text.specs.Parts.{element_text, flags_text}
use Rattle.heap_graph.specs.Orders.{by_slot, number_in, Visited}
use Rattle.graph_text.specs.declared.function_labels.Labels.{Labels}
use Rattle.graph_text.specs.declared.names.Owner.{Owner}
use Rattle.graph_text.specs.declared.names.Owner.TheVariants as O
use Rattle.graph_text.specs.declared.names.Kind.{Kind}
use Rattle.graph_text.specs.declared.names.Kind.TheVariants as K
use Rattle.graph_text.specs.declared.names.Name.{Name}
use Rattle.graph_text.specs.declared.names.Name.TheVariants as N
use Rattle.graph_text.specs.declared.names.Named.{Named}
use Rattle.graph_text.specs.Labels.{labels_of, label_in, owner_text, parameter_text, variable_text, call_number, argument_number}
use Rattle.graph_text.specs.Names.{own_names, member_names, AreStatics, static_names}

-- ---- names

abbrev pub own_text : Labels → Owner → Kind → ℕ → List ℕ
own_text labels owner K.Formal number = parameter_text (labels_of labels owner) number
own_text labels owner K.Returned number = codes "return"
own_text labels owner K.ParameterObject number = codes "&" ++ parameter_text (labels_of labels owner) number
own_text labels owner K.Variable number = variable_text (labels_of labels owner) number
own_text labels owner K.VariableObject number = codes "&" ++ variable_text (labels_of labels owner) number
own_text labels owner K.Call number = codes "call " ++ decimal (call_number (labels_of labels owner) number)
own_text labels owner K.Argument number = codes "arg " ++ decimal (argument_number (labels_of labels owner) number)

abbrev pub name_text : Labels → Name → List ℕ
name_text labels (N.Global number) = codes "&" ++ label_in labels.globals.items number
name_text labels (N.Literal number) = codes "literal " ++ decimal (get_or labels.literals.items number 0)
name_text labels (N.Own owner kind number) = owner_text labels owner ++ (codes " " ++ own_text labels owner kind number)

-- ---- lines, where nodes have these numbers

abbrev pub target_text : (ℕ → ℕ) → Target → List ℕ
target_text numbers target = codes "n" ++ (decimal (numbers target.node) ++ (codes "+" ++ decimal target.shift))

abbrev pub name_line : Labels → (ℕ → ℕ) → Named → List ℕ
name_line labels numbers named = name_text labels named.name ++ (codes " " ++ (target_text numbers named.target ++ 10 ∷ []))

abbrev pub name_lines : Labels → (ℕ → ℕ) → List Named → List ℕ
name_lines labels numbers [] = []
name_lines labels numbers (named ∷ names) = name_line labels numbers named ++ name_lines labels numbers names

abbrev pub edge_text : (ℕ → ℕ) → Edge → List ℕ
edge_text numbers edge = codes " " ++ (decimal edge.slot ++ (codes ">" ++ target_text numbers edge.to))

abbrev pub edges_text : (ℕ → ℕ) → List Edge → List ℕ
edges_text numbers [] = []
edges_text numbers (edge ∷ edges) = edge_text numbers edge ++ edges_text numbers edges

abbrev pub node_text : Interned → (ℕ → ℕ) → ℕ → Option Node → List ℕ
node_text types numbers number None = []
node_text types numbers number (Some node) =
    codes "n" ++ (decimal (numbers number) ++ (codes " " ++ (element_text (element_in types node.element) ++ (codes " " ++ (flags_text node.element node.flags ++ (edges_text numbers (by_slot node.edges.items) ++ 10 ∷ []))))))

abbrev pub node_line : Interned → List (Option Node) → (ℕ → ℕ) → ℕ → List ℕ
node_line types nodes numbers number = node_text types numbers number (node_there nodes number)

abbrev pub node_lines : Interned → List (Option Node) → (ℕ → ℕ) → List ℕ → List ℕ
node_lines types nodes numbers [] = []
node_lines types nodes numbers (number ∷ order) = node_line types nodes numbers number ++ node_lines types nodes numbers order

-- ---- a graph

-- the names of a graph that have targets: variables outside functions, literals, and those of functions
pub record AreNames (graph : FrozenGraph) (own names : List Named) : Type 0 where
  pub globals : List ℕ
  pub literals : List ℕ
  pub all_globals : AreStatics graph.globals globals
  pub all_literals : AreStatics graph.literals literals
  pub are : names ≡ static_names N.Global graph.globals globals ++ (static_names N.Literal graph.literals literals ++ own)

-- the lines of these names and of the nodes are appended; nodes are numbered as the names meet them
pub record AppendsLines (types : Interned) (labels : Labels) (nodes : List (Option Node)) (names : List Named) (before after : List ℕ) : Type 0 where
  pub order : List ℕ
  pub met : Visited nodes [] (map (λ (named : Named). named.target.node) names) order
  pub lines : after ≡ before ++ (name_lines labels (number_in order) names ++ node_lines types nodes (number_in order) order)

-- so are those of a graph whose functions have these names
pub record AppendsGraph (types : Interned) (labels : Labels) (graph : FrozenGraph) (own : List Named) (before after : List ℕ) : Type 0 where
  pub names : List Named
  pub are : AreNames graph own names
  pub lines : AppendsLines types labels graph.nodes.items names before after

-- ---- groups

abbrev pub members_text : Labels → List FunctionId → List ℕ
members_text labels [] = []
members_text labels (member ∷ members) = codes " " ++ (owner_text labels (O.Function member.0) ++ members_text labels members)

abbrev pub group_heading : Labels → List FunctionId → List ℕ
group_heading labels members = codes "group" ++ (members_text labels members ++ 10 ∷ [])

abbrev pub start_heading : List ℕ
start_heading = codes "group start" ++ 10 ∷ []

abbrev pub GraphIs : Option FrozenGraph → Option (Bor FrozenGraph) → Type 0
GraphIs found None = found ≡ None
GraphIs found (Some graph) = found ≡ Some graph.now

abbrev pub FunctionIs : Option FunctionGraph → Option (Bor FunctionGraph) → Type 0
FunctionIs found None = found ≡ None
FunctionIs found (Some function) = found ≡ Some function.now

-- a group is appended; nothing is where it has no graph
abbrev pub AppendsGroup : Interned → ProgramGraphs → Labels → Option FrozenGraph → List FunctionId → List ℕ → List ℕ → Type 0
AppendsGroup types graphs labels None members before after = after ≡ before
AppendsGroup types graphs labels (Some graph) members before after = AppendsGraph types labels graph (member_names graphs.functions.items members) (before ++ group_heading labels members) after

-- groups are appended in their order, from a number on, and then `start`
pub data AppendsGroups {A : Type 0} (types : Interned) (graphs : ProgramGraphs) (labels : Labels) : ℕ → List (Vec FunctionId A) → (before after : List ℕ) → Type 0 where
  start : (number : ℕ) (before after : List ℕ) → AppendsGraph types labels graphs.start (own_names O.Start graphs.start_function.names) (before ++ start_heading) after → AppendsGroups types graphs labels number [] before after
  next : (number : ℕ) (members : Vec FunctionId A) (groups : List (Vec FunctionId A)) (before middle after : List ℕ) → AppendsGroup types graphs labels (slice_get graphs.graphs.items number) members.items before middle
      → AppendsGroups types graphs labels (suc number) groups middle after → AppendsGroups types graphs labels number (members ∷ groups) before after

-- the text of the graphs of a program
abbrev pub GraphText : Tac → Groups → ProgramGraphs → Labels → List ℕ → Type 0
GraphText tac groups graphs labels text = AppendsGroups tac.types graphs labels 0 groups.members.items [] text
