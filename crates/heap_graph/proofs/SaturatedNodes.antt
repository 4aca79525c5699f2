-- The nodes of a graph with all flags, and where targets and edges lead there.
use Rattle.std.proofs.Common.{◌≡◌, ℕ, zero, suc, Bool, true, false, List, [], ◌∷◌, slice_get, Option, Some, None, refl, sym, ap, ◌∙◌}
use Rattle.std.specs.Prelude.{map, option_map}
use Rattle.std.proofs.lemmas.Option.{none-some, same_Some}
use Rattle.c_typed.specs.Layouts.{StructDef}
use Rattle.tac_ir.specs.States.{Owner}
use Rattle.heap_graph.specs.Graphs.{Target, Element, Missing, OfType, Collapsed, Node, Graph, there, edge_in, node_at}
use Rattle.heap_graph.specs.Targets.{at_target, shifted, edge_at, implies, element_kept}
use Rattle.heap_graph.specs.Escaping.{Reaches, here, along, Escapes}
use Rattle.heap_graph.proofs.MapsCompose.{at_some, at_there, at_from, shifted_there, edge_there}
use Rattle.heap_graph.specs.Saturated.{saturated_node, saturated_graph}

-- ---- tests

pub implies_true : (test : Bool) → implies test true ≡ true
implies_true true = refl
implies_true false = refl

pub implies_more : (a b x y : Bool) → b ≡ a → (x ≡ true → y ≡ true) → implies a x ≡ true → implies b y ≡ true
implies_more true b x y e f h = ap (λ c. implies c y) e ∙ f h
implies_more false b x y e f h = ap (λ c. implies c y) e

-- where one test holds of a node, the other does of the node with all flags
abbrev pub Grows : (Node → ℕ → Bool) → (Node → ℕ → Bool) → Type 0
Grows few all = (node : Node) (shift : ℕ) → few node shift ≡ true → all (saturated_node node) shift ≡ true

-- a test that holds still with all flags
abbrev pub IsMonotone : (Node → ℕ → Bool) → Type 0
IsMonotone holds = Grows holds holds

pub array_monotone : (asked : Bool) → IsMonotone (λ node shift. implies asked node.flags.array)
array_monotone asked node shift h = implies_true asked

-- ---- nodes

saturated_in : (nodes : List (Option Node)) (number : ℕ) → there (slice_get (map (option_map saturated_node) nodes) number) ≡ option_map saturated_node (there (slice_get nodes number))
saturated_in [] number = refl
saturated_in (None ∷ nodes) zero = refl
saturated_in (Some node ∷ nodes) zero = refl
saturated_in (first ∷ nodes) (suc number) = saturated_in nodes number

pub node_saturated : (graph : Graph) (number : ℕ) → node_at (saturated_graph graph) number ≡ option_map saturated_node (node_at graph number)
node_saturated graph number = saturated_in graph.nodes number

none_there : (graph : Graph) (number : ℕ) → node_at graph number ≡ None → node_at (saturated_graph graph) number ≡ None
none_there graph number e = node_saturated graph number ∙ ap (option_map saturated_node) e

pub node_there : (graph : Graph) (number : ℕ) (node : Node) → node_at graph number ≡ Some node → node_at (saturated_graph graph) number ≡ Some (saturated_node node)
node_there graph number node e = node_saturated graph number ∙ ap (option_map saturated_node) e

-- each node with all flags is one of the graph
pub node_was : (graph : Graph) (number : ℕ) (node : Node) → node_at (saturated_graph graph) number ≡ Some node → (was : Node) × (node_at graph number ≡ Some was) × (saturated_node was ≡ node)
node_was graph number node e = by (node_at graph number) refl
  where
    by : (o : Option Node) → node_at graph number ≡ o → (was : Node) × (node_at graph number ≡ Some was) × (saturated_node was ≡ node)
    by None f = absurd (none-some node (sym (none_there graph number f) ∙ e))
    by (Some was) f = (was, f, same_Some (saturated_node was) node (sym (node_there graph number was f) ∙ e))

-- it has all flags
pub full : (graph : Graph) (number : ℕ) (node : Node) → node_at (saturated_graph graph) number ≡ Some node → saturated_node node ≡ node
full graph number node e = let was = node_was graph number node e in ap saturated_node (sym was.2) ∙ was.2

-- ---- targets

at_none : (graph : Graph) (target : Target) (holds : Node → ℕ → Bool) → node_at graph target.node ≡ None → at_target graph (Some target) holds ≡ false
at_none graph target holds e = rw e refl

shifted_none : (graph : Graph) (slots : ℕ) (target : Target) → node_at graph target.node ≡ None → shifted graph slots (Some target) ≡ None
shifted_none graph slots target e = rw e refl

edge_none : (graph : Graph) (target : Target) → node_at graph target.node ≡ None → edge_at graph (Some target) ≡ None
edge_none graph target e = rw e refl

pub at_saturated : (graph : Graph) (target : Option Target) (holds : Node → ℕ → Bool) → at_target (saturated_graph graph) target holds ≡ at_target graph target (λ node shift. holds (saturated_node node) shift)
at_saturated graph None holds = refl
at_saturated graph (Some x) holds = by (node_at graph x.node) refl
  where
    by : (o : Option Node) → node_at graph x.node ≡ o → at_target (saturated_graph graph) (Some x) holds ≡ at_target graph (Some x) (λ node shift. holds (saturated_node node) shift)
    by None e = at_none (saturated_graph graph) x holds (none_there graph x.node e) ∙ sym (at_none graph x (λ node shift. holds (saturated_node node) shift) e)
    by (Some node) e =
        at_some (saturated_graph graph) x holds (saturated_node node) (node_there graph x.node node e) ∙ sym (at_some graph x (λ node shift. holds (saturated_node node) shift) node e)

-- a test that looks at no flags
abbrev pub IsFlagless : (Node → ℕ → Bool) → Type 0
IsFlagless holds = (node : Node) (shift : ℕ) → holds (saturated_node node) shift ≡ holds node shift

pub element_flagless : (structs : List StructDef) (element : Element) → IsFlagless (element_kept structs element)
element_flagless structs Missing node shift = refl
element_flagless structs (OfType c_type) node shift = refl
element_flagless structs Collapsed node shift = refl

pub at_flagless : (graph : Graph) (target : Option Target) (holds : Node → ℕ → Bool) → IsFlagless holds → at_target (saturated_graph graph) target holds ≡ at_target graph target holds
at_flagless graph target holds flagless = at_saturated graph target holds ∙ (λ i. at_target graph target (λ node shift. flagless node shift i))

-- what holds of a node in the graph holds of it with all flags
pub at_grows : (graph : Graph) (target : Option Target) (few all : Node → ℕ → Bool) → Grows few all → at_target graph target few ≡ true → at_target (saturated_graph graph) target all ≡ true
at_grows graph None few all grows h = refl
at_grows graph (Some x) few all grows h =
    let found = at_there graph x few h in
    at_from (saturated_graph graph) x all (saturated_node found.node) (node_there graph x.node found.node found.is) (grows found.node x.shift found.so)

pub shifted_saturated : (graph : Graph) (slots : ℕ) (target : Option Target) → shifted (saturated_graph graph) slots target ≡ shifted graph slots target
shifted_saturated graph slots None = refl
shifted_saturated graph slots (Some x) = by (node_at graph x.node) refl
  where
    by : (o : Option Node) → node_at graph x.node ≡ o → shifted (saturated_graph graph) slots (Some x) ≡ shifted graph slots (Some x)
    by None e = shifted_none (saturated_graph graph) slots x (none_there graph x.node e) ∙ sym (shifted_none graph slots x e)
    by (Some node) e = shifted_there (saturated_graph graph) slots x (saturated_node node) (node_there graph x.node node e) ∙ sym (shifted_there graph slots x node e)

pub edge_saturated : (graph : Graph) (target : Option Target) → edge_at (saturated_graph graph) target ≡ edge_at graph target
edge_saturated graph None = refl
edge_saturated graph (Some x) = by (node_at graph x.node) refl
  where
    by : (o : Option Node) → node_at graph x.node ≡ o → edge_at (saturated_graph graph) (Some x) ≡ edge_at graph (Some x)
    by None e = edge_none (saturated_graph graph) x (none_there graph x.node e) ∙ sym (edge_none graph x e)
    by (Some node) e = edge_there (saturated_graph graph) x (saturated_node node) (node_there graph x.node node e) ∙ sym (edge_there graph x node e)

-- ---- nodes that escape

reaches_more : (graph : Graph) (from last : ℕ) → Reaches graph from last → Reaches (saturated_graph graph) from last
reaches_more graph from last (here node) = here node
reaches_more graph from last (along first end node slot to is edge rest) = along first end (saturated_node node) slot to (node_there graph first node is) edge (reaches_more graph to.node end rest)

reaches_was : (graph : Graph) (from last : ℕ) → Reaches (saturated_graph graph) from last → Reaches graph from last
reaches_was graph from last (here node) = here node
reaches_was graph from last (along first end node slot to is edge rest) =
    let was = node_was graph first node is in
    along first end was.0 slot to was.1 (ap (λ (n : Node). edge_in n.edges slot) was.2 ∙ edge) (reaches_was graph to.node end rest)

pub escapes_more : (graph : Graph) (owner : Owner) (node : ℕ) → Escapes graph owner node → Escapes (saturated_graph graph) owner node
escapes_more graph owner node escapes =
    record { name = escapes.name; outside = escapes.outside; target = escapes.target; is = escapes.is; reaches = reaches_more graph escapes.target.node node escapes.reaches }

pub escapes_was : (graph : Graph) (owner : Owner) (node : ℕ) → Escapes (saturated_graph graph) owner node → Escapes graph owner node
escapes_was graph owner node escapes =
    record { name = escapes.name; outside = escapes.outside; target = escapes.target; is = escapes.is; reaches = reaches_was graph escapes.target.node node escapes.reaches }
