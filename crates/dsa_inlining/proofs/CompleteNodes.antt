-- Which nodes are complete once it is told of all.
use Rattle.std.proofs.Common.{◌≡◌, ◌↔◌, ℕ, ◌<◌, Bool, true, false, List, length, Option, Some, None, refl, sym, ap, subst, ◌∙◌}
use Rattle.std.specs.Prelude.{not, option_map}
use Rattle.std.proofs.lemmas.Bool.{false≢true}
use Rattle.std.proofs.lemmas.Option.{none-some, same_Some}
use Rattle.c_typed.specs.Table.{Interned}
use Rattle.tac_ir.specs.declared.register.FunctionId.{FunctionId}
use Rattle.tac_ir.specs.declared.program.Tac.{Tac}
use Rattle.tac_ir.specs.Views.{tac_of}
use Rattle.tac_ir.specs.States.{Owner, InFunction}
use Rattle.heap_graph.specs.Graphs.{Node, Name, OfRegister, OfResult, OfObject, OfGlobal, OfLiteral, OfCopy, Graph, edge_in, node_at}
use Rattle.heap_graph.specs.Escaping.{Reaches, here, along, Escapes}
use Rattle.heap_graph.specs.declared.frozen.Node as memory_node
use Rattle.heap_graph.specs.declared.frozen.FunctionNames.{FunctionNames}
use Rattle.heap_graph.specs.declared.frozen.FrozenGraph.{FrozenGraph}
use Rattle.heap_graph.specs.Frozen.{static_in, node_in, optional_node, node_there, bare, graph_with}
use Rattle.graph_unification.specs.Freezing.{certain_name, Freezes}
use Rattle.graph_unification.proofs.FrozenNodes.{node_of_bare}
use Rattle.heap_graph.specs.declared.marks.NodeMarks.{NodeMarks}
use Rattle.heap_graph.specs.Marks.{is_marked}
use Rattle.heap_graph.specs.Edges.{EdgesAreFound}
use Rattle.heap_graph.proofs.Nodes.{node_within}
use Rattle.dsa_inlining.specs.Owners.{is_owner, names_in, TellsEach}
use Rattle.dsa_inlining.specs.Kept.{KeepsIf, EscapesNone, IsFrozen}
use Rattle.dsa_inlining.specs.Complete.{with_complete, MarksComplete, AreEscaping}
use Rattle.dsa_inlining.proofs.NamesTold.{targets_kept}
use Rattle.dsa_inlining.proofs.KeptNodes.{kept_after}
use Rattle.dsa_inlining.proofs.EscapingOne.{escapes_one, one_escapes}

-- ---- graphs with the same edges and targets

-- each node has the same edges there
abbrev pub SameEdges : Graph → Graph → Type 0
SameEdges graph other = (number : ℕ) (node : Node) → node_at graph number ≡ Some node → (same : Node) × (node_at other number ≡ Some same) × (same.edges ≡ node.edges)

reaches_there : (graph other : Graph) → SameEdges graph other → (from last : ℕ) → Reaches graph from last → Reaches other from last
reaches_there graph other same from last (here n) = here n
reaches_there graph other same from last (along n end node slot to is edge rest) =
    let there = same n node is in
    along n end there.0 slot to there.1 (ap (λ edges. edge_in edges slot) there.2 ∙ edge) (reaches_there graph other same to.node end rest)

escapes_there : (graph other : Graph) → SameEdges graph other → ((name : Name) → other.targets name ≡ graph.targets name) → (owner : Owner) (number : ℕ) → Escapes graph owner number → Escapes other owner number
escapes_there graph other same targets owner number escapes = record {
  name = escapes.name;
  outside = escapes.outside;
  target = escapes.target;
  is = targets escapes.name ∙ escapes.is;
  reaches = reaches_there graph other same escapes.target.node number escapes.reaches;
}

-- ---- marked nodes

not_marked : (b : Bool) → (b ≡ true → ⊥) → not b ≡ true
not_marked true never = absurd (never refl)
not_marked false never = refl

is_not : (b : Bool) → not b ≡ true → b ≡ true → ⊥
is_not true e h = false≢true e
is_not false e h = false≢true h

module _ (table : Interned) (tac : Tac) (owners : List (Option FunctionId)) (made : Graph) (old new : FrozenGraph) (names : List FunctionNames) (tells : TellsEach made tac owners names)
    (globals : new.globals ≡ old.globals) (literals : new.literals ≡ old.literals) (marks : NodeMarks) (complete : MarksComplete marks old.nodes.items new.nodes.items) where
  abbrev first : Graph
  first = graph_with table old (names_in owners names)

  abbrev last : Graph
  last = graph_with table new (names_in owners names)

  same_targets : (name : Name) → last.targets name ≡ first.targets name
  same_targets (OfRegister owner register) = refl
  same_targets (OfResult owner) = refl
  same_targets (OfObject owner local) = refl
  same_targets (OfGlobal number) = ap (λ found. static_in found number) globals
  same_targets (OfLiteral number) = ap (λ found. static_in found number) literals
  same_targets (OfCopy number) = refl

  marked_at : (number : ℕ) → node_at last number ≡ optional_node table (option_map (with_complete (not (is_marked marks number))) (node_there old.nodes.items number))
  marked_at number = node_of_bare table new number ∙ ap (optional_node table) (complete number)

  first_last : SameEdges first last
  first_last number node is = by (node_there old.nodes.items number) (sym (node_of_bare table old number) ∙ is) (marked_at number)
    where
      by : (o : Option memory_node.Node) → optional_node table o ≡ Some node → node_at last number ≡ optional_node table (option_map (with_complete (not (is_marked marks number))) o)
          → (same : Node) × (node_at last number ≡ Some same) × (same.edges ≡ node.edges)
      by None e h = absurd (none-some node e)
      by (Some own) e h = (node_in table (with_complete (not (is_marked marks number)) own), h, ap (λ (n : Node). n.edges) (same_Some (node_in table own) node e))

  pub record Own (number : ℕ) (node : Node) : Type 0 where
    pub own : memory_node.Node
    pub is : node_there old.nodes.items number ≡ Some own
    pub same : node_in table (with_complete (not (is_marked marks number)) own) ≡ node

  own_there : (number : ℕ) (node : Node) → node_at last number ≡ Some node → Own number node
  own_there number node is = by (node_there old.nodes.items number) refl (sym (marked_at number) ∙ is)
    where
      by : (o : Option memory_node.Node) → node_there old.nodes.items number ≡ o → optional_node table (option_map (with_complete (not (is_marked marks number))) o) ≡ Some node → Own number node
      by None e h = absurd (none-some node h)
      by (Some own) e h = record { own = own; is = e; same = same_Some (node_in table (with_complete (not (is_marked marks number)) own)) node h }

  last_first : SameEdges last first
  last_first number node is =
      let there = own_there number node is in
      (node_in table there.own, node_of_bare table old number ∙ ap (optional_node table) there.is, ap (λ (n : Node). n.edges) there.same)

  module _ (escaping : AreEscaping old owners names marks) (edges : EdgesAreFound old) where
    complete_is : (number : ℕ) (node : Node) → node_at last number ≡ Some node → (node.flags.complete ≡ true) ↔ EscapesNone last (is_owner owners) number
    complete_is number node is = (
      λ so function owner escapes.
          is_not (is_marked marks number) (flag ∙ so)
          (one_escapes table made tac owners old names tells marks escaping edges number function within owner (escapes_there last first last_first (λ name. sym (same_targets name)) (InFunction function) number escapes)),
      λ never. sym flag ∙ not_marked (is_marked marks number) (λ marked.
          let one = escapes_one table made tac owners old names tells marks escaping edges number within marked in
          never one.function one.is (escapes_there first last first_last same_targets (InFunction one.function) number one.escapes)),
    )
      where
        there : Own number node
        there = own_there number node is

        flag : not (is_marked marks number) ≡ node.flags.complete
        flag = ap (λ (n : Node). n.flags.complete) there.same

        within : number < length old.nodes.items
        within = node_within old.nodes.items number there.own there.is

    pub is_frozen : ((number : ℕ) → Freezes made (node_at made number) (node_at (bare table old) number)) → ((number : ℕ) → static_in old.globals number ≡ certain_name made (OfGlobal number))
        → ((number : ℕ) → static_in old.literals number ≡ certain_name made (OfLiteral number)) → IsFrozen (tac_of tac) (is_owner owners) made last
    is_frozen nodes of_globals of_literals = record {
      names = λ name. same_targets name ∙ targets_kept table tac owners made old names tells of_globals of_literals name;
      nodes = λ number.
          subst (KeepsIf made (node_at made number)) (sym (marked_at number))
          (kept_after table made (not (is_marked marks number)) (node_at made number) (node_there old.nodes.items number) (subst (Freezes made (node_at made number)) (node_of_bare table old number) (nodes number)));
      complete = complete_is;
    }
