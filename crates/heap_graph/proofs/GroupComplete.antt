-- Whether all nodes are complete that escape no function of a group.
use Rattle.std.proofs.Common.{◌≡◌, ℕ, ◌<◌, ◌≤◌, ◌↔◌, ◌⊎◌, inl, inr, Bool, true, false, List, map, length, Some, refl, sym, ap, ◌∙◌, arith}
use Rattle.std.specs.Prelude.{slice_get}
use Rattle.std.proofs.lemmas.Bool.{false≢true}
use Rattle.std.proofs.lemmas.Option.{slice_get_cases}
use Rattle.c_typed.specs.Table.{Interned}
use Rattle.tac_ir.specs.declared.register.FunctionId.{FunctionId}
use Rattle.tac_ir.specs.declared.register.Local.TheVariants as L
use Rattle.tac_ir.specs.declared.register.Register.TheVariants as R
use Rattle.tac_ir.specs.States.{InFunction}
use Rattle.heap_graph.specs.Graphs.{Target, Node, Name, OfRegister, OfResult, Graph}
use Rattle.heap_graph.specs.Escaping.{is_outside, Escapes}
use Rattle.heap_graph.specs.Closed.{Family, graph_of, is_in, of_group}
use Rattle.heap_graph.specs.Frozen.{optional_target, target_in, node_in, optional_node, node_there}
use Rattle.heap_graph.specs.declared.frozen.Node as memory_node
use Rattle.heap_graph.specs.declared.frozen.FrozenGraph.{FrozenGraph}
use Rattle.heap_graph.specs.declared.program.FunctionGraph.{FunctionGraph}
use Rattle.heap_graph.specs.Shows.{ShowsGroup}
use Rattle.heap_graph.specs.declared.marks.NodeMarks.{NodeMarks}
use Rattle.heap_graph.specs.Marks.{is_marked, IsOutside, IsMentionedBy}
use Rattle.heap_graph.specs.Edges.{EdgesAreFound, Comes}
use Rattle.heap_graph.specs.Complete.{numbers, AreComplete, AreOthersComplete}
use Rattle.heap_graph.proofs.Marking.{AreThese}
use Rattle.heap_graph.proofs.Members.{member_in, in_member, IsOutsideFirst, outside_within}
use Rattle.heap_graph.proofs.Nodes.{node_behind, node_before, node_within}
use Rattle.heap_graph.proofs.Outside.{Begins, escapes_from, begins_outside, begins_mentioned, outside_or_mentioned}
use Rattle.heap_graph.proofs.Reaching.{reaches_from_comes, comes_from_reaches}

module _ (table : Interned) (family : Family) (members : List FunctionId) (graph : FrozenGraph) (functions : List FunctionGraph)
    (shows : ShowsGroup table family (numbers members) graph functions) (one : ℕ) (inside : is_in one (numbers members) ≡ true) where
  abbrev shown : Graph
  shown = graph_of family (InFunction one)

  pub own_there : (function : ℕ) → is_in function (numbers members) ≡ true → (own : FunctionGraph) × (slice_get functions function ≡ Some own)
  own_there function is = elim (slice_get_cases functions function).1 [ inl found ↦ (found.0, found.2) | inr past ↦ absurd (omega (arith, past.0, shows.there function is)) ]

  module _ (function : ℕ) (is : is_in function (numbers members) ≡ true) (own : FunctionGraph) (there : slice_get functions function ≡ Some own) where
    formals : (number : ℕ) → shown.targets (OfRegister (InFunction function) (R.Local (L.Parameter number))) ≡ target_in own.names.parameters.items number
    formals number =
        ap (λ g. g.targets (OfRegister (InFunction function) (R.Local (L.Parameter number)))) (shows.same one function inside is)
        ∙ (shows.names function own is there).registers (R.Local (L.Parameter number))

    returned : shown.targets (OfResult (InFunction function)) ≡ optional_target own.names.returned
    returned = ap (λ g. g.targets (OfResult (InFunction function))) (shows.same one function inside is) ∙ (shows.names function own is there).returned

    pub group_begins : (number : ℕ) → IsOutside own.names number → Begins shown (InFunction function) number
    group_begins = begins_outside shown (InFunction function) own.names graph formals returned (shows.one one inside).globals (shows.one one inside).literals

    pub group_mentions : (number : ℕ) → IsMentionedBy graph number → Begins shown (InFunction function) number
    group_mentions = begins_mentioned shown (InFunction function) own.names graph formals returned (shows.one one inside).globals (shows.one one inside).literals

    pub group_outside : (name : Name) (target : Target) → is_outside (InFunction function) name ≡ true → shown.targets name ≡ Some target → IsOutside own.names target.node ⊎ IsMentionedBy graph target.node
    group_outside = outside_or_mentioned shown (InFunction function) own.names graph formals returned (shows.one one inside).globals (shows.one one inside).literals

  module _ (count : ℕ) (long : length members ≤ count) where
    abbrev These : ℕ → Type 0
    These number = IsOutsideFirst members functions count number ⊎ IsMentionedBy graph number

    these_begin : (number : ℕ) → These number → (function : ℕ) × (is_in function (numbers members) ≡ true) × Begins shown (InFunction function) number
    these_begin number (inl found) =
        let is = member_in members found.place found.member found.is in
        (found.member.0, is, group_begins found.member.0 is found.own found.there number found.outside)
    these_begin number (inr found) = let own = own_there one inside in (one, inside, group_mentions one inside own.0 own.1 number found)

    begin_these : (function : ℕ) (name : Name) (target : Target) → is_in function (numbers members) ≡ true → is_outside (InFunction function) name ≡ true → shown.targets name ≡ Some target
        → These target.node
    begin_these function name target is outside at = by (group_outside function is own.0 own.1 name target outside at)
      where
        own : (own : FunctionGraph) × (slice_get functions function ≡ Some own)
        own = own_there function is

        by : IsOutside own.0.names target.node ⊎ IsMentionedBy graph target.node → These target.node
        by (inl found) =
            let place = in_member members function is in
            inl (outside_within members functions count target.node place.0 place.1 own.0 long place.2 (ap (slice_get functions) place.3 ∙ own.1) found)
        by (inr found) = inr found

    module _ (edges : EdgesAreFound graph) (marks : NodeMarks)
        (these : AreThese graph.nodes.items marks (λ number. (start : ℕ) × These start × Comes graph.nodes.items start number)) where
      nodes_are : shown.nodes ≡ map (optional_node table) graph.nodes.items
      nodes_are = (shows.one one inside).nodes

      escapes_one : (number : ℕ) → is_marked marks number ≡ true → number < length graph.nodes.items
          → (function : ℕ) × (is_in function (numbers members) ≡ true) × Escapes shown (InFunction function) number
      escapes_one number is within =
          let come = (these.exactly number within).0 is in
          let begins = these_begin come.0 come.1 in
          (begins.0, begins.1, escapes_from shown (InFunction begins.0) come.0 number begins.2 (reaches_from_comes table graph shown nodes_are edges come.0 number come.2))

      one_escapes : (number function : ℕ) → number < length graph.nodes.items → is_in function (numbers members) ≡ true → Escapes shown (InFunction function) number → is_marked marks number ≡ true
      one_escapes number function within is escapes =
          (these.exactly number within).1 (
            escapes.target.node,
            begin_these function escapes.name escapes.target is escapes.outside escapes.is,
            comes_from_reaches table graph shown nodes_are escapes.target.node number escapes.reaches,
          )

      are_complete : AreOthersComplete graph.nodes.items marks → AreComplete shown (of_group (numbers members))
      are_complete all number node is never =
          let own = node_behind table graph.nodes.items shown nodes_are number node is in
          sym (ap (λ (n : Node). n.flags.complete) own.2) ∙ all number own.0 own.1 (by own.0 own.1 (is_marked marks number) refl)
        where
          by : (own : memory_node.Node) → node_there graph.nodes.items number ≡ Some own → (mark : Bool) → is_marked marks number ≡ mark → is_marked marks number ≡ false
          by own there true marked = let escapes = escapes_one number marked (node_within graph.nodes.items number own there) in absurd (never escapes.0 escapes.1 escapes.2)
          by own there false unmarked = unmarked

      others_complete : AreComplete shown (of_group (numbers members)) → AreOthersComplete graph.nodes.items marks
      others_complete all number own there unmarked =
          all number (node_in table own) (node_before table graph.nodes.items shown nodes_are number own there)
          (λ function is escapes. absurd (false≢true (sym unmarked ∙ one_escapes number function (node_within graph.nodes.items number own there) is escapes)))

      pub closed_is : (closed : Bool) → (closed ≡ true) ↔ AreOthersComplete graph.nodes.items marks → (closed ≡ true) ↔ AreComplete shown (of_group (numbers members))
      closed_is closed decides = (λ is. are_complete (decides.0 is), λ all. decides.1 (others_complete all))
