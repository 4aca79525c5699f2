-- Where paths lead, as it is read of a graph in memory.
use Rattle.std.proofs.Common.{◌≡◌, ℕ, ◌+◌, ◌<◌, ◌^◌, Bool, true, false, List, Option, Some, None, refl, sym, ap, subst, ◌∙◌}
use Rattle.std.specs.List.{list_any}
use Rattle.std.proofs.lemmas.Bool.{false≢true}
use Rattle.c_typed.specs.Types.{CType}
use Rattle.c_typed.specs.Layouts.{StructDef}
use Rattle.c_typed.specs.Table.{Interned}
use Rattle.tac_ir.specs.Code.{Path, Tac}
use Rattle.tac_ir.specs.States.{Owner}
use Rattle.heap_graph.specs.declared.graph.Element as memory_element
use Rattle.heap_graph.specs.declared.graph.Flags as memory_flags
use Rattle.heap_graph.specs.Graphs.{Target, Missing, OfType, Collapsed, Node, Graph, node_at}
use Rattle.heap_graph.specs.Memory.{element_in}
use Rattle.heap_graph.specs.Structures.{AreMade}
use Rattle.heap_graph.specs.Targets.{at_target, holds_part}
use Rattle.heap_graph.specs.Points.{is_member, base_part, path_part}
use Rattle.heap_graph.specs.Merging.{IsSound}
use Rattle.heap_graph.proofs.MapsCompose.{shift_in, at_some}
use Rattle.graph_unification.specs.Changes.{TellsNode}
use Rattle.graph_unification.specs.Fits.{told_of, slots_to, type_at, PathFits}
use Rattle.graph_unification.specs.Applying.{IsMemberTyped}
use Rattle.graph_unification.proofs.PathSteps.{member_held, place_shifted, place_small, part_small}

nowhere_held : (graph : Graph) (target : Target) (holds : Node → ℕ → Bool) → node_at graph target.node ≡ None → at_target graph (Some target) holds ≡ false
nowhere_held graph target holds e = rw e refl

nothing_held : (structs : List StructDef) (c_type : CType) (node : Node) (shift : ℕ) → node.element ≡ Missing → holds_part structs c_type node shift ≡ false
nothing_held structs c_type node shift e = rw e refl

collapsed_shift : (node : Node) (shift : ℕ) → node.element ≡ Collapsed → 0 ≡ shift_in node shift
collapsed_shift node shift e = rw e refl

typed_shift : (node : Node) (shift : ℕ) (own : CType) → node.element ≡ OfType own → shift ≡ shift_in node shift
typed_shift node shift own e = rw e refl

module _ (tac : Tac) (made : AreMade tac.structs) (owner : Owner) (graph : Graph) (sound : IsSound tac.structs graph) (path : Path) (fits : PathFits tac graph owner path) (typed : IsMemberTyped tac owner path graph)
    (whole : Target) (at : (base_part tac graph owner path.base).target ≡ Some whole) (members : list_any is_member path.steps ≡ true) (table : Interned) where
  -- the node holds what is known of the base
  is_held : at_target graph (Some whole) (holds_part tac.structs (told_of path.base (base_part tac graph owner path.base).c_type)) ≡ true
  is_held = ap (λ t. at_target graph t (holds_part tac.structs (told_of path.base (base_part tac graph owner path.base).c_type))) (sym at) ∙ member_held tac owner graph path fits typed members

  pub no_node : TellsNode table (node_at graph whole.node) None → ⊥
  no_node tells = by (node_at graph whole.node) refl tells
    where
      by : (o : Option Node) → node_at graph whole.node ≡ o → TellsNode table o None → ⊥
      by None e h = false≢true (sym (nowhere_held graph whole (holds_part tac.structs (told_of path.base (base_part tac graph owner path.base).c_type)) e) ∙ is_held)
      by (Some node) e h = absurd h

  pub sum_small : slots_to tac.structs path.steps (base_part tac graph owner path.base).c_type < 2 ^ 64
  sum_small =
      let own = (base_part tac graph owner path.base).c_type in
      let its = fits.leads members in
      part_small tac.structs made (told_of path.base own) (slots_to tac.structs path.steps own) (type_at tac.structs path.steps own) its.part its.some

  module _ (element : memory_element.Element) (flags : memory_flags.Flags) (tells : TellsNode table (node_at graph whole.node) (Some (element, flags))) where
    pub at_missing : element_in table element ≡ Missing → ⊥
    at_missing is = by (node_at graph whole.node) refl tells
      where
        by : (o : Option Node) → node_at graph whole.node ≡ o → TellsNode table o (Some (element, flags)) → ⊥
        by None e h = absurd h
        by (Some node) e h =
            let c_type = told_of path.base (base_part tac graph owner path.base).c_type in
            false≢true (sym (at_some graph whole (holds_part tac.structs c_type) node e ∙ nothing_held tac.structs c_type node whole.shift (sym h.0 ∙ is)) ∙ is_held)

    pub at_collapsed : element_in table element ≡ Collapsed → Some (record { node = whole.node; shift = 0 }) ≡ (path_part tac graph owner path).target
    at_collapsed is = by (node_at graph whole.node) refl tells
      where
        by : (o : Option Node) → node_at graph whole.node ≡ o → TellsNode table o (Some (element, flags)) → Some (record { node = whole.node; shift = 0 }) ≡ (path_part tac graph owner path).target
        by None e h = absurd h
        by (Some node) e h =
            let total = whole.shift + slots_to tac.structs path.steps (base_part tac graph owner path.base).c_type in
            place_shifted tac owner graph path whole at members node e 0 (collapsed_shift node total (sym h.0 ∙ is))

    pub at_type : (own : CType) → element_in table element ≡ OfType own → (shift : ℕ)
        → (whole.shift + slots_to tac.structs path.steps (base_part tac graph owner path.base).c_type < 2 ^ 64 → shift ≡ whole.shift + slots_to tac.structs path.steps (base_part tac graph owner path.base).c_type)
        → Some (record { node = whole.node; shift = shift }) ≡ (path_part tac graph owner path).target
    at_type own is shift gives = by (node_at graph whole.node) refl tells
      where
        by : (o : Option Node) → node_at graph whole.node ≡ o → TellsNode table o (Some (element, flags)) → Some (record { node = whole.node; shift = shift }) ≡ (path_part tac graph owner path).target
        by None e h = absurd h
        by (Some node) e h =
            let total = whole.shift + slots_to tac.structs path.steps (base_part tac graph owner path.base).c_type in
            let same = typed_shift node total own (sym h.0 ∙ is) in
            let small = place_small tac made owner graph sound path fits typed whole at members node e in
            place_shifted tac owner graph path whole at members node e shift (gives (subst (λ n. n < 2 ^ 64) (sym same) small) ∙ same)
