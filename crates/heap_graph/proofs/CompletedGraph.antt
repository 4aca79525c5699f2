-- The nodes and edges of a completed graph: its certain nodes are those of the graph.
use Rattle.std.proofs.Common.{◌≡◌, ℕ, zero, suc, ◌<◌, Bool, true, false, cond, List, [], ◌∷◌, ◌++◌, length, Option, Some, None, refl, sym, ap, subst, ◌∙◌, ◌⊎◌, inl, inr, arith, eq-eqb}
use Rattle.std.specs.Prelude.{◌==◌, map, slice_get, option_map}
use Rattle.std.proofs.lemmas.Bool.{false≢true, and_parts, cond-true, cond-false, cases_eq, ne_eqb}
use Rattle.std.proofs.lemmas.Option.{none-some, same_Some}
use Rattle.heap_graph.specs.Graphs.{Target, Edge, Node, Name, Graph, there, edge_in, node_at}
use Rattle.heap_graph.specs.Targets.{has_target, edge_at, implies, is_collapsed}
use Rattle.heap_graph.specs.Closed.{Family, is_slot, edges_sound, GraphClosed}
use Rattle.tac_ir.specs.States.{Owner}
use Rattle.heap_graph.proofs.MapsCompose.{at_there, edge_there}
use Rattle.heap_graph.specs.Asks.{is_certain}
use Rattle.heap_graph.specs.Restricted.{if_certain, Restricts}
use Rattle.heap_graph.specs.Completed.{or_target, missing, completed_node, nothing_node, nothing_in, completed, HasNodes}
use Rattle.heap_graph.proofs.Certain.{certain_some, if_yes, if_not, target_of_certain}

-- ---- nodes

module _ (change : Node → Node) (last : Node) where
  kept_in : (nodes : List (Option Node)) (number : ℕ) (node : Node) → there (slice_get nodes number) ≡ Some node
      → there (slice_get (map (option_map change) nodes ++ Some last ∷ []) number) ≡ Some (change node)
  kept_in [] number node e = absurd (none-some node e)
  kept_in (first ∷ nodes) zero node e = ap (option_map change) e
  kept_in (first ∷ nodes) (suc number) node e = kept_in nodes number node e

  last_in : (nodes : List (Option Node)) → there (slice_get (map (option_map change) nodes ++ Some last ∷ []) (length nodes)) ≡ Some last
  last_in [] = refl
  last_in (first ∷ nodes) = last_in nodes

  -- a node is one that was there, or the last
  was_in : (nodes : List (Option Node)) (number : ℕ) (image : Node) → there (slice_get (map (option_map change) nodes ++ Some last ∷ []) number) ≡ Some image
      → ((node : Node) × (there (slice_get nodes number) ≡ Some node) × (change node ≡ image)) ⊎ (last ≡ image)
  was_in [] zero image e = inr (same_Some last image e)
  was_in [] (suc number) image e = absurd (none-some image e)
  was_in (None ∷ nodes) zero image e = absurd (none-some image e)
  was_in (Some node ∷ nodes) zero image e = inl (node, refl, same_Some (change node) image e)
  was_in (first ∷ nodes) (suc number) image e = was_in nodes number image e

-- ---- edges

chosen : (b : Bool) (x y z t : Option Target) → (y ≡ t → z ≡ t) → cond b x y ≡ t → cond b x z ≡ t
chosen true x y z t f h = h
chosen false x y z t f h = f h

other : (b : Bool) (x : Target) (y z t : Option Target) → (y ≡ None → z ≡ t) → cond b (Some x) y ≡ None → cond b (Some x) z ≡ t
other true x y z t f h = absurd (none-some x (sym h))
other false x y z t f h = f h

edge_before : (edges more : List Edge) (slot : ℕ) (to : Target) → edge_in edges slot ≡ Some to → edge_in (edges ++ more) slot ≡ Some to
edge_before [] more slot to e = absurd (none-some to e)
edge_before (edge ∷ edges) more slot to e = chosen (edge.slot == slot) (Some edge.to) (edge_in edges slot) (edge_in (edges ++ more) slot) (Some to) (edge_before edges more slot to) e

edge_behind : (edges more : List Edge) (slot : ℕ) → edge_in edges slot ≡ None → edge_in (edges ++ more) slot ≡ edge_in more slot
edge_behind [] more slot e = refl
edge_behind (edge ∷ edges) more slot e = other (edge.slot == slot) edge.to (edge_in edges slot) (edge_in (edges ++ more) slot) (edge_in more slot) (edge_behind edges more slot) e

edge_to : (graph : Graph) (node : Node) (edges : List Edge) (slot : ℕ) (to : Target) → edges_sound graph node edges ≡ true → edge_in edges slot ≡ Some to → is_slot graph (Some to) ≡ true
edge_to graph node [] slot to h e = absurd (none-some to e)
edge_to graph node (edge ∷ edges) slot to h e =
    let rest = (and_parts _ _ h).1 in
    let here = and_parts _ _ rest in
    by (edge.slot == slot) here.0 (edge_to graph node edges slot to (and_parts _ _ here.1).1) e
  where
    by : (b : Bool) → is_slot graph (Some edge.to) ≡ true → (edge_in edges slot ≡ Some to → is_slot graph (Some to) ≡ true) → cond b (Some edge.to) (edge_in edges slot) ≡ Some to → is_slot graph (Some to) ≡ true
    by true here rest h = subst (λ x. is_slot graph x ≡ true) h here
    by false here rest h = rest h

module _ (bound : ℕ) (nothing : Target) where
  abbrev IsMissing : Option Target → Type 0
  IsMissing edge = (edge ≡ None) ⊎ (edge ≡ Some nothing)

  missing_below : (number : ℕ) (edges : List Edge) (slot : ℕ) → edge_in edges slot ≡ None → slot < number → edge_in (missing bound nothing number edges) slot ≡ Some nothing
  missing_below zero edges slot e below = absurd (omega (arith, below))
  missing_below (suc number) edges slot e below = by (has_target (edge_in edges number)) refl (cases_eq number slot) (missing_below number edges slot e)
    where
      by : (b : Bool) → has_target (edge_in edges number) ≡ b → (number ≡ slot) ⊎ (number ≡ slot → ⊥) → (slot < number → edge_in (missing bound nothing number edges) slot ≡ Some nothing)
          → edge_in (cond b (missing bound nothing number edges) (record { slot = number; to = nothing } ∷ missing bound nothing number edges)) slot ≡ Some nothing
      by true h (inl same) rest = absurd (false≢true (sym (ap has_target (ap (edge_in edges) same ∙ e)) ∙ h))
      by true h (inr differs) rest = rest (omega (arith, below, differs))
      by false h (inl same) rest = cond-true (number == slot) _ _ (eq-eqb number slot same)
      by false h (inr differs) rest = cond-false (number == slot) _ _ (ne_eqb number slot differs) ∙ rest (omega (arith, below, differs))

  missing_only : (number : ℕ) (edges : List Edge) (slot : ℕ) → IsMissing (edge_in (missing bound nothing number edges) slot)
  missing_only zero edges slot = inl refl
  missing_only (suc number) edges slot = by (has_target (edge_in edges number)) (number == slot) (missing_only number edges slot)
    where
      first : (b : Bool) → IsMissing (edge_in (missing bound nothing number edges) slot) → IsMissing (cond b (Some nothing) (edge_in (missing bound nothing number edges) slot))
      first true rest = inr refl
      first false rest = rest

      by : (b c : Bool) → IsMissing (edge_in (missing bound nothing number edges) slot)
          → IsMissing (edge_in (cond b (missing bound nothing number edges) (record { slot = number; to = nothing } ∷ missing bound nothing number edges)) slot)
      by true c rest = rest
      by false c rest = first (number == slot) rest

  edge_kept : (node : Node) (slot : ℕ) (to : Target) → edge_in node.edges slot ≡ Some to → edge_in (completed_node bound nothing node).edges slot ≡ Some to
  edge_kept node slot to e = edge_before node.edges (missing bound nothing bound node.edges) slot to e

  edge_missing : (node : Node) (slot : ℕ) → edge_in node.edges slot ≡ None → slot < bound → edge_in (completed_node bound nothing node).edges slot ≡ Some nothing
  edge_missing node slot e below = edge_behind node.edges (missing bound nothing bound node.edges) slot e ∙ missing_below bound node.edges slot e below

  edge_beyond : (node : Node) (slot : ℕ) → edge_in node.edges slot ≡ None → IsMissing (edge_in (completed_node bound nothing node).edges slot)
  edge_beyond node slot e = by (missing_only bound node.edges slot)
    where
      by : IsMissing (edge_in (missing bound nothing bound node.edges) slot) → IsMissing (edge_in (completed_node bound nothing node).edges slot)
      by (inl h) = inl (edge_behind node.edges (missing bound nothing bound node.edges) slot e ∙ h)
      by (inr h) = inr (edge_behind node.edges (missing bound nothing bound node.edges) slot e ∙ h)

-- ---- the graph

pub closed_has_nodes : (family : Family) (graph : Graph) (owners : Owner → Bool) (one : Owner) → GraphClosed family graph owners one → HasNodes graph
closed_has_nodes family graph owners one closed = record { names = closed.names; edges = closed.edges }

module _ (bound : ℕ) (graph : Graph) where
  abbrev nothing : Target
  nothing = nothing_in graph

  pub node_kept : (number : ℕ) (node : Node) → node_at graph number ≡ Some node → node_at (completed bound graph) number ≡ Some (completed_node bound nothing node)
  node_kept number node e = kept_in (completed_node bound nothing) (nothing_node nothing) graph.nodes number node e

  pub nothing_uncertain : is_certain (completed bound graph) (Some nothing) ≡ false
  nothing_uncertain = certain_some (completed bound graph) nothing (nothing_node nothing) (last_in (completed_node bound nothing) (nothing_node nothing) graph.nodes)

  -- slots of the graph are of certain nodes
  pub slot_certain : (target : Target) → is_slot graph (Some target) ≡ true → is_certain (completed bound graph) (Some target) ≡ true
  slot_certain target h =
      let found = at_there graph target (λ node shift. implies (is_collapsed node.element) (shift == 0)) h in
      certain_some (completed bound graph) target (completed_node bound nothing found.node) (node_kept target.node found.node found.is)

  certain_was : (number : ℕ) (image : Node) → node_at (completed bound graph) number ≡ Some image → image.flags.certain ≡ true
      → (node : Node) × (node_at graph number ≡ Some node) × (completed_node bound nothing node ≡ image)
  certain_was number image e h = by (was_in (completed_node bound nothing) (nothing_node nothing) graph.nodes number image e)
    where
      by : ((node : Node) × (node_at graph number ≡ Some node) × (completed_node bound nothing node ≡ image)) ⊎ (nothing_node nothing ≡ image)
          → (node : Node) × (node_at graph number ≡ Some node) × (completed_node bound nothing node ≡ image)
      by (inl found) = found
      by (inr last) = absurd (false≢true (ap (λ (node : Node). node.flags.certain) last ∙ h))

  module _ (sound : HasNodes graph) where
    name_restricted : (target : Option Target) → is_slot graph target ≡ true → target ≡ if_certain (completed bound graph) (or_target nothing target)
    name_restricted None h = sym (if_not (completed bound graph) (Some nothing) nothing_uncertain)
    name_restricted (Some target) h = sym (if_yes (completed bound graph) (Some target) (slot_certain target h))

    edge_restricted : (node : Node) (slot : ℕ) → edges_sound graph node node.edges ≡ true → edge_in node.edges slot ≡ if_certain (completed bound graph) (edge_in (completed_node bound nothing node).edges slot)
    edge_restricted node slot h = by (edge_in node.edges slot) refl
      where
        without : IsMissing bound nothing (edge_in (completed_node bound nothing node).edges slot) → None ≡ if_certain (completed bound graph) (edge_in (completed_node bound nothing node).edges slot)
        without (inl e) = sym (ap (if_certain (completed bound graph)) e)
        without (inr e) = sym (ap (if_certain (completed bound graph)) e ∙ if_not (completed bound graph) (Some nothing) nothing_uncertain)

        by : (edge : Option Target) → edge_in node.edges slot ≡ edge → edge_in node.edges slot ≡ if_certain (completed bound graph) (edge_in (completed_node bound nothing node).edges slot)
        by None e = e ∙ without (edge_beyond bound nothing node slot e)
        by (Some to) e =
            e ∙ sym (ap (if_certain (completed bound graph)) (edge_kept bound nothing node slot to e)
            ∙ if_yes (completed bound graph) (Some to) (slot_certain to (edge_to graph node node.edges slot to h e)))

    certain_edges : (target : Target) → is_certain (completed bound graph) (Some target) ≡ true → edge_at graph (Some target) ≡ if_certain (completed bound graph) (edge_at (completed bound graph) (Some target))
    certain_edges target h =
        let x = target_of_certain (completed bound graph) (Some target) h in
        let same = same_Some target x.0 x.1 in
        let was = certain_was x.0.node x.2.node x.2.is x.2.so in
        let is : node_at graph target.node ≡ Some was.0 = ap (λ (t : Target). node_at graph t.node) same ∙ was.1 in
        edge_there graph target was.0 is
        ∙ (edge_restricted was.0 target.shift (sound.edges target.node was.0 is)
        ∙ sym (ap (if_certain (completed bound graph)) (edge_there (completed bound graph) target (completed_node bound nothing was.0) (node_kept target.node was.0 is))))

    -- names, copies too, are those of certain nodes
    pub completed_names : (name : Name) → graph.targets name ≡ if_certain (completed bound graph) ((completed bound graph).targets name)
    completed_names name = name_restricted (graph.targets name) (sound.names name)

    pub completed_restricts : Restricts (completed bound graph) graph
    completed_restricts = record {
      names = λ name own. completed_names name;
      nodes = λ number image e h.
          let was = certain_was number image e h in
          record {
            now = was.0;
            is = was.1;
            element = ap (λ (node : Node). node.element) was.2;
            flags = record {
              heap = ap (λ (node : Node). node.flags.heap) was.2;
              stack = ap (λ (node : Node). node.flags.stack) was.2;
              global = ap (λ (node : Node). node.flags.global) was.2;
              array = ap (λ (node : Node). node.flags.array) was.2;
              modified = ap (λ (node : Node). node.flags.modified) was.2;
              read = ap (λ (node : Node). node.flags.read) was.2;
            };
          };
      edges = certain_edges;
    }

    -- below the bound an edge that is missing leads to nothing
    pub completed_edge : (target : Option Target) → is_certain (completed bound graph) target ≡ true → ((x : Target) → target ≡ Some x → x.shift < bound)
        → edge_at (completed bound graph) target ≡ or_target nothing (edge_at graph target)
    completed_edge target h below =
        let x = target_of_certain (completed bound graph) target h in
        let was = certain_was x.0.node x.2.node x.2.is x.2.so in
        subst (λ t. edge_at (completed bound graph) t ≡ or_target nothing (edge_at graph t)) (sym x.1)
        (edge_there (completed bound graph) x.0 (completed_node bound nothing was.0) (node_kept x.0.node was.0 was.1)
        ∙ (at_slot was.0 x.0.shift (below x.0 x.1) ∙ sym (ap (or_target nothing) (edge_there graph x.0 was.0 was.1))))
      where
        at_slot : (node : Node) (slot : ℕ) → slot < bound → edge_in (completed_node bound nothing node).edges slot ≡ or_target nothing (edge_in node.edges slot)
        at_slot node slot less = by (edge_in node.edges slot) refl
          where
            by : (edge : Option Target) → edge_in node.edges slot ≡ edge → edge_in (completed_node bound nothing node).edges slot ≡ or_target nothing (edge_in node.edges slot)
            by None e = edge_missing bound nothing node slot e less ∙ sym (ap (or_target nothing) e)
            by (Some to) e = edge_kept bound nothing node slot to e ∙ sym (ap (or_target nothing) e)
