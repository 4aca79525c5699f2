-- What first values ask of the graph of `start` in a closed family holds of the completed graph: graphs that are being made are on the way to it.
use Rattle.std.proofs.Common.{◌≡◌, ℕ, ◌+◌, Bool, true, false, cond, List, [], ◌∷◌, ◌++◌, Option, Some, None, refl, sym, ap, ◌∙◌}
use Rattle.std.specs.Prelude.{◌==◌}
use Rattle.std.proofs.lemmas.Bool.{false≢true}
use Rattle.std.proofs.lemmas.Option.{none-some}
use Rattle.tac_ir.specs.Code.{Tac}
use Rattle.tac_ir.specs.States.{InStart}
use Rattle.heap_graph.specs.Graphs.{Target, Flags, Edge, Node, Name, OfGlobal, OfLiteral, Graph, edge_in, node_at}
use Rattle.heap_graph.specs.Targets.{has_target, at_target, is_collapsed, shifted, edge_at, implies}
use Rattle.heap_graph.specs.Closed.{Family, graph_of, is_slot, first_closed}
use Rattle.heap_graph.proofs.MapsCompose.{at_some, at_there, at_from, shift_in, shifted_there, edge_there}
use Rattle.heap_graph.specs.Completed.{or_target, nothing_in, missing, completed_node, completed, HasNodes}
use Rattle.heap_graph.proofs.CompletedGraph.{node_kept}
use Rattle.dsa_local.specs.FirstTold.{alone, FirstTold}
use Rattle.dsa_local.proofs.Carried.{Carries, first_on, first_carried}
use Rattle.dsa_local.proofs.GoingOn.{IsFound}

edge_before : (edges more : List Edge) (slot : ℕ) (to : Target) → edge_in edges slot ≡ Some to → edge_in (edges ++ more) slot ≡ Some to
edge_before [] more slot to e = absurd (none-some to e)
edge_before (edge ∷ edges) more slot to e = by (edge.slot == slot) e (edge_before edges more slot to)
  where
    by : (b : Bool) → cond b (Some edge.to) (edge_in edges slot) ≡ Some to → (edge_in edges slot ≡ Some to → edge_in (edges ++ more) slot ≡ Some to)
        → cond b (Some edge.to) (edge_in (edges ++ more) slot) ≡ Some to
    by true e rest = e
    by false e rest = rest e

module _ (graph : Graph) (sound : HasNodes graph) where
  found_name : (name : Name) → has_target (graph.targets name) ≡ true → IsFound graph (graph.targets name)
  found_name name has = by (graph.targets name) refl
    where
      by : (o : Option Target) → graph.targets name ≡ o → IsFound graph (graph.targets name)
      by None e = absurd (false≢true (sym (ap has_target e) ∙ has))
      by (Some target) e =
          let there = at_there graph target (λ node shift. implies (is_collapsed node.element) (shift == 0)) (ap (is_slot graph) (sym e) ∙ sound.names name) in
          record { target = target; at = e; node = there.node; is = there.is }

  part_at : (slots : ℕ) (found : Option Target) (its : IsFound graph found) → shifted graph slots found ≡ Some (record { node = its.target.node; shift = shift_in its.node (its.target.shift + slots) })
  part_at slots found its = ap (shifted graph slots) its.at ∙ shifted_there graph slots its.target its.node its.is

  part_found : (slots : ℕ) (found : Option Target) → IsFound graph found → IsFound graph (shifted graph slots found)
  part_found slots found its = record {
    target = record { node = its.target.node; shift = shift_in its.node (its.target.shift + slots) };
    at = part_at slots found its;
    node = its.node;
    is = its.is;
  }

  -- ---- the same graph

  same_carries : Carries graph graph (λ target. target) (IsFound graph)
  same_carries = record {
    has = λ target its. ap has_target its.at;
    parts = λ slots target its. (refl, part_found slots target its);
    leads = λ target end its last h. h;
    array = λ asked target its h. h;
    modified = λ target its h. h;
    globals = λ number has. (found_name (OfGlobal number) has, refl);
    literals = λ number has. (found_name (OfLiteral number) has, refl);
  }

  -- ---- the completed graph

  module _ (bound : ℕ) where
    kept : (found : Option Target) (its : IsFound graph found) → node_at (completed bound graph) its.target.node ≡ Some (completed_node bound (nothing_in graph) its.node)
    kept found its = node_kept bound graph its.target.node its.node its.is

    parts_of : (slots : ℕ) (found : Option Target) → IsFound graph found → shifted (completed bound graph) slots found ≡ shifted graph slots found
    parts_of slots found its =
        ap (shifted (completed bound graph) slots) its.at
        ∙ (shifted_there (completed bound graph) slots its.target (completed_node bound (nothing_in graph) its.node) (kept found its) ∙ sym (part_at slots found its))

    edges_of : (found end : Option Target) → IsFound graph found → IsFound graph end → edge_at graph found ≡ end → edge_at (completed bound graph) found ≡ end
    edges_of found end its last e =
        let edge : edge_in its.node.edges its.target.shift ≡ Some last.target = sym (edge_there graph its.target its.node its.is) ∙ (ap (edge_at graph) (sym its.at) ∙ (e ∙ last.at)) in
        ap (edge_at (completed bound graph)) its.at
        ∙ (edge_there (completed bound graph) its.target (completed_node bound (nothing_in graph) its.node) (kept found its)
        ∙ (edge_before its.node.edges (missing bound (nothing_in graph) bound its.node.edges) its.target.shift last.target edge ∙ sym last.at))

    flags_of : (holds : Flags → Bool) → ((flags : Flags) → holds (record flags { certain = true }) ≡ holds flags) → (found : Option Target) → IsFound graph found
        → at_target graph found (λ node shift. holds node.flags) ≡ true → at_target (completed bound graph) found (λ node shift. holds node.flags) ≡ true
    flags_of holds same found its h =
        let what : Node → ℕ → Bool = λ node shift. holds node.flags in
        let was : holds its.node.flags ≡ true = sym (at_some graph its.target what its.node its.is) ∙ (ap (λ t. at_target graph t what) (sym its.at) ∙ h) in
        ap (λ t. at_target (completed bound graph) t what) its.at
        ∙ at_from (completed bound graph) its.target what (completed_node bound (nothing_in graph) its.node) (kept found its) (same its.node.flags ∙ was)

    names_of : (name : Name) → IsFound graph (graph.targets name) → (completed bound graph).targets name ≡ graph.targets name
    names_of name its = ap (or_target (nothing_in graph)) its.at ∙ sym its.at

    completed_carries : Carries graph (completed bound graph) (λ target. target) (IsFound graph)
    completed_carries = record {
      has = λ target its. ap has_target its.at;
      parts = λ slots target its. (parts_of slots target its, part_found slots target its);
      leads = edges_of;
      array = λ asked. flags_of (λ flags. implies asked flags.array) (λ flags. refl);
      modified = flags_of (λ flags. flags.modified) (λ flags. refl);
      globals = λ number has. let its = found_name (OfGlobal number) has in (its, names_of (OfGlobal number) its);
      literals = λ number has. let its = found_name (OfLiteral number) has in (its, names_of (OfLiteral number) its);
    }

    pub first_completed : (tac : Tac) → FirstTold tac graph → FirstTold tac (completed bound graph)
    first_completed tac told = first_carried (alone tac (completed bound graph)) graph (λ target. target) (IsFound graph) completed_carries 0 tac.globals told

-- first values are told in the graph of `start` of a family in which they are closed
pub first_alone : (family : Family) → HasNodes (graph_of family InStart) → first_closed family 0 family.tac.globals ≡ true → FirstTold family.tac (graph_of family InStart)
first_alone family sound closed =
    first_on family.tac family.groups [] family.graphs (alone family.tac (graph_of family InStart)).graphs (λ target. target) (IsFound (graph_of family InStart)) (same_carries (graph_of family InStart) sound) 0
    family.tac.globals closed
