-- What is told of first values in a graph that was made closes the graph of `start` that shows its certain nodes.
use Rattle.std.proofs.Common.{◌≡◌, ℕ, ◌+◌, Bool, true, false, List, [], length, Option, Some, None, refl, sym, ap, subst, ◌∙◌}
use Rattle.std.specs.Prelude.{◌&&◌}
use Rattle.std.proofs.lemmas.Bool.{and_parts, ltb-true}
use Rattle.tac_ir.specs.States.{Owner, InStart}
use Rattle.heap_graph.specs.Graphs.{Target, Flags, Name, OfGlobal, OfLiteral, Graph, is_copy}
use Rattle.heap_graph.specs.Targets.{has_target, at_target, shifted, edge_at, implies, flags_kept}
use Rattle.heap_graph.specs.Closed.{Family, graph_of, first_closed}
use Rattle.heap_graph.proofs.MapsCompose.{at_there, at_from, shift_in, shifted_there}
use Rattle.heap_graph.proofs.StepsCompose.{flags_itself}
use Rattle.heap_graph.specs.Asks.{is_certain}
use Rattle.heap_graph.specs.Restricted.{SameFlags, Restricts}
use Rattle.heap_graph.proofs.Certain.{target_of_certain, if_yes}
use Rattle.heap_graph.proofs.Restricting.{at_certain, shifted_certain, edge_certain}
use Rattle.graph_unification.proofs.Staying.{implied_holds}
use Rattle.graph_unification.proofs.Fitting.{found_below}
use Rattle.dsa_local.specs.Told.{NamesTold}
use Rattle.dsa_local.specs.Shown.{Shows}
use Rattle.dsa_local.proofs.Telling.{certain_has}
use Rattle.dsa_local.specs.FirstTold.{FirstTold, SameEdges}
use Rattle.dsa_local.proofs.Carried.{Carries, first_carried}

array_more : (asked : Bool) (a b : Flags) → flags_kept a b ≡ true → implies asked a.array ≡ true → implies asked b.array ≡ true
array_more false a b h is = refl
array_more true a b h is =
    let last = implies a.modified b.modified && implies a.read b.read in
    let stack = and_parts (implies a.stack b.stack) (implies a.global b.global && (implies a.array b.array && last)) (and_parts (implies a.heap b.heap) _ h).1 in
    let global = and_parts (implies a.global b.global) (implies a.array b.array && last) stack.1 in
    implied_holds a.array b.array (and_parts (implies a.array b.array) last global.1).0 is

modified_more : (a b : Flags) → flags_kept a b ≡ true → a.modified ≡ true → b.modified ≡ true
modified_more a b h is =
    let last = implies a.modified b.modified && implies a.read b.read in
    let stack = and_parts (implies a.stack b.stack) (implies a.global b.global && (implies a.array b.array && last)) (and_parts (implies a.heap b.heap) _ h).1 in
    let global = and_parts (implies a.global b.global) (implies a.array b.array && last) stack.1 in
    let rest = and_parts (implies a.array b.array) last global.1 in
    implied_holds a.modified b.modified (and_parts (implies a.modified b.modified) (implies a.read b.read) rest.1).0 is

module _ (made kept graph : Graph) (restricts : Restricts made kept) (shows : Shows kept graph) (edges : SameEdges kept graph) where
  parts_of : (slots : ℕ) (target : Option Target) → is_certain made target ≡ true → (shifted graph slots target ≡ shifted made slots target) × (is_certain made (shifted made slots target) ≡ true)
  parts_of slots target h =
      let x = target_of_certain made target h in
      let now = restricts.nodes x.0.node x.2.node x.2.is x.2.so in
      let shown = shows.nodes x.0.node now.now now.is in
      let moved = shifted_certain made kept restricts slots target h in
      let same : shifted graph slots (Some x.0) ≡ shifted kept slots (Some x.0) =
      shifted_there graph slots x.0 shown.now shown.is
      ∙ (ap (λ e. Some (record { node = x.0.node; shift = shift_in (record { element = e; flags = shown.now.flags; edges = [] }) (x.0.shift + slots) })) shown.element
      ∙ sym (shifted_there kept slots x.0 now.now now.is)) in
      (subst (λ t. shifted graph slots t ≡ shifted kept slots t) (sym x.1) same ∙ moved.0, moved.1)

  flags_of : (holds : Flags → Bool) → ((a b : Flags) → flags_kept a b ≡ true → holds a ≡ true → holds b ≡ true) → ((a b : Flags) → SameFlags a b → holds a ≡ holds b) → (target : Option Target)
      → is_certain made target ≡ true → at_target made target (λ node shift. holds node.flags) ≡ true → at_target graph target (λ node shift. holds node.flags) ≡ true
  flags_of holds more alike target certain h =
      shown_at target (at_certain made kept restricts target (λ node shift. holds node.flags) (λ a b shift element flags. alike a.flags b.flags flags) certain ∙ h)
    where
      shown_at : (t : Option Target) → at_target kept t (λ node shift. holds node.flags) ≡ true → at_target graph t (λ node shift. holds node.flags) ≡ true
      shown_at None k = refl
      shown_at (Some t) k =
          let there = at_there kept t (λ node shift. holds node.flags) k in
          let shown = shows.nodes t.node there.node there.is in
          at_from graph t (λ node shift. holds node.flags) shown.now shown.is (more there.node.flags shown.now.flags shown.flags there.so)

  edges_of : (target end : Option Target) → is_certain made target ≡ true → is_certain made end ≡ true → edge_at made target ≡ end → edge_at graph target ≡ end
  edges_of target end certain last e =
      edges target ∙ (edge_certain made kept restricts target certain ∙ (if_yes made (edge_at made target) (ap (is_certain made) e ∙ last) ∙ e))

  name_of : (name : Name) → is_copy name ≡ false → is_certain made (made.targets name) ≡ true → graph.targets name ≡ made.targets name
  name_of name own certain = shows.names name own ∙ (restricts.names name own ∙ if_yes made (made.targets name) certain)

  pub shown_carries : ((number : ℕ) → has_target (made.targets (OfGlobal number)) ≡ true → is_certain made (made.targets (OfGlobal number)) ≡ true)
      → ((number : ℕ) → has_target (made.targets (OfLiteral number)) ≡ true → is_certain made (made.targets (OfLiteral number)) ≡ true) → Carries made graph (λ target. target) (λ target. is_certain made target ≡ true)
  shown_carries globals literals = record {
    has = λ target certain. certain_has made target certain;
    parts = parts_of;
    leads = edges_of;
    array = λ asked. flags_of (λ flags. implies asked flags.array) (array_more asked) (λ a b same. ap (implies asked) same.array);
    modified = flags_of (λ flags. flags.modified) modified_more (λ a b same. same.modified);
    globals = λ number has. (globals number has, name_of (OfGlobal number) refl (globals number has));
    literals = λ number has. (literals number has, name_of (OfLiteral number) refl (literals number has));
  }

-- first values are stored in the graph of `start`
pub first_close : (family : Family) (made kept : Graph) → Restricts made kept → Shows kept (graph_of family InStart) → SameEdges kept (graph_of family InStart) → (owners : List Owner) → NamesTold family.tac owners made
    → FirstTold family.tac made → first_closed family 0 family.tac.globals ≡ true
first_close family made kept restricts shows edges owners names told =
    first_carried family made (λ target. target) (λ target. is_certain made target ≡ true)
    (shown_carries made kept (graph_of family InStart) restricts shows edges
    (λ number has.
    let found = found_below family.tac.globals number (ltb-true number (length family.tac.globals) (names.only (OfGlobal number) refl has)) in
    (names.statics.globals number found.0 found.1 has).certain)
    (λ number has.
    let found = found_below family.tac.literals number (ltb-true number (length family.tac.literals) (names.only (OfLiteral number) refl has)) in
    (names.statics.literals number found.0 found.1 has).certain))
    0 family.tac.globals told

-- a graph shows itself
shows_itself : (graph : Graph) → Shows graph graph
shows_itself graph = record {
  names = λ name own. refl;
  nodes = λ number node is. record {
    now = node;
    is = is;
    element = refl;
    flags = (and_parts (implies node.flags.certain node.flags.certain) (flags_kept node.flags node.flags) (flags_itself node.flags)).1;
  };
}

-- so they are where the graph of `start` is what is kept
pub first_shown : (family : Family) (made kept : Graph) → Restricts made kept → graph_of family InStart ≡ kept → (owners : List Owner) → NamesTold family.tac owners made → FirstTold family.tac made
    → first_closed family 0 family.tac.globals ≡ true
first_shown family made kept restricts is owners names told =
    first_close family made kept restricts (subst (Shows kept) (sym is) (shows_itself kept)) (λ target. ap (λ (g : Graph). edge_at g target) is) owners names told
