use Rattle.std.proofs.Common.{◌≡◌, ℕ, cond, List, Some, sym, ap, subst, ◌∙◌}
use Rattle.c_typed.specs.Table.{structs_in}
use Rattle.heap_graph.specs.Graphs.{Graph}
use Rattle.heap_graph.specs.Merging.{IsSound}
use Rattle.heap_graph.specs.Frozen.{bare}
use Rattle.heap_graph.specs.declared.frozen.FrozenGraph.{FrozenGraph}
use Rattle.heap_graph.specs.Edges.{EdgesAreFound}
use Rattle.graph_unification.specs.Memory.{owner_of}
use Rattle.dsa_inlining.specs.Copied.{numbers_in, AreCopied}
use Rattle.dsa_inlining.specs.Adding.{HaveSlots, AreClosed, AreNumbered, LeadsCopied}
use Rattle.dsa_inlining.specs.declared.before.Crossings.{Crossings}
use Rattle.dsa_inlining.specs.Before.{graphs_before, nodes_reached}
use Rattle.dsa_inlining.specs.CallSteps.{shown, HasEntry}
use Rattle.dsa_inlining.proofs.Reached.{bare_sound}
use Rattle.dsa_inlining.proofs.Stepping.{crosses_same}
use Rattle.dsa_inlining.proofs.Entering.{found_either_way, is_key, some_there, none_there, has_entry, Enters, crosses_copied}
use Rattle.dsa_inlining.proofs.before.Before.copy_called.Goals as goal

pub returns-then-is_some-clause-crosses : goal.returns-then-is_some-clause-crosses
returns-then-is_some-clause-crosses c =
    let before = graphs_before c.args.self in
    let made = c.requires.known.code.made in
    let group = c.args.caller.group in
    let owner = owner_of c.args.caller.owner in
    let own = c.args.own.now in
    let graph = shown c.args.self c.args.graph.now in
    let found = some_there c.get.result (sym c.is_some.ensures ∙ c.if-is_some.true) in
    crosses_same before made group owner (HasEntry before c.args.site c.args.called) own graph c.requires.graph.sound c.requires.stands
    (has_entry before made group owner c.args.site c.args.called own graph found.0 (sym (c.get.ensures.value ∙ found_either_way own.copies c.args.site c.args.called) ∙ found.1) c.requires.stands)

pub copy_escaping-requires-clause-slots : goal.copy_escaping-requires-clause-slots
copy_escaping-requires-clause-slots c =
    let table = c.args.self.tac.now.types in
    subst (λ (g : FrozenGraph). HaveSlots (structs_in table) (bare table g)) (c.graph_of-callee.ensures c.requires.reached) c.requires.reached.ready.slots

pub copy_escaping-requires-clause-sound : goal.copy_escaping-requires-clause-sound
copy_escaping-requires-clause-sound c =
    let table = c.args.self.tac.now.types in
    let reached = c.requires.reached in
    subst (λ (g : FrozenGraph). IsSound (structs_in table) (bare table g)) (c.graph_of-callee.ensures reached) (bare_sound table reached.graph reached.own.names reached.ready.sound)

pub copy_escaping-requires-clause-edges : goal.copy_escaping-requires-clause-edges
copy_escaping-requires-clause-edges c = subst EdgesAreFound (c.graph_of-callee.ensures c.requires.reached) c.requires.reached.ready.found

pub copy_escaping-requires-clause-closed : goal.copy_escaping-requires-clause-closed
copy_escaping-requires-clause-closed c =
    let reached = c.requires.reached in
    subst (λ (l : List ℕ). AreClosed c.graph_of-callee.result.now.nodes.items l) (c.escaping_of-escaping.ensures reached)
    (subst (λ (g : FrozenGraph). AreClosed g.nodes.items reached.numbers) (c.graph_of-callee.ensures reached) reached.ready.closed)

pub returns-clause-crosses : goal.returns-clause-crosses
returns-clause-crosses c =
    let self = c.args.self in
    let before = graphs_before self in
    let table = self.tac.now.types in
    let structs = structs_in table in
    let made = c.requires.known.code.made in
    let group = c.args.caller.group in
    let owner = owner_of c.args.caller.owner in
    let site = c.args.site in
    let called = c.args.called in
    let reached = c.requires.reached in
    let own = c.args.own.now in
    let copies = c.in_ok-copies.copies in
    let after : Crossings = record { copies = c.insert.new.self; next = copies.next } in
    let old = shown self c.args.graph.now in
    let new = shown self c.copy_escaping.new.graph in
    let its = c.in_ok-copies.ensures in
    let nodes : bare table c.graph_of-callee.result.now ≡ nodes_reached before called reached = ap (bare table) (sym (c.graph_of-callee.ensures reached)) in
    let updates = c.in_ok-insert.ensures.updates in
    let enters : Enters own after site called copies = record {
      at = λ s o.
          sym (found_either_way after.copies s o) ∙ (updates.0 (record { site = s; called = o }) ∙ ap (cond (is_key site called s o) (Some copies)) (found_either_way own.copies s o));
      next = λ i. copies.next;
    } in
    crosses_copied before made group owner site called reached c.requires.called own after copies (sym (c.get.ensures.value ∙ found_either_way own.copies site called) ∙ none_there c.get.result (sym c.is_some.ensures ∙ c.if-is_some.false))
    enters old new c.requires.graph.sound c.requires.stands its.goes its.names
    (subst (λ (l : List ℕ). AreNumbered (nodes_reached before called reached) l (numbers_in copies) own.next copies.next) (sym (c.escaping_of-escaping.ensures reached))
    (subst (λ (g : Graph). AreNumbered g c.escaping_of-escaping.result.now (numbers_in copies) own.next copies.next) nodes its.numbered))
    (subst (λ (g : Graph). AreCopied structs new g (numbers_in copies)) nodes its.copied) its.free
    (subst (λ (g : Graph). LeadsCopied structs old new g (numbers_in copies)) nodes its.leads)
