use Rattle.std.proofs.Common.{◌<◌, refl, sym, ap, subst, ◌∙◌, arith}
use Rattle.std.proofs.lemmas.Bool.{ne_eqb}
use Rattle.std.proofs.lemmas.Option.{none-some}
use Rattle.c_typed.specs.Table.{structs_in}
use Rattle.heap_graph.specs.Merging.{slots}
use Rattle.heap_graph.specs.Graphs.{OfCopy}
use Rattle.graph_unification.specs.Memory.{graph_in}
use Rattle.heap_graph.specs.Frozen.{node_in, optional_node, bare}
use Rattle.heap_graph.proofs.Nodes.{node_shown, node_before}
use Rattle.dsa_inlining.specs.Steps.{Stays, Gets}
use Rattle.dsa_inlining.proofs.Seen.{has_value, has_none, adds_same}
use Rattle.dsa_inlining.proofs.copies.Copies.add.Goals as goal

pub returns-then-is_some-clause-gets : goal.returns-then-is_some-clause-gets
returns-then-is_some-clause-gets c = Stays refl (λ other. refl) refl (λ node is.
    let has = has_value c.get.result (sym c.is_some.ensures ∙ c.if-is_some.true) in
    (has.0, sym c.get.ensures.value ∙ has.1))

pub returns-in_default-clause-gets : goal.returns-in_default-clause-gets
returns-in_default-clause-gets c = Stays refl (λ other. refl) refl (λ node is.
    let table = c.args.types.now in
    let callee = c.args.callee.now in
    absurd (none-some node (sym (node_shown table callee.nodes.items (bare table callee) refl c.args.number ∙ ap (optional_node table) c.in_default.ensures) ∙ is)))

pub add_name-requires-clause-slot : goal.add_name-requires-clause-slot
add_name-requires-clause-slot c =
    let table = c.args.types.now in
    let callee = c.args.callee.now in
    subst (λ e. 0 < slots (structs_in table) e) (sym c.standing-element.ensures.same)
    (c.requires.slots c.args.number (node_in table c.in-Some.node.now) (node_before table callee.nodes.items (bare table callee) refl c.args.number c.in-Some.node.now c.in-Some.ensures))

pub returns-in-Ok-clause-gets : goal.returns-in-Ok-clause-gets
returns-in-Ok-clause-gets c =
    let table = c.args.types.now in
    let callee = c.args.callee.now in
    Gets (node_in table c.in-Some.node.now) (node_before table callee.nodes.items (bare table callee) refl c.args.number c.in-Some.node.now c.in-Some.ensures)
    (sym c.get.ensures.value ∙ has_none c.get.result (sym c.is_some.ensures ∙ c.if-is_some.false))
    c.in-Ok.ensures.updates.1
    (λ other differs. c.in-Ok.ensures.updates.2 other (ne_eqb c.args.number other (λ same. differs (sym same))))
    (omega (arith, c.in-Some-checked_add.ensures.1))
    (adds_same (graph_in table c.args.graph.now) (graph_in table c.add_name.new.graph) (OfCopy c.args.self.now.next) _ _ _ _ c.standing-element.ensures.same c.copied_flags-flags.ensures
    c.in_ok-add_name.ensures.adds)
