use Rattle.std.proofs.Common.{true, refl, sym, ap, subst, ◌∙◌, inl, inr}
use Rattle.std.specs.Prelude.{◌&&◌}
use Rattle.std.proofs.lemmas.Bool.{and_from}
use Rattle.std.proofs.lemmas.Option.{none-some}
use Rattle.c_typed.specs.Table.{structs_in}
use Rattle.heap_graph.specs.Graphs.{Flags, OfCopy}
use Rattle.heap_graph.specs.Memory.{target_of, element_in, flags_of}
use Rattle.heap_graph.specs.Targets.{types_differ}
use Rattle.graph_unification.specs.Changes.{SetsFlags}
use Rattle.graph_unification.specs.Memory.{graph_in}
use Rattle.heap_graph.specs.Frozen.{node_in, optional_node, bare}
use Rattle.heap_graph.proofs.Nodes.{node_shown, node_before}
use Rattle.graph_unification.specs.declared.marks.Mark.TheVariants as M
use Rattle.graph_unification.specs.Asked.{HasMark}
use Rattle.graph_unification.proofs.Marking.{marks}
use Rattle.graph_unification.proofs.Seen.{told_node, told_none}
use Rattle.dsa_inlining.specs.Copied.{numbers_in}
use Rattle.graph_unification.proofs.Goes.{goes_same, least_goes}
use Rattle.dsa_inlining.specs.CallCopies.Telling.{AsksCopy}
use Rattle.dsa_inlining.proofs.AskedCopies.{only_same, one_asked}
use Rattle.dsa_inlining.proofs.Told.{nothing_told, one_told, told_where, nothing_asked, already_told}
use Rattle.dsa_inlining.proofs.telling.tell_copy.Goals as goal
use Rattle.dsa_inlining.proofs.telling.tell_copy.Goals.{else-node-via-then-node+else-types_differ, else-node-via-else-node}

pub returns-in_default-clause-goes : goal.returns-in_default-clause-goes
returns-in_default-clause-goes c =
    let table = c.args.types.now in
    goes_same (structs_in table) c.requires.made (graph_in table c.args.graph.now) c.requires.graph.sound

pub returns-in_default-clause-arrays : goal.returns-in_default-clause-arrays
returns-in_default-clause-arrays c = nothing_told (graph_in c.args.types.now c.args.graph.now)

pub returns-in_default-get-clause-goes : goal.returns-in_default-get-clause-goes
returns-in_default-get-clause-goes c =
    let table = c.args.types.now in
    goes_same (structs_in table) c.requires.made (graph_in table c.args.graph.now) c.requires.graph.sound

pub returns-in_default-get-clause-arrays : goal.returns-in_default-get-clause-arrays
returns-in_default-get-clause-arrays c = nothing_told (graph_in c.args.types.now c.args.graph.now)

pub returns-in_default-target-clause-goes : goal.returns-in_default-target-clause-goes
returns-in_default-target-clause-goes c =
    let table = c.args.types.now in
    goes_same (structs_in table) c.requires.made (graph_in table c.args.graph.now) c.requires.graph.sound

pub returns-in_default-target-clause-arrays : goal.returns-in_default-target-clause-arrays
returns-in_default-target-clause-arrays c = nothing_told (graph_in c.args.types.now c.args.graph.now)

pub returns-in_default-node-clause-goes : goal.returns-in_default-node-clause-goes
returns-in_default-node-clause-goes c =
    let table = c.args.types.now in
    goes_same (structs_in table) c.requires.made (graph_in table c.args.graph.now) c.requires.graph.sound

pub returns-in_default-node-clause-arrays : goal.returns-in_default-node-clause-arrays
returns-in_default-node-clause-arrays c = nothing_told (graph_in c.args.types.now c.args.graph.now)

pub returns-else-node-clause-goes : goal.returns-else-node-clause-goes
returns-else-node-clause-goes c =
    let table = c.args.types.now in
    goes_same (structs_in table) c.requires.made (graph_in table c.args.graph.now) c.requires.graph.sound

pub returns-else-node-clause-arrays : goal.returns-else-node-clause-arrays
returns-else-node-clause-arrays c = nothing_told (graph_in c.args.types.now c.args.graph.now)

pub returns-in_default-clause-told : goal.returns-in_default-clause-told
returns-in_default-clause-told c = λ copy node of_node is.
    let table = c.args.types.now in
    let callee = c.args.callee.now in
    absurd (none-some node (sym (node_shown table callee.nodes.items (bare table callee) refl c.args.number ∙ ap (optional_node table) c.in_default.ensures) ∙ is))

pub returns-in_default-node-clause-told : goal.returns-in_default-node-clause-told
returns-in_default-node-clause-told c = λ copy node of_node is.
    let table = c.args.types.now in
    let graph = graph_in table c.args.graph.now in
    let slot = c.requires.graph.sound.names (OfCopy c.in-Some-get.copy.now) (target_of c.in-Some-target.target) (sym (c.in-Some-target.ensures table c.requires.graph)) in
    absurd (told_none table _ slot.node (c.in_default-node.ensures.tells table) slot.is)

pub returns-else-node-clause-told : goal.returns-else-node-clause-told
returns-else-node-clause-told c =
    let table = c.args.types.now in
    let callee = c.args.callee.now in
    let graph = graph_in table c.args.graph.now in
    let own = c.in-Some.node.now in
    let seen = told_node table graph c.in-Some-target.target.node c.in-Some-node.element c.in-Some-node.flags (c.in-Some-node.ensures.tells table) in
    told_where graph (bare table callee) (numbers_in c.args.copies.now) c.args.number c.in-Some-get.copy.now (node_in table own) (target_of c.in-Some-target.target) seen.node (sym c.in-Some-get.ensures.value)
    (node_before table callee.nodes.items (bare table callee) refl c.args.number own c.in-Some.ensures) (sym (c.in-Some-target.ensures table c.requires.graph)) seen.is
    (nothing_asked own.flags.heap (types_differ (element_in table own.element) seen.node.element) seen.node.flags.array
    (elim c.else-node.branch [
      | else-node-via-then-node+else-types_differ w ↦ inr (ap (types_differ (element_in table own.element)) (sym seen.element) ∙ sym w.types_differ.ensures ∙ w.if-types_differ.false)
      | else-node-via-else-node w ↦ inl w.if-node.false
    ]))

pub returns-then-types_differ-clause-goes : goal.returns-then-types_differ-clause-goes
returns-then-types_differ-clause-goes c =
    let table = c.args.types.now in
    let structs = structs_in table in
    let old = graph_in table c.args.graph.now in
    let new = graph_in table c.set_flags.new.self in
    let number = c.in-Some-target.target.node in
    let seen = told_node table old number c.in-Some-node.element c.in-Some-node.flags (c.in-Some-node.ensures.tells table) in
    least_goes structs c.requires.made old new (HasMark number M.Array)
    (marks structs c.requires.made old new number M.Array seen.node seen.is
    (subst (SetsFlags old new number) (ap (λ (f : Flags). record f { array = true }) seen.flags) (c.set_flags.ensures.sets table)) (c.set_flags.ensures.graph table c.requires.graph).sound)

pub returns-then-types_differ-clause-arrays : goal.returns-then-types_differ-clause-arrays
returns-then-types_differ-clause-arrays c =
    let table = c.args.types.now in
    let old = graph_in table c.args.graph.now in
    let number = c.in-Some-target.target.node in
    let seen = told_node table old number c.in-Some-node.element c.in-Some-node.flags (c.in-Some-node.ensures.tells table) in
    one_told old (graph_in table c.set_flags.new.self) number seen.node (record (flags_of c.in-Some-node.flags) { array = true }) seen.is (ap (λ (f : Flags). record f { array = true }) seen.flags) (c.set_flags.ensures.sets table)

pub returns-then-types_differ-clause-told : goal.returns-then-types_differ-clause-told
returns-then-types_differ-clause-told c =
    let table = c.args.types.now in
    let callee = c.args.callee.now in
    let old = graph_in table c.args.graph.now in
    let new = graph_in table c.set_flags.new.self in
    let own = c.in-Some.node.now in
    let target = target_of c.in-Some-target.target in
    let sets = c.set_flags.ensures.sets table in
    let seen = told_node table old target.node c.in-Some-node.element c.in-Some-node.flags (c.in-Some-node.ensures.tells table) in
    told_where new (bare table callee) (numbers_in c.args.copies.now) c.args.number c.in-Some-get.copy.now (node_in table own) target (record seen.node { flags = record (flags_of c.in-Some-node.flags) { array = true } })
    (sym c.in-Some-get.ensures.value) (node_before table callee.nodes.items (bare table callee) refl c.args.number own c.in-Some.ensures)
    (sets.names (OfCopy c.in-Some-get.copy.now) ∙ sym (c.in-Some-target.ensures table c.requires.graph)) (sets.at seen.node seen.is)
    (already_told (own.flags.heap && types_differ (element_in table own.element) seen.node.element))

pub returns-in_default-clause-only : goal.returns-in_default-clause-only
returns-in_default-clause-only c =
    let table = c.args.types.now in
    let graph = graph_in table c.args.graph.now in
    only_same (AsksCopy graph (bare table c.args.callee.now) (numbers_in c.args.copies.now)) graph

pub returns-in_default-get-clause-only : goal.returns-in_default-get-clause-only
returns-in_default-get-clause-only c =
    let table = c.args.types.now in
    let graph = graph_in table c.args.graph.now in
    only_same (AsksCopy graph (bare table c.args.callee.now) (numbers_in c.args.copies.now)) graph

pub returns-in_default-target-clause-only : goal.returns-in_default-target-clause-only
returns-in_default-target-clause-only c =
    let table = c.args.types.now in
    let graph = graph_in table c.args.graph.now in
    only_same (AsksCopy graph (bare table c.args.callee.now) (numbers_in c.args.copies.now)) graph

pub returns-in_default-node-clause-only : goal.returns-in_default-node-clause-only
returns-in_default-node-clause-only c =
    let table = c.args.types.now in
    let graph = graph_in table c.args.graph.now in
    only_same (AsksCopy graph (bare table c.args.callee.now) (numbers_in c.args.copies.now)) graph

pub returns-else-node-clause-only : goal.returns-else-node-clause-only
returns-else-node-clause-only c =
    let table = c.args.types.now in
    let graph = graph_in table c.args.graph.now in
    only_same (AsksCopy graph (bare table c.args.callee.now) (numbers_in c.args.copies.now)) graph

pub returns-then-types_differ-clause-only : goal.returns-then-types_differ-clause-only
returns-then-types_differ-clause-only c =
    let table = c.args.types.now in
    let callee = c.args.callee.now in
    let old = graph_in table c.args.graph.now in
    let number = c.in-Some-target.target.node in
    let own = c.in-Some.node.now in
    let seen = told_node table old number c.in-Some-node.element c.in-Some-node.flags (c.in-Some-node.ensures.tells table) in
    one_asked (AsksCopy old (bare table callee) (numbers_in c.args.copies.now)) old (graph_in table c.set_flags.new.self) number seen.node (record (flags_of c.in-Some-node.flags) { array = true }) seen.is
    (record {
      from = c.args.number;
      copy = c.in-Some-get.copy.now;
      of = sym c.in-Some-get.ensures.value;
      node = node_in table own;
      there = node_before table callee.nodes.items (bare table callee) refl c.args.number own c.in-Some.ensures;
      target = target_of c.in-Some-target.target;
      is = sym (c.in-Some-target.ensures table c.requires.graph);
      at = refl;
      asks = and_from own.flags.heap (types_differ (element_in table own.element) seen.node.element) c.if-node.true
          (ap (types_differ (element_in table own.element)) (sym seen.element) ∙ (sym c.types_differ.ensures ∙ c.if-types_differ.true));
    })
    (c.set_flags.ensures.sets table)
