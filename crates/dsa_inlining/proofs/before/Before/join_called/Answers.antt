use Rattle.std.proofs.Common.{◌≡◌, option_copied, sym, ap, subst, ◌∙◌, arith}
use Rattle.std.proofs.lemmas.Option.{none-some, slice_get_within}
use Rattle.c_typed.specs.Table.{structs_in}
use Rattle.tac_ir.specs.Views.{tac_of}
use Rattle.heap_graph.specs.Graphs.{Graph}
use Rattle.heap_graph.specs.Frozen.{bare, own_graph}
use Rattle.heap_graph.specs.declared.frozen.FunctionNames.{FunctionNames}
use Rattle.heap_graph.specs.declared.frozen.FrozenGraph.{FrozenGraph}
use Rattle.graph_unification.specs.Memory.{owner_of}
use Rattle.dsa_inlining.specs.declared.copies.Copies.{Copies}
use Rattle.dsa_inlining.specs.Copied.{numbers_in, AreCopied}
use Rattle.dsa_inlining.specs.Crossed.{IsCallee}
use Rattle.dsa_inlining.specs.Before.{graphs_before, graph_reached, nodes_reached}
use Rattle.dsa_inlining.specs.CallSteps.{shown}
use Rattle.dsa_inlining.proofs.Reached.{graph_there, is_callee}
use Rattle.dsa_inlining.proofs.Entering.{found_either_way, found_copies, crosses_joined}
use Rattle.dsa_inlining.proofs.before.Before.join_called.Goals as goal

pub returns-in_default-clause-crosses : goal.returns-in_default-clause-crosses
returns-in_default-clause-crosses c =
    let entry = c.requires.entry in
    absurd (none-some entry.copies (sym (ap option_copied c.in_default.is) ∙ (c.get.ensures.value ∙ (found_either_way c.args.own.now.copies c.args.site c.args.called ∙ entry.is))))

pub join-requires-clause-known : goal.join-requires-clause-known
join-requires-clause-known c =
    let self = c.args.self in
    let before = graphs_before self in
    let table = self.tac.now.types in
    let called = c.args.called in
    let entry = c.requires.entry in
    let reached = entry.stand.reached in
    let less = slice_get_within self.groups.now.group_of.items called reached.group reached.of in
    let same = found_copies c.args.own.now c.args.site called entry.copies c.get.result c.in-Some.copies c.get.ensures.value c.in-Some.is entry.is in
    let callee : graph_reached before called reached ≡ own_graph table c.graph_of.result.now c.names_of.result.now =
    ap (λ (g : FrozenGraph). own_graph table g reached.own.names) (c.graph_of.ensures reached) ∙ ap (λ (n : FunctionNames). own_graph table c.graph_of.result.now n) (c.names_of.ensures reached) in
    record {
      code = c.requires.known.code;
      literals = c.requires.known.literals;
      within = omega (arith, less, c.requires.known.groups.each);
      callee = subst (λ (g : Graph). IsCallee (tac_of self.tac.now) called g (numbers_in c.in-Some.copies.now)) callee
          (subst (λ (k : Copies). IsCallee (tac_of self.tac.now) called (graph_reached before called reached) (numbers_in k)) same
          (is_callee before called reached (numbers_in entry.copies) entry.stand.first entry.stand.next entry.stand.numbered));
    }

pub join-requires-clause-copied : goal.join-requires-clause-copied
join-requires-clause-copied c =
    let self = c.args.self in
    let before = graphs_before self in
    let table = self.tac.now.types in
    let called = c.args.called in
    let entry = c.requires.entry in
    let reached = entry.stand.reached in
    let graph = shown self c.args.graph.now in
    let same = found_copies c.args.own.now c.args.site called entry.copies c.get.result c.in-Some.copies c.get.ensures.value c.in-Some.is entry.is in
    subst (λ (g : FrozenGraph). AreCopied (structs_in table) graph (bare table g) (numbers_in c.in-Some.copies.now)) (c.graph_of.ensures reached)
    (subst (λ (k : Copies). AreCopied (structs_in table) graph (nodes_reached before called reached) (numbers_in k)) same entry.stand.copied)

pub join-requires-clause-called : goal.join-requires-clause-called
join-requires-clause-called c =
    let reached = c.requires.entry.stand.reached in
    graph_there (graphs_before c.args.self) c.args.called reached c.group_of-group.result c.graph_of.result.now (c.group_of-group.ensures reached) (c.graph_of.ensures reached)

pub returns-in_default-clause-joined : goal.returns-in_default-clause-joined
returns-in_default-clause-joined c = c.requires.joined

pub returns-clause-crosses : goal.returns-clause-crosses
returns-clause-crosses c =
    let self = c.args.self in
    let before = graphs_before self in
    let table = self.tac.now.types in
    let called = c.args.called in
    let entry = c.requires.entry in
    let reached = entry.stand.reached in
    let same = found_copies c.args.own.now c.args.site called entry.copies c.get.result c.in-Some.copies c.get.ensures.value c.in-Some.is entry.is in
    let callee : graph_reached before called reached ≡ own_graph table c.graph_of.result.now c.names_of.result.now =
    ap (λ (g : FrozenGraph). own_graph table g reached.own.names) (c.graph_of.ensures reached) ∙ ap (λ (n : FunctionNames). own_graph table c.graph_of.result.now n) (c.names_of.ensures reached) in
    crosses_joined before c.requires.known.code.made c.args.caller.group (owner_of c.args.caller.owner) c.args.site c.args.arguments.now called c.requires.called c.args.own.now (shown self c.args.graph.now)
    (shown self c.join.new.graph) c.requires.graph.sound c.requires.stands entry (own_graph table c.graph_of.result.now c.names_of.result.now) (numbers_in c.in-Some.copies.now) callee (ap numbers_in same) c.in_ok-join.ensures.joins

pub returns-clause-joined : goal.returns-clause-joined
returns-clause-joined c = c.in_ok-join.ensures.joined
