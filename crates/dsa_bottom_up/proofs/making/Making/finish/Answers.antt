use Rattle.std.proofs.Common.{◌≡◌, List, [], ◌∷◌, ◌++◌, length, Option, None, refl, ap, ◌∙◌, arith}
use Rattle.tac_ir.specs.declared.register.FunctionId.{FunctionId}
use Rattle.tac_ir.specs.Views.{tac_of}
use Rattle.call_graph.specs.GroupViews.{groups_of}
use Rattle.graph_unification.specs.Memory.{graph_in}
use Rattle.heap_graph.specs.declared.program.ProgramGraphs.{ProgramGraphs}
use Rattle.std.proofs.lemmas.Option.{slice_get_within}
use Rattle.dsa_bottom_up.proofs.Ascending.{assembled_ascends}
use Rattle.dsa_bottom_up.specs.Making.{made_in}
use Rattle.dsa_bottom_up.proofs.Finishing.{known_of, reached_of, first_joined, still_joined, first_copies, still_no_copies, start_assembled, ends_closed, ends_smallest, ends_least, groups_many}
use Rattle.dsa_bottom_up.proofs.making.Making.finish.Goals as goal

pub assemble-requires-clause-known : goal.assemble-requires-clause-known
assemble-requires-clause-known c = known_of c.before-2.result c.args.tac.now c.args.groups.now c.args.self c.before-2.ensures c.requires.grouped (length (groups_of c.args.groups.now)) c.requires.kept

pub assemble-requires-clause-reached : goal.assemble-requires-clause-reached
assemble-requires-clause-reached c =
    let owners : c.deref.result.now ≡ None ∷ [] = c.deref.ensures.value ∙ (c.in_ok-push.ensures.items ∙ ap (λ (l : List (Option FunctionId)). l ++ None ∷ []) c.new-owners.ensures.items) in
    reached_of c.before-2.result c.args.tac.now c.args.groups.now c.args.self c.before-2.ensures c.requires.grouped c.requires.making c.deref.result.now owners

pub assemble-requires-clause-joined : goal.assemble-requires-clause-joined
assemble-requires-clause-joined c =
    let tac = c.args.tac.now in
    let owners : c.deref.result.now ≡ None ∷ [] = c.deref.ensures.value ∙ (c.in_ok-push.ensures.items ∙ ap (λ (l : List (Option FunctionId)). l ++ None ∷ []) c.new-owners.ensures.items) in
    still_joined c.before-2.result tac c.args.groups.now c.args.self c.before-2.ensures c.deref.result.now owners c.apply_first.new.graph
    (first_joined tac c.args.groups.now c.requires.grouped.stands.code.made (graph_in tac.types c.in_ok-graph.field-0.graph) (graph_in tac.types c.apply_first.new.graph) c.in_ok-graph.ensures.graph.sound c.in_ok-apply_first.ensures.keeps
    c.in_ok-graph.ensures.joined)

pub assemble-requires-clause-copies : goal.assemble-requires-clause-copies
assemble-requires-clause-copies c =
    let tac = c.args.tac.now in
    still_no_copies c.before-2.result tac c.args.groups.now c.args.self c.before-2.ensures c.apply_first.new.graph
    (first_copies (tac_of tac) (graph_in tac.types c.in_ok-graph.field-0.graph) (graph_in tac.types c.apply_first.new.graph) c.in_ok-apply_first.ensures.keeps c.in_ok-graph.ensures.copies)

pub returns-clause-closed : goal.returns-clause-closed
returns-clause-closed c =
    let tac = c.args.tac.now in
    let groups = c.args.groups.now in
    let owners : c.deref.result.now ≡ None ∷ [] = c.deref.ensures.value ∙ (c.in_ok-push.ensures.items ∙ ap (λ (l : List (Option FunctionId)). l ++ None ∷ []) c.new-owners.ensures.items) in
    let all : ProgramGraphs = record { graphs = c.args.self.graphs; functions = c.args.self.functions; start = c.in_ok-made.made.graph; start_function = c.in-Some.own } in
    let assembled = start_assembled c.before-2.result tac groups c.args.self c.before-2.ensures c.deref.result.now owners c.apply_first.new.graph c.in_ok-made.made.graph c.in_ok-made.made.functions.items c.pop.new.self.items c.in-Some.own
    c.in-Some.ensures.items c.in_ok-made.ensures.assembled in
    ends_closed tac groups c.args.self c.requires.grouped c.requires.making all refl refl (graph_in tac.types c.apply_first.new.graph) c.in-Some.own c.in_ok-apply_first.ensures.graph.sound c.in_ok-apply_first.ensures.told assembled refl

pub returns-clause-graphs : goal.returns-clause-graphs
returns-clause-graphs c = c.requires.making.graphs ∙ groups_many c.args.groups.now

pub returns-clause-smallest : goal.returns-clause-smallest
returns-clause-smallest c = λ start least.
    let tac = c.args.tac.now in
    let groups = c.args.groups.now in
    let owners : c.deref.result.now ≡ None ∷ [] = c.deref.ensures.value ∙ (c.in_ok-push.ensures.items ∙ ap (λ (l : List (Option FunctionId)). l ++ None ∷ []) c.new-owners.ensures.items) in
    let all : ProgramGraphs = record { graphs = c.args.self.graphs; functions = c.args.self.functions; start = c.in_ok-made.made.graph; start_function = c.in-Some.own } in
    let assembled = start_assembled c.before-2.result tac groups c.args.self c.before-2.ensures c.deref.result.now owners c.apply_first.new.graph c.in_ok-made.made.graph c.in_ok-made.made.functions.items c.pop.new.self.items c.in-Some.own
    c.in-Some.ensures.items c.in_ok-made.ensures.assembled in
    let joined = graph_in tac.types c.in_ok-graph.field-0.graph in
    let begun = graph_in tac.types c.apply_first.new.graph in
    ends_smallest tac groups c.args.self c.requires.grouped c.requires.making all refl refl begun c.in-Some.own start assembled
    (record {
      joined = joined;
      leads = c.in_ok-graph.ensures.leads;
      keeps = c.in_ok-apply_first.ensures.keeps;
      copies = first_copies (tac_of tac) joined begun c.in_ok-apply_first.ensures.keeps c.in_ok-graph.ensures.copies;
    })
    refl least

pub returns-clause-ascend : goal.returns-clause-ascend
returns-clause-ascend c =
    let tac = c.args.tac.now in
    let groups = c.args.groups.now in
    let owners : c.deref.result.now ≡ None ∷ [] = c.deref.ensures.value ∙ (c.in_ok-push.ensures.items ∙ ap (λ (l : List (Option FunctionId)). l ++ None ∷ []) c.new-owners.ensures.items) in
    let assembled = start_assembled c.before-2.result tac groups c.args.self c.before-2.ensures c.deref.result.now owners c.apply_first.new.graph c.in_ok-made.made.graph c.in_ok-made.made.functions.items c.pop.new.self.items c.in-Some.own
    c.in-Some.ensures.items c.in_ok-made.ensures.assembled in
    record {
      groups = λ number graph is.
          let within = slice_get_within c.args.self.graphs.items number graph is in
          let many = c.requires.making.graphs in
          c.requires.making.ascend number graph (omega (arith, within, many)) is;
      start = assembled_ascends (made_in tac groups c.args.self) None (None ∷ []) (graph_in tac.types c.apply_first.new.graph) c.in_ok-made.made.graph (c.in-Some.own ∷ []) assembled;
    }

pub returns-clause-least : goal.returns-clause-least
returns-clause-least c = λ start least bare.
    let tac = c.args.tac.now in
    let groups = c.args.groups.now in
    let owners : c.deref.result.now ≡ None ∷ [] = c.deref.ensures.value ∙ (c.in_ok-push.ensures.items ∙ ap (λ (l : List (Option FunctionId)). l ++ None ∷ []) c.new-owners.ensures.items) in
    let all : ProgramGraphs = record { graphs = c.args.self.graphs; functions = c.args.self.functions; start = c.in_ok-made.made.graph; start_function = c.in-Some.own } in
    let assembled = start_assembled c.before-2.result tac groups c.args.self c.before-2.ensures c.deref.result.now owners c.apply_first.new.graph c.in_ok-made.made.graph c.in_ok-made.made.functions.items c.pop.new.self.items c.in-Some.own
    c.in-Some.ensures.items c.in_ok-made.ensures.assembled in
    let joined = graph_in tac.types c.in_ok-graph.field-0.graph in
    let begun = graph_in tac.types c.apply_first.new.graph in
    ends_least tac groups c.args.self c.requires.grouped c.requires.making all refl refl begun c.in-Some.own start assembled
    (record {
      joined = joined;
      leads = c.in_ok-graph.ensures.leads;
      keeps = c.in_ok-apply_first.ensures.keeps;
      copies = first_copies (tac_of tac) joined begun c.in_ok-apply_first.ensures.keeps c.in_ok-graph.ensures.copies;
    })
    refl least bare
    (ends_closed tac groups c.args.self c.requires.grouped c.requires.making all refl refl begun c.in-Some.own c.in_ok-apply_first.ensures.graph.sound c.in_ok-apply_first.ensures.told assembled refl)
