use Rattle.std.proofs.Common.{◌<◌, sym, ap, subst, ◌∙◌}
use Rattle.c_typed.specs.Table.{type_in}
use Rattle.tac_ir.specs.Views.{tac_of}
use Rattle.heap_graph.specs.Memory.{target_of}
use Rattle.heap_graph.specs.Parts.{slots_of}
use Rattle.heap_graph.specs.Targets.{elements_of}
use Rattle.graph_unification.specs.Memory.{name_of, graph_in}
use Rattle.graph_unification.specs.Asked.{HoldsPart}
use Rattle.dsa_local.proofs.Mentioning.{root_some, least_keeps, type_told, type_asked}
use Rattle.dsa_local.proofs.changes.tell_type.Goals as goal

pub tell-requires-clause-at : goal.tell-requires-clause-at
tell-requires-clause-at c = c.requires.graph.sound.names (name_of c.name.result) (target_of c.in-Some.target) (sym (c.in-Some.ensures c.args.tac.now.types c.requires.graph))

pub tell-requires-clause-some : goal.tell-requires-clause-some
tell-requires-clause-some c =
    let tac = c.args.tac.now in
    let graph = graph_in tac.types c.args.graph.now in
    subst (λ t. 0 < slots_of (tac_of tac).structs t) (sym (c.elements_of-c_type.ensures ∙ ap elements_of (c.c_type.ensures graph)))
    (root_some (tac_of tac) c.requires.code graph c.args.root c.requires.there)

pub returns-in_ok-tell-in-Some-clause-keeps : goal.returns-in_ok-tell-in-Some-clause-keeps
returns-in_ok-tell-in-Some-clause-keeps c =
    let tac = c.args.tac.now in
    least_keeps (tac_of tac) c.requires.code.made (graph_in tac.types c.args.graph.now) (graph_in tac.types c.tell.new.graph) c.requires.graph.sound
    (HoldsPart (tac_of tac).structs (type_in tac.types c.elements_of-c_type.result) (target_of c.in-Some.target)) c.in_ok-tell-in-Some.ensures.least c.in_ok-tell-in-Some.ensures.names
    (type_asked (tac_of tac) (graph_in tac.types c.args.graph.now) c.args.root c.requires.there (target_of c.in-Some.target) (type_in tac.types c.elements_of-c_type.result)
    (sym (c.name.ensures (tac_of tac) (graph_in tac.types c.args.graph.now)) ∙ sym (c.in-Some.ensures tac.types c.requires.graph))
    (λ graph. c.elements_of-c_type.ensures ∙ ap elements_of (c.c_type.ensures graph)) c.requires.asked)

pub returns-in_ok-tell-in-Some-clause-named : goal.returns-in_ok-tell-in-Some-clause-named
returns-in_ok-tell-in-Some-clause-named c =
    let tac = c.args.tac.now in
    let old = graph_in tac.types c.args.graph.now in
    let new = graph_in tac.types c.tell.new.graph in
    type_told (tac_of tac) old new c.args.root (target_of c.in-Some.target) (type_in tac.types c.elements_of-c_type.result) c.in_ok-tell-in-Some.ensures.least c.in_ok-tell-in-Some.ensures.names
    (sym (c.name.ensures (tac_of tac) old) ∙ sym (c.in-Some.ensures tac.types c.requires.graph)) (c.elements_of-c_type.ensures ∙ ap elements_of (c.c_type.ensures new))
