use Rattle.std.proofs.Common.{◌∙◌}
use Rattle.indexmap.specs.IndexMap.{get_by}
use Rattle.tac_ir.specs.States.{InFunction}
use Rattle.heap_graph.specs.Programs.{is_crossing}
use Rattle.graph_checker.specs.Programs.{family_of}
use Rattle.graph_checker.proofs.Embedded.{found_either_way, image_found, image_none}
use Rattle.graph_checker.proofs.program.Program.outer_asked.Goals as goal

pub returns-in-Some : goal.returns-in-Some
returns-in-Some c = λ owner member.
    let table = c.args.self.tac.now.types in
    let family = family_of c.args.self in
    let called = c.args.called.0 in
    let also = c.requires.called in
    let kept = get_by (is_crossing c.args.site called) c.args.own.embeddings.now in
    c.is_embedded.ensures owner called member also c.requires.inside
    (λ node.
    member.embeddings c.args.site called node
    ∙ image_found c.get.result kept c.in-Some.embedding (c.get.ensures.value ∙ found_either_way c.args.own.embeddings.now c.args.site called) c.in-Some.is node)
    (λ node less. c.in_ok-escaping.ensures.escapes table family (InFunction called) also.graph also.names node less)

pub returns : goal.returns
returns c = λ owner member.
    let table = c.args.self.tac.now.types in
    let family = family_of c.args.self in
    let called = c.args.called.0 in
    let also = c.requires.called in
    let kept = get_by (is_crossing c.args.site called) c.args.own.embeddings.now in
    c.is_embedded-in-None.ensures owner called member also c.requires.inside
    (λ node.
    member.embeddings c.args.site called node
    ∙ image_none c.get.result kept c.new-none.result (c.get.ensures.value ∙ found_either_way c.args.own.embeddings.now c.args.site called) c.in-None.is c.new-none.ensures.empty node)
    (λ node less. c.in_ok-escaping.ensures.escapes table family (InFunction called) also.graph also.names node less)
