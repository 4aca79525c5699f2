use Rattle.std.proofs.Common.{[], sym, ◌∙◌}
use Rattle.indexmap.specs.IndexMap.{get_by}
use Rattle.heap_graph.specs.Frozen.{static_in}
use Rattle.heap_graph.specs.Programs.{is_crossing}
use Rattle.graph_checker.specs.Programs.{family_of}
use Rattle.graph_checker.proofs.Embedded.{found_either_way, image_found}
use Rattle.graph_checker.proofs.TargetsAsked.{same_told}
use Rattle.graph_checker.proofs.Needing.{images_add, none_there, image_missing}
use Rattle.graph_checker.proofs.needed.add_target.Goals as goal

pub returns-in-Some : goal.returns-in-Some
returns-in-Some c = λ owner member.
    let program = c.args.program in
    let family = family_of program in
    let site = c.args.site in
    let called = c.args.called.0 in
    let own = c.args.own in
    let also = c.member-other.ensures.member in
    let kept = get_by (is_crossing site called) own.embeddings.now in
    let outer = sym (same_told program.tac.now.types family called site [] own c.member-other.result also owner member) ∙ (sym c.is_same_group.ensures ∙ c.if-is_same_group.false) in
    images_add family owner site called outer (static_in c.in-Some.embedding.now)
    (λ node. member.embeddings site called node ∙ image_found c.get.result kept c.in-Some.embedding (c.get.ensures.value ∙ found_either_way own.embeddings.now site called) c.in-Some.is node)
    c.args.needed.now.marks c.add_images.new.self.marks c.add_images.ensures

pub returns-in_default : goal.returns-in_default
returns-in_default c = λ owner member.
    let program = c.args.program in
    let site = c.args.site in
    let called = c.args.called.0 in
    let own = c.args.own in
    let kept = get_by (is_crossing site called) own.embeddings.now in
    none_there (family_of program) owner site called
    (λ node. member.embeddings site called node ∙ image_missing c.get.result kept (c.get.ensures.value ∙ found_either_way own.embeddings.now site called) c.in_default.not-Some node)
    c.args.needed.now.marks
