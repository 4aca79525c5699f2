use Rattle.std.proofs.Common.{◌≡◌, Some, sym, ap, ◌∙◌}
use Rattle.tac_ir.specs.Views.{tac_of}
use Rattle.heap_graph.specs.Memory.{target_of}
use Rattle.heap_graph.specs.Targets.{at_target}
use Rattle.graph_unification.specs.Memory.{name_of, graph_in}
use Rattle.graph_unification.specs.Asked.{has_mark}
use Rattle.dsa_local.proofs.Mentioning.{mark_keeps, mark_set}
use Rattle.dsa_local.proofs.changes.mark.Goals as goal

pub returns-in-Some-clause-keeps : goal.returns-in-Some-clause-keeps
returns-in-Some-clause-keeps c =
    let table = c.args.tac.now.types in
    let old = graph_in table c.args.graph.now in
    let at : old.targets (name_of c.name.result) ≡ Some (target_of c.in-Some.target) = sym (c.in-Some.ensures table c.requires.graph) in
    let slot = c.requires.graph.sound.names (name_of c.name.result) (target_of c.in-Some.target) at in
    mark_keeps (tac_of c.args.tac.now) c.requires.code.made old (graph_in table c.mark.new.graph) c.requires.graph.sound (target_of c.in-Some.target) c.args.flag
    (c.mark.ensures.least table c.requires.code.made c.requires.graph (slot.node, slot.is)) (c.mark.ensures.names table) (name_of c.name.result) at
    (λ other told. ap (λ t. at_target other t (λ node shift. has_mark c.args.flag node.flags)) (c.name.ensures (tac_of c.args.tac.now) other) ∙ c.requires.asked other told)

pub returns-in-Some-clause-marked : goal.returns-in-Some-clause-marked
returns-in-Some-clause-marked c =
    let table = c.args.tac.now.types in
    let tac = tac_of c.args.tac.now in
    let old = graph_in table c.args.graph.now in
    let new = graph_in table c.mark.new.graph in
    let at : old.targets (name_of c.name.result) ≡ Some (target_of c.in-Some.target) = sym (c.in-Some.ensures table c.requires.graph) in
    let slot = c.requires.graph.sound.names (name_of c.name.result) (target_of c.in-Some.target) at in
    ap (λ t. at_target new t (λ node shift. has_mark c.args.flag node.flags)) (sym (c.name.ensures tac new))
    ∙ mark_set tac c.requires.code.made old new c.requires.graph.sound (target_of c.in-Some.target) c.args.flag (c.mark.ensures.least table c.requires.code.made c.requires.graph (slot.node, slot.is))
    (c.mark.ensures.names table) (name_of c.name.result) at
