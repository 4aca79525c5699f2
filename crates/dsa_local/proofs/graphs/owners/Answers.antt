use Rattle.std.proofs.Common.{◌+◌, map, take, get_or, Some, refl, ap, ◌∙◌}
use Rattle.tac_ir.specs.States.{InFunction}
use Rattle.graph_unification.specs.Memory.{owner_of}
use Rattle.call_graph.proofs.RowLists.{take_all}
use Rattle.call_graph.specs.ClassLists.{numbers_of}
use Rattle.dsa_local.specs.Local.{owners_in}
use Rattle.dsa_local.proofs.Collecting.{map_more}
use Rattle.dsa_local.proofs.Scoping.{none, numbers_more}
use Rattle.dsa_local.proofs.graphs.owners.Goals as goal

pub loop-member-init : goal.loop-member-init
loop-member-init c = ap (map owner_of) c.new-owners.ensures.items

pub loop-member-preserved : goal.loop-member-preserved
loop-member-preserved c =
    let members = c.args.members.now in
    let i = c.loop-member.member-index in
    let member = get_or members i none in
    map_more owner_of InFunction c.loop-member.owners.items c.push.new.self.items (Some member) (numbers_of (take i members)) (numbers_of (take (i + 1) members)) member.0 c.in_ok-push.ensures.items
    (numbers_more members i c.loop-member-test.true) c.loop-member.invariant refl

pub returns : goal.returns
returns c = c.loop-member.invariant ∙ ap (λ l. owners_in (numbers_of l)) (take_all c.loop-member.member-index c.args.members.now c.loop-member-test.false)
