use Rattle.std.proofs.Common.{map, subst}
use Rattle.std.specs.Prelude.{OnOk}
use Rattle.tac_ir.specs.Views.{tac_of, function_in, op_in}
use Rattle.graph_unification.specs.Memory.{owner_of, graph_in}
use Rattle.dsa_local.specs.Beginning.{AddsOps}
use Rattle.dsa_local.proofs.WholeMember.{objects_slots, on_ok_member}
use Rattle.dsa_local.proofs.group.add_member.Goals as goal

pub add_function-requires-clause-slots : goal.add_function-requires-clause-slots
add_function-requires-clause-slots c =
    objects_slots c.args.tac.now.types c.args.function.now.objects.items (c.requires.code.functions (owner_of c.args.owner) (function_in c.args.tac.now.types c.args.function.now) c.requires.is).objects

pub returns-clause-adds : goal.returns-clause-adds
returns-clause-adds c =
    let table = c.args.tac.now.types in
    let tac = tac_of c.args.tac.now in
    let show = graph_in table in
    on_ok_member c.add_mentioned.result tac (owner_of c.args.owner) (function_in table c.args.function.now) (show c.args.graph.now) (show c.add_function.new.graph) (show c.add_mentioned.new.graph)
    c.in_ok-add_function.ensures.adds
    (subst (λ points. OnOk c.add_mentioned.result (AddsOps tac (map (op_in table) points) (show c.add_function.new.graph) (show c.add_mentioned.new.graph))) c.as_slice.ensures.value c.add_mentioned.ensures.adds)
