use Rattle.std.proofs.Common.{◌≡◌, Some, None, option_copied, sym, ap, subst, ◌∙◌}
use Rattle.std.specs.Prelude.{slice_get, OnOk}
use Rattle.tac_ir.specs.States.{InFunction, function_of}
use Rattle.tac_ir.specs.Views.{tac_of, function_in}
use Rattle.graph_unification.specs.Memory.{owner_of, graph_in}
use Rattle.graph_unification.proofs.FoundStatics.{got}
use Rattle.dsa_local.specs.Beginning.{AddsOwner}
use Rattle.dsa_local.proofs.WholeMember.{on_ok_owner, no_owner, function_there, no_function}
use Rattle.dsa_local.proofs.group.add_owner.Goals as goal

pub returns-in-None-clause-adds : goal.returns-in-None-clause-adds
returns-in-None-clause-adds c =
    let tac = c.args.tac.now in
    on_ok_owner c.add_member.result (tac_of tac) (owner_of c.args.owner) (function_in tac.types tac.start) (graph_in tac.types c.args.graph.now) (graph_in tac.types c.add_member.new.graph)
    (ap (λ o. function_of (tac_of tac) (owner_of o)) c.in-None.is) c.add_member.ensures.adds

pub returns-in-Some-get-clause-adds : goal.returns-in-Some-get-clause-adds
returns-in-Some-get-clause-adds c =
    let tac = c.args.tac.now in
    let n = c.in-Some.number.0 in
    let there : slice_get tac.functions.items n ≡ Some c.in-Some-get.function.now
    = ap (λ items. slice_get items n) (sym c.deref.ensures.value) ∙ (got c.deref.result.now n c.get.result c.get.ensures.lookup ∙ ap option_copied c.in-Some-get.is) in
    let old = graph_in tac.types c.args.graph.now in
    let new = graph_in tac.types c.add_member-in-Some-get.new.graph in
    subst (λ o. OnOk c.add_member-in-Some-get.result (AddsOwner (tac_of tac) (owner_of o) old new)) (sym c.in-Some.is)
    (on_ok_owner c.add_member-in-Some-get.result (tac_of tac) (InFunction n) (function_in tac.types c.in-Some-get.function.now) old new (function_there tac n c.in-Some-get.function.now there)
    c.add_member-in-Some-get.ensures.adds)

pub returns-in-None-get-clause-adds : goal.returns-in-None-get-clause-adds
returns-in-None-get-clause-adds c =
    let tac = c.args.tac.now in
    let n = c.in-Some.number.0 in
    let none : slice_get tac.functions.items n ≡ None
    = ap (λ items. slice_get items n) (sym c.deref.ensures.value) ∙ (got c.deref.result.now n c.get.result c.get.ensures.lookup ∙ ap option_copied c.in-None-get.is) in
    no_owner (tac_of tac) (owner_of c.args.owner) (graph_in tac.types c.args.graph.now) (ap (λ o. function_of (tac_of tac) (owner_of o)) c.in-Some.is ∙ no_function tac n none)
