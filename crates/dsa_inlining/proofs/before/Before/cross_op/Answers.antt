use Rattle.std.proofs.Common.{◌≡◌, List, sym, ap, subst}
use Rattle.tac_ir.specs.declared.register.FunctionId.{FunctionId}
use Rattle.tac_ir.specs.declared.register.Register.{Register}
use Rattle.tac_ir.specs.Code as O
use Rattle.tac_ir.specs.Code.{Op}
use Rattle.tac_ir.specs.Views.{op_in, callee_in, tac_of}
use Rattle.call_graph.specs.ClassLists.{numbers_of}
use Rattle.call_graph.proofs.CallSteps.{no_call}
use Rattle.graph_unification.specs.Memory.{owner_of}
use Rattle.graph_unification.proofs.NamedSteps.{on_ok}
use Rattle.dsa_inlining.specs.Crossed.{CallNamed}
use Rattle.dsa_inlining.specs.Before.{graphs_before}
use Rattle.dsa_inlining.specs.Live.{AreLiveTargets}
use Rattle.dsa_inlining.specs.CallSteps.{shown, IsPoint, TargetsCross, PointCrosses, Crosses}
use Rattle.dsa_inlining.proofs.Naming.{point_named, targets_out}
use Rattle.dsa_inlining.proofs.Stepping.{crosses_same, no_call_crosses, call_done}
use Rattle.dsa_inlining.proofs.before.Before.cross_op.Goals as goal

pub returns-in_default-clause-crosses : goal.returns-in_default-clause-crosses
returns-in_default-clause-crosses c =
    let self = c.args.self in
    let before = graphs_before self in
    let table = self.tac.now.types in
    let made = c.requires.known.code.made in
    let group = c.args.caller.group in
    let owner = owner_of c.args.caller.owner in
    let op = op_in table c.args.op.now in
    let graph = shown self c.args.graph.now in
    crosses_same before made group owner (PointCrosses before group owner op) c.args.own.now graph c.requires.graph.sound c.requires.stands
    (no_call_crosses before made group owner op (no_call table c.args.op.now c.in_default.not-Call) c.args.own.now graph)

pub cross_targets-requires-clause-out : goal.cross_targets-requires-clause-out
cross_targets-requires-clause-out c =
    let self = c.args.self in
    let before = graphs_before self in
    let table = self.tac.now.types in
    let group = c.args.caller.group in
    let owner = owner_of c.args.caller.owner in
    let callee = callee_in table c.in-Call.callee in
    let call = O.Call c.in-Call.site callee c.in-Call.arguments.items in
    let point : IsPoint (tac_of self.tac.now) owner call = subst (IsPoint (tac_of self.tac.now) owner) (ap (op_in table) c.in-Call.is) c.requires.point in
    let are : AreLiveTargets before callee (numbers_of c.in_ok-targets-in-Call.targets.items) = c.in_ok-targets-in-Call.ensures in
    targets_out before group owner c.in-Call.site callee c.in-Call.arguments.items c.requires.reached point (numbers_of c.deref-in-Call.result.now)
    (subst (λ (l : List FunctionId). AreLiveTargets before callee (numbers_of l)) (sym c.deref-in-Call.ensures.value) are)

pub cross_targets-requires-clause-named : goal.cross_targets-requires-clause-named
cross_targets-requires-clause-named c =
    let self = c.args.self in
    let table = self.tac.now.types in
    let owner = owner_of c.args.caller.owner in
    let callee = callee_in table c.in-Call.callee in
    let call = O.Call c.in-Call.site callee c.in-Call.arguments.items in
    let graph = shown self c.args.graph.now in
    let point : IsPoint (tac_of self.tac.now) owner call = subst (IsPoint (tac_of self.tac.now) owner) (ap (op_in table) c.in-Call.is) c.requires.point in
    subst (λ (l : List Register). CallNamed owner c.in-Call.site l graph) (sym c.deref.ensures.value)
    (point_named (tac_of self.tac.now) owner c.in-Call.site callee c.in-Call.arguments.items c.requires.known.code point graph c.requires.named)

pub returns-in_ok-targets-in-Call-clause-crosses : goal.returns-in_ok-targets-in-Call-clause-crosses
returns-in_ok-targets-in-Call-clause-crosses c =
    let self = c.args.self in
    let before = graphs_before self in
    let table = self.tac.now.types in
    let made = c.requires.known.code.made in
    let group = c.args.caller.group in
    let owner = owner_of c.args.caller.owner in
    let site = c.in-Call.site in
    let callee = callee_in table c.in-Call.callee in
    let arguments = c.in-Call.arguments.items in
    let call = O.Call site callee arguments in
    let own = c.args.own.now in
    let after = c.cross_targets.new.own in
    let old = shown self c.args.graph.now in
    let new = shown self c.cross_targets.new.graph in
    let same : op_in table c.args.op.now ≡ call = ap (op_in table) c.in-Call.is in
    let are : AreLiveTargets before callee (numbers_of c.in_ok-targets-in-Call.targets.items) = c.in_ok-targets-in-Call.ensures in
    on_ok c.cross_targets.result c.cross_targets.ensures.crosses
    (λ its.
    subst (λ (op : Op). Crosses before group owner (PointCrosses before group owner op) own after old new) (sym same)
    (call_done before made group owner site callee arguments (numbers_of c.in_ok-targets-in-Call.targets.items) are own after old new
    (subst (λ (l : List FunctionId). Crosses before group owner (TargetsCross before group owner site arguments (numbers_of l)) own after old new) c.deref-in-Call.ensures.value
    (subst (λ (l : List Register). Crosses before group owner (TargetsCross before group owner site l (numbers_of c.deref-in-Call.result.now)) own after old new) c.deref.ensures.value its))))

pub returns-in_default-clause-joined : goal.returns-in_default-clause-joined
returns-in_default-clause-joined c = c.requires.joined

pub cross_targets-requires-clause-joined : goal.cross_targets-requires-clause-joined
cross_targets-requires-clause-joined c = c.requires.joined

pub returns-in_ok-targets-in-Call-clause-joined : goal.returns-in_ok-targets-in-Call-clause-joined
returns-in_ok-targets-in-Call-clause-joined c = c.cross_targets.ensures.joined
