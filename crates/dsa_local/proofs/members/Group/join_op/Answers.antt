use Rattle.std.proofs.Common.{◌≡◌, List, sym, ap, subst, ◌∙◌, arith}
use Rattle.c_typed.specs.Table.{structs_in}
use Rattle.tac_ir.specs.declared.register.Register.{Register}
use Rattle.tac_ir.specs.Code as O
use Rattle.tac_ir.specs.Code.{Op}
use Rattle.tac_ir.specs.States.{InFunction}
use Rattle.tac_ir.specs.Views.{op_in, callee_in}
use Rattle.call_graph.proofs.CallSteps.{no_call}
use Rattle.graph_unification.proofs.NamedSteps.{on_ok}
use Rattle.dsa_local.specs.Joined.{CallNamed, IsJoined, OpJoined, Joins}
use Rattle.dsa_local.specs.Members.{code_of, shown, is_inside, IsOwnPoint}
use Rattle.dsa_local.proofs.Joining.{joins_same}
use Rattle.dsa_local.proofs.Inside.{as_many, inside_within}
use Rattle.dsa_local.proofs.CallSteps.{op_done, no_target, elsewhere, point_named, no_call_joined}
use Rattle.dsa_local.proofs.members.Group.join_op.Goals as goal

pub returns-in_default-clause-joins : goal.returns-in_default-clause-joins
returns-in_default-clause-joins c =
    let own = c.args.self in
    let table = own.tac.now.types in
    let wanted = OpJoined (code_of own) (is_inside own) (InFunction c.args.caller.0) (op_in table c.args.op.now) in
    joins_same (structs_in table) c.requires.stands.made (shown own c.args.graph.now) c.requires.graph.sound wanted
    (no_call_joined (code_of own) (is_inside own) (InFunction c.args.caller.0) (op_in table c.args.op.now) (no_call table c.args.op.now c.in_default.not-Call) (shown own c.args.graph.now))

pub returns-in_default-first_target-clause-joins : goal.returns-in_default-first_target-clause-joins
returns-in_default-first_target-clause-joins c =
    let own = c.args.self in
    let table = own.tac.now.types in
    let graph = shown own c.args.graph.now in
    let call = O.Call c.in-Call.site (callee_in table c.in-Call.callee) c.in-Call.arguments.items in
    let same : op_in table c.args.op.now ≡ call = ap (op_in table) c.in-Call.is in
    let point : IsOwnPoint own c.args.caller.0 call = subst (IsOwnPoint own c.args.caller.0) same c.requires.point in
    subst (λ (op : Op). Joins (structs_in table) graph graph (OpJoined (code_of own) (is_inside own) (InFunction c.args.caller.0) op)) (sym same)
    (joins_same (structs_in table) c.requires.stands.made graph c.requires.graph.sound (OpJoined (code_of own) (is_inside own) (InFunction c.args.caller.0) call)
    (no_target own c.requires.of c.requires.groups c.args.caller.0 c.in-Call.site (callee_in table c.in-Call.callee) c.in-Call.arguments.items point (c.in_default-first_target.ensures c.requires.of.classes) graph))

pub returns-then-not-has-clause-joins : goal.returns-then-not-has-clause-joins
returns-then-not-has-clause-joins c =
    let own = c.args.self in
    let table = own.tac.now.types in
    let graph = shown own c.args.graph.now in
    let call = O.Call c.in-Call.site (callee_in table c.in-Call.callee) c.in-Call.arguments.items in
    let same : op_in table c.args.op.now ≡ call = ap (op_in table) c.in-Call.is in
    let point : IsOwnPoint own c.args.caller.0 call = subst (IsOwnPoint own c.args.caller.0) same c.requires.point in
    subst (λ (op : Op). Joins (structs_in table) graph graph (OpJoined (code_of own) (is_inside own) (InFunction c.args.caller.0) op)) (sym same)
    (joins_same (structs_in table) c.requires.stands.made graph c.requires.graph.sound (OpJoined (code_of own) (is_inside own) (InFunction c.args.caller.0) call)
    (elsewhere own c.requires.of c.requires.groups c.args.caller.0 c.in-Call.site (callee_in table c.in-Call.callee) c.in-Call.arguments.items point c.in-Some.called (c.in-Some.ensures c.requires.of.classes).0
    (sym c.has.ensures ∙ c.if-not-has.true) graph))

pub join_call-requires-clause-within : goal.join_call-requires-clause-within
join_call-requires-clause-within c =
    let own = c.args.self in
    let less = inside_within own c.requires.of c.in-Some.called (sym c.has.ensures ∙ c.if-not-has.false) in
    let many = as_many own c.requires.of in
    omega (arith, less, many)

pub join_call-requires-clause-names : goal.join_call-requires-clause-names
join_call-requires-clause-names c =
    let own = c.args.self in
    let table = own.tac.now.types in
    let graph = shown own c.args.graph.now in
    let call = O.Call c.in-Call.site (callee_in table c.in-Call.callee) c.in-Call.arguments.items in
    let point : IsOwnPoint own c.args.caller.0 call = subst (IsOwnPoint own c.args.caller.0) (ap (op_in table) c.in-Call.is) c.requires.point in
    subst (λ (l : List Register). CallNamed (code_of own) (InFunction c.args.caller.0) c.in-Call.site l c.in-Some.called graph) (sym c.deref.ensures.value)
    (point_named own c.requires.of c.requires.groups c.args.caller.0 c.in-Call.site (callee_in table c.in-Call.callee) c.in-Call.arguments.items point c.requires.stands graph c.requires.names c.in-Some.called
    (sym c.has.ensures ∙ c.if-not-has.false))

pub returns-else-not-has-clause-joins : goal.returns-else-not-has-clause-joins
returns-else-not-has-clause-joins c =
    let own = c.args.self in
    let table = own.tac.now.types in
    let old = shown own c.args.graph.now in
    let new = shown own c.join_call.new.graph in
    let call = O.Call c.in-Call.site (callee_in table c.in-Call.callee) c.in-Call.arguments.items in
    let same : op_in table c.args.op.now ≡ call = ap (op_in table) c.in-Call.is in
    let point : IsOwnPoint own c.args.caller.0 call = subst (IsOwnPoint own c.args.caller.0) same c.requires.point in
    on_ok c.join_call.result c.join_call.ensures.joins
    (λ its.
    subst (λ (op : Op). Joins (structs_in table) old new (OpJoined (code_of own) (is_inside own) (InFunction c.args.caller.0) op)) (sym same)
    (op_done own c.requires.of c.requires.groups c.args.caller.0 c.in-Call.site (callee_in table c.in-Call.callee) c.in-Call.arguments.items point c.requires.stands.made c.in-Some.called
    (c.in-Some.ensures c.requires.of.classes).0 (sym c.has.ensures ∙ c.if-not-has.false) old new c.requires.graph.sound c.requires.classes
    (subst (λ (l : List Register). Joins (structs_in table) old new (IsJoined (code_of own) (InFunction c.args.caller.0) c.in-Call.site l c.in-Some.called)) c.deref.ensures.value its)))
