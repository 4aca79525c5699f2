use Rattle.std.proofs.Common.{ℕ, ◌+◌, List, ◌∷◌, [], map, take, Option, refl, ap, subst, ◌∙◌, arith}
use Rattle.std.proofs.lemmas.List.{map-append}
use Rattle.tac_ir.specs.declared.op.Op.{Op}
use Rattle.tac_ir.specs.Views.{op_in, callee_in, tac_of}
use Rattle.call_graph.specs.TargetLists.{IsFirstTarget}
use Rattle.call_graph.proofs.RowLists.{read_take, take_all}
use Rattle.call_graph.specs.CallLists.{AddsCalls}
use Rattle.call_graph.proofs.CallSteps.{no_call, no_calls, call_some, call_nowhere, call_none}
use Rattle.call_graph.proofs.graph.add_calls.Goals.{in-Call+in-Some+in_ok-push, in-Call+in_default-first_target, in_default}
use Rattle.call_graph.proofs.graph.add_calls.Goals as goal

pub loop-op-init : goal.loop-op-init
loop-op-init c = no_calls (tac_of c.args.tac.now) c.args.caller _

pub loop-op-preserved : goal.loop-op-preserved
loop-op-preserved c =
    let tac = c.args.tac.now in
    let points = c.args.points.now in
    let i = c.loop-op.op-index in
    let op = c.op-item.result in
    let done = map (op_in tac.types) (take i points) in
    let further = map (op_in tac.types) (take (i + 1) points) in
    let more = ap (map (op_in tac.types)) (read_take points i (i + 1) op op refl c.loop-op-test.true c.op-item.is) ∙ map-append (op_in tac.types) (take i points) (op ∷ []) in
    let old = c.args.edges.now.items in
    let mid = c.loop-op.edges.items in
    elim c.match-op.branch [
      | in-Call+in-Some+in_ok-push w ↦
          call_some (tac_of tac) c.args.caller done further old mid _ (op_in tac.types op) c.loop-op.invariant more (callee_in tac.types w.in-Call.callee) w.in-Some.node _ _ (ap (op_in tac.types) w.in-Call.is)
          (subst (λ (found : Option ℕ). IsFirstTarget (tac_of tac) (callee_in tac.types w.in-Call.callee) found) w.in-Some.is (w.first_target.ensures c.requires))
          (ap (λ v. v.items) w.edges-is ∙ w.in_ok-push.ensures.items)
      | in-Call+in_default-first_target w ↦
          call_nowhere (tac_of tac) c.args.caller done further old mid _ (op_in tac.types op) c.loop-op.invariant more (callee_in tac.types w.in-Call.callee) _ _ (ap (op_in tac.types) w.in-Call.is)
          (subst (λ (found : Option ℕ). IsFirstTarget (tac_of tac) (callee_in tac.types w.in-Call.callee) found) w.in_default-first_target.is (w.first_target.ensures c.requires)) (ap (λ v. v.items) w.edges-is)
      | in_default w ↦
          call_none (tac_of tac) c.args.caller done further old mid _ (op_in tac.types op) c.loop-op.invariant more (λ callee node site arguments is first. no_call tac.types op w.in_default.not-Call site callee arguments is)
          (ap (λ v. v.items) w.edges-is)
    ]

pub returns : goal.returns
returns c = subst (λ (l : List Op). AddsCalls (tac_of c.args.tac.now) c.args.caller (map (op_in c.args.tac.now.types) l) c.args.edges.now.items c.loop-op.edges.items) (take_all c.loop-op.op-index c.args.points.now (omega arith)) c.loop-op.invariant
