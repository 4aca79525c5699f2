use Rattle.std.proofs.Common.{ℕ, ◌+◌, List, ◌∷◌, [], map, take, Option, refl, ap, subst, ◌∙◌, arith}
use Rattle.std.proofs.lemmas.List.{map-append}
use Rattle.tac_ir.specs.declared.op.Op.{Op}
use Rattle.tac_ir.specs.Views.{op_in, callee_in, tac_of}
use Rattle.call_graph.specs.TargetLists.{IsClassOf}
use Rattle.call_graph.proofs.RowLists.{read_take, take_all}
use Rattle.call_graph.specs.CallLists.{AddsCalled}
use Rattle.call_graph.proofs.CallSteps.{no_call, no_classes, class_some, class_nowhere, class_none}
use Rattle.call_graph.proofs.graph.add_called.Goals.{in-Call+in-Some+in_ok-push, in-Call+in_default-class_of, in_default}
use Rattle.call_graph.proofs.graph.add_called.Goals as goal

pub loop-op-init : goal.loop-op-init
loop-op-init c = no_classes (tac_of c.args.tac.now) _

pub loop-op-preserved : goal.loop-op-preserved
loop-op-preserved c =
    let tac = c.args.tac.now in
    let points = c.args.points.now in
    let i = c.loop-op.op-index in
    let op = c.op-item.result in
    let done = map (op_in tac.types) (take i points) in
    let further = map (op_in tac.types) (take (i + 1) points) in
    let more = ap (map (op_in tac.types)) (read_take points i (i + 1) op op refl c.loop-op-test.true c.op-item.is) ∙ map-append (op_in tac.types) (take i points) (op ∷ []) in
    let old = c.args.called.now.items in
    let mid = c.loop-op.called.items in
    elim c.match-op.branch [
      | in-Call+in-Some+in_ok-push w ↦
          class_some (tac_of tac) done further old mid _ (op_in tac.types op) c.loop-op.invariant more (callee_in tac.types w.in-Call.callee) w.in-Some.first _ _ (ap (op_in tac.types) w.in-Call.is)
          (subst (λ (found : Option ℕ). IsClassOf (tac_of tac) (callee_in tac.types w.in-Call.callee) found) w.in-Some.is (w.class_of.ensures c.requires))
          (ap (λ v. v.items) w.called-is ∙ w.in_ok-push.ensures.items)
      | in-Call+in_default-class_of w ↦
          class_nowhere (tac_of tac) done further old mid _ (op_in tac.types op) c.loop-op.invariant more (callee_in tac.types w.in-Call.callee) _ _ (ap (op_in tac.types) w.in-Call.is)
          (subst (λ (found : Option ℕ). IsClassOf (tac_of tac) (callee_in tac.types w.in-Call.callee) found) w.in_default-class_of.is (w.class_of.ensures c.requires)) (ap (λ v. v.items) w.called-is)
      | in_default w ↦
          class_none (tac_of tac) done further old mid _ (op_in tac.types op) c.loop-op.invariant more (λ callee site arguments is. absurd (no_call tac.types op w.in_default.not-Call site callee arguments is))
          (ap (λ v. v.items) w.called-is)
    ]

pub returns : goal.returns
returns c = subst (λ (l : List Op). AddsCalled (tac_of c.args.tac.now) (map (op_in c.args.tac.now.types) l) c.args.called.now.items c.loop-op.called.items) (take_all c.loop-op.op-index c.args.points.now (omega arith)) c.loop-op.invariant
