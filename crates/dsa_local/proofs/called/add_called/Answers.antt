use Rattle.std.proofs.Common.{ℕ, ◌+◌, ◌<◌, List, ◌∷◌, [], length, map, take, Option, refl, ap, subst, ◌∙◌, arith}
use Rattle.std.proofs.lemmas.List.{map-append}
use Rattle.tac_ir.specs.declared.op.Op.{Op}
use Rattle.tac_ir.specs.Views.{op_in, callee_in, tac_of}
use Rattle.call_graph.specs.TargetLists.{IsClassOf}
use Rattle.call_graph.proofs.RowLists.{read_take, take_all}
use Rattle.call_graph.proofs.CallSteps.{no_call}
use Rattle.dsa_local.specs.Called.{AddsCalled}
use Rattle.dsa_local.proofs.CalledSteps.{class_within, none_added, one_added, nowhere_added, not_added}
use Rattle.dsa_local.proofs.called.add_called.Goals.{in-Call+in-Some, in-Call+in_default-class_of, in_default}
use Rattle.dsa_local.proofs.called.add_called.Goals as goal

pub loop-op-init : goal.loop-op-init
loop-op-init c = none_added c.args.tac.now _

pub index_mut-requires : goal.index_mut-requires
index_mut-requires c =
    let tac = c.args.tac.now in
    let class = subst (λ (found : Option ℕ). IsClassOf (tac_of tac) (callee_in tac.types c.in-Call.callee) found) c.in-Some.is (c.class_of.ensures c.requires.classes) in
    omega (arith, class_within tac (callee_in tac.types c.in-Call.callee) c.in-Some.first class, c.loop-op.invariant.each, c.requires.each, c.loop-op.callees.ok.0)

pub loop-op-preserved : goal.loop-op-preserved
loop-op-preserved c =
    let tac = c.args.tac.now in
    let points = c.args.points.now in
    let i = c.loop-op.op-index in
    let op = c.op-item.result in
    let done = map (op_in tac.types) (take i points) in
    let further = map (op_in tac.types) (take (i + 1) points) in
    let more = ap (map (op_in tac.types)) (read_take points i (i + 1) op op refl c.loop-op-test.true c.op-item.is) ∙ map-append (op_in tac.types) (take i points) (op ∷ []) in
    let old = c.args.callees.now.items in
    let mid = c.loop-op.callees.items in
    elim c.match-op.branch [
      | in-Call+in-Some w ↦ (let class = subst (λ (found : Option ℕ). IsClassOf (tac_of tac) (callee_in tac.types w.in-Call.callee) found) w.in-Some.is (w.class_of.ensures c.requires.classes) in
          let less : w.in-Some.first < length mid = omega (arith, class_within tac (callee_in tac.types w.in-Call.callee) w.in-Some.first class, c.loop-op.invariant.each, c.requires.each) in
          one_added tac done further (op_in tac.types op) old mid _ c.loop-op.invariant more w.in-Call.callee w.in-Some.first _ _ (ap (op_in tac.types) w.in-Call.is) class less (ap (λ v. v.items) w.callees-is))
      | in-Call+in_default-class_of w ↦
          nowhere_added tac done further (op_in tac.types op) old mid _ c.loop-op.invariant more (callee_in tac.types w.in-Call.callee) _ _ (ap (op_in tac.types) w.in-Call.is)
          (subst (λ (found : Option ℕ). IsClassOf (tac_of tac) (callee_in tac.types w.in-Call.callee) found) w.in_default-class_of.is (w.class_of.ensures c.requires.classes)) (ap (λ v. v.items) w.callees-is)
      | in_default w ↦
          not_added tac done further (op_in tac.types op) old mid _ c.loop-op.invariant more (λ callee site arguments is. absurd (no_call tac.types op w.in_default.not-Call site callee arguments is)) (ap (λ v. v.items) w.callees-is)
    ]

pub returns : goal.returns
returns c = subst (λ (l : List Op). AddsCalled c.args.tac.now (map (op_in c.args.tac.now.types) l) c.args.callees.now.items c.loop-op.callees.items) (take_all c.loop-op.op-index c.args.points.now (omega arith)) c.loop-op.invariant
