use Rattle.std.proofs.Common.{sym, subst, ◌∙◌}
use Rattle.std.proofs.lemmas.Result.{IfOk-weaker}
use Rattle.c_typed.specs.Table.{type_in}
use Rattle.tac_ir.specs.declared.op.Callee.{Callee}
use Rattle.tac_ir.specs.Code.{Through}
use Rattle.tac_ir.specs.Views.{tac_of, callee_in}
use Rattle.call_graph.specs.ClassLists.{numbers_of}
use Rattle.call_graph.specs.TargetLists.{IsClassOf, IsFirstTarget}
use Rattle.call_graph.proofs.TargetFacts.{target_inside}
use Rattle.dsa_inlining.specs.Before.{graphs_before}
use Rattle.dsa_inlining.specs.Live.{AreLiveTargets}
use Rattle.dsa_inlining.proofs.LiveRows.{through_live}
use Rattle.dsa_inlining.proofs.before.Before.live_targets.Goals as goal

pub returns-in-Through : goal.returns-in-Through
returns-in-Through c =
    let self = c.args.self in
    let before = graphs_before self in
    let tac = self.tac.now in
    let class = c.class_of-class.result in
    let callee = Through c.in-Through.pointer (type_in tac.types c.in-Through.c_type) in
    let starts : IsFirstTarget (tac_of tac) callee class = subst (λ (k : Callee). IsClassOf (tac_of tac) (callee_in tac.types k) class) c.in-Through.is (c.class_of-class.ensures c.requires.groups.classes) in
    let are = through_live before self.live.now c.requires.live (λ pointer c_type. target_inside tac self.groups.now.classes c.requires.groups.classes pointer c_type) c.in-Through.pointer (type_in tac.types c.in-Through.c_type) class starts in
    IfOk-weaker c.functions-in-Through.result _ _
    (λ made same.
    subst (λ (k : Callee). AreLiveTargets before (callee_in tac.types k) (numbers_of made.items)) (sym c.in-Through.is)
    (subst (AreLiveTargets before callee) (sym (same ∙ c.of_class.ensures)) are))
    c.functions-in-Through.ensures
