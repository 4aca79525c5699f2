use Rattle.std.proofs.Common.{sym, subst, ◌∙◌}
use Rattle.std.proofs.lemmas.Result.{IfOk-weaker}
use Rattle.tac_ir.specs.declared.op.Callee.{Callee}
use Rattle.tac_ir.specs.Code.{Known}
use Rattle.tac_ir.specs.Views.{tac_of, callee_in}
use Rattle.call_graph.specs.TargetLists.{AreTargets}
use Rattle.call_graph.specs.ClassLists.{numbers_of}
use Rattle.call_graph.proofs.TargetFacts.{known_targets, through_targets}
use Rattle.call_graph.proofs.class_table.Classes.targets.Goals as goal

pub returns-in-Function : goal.returns-in-Function
returns-in-Function c =
    let tac = c.args.tac.now in
    IfOk-weaker c.functions.result _ _ (λ made e known.
    subst (λ (callee : Callee). AreTargets (tac_of tac) (callee_in tac.types callee) (numbers_of made.items)) (sym c.in-Function.is)
    (subst (AreTargets (tac_of tac) (Known c.in-Function.function.0)) (sym e) (known_targets (tac_of tac) c.in-Function.function.0))) c.functions.ensures

pub returns-in-Through : goal.returns-in-Through
returns-in-Through c =
    let tac = c.args.tac.now in
    IfOk-weaker c.functions-in-Through.result _ _ (λ made e known.
    subst (λ (callee : Callee). AreTargets (tac_of tac) (callee_in tac.types callee) (numbers_of made.items)) (sym c.in-Through.is)
    (subst (AreTargets (tac_of tac) _) (sym (e ∙ c.members_from.ensures)) (through_targets tac c.args.self.now known c.in-Through.c_type _ c.first_of-first.result c.first_of-first.ensures))) c.functions-in-Through.ensures
