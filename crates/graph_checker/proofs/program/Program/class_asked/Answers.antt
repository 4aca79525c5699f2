use Rattle.std.proofs.Common.{◌≡◌, true, Some, None, option_copied, refl, sym, ap, subst, ◌∙◌}
use Rattle.std.specs.Prelude.{slice_get}
use Rattle.tac_ir.specs.Code.{Callee}
use Rattle.tac_ir.specs.Views.{callee_in, tac_of}
use Rattle.c_typed.specs.Table.{type_in}
use Rattle.call_graph.specs.ClassLists.{numbers_of}
use Rattle.call_graph.specs.TargetLists.{AreTargets}
use Rattle.heap_graph.specs.Asked.{ClassAsked}
use Rattle.graph_checker.specs.Programs.{family_of}
use Rattle.graph_checker.proofs.CallSteps.{class_judged, no_class}
use Rattle.graph_checker.proofs.program.Program.class_asked.Goals as goal

pub returns-in-Some : goal.returns-in-Some
returns-in-Some c =
    let program = c.args.self in
    let table = program.tac.now.types in
    let targets = c.args.targets.now in
    let first : slice_get targets 0 ≡ Some c.in-Some.first.now = sym c.first.ensures.value ∙ ap option_copied c.in-Some.is in
    let callee = ap (callee_in table) c.in-Through.is in
    λ are.
    subst (λ (one : Callee). (c.all_share.result ≡ true → ClassAsked (family_of program) one) × (ClassAsked (family_of program) one → c.all_share.result ≡ true)) (sym callee)
    (class_judged (family_of program) c.in-Through.pointer (type_in table c.in-Through.c_type) targets (subst (λ (one : Callee). AreTargets (tac_of program.tac.now) one (numbers_of targets)) callee are)
    c.in-Some.first.now first c.all_share.result c.all_share.ensures)

pub returns-in-None : goal.returns-in-None
returns-in-None c =
    let program = c.args.self in
    let table = program.tac.now.types in
    let targets = c.args.targets.now in
    let none : slice_get targets 0 ≡ None = sym c.first.ensures.value ∙ ap option_copied c.in-None.is in
    let callee = ap (callee_in table) c.in-Through.is in
    λ are. (
      (λ t.
          subst (ClassAsked (family_of program)) (sym callee)
          (no_class (family_of program) c.in-Through.pointer (type_in table c.in-Through.c_type) targets (subst (λ (one : Callee). AreTargets (tac_of program.tac.now) one (numbers_of targets)) callee are) none)),
      (λ class. refl),
    )
