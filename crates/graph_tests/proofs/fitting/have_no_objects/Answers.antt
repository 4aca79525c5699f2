use Rattle.std.proofs.Common.{true, false}
use Rattle.graph_tests.specs.Plain.{HasNoObjects}
use Rattle.graph_checker.proofs.Judged.{at_start, holds_on, fails, ends}
use Rattle.graph_tests.proofs.HasSlots.{same_all}
use Rattle.graph_tests.proofs.fitting.have_no_objects.Goals as goal

pub loop-function-init : goal.loop-function-init
loop-function-init c = at_start (λ function. function) (HasNoObjects) c.args.functions.now

pub returns-then-not-has_no_objects : goal.returns-then-not-has_no_objects
returns-then-not-has_no_objects c =
    same_all (HasNoObjects) c.args.functions.now false (fails (λ function. function) (HasNoObjects) c.args.functions.now c.loop-function.function-index c.function-item.result c.function-item.result c.function-item.is c.loop-function-test.true c.has_no_objects.result c.if-not-has_no_objects.true c.has_no_objects.ensures c.loop-function.invariant)

pub loop-function-preserved : goal.loop-function-preserved
loop-function-preserved c =
    holds_on (λ function. function) (HasNoObjects) c.args.functions.now c.loop-function.function-index c.function-item.result c.function-item.result c.function-item.is c.loop-function-test.true c.has_no_objects.result c.if-not-has_no_objects.false c.has_no_objects.ensures c.loop-function.invariant

pub returns : goal.returns
returns c =
    same_all (HasNoObjects) c.args.functions.now true (ends (λ function. function) (HasNoObjects) c.args.functions.now c.loop-function.function-index c.loop-function-test.false c.loop-function.invariant)
