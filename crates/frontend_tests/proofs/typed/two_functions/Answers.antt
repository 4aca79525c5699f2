use Rattle.c_typed.proofs.Grown.{stays, list_stays}
use Rattle.frontend_tests.proofs.typed.two_functions.Goals as goal

pub parameter-requires-clause-others : goal.parameter-requires-clause-others
parameter-requires-clause-others c =
    let none = c.in_ok-none.none in
    let then = (list_stays c.no_parameters.new.self c.function.new.self c.in_ok-other.ensures.ok.grows none c.in_ok-none.ensures.ok.stands).0 in
    (list_stays c.function.new.self c.pointer_to.new.self c.in_ok-to_int.ensures.ok.grows none then).0

pub same-requires-clause-b : goal.same-requires-clause-b
same-requires-clause-b c =
    let other = c.in_ok-other.other in
    let then = (stays c.function.new.self c.pointer_to.new.self c.in_ok-to_int.ensures.ok.grows other c.in_ok-other.ensures.ok.stands).0 in
    let later = (stays c.pointer_to.new.self c.parameter.new.self c.in_ok-one.ensures.ok.grows other then).0 in
    (stays c.parameter.new.self c.function-2.new.self c.in_ok-function.ensures.ok.grows other later).0

pub first_parameter-requires-2 : goal.first_parameter-requires-2
first_parameter-requires-2 c =
    (list_stays c.parameter.new.self c.function-2.new.self c.in_ok-function.ensures.ok.grows c.in_ok-one.one c.in_ok-one.ensures.ok.stands).0
