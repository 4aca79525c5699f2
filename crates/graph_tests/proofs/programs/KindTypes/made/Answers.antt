use Rattle.c_num.specs.declared.IntType.TheVariants as I
use Rattle.c_typed.proofs.Grown.{integer_stands, list_stays}
use Rattle.graph_tests.proofs.programs.KindTypes.made.Goals as goal

pub function-requires-clause-returned : goal.function-requires-clause-returned
function-requires-clause-returned c = (integer_stands c.no_parameters.new.self c.integer-int.result I.Int c.integer-int.ensures).0

pub parameter-requires-clause-first : goal.parameter-requires-clause-first
parameter-requires-clause-first c = (integer_stands c.function.new.self c.integer-int.result I.Int c.integer-int.ensures).0

pub parameter-requires-clause-others : goal.parameter-requires-clause-others
parameter-requires-clause-others c = (list_stays c.no_parameters.new.self c.function.new.self c.in_ok-nullary.ensures.ok.grows c.in_ok-none.none c.in_ok-none.ensures.ok.stands).0

pub function-requires-2-clause-returned : goal.function-requires-2-clause-returned
function-requires-2-clause-returned c = (integer_stands c.parameter.new.self c.integer-int.result I.Int c.integer-int.ensures).0
