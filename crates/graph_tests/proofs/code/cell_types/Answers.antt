use Rattle.std.proofs.Common.{refl}
use Rattle.c_typed.proofs.Grown.{stays, list_stays, void_stands, integer_stands}
use Rattle.c_num.specs.declared.IntType.TheVariants as I
use Rattle.graph_tests.proofs.code.cell_types.Goals as goal

pub pointer_to-requires : goal.pointer_to-requires
pointer_to-requires c = (void_stands c.args.table.now (record { 0 = 0 }) refl).0

pub function-requires-clause-returned : goal.function-requires-clause-returned
function-requires-clause-returned c =
    (stays c.pointer_to-2.new.self c.no_parameters.new.self c.in_ok-none.ensures.ok.grows c.in_ok-to_cell.to_cell c.in_ok-to_cell.ensures.ok.stands).0

pub function-requires-2-clause-returned : goal.function-requires-2-clause-returned
function-requires-2-clause-returned c = (integer_stands c.function.new.self c.integer.result I.Int c.integer.ensures).0

pub function-requires-2-clause-parameters : goal.function-requires-2-clause-parameters
function-requires-2-clause-parameters c =
    (list_stays c.no_parameters.new.self c.function.new.self c.in_ok-maker.ensures.ok.grows c.in_ok-none.none c.in_ok-none.ensures.ok.stands).0
