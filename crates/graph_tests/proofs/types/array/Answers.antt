use Rattle.c_typed.specs.Types.{Array}
use Rattle.c_typed.specs.Table.{type_in, structs_in}
use Rattle.graph_tests.proofs.Made.{sized_complete, if_adds}
use Rattle.graph_tests.proofs.types.array.Goals as goal

pub array_of-requires-clause-complete : goal.array_of-requires-clause-complete
array_of-requires-clause-complete c = sized_complete (structs_in c.args.table.now) (type_in c.args.table.now c.args.element) c.requires.sized

pub returns : goal.returns
returns c = if_adds c.args.table.now c.array_of.new.self c.array_of.result (Array (type_in c.args.table.now c.args.element) c.args.length) c.array_of.ensures.ok c.requires.sized
