use Rattle.std.proofs.Common.{sym}
use Rattle.graph_tests.proofs.Made.{read_sized}
use Rattle.graph_tests.proofs.types.at.Goals as goal

pub returns-in-Some : goal.returns-in-Some
returns-in-Some c = read_sized c.args.table.now c.args.list.now c.args.index c.in-Some.t.now c.requires (sym c.in-Some.ensures.lookup.0) c.in-Some.ensures.lookup.1
