use Rattle.std.proofs.Common.{rules}
use Rattle.graph_unification.proofs.nodes.Nodes.new_name_cell.Goals as goal

pub returns-in_err-number : goal.returns-in_err-number
returns-in_err-number c = search rules

pub returns-in_err-note_name : goal.returns-in_err-note_name
returns-in_err-note_name c = search rules

pub returns : goal.returns
returns c = let adds = c.in_ok-number.ensures in record { last = adds.last; cells = adds.cells; list = adds.list }
