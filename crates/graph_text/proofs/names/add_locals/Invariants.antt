use Rattle.std.proofs.Common.{◌≡◌, ◌++◌, drop}
use Rattle.graph_text.specs.Names.{local_names}
use Rattle.graph_text.proofs.names.add_locals.Given as goal

abbrev pub invariant-loop-number : goal.invariant-loop-number
invariant-loop-number l = l.found.items ++ local_names l.owner l.objects l.number (drop l.number l.registers) ≡ l.fn.found.items ++ local_names l.owner l.objects 0 l.registers
