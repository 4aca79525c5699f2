use Rattle.std.proofs.Common.{◌≡◌, ◌++◌, drop}
use Rattle.graph_text.specs.declared.names.Name.TheVariants as N
use Rattle.graph_text.specs.Names.{static_names}
use Rattle.graph_text.proofs.names.add_literals.Given as goal

abbrev pub invariant-loop-number : goal.invariant-loop-number
invariant-loop-number l = l.found.items ++ static_names N.Literal l.targets (drop l.number-index l.number-items) ≡ l.fn.found.items ++ static_names N.Literal l.targets l.number-items
