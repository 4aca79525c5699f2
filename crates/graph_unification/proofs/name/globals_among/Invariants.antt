use Rattle.std.proofs.Common.{◌≡◌, ◌++◌, drop}
use Rattle.graph_unification.specs.Statics.{global_numbers}
use Rattle.graph_unification.proofs.name.globals_among.Given as goal

-- what was found and what is left are all
abbrev pub invariant-loop-key : goal.invariant-loop-key
invariant-loop-key l = l.numbers.items ++ global_numbers (drop l.key-index l.keys) ≡ global_numbers l.keys
