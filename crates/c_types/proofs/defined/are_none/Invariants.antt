use Rattle.std.proofs.Common.{◌≡◌, drop}
use Rattle.c_typed.specs.DefinitionViews.{all_first}
use Rattle.c_types.proofs.defined.are_none.Given as goal

-- All values are those that are left.
abbrev pub invariant-loop-one : goal.invariant-loop-one
invariant-loop-one l = all_first l.first ≡ all_first (drop l.one-index l.first)
