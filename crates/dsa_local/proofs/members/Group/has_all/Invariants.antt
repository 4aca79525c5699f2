use Rattle.std.proofs.Common.{◌≡◌, ℕ, ◌<◌, true, Some}
use Rattle.std.specs.Prelude.{slice_get}
use Rattle.call_graph.specs.ClassLists.{numbers_of}
use Rattle.dsa_local.specs.Members.{is_inside}
use Rattle.dsa_local.proofs.members.Group.has_all.Given as goal

abbrev pub invariant-loop-function : goal.invariant-loop-function
invariant-loop-function l = (k function : ℕ) → k < l.function-index → slice_get (numbers_of l.functions) k ≡ Some function → is_inside l.self function ≡ true
