use Rattle.std.proofs.Common.{Contains, subst}
use Rattle.std.proofs.lemmas.List.Sorted.{Contains-permutation, IsPermutation-sym}
use Rattle.std.proofs.lemmas.Result.{IfOk-weaker}
use Rattle.dsa_inlining.specs.Choices.{AreAmong}
use Rattle.dsa_inlining.proofs.chosen.chosen_bases.Goals as goal

pub returns : goal.returns
returns c =
    let groups = c.args.groups.items in
    let sorted = c.sort_unstable_by_key.new.self.items in
    IfOk-weaker c.choose.result (λ chosen. AreAmong chosen.items c.as_slice.result.now) (λ chosen. AreAmong chosen.items groups)
    (λ chosen are group among. Contains-permutation sorted groups group (IsPermutation-sym groups sorted c.sort_unstable_by_key.ensures.permutation)
    (subst (λ l. Contains l group) c.as_slice.ensures.value (are group among))) c.choose.ensures
