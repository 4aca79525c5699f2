use Rattle.std.proofs.lemmas.List.Elements.{Contains-get_or}
use Rattle.std.proofs.Common.{get_or}
use Rattle.dsa_inlining.proofs.ToldStatics.Telling.{from_none, from_more}
use Rattle.dsa_inlining.proofs.search.told_groups.Goals as goal

pub loop-base-init : goal.loop-base-init
loop-base-init c = from_none c.args.all.now c.args.bases.now c.new-told.result.keys c.new-told.ensures.empty

pub loop-base-preserved : goal.loop-base-preserved
loop-base-preserved c =
    let bases = c.args.bases.now in
    let at = c.loop-base.base-index in
    from_more c.args.all.now bases c.loop-base.told.keys c.tell_group.new.told.keys _ (get_or bases at 0) (Contains-get_or bases at 0 c.loop-base-test.true) c.loop-base.invariant c.in_ok-tell_group.ensures
