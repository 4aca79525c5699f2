use Rattle.std.proofs.Common.{◌∙◌}
use Rattle.std.proofs.lemmas.List.{take_rest}
use Rattle.pcc_outside.proofs.Writing.{AddsBefore-more}
use Rattle.pcc_outside.proofs.whole.write_all.Goals as goal

pub loop-rest-preserved : goal.loop-rest-preserved
loop-rest-preserved g c = record {
  before = rw take_rest (AddsBefore-more _ _ _ _ _ _ c.loop-rest.invariant.before c.in_ok-n.ensures.adds);
  faultless = c.in_ok-n.ensures.faultless ∙ c.loop-rest.invariant.faultless;
}
