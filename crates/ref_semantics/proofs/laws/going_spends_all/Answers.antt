use Rattle.ref_semantics.proofs.Spans.{spends_all}
use Rattle.ref_semantics.proofs.laws.going_spends_all.Goals as goal

pub returns : goal.returns
returns c = spends_all
