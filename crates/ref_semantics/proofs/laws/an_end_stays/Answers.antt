use Rattle.ref_semantics.proofs.Spans.{stays}
use Rattle.ref_semantics.proofs.laws.an_end_stays.Goals as goal

pub returns : goal.returns
returns c = stays
