use Rattle.ref_semantics.proofs.Spans.{kept}
use Rattle.ref_semantics.proofs.laws.going_on_keeps_the_trace.Goals as goal

pub returns : goal.returns
returns c = kept
