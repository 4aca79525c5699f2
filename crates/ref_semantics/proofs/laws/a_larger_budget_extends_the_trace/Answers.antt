use Rattle.ref_semantics.proofs.Spans.{grows}
use Rattle.ref_semantics.proofs.laws.a_larger_budget_extends_the_trace.Goals as goal

pub returns : goal.returns
returns c = grows
