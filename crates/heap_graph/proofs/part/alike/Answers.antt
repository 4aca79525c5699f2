use Rattle.std.proofs.Common.{sym, ◌∙◌}
use Rattle.heap_graph.proofs.PartLeads.{arrays_alike, arrays_differ}
use Rattle.heap_graph.proofs.part.alike.Goals as goal

pub returns-then-length-count : goal.returns-then-length-count
returns-then-length-count c = sym (c.loop-element.invariant.same ∙ arrays_differ _ _ _ _ c.in-Some.length c.in-Some-element_of.count c.in-Some.ensures.0 c.in-Some-element_of.ensures.0 c.if-length-count.true)

pub loop-element-preserved : goal.loop-element-preserved
loop-element-preserved c = record { one = c.in-Some.ensures.1; other = c.in-Some-element_of.ensures.1; same = c.loop-element.invariant.same ∙ arrays_alike _ _ _ _ c.in-Some.length c.in-Some-element_of.count c.in-Some.ensures.0 c.in-Some-element_of.ensures.0 c.if-length-count.false }
