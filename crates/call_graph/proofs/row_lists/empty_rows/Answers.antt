use Rattle.std.proofs.Common.{◌≡◌, refl, subst, arith}
use Rattle.call_graph.specs.Rows.{AreEmpty}
use Rattle.call_graph.proofs.AddedEdges.{no_rows, one_row}
use Rattle.call_graph.proofs.row_lists.empty_rows.Goals as goal

pub loop-init : goal.loop-init
loop-init c = no_rows _ c.new-rows.ensures.items

pub loop-preserved : goal.loop-preserved
loop-preserved c = one_row c.loop.counter c.loop.rows c.push.new.self c.new.result c.loop.invariant c.in_ok-push.ensures.items c.new.ensures.items _ refl

pub returns : goal.returns
returns c = let all : c.loop.counter ≡ c.args.nodes = omega (arith, c.loop-test.false, c.loop.auto.counter-end) in subst (λ n. AreEmpty n c.loop.rows) all c.loop.invariant
