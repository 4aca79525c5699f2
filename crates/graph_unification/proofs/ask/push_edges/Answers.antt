use Rattle.std.proofs.Common.{◌++◌, map, reverse, sym, ap, ◌∙◌, arith}
use Rattle.graph_unification.specs.Turns.{asked_again}
use Rattle.graph_unification.proofs.Indexed.{drop_length, again}
use Rattle.graph_unification.proofs.ask.push_edges.Goals as goal

pub loop-left-init : goal.loop-left-init
loop-left-init c = (omega arith, ap (λ l. map (asked_again c.args.at) l ++ reverse c.args.work.now.items) (sym (drop_length c.args.edges.now)))

pub loop-left-preserved : goal.loop-left-preserved
loop-left-preserved c = (
  omega arith,
  c.in_ok-push.ensures
      ∙ again c.args.at c.args.edges.now c.loop-left.left _ (reverse c.args.work.now.items) (reverse c.loop-left.work.items) c.loop-left-test.true c.loop-left.invariant.0 c.loop-left.invariant.1,
)
