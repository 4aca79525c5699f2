use Rattle.std.proofs.Common.{sym, subst}
use Rattle.graph_tests.specs.Objects.{AreSized}
use Rattle.graph_tests.proofs.Made.{one_more}
use Rattle.graph_tests.proofs.types.build.Goals as goal

pub loop-row-preserved : goal.loop-row-preserved
loop-row-preserved c = record {
  made = c.in_ok-made.ensures.made c.loop-row.invariant.made;
  sized = subst (AreSized c.make.new.table) (sym c.in_ok-push.ensures.items)
      (one_more c.loop-row.table c.make.new.table c.loop-row.list.items c.in_ok-made.made c.loop-row.invariant.sized c.in_ok-made.ensures);
}
