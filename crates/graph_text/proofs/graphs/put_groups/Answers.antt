use Rattle.std.proofs.Common.{ℕ, List, subst}
use Rattle.std.specs.Prelude.{slice_get}
use Rattle.graph_text.specs.Texts.{AppendsGroup, AppendsGroups}
use Rattle.graph_text.proofs.Appending.{on_ok, more_groups, then_start}
use Rattle.graph_text.proofs.graphs.put_groups.Goals as goal

pub loop-number-preserved : goal.loop-number-preserved
loop-number-preserved c =
    more_groups c.args.table.now c.args.graphs.now c.args.labels.now c.args.groups.now c.loop-number.number c.index-groups-number.result c.index-groups-number.result c.loop-number.text.items c.put_numbered.new.text.items
    (λ (after : List ℕ). AppendsGroups c.args.table.now c.args.graphs.now c.args.labels.now 0 c.args.groups.now c.args.text.now.items after)
    c.loop-number-test.true c.index-groups-number.is
    (subst (λ l. AppendsGroup c.args.table.now c.args.graphs.now c.args.labels.now (slice_get c.args.graphs.now.graphs.items c.loop-number.number) l c.loop-number.text.items c.put_numbered.new.text.items) c.deref.ensures.value c.in_ok-put_numbered.ensures)
    c.loop-number.invariant

pub returns : goal.returns
returns c =
    on_ok c.put_start.result
    (then_start c.args.table.now c.args.graphs.now c.args.labels.now c.args.groups.now c.loop-number.number c.loop-number.text.items c.put_start.new.text.items
    (λ (after : List ℕ). AppendsGroups c.args.table.now c.args.graphs.now c.args.labels.now 0 c.args.groups.now c.args.text.now.items after) c.loop-number-test.false c.loop-number.invariant)
    c.put_start.ensures
