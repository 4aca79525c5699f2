use Rattle.std.proofs.Common.{◌≡◌, reverse, drop, sym, subst, rules, arith}
use Rattle.graph_unification.specs.Turns.{AsksEdges, Nothing}
use Rattle.graph_unification.proofs.Indexed.{drop_length, asks_more}
use Rattle.graph_unification.proofs.nodes.Nodes.ask_edges.Goals as goal

pub loop-left-init : goal.loop-left-init
loop-left-init c = (
  omega arith,
  subst (λ edges. AsksEdges c.args.node c.args.distance c.args.self.now (reverse c.args.work.now.items) edges c.args.self.now (reverse c.args.work.now.items)) (sym (drop_length c.args.edges.now)) Nothing,
)

pub overflow_sub-left : goal.overflow_sub-left
overflow_sub-left c = omega arith

pub offset_bounds-edges-left : goal.offset_bounds-edges-left
offset_bounds-edges-left c = let fits = c.loop-left.invariant.0 in omega arith

pub bounds-edges-left : goal.bounds-edges-left
bounds-edges-left c = let some = c.loop-left-test.true in let fits = c.loop-left.invariant.0 in omega (arith, some, fits)

pub returns-in_err-at : goal.returns-in_err-at
returns-in_err-at c = search rules

pub loop-left-smaller : goal.loop-left-smaller
loop-left-smaller c = let some = c.loop-left-test.true in omega (arith, some)

pub loop-left-preserved : goal.loop-left-preserved
loop-left-preserved c = (
  let fits = c.loop-left.invariant.0 in omega (arith, fits),
  asks_more c.args.node c.args.distance c.args.self.now c.loop-left.self c.new_cell.new.self (reverse c.args.work.now.items) (reverse c.loop-left.work.items) (reverse c.push.new.work.items) c.args.edges.now c.loop-left.left _
      c.in_ok-at.at _ c.loop-left-test.true c.loop-left.invariant.0 c.loop-left.invariant.1 c.saturating_add.ensures c.in_ok-at.ensures c.in_ok-push.ensures,
)

pub returns-in_err-push : goal.returns-in_err-push
returns-in_err-push c = search rules

pub returns : goal.returns
returns c =
    let over = c.loop-left-test.false in
    let none : c.loop-left.left ≡ 0 = omega (arith, over) in
    subst (λ k. AsksEdges c.args.node c.args.distance c.args.self.now (reverse c.args.work.now.items) (drop k c.args.edges.now) c.loop-left.self (reverse c.loop-left.work.items)) none c.loop-left.invariant.1
