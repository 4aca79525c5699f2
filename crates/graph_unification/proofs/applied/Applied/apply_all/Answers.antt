use Rattle.std.proofs.Common.{◌+◌, drop, map, sym, subst}
use Rattle.tac_ir.specs.Views.{op_in}
use Rattle.graph_unification.specs.Applying.{code_of, owner_of, shown, GoesOn}
use Rattle.graph_unification.proofs.PointCases.{all_kept, goes_on, ends, next_fits, on_after, on_at_end}
use Rattle.graph_unification.proofs.applied.Applied.apply_all.Goals as goal

pub loop-op-preserved : goal.loop-op-preserved
loop-op-preserved c =
    let own = c.args.self in
    let code = code_of own in
    let owner = owner_of own in
    let read = op_in own.tac.now.types in
    let points = c.args.points.now in
    let index = c.loop-op.op-index in
    let op = c.op-item.result in
    let fine = c.loop-op.invariant.graph in
    let start = shown own c.args.graph.now in
    let graph = shown own c.loop-op.graph in
    let next = shown own c.apply.new.graph in
    let its = c.in_ok-applied.ensures.applies in
    let left = map read (drop (index + 1) points) in
    record {
      graph = c.in_ok-applied.ensures.graph;
      fit = all_kept code owner c.requires.known.made graph next its.map fine.sound its.maps left (next_fits code owner read points graph index op c.op-item.is c.loop-op-test.true c.loop-op.invariant.fit).1;
      goes_on = subst (λ b. GoesOn code owner start (map read points) b next left) (sym c.either-changed.ensures)
          (goes_on code owner c.requires.known.made start (map read points) c.loop-op.changed c.in_ok-applied.applied graph next fine.sound (read op) left
          (on_after code owner read points start (map read points) c.loop-op.changed graph index op c.op-item.is c.loop-op-test.true c.loop-op.invariant.goes_on) its);
    }

pub returns-clause-applies : goal.returns-clause-applies
returns-clause-applies c =
    let own = c.args.self in
    let code = code_of own in
    let owner = owner_of own in
    let read = op_in own.tac.now.types in
    let points = c.args.points.now in
    let start = shown own c.args.graph.now in
    let graph = shown own c.loop-op.graph in
    ends code owner c.requires.known.made start (map read points) c.loop-op.changed graph c.loop-op.invariant.graph.sound
    (on_at_end code owner read points start (map read points) c.loop-op.changed graph c.loop-op.op-index c.loop-op-test.false c.loop-op.invariant.goes_on)
