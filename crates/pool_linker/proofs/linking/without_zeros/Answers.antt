use Rattle.std.proofs.Common.{sym, ◌∙◌, arith}
use Rattle.pool_linker.proofs.Zeros.{one_fewer, no_fewer, nothing_left}
use Rattle.pool_linker.proofs.linking.without_zeros.Goals as goal
use Rattle.pool_linker.proofs.linking.without_zeros.Goals.{then-loop-count-test+else-index-eq0, else-loop-count-test}

pub loop-count-preserved : goal.loop-count-preserved
loop-count-preserved c =
    let fewer = one_fewer c.args.bytes.items c.loop-count.count c.index.result.now c.loop-count-test.true c.loop-count.invariant.0 c.index.ensures c.if-index-eq0.true in
    (omega (arith, c.loop-count.invariant.0), sym fewer ∙ c.loop-count.invariant.1)

pub returns : goal.returns
returns c =
    let bytes = c.args.bytes.items in
    let count = c.loop-count.count in
    elim c.loop-count-test.branch [
      | then-loop-count-test+else-index-eq0 w ↦
          c.truncate.ensures.items ∙ no_fewer bytes count w.index.result.now w.loop-count-test.true c.loop-count.invariant.0 w.index.ensures w.if-index-eq0.false ∙ c.loop-count.invariant.1
      | else-loop-count-test w ↦ c.truncate.ensures.items ∙ nothing_left bytes count (omega (arith, w.loop-count-test.false)) ∙ c.loop-count.invariant.1
    ]
