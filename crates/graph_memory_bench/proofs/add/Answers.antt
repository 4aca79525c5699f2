use Rattle.std.proofs.Common.{arith}
use Rattle.graph_memory_bench.proofs.add.Goals as goal

pub returns : goal.returns
returns c =
    let table = c.args.types.now in
    let graph = c.in_ok-node.ensures.graph table c.requires tt in
    c.in_ok-set_target.ensures.graph table graph (record { node = _; is = (c.in_ok-node.ensures.adds table c.requires).at; inside = omega arith })
