use Rattle.graph_memory_bench.proofs.graph_of.Goals as goal

pub loop-number-init : goal.loop-number-init
loop-number-init c = c.new-graph.ensures.graph c.args.types.now
