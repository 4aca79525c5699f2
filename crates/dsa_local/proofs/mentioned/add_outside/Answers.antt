use Rattle.std.proofs.Common.{ap}
use Rattle.tac_ir.specs.Views.{tac_of, op_in}
use Rattle.graph_unification.specs.Memory.{graph_in}
use Rattle.dsa_local.specs.Beginning.{path_node, op_node}
use Rattle.dsa_local.proofs.Covered.{none_added}
use Rattle.dsa_local.proofs.mentioned.add_outside.Goals as goal

pub returns-in-None-clause-adds : goal.returns-in-None-clause-adds
returns-in-None-clause-adds c =
    let tac = tac_of c.args.tac.now in
    none_added (op_node tac (op_in c.args.tac.now.types c.args.op.now)) (graph_in c.args.tac.now.types c.args.graph.now) (ap (path_node tac) (c.in-None.ensures c.args.tac.now.types))
