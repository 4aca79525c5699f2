use Rattle.std.proofs.Common.{ap}
use Rattle.tac_ir.specs.declared.path.Base.{Base}
use Rattle.tac_ir.specs.Views.{tac_of, base_in}
use Rattle.graph_unification.specs.Memory.{graph_in}
use Rattle.dsa_local.specs.Beginning.{FirstNodes, base_node}
use Rattle.dsa_local.proofs.Covered.{none_added}
use Rattle.dsa_local.proofs.mentioned.add_base.Goals as goal

pub returns-in-Local-clause-adds : goal.returns-in-Local-clause-adds
returns-in-Local-clause-adds c =
    let node : Base → FirstNodes = λ b. base_node (tac_of c.args.tac.now) (base_in c.args.tac.now.types b) in
    none_added (node c.args.base.now) (graph_in c.args.tac.now.types c.args.graph.now) (ap node c.in-Local.is)

pub returns-in-Pointed-clause-adds : goal.returns-in-Pointed-clause-adds
returns-in-Pointed-clause-adds c =
    let node : Base → FirstNodes = λ b. base_node (tac_of c.args.tac.now) (base_in c.args.tac.now.types b) in
    none_added (node c.args.base.now) (graph_in c.args.tac.now.types c.args.graph.now) (ap node c.in-Pointed.is)

pub returns-in-Indexed-clause-adds : goal.returns-in-Indexed-clause-adds
returns-in-Indexed-clause-adds c =
    let node : Base → FirstNodes = λ b. base_node (tac_of c.args.tac.now) (base_in c.args.tac.now.types b) in
    none_added (node c.args.base.now) (graph_in c.args.tac.now.types c.args.graph.now) (ap node c.in-Indexed.is)
