use Rattle.tac_ir.specs.Views.{tac_of}
use Rattle.graph_unification.specs.Memory.{graph_in}
use Rattle.dsa_local.proofs.Mentioning.{keeps_then}
use Rattle.dsa_local.proofs.changes.mention.Goals as goal

pub returns-clause-keeps : goal.returns-clause-keeps
returns-clause-keeps c =
    let tac = c.args.tac.now in
    keeps_then (tac_of tac) c.requires.code.made (graph_in tac.types c.args.graph.now) (graph_in tac.types c.add.new.graph) (graph_in tac.types c.tell_type.new.graph) c.requires.graph.sound c.in_ok-add.ensures.keeps
    c.in_ok-tell_type.ensures.keeps
