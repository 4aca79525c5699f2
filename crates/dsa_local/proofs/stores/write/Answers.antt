use Rattle.tac_ir.specs.Views.{tac_of}
use Rattle.graph_unification.specs.Memory.{graph_in}
use Rattle.graph_unification.proofs.Kept.{global_kept}
use Rattle.dsa_local.proofs.Mentioning.{keeps_then}
use Rattle.dsa_local.proofs.stores.write.Goals as goal

pub returns-clause-keeps : goal.returns-clause-keeps
returns-clause-keeps c =
    let tac = c.args.tac.now in
    keeps_then (tac_of tac) c.requires.code.made (graph_in tac.types c.args.graph.now) (graph_in tac.types c.mention.new.graph) (graph_in tac.types c.mark.new.graph) c.requires.graph.sound c.in_ok-mention.ensures.keeps
    c.mark.ensures.keeps

pub returns-clause-written : goal.returns-clause-written
returns-clause-written c =
    let tac = c.args.tac.now in
    record {
      named = global_kept (tac_of tac) c.requires.code.made (graph_in tac.types c.mention.new.graph) (graph_in tac.types c.mark.new.graph) c.in_ok-mention.ensures.graph.sound c.mark.ensures.keeps.goes c.args.global.0
          c.in_ok-mention.ensures.named;
      modified = c.mark.ensures.marked;
    }

pub mention-requires-clause-asked : goal.mention-requires-clause-asked
mention-requires-clause-asked c = λ other told. (c.requires.asked other told).0

pub mark-requires-clause-asked : goal.mark-requires-clause-asked
mark-requires-clause-asked c = λ other told. (c.requires.asked other told).1
