use Rattle.call_graph.proofs.Sharing.{row_set}
use Rattle.call_graph.proofs.lists.SharedLists.set.Goals as goal

pub returns-clause-set : goal.returns-clause-set
returns-clause-set c =
    let self = c.args.self.now in
    row_set self.lists.keys c.insert_full.new.self.keys c.args.list self.list_of.items c.args.number c.in_ok-index.field-0.0 self.within c.in_ok-index.ensures.keys c.in_ok-index.ensures.stored
