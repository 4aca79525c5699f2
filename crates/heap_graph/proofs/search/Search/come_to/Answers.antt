use Rattle.heap_graph.proofs.Growing.{is_unset, grows_one}
use Rattle.heap_graph.proofs.search.Search.come_to.Goals as goal

pub returns-in_ok-push : goal.returns-in_ok-push
returns-in_ok-push c =
    let old = c.args.self.now in
    grows_one old (record { found = c.add.new.self; pending = c.push.new.self }) c.args.number (is_unset _ _ c.is_new.ensures c.if-is_new.true) c.add.ensures c.in_ok-push.ensures.items
