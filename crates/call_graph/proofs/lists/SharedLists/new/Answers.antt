use Rattle.call_graph.proofs.Sharing.{all_empty}
use Rattle.call_graph.proofs.lists.SharedLists.new.Goals as goal

pub returns : goal.returns
returns c = all_empty c.insert_full.new.self.keys c.new.result c.in_ok-empty.field-0.0 c.args.count c.in_ok-list_of.list_of.items c.new.ensures.items (c.in_ok-list_of.ensures.items_if_clones_equal (λ y e. e)) c.in_ok-empty.ensures.stored
