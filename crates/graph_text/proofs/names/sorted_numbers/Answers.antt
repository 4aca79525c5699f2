use Rattle.graph_text.proofs.Statics.{sorted_statics}
use Rattle.graph_text.proofs.names.sorted_numbers.Goals as goal

pub returns : goal.returns
returns c =
    sorted_statics c.args.targets.now c.in_ok-numbers.numbers.items c.sort_unstable.new.self.items c.in_ok-numbers.ensures.0 c.in_ok-numbers.ensures.1 c.sort_unstable.ensures.permutation c.sort_unstable.ensures.sorted
