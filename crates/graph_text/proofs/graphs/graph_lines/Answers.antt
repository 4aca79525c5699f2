use Rattle.graph_text.proofs.Appending.{whole_text}
use Rattle.graph_text.proofs.graphs.graph_lines.Goals as goal

pub returns : goal.returns
returns c = whole_text c.args.tac.now.types c.args.graphs.now c.args.labels.now c.args.groups.now.members.items c.as_slice.result.now c.new-text.result.items c.put_groups.new.text.items c.as_slice.ensures.value c.new-text.ensures.items c.in_ok-put_groups.ensures
