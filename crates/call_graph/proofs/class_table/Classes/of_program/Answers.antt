use Rattle.std.proofs.Common.{subst, ◌∙◌}
use Rattle.call_graph.specs.Rows.{AreRows}
use Rattle.call_graph.specs.ClassLists.{LinksKeys}
use Rattle.call_graph.proofs.class_table.Classes.of_program.Goals as goal

pub returns : goal.returns
returns c =
    let keys = c.in_ok-keys.keys in
    let linked = c.in_ok-linked.linked in
    let members = c.in_ok-members.members in
    record {
      keys = keys.items;
      of_keys = c.in_ok-keys.ensures;
      linked = subst (λ l. LinksKeys l linked.firsts linked.links.items) c.as_slice-2.ensures.value c.in_ok-linked.ensures;
      members = subst (λ n. AreRows n linked.links.items members) (c.len.ensures ∙ keys.ok.0) (subst (λ l. AreRows c.len.result l members) c.as_slice-3.ensures.value c.in_ok-members.ensures);
    }
