use Rattle.std.proofs.Common.{refl, sym, subst}
use Rattle.graph_text.specs.Names.{member_names}
use Rattle.graph_text.specs.Texts.{AppendsGraph, AppendsGroup}
use Rattle.graph_text.proofs.graphs.put_numbered.Goals as goal

pub returns-in_default : goal.returns-in_default
returns-in_default c = subst (λ f. AppendsGroup c.args.table.now c.args.graphs.now c.args.labels.now f c.args.members.now c.args.text.now.items c.args.text.now.items) (sym c.in_default.ensures) refl

pub put_group-requires : goal.put_group-requires
put_group-requires c = c.requires c.args.number c.in-Some.graph.now c.in-Some.ensures

pub returns : goal.returns
returns c =
    subst (λ f. AppendsGroup c.args.table.now c.args.graphs.now c.args.labels.now f c.args.members.now c.args.text.now.items c.put_group.new.text.items) (sym c.in-Some.ensures)
    (subst (λ l. AppendsGraph c.args.table.now c.args.labels.now c.in-Some.graph.now (member_names c.args.graphs.now.functions.items c.args.members.now) l c.put_group.new.text.items) c.in_ok-put_heading.ensures c.in_ok-put_group.ensures)
