use Rattle.std.proofs.Common.{◌++◌, sym, ap, ◌∙◌}
use Rattle.std.proofs.lemmas.List.{append-nil}
use Rattle.graph_text.specs.Names.{names_if}
use Rattle.graph_text.proofs.graphs.add_member.Goals as goal

pub returns-in_default : goal.returns-in_default
returns-in_default c = sym (ap (λ f. c.args.found.now.items ++ names_if c.args.member.0 f) c.in_default.ensures ∙ append-nil c.args.found.now.items)

pub returns : goal.returns
returns c = c.in_ok-add_function.ensures ∙ ap (λ f. c.args.found.now.items ++ names_if c.args.member.0 f) (sym c.in-Some.ensures)
