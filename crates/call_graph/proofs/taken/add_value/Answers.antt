use Rattle.std.proofs.Common.{ℕ, List, ◌++◌, bytes_eq, sym, ap, ◌∙◌, append-nil}
use Rattle.indexmap.specs.IndexMap.{get_by}
use Rattle.call_graph.specs.TakenLists.{option_list, at_value}
use Rattle.call_graph.proofs.taken.add_value.Goals as goal

pub returns-in_ok-push : goal.returns-in_ok-push
returns-in_ok-push c =
    let names = c.args.names.now in
    let found = ap (λ (n : List ℕ). get_by (λ key. bytes_eq n key.items) names) (sym c.as_slice.ensures) ∙ sym (c.copied.ensures ∙ c.get.ensures.value) in
    let all = ap (at_value names) c.in-Function.is ∙ ap option_list (found ∙ c.in-Some.is) in
    c.in_ok-push.ensures.items ∙ ap (λ l. c.args.taken.now.items ++ l) (sym all)

pub returns-in_default-copied : goal.returns-in_default-copied
returns-in_default-copied c =
    let names = c.args.names.now in
    let found = ap (λ (n : List ℕ). get_by (λ key. bytes_eq n key.items) names) (sym c.as_slice.ensures) ∙ sym (c.copied.ensures ∙ c.get.ensures.value) in
    let all = ap (at_value names) c.in-Function.is ∙ ap option_list (found ∙ c.in_default-copied.is) in
    sym (append-nil c.args.taken.now.items) ∙ ap (λ l. c.args.taken.now.items ++ l) (sym all)
