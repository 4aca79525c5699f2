use Rattle.std.proofs.Common.{◌≡◌, ◌==◌, ◌++◌, ◌∷◌, [], Some, None, unwrap_or, sym, ap, ◌∙◌}
use Rattle.std.specs.Prelude.{is_none}
use Rattle.call_graph.specs.ClassLists.{first_at}
use Rattle.call_graph.proofs.LinkSteps.{nothing_new, something_new}
use Rattle.call_graph.proofs.class_table.Linked.add.Goals as goal

pub returns-in_ok-push-in-Some : goal.returns-in_ok-push-in-Some
returns-in_ok-push-in-Some c =
    let old = c.args.self.now in
    let own = c.args.own in
    let number = c.args.number in
    let found : first_at old.firsts own ≡ Some c.in-Some.first = sym (c.copied.ensures ∙ c.get.ensures.value) ∙ c.in-Some.is in
    record {
      firsts = λ other. nothing_new (own.0 == other.0) (is_none (first_at old.firsts own)) (first_at old.firsts other) (Some number) (ap is_none found);
      links' = c.in_ok-push-in-Some.ensures.items ∙ ap (λ o. old.links.items ++ (unwrap_or o number, number) ∷ []) (sym found);
    }

pub returns-in_ok-push-in-None : goal.returns-in_ok-push-in-None
returns-in_ok-push-in-None c =
    let old = c.args.self.now in
    let own = c.args.own in
    let number = c.args.number in
    let found : first_at old.firsts own ≡ None = sym (c.copied.ensures ∙ c.get.ensures.value) ∙ c.in-None.is in
    record {
      firsts = λ other.
          c.in_ok-insert-in-None.ensures.updates.0 other ∙ something_new (own.0 == other.0) (is_none (first_at old.firsts own)) (first_at old.firsts other) (Some number) (ap is_none found);
      links' = c.in_ok-push-in-None.ensures.items ∙ ap (λ o. old.links.items ++ (unwrap_or o number, number) ∷ []) (sym found);
    }
