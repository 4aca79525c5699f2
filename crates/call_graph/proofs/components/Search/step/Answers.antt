use Rattle.std.proofs.Common.{◌≡◌, ℕ, ◌-◌, ◌<◌, length, sym, ap, ◌∙◌}
use Rattle.std.specs.Prelude.{slice_get, map, vec_items}
use Rattle.std.proofs.lemmas.Result.{on_ok_weaker}
use Rattle.call_graph.specs.Searches.{Waits}
use Rattle.call_graph.proofs.Lasts.{last_of, none_there}
use Rattle.call_graph.proofs.SearchCloses.{all_below}
use Rattle.call_graph.proofs.SearchAdvances.{closes_advance}
use Rattle.call_graph.proofs.components.Search.step.Goals.{in_default-via-in-Some+else-place-start, in_default-via-in_default}
use Rattle.call_graph.proofs.components.Search.step.Goals as goal

pub returns-in_default : goal.returns-in_default
returns-in_default c =
    let old = c.args.self.now in
    let waiting = old.waiting.items in
    let looked : slice_get waiting (length waiting - 1) ≡ c.copied.result = ap (λ l. slice_get l (length l - 1)) (sym c.deref.ensures.value) ∙ (sym c.last.ensures.value ∙ sym c.copied.ensures) in
    let none : (j z : ℕ) → Waits waiting j z → j < c.args.start = elim c.in_default.branch [
      | in_default-via-in-Some+else-place-start w ↦
          all_below waiting c.args.start w.in-Some.place w.in-Some.node c.requires.kept.sorted (last_of waiting (w.in-Some.place, w.in-Some.node) (looked ∙ w.in-Some.is)) w.if-place-start.false
      | in_default-via-in_default w ↦ (λ j z wait. absurd (none_there waiting wait.0 (j, z) (looked ∙ w.in_default.is) wait.1))
    ] in
    on_ok_weaker c.close.result (closes_advance (map vec_items c.args.edges.now) old c.requires.kept c.args.start c.requires.start c.close.new.self none) c.close.ensures
