use Rattle.std.proofs.Common.{◌≡◌, ℕ, ◌-◌, ◌≤◌, length, Some, None, refl, sym, ap, subst, ◌∙◌}
use Rattle.std.specs.Prelude.{slice_get}
use Rattle.call_graph.proofs.Cuts.{not_cut, cut_further}
use Rattle.call_graph.proofs.Lasts.{pop_last, last_same, last_none}
use Rattle.call_graph.proofs.components.Search.merge.Goals as goal

pub loop-start-init : goal.loop-start-init
loop-start-init c = record { cut = not_cut c.args.place c.args.self.now.starts.items; marks = refl; members = refl; waiting = refl; count = refl }

pub loop-start-preserved : goal.loop-start-preserved
loop-start-preserved c =
    let starts = c.loop-start.self.starts in
    let is : slice_get starts.items (length starts.items - 1) ≡ Some c.in-Some.start = ap (λ l. slice_get l (length l - 1)) (sym c.deref.ensures.value) ∙ (sym c.last.ensures.value ∙ (sym c.copied.ensures ∙ c.in-Some.is)) in
    record {
      cut = cut_further c.args.place c.args.self.now.starts.items starts.items c.pop.new.self.items c.in-Some.start c.loop-start.invariant.cut
          (pop_last starts.items c.pop.new.self.items starts.len c.in-Some.start starts.ok.0 c.pop.ensures.rest is) c.if-start-place.false;
      marks = c.loop-start.invariant.marks;
      members = c.loop-start.invariant.members;
      waiting = c.loop-start.invariant.waiting;
      count = c.loop-start.invariant.count;
    }

pub returns-then-start-place : goal.returns-then-start-place
returns-then-start-place c =
    let starts = c.loop-start.self.starts in
    let is : slice_get starts.items (length starts.items - 1) ≡ Some c.in-Some.start = ap (λ l. slice_get l (length l - 1)) (sym c.deref.ensures.value) ∙ (sym c.last.ensures.value ∙ (sym c.copied.ensures ∙ c.in-Some.is)) in
    record {
      starts = c.loop-start.invariant.cut;
      last = λ start last. subst (λ (s : ℕ). s ≤ c.args.place) (sym (last_same starts.items start c.in-Some.start last is)) c.if-start-place.true;
      marks = c.loop-start.invariant.marks;
      members = c.loop-start.invariant.members;
      waiting = c.loop-start.invariant.waiting;
      count = c.loop-start.invariant.count;
    }

pub returns-in_default : goal.returns-in_default
returns-in_default c =
    let starts = c.loop-start.self.starts in
    let is : slice_get starts.items (length starts.items - 1) ≡ None = ap (λ l. slice_get l (length l - 1)) (sym c.deref.ensures.value) ∙ (sym c.last.ensures.value ∙ (sym c.copied.ensures ∙ c.in_default.is)) in
    record {
      starts = c.loop-start.invariant.cut;
      last = λ start last. absurd (last_none starts.items start last is);
      marks = c.loop-start.invariant.marks;
      members = c.loop-start.invariant.members;
      waiting = c.loop-start.invariant.waiting;
      count = c.loop-start.invariant.count;
    }
