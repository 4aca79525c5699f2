use Rattle.std.proofs.Common.{ℕ, ◌+◌, List, take, get_or, refl, sym, ap, subst, ◌∙◌, arith}
use Rattle.std.specs.Prelude.{slice_get}
use Rattle.call_graph.proofs.RowLists.{read_take, take_all}
use Rattle.call_graph.specs.CallLists.{AddsClasses}
use Rattle.call_graph.proofs.ClassSteps.{no_links, class_some, class_none, marked_or, unmarked_or}
use Rattle.call_graph.proofs.graph.add_classes.Goals.{then-is_marked+in_ok-push+in_ok-push-2, else-is_marked}
use Rattle.call_graph.proofs.graph.add_classes.Goals as goal

pub loop-link-init : goal.loop-link-init
loop-link-init c = no_links c.args.is_called.now _

pub loop-link-preserved : goal.loop-link-preserved
loop-link-preserved c =
    let links = c.args.links.now in
    let is_called = c.args.is_called.now in
    let i = c.loop-link.link-index in
    let link = get_or links i (0, 0) in
    let more = read_take links i (i + 1) link (0, 0) refl c.loop-link-test.true refl in
    elim c.if-is_marked.branch [
      | then-is_marked+in_ok-push+in_ok-push-2 w ↦
          class_some is_called (take i links) (take (i + 1) links) link c.args.edges.now.items c.loop-link.edges.items _ c.loop-link.invariant more w.push.new.self.items
          (marked_or (slice_get is_called link.0) (sym c.is_marked.ensures ∙ w.if-is_marked.true)) w.in_ok-push.ensures.items (ap (λ v. v.items) w.edges-is ∙ w.in_ok-push-2.ensures.items)
      | else-is_marked w ↦
          class_none is_called (take i links) (take (i + 1) links) link c.args.edges.now.items c.loop-link.edges.items _ c.loop-link.invariant more
          (unmarked_or (slice_get is_called link.0) (sym c.is_marked.ensures ∙ w.if-is_marked.false)) (ap (λ v. v.items) w.edges-is)
    ]

pub returns : goal.returns
returns c = subst (λ (l : List (ℕ × ℕ)). AddsClasses c.args.is_called.now l c.args.edges.now.items c.loop-link.edges.items) (take_all c.loop-link.link-index c.args.links.now (omega arith)) c.loop-link.invariant
