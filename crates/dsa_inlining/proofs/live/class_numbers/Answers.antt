use Rattle.std.proofs.Common.{ℕ, ◌+◌, List, take, get_or, refl, ap, subst, arith}
use Rattle.dsa_inlining.specs.Live.{TellClasses}
use Rattle.call_graph.proofs.RowLists.{read_take, take_all}
use Rattle.dsa_inlining.proofs.LiveClasses.{link_set, link_past}
use Rattle.dsa_inlining.proofs.live.class_numbers.Goals.{then-link-count, else-link-count}
use Rattle.dsa_inlining.proofs.live.class_numbers.Goals as goal

pub loop-link-init : goal.loop-link-init
loop-link-init c = c.in_ok-classes.ensures

pub loop-link-preserved : goal.loop-link-preserved
loop-link-preserved c =
    let links = c.args.links.now in
    let i = c.loop-link.link-index in
    let more = read_take links i (i + 1) (get_or links i (0, 0)) (0, 0) refl (omega arith) refl in
    elim c.if-link-count.branch [
      | then-link-count w ↦ link_set c.args.count (take i links) (get_or links i (0, 0)) _ c.loop-link.classes.items _ c.loop-link.invariant more w.if-link-count.true (ap (λ v. v.items) w.classes-is)
      | else-link-count w ↦ link_past c.args.count (take i links) (get_or links i (0, 0)) _ c.loop-link.classes.items _ c.loop-link.invariant more w.if-link-count.false (ap (λ v. v.items) w.classes-is)
    ]

pub returns : goal.returns
returns c = subst (λ (l : List (ℕ × ℕ)). TellClasses c.args.count l c.loop-link.classes.items) (take_all c.loop-link.link-index c.args.links.now (omega arith)) c.loop-link.invariant
