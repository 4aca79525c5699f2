use Rattle.std.proofs.Common.{◌≡◌, ℕ, ◌+◌, List, length, take, get_or, refl, sym, ap, subst, ◌∙◌, arith}
use Rattle.std.proofs.lemmas.List.{length-take-le}
use Rattle.call_graph.proofs.RowLists.{read_take, take_all}
use Rattle.call_graph.specs.Heads.{first_in, AreHeads, HeadsSoFar}
use Rattle.call_graph.proofs.HeadSteps.{no_heads, head_some, head_none}
use Rattle.call_graph.proofs.first_nodes.heads.Goals.{in-Some+in_ok-push-in-Some, in-None+in_ok-insert-in-None+in_ok-push-in-None}
use Rattle.call_graph.proofs.first_nodes.heads.Goals as goal

pub loop-node-init : goal.loop-node-init
loop-node-init c = no_heads _ _ c.new-firsts.ensures.empty c.new-heads.ensures.items

pub loop-node-preserved : goal.loop-node-preserved
loop-node-preserved c =
    let numbers = c.args.numbers.now in
    let i = c.loop-node.node in
    let number = get_or numbers i 0 in
    let more = read_take numbers i (i + 1) number 0 refl (omega arith) refl in
    let found : c.copied.result ≡ first_in c.loop-node.firsts number = c.copied.ensures ∙ c.get.ensures.value in
    let long : i ≡ length (take i numbers) = sym (length-take-le i numbers (omega arith)) in
    elim c.match-copied.branch [
      | in-Some+in_ok-push-in-Some w ↦
          subst (λ m. HeadsSoFar (take (i + 1) numbers) m c.match-copied.heads.items) (sym w.firsts-is)
          (head_some (take i numbers) (take (i + 1) numbers) number c.loop-node.firsts c.loop-node.firsts c.loop-node.heads.items c.match-copied.heads.items c.loop-node.invariant more
          w.in-Some.first (sym found ∙ w.in-Some.is) (ap (λ v. v.items) w.heads-is ∙ w.in_ok-push-in-Some.ensures.items))
      | in-None+in_ok-insert-in-None+in_ok-push-in-None w ↦
          subst (λ m. HeadsSoFar (take (i + 1) numbers) m c.match-copied.heads.items) (sym w.firsts-is)
          (head_none (take i numbers) (take (i + 1) numbers) number c.loop-node.firsts _ c.loop-node.heads.items c.match-copied.heads.items c.loop-node.invariant more
          (sym found ∙ w.in-None.is) i long w.in_ok-insert-in-None.ensures.updates.0 (ap (λ v. v.items) w.heads-is ∙ w.in_ok-push-in-None.ensures.items))
    ]

pub returns : goal.returns
returns c = subst (λ (l : List ℕ). AreHeads l c.loop-node.heads.items) (take_all c.loop-node.node c.args.numbers.now (omega arith)) c.loop-node.invariant.of
