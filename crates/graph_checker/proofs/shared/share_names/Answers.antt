use Rattle.std.proofs.Common.{sym, ◌∙◌, true≢false}
use Rattle.heap_graph.specs.Frozen.{optional_target}
use Rattle.graph_checker.proofs.SameTargets.{same_target_is, is_same_target, shares, shares_formals, shares_result}
use Rattle.graph_checker.proofs.shared.share_names.Goals as goal

pub returns-then-same_target : goal.returns-then-same_target
returns-then-same_target c = λ family m n one other group.
    let a = c.args.a.now in
    let b = c.args.b.now in (
      λ is. shares family m n a b one other group (c.share_formals.ensures.0 is) (same_target_is (optional_target a.returned) (optional_target b.returned) (sym c.same_target.ensures ∙ c.if-same_target.true)),
      λ both. c.share_formals.ensures.1 (shares_formals family m n a b one other group both),
    )

pub returns-else-same_target : goal.returns-else-same_target
returns-else-same_target c = λ family m n one other group.
    let a = c.args.a.now in
    let b = c.args.b.now in (
      λ is. absurd (true≢false (sym is ∙ c.if-same_target.false)),
      λ both. c.same_target.ensures ∙ is_same_target (optional_target a.returned) (optional_target b.returned) (shares_result family m n a b one other group both),
    )
