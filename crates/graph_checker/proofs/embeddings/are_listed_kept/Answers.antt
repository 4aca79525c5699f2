use Rattle.std.proofs.Common.{get_or, refl, sym, ◌∙◌, true≢false, arith, below_more}
use Rattle.graph_checker.proofs.Crossings.{kept_listed}
use Rattle.graph_checker.proofs.embeddings.are_listed_kept.Goals as goal

pub loop-number-init : goal.loop-number-init
loop-number-init c = λ family owner images shows same place less. absurd (omega arith)

pub returns-then-not-is_kept_if : goal.returns-then-not-is_kept_if
returns-then-not-is_kept_if c = λ family owner images shows same listed. (
  λ is. absurd (true≢false (sym is)),
  λ all. sym c.if-not-is_kept_if.true ∙ (c.is_kept_if.ensures family owner images shows same).1 (all (get_or c.args.escaping.nodes.now c.loop-number.number-index 0)),
)

pub loop-number-preserved : goal.loop-number-preserved
loop-number-preserved c = λ family owner images shows same.
    below_more _ _ (c.loop-number.invariant family owner images shows same) ((c.is_kept_if.ensures family owner images shows same).0 c.if-not-is_kept_if.false)

pub returns : goal.returns
returns c = λ family owner images shows same listed. (
  λ _. kept_listed family owner images c.args.caller.types.now c.args.called.now c.args.escaping.marks.now c.args.escaping.nodes.now listed
      (λ place within. c.loop-number.invariant family owner images shows same place (omega arith)),
  λ _. refl,
)
