use Rattle.std.proofs.Common.{refl, sym, ◌∙◌, true≢false, arith, below_more}
use Rattle.graph_checker.proofs.Crossings.{node_within}
use Rattle.graph_checker.proofs.embeddings.are_kept.Goals as goal

pub loop-number-init : goal.loop-number-init
loop-number-init c = λ family owner images shows same number less. absurd (omega arith)

pub returns-then-not-is_kept_if : goal.returns-then-not-is_kept_if
returns-then-not-is_kept_if c = λ family owner images shows same.
    (λ is. absurd (true≢false (sym is)), λ all. sym c.if-not-is_kept_if.true ∙ (c.is_kept_if.ensures family owner images shows same).1 (all c.loop-number.number))

pub loop-number-preserved : goal.loop-number-preserved
loop-number-preserved c = λ family owner images shows same.
    below_more _ _ (c.loop-number.invariant family owner images shows same) ((c.is_kept_if.ensures family owner images shows same).0 c.if-not-is_kept_if.false)

pub returns : goal.returns
returns c = λ family owner images shows same. (
  λ _ number node is marked.
      let within = node_within c.args.called.now.nodes.items number node is in
      c.loop-number.invariant family owner images shows same number (omega arith) node is marked,
  λ _. refl,
)
