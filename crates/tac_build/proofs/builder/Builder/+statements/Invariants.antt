use Rattle.std.proofs.Common.{◌≡◌, drop}
use Rattle.tac_build.proofs.SoFar.{BlockSoFar, ItemsSoFar}
use Rattle.tac_build.proofs.builder.Builder.+statements.Given as goal

abbrev pub invariant-block-loop-item : goal.invariant-block-loop-item
invariant-block-loop-item l = BlockSoFar l.source l.addressed l.initial.scope.items l.scope.items l.ways l.items (drop l.item-index l.items) l.initial.self l.self

abbrev pub invariant-switch_items-loop-item : goal.invariant-switch_items-loop-item
invariant-switch_items-loop-item l =
    (l.scope.items ≡ l.initial.scope.items) × ItemsSoFar l.source l.addressed l.initial.scope.items l.ways l.items (drop l.item-index l.items) l.cases.items l.default l.initial.self l.self
