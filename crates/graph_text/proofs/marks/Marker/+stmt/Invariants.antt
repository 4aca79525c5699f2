use Rattle.std.proofs.Common.{◌≡◌, ◌+◌, ◌*◌, drop}
use Rattle.c_syntax.proofs.statement.Stmt.TheLaws.{the_size}
use Rattle.c_syntax.specs.Views.{block_of, switch_of}
use Rattle.c_types.specs.Parts.{behind_block}
use Rattle.graph_text.specs.Marks.{marks_in_block, marks_in_switch}
use Rattle.graph_text.specs.Adding.{scope_at}
use Rattle.graph_text.proofs.MarksAdded.{SoFar}
use Rattle.graph_text.proofs.marks.Marker.+stmt.Given as goal

abbrev pub invariant-block-loop-item : goal.invariant-block-loop-item
invariant-block-loop-item l = record {
  scope : behind_block (scope_at l.self) (block_of (drop l.item-index l.items)) ≡ behind_block (scope_at l.fn.self) (block_of l.items);
  marks : SoFar (marks_in_block (scope_at l.fn.self) (block_of l.items)) (marks_in_block (scope_at l.self) (block_of (drop l.item-index l.items))) l.fn.self l.self;
}

abbrev pub invariant-switch-loop-item : goal.invariant-switch-loop-item
invariant-switch-loop-item l = record {
  scope : scope_at l.self ≡ scope_at l.fn.self;
  marks : SoFar (marks_in_switch (scope_at l.fn.self) (switch_of l.items)) (marks_in_switch (scope_at l.fn.self) (switch_of (drop l.item-index l.items))) l.fn.self l.self;
}

-- the depths of the trees that a call goes down; where it goes on with the same tree, it comes first
abbrev pub decreases-stmt : goal.decreases-stmt
decreases-stmt l = 8 * goal.size-stmt l

abbrev pub decreases-inner_block : goal.decreases-inner_block
decreases-inner_block l = 8 * goal.size-inner_block l + 3

abbrev pub decreases-for_stmt : goal.decreases-for_stmt
decreases-for_stmt l = 8 * the_size l.body.now + 1

abbrev pub decreases-block : goal.decreases-block
decreases-block l = 8 * goal.size-block l + 2

abbrev pub decreases-item : goal.decreases-item
decreases-item l = 8 * goal.size-item l + 1

abbrev pub decreases-switch : goal.decreases-switch
decreases-switch l = 8 * goal.size-switch l + 2

abbrev pub decreases-part : goal.decreases-part
decreases-part l = 8 * goal.size-part l + 1
