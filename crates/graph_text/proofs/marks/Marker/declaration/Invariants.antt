use Rattle.std.proofs.Common.{◌≡◌, drop, map}
use Rattle.c_syntax.specs.Views.{words_tree, init_declarator_tree}
use Rattle.c_rules.specs.Expressions.{words_type}
use Rattle.c_rules.specs.Statements.{declare_locals}
use Rattle.graph_text.specs.Marks.{marks_in_locals}
use Rattle.graph_text.specs.Adding.{scope_at}
use Rattle.graph_text.proofs.MarksAdded.{SoFar}
use Rattle.graph_text.proofs.marks.Marker.declaration.Given as goal

abbrev pub invariant-loop-declarator : goal.invariant-loop-declarator
invariant-loop-declarator l =
    let words = words_tree l.fn.tree.simple in
    let base = (words_type (scope_at l.fn.self) words).known in
    record {
      same : words_type (scope_at l.self) words ≡ words_type (scope_at l.fn.self) words;
      scope : (declare_locals words.place base (map init_declarator_tree (drop l.declarator-index l.declarator-items)) (scope_at l.self)).scope
          ≡ (declare_locals words.place base (map init_declarator_tree l.declarator-items) (scope_at l.fn.self)).scope;
      marks : SoFar (marks_in_locals (scope_at l.fn.self) words.place base (map init_declarator_tree l.declarator-items)) (marks_in_locals (scope_at l.self) words.place base (map init_declarator_tree (drop l.declarator-index l.declarator-items))) l.fn.self l.self;
    }
