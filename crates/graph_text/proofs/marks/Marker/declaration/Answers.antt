use Rattle.std.proofs.Common.{◌≡◌, ◌∙◌, ◌+◌, ◌++◌, drop, map, refl, sym, ap, subst, arith}
use Rattle.std.proofs.lemmas.List.{drop_all}
use Rattle.c_syntax.specs.Views.{words_tree, init_declarator_tree}
use Rattle.c_rules.specs.Expressions.{words_type}
use Rattle.c_rules.specs.Statements.{declare_local, declare_locals}
use Rattle.graph_text.specs.Adding.{scope_at, Adds}
use Rattle.graph_text.specs.Marks.{marks_in_local, marks_in_locals}
use Rattle.graph_text.proofs.MarksAdded.{at-here, so_far-more, so_far-all}
use Rattle.graph_text.proofs.ScopesWithin.{words-kept}
use Rattle.graph_text.proofs.marks.Marker.declaration.Goals as goal

pub loop-declarator-init : goal.loop-declarator-init
loop-declarator-init c = record { same = refl; scope = refl; marks = refl }

pub loop-declarator-preserved : goal.loop-declarator-preserved
loop-declarator-preserved c =
    let words = words_tree c.args.tree.now.simple in
    let base = (words_type (scope_at c.args.self.now) words).known in
    let items = c.as_slice-declarator-items.result.now in
    let here = c.loop-declarator.declarator-index in
    let rest = drop (here + 1) items in
    let item = c.declarator-item.result in
    let one = init_declarator_tree item in
    let now = c.loop-declarator.self in
    let new = c.local.new.self in
    let far = c.loop-declarator.invariant in
    let own = c.in_ok-local.ensures {u = tt} in
    let behind : scope_at new ≡ (declare_local words.place base one (scope_at now)).scope = own.scope ∙ (λ i. (declare_local words.place (far.same i).known one (scope_at now)).scope) in
    let split = at-here items here item (omega arith) c.declarator-item.is in
    record {
      same = ap (λ scope. words_type scope words) behind ∙ words-kept words words.place base one (scope_at now) ∙ far.same;
      scope =
          ap (λ scope. (declare_locals words.place base (map init_declarator_tree rest) scope).scope) behind
          ∙ sym (ap (λ items. (declare_locals words.place base (map init_declarator_tree items) (scope_at now)).scope) split)
          ∙ far.scope;
      marks = so_far-more _ _ (marks_in_local (scope_at now) words.place base one) _ c.args.self.now now new
          (ap (λ items. marks_in_locals (scope_at now) words.place base (map init_declarator_tree items)) split
          ∙ ap (λ scope. marks_in_local (scope_at now) words.place base one ++ marks_in_locals scope words.place base (map init_declarator_tree rest)) (sym behind))
          far.marks (subst (λ ms. Adds ms now new) (λ i. marks_in_local (scope_at now) words.place (far.same i).known one) own.marks);
    }

pub returns-clause-scope : goal.returns-clause-scope
returns-clause-scope c =
    let words = words_tree c.args.tree.now.simple in
    let base = (words_type (scope_at c.args.self.now) words).known in
    let items = c.as_slice-declarator-items.result.now in
    let here = c.loop-declarator.declarator-index in
    let now = c.loop-declarator.self in
    sym (ap (λ items. (declare_locals words.place base (map init_declarator_tree items) (scope_at now)).scope) (drop_all here items c.loop-declarator-test.false)) ∙ c.loop-declarator.invariant.scope
    ∙ ap (λ items. (declare_locals words.place base (map init_declarator_tree items) (scope_at c.args.self.now)).scope) c.as_slice-declarator-items.ensures.value

pub returns-clause-marks : goal.returns-clause-marks
returns-clause-marks c =
    let words = words_tree c.args.tree.now.simple in
    let scope = scope_at c.args.self.now in
    let base = (words_type scope words).known in
    let items = c.as_slice-declarator-items.result.now in
    let here = c.loop-declarator.declarator-index in
    let now = c.loop-declarator.self in
    let all : Adds (marks_in_locals scope words.place base (map init_declarator_tree items)) c.args.self.now now
    = so_far-all _ (marks_in_locals (scope_at now) words.place base (map init_declarator_tree (drop here items))) c.args.self.now now
    (ap (λ items. marks_in_locals (scope_at now) words.place base (map init_declarator_tree items)) (drop_all here items c.loop-declarator-test.false)) c.loop-declarator.invariant.marks in
    subst (λ items. Adds (marks_in_locals scope words.place base (map init_declarator_tree items)) c.args.self.now now) c.as_slice-declarator-items.ensures.value all
