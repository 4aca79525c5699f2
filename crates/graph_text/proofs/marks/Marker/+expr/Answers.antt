use Rattle.std.proofs.Common.{◌≡◌, ◌∙◌, ◌+◌, ◌++◌, ap, sym, subst, drop, arith}
use Rattle.std.proofs.lemmas.List.{drop_all}
use Rattle.std.specs.Prelude.{slice_get}
use Rattle.c_syntax.specs.declared.expr.Parameter.{out-Parameter}
use Rattle.c_syntax.specs.Views.{expr_tree, arguments_of, declarator_tree, direct_tree, suffixes_of, parameters_of}
use Rattle.c_syntax.proofs.SyntaxRows.{expr_tree-call}
use Rattle.graph_text.specs.Adding.{scope_at, Adds, call_marks, suffix_marks}
use Rattle.graph_text.specs.Marks.{argument_mark, marks_in, marks_in_declarator, marks_in_direct, marks_in_suffixes, marks_in_parameters}
use Rattle.graph_text.proofs.Found.{got}
use Rattle.graph_text.proofs.MarksAdded.{adds-none, adds-then, adds-of, at-here, so_far-more, so_far-all, arguments-more, in_optional, parameters-more, suffix-function, direct-flat, direct-nested, type-name, no_marks}
use Rattle.graph_text.proofs.marks.Marker.+expr.Goals.{declarator-in-Nested+in_ok-declarator, declarator-in_default, parameters-in-Some+in_ok-declarator, parameters-in_default}
use Rattle.graph_text.proofs.marks.Marker.+expr.Goals as goal

pub arguments-loop-number-preserved : goal.arguments-loop-number-preserved
arguments-loop-number-preserved t c =
    let scope = scope_at c.args.self.now in
    let pointers = c.args.pointers.now in
    let items = c.args.arguments.now in
    let here = c.loop-number.number in
    let item = c.index-arguments-number.result in
    let now = c.loop-number.self in
    let same = c.loop-number.invariant.scope in
    let same' : scope_at c.argument.new.self ≡ scope = (c.in_ok-argument.ensures {u = tt}).scope ∙ same in
    let found : c.copied.result ≡ slice_get pointers here = c.copied.ensures ∙ sym (got pointers here c.get.result c.get.ensures.lookup) in
    let mark = argument_mark c.args.is_done c.copied.result in
    let value = marks_in scope c.args.is_done (expr_tree item) in
    let passed : Adds value c.argument.new.self c.expr.new.self
    = subst (λ scope. Adds (marks_in scope c.args.is_done (expr_tree item)) c.argument.new.self c.expr.new.self) same' (c.in_ok-expr.ensures {u = tt}).marks in
    record {
      scope = (c.in_ok-expr.ensures {u = tt}).scope ∙ same';
      marks = so_far-more _ _ (mark ++ value) _ c.args.self.now now c.expr.new.self (arguments-more scope c.args.is_done pointers items here item c.copied.result (omega arith) c.index-arguments-number.is found) c.loop-number.invariant.marks
          (adds-then mark value now c.argument.new.self c.expr.new.self (c.in_ok-argument.ensures {u = tt}).marks passed);
    }

pub declarator-returns-clause-marks : goal.declarator-returns-clause-marks
declarator-returns-clause-marks t c =
    let scope = scope_at c.args.self.now in
    let declarator = c.args.tree.now in
    let old = c.args.self.now in
    let mid = c.match-tree.self in
    let now = c.loop-suffix.self in
    let items = c.as_slice-suffix-items.result.now in
    let first : Adds (marks_in_direct scope (direct_tree declarator.direct)) old mid = elim c.match-tree.branch [
      | declarator-in-Nested+in_ok-declarator w ↦ rw (direct-nested scope declarator.direct w.in-Nested.inner w.deref.result.now w.in-Nested.is w.deref.ensures, w.self-is) (w.in_ok-declarator.ensures {u = tt}).marks
      | declarator-in_default w ↦ rw (direct-flat scope declarator.direct w.in_default.not-Nested, w.self-is) (adds-none old)
    ] in
    let kept : scope_at mid ≡ scope = elim c.match-tree.branch [
      | declarator-in-Nested+in_ok-declarator w ↦ ap scope_at w.self-is ∙ (w.in_ok-declarator.ensures {u = tt}).scope
      | declarator-in_default w ↦ ap scope_at w.self-is
    ] in
    let all : Adds (marks_in_suffixes (scope_at mid) (suffixes_of items)) mid now
    = so_far-all _ (marks_in_suffixes (scope_at mid) (suffixes_of (drop c.loop-suffix.suffix-index items))) mid now (ap (λ items. marks_in_suffixes (scope_at mid) (suffixes_of items)) (drop_all c.loop-suffix.suffix-index items c.loop-suffix-test.false)) c.loop-suffix.invariant.marks in
    let own : Adds (marks_in_suffixes scope (suffixes_of declarator.suffixes.items)) mid now
    = subst (λ ms. Adds ms mid now) (λ i. marks_in_suffixes (kept i) (suffixes_of (c.as_slice-suffix-items.ensures.value i))) all in
    adds-then (marks_in_direct scope (direct_tree declarator.direct)) (marks_in_suffixes scope (suffixes_of declarator.suffixes.items)) old mid now first own

pub expr-returns-in-Call-clause-marks : goal.expr-returns-in-Call-clause-marks
expr-returns-in-Call-clause-marks t c =
    let scope = scope_at c.args.self.now in
    let function = c.in-Call.function in
    let same : call_marks scope c.args.is_done (expr_tree c.deref-in-Call.result.now) (arguments_of c.as_slice.result.now) ≡ call_marks scope c.args.is_done (expr_tree function.value) (arguments_of c.in-Call.arguments.items)
    = λ i. call_marks scope c.args.is_done (expr_tree (c.deref-in-Call.ensures i)) (arguments_of (c.as_slice.ensures.value i)) in
    let tree : marks_in scope c.args.is_done (expr_tree c.args.tree.now) ≡ call_marks scope c.args.is_done (expr_tree function.value) (arguments_of c.in-Call.arguments.items)
    = ap (marks_in scope c.args.is_done) (ap expr_tree c.in-Call.is ∙ expr_tree-call function c.in-Call.open c.in-Call.arguments) in
    adds-of _ _ c.args.self.now c.call.new.self c.call.result (same ∙ sym tree) c.call.ensures.marks

pub expr-returns-in_default-clause-marks : goal.expr-returns-in_default-clause-marks
expr-returns-in_default-clause-marks t c =
    let none = no_marks (scope_at c.args.self.now) c.args.is_done c.args.tree.now c.in_default.not-Parenthesized c.in_default.not-Index c.in_default.not-Call c.in_default.not-Member c.in_default.not-PointerMember c.in_default.not-PostIncrement c.in_default.not-PostDecrement c.in_default.not-Prefix c.in_default.not-SizeofExpr c.in_default.not-SizeofType c.in_default.not-Cast c.in_default.not-Binary c.in_default.not-Conditional c.in_default.not-Assign in
    subst (λ ms. Adds ms c.args.self.now c.args.self.now) (sym none) (adds-none c.args.self.now)

pub parameters-loop-parameter-preserved : goal.parameters-loop-parameter-preserved
parameters-loop-parameter-preserved t c =
    let scope = scope_at c.args.self.now in
    let items = c.args.trees.now in
    let one = c.parameter-item.result in
    let here = c.loop-parameter.parameter-index in
    let now = c.loop-parameter.self in
    let same = c.loop-parameter.invariant.scope in
    let more : Adds (in_optional scope (out-Parameter one).declarator) now c.match-parameter.self = elim c.match-parameter.branch [
      | parameters-in-Some+in_ok-declarator w ↦ rw (w.in-Some.is, w.self-is) (subst (λ scope. Adds (marks_in_declarator scope (declarator_tree w.in-Some.declarator)) now w.declarator.new.self) same (w.in_ok-declarator.ensures {u = tt}).marks)
      | parameters-in_default w ↦ rw (w.in_default.is, w.self-is) (adds-none now)
    ] in
    let kept : scope_at c.match-parameter.self ≡ scope_at now = elim c.match-parameter.branch [
      | parameters-in-Some+in_ok-declarator w ↦ ap scope_at w.self-is ∙ (w.in_ok-declarator.ensures {u = tt}).scope
      | parameters-in_default w ↦ ap scope_at w.self-is
    ] in
    record {
      scope = kept ∙ same;
      marks = so_far-more _ _ (in_optional scope (out-Parameter one).declarator) _ c.args.self.now now c.match-parameter.self
          (ap (λ items. marks_in_parameters scope (parameters_of items)) (at-here items here one (omega arith) c.parameter-item.is) ∙ parameters-more scope one (drop (here + 1) items)) c.loop-parameter.invariant.marks more;
    }

pub suffix-returns-in-Function-clause-marks : goal.suffix-returns-in-Function-clause-marks
suffix-returns-in-Function-clause-marks t c =
    let scope = scope_at c.args.self.now in
    let all = ap (suffix_marks scope) c.in-Function.is ∙ suffix-function scope c.in-Function.parameters ∙ ap (λ items. marks_in_parameters scope (parameters_of items)) (sym c.as_slice.ensures.value) in
    adds-of _ _ c.args.self.now c.parameters.new.self c.parameters.result (sym all) c.parameters.ensures.marks

pub type_name-returns-in-Some-clause-marks : goal.type_name-returns-in-Some-clause-marks
type_name-returns-in-Some-clause-marks t c =
    let scope = scope_at c.args.self.now in
    let tree = type-name scope c.args.tree.now ∙ ap (in_optional scope) c.in-Some.is in
    adds-of _ _ c.args.self.now c.declarator.new.self c.declarator.result (sym tree) c.declarator.ensures.marks
