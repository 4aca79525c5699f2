use Rattle.std.proofs.Common.{◌∙◌, ◌+◌, ap, sym, subst, refl, drop, arith}
use Rattle.std.proofs.lemmas.Result.{on_ok_weaker}
use Rattle.c_syntax.specs.declared.expr.Parameter.{out-Parameter}
use Rattle.c_syntax.specs.Views.{expr_tree, direct_tree, suffixes_of, parameters_of, arguments_of}
use Rattle.c_syntax.proofs.SyntaxRows.{expr_tree-call}
use Rattle.c_rules.specs.Elaborated.{literals_in, literals_in_arguments, literals_in_direct, literals_in_suffixes, literals_in_parameters}
use Rattle.c_types_state.specs.Lists.{AddsLiterals, suffix_literals}
use Rattle.c_types_state.proofs.LiteralsAdded.{adds-none, no_literals, adds-then, so_far-more, so_far-all, suffixes_more, parameters_more, in_optional, suffix-function, direct-flat, direct-nested, type-name}
use Rattle.c_types_state.proofs.literals.Literals.+expr.Goals.{of_declarator-in-Nested+in_ok-of_declarator, of_declarator-in_default, of_parameters-in-Some+in_ok-of_declarator, of_parameters-in_default}
use Rattle.c_types_state.proofs.literals.Literals.+expr.Goals as goal

pub of_expr-loop-argument-init : goal.of_expr-loop-argument-init
of_expr-loop-argument-init t c = refl

pub of_expr-loop-argument-preserved : goal.of_expr-loop-argument-preserved
of_expr-loop-argument-preserved t c =
    let items = c.as_slice-argument-items.result.now in
    so_far-more (λ left. literals_in_arguments (arguments_of left)) items c.loop-argument.argument-index c.argument-item.result (literals_in (expr_tree c.argument-item.result)) (literals_in_arguments (arguments_of items)) c.of_expr-in-Call.new.self.found.items c.loop-argument.self.found.items c.of_expr-in-loop-argument.new.self.found.items
    (omega arith) c.argument-item.is refl c.loop-argument.invariant (c.in_ok-of_expr-in-Call-2.ensures {u = tt})

pub of_expr-returns-after-loop-argument : goal.of_expr-returns-after-loop-argument
of_expr-returns-after-loop-argument t c =
    let items = c.as_slice-argument-items.result.now in
    let old = c.args.self.now.found.items in
    let now = c.loop-argument.self.found.items in
    let all = so_far-all (λ left. literals_in_arguments (arguments_of left)) items c.loop-argument.argument-index (literals_in_arguments (arguments_of items)) c.of_expr-in-Call.new.self.found.items now (omega arith) refl c.loop-argument.invariant in
    let own = subst (λ is. AddsLiterals (literals_in_arguments (arguments_of is)) c.of_expr-in-Call.new.self.found.items now) c.as_slice-argument-items.ensures.value all in
    let tree = ap literals_in (ap expr_tree c.in-Call.is ∙ expr_tree-call c.in-Call.function c.in-Call.open c.in-Call.arguments) in
    let first = subst (λ e. AddsLiterals (literals_in (expr_tree e)) old c.of_expr-in-Call.new.self.found.items) c.deref-in-Call.ensures (c.in_ok-of_expr-in-Call.ensures {u = tt}) in
    subst (λ ls. AddsLiterals ls old now) (sym tree) (adds-then _ _ old _ now first own)

pub of_expr-returns-in_default : goal.of_expr-returns-in_default
of_expr-returns-in_default t c =
    let old = c.args.self.now.found.items in
    let none = no_literals c.args.tree.now c.in_default.not-Literal c.in_default.not-Parenthesized c.in_default.not-Index c.in_default.not-Call c.in_default.not-Member c.in_default.not-PointerMember c.in_default.not-PostIncrement c.in_default.not-PostDecrement c.in_default.not-Prefix c.in_default.not-SizeofExpr c.in_default.not-SizeofType c.in_default.not-Cast c.in_default.not-Binary c.in_default.not-Conditional c.in_default.not-Assign in
    subst (λ ls. AddsLiterals ls old old) (sym none) (adds-none old)

pub of_type-returns-in-Some : goal.of_type-returns-in-Some
of_type-returns-in-Some t c =
    let old = c.args.self.now.found.items in
    let new = c.of_declarator.new.self.found.items in
    let tree = type-name c.args.type_name.now ∙ ap in_optional c.in-Some.is in
    on_ok_weaker c.of_declarator.result (subst (λ ls. AddsLiterals ls old new) (sym tree)) c.of_declarator.ensures

pub of_declarator-loop-suffix-init : goal.of_declarator-loop-suffix-init
of_declarator-loop-suffix-init t c = refl

pub of_declarator-loop-suffix-preserved : goal.of_declarator-loop-suffix-preserved
of_declarator-loop-suffix-preserved t c =
    let items = c.as_slice-suffix-items.result.now in
    so_far-more (λ left. literals_in_suffixes (suffixes_of left)) items c.loop-suffix.suffix-index c.suffix-item.result (suffix_literals c.suffix-item.result) (literals_in_suffixes (suffixes_of items)) c.match-declarator.self.found.items c.loop-suffix.self.found.items c.of_suffix.new.self.found.items
    (omega arith) c.suffix-item.is (suffixes_more c.suffix-item.result (drop (c.loop-suffix.suffix-index + 1) items)) c.loop-suffix.invariant (c.in_ok-of_suffix.ensures {u = tt})

pub of_declarator-returns : goal.of_declarator-returns
of_declarator-returns t c =
    let declarator = c.args.declarator.now in
    let old = c.args.self.now.found.items in
    let mid = c.match-declarator.self.found.items in
    let now = c.loop-suffix.self.found.items in
    let items = c.as_slice-suffix-items.result.now in
    let first : AddsLiterals (literals_in_direct (direct_tree declarator.direct)) old mid = elim c.match-declarator.branch [
      | of_declarator-in-Nested+in_ok-of_declarator w ↦ rw (direct-nested declarator.direct w.in-Nested.inner w.deref.result.now w.in-Nested.is w.deref.ensures, w.self-is) (w.in_ok-of_declarator.ensures {u = tt})
      | of_declarator-in_default w ↦ rw (direct-flat declarator.direct w.in_default.not-Nested, w.self-is) (adds-none old)
    ] in
    let all = so_far-all (λ left. literals_in_suffixes (suffixes_of left)) items c.loop-suffix.suffix-index (literals_in_suffixes (suffixes_of items)) mid now (omega arith) refl c.loop-suffix.invariant in
    adds-then (literals_in_direct (direct_tree declarator.direct)) (literals_in_suffixes (suffixes_of declarator.suffixes.items)) old mid now first
    (subst (λ is. AddsLiterals (literals_in_suffixes (suffixes_of is)) mid now) c.as_slice-suffix-items.ensures.value all)

pub of_suffix-returns-in-Function : goal.of_suffix-returns-in-Function
of_suffix-returns-in-Function t c =
    let old = c.args.self.now.found.items in
    let new = c.of_parameters.new.self.found.items in
    let all = ap suffix_literals c.in-Function.is ∙ suffix-function c.in-Function.parameters ∙ ap (λ is. literals_in_parameters (parameters_of is)) (sym c.as_slice.ensures.value) in
    on_ok_weaker c.of_parameters.result (subst (λ ls. AddsLiterals ls old new) (sym all)) c.of_parameters.ensures

pub of_parameters-loop-parameter-init : goal.of_parameters-loop-parameter-init
of_parameters-loop-parameter-init t c = refl

pub of_parameters-loop-parameter-preserved : goal.of_parameters-loop-parameter-preserved
of_parameters-loop-parameter-preserved t c =
    let items = c.args.parameters.now in
    let one = c.parameter-item.result in
    let now = c.loop-parameter.self.found.items in
    let more : AddsLiterals (in_optional (out-Parameter one).declarator) now c.match-parameter.self.found.items
    = elim c.match-parameter.branch [
      | of_parameters-in-Some+in_ok-of_declarator w ↦ rw (w.in-Some.is, w.self-is) (w.in_ok-of_declarator.ensures {u = tt})
      | of_parameters-in_default w ↦ rw (w.in_default.is, w.self-is) (adds-none now)
    ] in
    so_far-more (λ left. literals_in_parameters (parameters_of left)) items c.loop-parameter.parameter-index one (in_optional (out-Parameter one).declarator) (literals_in_parameters (parameters_of items)) c.args.self.now.found.items now c.match-parameter.self.found.items
    (omega arith) c.parameter-item.is (parameters_more one (drop (c.loop-parameter.parameter-index + 1) items)) c.loop-parameter.invariant more

pub of_parameters-returns : goal.of_parameters-returns
of_parameters-returns t c =
    so_far-all (λ left. literals_in_parameters (parameters_of left)) c.args.parameters.now c.loop-parameter.parameter-index (literals_in_parameters (parameters_of c.args.parameters.now)) c.args.self.now.found.items c.loop-parameter.self.found.items (omega arith) refl c.loop-parameter.invariant
