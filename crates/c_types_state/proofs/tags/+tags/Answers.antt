use Rattle.std.proofs.Common.{◌≡◌, ◌++◌, refl, sym, ap, ◌∙◌, arith, List}
use Rattle.std.proofs.lemmas.Result.{on_ok_weaker}
use Rattle.c_syntax.specs.declared.expr.TypeName.{out-TypeName}
use Rattle.c_syntax.specs.Trees.{NameTree}
use Rattle.c_syntax.specs.Views.{expr_tree, type_tree, optional_of, declarator_tree, words_tree, direct_tree, suffixes_of, arguments_of}
use Rattle.c_syntax.proofs.SyntaxRows.{expr_tree-call}
use Rattle.c_rules.specs.Programs.{tag_of, tags_in, tags_in_arguments, tags_in_type, tags_in_optional, tags_in_declarator, tags_in_direct, tags_in_suffixes}
use Rattle.c_types_state.specs.Lists.{with_tags, suffix_tags}
use Rattle.c_types_state.proofs.Listing.{tags-then, two_parts, three_parts, left-more, left-end, of_arguments, arguments-more, of_suffixes, suffixes-more, type_tree-out, leaf, direct-flat, direct-nested}
use Rattle.c_types_state.proofs.tags.+tags.Goals.{tags_in_declarator-in-Nested+in_ok-tags_in_declarator, tags_in_declarator-in_default}
use Rattle.c_types_state.proofs.tags.+tags.Goals as goal

pub tags_in-returns-in_ok-tags_in-in-Index : goal.tags_in-returns-in_ok-tags_in-in-Index
tags_in-returns-in_ok-tags_in-in-Index t c =
    on_ok_weaker c.tags_in-in-Index-2.result
    (two_parts (tags_in (expr_tree c.args.tree.now)) (tags_in (expr_tree c.deref-in-Index.result.now)) (tags_in (expr_tree c.deref-in-Index-2.result.now)) _ _ _
    (ap (λ x. tags_in (expr_tree x)) c.in-Index.is ∙ (λ i. tags_in (expr_tree (sym c.deref-in-Index.ensures i)) ++ tags_in (expr_tree (sym c.deref-in-Index-2.ensures i))))
    c.in_ok-tags_in-in-Index.ensures)
    c.tags_in-in-Index-2.ensures

pub tags_in-returns-in_ok-tags_in_type-in-Cast : goal.tags_in-returns-in_ok-tags_in_type-in-Cast
tags_in-returns-in_ok-tags_in_type-in-Cast t c =
    on_ok_weaker c.tags_in-in-Cast.result
    (two_parts (tags_in (expr_tree c.args.tree.now)) (tags_in_type (type_tree c.deref-in-Cast.result.now)) (tags_in (expr_tree c.deref-in-Cast-2.result.now)) _ _ _
    (ap (λ x. tags_in (expr_tree x)) c.in-Cast.is ∙ (λ i. tags_in_type (type_tree (sym c.deref-in-Cast.ensures i)) ++ tags_in (expr_tree (sym c.deref-in-Cast-2.ensures i))))
    c.in_ok-tags_in_type-in-Cast.ensures)
    c.tags_in-in-Cast.ensures

pub tags_in-returns-in_ok-tags_in-in-Binary : goal.tags_in-returns-in_ok-tags_in-in-Binary
tags_in-returns-in_ok-tags_in-in-Binary t c =
    on_ok_weaker c.tags_in-in-Binary-2.result
    (two_parts (tags_in (expr_tree c.args.tree.now)) (tags_in (expr_tree c.deref-in-Binary.result.now)) (tags_in (expr_tree c.deref-in-Binary-2.result.now)) _ _ _
    (ap (λ x. tags_in (expr_tree x)) c.in-Binary.is ∙ (λ i. tags_in (expr_tree (sym c.deref-in-Binary.ensures i)) ++ tags_in (expr_tree (sym c.deref-in-Binary-2.ensures i))))
    c.in_ok-tags_in-in-Binary.ensures)
    c.tags_in-in-Binary-2.ensures

pub tags_in-returns-in_ok-tags_in-in-Conditional-2 : goal.tags_in-returns-in_ok-tags_in-in-Conditional-2
tags_in-returns-in_ok-tags_in-in-Conditional-2 t c =
    on_ok_weaker c.tags_in-in-Conditional-3.result
    (three_parts (tags_in (expr_tree c.args.tree.now)) (tags_in (expr_tree c.deref-in-Conditional.result.now)) (tags_in (expr_tree c.deref-in-Conditional-2.result.now)) (tags_in (expr_tree c.deref-in-Conditional-3.result.now)) _ _ _ _
    (ap (λ x. tags_in (expr_tree x)) c.in-Conditional.is ∙ (λ i. tags_in (expr_tree (sym c.deref-in-Conditional.ensures i)) ++ tags_in (expr_tree (sym c.deref-in-Conditional-2.ensures i)) ++ tags_in (expr_tree (sym c.deref-in-Conditional-3.ensures i))))
    c.in_ok-tags_in-in-Conditional.ensures c.in_ok-tags_in-in-Conditional-2.ensures)
    c.tags_in-in-Conditional-3.ensures

pub tags_in-returns-in_ok-tags_in-in-Assign : goal.tags_in-returns-in_ok-tags_in-in-Assign
tags_in-returns-in_ok-tags_in-in-Assign t c =
    on_ok_weaker c.tags_in-in-Assign-2.result
    (two_parts (tags_in (expr_tree c.args.tree.now)) (tags_in (expr_tree c.deref-in-Assign.result.now)) (tags_in (expr_tree c.deref-in-Assign-2.result.now)) _ _ _
    (ap (λ x. tags_in (expr_tree x)) c.in-Assign.is ∙ (λ i. tags_in (expr_tree (sym c.deref-in-Assign.ensures i)) ++ tags_in (expr_tree (sym c.deref-in-Assign-2.ensures i))))
    c.in_ok-tags_in-in-Assign.ensures)
    c.tags_in-in-Assign-2.ensures

pub tags_in-returns-in_default : goal.tags_in-returns-in_default
tags_in-returns-in_default t c =
    ap (λ (tags : List NameTree). with_tags tags c.args.checker.now) (sym (leaf c.args.tree.now c.in_default.not-Parenthesized c.in_default.not-Index c.in_default.not-Call c.in_default.not-Member c.in_default.not-PointerMember c.in_default.not-PostIncrement c.in_default.not-PostDecrement c.in_default.not-Prefix c.in_default.not-SizeofExpr c.in_default.not-SizeofType c.in_default.not-Cast c.in_default.not-Binary c.in_default.not-Conditional c.in_default.not-Assign))

pub tags_in-loop-argument-preserved : goal.tags_in-loop-argument-preserved
tags_in-loop-argument-preserved t c =
    left-more of_arguments (λ a. with_tags (tags_in (expr_tree a))) arguments-more c.as_slice-argument-items.result.now c.loop-argument.argument-index c.argument-item.result (omega arith) (sym c.argument-item.is) c.loop-argument.invariant c.in_ok-tags_in-in-Call-2.ensures

pub tags_in-returns-after-loop-argument : goal.tags_in-returns-after-loop-argument
tags_in-returns-after-loop-argument t c =
    two_parts (tags_in (expr_tree c.args.tree.now)) (tags_in (expr_tree c.deref-in-Call.result.now)) (tags_in_arguments (arguments_of c.as_slice-argument-items.result.now)) _ _ _
    (ap (λ x. tags_in (expr_tree x)) c.in-Call.is ∙ ap tags_in (expr_tree-call c.in-Call.function c.in-Call.«open» c.in-Call.arguments)
    ∙ (λ i. tags_in (expr_tree (sym c.deref-in-Call.ensures i)) ++ tags_in_arguments (arguments_of (sym c.as_slice-argument-items.ensures.value i))))
    c.in_ok-tags_in-in-Call.ensures
    (left-end of_arguments (λ a. with_tags (tags_in (expr_tree a))) (λ s. refl) c.as_slice-argument-items.result.now c.loop-argument.argument-index (omega arith) c.loop-argument.invariant)

pub tags_in_declarator-loop-suffix-preserved : goal.tags_in_declarator-loop-suffix-preserved
tags_in_declarator-loop-suffix-preserved t c =
    left-more of_suffixes (λ a. with_tags (suffix_tags a)) suffixes-more c.as_slice-suffix-items.result.now c.loop-suffix.suffix-index c.suffix-item.result (omega arith) (sym c.suffix-item.is) c.loop-suffix.invariant c.in_ok-tags_in_suffix.ensures

pub tags_in_declarator-returns : goal.tags_in_declarator-returns
tags_in_declarator-returns t c =
    let declarator = c.args.declarator.now in
    let direct = tags_in_direct (direct_tree declarator.direct) in
    let first : c.match-declarator.checker ≡ with_tags direct c.args.checker.now = elim c.match-declarator.branch [
      | tags_in_declarator-in-Nested+in_ok-tags_in_declarator w ↦ w.checker-is ∙ w.in_ok-tags_in_declarator.ensures
          ∙ ap (λ (tags : List NameTree). with_tags tags c.args.checker.now) (sym (direct-nested declarator.direct w.in-Nested.inner w.deref.result.now w.in-Nested.is w.deref.ensures))
      | tags_in_declarator-in_default w ↦ w.checker-is ∙ ap (λ (tags : List NameTree). with_tags tags c.args.checker.now) (sym (direct-flat declarator.direct w.in_default.not-Nested))
    ] in
    tags-then direct (tags_in_suffixes (suffixes_of declarator.suffixes.items)) _ _ _ first
    (left-end of_suffixes (λ a. with_tags (suffix_tags a)) (λ s. refl) c.as_slice-suffix-items.result.now c.loop-suffix.suffix-index (omega arith) c.loop-suffix.invariant
    ∙ ap (λ items. of_suffixes items c.match-declarator.checker) c.as_slice-suffix-items.ensures.value)

pub tags_in_type-returns-in-Some : goal.tags_in_type-returns-in-Some
tags_in_type-returns-in-Some t c =
    let parts = out-TypeName c.args.type_name.now in
    on_ok_weaker c.tags_in_declarator.result
    (two_parts (tags_in_type (type_tree c.args.type_name.now)) (tag_of (words_tree parts.simple).words) (tags_in_declarator (declarator_tree c.in-Some.declarator)) _ _ _
    (ap tags_in_type (type_tree-out c.args.type_name.now) ∙ ap (λ declarator. tag_of (words_tree parts.simple).words ++ tags_in_optional (optional_of declarator)) c.in-Some.is)
    c.in_ok-tag_of.ensures)
    c.tags_in_declarator.ensures
