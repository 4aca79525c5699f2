use Rattle.std.proofs.Common.{sym, arith, [], refl, ap, ◌∷◌, Some, ◌∙◌, ◌++◌, ◌≡◌, true, ◌<◌, length, None}
use Rattle.c_grammar.specs.Runs.{Whole}
use Rattle.c_grammar.specs.Forms as forms
use Rattle.c_grammar.specs.Leaves.{leaves_of}
use Rattle.c_syntax.specs.Trees as trees
use Rattle.c_syntax.specs.Views.{expr_tree}
use Rattle.c_reader.specs.ExpressionSteps.{expr_in}
use Rattle.c_reader.specs.Shapes.{expr_of}
use Rattle.c_reader.specs.Readings.{IsReading}
use Rattle.c_reader.proofs.Results.{passed_on}
use Rattle.c_reader.proofs.ExprRows.{ended, none_chosen, too_deep, extend, extend_deep}
use Rattle.c_reader.specs.declared.syntax_err.SyntaxErr.TheVariants.{At}
use Rattle.c_reader.specs.ExpressionSteps.{GivesOperand, ReadsSuffix}
use Rattle.c_reader.proofs.Rows.{no_row, no_tokens, misfit, part_fault}
use Rattle.c_reader.proofs.DeclaratorRows.{high_fits}
use Rattle.c_reader.proofs.TermRows as terms
use Rattle.c_grammar.specs.Table.{Nonterminal}
use Rattle.c_reader.specs.Choices.{form_of, level_of_next}
use Rattle.c_reader.specs.Terms.{GivesTerm, GivesEnclosedType}
use Rattle.std.proofs.lemmas.Result.{err_from_is_err_and}
use Rattle.c_reader.proofs.OperandRows as operands
use Rattle.c_reader.proofs.OperandRows.{enclosed_fits, renamed, cast_deep, cast_type_fault, cast_operand_fault, cast_read, at_form, sizeof_deep, sizeof_misfit, sizeof_operand_fault, of_type_fault, of_type_read, of_expr_fault, of_expr_read, enclosed_unopened, enclosed_fault, enclosed_unclosed, enclosed_read}
use Rattle.c_syntax.proofs.SyntaxRows.{type_tree-name}
use Rattle.c_reader.proofs.DeclaratorRows as rows
use denote.Enum.Bare.{differs_true, differs_false}
use Rattle.c_grammar.specs.contracts.kind.Kind.{the_type}
use Rattle.c_grammar.specs.declared.kind.Kind.TheVariants as K
use Rattle.c_grammar.specs.Chooses.{begins_direct}
use Rattle.c_reader.proofs.+expr.Goals.{declarator::read_inner-else-ne-via-then-ne+else-not-begins_direct, declarator::read_inner-else-ne-via-else-ne, declarator::read_suffixes-in-OpenBracket+in_ok-suffix-in-OpenBracket, declarator::read_suffixes-in-OpenParenthesis+in_ok-suffix-in-OpenParenthesis}
use Rattle.c_reader.proofs.+expr.Goals as goal

pub expr::read_expr-loop-next-init : goal.expr::read_expr-loop-next-init
expr::read_expr-loop-next-init t c = record { begun = c.in_ok-left.ensures.gives; shorter = c.in_ok-left.ensures.shorter }

pub expr::read_expr-returns-in_err-left-2-clause-gives : goal.expr::read_expr-returns-in_err-left-2-clause-gives
expr::read_expr-returns-in_err-left-2-clause-gives t c =
    passed_on c.from_residual-in_err-left-2.result _ (λ r. IsReading (Whole forms.Expr c.args.level) c.args.room (leaves_of c.args.tokens.now) expr_of expr_in r) c.from_residual-in_err-left-2.ensures.1 (c.in_err-left-2.ensures.gives c.args.level (leaves_of c.args.tokens.now) c.loop-next.invariant.begun (sym c.in-Some.ensures.form))

pub expr::read_expr-loop-next-smaller : goal.expr::read_expr-loop-next-smaller
expr::read_expr-loop-next-smaller t c = c.in_ok-left-2.ensures.shorter

pub expr::read_expr-loop-next-preserved : goal.expr::read_expr-loop-next-preserved
expr::read_expr-loop-next-preserved t c =
    record {
      begun = c.in_ok-left-2.ensures.gives c.args.level (leaves_of c.args.tokens.now) c.loop-next.invariant.begun (sym c.in-Some.ensures.form);
      shorter = omega (arith, c.loop-next.invariant.shorter, c.in_ok-left-2.ensures.shorter);
    }

pub expr::read_expr-returns-clause-gives : goal.expr::read_expr-returns-clause-gives
expr::read_expr-returns-clause-gives t c = ended c.loop-next.invariant.begun c.in_default.ensures.form

pub expr::read_expr-returns-clause-shorter : goal.expr::read_expr-returns-clause-shorter
expr::read_expr-returns-clause-shorter t c = c.loop-next.invariant.shorter

pub expr::read_operand-returns-in_err-kind-clause-gives : goal.expr::read_operand-returns-in_err-kind-clause-gives
expr::read_operand-returns-in_err-kind-clause-gives t c =
    passed_on c.from_residual.result _ (λ r. GivesOperand c.args.level c.args.room (leaves_of c.args.tokens.now) r) c.from_residual.ensures.1 (no_row c.args.room _ (no_tokens forms.Expr c.args.level c.in_err-kind.ensures.none) c.in_err-kind.ensures.misfit)

pub expr::read_operand-returns-in_err-below-in-Some-Wrapped-clause-gives : goal.expr::read_operand-returns-in_err-below-in-Some-Wrapped-clause-gives
expr::read_operand-returns-in_err-below-in-Some-Wrapped-clause-gives t c =
    let told = terms.first_row c.in_ok-kind.ensures.found c.second_kind.ensures c.in-Some-Wrapped.ensures c.in-Some-Wrapped.field-0-is refl in
    passed_on c.from_residual-in_err-below-in-Some-Wrapped.result _ (λ r. GivesOperand c.args.level c.args.room (leaves_of c.args.tokens.now) r) c.from_residual-in_err-below-in-Some-Wrapped.ensures.1 (too_deep c.args.room _ told (terms.wrapped_short _ c.in-Some-Wrapped.wrapping c.in_err-below-in-Some-Wrapped.ensures.none) c.in_err-below-in-Some-Wrapped.ensures.deep)

pub expr::read_operand-returns-in_err-term-in-Some-Wrapped-clause-gives : goal.expr::read_operand-returns-in_err-term-in-Some-Wrapped-clause-gives
expr::read_operand-returns-in_err-term-in-Some-Wrapped-clause-gives t c =
    let told = terms.first_row c.in_ok-kind.ensures.found c.second_kind.ensures c.in-Some-Wrapped.ensures c.in-Some-Wrapped.field-0-is refl in
    let row = terms.wrapped_row c.in-Some-Wrapped.wrapping c.wrapping_frame.result c.in_ok-below-in-Some-Wrapped.below told c.wrapping_frame.ensures c.in_ok-below-in-Some-Wrapped.ensures.fits c.in_ok-below-in-Some-Wrapped.ensures.found in
    passed_on c.from_residual-in_err-term-in-Some-Wrapped.result _ (λ r. GivesOperand c.args.level c.args.room (leaves_of c.args.tokens.now) r) c.from_residual-in_err-term-in-Some-Wrapped.ensures.1 (terms.frame_fault _ row (c.in_err-term-in-Some-Wrapped.ensures.gives []))

pub expr::read_operand-wrapped-requires : goal.expr::read_operand-wrapped-requires
expr::read_operand-wrapped-requires t c = omega (arith, high_fits c.in_ok-term-in-Some-Wrapped.ensures.gives.value, c.in_ok-below-in-Some-Wrapped.ensures.found, c.ranges.room.fits)

pub expr::read_operand-returns-in-Some-Single-clause-gives : goal.expr::read_operand-returns-in-Some-Single-clause-gives
expr::read_operand-returns-in-Some-Single-clause-gives t c =
    c.read_single.ensures.gives c.args.level (terms.first_row c.in_ok-kind.ensures.found c.second_kind.ensures c.in-Some-Single.ensures c.in-Some-Single.field-0-is refl)

pub expr::read_operand-returns-in-Some-Text-clause-gives : goal.expr::read_operand-returns-in-Some-Text-clause-gives
expr::read_operand-returns-in-Some-Text-clause-gives t c =
    c.read_text.ensures.gives c.args.level (terms.first_row c.in_ok-kind.ensures.found c.second_kind.ensures c.in-Some-Text.ensures c.in-Some-Text.field-0-is refl)

pub expr::read_operand-returns-in-Some-Cast-clause-gives : goal.expr::read_operand-returns-in-Some-Cast-clause-gives
expr::read_operand-returns-in-Some-Cast-clause-gives t c =
    c.read_cast.ensures.gives c.args.level (terms.first_row c.in_ok-kind.ensures.found c.second_kind.ensures c.in-Some-Cast.ensures c.in-Some-Cast.field-0-is refl)

pub expr::read_operand-returns-in-Some-Sizeof-clause-gives : goal.expr::read_operand-returns-in-Some-Sizeof-clause-gives
expr::read_operand-returns-in-Some-Sizeof-clause-gives t c =
    c.read_sizeof.ensures.gives c.args.level (terms.first_row c.in_ok-kind.ensures.found c.second_kind.ensures c.in-Some-Sizeof.ensures c.in-Some-Sizeof.field-0-is refl)

pub expr::read_operand-returns-in_ok-wrapped-in-Some-Wrapped-clause-gives : goal.expr::read_operand-returns-in_ok-wrapped-in-Some-Wrapped-clause-gives
expr::read_operand-returns-in_ok-wrapped-in-Some-Wrapped-clause-gives t c =
    let told = terms.first_row c.in_ok-kind.ensures.found c.second_kind.ensures c.in-Some-Wrapped.ensures c.in-Some-Wrapped.field-0-is refl in
    let row = terms.wrapped_row c.in-Some-Wrapped.wrapping c.wrapping_frame.result c.in_ok-below-in-Some-Wrapped.below told c.wrapping_frame.ensures c.in_ok-below-in-Some-Wrapped.ensures.fits c.in_ok-below-in-Some-Wrapped.ensures.found in
    let made = c.in_ok-wrapped-in-Some-Wrapped.ensures in
    rw made.rest (terms.wrapped_read c.in-Some-Wrapped.wrapping c.wrapping_frame.result row c.wrapping_frame.ensures c.in_ok-term-in-Some-Wrapped.ensures.gives made.tree made.height made.level)

pub expr::read_operand-returns-in-None-clause-gives : goal.expr::read_operand-returns-in-None-clause-gives
expr::read_operand-returns-in-None-clause-gives t c =
    none_chosen c.args.level c.args.room (At c.first_place.result) c.in_ok-kind.ensures.found c.second_kind.ensures (sym c.in-None.ensures) (ap At c.first_place.ensures)

-- ---- calls

pub expr::read_next-returns-in_err-below-in-Call-clause-gives : goal.expr::read_next-returns-in_err-below-in-Call-clause-gives
expr::read_next-returns-in_err-below-in-Call-clause-gives t c level text begun told =
    let row = told ∙ ap (λ next. Some (form_of next)) c.in-Call.is in
    passed_on c.from_residual.result _ (λ r. GivesOperand level c.args.room text r) c.from_residual.ensures.1 (extend_deep c.args.room _ begun row refl c.in_err-below-in-Call.ensures.none c.in_err-below-in-Call.ensures.deep)

pub expr::read_next-returns-in_err-open-in-Call-clause-gives : goal.expr::read_next-returns-in_err-open-in-Call-clause-gives
expr::read_next-returns-in_err-open-in-Call-clause-gives t c level text begun told =
    let row = told ∙ ap (λ next. Some (form_of next)) c.in-Call.is in
    let fits = c.in_ok-below-in-Call.ensures in
    passed_on c.from_residual-in_err-open-in-Call.result _ (λ r. GivesOperand level c.args.room text r) c.from_residual-in_err-open-in-Call.ensures.1 (misfit _ (extend c.in_ok-below-in-Call.below begun row fits.fits fits.left_fits fits.found) c.in_err-open-in-Call.ensures.none c.in_err-open-in-Call.ensures.misfit)

pub expr::read_next-returns-in_err-arguments-in-Call-clause-gives : goal.expr::read_next-returns-in_err-arguments-in-Call-clause-gives
expr::read_next-returns-in_err-arguments-in-Call-clause-gives t c level text begun told =
    let row = told ∙ ap (λ next. Some (form_of next)) c.in-Call.is in
    let fits = c.in_ok-below-in-Call.ensures in
    passed_on c.from_residual-in_err-arguments-in-Call.result _ (λ r. GivesOperand level c.args.room text r) c.from_residual-in_err-arguments-in-Call.ensures.1 (part_fault _ (terms.call_row c.in_ok-below-in-Call.below begun row fits.fits fits.left_fits fits.found c.in_ok-open-in-Call.ensures.found) c.in_err-arguments-in-Call.ensures.gives)

pub expr::read_next-returns-in_err-close-in-Call-clause-gives : goal.expr::read_next-returns-in_err-close-in-Call-clause-gives
expr::read_next-returns-in_err-close-in-Call-clause-gives t c level text begun told =
    let row = told ∙ ap (λ next. Some (form_of next)) c.in-Call.is in
    let fits = c.in_ok-below-in-Call.ensures in
    passed_on c.from_residual-in_err-close-in-Call.result _ (λ r. GivesOperand level c.args.room text r) c.from_residual-in_err-close-in-Call.ensures.1 (terms.call_unclosed _ (terms.call_row c.in_ok-below-in-Call.below begun row fits.fits fits.left_fits fits.found c.in_ok-open-in-Call.ensures.found) c.in_ok-arguments-in-Call.ensures.gives c.in_err-close-in-Call.ensures.none c.in_err-close-in-Call.ensures.misfit)

pub expr::read_next-called-requires-clause-function_fits : goal.expr::read_next-called-requires-clause-function_fits
expr::read_next-called-requires-clause-function_fits t c = omega (arith, c.in_ok-below-in-Call.ensures.left_fits, c.in_ok-below-in-Call.ensures.found, c.ranges.room.fits)

pub expr::read_next-called-requires-clause-arguments_fit : goal.expr::read_next-called-requires-clause-arguments_fit
expr::read_next-called-requires-clause-arguments_fit t c = omega (arith, high_fits c.in_ok-arguments-in-Call.ensures.gives, c.in_ok-below-in-Call.ensures.found, c.ranges.room.fits)

pub expr::read_next-returns-in_ok-called-in-Call-clause-gives : goal.expr::read_next-returns-in_ok-called-in-Call-clause-gives
expr::read_next-returns-in_ok-called-in-Call-clause-gives t c level text begun told =
    let row = told ∙ ap (λ next. Some (form_of next)) c.in-Call.is in
    let fits = c.in_ok-below-in-Call.ensures in
    let made = c.in_ok-called-in-Call.ensures in
    rw (made.rest, made.level) (terms.call_read begun c.in_ok-open-in-Call.ensures.found (terms.call_row c.in_ok-below-in-Call.below begun row fits.fits fits.left_fits fits.found c.in_ok-open-in-Call.ensures.found) c.in_ok-arguments-in-Call.ensures.gives c.in_ok-close-in-Call.ensures.found made.tree made.height)

-- ---- `c ? t : e`

pub expr::read_next-returns-in_err-below-in-Conditional-clause-gives : goal.expr::read_next-returns-in_err-below-in-Conditional-clause-gives
expr::read_next-returns-in_err-below-in-Conditional-clause-gives t c level text begun told =
    let row = told ∙ ap (λ next. Some (form_of next)) c.in-Conditional.is in
    passed_on c.from_residual-in_err-below-in-Conditional.result _ (λ r. GivesOperand level c.args.room text r) c.from_residual-in_err-below-in-Conditional.ensures.1 (extend_deep c.args.room _ begun row refl c.in_err-below-in-Conditional.ensures.none c.in_err-below-in-Conditional.ensures.deep)

pub expr::read_next-returns-in_err-then-in-Conditional-clause-gives : goal.expr::read_next-returns-in_err-then-in-Conditional-clause-gives
expr::read_next-returns-in_err-then-in-Conditional-clause-gives t c level text begun told =
    let row = told ∙ ap (λ next. Some (form_of next)) c.in-Conditional.is in
    let fits = c.in_ok-below-in-Conditional.ensures in
    passed_on c.from_residual-in_err-then-in-Conditional.result _ (λ r. GivesOperand level c.args.room text r) c.from_residual-in_err-then-in-Conditional.ensures.1 (terms.frame_fault _ (terms.conditional_row c.in_ok-below-in-Conditional.below begun row fits.fits fits.left_fits fits.found) (c.in_err-then-in-Conditional.ensures.gives (Nonterminal forms.Expr 14 ∷ [])))

pub expr::read_next-returns-in_err-otherwise-in-Conditional-clause-gives : goal.expr::read_next-returns-in_err-otherwise-in-Conditional-clause-gives
expr::read_next-returns-in_err-otherwise-in-Conditional-clause-gives t c level text begun told =
    let row = told ∙ ap (λ next. Some (form_of next)) c.in-Conditional.is in
    let fits = c.in_ok-below-in-Conditional.ensures in
    passed_on c.from_residual-in_err-otherwise-in-Conditional.result _ (λ r. GivesOperand level c.args.room text r) c.from_residual-in_err-otherwise-in-Conditional.ensures.1 (terms.otherwise_fault _ (terms.conditional_row c.in_ok-below-in-Conditional.below begun row fits.fits fits.left_fits fits.found) c.in_ok-then-in-Conditional.ensures.gives c.in_err-otherwise-in-Conditional.ensures.gives)

pub expr::read_next-conditional-requires-clause-condition_fits : goal.expr::read_next-conditional-requires-clause-condition_fits
expr::read_next-conditional-requires-clause-condition_fits t c = omega (arith, c.in_ok-below-in-Conditional.ensures.left_fits, c.in_ok-below-in-Conditional.ensures.found, c.ranges.room.fits)

pub expr::read_next-conditional-requires-clause-then_fits : goal.expr::read_next-conditional-requires-clause-then_fits
expr::read_next-conditional-requires-clause-then_fits t c = omega (arith, high_fits c.in_ok-then-in-Conditional.ensures.gives.value, c.in_ok-below-in-Conditional.ensures.found, c.ranges.room.fits)

pub expr::read_next-conditional-requires-clause-otherwise_fits : goal.expr::read_next-conditional-requires-clause-otherwise_fits
expr::read_next-conditional-requires-clause-otherwise_fits t c = omega (arith, high_fits c.in_ok-otherwise-in-Conditional.ensures.gives, c.in_ok-below-in-Conditional.ensures.found, c.ranges.room.fits)

pub expr::read_next-returns-in_ok-conditional-in-Conditional-clause-gives : goal.expr::read_next-returns-in_ok-conditional-in-Conditional-clause-gives
expr::read_next-returns-in_ok-conditional-in-Conditional-clause-gives t c level text begun told =
    let row = told ∙ ap (λ next. Some (form_of next)) c.in-Conditional.is in
    let fits = c.in_ok-below-in-Conditional.ensures in
    let made = c.in_ok-conditional-in-Conditional.ensures in
    rw (made.rest, made.level) (terms.conditional_read begun (terms.conditional_row c.in_ok-below-in-Conditional.below begun row fits.fits fits.left_fits fits.found) c.in_ok-then-in-Conditional.ensures.gives c.in_ok-otherwise-in-Conditional.ensures.gives made.tree made.height)

-- ---- a token and a second operand

pub expr::read_next-returns-in_err-below-in-Joined-clause-gives : goal.expr::read_next-returns-in_err-below-in-Joined-clause-gives
expr::read_next-returns-in_err-below-in-Joined-clause-gives t c level text begun told =
    let row = told ∙ ap (λ next. Some (form_of next)) c.in-Joined.is in
    passed_on c.from_residual-in_err-below-in-Joined.result _ (λ r. GivesOperand level c.args.room text r) c.from_residual-in_err-below-in-Joined.ensures.1 (extend_deep c.args.room _ begun row (terms.joined_weight c.in-Joined.joining) (terms.joined_short _ _ c.in-Joined.joining c.in_err-below-in-Joined.ensures.none) c.in_err-below-in-Joined.ensures.deep)

pub expr::read_next-returns-in_err-term-in-Joined-clause-gives : goal.expr::read_next-returns-in_err-term-in-Joined-clause-gives
expr::read_next-returns-in_err-term-in-Joined-clause-gives t c level text begun told =
    let row = told ∙ ap (λ next. Some (form_of next)) c.in-Joined.is in
    let fits = c.in_ok-below-in-Joined.ensures in
    passed_on c.from_residual-in_err-term-in-Joined.result _ (λ r. GivesOperand level c.args.room text r) c.from_residual-in_err-term-in-Joined.ensures.1 (terms.frame_fault _ (terms.joined_row c.in-Joined.joining c.joining_frame.result c.in_ok-below-in-Joined.below begun row c.joining_frame.ensures fits.fits fits.left_fits fits.found) (c.in_err-term-in-Joined.ensures.gives []))

pub expr::read_next-joined-requires-clause-left_fits : goal.expr::read_next-joined-requires-clause-left_fits
expr::read_next-joined-requires-clause-left_fits t c = omega (arith, c.in_ok-below-in-Joined.ensures.left_fits, c.in_ok-below-in-Joined.ensures.found, c.ranges.room.fits)

pub expr::read_next-joined-requires-clause-right_fits : goal.expr::read_next-joined-requires-clause-right_fits
expr::read_next-joined-requires-clause-right_fits t c = omega (arith, high_fits c.in_ok-term-in-Joined.ensures.gives.value, c.in_ok-below-in-Joined.ensures.found, c.ranges.room.fits)

pub expr::read_next-returns-in_ok-joined-in-Joined-clause-gives : goal.expr::read_next-returns-in_ok-joined-in-Joined-clause-gives
expr::read_next-returns-in_ok-joined-in-Joined-clause-gives t c level text begun told =
    let row = told ∙ ap (λ next. Some (form_of next)) c.in-Joined.is in
    let fits = c.in_ok-below-in-Joined.ensures in
    let made = c.in_ok-joined-in-Joined.ensures in
    let binds = ap level_of_next (sym c.in-Joined.is) ∙ c.requires ∙ ap (λ next. forms.level_of_form (form_of next)) c.in-Joined.is in
    rw made.rest (terms.joined_read c.in-Joined.joining c.joining_frame.result begun (terms.joined_row c.in-Joined.joining c.joining_frame.result c.in_ok-below-in-Joined.below begun row c.joining_frame.ensures fits.fits fits.left_fits fits.found) c.joining_frame.ensures c.in_ok-term-in-Joined.ensures.gives made.tree made.height (made.level ∙ binds))

pub expr::read_term-returns-in_err-first-clause-gives : goal.expr::read_term-returns-in_err-first-clause-gives
expr::read_term-returns-in_err-first-clause-gives t c =
    passed_on c.from_residual.result _ (λ r. GivesTerm c.args.frame c.args.room (leaves_of c.args.tokens.now) r) c.from_residual.ensures.1 (terms.opening_fault c.args.frame _ c.args.room _ c.in_err-first.ensures.none c.in_err-first.ensures.misfit)

pub expr::read_term-returns-in_err-value-clause-gives : goal.expr::read_term-returns-in_err-value-clause-gives
expr::read_term-returns-in_err-value-clause-gives t c =
    passed_on c.from_residual-in_err-value.result _ (λ r. GivesTerm c.args.frame c.args.room (leaves_of c.args.tokens.now) r) c.from_residual-in_err-value.ensures.1 (terms.value_fault c.args.frame c.args.room _ c.in_ok-first.ensures.found c.in_err-value.ensures.gives)

pub expr::read_term-returns-in_err-rest-clause-gives : goal.expr::read_term-returns-in_err-rest-clause-gives
expr::read_term-returns-in_err-rest-clause-gives t c =
    passed_on c.from_residual-in_err-rest.result _ (λ r. GivesTerm c.args.frame c.args.room (leaves_of c.args.tokens.now) r) c.from_residual-in_err-rest.ensures.1 (terms.last_fault c.args.frame c.args.room _ c.in_ok-first.ensures.found c.in_ok-value.ensures.gives c.in_err-rest.ensures.fails)

pub expr::read_arguments-returns-in_err-first_kind-clause-gives : goal.expr::read_arguments-returns-in_err-first_kind-clause-gives
expr::read_arguments-returns-in_err-first_kind-clause-gives t c =
    let p = err_from_is_err_and c.from_residual.result c.from_residual.ensures.1 in
    rw (p.1, p.2) (no_row _ _ (no_tokens forms.Arguments 0 c.in_err-first_kind.ensures.none) c.in_err-first_kind.ensures.misfit)

pub expr::read_arguments-returns-then-not-begins_expr-clause-gives : goal.expr::read_arguments-returns-then-not-begins_expr-clause-gives
expr::read_arguments-returns-then-not-begins_expr-clause-gives t c =
    rw c.new-values.ensures.items (operands.no_arguments c.in_ok-first_kind.ensures.found (sym c.begins_expr.ensures ∙ c.if-not-begins_expr.true))

pub expr::read_arguments-returns-in_err-first-clause-gives : goal.expr::read_arguments-returns-in_err-first-clause-gives
expr::read_arguments-returns-in_err-first-clause-gives t c =
    let p = err_from_is_err_and c.from_residual-in_err-first.result c.from_residual-in_err-first.ensures.1 in
    rw (p.1, p.2) (operands.first_argument_fault _ _ c.in_ok-first_kind.ensures.found (sym c.begins_expr.ensures ∙ c.if-not-begins_expr.false) c.in_err-first.ensures.gives)

pub expr::read_arguments-loop-values-init : goal.expr::read_arguments-loop-values-init
expr::read_arguments-loop-values-init t c =
    record {
      so_far = rw (c.in_ok-push.ensures.items ∙ ap (λ items. items ++ c.into_inner.result ∷ []) c.new-values.ensures.items ∙ ap (λ value. [] ++ value ∷ []) c.into_inner.ensures) (operands.first_argument _ c.in_ok-first_kind.ensures.found (sym c.begins_expr.ensures ∙ c.if-not-begins_expr.false) c.in_ok-first.ensures.gives);
      shorter = omega (arith, c.in_ok-first.ensures.shorter);
    }

pub expr::read_arguments-returns-in_err-first_kind-2-clause-gives : goal.expr::read_arguments-returns-in_err-first_kind-2-clause-gives
expr::read_arguments-returns-in_err-first_kind-2-clause-gives t c =
    let p = err_from_is_err_and c.from_residual-in_err-first_kind-2.result c.from_residual-in_err-first_kind-2.ensures.1 in
    rw (p.1, p.2) (operands.arguments_cut _ _ c.loop-values.invariant.so_far c.in_err-first_kind-2.ensures.none c.in_err-first_kind-2.ensures.misfit)

pub expr::read_arguments-returns-in_err-next-clause-gives : goal.expr::read_arguments-returns-in_err-next-clause-gives
expr::read_arguments-returns-in_err-next-clause-gives t c =
    let p = err_from_is_err_and c.from_residual-in_err-next.result c.from_residual-in_err-next.ensures.1 in
    rw (p.1, p.2) (operands.next_argument_fault _ _ c.loop-values.invariant.so_far c.in_ok-comma.ensures.found c.in_err-next.ensures.gives)

pub expr::read_arguments-loop-values-preserved : goal.expr::read_arguments-loop-values-preserved
expr::read_arguments-loop-values-preserved t c =
    record {
      so_far = rw (c.in_ok-push-2.ensures.items, c.into_inner-in-Comma.ensures) (operands.next_argument _ c.loop-values.invariant.so_far c.in_ok-comma.ensures.found c.in_ok-next.ensures.gives (sym c.max-height.ensures));
      shorter = omega (arith, c.in_ok-comma.ensures.shorter, c.in_ok-next.ensures.shorter, c.loop-values.invariant.shorter);
    }

pub expr::read_arguments-returns : goal.expr::read_arguments-returns
expr::read_arguments-returns t c =
    record {
      gives = operands.last_argument c.loop-values.invariant.so_far c.in_ok-first_kind-2.ensures.found c.in_default.not-Comma;
      shorter = c.loop-values.invariant.shorter;
    }

pub expr::read_cast-returns-in_err-below-clause-gives : goal.expr::read_cast-returns-in_err-below-clause-gives
expr::read_cast-returns-in_err-below-clause-gives t c level told =
    passed_on c.from_residual.result _ (λ r. GivesOperand level c.args.room (leaves_of c.args.tokens.now) r) c.from_residual.ensures.1 (cast_deep c.args.room _ told c.in_err-below.ensures.none c.in_err-below.ensures.deep)

pub expr::read_cast-returns-in_err-named-clause-gives : goal.expr::read_cast-returns-in_err-named-clause-gives
expr::read_cast-returns-in_err-named-clause-gives t c level told =
    passed_on c.from_residual-in_err-named.result _ (λ r. GivesOperand level c.args.room (leaves_of c.args.tokens.now) r) c.from_residual-in_err-named.ensures.1 (cast_type_fault c.args.room _ _ told c.in_ok-below.ensures.fits c.in_ok-below.ensures.found c.in_err-named.ensures.gives)

pub expr::read_cast-returns-in_err-operand-clause-gives : goal.expr::read_cast-returns-in_err-operand-clause-gives
expr::read_cast-returns-in_err-operand-clause-gives t c level told =
    passed_on c.from_residual-in_err-operand.result _ (λ r. GivesOperand level c.args.room (leaves_of c.args.tokens.now) r) c.from_residual-in_err-operand.ensures.1 (cast_operand_fault c.args.room _ _ told c.in_ok-below.ensures.fits c.in_ok-below.ensures.found c.in_ok-named.ensures.gives c.in_err-operand.ensures.gives)

pub expr::read_cast-cast-requires-clause-type_fits : goal.expr::read_cast-cast-requires-clause-type_fits
expr::read_cast-cast-requires-clause-type_fits t c =
    omega (arith, enclosed_fits c.in_ok-named.ensures.gives, c.in_ok-below.ensures.found, c.ranges.room.fits)

pub expr::read_cast-cast-requires-clause-operand_fits : goal.expr::read_cast-cast-requires-clause-operand_fits
expr::read_cast-cast-requires-clause-operand_fits t c =
    omega (arith, high_fits c.in_ok-operand.ensures.gives, c.in_ok-below.ensures.found, c.ranges.room.fits)

pub expr::read_cast-returns-clause-gives : goal.expr::read_cast-returns-clause-gives
expr::read_cast-returns-clause-gives t c level told =
    renamed c.in_ok-cast.ensures.tree c.in_ok-cast.ensures.level c.in_ok-cast.ensures.height (ap leaves_of c.in_ok-cast.ensures.rest) (cast_read _ told c.in_ok-below.ensures.fits c.in_ok-below.ensures.found c.in_ok-named.ensures.gives c.in_ok-operand.ensures.gives)

pub expr::read_sizeof-returns-in_err-below-clause-gives : goal.expr::read_sizeof-returns-in_err-below-clause-gives
expr::read_sizeof-returns-in_err-below-clause-gives t c level told =
    passed_on c.from_residual.result _ (λ r. GivesOperand level c.args.room (leaves_of c.args.tokens.now) r) c.from_residual.ensures.1 (sizeof_deep c.args.room _ told c.in_err-below.ensures.none c.in_err-below.ensures.deep)

pub expr::read_sizeof-returns-in_err-word-clause-gives : goal.expr::read_sizeof-returns-in_err-word-clause-gives
expr::read_sizeof-returns-in_err-word-clause-gives t c level told =
    passed_on c.from_residual-in_err-word.result _ (λ r. GivesOperand level c.args.room (leaves_of c.args.tokens.now) r) c.from_residual-in_err-word.ensures.1 (sizeof_misfit c.args.room _ _ told c.in_ok-below.ensures.fits c.in_ok-below.ensures.found c.in_err-word.ensures.none c.in_err-word.ensures.misfit)

pub expr::read_sizeof-returns-in_err-sizeof_row-clause-gives : goal.expr::read_sizeof-returns-in_err-sizeof_row-clause-gives
expr::read_sizeof-returns-in_err-sizeof_row-clause-gives t c level told =
    passed_on c.from_residual-in_err-sizeof_row.result _ (λ r. GivesOperand level c.args.room (leaves_of c.args.tokens.now) r) c.from_residual-in_err-sizeof_row.ensures.1 (sizeof_operand_fault c.args.room _ _ told c.in_ok-below.ensures.fits c.in_ok-below.ensures.found c.in_ok-word.ensures.found c.in_err-sizeof_row.ensures.fails)

pub expr::read_sizeof-returns-in_err-named-in-Type-clause-gives : goal.expr::read_sizeof-returns-in_err-named-in-Type-clause-gives
expr::read_sizeof-returns-in_err-named-in-Type-clause-gives t c level told =
    passed_on c.from_residual-in_err-named-in-Type.result _ (λ r. GivesOperand level c.args.room (leaves_of c.args.tokens.now) r) c.from_residual-in_err-named-in-Type.ensures.1 (of_type_fault c.args.room _ _ told c.in_ok-below.ensures.fits c.in_ok-below.ensures.found c.in_ok-word.ensures.found (at_form c.in_ok-sizeof_row.ensures.begins c.in-Type.is) c.in_err-named-in-Type.ensures.gives)

pub expr::read_sizeof-sizeof_type-requires : goal.expr::read_sizeof-sizeof_type-requires
expr::read_sizeof-sizeof_type-requires t c =
    omega (arith, enclosed_fits c.in_ok-named-in-Type.ensures.gives, c.in_ok-below.ensures.found, c.ranges.room.fits)

pub expr::read_sizeof-returns-in_err-operand-in-Expr-clause-gives : goal.expr::read_sizeof-returns-in_err-operand-in-Expr-clause-gives
expr::read_sizeof-returns-in_err-operand-in-Expr-clause-gives t c level told =
    passed_on c.from_residual-in_err-operand-in-Expr.result _ (λ r. GivesOperand level c.args.room (leaves_of c.args.tokens.now) r) c.from_residual-in_err-operand-in-Expr.ensures.1 (of_expr_fault c.args.room _ _ told c.in_ok-below.ensures.fits c.in_ok-below.ensures.found c.in_ok-word.ensures.found (at_form c.in_ok-sizeof_row.ensures.begins c.in-Expr.is) c.in_err-operand-in-Expr.ensures.gives)

pub expr::read_sizeof-sizeof_expr-requires : goal.expr::read_sizeof-sizeof_expr-requires
expr::read_sizeof-sizeof_expr-requires t c =
    omega (arith, high_fits c.in_ok-operand-in-Expr.ensures.gives, c.in_ok-below.ensures.found, c.ranges.room.fits)

pub expr::read_sizeof-returns-in_ok-sizeof_type-in-Type-clause-gives : goal.expr::read_sizeof-returns-in_ok-sizeof_type-in-Type-clause-gives
expr::read_sizeof-returns-in_ok-sizeof_type-in-Type-clause-gives t c level told =
    renamed c.in_ok-sizeof_type-in-Type.ensures.tree c.in_ok-sizeof_type-in-Type.ensures.level c.in_ok-sizeof_type-in-Type.ensures.height (ap leaves_of c.in_ok-sizeof_type-in-Type.ensures.rest) (of_type_read _ told c.in_ok-below.ensures.fits c.in_ok-below.ensures.found c.in_ok-word.ensures.found (at_form c.in_ok-sizeof_row.ensures.begins c.in-Type.is) c.in_ok-named-in-Type.ensures.gives)

pub expr::read_sizeof-returns-in_ok-sizeof_expr-in-Expr-clause-gives : goal.expr::read_sizeof-returns-in_ok-sizeof_expr-in-Expr-clause-gives
expr::read_sizeof-returns-in_ok-sizeof_expr-in-Expr-clause-gives t c level told =
    renamed c.in_ok-sizeof_expr-in-Expr.ensures.tree c.in_ok-sizeof_expr-in-Expr.ensures.level c.in_ok-sizeof_expr-in-Expr.ensures.height (ap leaves_of c.in_ok-sizeof_expr-in-Expr.ensures.rest) (of_expr_read _ told c.in_ok-below.ensures.fits c.in_ok-below.ensures.found c.in_ok-word.ensures.found (at_form c.in_ok-sizeof_row.ensures.begins c.in-Expr.is) c.in_ok-operand-in-Expr.ensures.gives)

pub expr::read_enclosed_type-returns-in_err-open-clause-gives : goal.expr::read_enclosed_type-returns-in_err-open-clause-gives
expr::read_enclosed_type-returns-in_err-open-clause-gives t c =
    passed_on c.from_residual.result _ (λ r. GivesEnclosedType c.args.room (leaves_of c.args.tokens.now) r) c.from_residual.ensures.1 (λ more. enclosed_unopened _ c.args.room _ more c.in_err-open.ensures.none c.in_err-open.ensures.misfit)

pub expr::read_enclosed_type-returns-in_err-named-clause-gives : goal.expr::read_enclosed_type-returns-in_err-named-clause-gives
expr::read_enclosed_type-returns-in_err-named-clause-gives t c =
    passed_on c.from_residual-in_err-named.result _ (λ r. GivesEnclosedType c.args.room (leaves_of c.args.tokens.now) r) c.from_residual-in_err-named.ensures.1 (λ more. enclosed_fault c.args.room _ more c.in_ok-open.ensures.found c.in_err-named.ensures.gives)

pub expr::read_enclosed_type-returns-in_err-close-clause-gives : goal.expr::read_enclosed_type-returns-in_err-close-clause-gives
expr::read_enclosed_type-returns-in_err-close-clause-gives t c =
    passed_on c.from_residual-in_err-close.result _ (λ r. GivesEnclosedType c.args.room (leaves_of c.args.tokens.now) r) c.from_residual-in_err-close.ensures.1 (λ more. enclosed_unclosed c.args.room _ more c.in_ok-open.ensures.found c.in_ok-named.ensures.gives c.in_err-close.ensures.none c.in_err-close.ensures.misfit)

pub expr::read_enclosed_type-returns-clause-gives : goal.expr::read_enclosed_type-returns-clause-gives
expr::read_enclosed_type-returns-clause-gives t c =
    rw c.in_ok-type_name.ensures.ok (enclosed_read c.in_ok-open.ensures.found c.in_ok-named.ensures.gives c.in_ok-close.ensures.found)

pub declarator::read_type-returns-in_err-first_kind-clause-gives : goal.declarator::read_type-returns-in_err-first_kind-clause-gives
declarator::read_type-returns-in_err-first_kind-clause-gives t c =
    let p = err_from_is_err_and c.from_residual.result c.from_residual.ensures.1 in
    rw (p.1, p.2) (rows.type_cut c.args.named _ _ c.in_err-first_kind.ensures.none c.in_err-first_kind.ensures.misfit)

pub declarator::read_type-returns-then-not-is_type_word-clause-gives : goal.declarator::read_type-returns-then-not-is_type_word-clause-gives
declarator::read_type-returns-then-not-is_type_word-clause-gives t c =
    rows.no_type c.args.named _ _ c.in_ok-first_kind.ensures.found (sym c.is_type_word.ensures ∙ c.if-not-is_type_word.true) (ap At c.first_place.ensures)

pub declarator::read_type-returns-in_err-simple-clause-gives : goal.declarator::read_type-returns-in_err-simple-clause-gives
declarator::read_type-returns-in_err-simple-clause-gives t c =
    let p = err_from_is_err_and c.from_residual-in_err-simple.result c.from_residual-in_err-simple.ensures.1 in
    rw (p.1, p.2) (rows.type_words_fault c.args.named _ _ c.in_ok-first_kind.ensures.found (sym c.is_type_word.ensures ∙ c.if-not-is_type_word.false) c.in_err-simple.ensures.gives)

pub declarator::read_type-returns-in_err-begins_optional-clause-gives : goal.declarator::read_type-returns-in_err-begins_optional-clause-gives
declarator::read_type-returns-in_err-begins_optional-clause-gives t c =
    let p = err_from_is_err_and c.from_residual-in_err-begins_optional.result c.from_residual-in_err-begins_optional.ensures.1 in
    rw (p.1, p.2) (rows.type_fault c.args.named _ _ c.in_ok-first_kind.ensures.found (sym c.is_type_word.ensures ∙ c.if-not-is_type_word.false) c.in_ok-simple.ensures.gives (rows.optional_cut c.args.named _ _ c.in_err-begins_optional.ensures.none c.in_err-begins_optional.ensures.misfit))

pub declarator::read_type-returns-then-not-branch-clause-gives : goal.declarator::read_type-returns-then-not-branch-clause-gives
declarator::read_type-returns-then-not-branch-clause-gives t c =
    rows.type_read c.args.named c.in_ok-first_kind.ensures.found (sym c.is_type_word.ensures ∙ c.if-not-is_type_word.false) c.in_ok-simple.ensures.gives (rows.optional_none c.args.named _ _ (c.in_ok-begins_optional.ensures.missing c.if-not-branch.true)) (sym (type_tree-name _ _)) (omega arith)

pub declarator::read_type-returns-in_err-declarator-clause-gives : goal.declarator::read_type-returns-in_err-declarator-clause-gives
declarator::read_type-returns-in_err-declarator-clause-gives t c =
    let p = err_from_is_err_and c.from_residual-in_err-declarator.result c.from_residual-in_err-declarator.ensures.1 in
    rw (p.1, p.2) (rows.type_fault c.args.named _ _ c.in_ok-first_kind.ensures.found (sym c.is_type_word.ensures ∙ c.if-not-is_type_word.false) c.in_ok-simple.ensures.gives (c.in_err-declarator.ensures.optional (c.in_ok-begins_optional.ensures.found c.if-not-branch.false)))

pub declarator::read_type-returns-clause-gives : goal.declarator::read_type-returns-clause-gives
declarator::read_type-returns-clause-gives t c =
    rows.type_read c.args.named c.in_ok-first_kind.ensures.found (sym c.is_type_word.ensures ∙ c.if-not-is_type_word.false) c.in_ok-simple.ensures.gives (c.in_ok-declarator.ensures.optional (c.in_ok-begins_optional.ensures.found c.if-not-branch.false)) (sym (type_tree-name _ _)) (sym c.max.ensures)

pub declarator::read_inner-returns-in_err-kind-clause-gives : goal.declarator::read_inner-returns-in_err-kind-clause-gives
declarator::read_inner-returns-in_err-kind-clause-gives t c =
    let p = err_from_is_err_and c.from_residual.result c.from_residual.ensures.1 in
    rw (p.1, p.2) (no_row _ _ (no_tokens (forms.Inner c.args.named) 0 c.in_err-kind.ensures.none) c.in_err-kind.ensures.misfit)

pub declarator::read_inner-returns-then-not-begins_direct-clause-gives : goal.declarator::read_inner-returns-then-not-begins_direct-clause-gives
declarator::read_inner-returns-then-not-begins_direct-clause-gives t c =
    rows.no_inner c.args.named _ (At c.first_place.result) c.in_ok-kind.ensures.found (differs_true the_type c.in_ok-kind.kind K.Star (sym c.ne.ensures ∙ c.if-ne.true)) (sym c.begins_direct.ensures ∙ c.if-not-begins_direct.true) (ap At c.first_place.ensures)

pub declarator::read_inner-returns-in_err-below-clause-gives : goal.declarator::read_inner-returns-in_err-below-clause-gives
declarator::read_inner-returns-in_err-below-clause-gives t c =
    let p = err_from_is_err_and c.from_residual-in_err-below.result c.from_residual-in_err-below.ensures.1 in
    rw (p.1, p.2) (elim c.else-ne.branch [
      | declarator::read_inner-else-ne-via-then-ne+else-not-begins_direct w ↦ (rows.plain_deep c.args.named _ _ c.in_ok-kind.ensures.found (differs_true the_type c.in_ok-kind.kind K.Star (sym c.ne.ensures ∙ w.if-ne.true)) (sym w.begins_direct.ensures ∙ w.if-not-begins_direct.false) c.in_err-below.ensures.none c.in_err-below.ensures.deep).0
      | declarator::read_inner-else-ne-via-else-ne w ↦ (rows.pointer_deep c.args.named _ _ c.in_ok-kind.ensures.found (differs_false the_type tt c.in_ok-kind.kind K.Star (sym c.ne.ensures ∙ w.if-ne.false)) c.in_err-below.ensures.none c.in_err-below.ensures.deep).0
    ])

pub declarator::read_inner-returns-in_err-below-clause-optional : goal.declarator::read_inner-returns-in_err-below-clause-optional
declarator::read_inner-returns-in_err-below-clause-optional t c begins =
    let p = err_from_is_err_and c.from_residual-in_err-below.result c.from_residual-in_err-below.ensures.1 in
    rw (p.1, p.2) (elim c.else-ne.branch [
      | declarator::read_inner-else-ne-via-then-ne+else-not-begins_direct w ↦ (rows.plain_deep c.args.named _ _ c.in_ok-kind.ensures.found (differs_true the_type c.in_ok-kind.kind K.Star (sym c.ne.ensures ∙ w.if-ne.true)) (sym w.begins_direct.ensures ∙ w.if-not-begins_direct.false) c.in_err-below.ensures.none c.in_err-below.ensures.deep).1
      | declarator::read_inner-else-ne-via-else-ne w ↦ (rows.pointer_deep c.args.named _ _ c.in_ok-kind.ensures.found (differs_false the_type tt c.in_ok-kind.kind K.Star (sym c.ne.ensures ∙ w.if-ne.false)) c.in_err-below.ensures.none c.in_err-below.ensures.deep).1
    ])

pub declarator::read_inner-returns-in_err-direct-clause-gives : goal.declarator::read_inner-returns-in_err-direct-clause-gives
declarator::read_inner-returns-in_err-direct-clause-gives t c =
    let no_star = differs_true the_type c.in_ok-kind.kind K.Star (sym c.ne-2.ensures ∙ c.if-ne-2.true) in
    let told : begins_direct c.args.named c.in_ok-kind.kind ≡ true = elim c.else-ne.branch [
      | declarator::read_inner-else-ne-via-then-ne+else-not-begins_direct w ↦ sym w.begins_direct.ensures ∙ w.if-not-begins_direct.false
      | declarator::read_inner-else-ne-via-else-ne w ↦ absurd (no_star (differs_false the_type tt c.in_ok-kind.kind K.Star (sym c.ne.ensures ∙ w.if-ne.false)))
    ] in
    let p = err_from_is_err_and c.from_residual-in_err-direct.result c.from_residual-in_err-direct.ensures.1 in
    rw (p.1, p.2) (rows.plain_fault _ (rows.inner_plain c.args.named c.in_ok-below.below c.in_ok-kind.ensures.found no_star told c.in_ok-below.ensures.fits c.in_ok-below.ensures.found) c.in_err-direct.ensures.gives)

pub declarator::read_inner-returns-then-ne-2-clause-gives : goal.declarator::read_inner-returns-then-ne-2-clause-gives
declarator::read_inner-returns-then-ne-2-clause-gives t c =
    let no_star = differs_true the_type c.in_ok-kind.kind K.Star (sym c.ne-2.ensures ∙ c.if-ne-2.true) in
    let told : begins_direct c.args.named c.in_ok-kind.kind ≡ true = elim c.else-ne.branch [
      | declarator::read_inner-else-ne-via-then-ne+else-not-begins_direct w ↦ sym w.begins_direct.ensures ∙ w.if-not-begins_direct.false
      | declarator::read_inner-else-ne-via-else-ne w ↦ absurd (no_star (differs_false the_type tt c.in_ok-kind.kind K.Star (sym c.ne.ensures ∙ w.if-ne.false)))
    ] in
    rows.plain_read (rows.inner_plain c.args.named c.in_ok-below.below c.in_ok-kind.ensures.found no_star told c.in_ok-below.ensures.fits c.in_ok-below.ensures.found) c.in_ok-direct.ensures.gives

pub declarator::read_inner-returns-in_err-count-clause-gives : goal.declarator::read_inner-returns-in_err-count-clause-gives
declarator::read_inner-returns-in_err-count-clause-gives t c =
    let p = err_from_is_err_and c.from_residual-in_err-count.result c.from_residual-in_err-count.ensures.1 in
    rw (p.1, p.2) (rows.pointer_stars_fault _ (rows.inner_pointer c.args.named c.in_ok-below.below c.in_ok-kind.ensures.found (differs_false the_type tt c.in_ok-kind.kind K.Star (sym c.ne-2.ensures ∙ c.if-ne-2.false)) c.in_ok-below.ensures.fits c.in_ok-below.ensures.found) c.in_ok-star.ensures.found (c.in_err-count.ensures.gives c.in_ok-below.below))

pub declarator::read_inner-returns-in_err-first_kind-clause-gives : goal.declarator::read_inner-returns-in_err-first_kind-clause-gives
declarator::read_inner-returns-in_err-first_kind-clause-gives t c =
    let p = err_from_is_err_and c.from_residual-in_err-first_kind.result c.from_residual-in_err-first_kind.ensures.1 in
    rw (p.1, p.2) (rows.pointer_fault _ (rows.inner_pointer c.args.named c.in_ok-below.below c.in_ok-kind.ensures.found (differs_false the_type tt c.in_ok-kind.kind K.Star (sym c.ne-2.ensures ∙ c.if-ne-2.false)) c.in_ok-below.ensures.fits c.in_ok-below.ensures.found) c.in_ok-star.ensures.found (c.in_ok-count.ensures.gives c.in_ok-below.below) (rows.direct_cut c.args.named _ _ c.in_err-first_kind.ensures.none c.in_err-first_kind.ensures.misfit))

pub declarator::read_inner-returns-then-not-begins_direct-2-clause-gives : goal.declarator::read_inner-returns-then-not-begins_direct-2-clause-gives
declarator::read_inner-returns-then-not-begins_direct-2-clause-gives t c =
    rw c.new.ensures.items (rows.pointer_read (rows.inner_pointer c.args.named c.in_ok-below.below c.in_ok-kind.ensures.found (differs_false the_type tt c.in_ok-kind.kind K.Star (sym c.ne-2.ensures ∙ c.if-ne-2.false)) c.in_ok-below.ensures.fits c.in_ok-below.ensures.found) c.in_ok-star.ensures.found (c.in_ok-count.ensures.gives c.in_ok-below.below) (rows.direct_none c.args.named c.in_ok-first_kind.ensures.found (sym c.begins_direct-2.ensures ∙ c.if-not-begins_direct-2.true) refl))

pub declarator::read_inner-returns-in_err-direct-2-clause-gives : goal.declarator::read_inner-returns-in_err-direct-2-clause-gives
declarator::read_inner-returns-in_err-direct-2-clause-gives t c =
    let p = err_from_is_err_and c.from_residual-in_err-direct-2.result c.from_residual-in_err-direct-2.ensures.1 in
    rw (p.1, p.2) (rows.pointer_fault _ (rows.inner_pointer c.args.named c.in_ok-below.below c.in_ok-kind.ensures.found (differs_false the_type tt c.in_ok-kind.kind K.Star (sym c.ne-2.ensures ∙ c.if-ne-2.false)) c.in_ok-below.ensures.fits c.in_ok-below.ensures.found) c.in_ok-star.ensures.found (c.in_ok-count.ensures.gives c.in_ok-below.below) (rows.direct_some_fault c.args.named _ _ c.in_ok-first_kind.ensures.found (sym c.begins_direct-2.ensures ∙ c.if-not-begins_direct-2.false) c.in_err-direct-2.ensures.gives))

pub declarator::read_inner-returns-clause-gives : goal.declarator::read_inner-returns-clause-gives
declarator::read_inner-returns-clause-gives t c =
    rows.pointer_read (rows.inner_pointer c.args.named c.in_ok-below.below c.in_ok-kind.ensures.found (differs_false the_type tt c.in_ok-kind.kind K.Star (sym c.ne-2.ensures ∙ c.if-ne-2.false)) c.in_ok-below.ensures.fits c.in_ok-below.ensures.found) c.in_ok-star.ensures.found (c.in_ok-count.ensures.gives c.in_ok-below.below) (rows.direct_some c.args.named c.in_ok-first_kind.ensures.found (sym c.begins_direct-2.ensures ∙ c.if-not-begins_direct-2.false) c.in_ok-direct-2.ensures.gives)

pub declarator::read_inner-returns-in_err-direct-clause-optional : goal.declarator::read_inner-returns-in_err-direct-clause-optional
declarator::read_inner-returns-in_err-direct-clause-optional t c begins =
    let no_star = differs_true the_type c.in_ok-kind.kind K.Star (sym c.ne-2.ensures ∙ c.if-ne-2.true) in
    let told : begins_direct c.args.named c.in_ok-kind.kind ≡ true = elim c.else-ne.branch [
      | declarator::read_inner-else-ne-via-then-ne+else-not-begins_direct w ↦ sym w.begins_direct.ensures ∙ w.if-not-begins_direct.false
      | declarator::read_inner-else-ne-via-else-ne w ↦ absurd (no_star (differs_false the_type tt c.in_ok-kind.kind K.Star (sym c.ne.ensures ∙ w.if-ne.false)))
    ] in
    let p = err_from_is_err_and c.from_residual-in_err-direct.result c.from_residual-in_err-direct.ensures.1 in
    rw (p.1, p.2) (rows.plain_fault _ (rows.optional_plain c.args.named c.in_ok-below.below c.in_ok-kind.ensures.found no_star told c.in_ok-below.ensures.fits c.in_ok-below.ensures.found) c.in_err-direct.ensures.gives)

pub declarator::read_inner-returns-then-ne-2-clause-optional : goal.declarator::read_inner-returns-then-ne-2-clause-optional
declarator::read_inner-returns-then-ne-2-clause-optional t c begins =
    let no_star = differs_true the_type c.in_ok-kind.kind K.Star (sym c.ne-2.ensures ∙ c.if-ne-2.true) in
    let told : begins_direct c.args.named c.in_ok-kind.kind ≡ true = elim c.else-ne.branch [
      | declarator::read_inner-else-ne-via-then-ne+else-not-begins_direct w ↦ sym w.begins_direct.ensures ∙ w.if-not-begins_direct.false
      | declarator::read_inner-else-ne-via-else-ne w ↦ absurd (no_star (differs_false the_type tt c.in_ok-kind.kind K.Star (sym c.ne.ensures ∙ w.if-ne.false)))
    ] in
    rows.plain_read (rows.optional_plain c.args.named c.in_ok-below.below c.in_ok-kind.ensures.found no_star told c.in_ok-below.ensures.fits c.in_ok-below.ensures.found) c.in_ok-direct.ensures.gives

pub declarator::read_inner-returns-in_err-count-clause-optional : goal.declarator::read_inner-returns-in_err-count-clause-optional
declarator::read_inner-returns-in_err-count-clause-optional t c begins =
    let p = err_from_is_err_and c.from_residual-in_err-count.result c.from_residual-in_err-count.ensures.1 in
    rw (p.1, p.2) (rows.pointer_stars_fault _ (rows.optional_pointer c.args.named c.in_ok-below.below c.in_ok-kind.ensures.found (differs_false the_type tt c.in_ok-kind.kind K.Star (sym c.ne-2.ensures ∙ c.if-ne-2.false)) c.in_ok-below.ensures.fits c.in_ok-below.ensures.found) c.in_ok-star.ensures.found (c.in_err-count.ensures.gives c.in_ok-below.below))

pub declarator::read_inner-returns-in_err-first_kind-clause-optional : goal.declarator::read_inner-returns-in_err-first_kind-clause-optional
declarator::read_inner-returns-in_err-first_kind-clause-optional t c begins =
    let p = err_from_is_err_and c.from_residual-in_err-first_kind.result c.from_residual-in_err-first_kind.ensures.1 in
    rw (p.1, p.2) (rows.pointer_fault _ (rows.optional_pointer c.args.named c.in_ok-below.below c.in_ok-kind.ensures.found (differs_false the_type tt c.in_ok-kind.kind K.Star (sym c.ne-2.ensures ∙ c.if-ne-2.false)) c.in_ok-below.ensures.fits c.in_ok-below.ensures.found) c.in_ok-star.ensures.found (c.in_ok-count.ensures.gives c.in_ok-below.below) (rows.direct_cut c.args.named _ _ c.in_err-first_kind.ensures.none c.in_err-first_kind.ensures.misfit))

pub declarator::read_inner-returns-then-not-begins_direct-2-clause-optional : goal.declarator::read_inner-returns-then-not-begins_direct-2-clause-optional
declarator::read_inner-returns-then-not-begins_direct-2-clause-optional t c begins =
    rw c.new.ensures.items (rows.pointer_read (rows.optional_pointer c.args.named c.in_ok-below.below c.in_ok-kind.ensures.found (differs_false the_type tt c.in_ok-kind.kind K.Star (sym c.ne-2.ensures ∙ c.if-ne-2.false)) c.in_ok-below.ensures.fits c.in_ok-below.ensures.found) c.in_ok-star.ensures.found (c.in_ok-count.ensures.gives c.in_ok-below.below) (rows.direct_none c.args.named c.in_ok-first_kind.ensures.found (sym c.begins_direct-2.ensures ∙ c.if-not-begins_direct-2.true) refl))

pub declarator::read_inner-returns-in_err-direct-2-clause-optional : goal.declarator::read_inner-returns-in_err-direct-2-clause-optional
declarator::read_inner-returns-in_err-direct-2-clause-optional t c begins =
    let p = err_from_is_err_and c.from_residual-in_err-direct-2.result c.from_residual-in_err-direct-2.ensures.1 in
    rw (p.1, p.2) (rows.pointer_fault _ (rows.optional_pointer c.args.named c.in_ok-below.below c.in_ok-kind.ensures.found (differs_false the_type tt c.in_ok-kind.kind K.Star (sym c.ne-2.ensures ∙ c.if-ne-2.false)) c.in_ok-below.ensures.fits c.in_ok-below.ensures.found) c.in_ok-star.ensures.found (c.in_ok-count.ensures.gives c.in_ok-below.below) (rows.direct_some_fault c.args.named _ _ c.in_ok-first_kind.ensures.found (sym c.begins_direct-2.ensures ∙ c.if-not-begins_direct-2.false) c.in_err-direct-2.ensures.gives))

pub declarator::read_inner-returns-clause-optional : goal.declarator::read_inner-returns-clause-optional
declarator::read_inner-returns-clause-optional t c begins =
    rows.pointer_read (rows.optional_pointer c.args.named c.in_ok-below.below c.in_ok-kind.ensures.found (differs_false the_type tt c.in_ok-kind.kind K.Star (sym c.ne-2.ensures ∙ c.if-ne-2.false)) c.in_ok-below.ensures.fits c.in_ok-below.ensures.found) c.in_ok-star.ensures.found (c.in_ok-count.ensures.gives c.in_ok-below.below) (rows.direct_some c.args.named c.in_ok-first_kind.ensures.found (sym c.begins_direct-2.ensures ∙ c.if-not-begins_direct-2.false) c.in_ok-direct-2.ensures.gives)

pub declarator::read_inner-overflow_add-result : goal.declarator::read_inner-overflow_add-result
declarator::read_inner-overflow_add-result t c = omega (arith, rows.high_fits c.in_ok-direct.ensures.gives, c.in_ok-below.ensures.found)

pub declarator::read_inner-overflow_add-result-2 : goal.declarator::read_inner-overflow_add-result-2
declarator::read_inner-overflow_add-result-2 t c = omega (arith, rows.high_fits c.in_ok-direct-2.ensures.gives, c.in_ok-below.ensures.found)

pub declarator::read_param_direct-returns-in_err-name-in-Name-clause-gives : goal.declarator::read_param_direct-returns-in_err-name-in-Name-clause-gives
declarator::read_param_direct-returns-in_err-name-in-Name-clause-gives t c =
    let p = err_from_is_err_and c.from_residual-in_err-name-in-Name.result c.from_residual-in_err-name-in-Name.ensures.1 in
    rw (p.1, p.2) (rows.param_named_fault c.args.named _ _ (rows.at_row c.in_ok-direct_row.ensures.begins c.in-Name.is) (rows.unnamed _ _ _ c.in_err-name-in-Name.ensures.gives))

pub declarator::read_param_direct-returns-in_err-suffixes-in-Name-clause-gives : goal.declarator::read_param_direct-returns-in_err-suffixes-in-Name-clause-gives
declarator::read_param_direct-returns-in_err-suffixes-in-Name-clause-gives t c =
    let p = err_from_is_err_and c.from_residual-in_err-suffixes-in-Name.result c.from_residual-in_err-suffixes-in-Name.ensures.1 in
    rw (p.1, p.2) (rows.param_named_fault c.args.named _ _ (rows.at_row c.in_ok-direct_row.ensures.begins c.in-Name.is) (rows.named_fault _ _ c.in_ok-name-in-Name.ensures.gives c.in_err-suffixes-in-Name.ensures.gives))

pub declarator::read_param_direct-returns-in_ok-suffixes-in-Name-clause-gives : goal.declarator::read_param_direct-returns-in_ok-suffixes-in-Name-clause-gives
declarator::read_param_direct-returns-in_ok-suffixes-in-Name-clause-gives t c =
    rows.param_named c.args.named (rows.at_row c.in_ok-direct_row.ensures.begins c.in-Name.is) (rows.named_read c.in_ok-name-in-Name.ensures.gives c.in_ok-suffixes-in-Name.ensures.gives refl)

pub declarator::read_param_direct-returns-in_err-inner-in-Nested-clause-gives : goal.declarator::read_param_direct-returns-in_err-inner-in-Nested-clause-gives
declarator::read_param_direct-returns-in_err-inner-in-Nested-clause-gives t c =
    let p = err_from_is_err_and c.from_residual-in_err-inner-in-Nested.result c.from_residual-in_err-inner-in-Nested.ensures.1 in
    rw (p.1, p.2) (rows.param_inner_fault _ _ (rows.at_row c.in_ok-direct_row.ensures.begins c.in-Nested.is) c.in_ok-open-in-Nested.ensures.found c.in_err-inner-in-Nested.ensures.gives)

pub declarator::read_param_direct-returns-in_err-close-in-Nested-clause-gives : goal.declarator::read_param_direct-returns-in_err-close-in-Nested-clause-gives
declarator::read_param_direct-returns-in_err-close-in-Nested-clause-gives t c =
    let p = err_from_is_err_and c.from_residual-in_err-close-in-Nested.result c.from_residual-in_err-close-in-Nested.ensures.1 in
    rw (p.1, p.2) (rows.param_unclosed _ _ (rows.at_row c.in_ok-direct_row.ensures.begins c.in-Nested.is) c.in_ok-open-in-Nested.ensures.found c.in_ok-inner-in-Nested.ensures.gives c.in_err-close-in-Nested.ensures.none c.in_err-close-in-Nested.ensures.misfit)

pub declarator::read_param_direct-returns-in_err-suffixes-in-Nested-clause-gives : goal.declarator::read_param_direct-returns-in_err-suffixes-in-Nested-clause-gives
declarator::read_param_direct-returns-in_err-suffixes-in-Nested-clause-gives t c =
    let p = err_from_is_err_and c.from_residual-in_err-suffixes-in-Nested.result c.from_residual-in_err-suffixes-in-Nested.ensures.1 in
    rw (p.1, p.2) (rows.param_fault _ _ (rows.at_row c.in_ok-direct_row.ensures.begins c.in-Nested.is) c.in_ok-open-in-Nested.ensures.found c.in_ok-inner-in-Nested.ensures.gives c.in_ok-close-in-Nested.ensures.found c.in_err-suffixes-in-Nested.ensures.gives)

pub declarator::read_param_direct-returns-in_ok-suffixes-in-Nested-clause-gives : goal.declarator::read_param_direct-returns-in_ok-suffixes-in-Nested-clause-gives
declarator::read_param_direct-returns-in_ok-suffixes-in-Nested-clause-gives t c =
    rows.param_read (rows.at_row c.in_ok-direct_row.ensures.begins c.in-Nested.is) c.in_ok-open-in-Nested.ensures.found c.in_ok-inner-in-Nested.ensures.gives c.in_ok-close-in-Nested.ensures.found c.in_ok-suffixes-in-Nested.ensures.gives (rows.nested_tree c.args.stars c.in_ok-inner-in-Nested.inner.value c.in_ok-nested-in-Nested.nested _ c.in_ok-nested-in-Nested.ensures.ok) (sym c.max.ensures)

pub declarator::read_param_direct-returns-in_err-suffixes-in_default-clause-gives : goal.declarator::read_param_direct-returns-in_err-suffixes-in_default-clause-gives
declarator::read_param_direct-returns-in_err-suffixes-in_default-clause-gives t c =
    let p = err_from_is_err_and c.from_residual-in_err-suffixes-in_default.result c.from_residual-in_err-suffixes-in_default.ensures.1 in
    rw (p.1, p.2) (rows.bare_fault _ _ _ c.in_default.not-Name c.in_default.not-Nested c.in_ok-direct_row.ensures.begins c.in_ok-direct_row.ensures.starts c.in_err-suffixes-in_default.ensures.gives)

pub declarator::read_param_direct-returns-in_ok-suffixes-in_default-clause-gives : goal.declarator::read_param_direct-returns-in_ok-suffixes-in_default-clause-gives
declarator::read_param_direct-returns-in_ok-suffixes-in_default-clause-gives t c =
    rows.bare_read _ c.in_default.not-Name c.in_default.not-Nested c.in_ok-direct_row.ensures.begins c.in_ok-direct_row.ensures.starts c.in_ok-suffixes-in_default.ensures.gives refl

pub declarator::read_param_direct-returns-in_ok-suffixes-in_default-clause-shorter : goal.declarator::read_param_direct-returns-in_ok-suffixes-in_default-clause-shorter
declarator::read_param_direct-returns-in_ok-suffixes-in_default-clause-shorter t c =
    rows.bare_shorter _ _ _ c.in_default.not-Name c.in_default.not-Nested c.in_ok-direct_row.ensures.starts c.in_ok-suffixes-in_default.ensures.gives

pub declarator::read_suffixes-loop-suffixes-init : goal.declarator::read_suffixes-loop-suffixes-init
declarator::read_suffixes-loop-suffixes-init t c =
    record { so_far = rw c.new-suffixes.ensures.items (rows.no_suffixes _ _); shorter = omega arith }

pub declarator::read_suffixes-returns-in_err-first_kind-clause-gives : goal.declarator::read_suffixes-returns-in_err-first_kind-clause-gives
declarator::read_suffixes-returns-in_err-first_kind-clause-gives t c =
    let p = err_from_is_err_and c.from_residual.result c.from_residual.ensures.1 in
    rw (p.1, p.2) (rows.suffixes_cut _ _ c.loop-suffixes.invariant.so_far c.in_err-first_kind.ensures.none c.in_err-first_kind.ensures.misfit)

pub declarator::read_suffixes-returns-in_err-suffix-in-OpenBracket-clause-gives : goal.declarator::read_suffixes-returns-in_err-suffix-in-OpenBracket-clause-gives
declarator::read_suffixes-returns-in_err-suffix-in-OpenBracket-clause-gives t c =
    let p = err_from_is_err_and c.from_residual-in_err-suffix-in-OpenBracket.result c.from_residual-in_err-suffix-in-OpenBracket.ensures.1 in
    rw (p.1, p.2) (rows.suffix_fault _ _ c.loop-suffixes.invariant.so_far c.in_err-suffix-in-OpenBracket.ensures.gives)

pub declarator::read_suffixes-returns-in_err-suffix-in-OpenParenthesis-clause-gives : goal.declarator::read_suffixes-returns-in_err-suffix-in-OpenParenthesis-clause-gives
declarator::read_suffixes-returns-in_err-suffix-in-OpenParenthesis-clause-gives t c =
    let p = err_from_is_err_and c.from_residual-in_err-suffix-in-OpenParenthesis.result c.from_residual-in_err-suffix-in-OpenParenthesis.ensures.1 in
    rw (p.1, p.2) (rows.suffix_fault _ _ c.loop-suffixes.invariant.so_far c.in_err-suffix-in-OpenParenthesis.ensures.gives)

pub declarator::read_suffixes-returns-in_default : goal.declarator::read_suffixes-returns-in_default
declarator::read_suffixes-returns-in_default t c =
    record { gives = rows.last_suffix c.loop-suffixes.invariant.so_far c.in_ok-first_kind.ensures.found c.in_default.not-OpenBracket c.in_default.not-OpenParenthesis; shorter = c.loop-suffixes.invariant.shorter }

pub declarator::read_suffixes-loop-suffixes-preserved : goal.declarator::read_suffixes-loop-suffixes-preserved
declarator::read_suffixes-loop-suffixes-preserved t c =
    let given : ReadsSuffix c.args.room (leaves_of c.loop-suffixes.rest.now) c.match-branch-2.suffix.value c.match-branch-2.suffix.height (leaves_of c.match-branch-2.suffix.rest.now) × (length c.match-branch-2.suffix.rest.now < length c.loop-suffixes.rest.now) =
    elim c.match-branch-2.branch [
      | declarator::read_suffixes-in-OpenBracket+in_ok-suffix-in-OpenBracket w ↦ rw w.suffix-is (w.in_ok-suffix-in-OpenBracket.ensures.gives, w.in_ok-suffix-in-OpenBracket.ensures.shorter)
      | declarator::read_suffixes-in-OpenParenthesis+in_ok-suffix-in-OpenParenthesis w ↦ rw w.suffix-is (w.in_ok-suffix-in-OpenParenthesis.ensures.gives, w.in_ok-suffix-in-OpenParenthesis.ensures.shorter)
    ] in
    record {
      so_far = rw c.in_ok-push.ensures.items (rows.one_suffix c.loop-suffixes.invariant.so_far given.0 (sym c.max-height.ensures));
      shorter = omega (arith, given.1, c.loop-suffixes.invariant.shorter);
    }

pub declarator::read_array-returns-in_err-open-clause-gives : goal.declarator::read_array-returns-in_err-open-clause-gives
declarator::read_array-returns-in_err-open-clause-gives t c =
    let p = err_from_is_err_and c.from_residual.result c.from_residual.ensures.1 in
    rw (p.1, p.2) (rows.array_unopened _ _ c.requires c.in_err-open.ensures.none c.in_err-open.ensures.misfit)

pub declarator::read_array-returns-in_err-first_kind-clause-gives : goal.declarator::read_array-returns-in_err-first_kind-clause-gives
declarator::read_array-returns-in_err-first_kind-clause-gives t c =
    let p = err_from_is_err_and c.from_residual-in_err-first_kind.result c.from_residual-in_err-first_kind.ensures.1 in
    rw (p.1, p.2) (rows.array_cut _ _ c.requires c.in_ok-open.ensures.found c.in_err-first_kind.ensures.none c.in_err-first_kind.ensures.misfit)

pub declarator::read_array-returns-in_err-close-clause-gives : goal.declarator::read_array-returns-in_err-close-clause-gives
declarator::read_array-returns-in_err-close-clause-gives t c =
    let p = err_from_is_err_and c.from_residual-in_err-close.result c.from_residual-in_err-close.ensures.1 in
    rw (p.1, p.2) (rows.array_unclosed _ _ c.requires c.in_ok-open.ensures.found (rows.no_length c.in_ok-first_kind.ensures.found (sym c.begins_expr.ensures ∙ c.if-not-begins_expr.true)) c.in_err-close.ensures.none c.in_err-close.ensures.misfit)

pub declarator::read_array-returns-then-not-begins_expr-clause-gives : goal.declarator::read_array-returns-then-not-begins_expr-clause-gives
declarator::read_array-returns-then-not-begins_expr-clause-gives t c =
    rows.array_read c.requires c.in_ok-open.ensures.found (rows.no_length c.in_ok-first_kind.ensures.found (sym c.begins_expr.ensures ∙ c.if-not-begins_expr.true)) c.in_ok-close.ensures.found (λ others. rows.onto_array None others)

pub declarator::read_array-returns-in_err-room_below-clause-gives : goal.declarator::read_array-returns-in_err-room_below-clause-gives
declarator::read_array-returns-in_err-room_below-clause-gives t c =
    let p = err_from_is_err_and c.from_residual-in_err-room_below.result c.from_residual-in_err-room_below.ensures.1 in
    rw (p.1, p.2) (rows.array_length_fault _ _ c.requires c.in_ok-open.ensures.found (rows.length_deep _ _ c.in_ok-first_kind.ensures.found (sym c.begins_expr.ensures ∙ c.if-not-begins_expr.false) c.in_err-room_below.ensures.none c.in_err-room_below.ensures.deep))

pub declarator::read_array-returns-in_err-length-clause-gives : goal.declarator::read_array-returns-in_err-length-clause-gives
declarator::read_array-returns-in_err-length-clause-gives t c =
    let p = err_from_is_err_and c.from_residual-in_err-length.result c.from_residual-in_err-length.ensures.1 in
    rw (p.1, p.2) (rows.array_length_fault _ _ c.requires c.in_ok-open.ensures.found (rows.length_fault _ _ c.in_ok-first_kind.ensures.found (sym c.begins_expr.ensures ∙ c.if-not-begins_expr.false) c.in_ok-room_below.ensures.fits c.in_err-length.ensures.gives))

pub declarator::read_array-returns-in_err-close-2-clause-gives : goal.declarator::read_array-returns-in_err-close-2-clause-gives
declarator::read_array-returns-in_err-close-2-clause-gives t c =
    let p = err_from_is_err_and c.from_residual-in_err-close-2.result c.from_residual-in_err-close-2.ensures.1 in
    rw (p.1, p.2) (rows.array_unclosed _ _ c.requires c.in_ok-open.ensures.found (rows.some_length c.in_ok-first_kind.ensures.found (sym c.begins_expr.ensures ∙ c.if-not-begins_expr.false) c.in_ok-room_below.ensures.fits c.in_ok-length.ensures.gives) c.in_err-close-2.ensures.none c.in_err-close-2.ensures.misfit)

pub declarator::read_array-returns-clause-gives : goal.declarator::read_array-returns-clause-gives
declarator::read_array-returns-clause-gives t c =
    rows.array_read c.requires c.in_ok-open.ensures.found (rows.some_length c.in_ok-first_kind.ensures.found (sym c.begins_expr.ensures ∙ c.if-not-begins_expr.false) c.in_ok-room_below.ensures.fits c.in_ok-length.ensures.gives) c.in_ok-close-2.ensures.found (λ others. rows.onto_array (Some c.into_inner.result) others ∙ ap (λ value. trees.ArraySuffix (trees.ArrayLength (expr_tree value)) others) c.into_inner.ensures)

pub declarator::read_function-returns-in_err-open-clause-gives : goal.declarator::read_function-returns-in_err-open-clause-gives
declarator::read_function-returns-in_err-open-clause-gives t c =
    let p = err_from_is_err_and c.from_residual.result c.from_residual.ensures.1 in
    rw (p.1, p.2) (rows.function_unopened _ _ c.requires c.in_err-open.ensures.none c.in_err-open.ensures.misfit)

pub declarator::read_function-returns-in_err-parameters-clause-gives : goal.declarator::read_function-returns-in_err-parameters-clause-gives
declarator::read_function-returns-in_err-parameters-clause-gives t c =
    let p = err_from_is_err_and c.from_residual-in_err-parameters.result c.from_residual-in_err-parameters.ensures.1 in
    rw (p.1, p.2) (rows.function_parameters_fault _ _ c.requires c.in_ok-open.ensures.found c.in_err-parameters.ensures.gives)

pub declarator::read_function-returns-in_err-close-clause-gives : goal.declarator::read_function-returns-in_err-close-clause-gives
declarator::read_function-returns-in_err-close-clause-gives t c =
    let p = err_from_is_err_and c.from_residual-in_err-close.result c.from_residual-in_err-close.ensures.1 in
    rw (p.1, p.2) (rows.function_unclosed _ _ c.requires c.in_ok-open.ensures.found c.in_ok-parameters.ensures.gives c.in_err-close.ensures.none c.in_err-close.ensures.misfit)

pub declarator::read_function-returns-clause-gives : goal.declarator::read_function-returns-clause-gives
declarator::read_function-returns-clause-gives t c =
    rows.function_read c.requires c.in_ok-open.ensures.found c.in_ok-parameters.ensures.gives c.in_ok-close.ensures.found (λ others. rows.onto_function _ others)

pub declarator::read_parameters-returns-in_err-first_kind-clause-gives : goal.declarator::read_parameters-returns-in_err-first_kind-clause-gives
declarator::read_parameters-returns-in_err-first_kind-clause-gives t c =
    let p = err_from_is_err_and c.from_residual.result c.from_residual.ensures.1 in
    rw (p.1, p.2) (no_row _ _ (no_tokens forms.Params 0 c.in_err-first_kind.ensures.none) c.in_err-first_kind.ensures.misfit)

pub declarator::read_parameters-returns-then-not-is_type_word-clause-gives : goal.declarator::read_parameters-returns-then-not-is_type_word-clause-gives
declarator::read_parameters-returns-then-not-is_type_word-clause-gives t c =
    rw c.new-parameters.ensures.items (rows.no_parameters c.in_ok-first_kind.ensures.found (sym c.is_type_word.ensures ∙ c.if-not-is_type_word.true))

pub declarator::read_parameters-returns-in_err-first-clause-gives : goal.declarator::read_parameters-returns-in_err-first-clause-gives
declarator::read_parameters-returns-in_err-first-clause-gives t c =
    let p = err_from_is_err_and c.from_residual-in_err-first.result c.from_residual-in_err-first.ensures.1 in
    rw (p.1, p.2) (rows.first_parameter_fault _ _ c.in_ok-first_kind.ensures.found (sym c.is_type_word.ensures ∙ c.if-not-is_type_word.false) c.in_err-first.ensures.gives)

pub declarator::read_parameters-loop-parameters-init : goal.declarator::read_parameters-loop-parameters-init
declarator::read_parameters-loop-parameters-init t c =
    record {
      so_far = rw (c.in_ok-push.ensures.items ∙ ap (λ items. items ++ c.parameter.result ∷ []) c.new-parameters.ensures.items) (rows.first_parameter _ c.in_ok-first_kind.ensures.found (sym c.is_type_word.ensures ∙ c.if-not-is_type_word.false) c.in_ok-first.ensures.gives c.parameter.ensures);
      shorter = omega (arith, c.in_ok-first.ensures.shorter);
    }

pub declarator::read_parameters-returns-in_err-first_kind-2-clause-gives : goal.declarator::read_parameters-returns-in_err-first_kind-2-clause-gives
declarator::read_parameters-returns-in_err-first_kind-2-clause-gives t c =
    let p = err_from_is_err_and c.from_residual-in_err-first_kind-2.result c.from_residual-in_err-first_kind-2.ensures.1 in
    rw (p.1, p.2) (rows.parameters_cut _ _ c.loop-parameters.invariant.so_far c.in_err-first_kind-2.ensures.none c.in_err-first_kind-2.ensures.misfit)

pub declarator::read_parameters-returns-in_err-next-clause-gives : goal.declarator::read_parameters-returns-in_err-next-clause-gives
declarator::read_parameters-returns-in_err-next-clause-gives t c =
    let p = err_from_is_err_and c.from_residual-in_err-next.result c.from_residual-in_err-next.ensures.1 in
    rw (p.1, p.2) (rows.next_parameter_fault _ _ c.loop-parameters.invariant.so_far c.in_ok-comma.ensures.found c.in_err-next.ensures.gives)

pub declarator::read_parameters-loop-parameters-preserved : goal.declarator::read_parameters-loop-parameters-preserved
declarator::read_parameters-loop-parameters-preserved t c =
    record {
      so_far = rw c.in_ok-push-2.ensures.items (rows.next_parameter _ c.loop-parameters.invariant.so_far c.in_ok-comma.ensures.found c.in_ok-next.ensures.gives c.parameter-in-Comma.ensures (sym c.max-height.ensures));
      shorter = omega (arith, c.in_ok-comma.ensures.shorter, c.in_ok-next.ensures.shorter, c.loop-parameters.invariant.shorter);
    }

pub declarator::read_parameters-returns : goal.declarator::read_parameters-returns
declarator::read_parameters-returns t c =
    record {
      gives = rows.last_parameter c.loop-parameters.invariant.so_far c.in_ok-first_kind-2.ensures.found c.in_default.not-Comma;
      shorter = c.loop-parameters.invariant.shorter;
    }
