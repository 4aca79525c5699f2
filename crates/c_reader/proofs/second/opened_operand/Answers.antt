use Rattle.std.proofs.Common.{sym, ◌∙◌, ap}
use Rattle.std.specs.Result.{IfErr}
use Rattle.c_grammar.specs.Runs.{Whole}
use Rattle.c_grammar.specs.Forms as forms
use Rattle.c_grammar.specs.Leaves.{leaves_of}
use Rattle.c_reader.specs.declared.syntax_err.SyntaxErr.TheVariants.{At}
use Rattle.c_reader.specs.Readings.{Fails}
use Rattle.c_reader.proofs.Results.{passed_on}
use Rattle.c_reader.proofs.SecondRows.{opened_expr, opened_deep, opened_misfit}
use Rattle.c_reader.proofs.second.opened_operand.Goals as goal

pub returns-then-not-begins_expr-clause-fails : goal.returns-then-not-begins_expr-clause-fails
returns-then-not-begins_expr-clause-fails c =
    opened_misfit c.args.room (At c.first_place.result) c.in_ok-open.ensures.found c.requires c.second_kind-next.ensures (sym c.is_type_word.ensures ∙ c.if-is_type_word.false) (sym c.begins_expr.ensures ∙ c.if-not-begins_expr.true) (ap At c.first_place.ensures)

pub returns-in_err-room_below-clause-fails : goal.returns-in_err-room_below-clause-fails
returns-in_err-room_below-clause-fails c =
    passed_on c.from_residual-in_err-room_below.result _ (λ r. IfErr r (λ fault. Fails (Whole forms.SizeofOperand 0) c.args.room (leaves_of c.args.tokens.now) fault)) c.from_residual-in_err-room_below.ensures.1 (opened_deep c.args.room _ c.in_ok-open.ensures.found c.requires c.second_kind-next.ensures (sym c.is_type_word.ensures ∙ c.if-is_type_word.false) (sym c.begins_expr.ensures ∙ c.if-not-begins_expr.false) c.in_err-room_below.ensures.none c.in_err-room_below.ensures.deep)

pub returns-clause-begins : goal.returns-clause-begins
returns-clause-begins c =
    opened_expr c.args.room c.requires c.second_kind-next.ensures (sym c.is_type_word.ensures ∙ c.if-is_type_word.false) (sym c.begins_expr.ensures ∙ c.if-not-begins_expr.false) c.in_ok-room_below.ensures.fits
