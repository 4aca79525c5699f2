use Rattle.std.proofs.Common.{sym, ◌∙◌, ap}
use Rattle.std.specs.Result.{IfErr}
use Rattle.c_grammar.specs.Runs.{Whole}
use Rattle.c_grammar.specs.Forms as forms
use Rattle.c_grammar.specs.Leaves.{leaves_of}
use Rattle.c_reader.specs.declared.syntax_err.SyntaxErr.TheVariants.{At}
use Rattle.c_reader.specs.Readings.{Fails}
use Rattle.c_reader.proofs.Results.{passed_on}
use Rattle.c_reader.proofs.Rows.{no_row, no_tokens}
use Rattle.c_reader.proofs.SecondRows.{plain_expr, plain_deep, plain_misfit}
use Rattle.c_reader.proofs.second.sizeof_row.Goals as goal

pub returns-in_err-kind-clause-fails : goal.returns-in_err-kind-clause-fails
returns-in_err-kind-clause-fails c =
    passed_on c.from_residual.result _ (λ r. IfErr r (λ fault. Fails (Whole forms.SizeofOperand 0) c.args.room (leaves_of c.args.tokens.now) fault)) c.from_residual.ensures.1 (no_row c.args.room _ (no_tokens forms.SizeofOperand 0 c.in_err-kind.ensures.none) c.in_err-kind.ensures.misfit)

pub returns-then-not-begins_expr : goal.returns-then-not-begins_expr
returns-then-not-begins_expr c =
    record {
      begins = tt;
      fails = plain_misfit c.args.room (At c.first_place.result) c.in_ok-kind.ensures.found c.in_default.not-OpenParenthesis (sym c.begins_expr.ensures ∙ c.if-not-begins_expr.true) (ap At c.first_place.ensures);
    }

pub returns-in_err-room_below-clause-fails : goal.returns-in_err-room_below-clause-fails
returns-in_err-room_below-clause-fails c =
    passed_on c.from_residual-in_err-room_below.result _ (λ r. IfErr r (λ fault. Fails (Whole forms.SizeofOperand 0) c.args.room (leaves_of c.args.tokens.now) fault)) c.from_residual-in_err-room_below.ensures.1 (plain_deep c.args.room _ c.in_ok-kind.ensures.found c.in_default.not-OpenParenthesis (sym c.begins_expr.ensures ∙ c.if-not-begins_expr.false) c.in_err-room_below.ensures.none c.in_err-room_below.ensures.deep)

pub returns : goal.returns
returns c =
    record {
      begins = plain_expr c.args.room c.in_ok-kind.ensures.found c.in_default.not-OpenParenthesis (sym c.begins_expr.ensures ∙ c.if-not-begins_expr.false) c.in_ok-room_below.ensures.fits;
      fails = tt;
    }
