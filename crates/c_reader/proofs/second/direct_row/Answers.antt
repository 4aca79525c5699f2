use Rattle.std.proofs.Common.{ap}
use Rattle.std.specs.Result.{IfErr}
use Rattle.c_grammar.specs.Runs.{Whole}
use Rattle.c_grammar.specs.Forms as forms
use Rattle.c_grammar.specs.Leaves.{leaves_of}
use Rattle.c_reader.specs.declared.syntax_err.SyntaxErr.TheVariants.{At}
use Rattle.c_reader.specs.Readings.{Fails}
use Rattle.c_reader.proofs.Results.{passed_on}
use Rattle.c_reader.proofs.Rows.{no_row, no_tokens}
use Rattle.c_reader.proofs.SecondRows.{no_named, no_param}
use Rattle.c_reader.proofs.second.direct_row.Goals.{in_default-via-in-Name+else-named, in_default-via-in_default}
use Rattle.c_reader.proofs.second.direct_row.Goals as goal

pub returns-in_err-first_kind-clause-fails : goal.returns-in_err-first_kind-clause-fails
returns-in_err-first_kind-clause-fails c =
    passed_on c.from_residual.result _ (λ r. IfErr r (λ fault. Fails (Whole (forms.ParamDirect c.args.named) 0) c.args.room (leaves_of c.args.tokens.now) fault)) c.from_residual.ensures.1 (no_row c.args.room _ (no_tokens (forms.ParamDirect c.args.named) 0 c.in_err-first_kind.ensures.none) c.in_err-first_kind.ensures.misfit)

pub returns-in_default-clause-fails : goal.returns-in_default-clause-fails
returns-in_default-clause-fails c =
    elim c.in_default.branch [
      | in_default-via-in-Name+else-named w ↦ no_named c.args.room (At c.first_place.result) c.in_ok-first_kind.ensures.found w.in-Name.is w.if-named.false (ap At c.first_place.ensures)
      | in_default-via-in_default w ↦ no_param c.args.named c.args.room (At c.first_place.result) c.in_ok-first_kind.ensures.found w.in_default.not-OpenParenthesis w.in_default.not-OpenBracket w.in_default.not-Name (ap At c.first_place.ensures)
    ]
