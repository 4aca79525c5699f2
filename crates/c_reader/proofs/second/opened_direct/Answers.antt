use Rattle.std.proofs.Common.{ap}
use Rattle.std.specs.Result.{IfErr}
use Rattle.c_grammar.specs.Runs.{Whole}
use Rattle.c_grammar.specs.Forms as forms
use Rattle.c_grammar.specs.Leaves.{leaves_of}
use Rattle.c_reader.specs.declared.syntax_err.SyntaxErr.TheVariants.{At}
use Rattle.c_reader.specs.Readings.{Fails}
use Rattle.c_reader.proofs.Results.{passed_on}
use Rattle.c_reader.proofs.SecondRows.{nested_deep, nested_misfit}
use Rattle.c_reader.proofs.second.opened_direct.Goals as goal

pub returns-in_err-room_below-in-Some-Nested-clause-fails : goal.returns-in_err-room_below-in-Some-Nested-clause-fails
returns-in_err-room_below-in-Some-Nested-clause-fails c =
    passed_on c.from_residual-in_err-room_below-in-Some-Nested.result _ (λ r. IfErr r (λ fault. Fails (Whole (forms.ParamDirect c.args.named) 0) c.args.room (leaves_of c.args.tokens.now) fault)) c.from_residual-in_err-room_below-in-Some-Nested.ensures.1 (nested_deep c.args.room _ c.in_ok-open.ensures.found c.requires c.second_kind.ensures (rw c.in-Some-Nested.field-0-is at c.in-Some-Nested.ensures) c.in_err-room_below-in-Some-Nested.ensures.none c.in_err-room_below-in-Some-Nested.ensures.deep)

pub returns-in-None-clause-fails : goal.returns-in-None-clause-fails
returns-in-None-clause-fails c =
    nested_misfit c.args.named c.args.room (At c.first_place.result) c.in_ok-open.ensures.found c.requires c.second_kind.ensures c.in-None.ensures (ap At c.first_place.ensures)
