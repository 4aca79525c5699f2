use Rattle.std.proofs.Common.{List}
use Rattle.std.specs.Result.{IfErr}
use Rattle.c_grammar.specs.Table.{Symbol}
use Rattle.c_grammar.specs.Runs.{Parts}
use Rattle.c_grammar.specs.Leaves.{leaves_of}
use Rattle.c_grammar.specs.declared.kind.Kind.{Kind}
use Rattle.c_grammar.specs.Forms as forms
use Rattle.c_reader.specs.Readings.{Fails}
use Rattle.c_reader.specs.Terms.{closing_symbols}
use Rattle.c_reader.proofs.Results.{passed_on}
use Rattle.c_reader.proofs.TermRows as rows
use Rattle.c_reader.proofs.term.pass_last.Goals as goal

pub returns-in_err-pass-in-Some-clause-fails : goal.returns-in_err-pass-in-Some-clause-fails
returns-in_err-pass-in-Some-clause-fails c =
    passed_on c.from_residual.result _ (λ r. IfErr r (λ fault. (room : _) (more : List (Symbol Kind forms.Sort)) → Fails (Parts (closing_symbols c.args.last more)) room (leaves_of c.args.tokens.now) fault)) c.from_residual.ensures.1 (rows.closing_fault _ _ c.in-Some.is c.in_err-pass-in-Some.ensures.none c.in_err-pass-in-Some.ensures.misfit)
