use Rattle.std.proofs.Common.{sym, ◌∙◌}
use Rattle.std.proofs.lemmas.Result.{err_from_is_err_and}
use Rattle.c_reader.proofs.Programs.{refused_program, only_refused, only_done, trailing_refused, trailing_only, whole_found}
use Rattle.c_reader.proofs.program.read.Goals as goal

pub returns-in_err-program-clause-refused : goal.returns-in_err-program-clause-refused
returns-in_err-program-clause-refused c =
    let p = err_from_is_err_and c.from_residual.result c.from_residual.ensures.1 in
    rw (p.1, p.2) (refused_program _ _ c.in_err-program.ensures)

pub returns-in_err-program-clause-only : goal.returns-in_err-program-clause-only
returns-in_err-program-clause-only c program is =
    let p = err_from_is_err_and c.from_residual.result c.from_residual.ensures.1 in
    rw (p.1, p.2) (only_refused _ program _ c.in_err-program.ensures is)

pub returns-then-not-is_empty-clause-refused : goal.returns-then-not-is_empty-clause-refused
returns-then-not-is_empty-clause-refused c =
    trailing_refused _ _ _ _ c.in_ok-program.ensures (sym c.is_empty.ensures ∙ c.if-not-is_empty.true) c.first_place.ensures

pub returns-then-not-is_empty-clause-only : goal.returns-then-not-is_empty-clause-only
returns-then-not-is_empty-clause-only c program is =
    trailing_only _ program _ _ c.in_ok-program.ensures (sym c.is_empty.ensures ∙ c.if-not-is_empty.true) is

pub returns-clause-found : goal.returns-clause-found
returns-clause-found c =
    whole_found _ _ _ c.in_ok-program.ensures (sym c.is_empty.ensures ∙ c.if-not-is_empty.false)

pub returns-clause-only : goal.returns-clause-only
returns-clause-only c program is =
    (only_done _ program _ _ is c.in_ok-program.ensures).0
