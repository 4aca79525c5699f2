use Rattle.std.proofs.Common.{refl}
use Rattle.std.proofs.lemmas.Result.{err_from_is_err_and}
use Rattle.c_reader.proofs.DeclaratorRows as rows
use Rattle.c_reader.proofs.declarator.read_named.Goals as goal

pub returns-in_err-name-clause-gives : goal.returns-in_err-name-clause-gives
returns-in_err-name-clause-gives c =
    let p = err_from_is_err_and c.from_residual.result c.from_residual.ensures.1 in
    rw (p.1, p.2) (rows.unnamed _ _ _ c.in_err-name.ensures.gives)

pub returns-in_err-suffixes-clause-gives : goal.returns-in_err-suffixes-clause-gives
returns-in_err-suffixes-clause-gives c =
    let p = err_from_is_err_and c.from_residual-in_err-suffixes.result c.from_residual-in_err-suffixes.ensures.1 in
    rw (p.1, p.2) (rows.named_fault _ _ c.in_ok-name.ensures.gives c.in_err-suffixes.ensures.gives)

pub returns-clause-gives : goal.returns-clause-gives
returns-clause-gives c =
    rows.named_read c.in_ok-name.ensures.gives c.in_ok-suffixes.ensures.gives refl
