use Rattle.std.proofs.Common.{subst}
use Rattle.c_types_state.specs.Finding.{ExprStands, AllStand}
use Rattle.c_types_expressions.proofs.constants.grouped.Goals as goal

pub returns-clause-stands : goal.returns-clause-stands
returns-clause-stands c = λ table h.
    let known = subst (AllStand ExprStands table) c.in-Some.is h in
    (known.0, c.in_ok-grouped_typed.ensures.stands table known.1, known.2)
