use Rattle.std.proofs.Common.{arith}
use Rattle.c_grammar.specs.Forms as forms
use Rattle.c_grammar.specs.Leaves.{leaves_of}
use Rattle.c_reader.specs.Shapes.{stars_of}
use Rattle.c_reader.specs.Steps.{GivesStars}
use Rattle.c_reader.proofs.Results.{passed_on}
use Rattle.c_reader.proofs.Rows.{no_row, no_tokens}
use Rattle.c_reader.proofs.StarRows.{some_stars, stars_fault, without_stars}
use Rattle.c_reader.proofs.stars.read_stars.Goals as goal

pub returns-in_err-first_kind-clause-gives : goal.returns-in_err-first_kind-clause-gives
returns-in_err-first_kind-clause-gives c room =
    passed_on c.from_residual.result _ (λ r. GivesStars forms.Stars stars_of room (leaves_of c.args.tokens.now) r) c.from_residual.ensures.1 (no_row room _ (no_tokens forms.Stars 0 c.in_err-first_kind.ensures.none) c.in_err-first_kind.ensures.misfit)

pub returns-in_err-count-in-Star-clause-gives : goal.returns-in_err-count-in-Star-clause-gives
returns-in_err-count-in-Star-clause-gives c room =
    passed_on c.from_residual-in_err-count-in-Star.result _ (λ r. GivesStars forms.Stars stars_of room (leaves_of c.args.tokens.now) r) c.from_residual-in_err-count-in-Star.ensures.1 (stars_fault room _ c.in_ok-first_kind.ensures.found c.in-Star.is c.in_ok-star-in-Star.ensures.found (c.in_err-count-in-Star.ensures.gives room))

pub returns-in_ok-count-in-Star-clause-gives : goal.returns-in_ok-count-in-Star-clause-gives
returns-in_ok-count-in-Star-clause-gives c room =
    some_stars c.in_ok-first_kind.ensures.found c.in-Star.is c.in_ok-star-in-Star.ensures.found (c.in_ok-count-in-Star.ensures.gives room)

pub returns-in_default : goal.returns-in_default
returns-in_default c =
    record {
      gives = λ room. without_stars c.in_ok-first_kind.ensures.found c.in_default.not-Star;
      counted = omega arith;
    }
