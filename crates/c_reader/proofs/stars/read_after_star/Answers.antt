use Rattle.std.proofs.Common.{arith}
use Rattle.c_grammar.specs.Forms as forms
use Rattle.c_grammar.specs.Leaves.{leaves_of}
use Rattle.c_reader.specs.Shapes.{stars_after}
use Rattle.c_reader.specs.Steps.{GivesStars}
use Rattle.c_reader.proofs.Results.{passed_on}
use Rattle.c_reader.proofs.StarRows.{no_stars, one_star, one_const, last_star, stars_cut}
use Rattle.c_reader.proofs.stars.read_after_star.Goals as goal

pub loop-rest-init : goal.loop-rest-init
loop-rest-init c = record { so_far = λ room. no_stars room _; counted = omega arith }

pub returns-in_err-first_kind-clause-gives : goal.returns-in_err-first_kind-clause-gives
returns-in_err-first_kind-clause-gives c room =
    passed_on c.from_residual.result _ (λ r. GivesStars forms.AfterStar stars_after room (leaves_of c.args.tokens.now) r) c.from_residual.ensures.1 (stars_cut room _ (c.loop-rest.invariant.so_far room) c.in_err-first_kind.ensures.none c.in_err-first_kind.ensures.misfit)

pub overflow_add-count : goal.overflow_add-count
overflow_add-count c = omega (arith, c.loop-rest.invariant.counted, c.in_ok-rest-in-Star.ensures.shorter)

pub loop-rest-preserved-in-Star : goal.loop-rest-preserved-in-Star
loop-rest-preserved-in-Star c =
    record {
      so_far = λ room. one_star (c.loop-rest.invariant.so_far room) c.in_ok-first_kind.ensures.found c.in-Star.is c.in_ok-rest-in-Star.ensures.found;
      counted = omega (arith, c.loop-rest.invariant.counted, c.in_ok-rest-in-Star.ensures.shorter);
    }

pub loop-rest-preserved : goal.loop-rest-preserved
loop-rest-preserved c =
    record {
      so_far = λ room. one_const (c.loop-rest.invariant.so_far room) c.in_ok-first_kind.ensures.found c.in-Const.is c.in_ok-rest-in-Const.ensures.found;
      counted = omega (arith, c.loop-rest.invariant.counted, c.in_ok-rest-in-Const.ensures.shorter);
    }

pub returns-in_default : goal.returns-in_default
returns-in_default c =
    record {
      gives = λ room. last_star (c.loop-rest.invariant.so_far room) c.in_ok-first_kind.ensures.found c.in_default.not-Star c.in_default.not-Const;
      counted = c.loop-rest.invariant.counted;
    }
