use Rattle.std.proofs.Common.{◌≡◌, neg_ℤ, pos, ◌-ℤ◌, ap, ◌∙◌, arith, to_z, of_z}
use Rattle.std.specs.Int.{w128}
use Rattle.std.proofs.lemmas.Int.{ints}
use Rattle.c_num.specs.Arith.{fitted}
use Rattle.c_num.proofs.Outcomes.{negated-overflow, negated-only_overflow, negated-in_range, fitted_negation}
use Rattle.c_num.proofs.Words.{value_bounds}
use Rattle.c_num.proofs.arith.negate.Goals as goal

pub returns : goal.returns
returns c =
    let bounds = value_bounds c.args.t c.args.a c.requires in
    let e : to_z w128 (of_z w128 (pos 0 -ℤ to_z w128 (of_z w128 c.args.a))) ≡ neg_ℤ c.args.a = omega (arith, ints) in
    let outcome = c.fit.ensures ∙ ap (fitted c.args.t) e ∙ fitted_negation c.args.t c.args.a in
    record {
      outcome = outcome;
      overflow = rw outcome (negated-overflow c.args.t c.args.a c.requires);
      only_overflow = rw outcome (negated-only_overflow c.args.t c.args.a);
      in_range = rw outcome (negated-in_range c.args.t c.args.a);
    }
