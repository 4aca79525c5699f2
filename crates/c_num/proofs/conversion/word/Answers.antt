use Rattle.std.proofs.Common.{◌≡◌, ◌^◌, pos, nat_abs, FitsSigned, to_z-of_z, rules, ap}
use Rattle.std.specs.Int.{w128, int_rem_euclid}
use Rattle.c_num.specs.Conversion.{convert_to}
use Rattle.c_num.proofs.Conversions.{word_computed, convert_to-word}
use Rattle.c_num.proofs.conversion.word.Goals as goal

pub returns-clause-value : goal.returns-clause-value
returns-clause-value c =
    let x = c.convert.result in
    let r = c.rem_euclid.result in
    let fits_v : FitsSigned w128 c.args.v = search rules in
    let fits_x : FitsSigned w128 x = search rules in
    let fits_r : FitsSigned w128 r = search rules in
    let converted : x ≡ convert_to c.args.t c.args.v = simp to_z-of_z at c.convert.ensures.value in
    let rem : r ≡ int_rem_euclid x (pos (2 ^ 64)) = simp to_z-of_z at c.rem_euclid.ensures.value in
    rw to_z-of_z (ap nat_abs (word_computed c.args.t c.args.v x r converted rem))

pub returns-clause-back : goal.returns-clause-back
returns-clause-back c = rw (returns-clause-value c) (convert_to-word c.args.t c.args.v)
