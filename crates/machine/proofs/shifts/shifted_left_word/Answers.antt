use Rattle.std.proofs.Common.{◌*◌, ◌^◌, pos}
use Rattle.machine.proofs.Results.{reduced_word}
use Rattle.machine.proofs.shifts.shifted_left_word.Goals as goal

pub returns : goal.returns
returns c = let e = reduced_word c.args.int_type (pos (c.args.left * 2 ^ c.amount_of.result)) in cc
