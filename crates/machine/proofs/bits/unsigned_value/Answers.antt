use Rattle.std.proofs.Common.{pos, ap, ◌∙◌}
use Rattle.machine.proofs.Extended.{unsigned_read}
use Rattle.machine.proofs.bits.unsigned_value.Goals as goal

pub returns : goal.returns
returns c = ap pos c.converted_word.ensures ∙ unsigned_read c.args.int_type c.args.word c.requires
