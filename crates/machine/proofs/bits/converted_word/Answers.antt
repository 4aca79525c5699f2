use Rattle.std.proofs.Common.{arith}
use Rattle.machine.proofs.Extended.{masked_8, masked_16, masked_32, wide_word}
use Rattle.machine.proofs.bits.converted_word.Goals as goal

pub returns-in-UInt : goal.returns-in-UInt
returns-in-UInt c = let e = masked_32 c.args.number in cc

pub returns-in-UShort : goal.returns-in-UShort
returns-in-UShort c = let e = masked_16 c.args.number in cc

pub returns-in-UChar : goal.returns-in-UChar
returns-in-UChar c = let e = masked_8 c.args.number in cc

pub returns-in-Long : goal.returns-in-Long
returns-in-Long c = wide_word c.args.int_type c.args.number (omega arith) c.in-Long.is
