use Rattle.std.proofs.Common.{FitsSigned, to_z, ap, ◌∙◌, rules}
use Rattle.std.proofs.lemmas.Int.{to_z-of_z}
use Rattle.std.specs.Int.{w64}
use Rattle.machine.proofs.Extended.{signed_read}
use Rattle.machine.proofs.bits.signed_value.Goals as goal

pub returns : goal.returns
returns c =
    let fits : FitsSigned w64 c.cast_signed.result = search rules in
    to_z-of_z w64 c.cast_signed.result fits ∙ c.cast_signed.ensures ∙ ap (to_z w64) c.converted_word.ensures ∙ signed_read c.args.int_type c.args.word c.requires
