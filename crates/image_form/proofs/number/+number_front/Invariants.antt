use Rattle.std.proofs.Common.{length}
use Rattle.image_form.proofs.number.+number_front.Given as goal

abbrev pub decreases-number_front : goal.decreases-number_front
decreases-number_front l = length l.bytes.now
