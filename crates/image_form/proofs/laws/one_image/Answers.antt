use Rattle.std.proofs.Common.{◌∙◌, [], sym, ap, ◌++◌}
use Rattle.image_form.proofs.ImageFields.{unique_image}
use Rattle.image_form.proofs.laws.one_image.Goals as goal

pub returns : goal.returns
returns c = λ bytes a b of of'. (unique_image a b [] [] of.ranges of'.ranges (ap (λ t. t ++ []) (sym of.spelled ∙ of'.spelled))).0
