use Rattle.image_form.proofs.ImageFields.{unique_image}
use Rattle.image_form.proofs.laws.no_image_begins_another.Goals as goal

pub returns : goal.returns
returns c = unique_image
