use Rattle.std.proofs.Common.{◌∙◌, subst}
use Rattle.std.specs.Prelude.{Err}
use Rattle.image_form.specs.declared.image.Image.{Image}
use Rattle.image_form.specs.declared.image.ImageErr.{ImageErr}
use Rattle.image_form.specs.Form.{form_of, ImageOf}
use Rattle.image_form.specs.Reading.{IsDecodedUnlessMemory}
use Rattle.poolcc.proofs.text.round_trip.Goals as goal

pub returns-in-Ok-from_bytes-clause-same : goal.returns-in-Ok-from_bytes-clause-same
returns-in-Ok-from_bytes-clause-same c =
    let encoded : ImageOf c.deref.result.now (form_of c.args.image.now) = record { spelled = c.deref.ensures.value ∙ c.in-Ok.ensures; ranges = c.requires } in
    (c.deref.result.now, c.in-Ok-from_bytes.ensures.found, c.in-Ok-from_bytes.ensures.only (form_of c.args.image.now) encoded)

-- what was just encoded is an image
pub unreachable-requires : goal.unreachable-requires
unreachable-requires c =
    let encoded : ImageOf c.deref.result.now (form_of c.args.image.now) = record { spelled = c.deref.ensures.value ∙ c.in-Ok.ensures; ranges = c.requires } in
    subst (λ (e : ImageErr). IsDecodedUnlessMemory {T = Image} form_of (Err e) (form_of c.args.image.now)) c.in-Err-Bad.field-0-is (c.in-Err-Bad.ensures.only (form_of c.args.image.now) encoded)
