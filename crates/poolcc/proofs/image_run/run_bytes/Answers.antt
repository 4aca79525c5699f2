use Rattle.std.proofs.Common.{ℕ, sym, subst}
use Rattle.pcc_words.specs.declared.status.Status.{Status}
use Rattle.image_form.specs.Form.{form_of}
use Rattle.image_form.specs.declared.image.Image.{Image}
use Rattle.image_form.specs.declared.image.ImageErr.{ImageErr}
use Rattle.image_form.specs.Reading.{IsDecodedUnlessMemory}
use Rattle.image_form.specs.Faults.{IsBad, IsBadAt}
use Rattle.std.specs.Prelude.{Err}
use Rattle.poolcc.specs.ImageRun.{ImageGives}
use Rattle.poolcc.proofs.ImageRunning.{image_gives}
use Rattle.poolcc.proofs.image_run.run_bytes.Goals as goal

pub returns-in-Ok-clause-gives : goal.returns-in-Ok-clause-gives
returns-in-Ok-clause-gives g c = λ left base l w.
    subst (λ (status : Status). ImageGives c.args.bytes.now c.args.steps left base status (g.I.Source.left c.run_image.new.input) (g.O.Sink.written c.run_image.new.out)) (sym c.status_of.ensures.same)
    (image_gives c.args.bytes.now c.args.steps left base (g.I.Source.left c.run_image.new.input) (g.O.Sink.written c.run_image.new.out) c.requires (form_of c.in-Ok.image) c.in-Ok.ensures.found c.run_image.result (c.run_image.ensures.gives left base l w))

pub returns-in-Err-Bad-clause-gives : goal.returns-in-Err-Bad-clause-gives
returns-in-Err-Bad-clause-gives g c = λ left base l w. (
  record {
    short = c.requires;
    none = λ is. subst (λ (e : ImageErr). IsDecodedUnlessMemory {T = Image} form_of (Err e) is.0) c.in-Err-Bad.field-0-is (c.in-Err-Bad.ensures.only is.0 is.1);
    bad = subst (λ (place : ℕ). IsBadAt c.args.bytes.now place) (sym c.in-Err-Bad.place-is) (subst (λ (e : ImageErr). IsBad c.args.bytes.now e) c.in-Err-Bad.field-0-is c.in-Err-Bad.ensures.bad);
  },
  record { input = l; output = w },
)
