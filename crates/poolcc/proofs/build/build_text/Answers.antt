use Rattle.std.proofs.Common.{◌∙◌}
use Rattle.image_form.specs.Form.{form_of}
use Rattle.poolcc.proofs.Building.{all_written, part_written}
use Rattle.poolcc.proofs.build.build_text.Goals as goal

pub returns-in-Ok-write_all-clause-gives : goal.returns-in-Ok-write_all-clause-gives
returns-in-Ok-write_all-clause-gives g c = λ base w.
    all_written c.args.text.now c.args.limits base c.deref.result.now (g.O.Sink.written c.args.out.now) (g.O.Sink.written c.write_all.new.sink) (form_of c.in-Ok.image) c.requires.short c.in-Ok.ensures.compiled (c.deref.ensures.value ∙ c.in-Ok-to_bytes.ensures) w c.in-Ok-write_all.ensures.all

pub returns-clause-gives : goal.returns-clause-gives
returns-clause-gives g c = λ base w.
    part_written c.args.text.now c.args.limits base c.deref.result.now (g.O.Sink.written c.args.out.now) (g.O.Sink.written c.write_all.new.sink) (form_of c.in-Ok.image) c.requires.short c.in-Ok.ensures.compiled (c.deref.ensures.value ∙ c.in-Ok-to_bytes.ensures) w c.in-Err.ensures.part
