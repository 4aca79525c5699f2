use Rattle.image_form.proofs.KindFields.{tag_wrong, mixed_stands, kind_answer}
use Rattle.image_form.proofs.kinds.kind.Goals as goal

pub returns-in-Ok-eq0-default : goal.returns-in-Ok-eq0-default
returns-in-Ok-eq0-default c = (tt, mixed_stands c.args.bytes.now c.args.at c.in-Ok-eq0-default.end c.in-Ok-eq0-default.field-0-0 c.in-Ok-eq0-default.field-0-0-test c.in-Ok-eq0-default.ensures.1)

pub returns-in-Ok : goal.returns-in-Ok
returns-in-Ok c = kind_answer c.args.bytes.now c.args.at c.in-Ok.end c.in-Ok.field-0-0 c.homogeneous.result c.in-Ok.field-0-0-test.1 c.in-Ok.ensures.0 c.in-Ok.ensures.1 c.homogeneous.ensures

pub returns-in-Err : goal.returns-in-Err
returns-in-Err c = tag_wrong c.args.bytes.now c.args.at c.in-Err.fault c.in-Err.ensures
