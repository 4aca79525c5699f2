use Rattle.image_form.proofs.KindFields.{kind_count_wrong, counted_kinds_answer}
use Rattle.image_form.proofs.kinds.counted_kinds.Goals as goal

pub returns-in-Err : goal.returns-in-Err
returns-in-Err c = kind_count_wrong c.args.bytes.now c.args.at c.in-Err.fault c.in-Err.ensures

pub returns : goal.returns
returns c = counted_kinds_answer c.args.bytes.now c.args.at c.in-Ok.found.1 c.in-Ok.found.0 c.kinds.result c.in-Ok.ensures.0 c.in-Ok.ensures.1 c.kinds.ensures
