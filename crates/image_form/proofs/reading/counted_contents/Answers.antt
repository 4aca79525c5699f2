use Rattle.image_form.proofs.ContentFields.{content_count_wrong, counted_contents_answer}
use Rattle.image_form.proofs.reading.counted_contents.Goals as goal

pub returns-in-Err : goal.returns-in-Err
returns-in-Err c = content_count_wrong c.args.size c.args.bytes.now c.args.at c.in-Err.fault c.in-Err.ensures

pub returns : goal.returns
returns c = counted_contents_answer c.args.size c.args.bytes.now c.args.at c.in-Ok.found.1 c.in-Ok.found.0 c.contents.result c.in-Ok.ensures.0 c.in-Ok.ensures.1 c.contents.ensures
