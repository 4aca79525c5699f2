use Rattle.image_form.proofs.FunctionFields.{function_count_wrong, counted_answer}
use Rattle.image_form.proofs.functions.counted_functions.Goals as goal

pub returns-in-Err : goal.returns-in-Err
returns-in-Err c = function_count_wrong c.args.kinds c.args.bytes.now c.args.at c.in-Err.fault c.in-Err.ensures

pub returns : goal.returns
returns c = counted_answer c.args.kinds c.args.bytes.now c.args.at c.in-Ok.found.1 c.in-Ok.found.0 c.functions.result c.in-Ok.ensures.0 c.in-Ok.ensures.1 c.functions.ensures
