use Rattle.std.proofs.Common.{sym, subst}
use Rattle.pool_isa.specs.Spelling.{StandsAt}
use Rattle.image_form.specs.Form.{function_bytes}
use Rattle.image_form.specs.Reading.{IsFunctionUpTo, head_bytes, code_bytes}
use Rattle.pool_isa.proofs.Faults.{stands_then}
use Rattle.image_form.proofs.FunctionFields.{head_wrong, code_behind_wrong, function_is, function_joined}
use Rattle.image_form.proofs.functions.function.Goals as goal

pub returns-in-Err : goal.returns-in-Err
returns-in-Err c = head_wrong c.args.most c.args.kinds c.args.functions c.requires.few c.args.bytes.now c.args.at c.in-Err.fault c.in-Err.ensures

pub returns-in-Err-code : goal.returns-in-Err-code
returns-in-Err-code c = code_behind_wrong c.args.most c.args.kinds c.args.functions c.requires.few c.args.bytes.now c.args.at c.in-Ok.found.1 c.in-Ok.found.0 c.in-Err-code.fault c.in-Ok.ensures.0 c.in-Ok.ensures.1 c.in-Err-code.ensures

pub returns-in-Ok-code : goal.returns-in-Ok-code
returns-in-Ok-code c =
    let head = c.in-Ok.found.0 in
    let code = c.in-Ok-code.code.items in
    subst (λ f. IsFunctionUpTo c.args.most c.args.kinds c.args.functions f × StandsAt c.args.bytes.now c.args.at c.in-Ok-code.end (function_bytes f)) (sym c.with.ensures) (
      function_is c.args.most c.args.kinds c.args.functions head code c.requires.few c.in-Ok.ensures.0 c.in-Ok-code.ensures.0,
      subst (StandsAt c.args.bytes.now c.args.at c.in-Ok-code.end) (function_joined head code c.in-Ok-code.ensures.0.0) (stands_then c.args.bytes.now c.args.at c.in-Ok.found.1 c.in-Ok-code.end (head_bytes head) (code_bytes code) c.in-Ok.ensures.1 c.in-Ok-code.ensures.1),
    )
