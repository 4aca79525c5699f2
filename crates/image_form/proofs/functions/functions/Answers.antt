use Rattle.std.proofs.Common.{◌≡◌, ◌++◌, [], ◌∷◌, ◌∙◌, ap, map, subst}
use Rattle.std.proofs.lemmas.List.{map-append}
use Rattle.image_form.specs.Form.{function_of, function_bytes}
use Rattle.image_form.specs.Reading.{Spelled, Refuses, IsFunctionUpTo, IsFunctionAt, functions_of}
use Rattle.image_form.proofs.FunctionFields.{unique_function, trapping_at}
use Rattle.image_form.proofs.Lists.{kept_more, item_refused}
use Rattle.image_form.proofs.functions.functions.Goals as goal

pub returns-in-Err : goal.returns-in-Err
returns-in-Err c =
    item_refused function_bytes (IsFunctionAt c.args.kinds c.args.count) (unique_function c.args.kinds c.args.count) (trapping_at c.args.kinds c.args.count) c.args.bytes.now c.args.at c.args.count c.loop-index.here c.loop-index.index (functions_of c.loop-index.functions) c.in-Err.fault c.loop-index-test.true c.loop-index.invariant
    (subst (λ most. Refuses (Spelled (IsFunctionUpTo most c.args.kinds c.args.count) function_bytes) c.args.bytes.now c.loop-index.here c.in-Err.fault) c.most_parameters-most.ensures c.in-Err.ensures)

pub loop-index-preserved : goal.loop-index-preserved
loop-index-preserved c =
    let more : functions_of c.push.new.self ≡ functions_of c.loop-index.functions ++ function_of c.in-Ok.found.0 ∷ [] = ap (map function_of) c.in-Ok-push.ensures.items ∙ map-append function_of c.loop-index.functions.items (c.in-Ok.found.0 ∷ []) in
    kept_more function_bytes (IsFunctionAt c.args.kinds c.args.count) (unique_function c.args.kinds c.args.count) (trapping_at c.args.kinds c.args.count) c.args.bytes.now c.args.at c.args.count c.loop-index.here c.in-Ok.found.1 c.loop-index.index (functions_of c.loop-index.functions) (functions_of c.push.new.self) (function_of c.in-Ok.found.0) c.loop-index-test.true more
    (subst (λ most. IsFunctionUpTo most c.args.kinds c.args.count (function_of c.in-Ok.found.0)) c.most_parameters-most.ensures c.in-Ok.ensures.0) c.in-Ok.ensures.1 c.loop-index.invariant
