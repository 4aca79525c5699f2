use Rattle.std.proofs.Common.{◌≡◌, ◌+◌, [], ◌∷◌, drop, sym, subst}
use Rattle.tac_build.proofs.LocalsSoFar.{drop_next, drop_past}
use Rattle.tac_build.proofs.ProgramCodes.{FunctionsSoFar, functions_begin, functions_at, function_typed, functions_next, functions_lower}
use Rattle.tac_build.proofs.lowering.functions.Goals as goal

pub loop-definition-init : goal.loop-definition-init
loop-definition-init c = functions_begin c.args.source.now c.new-functions.result.items c.new-functions.ensures.items c.requires.source c.requires.nodes

pub function-requires-clause-typed : goal.function-requires-clause-typed
function-requires-clause-typed c =
    let source = c.args.source.now in let all = source.program.functions.items in let here = c.loop-definition.definition-index in let made = c.loop-definition.functions.items in
    let list = c.deref-definition-items.result.now in let same = c.deref-definition-items.ensures.value in
    let definition = c.definition-item.result in let rest = drop (here + 1) all in
    let next = subst (λ items. drop here items ≡ definition ∷ drop (here + 1) items) same (drop_next list here definition c.loop-definition-test.true c.definition-item.is) in
    let far = functions_at source all (drop here all) definition rest made next c.loop-definition.invariant in
    function_typed source all rest definition made far

pub loop-definition-preserved : goal.loop-definition-preserved
loop-definition-preserved c =
    let source = c.args.source.now in let all = source.program.functions.items in let here = c.loop-definition.definition-index in let made = c.loop-definition.functions.items in
    let list = c.deref-definition-items.result.now in let same = c.deref-definition-items.ensures.value in
    let definition = c.definition-item.result in let rest = drop (here + 1) all in
    let next = subst (λ items. drop here items ≡ definition ∷ drop (here + 1) items) same (drop_next list here definition c.loop-definition-test.true c.definition-item.is) in
    let far = functions_at source all (drop here all) definition rest made next c.loop-definition.invariant in
    subst (FunctionsSoFar source all rest) (sym c.in_ok-push.ensures.items) (functions_next source all rest definition made far c.in_ok-function.field-0 c.in_ok-function.ensures)

pub returns : goal.returns
returns c =
    let source = c.args.source.now in let all = source.program.functions.items in let here = c.loop-definition.definition-index in let made = c.loop-definition.functions.items in
    let list = c.deref-definition-items.result.now in let same = c.deref-definition-items.ensures.value in
    functions_lower source (drop here all) made (subst (λ items. drop here items ≡ []) same (drop_past list here c.loop-definition-test.false)) c.loop-definition.invariant
