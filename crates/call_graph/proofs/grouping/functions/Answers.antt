use Rattle.std.proofs.Common.{◌+◌, ◌∷◌, [], ◌++◌, get_or, refl, sym, ap, ◌∙◌, arith}
use Rattle.std.proofs.lemmas.List.{map-append}
use Rattle.tac_ir.specs.declared.register.FunctionId.{FunctionId}
use Rattle.call_graph.proofs.RowLists.{read_take, take_all}
use Rattle.call_graph.specs.ClassLists.{numbers_of}
use Rattle.call_graph.proofs.grouping.functions.Goals as goal

pub loop-number-init : goal.loop-number-init
loop-number-init c = ap numbers_of c.new-functions.ensures.items

pub loop-number-preserved : goal.loop-number-preserved
loop-number-preserved c =
    let numbers = c.args.numbers.now in
    let i = c.loop-number.number-index in
    let number = get_or numbers i 0 in
    ap numbers_of c.in_ok-push.ensures.items
    ∙ (map-append (λ (function : FunctionId). function.0) c.loop-number.functions.items _
    ∙ (ap (λ l. l ++ number ∷ []) c.loop-number.invariant ∙ sym (read_take numbers i (i + 1) number 0 refl (omega arith) refl)))

pub returns : goal.returns
returns c = c.loop-number.invariant ∙ take_all c.loop-number.number-index c.args.numbers.now (omega arith)
