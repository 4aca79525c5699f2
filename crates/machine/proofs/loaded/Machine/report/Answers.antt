use Rattle.std.proofs.Common.{◌<◌, ◌≤◌, ◌++◌, length, get_or, map, ap, ◌∙◌, arith}
use Rattle.image_form.specs.Form.{function_of}
use Rattle.machine.specs.Heaps.{code_rows, function_rows}
use Rattle.machine.specs.Loaded.{ready_of}
use Rattle.machine.proofs.Reports.{function_next, functions_end}
use Rattle.machine.proofs.loaded.Machine.report.Goals as goal

pub loop-number-init : goal.loop-number-init
loop-number-init c =
    let ready = ready_of c.args.self.now in
    ap (λ rows. rows ++ function_rows ready.heap.tally ready.code.kinds 0 (map function_of c.args.self.now.image.now.functions.items)) c.new-rows.ensures.items

pub loop-number-preserved : goal.loop-number-preserved
loop-number-preserved c =
    let ready = ready_of c.args.self.now in
    let tally = ready.heap.tally in
    let kinds = ready.code.kinds in
    let functions = c.args.self.now.image.now.functions.items in
    let number = c.loop-number.number in
    let function = c.function-item.result in
    let same = c.deref-function-items.ensures.value in
    let long = ap (λ fs. length fs) same in
    let there : number < length functions = omega arith in
    let is = c.function-item.is ∙ ap (λ fs. get_or fs number function) same in
    let rows = c.in_ok-append_rows.ensures ∙ ap (λ code. c.loop-number.rows.items ++ code_rows tally kinds number 0 code) c.deref.ensures.value in
    function_next tally kinds c.loop-number.rows.items c.append_rows.new.rows.items _ functions number function there is rows c.loop-number.invariant

pub returns-clause-rows : goal.returns-clause-rows
returns-clause-rows c =
    let ready = ready_of c.args.self.now in
    let functions = c.args.self.now.image.now.functions.items in
    let same = ap (λ fs. length fs) c.deref-function-items.ensures.value in
    let past : length functions ≤ c.loop-number.number = omega arith in
    functions_end ready.heap.tally ready.code.kinds c.loop-number.rows.items _ functions c.loop-number.number past c.loop-number.invariant
