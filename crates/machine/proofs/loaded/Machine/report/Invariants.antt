use Rattle.std.proofs.Common.{◌≡◌, ◌++◌, drop, map}
use Rattle.image_form.specs.Form.{function_of}
use Rattle.machine.specs.Heaps.{function_rows}
use Rattle.machine.specs.Loaded.{ready_of}
use Rattle.machine.proofs.loaded.Machine.report.Given as goal

abbrev pub invariant-loop-number : goal.invariant-loop-number
invariant-loop-number l =
    let ready = ready_of l.self in
    let functions = l.self.image.now.functions.items in
    l.rows.items ++ function_rows ready.heap.tally ready.code.kinds l.number (map function_of (drop l.number functions)) ≡ function_rows ready.heap.tally ready.code.kinds 0 (map function_of functions)
