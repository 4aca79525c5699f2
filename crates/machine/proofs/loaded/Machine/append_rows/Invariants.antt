use Rattle.std.proofs.Common.{◌≡◌, ◌++◌, drop}
use Rattle.machine.specs.Heaps.{code_rows}
use Rattle.machine.specs.Loaded.{ready_of}
use Rattle.machine.proofs.loaded.Machine.append_rows.Given as goal

abbrev pub invariant-loop-place : goal.invariant-loop-place
invariant-loop-place l =
    let ready = ready_of l.self in
    l.rows.items ++ code_rows ready.heap.tally ready.code.kinds l.function l.place (drop l.place l.code) ≡ l.initial.rows.items ++ code_rows ready.heap.tally ready.code.kinds l.function 0 l.code
