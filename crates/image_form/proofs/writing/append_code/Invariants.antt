use Rattle.std.proofs.Common.{◌≡◌, ◌++◌, take, length}
use Rattle.std.specs.List.{flat_map}
use Rattle.pool_isa.specs.Instr.{spelling}
use Rattle.pool_isa.specs.Number.{number_bytes}
use Rattle.image_form.proofs.writing.append_code.Given as goal

-- the count and the instructions so far
abbrev pub invariant-loop-instr : goal.invariant-loop-instr
invariant-loop-instr l =
    l.bytes.items ≡ l.fn.bytes.items ++ (number_bytes (length l.code) ++ flat_map spelling (take l.instr-index l.code))
