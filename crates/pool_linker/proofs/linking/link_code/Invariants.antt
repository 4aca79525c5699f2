use Rattle.std.proofs.Common.{◌≡◌, ◌++◌, map, take, drop}
use Rattle.pool_linker.specs.Linking.{linked_instr}
use Rattle.pool_linker.proofs.linking.link_code.Given as goal

-- the instructions so far are linked, and the others are as they were
abbrev pub invariant-loop-instr : goal.invariant-loop-instr
invariant-loop-instr l = l.code ≡ map (linked_instr l.numbers) (take l.instr-index l.fn.code) ++ drop l.instr-index l.fn.code
