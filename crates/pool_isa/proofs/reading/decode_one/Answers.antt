use Rattle.std.proofs.Common.{◌-◌, length, drop, refl, sym, ◌∙◌}
use Rattle.std.proofs.lemmas.List.{take_rest}
use Rattle.pool_isa.specs.Instr.{spelling, IsInstrSpelling}
use Rattle.pool_isa.proofs.Faults.{from_place, stands, fault_from, nothing_stands, same_answer}
use Rattle.pool_isa.proofs.Instrs.{same_instr, instrs_prefix_free}
use Rattle.pool_isa.proofs.reading.decode_one.Goals as goal

pub returns-in-Ok-clause-only : goal.returns-in-Ok-clause-only
returns-in-Ok-clause-only c i rest fits e =
    let parts = from_place c.args.bytes.now c.args.at (spelling c.in-Ok.instr) c.in-Ok.rest.now c.in-Ok.ensures.parts in
    let placed = stands c.args.bytes.now c.args.at (spelling c.in-Ok.instr) c.in-Ok.rest.now c.requires parts in
    same_answer spelling c.in-Ok.instr i c.args.at (length c.args.bytes.now - length c.in-Ok.rest.now) (same_instr c.in-Ok.instr i c.in-Ok.rest.now rest (sym parts ∙ e)).0 placed.end_is

pub returns-in-Err-clause-only : goal.returns-in-Err-clause-only
returns-in-Err-clause-only c i rest fits e =
    absurd (nothing_stands IsInstrSpelling instrs_prefix_free (drop c.args.at c.args.bytes.now) c.in-Err.good (spelling i) rest (rw take_rest at c.in-Err.ensures.fault) (i, fits, refl) e)

pub returns-in-Err-clause-fault : goal.returns-in-Err-clause-fault
returns-in-Err-clause-fault c = fault_from IsInstrSpelling c.args.bytes.now c.args.at c.in-Err.good (rw take_rest at c.in-Err.ensures.fault)
