use Rattle.std.proofs.Common.{◌-◌, length, drop, refl, sym, ◌∙◌, arith}
use Rattle.std.proofs.lemmas.List.{take_rest}
use Rattle.pool_isa.specs.Number.{number_bytes, IsNumberSpelling}
use Rattle.pool_isa.proofs.Faults.{from_place, stands, fault_from, nothing_stands, same_answer}
use Rattle.pool_isa.proofs.Numbers.{same_number, some_byte, numbers_prefix_free}
use Rattle.pool_isa.proofs.number.decode_number.Goals as goal

pub returns-in-Ok-clause-only : goal.returns-in-Ok-clause-only
returns-in-Ok-clause-only c n rest lt e =
    let parts = from_place c.args.bytes.now c.args.at (number_bytes c.in-Ok.number) c.in-Ok.rest.now c.in-Ok.ensures.parts in
    let placed = stands c.args.bytes.now c.args.at (number_bytes c.in-Ok.number) c.in-Ok.rest.now c.requires parts in
    same_answer number_bytes c.in-Ok.number n c.args.at (length c.args.bytes.now - length c.in-Ok.rest.now) (same_number c.in-Ok.number n c.in-Ok.rest.now rest (sym parts ∙ e)).0 placed.end_is

pub returns-in-Err-clause-only : goal.returns-in-Err-clause-only
returns-in-Err-clause-only c n rest lt e =
    absurd (nothing_stands IsNumberSpelling numbers_prefix_free (drop c.args.at c.args.bytes.now) c.in-Err.good (number_bytes n) rest (rw take_rest at c.in-Err.ensures.fault) (n, lt, refl) e)

pub returns-in-Err-clause-fault : goal.returns-in-Err-clause-fault
returns-in-Err-clause-fault c = fault_from IsNumberSpelling c.args.bytes.now c.args.at c.in-Err.good (rw take_rest at c.in-Err.ensures.fault)

pub returns-in-Ok-clause-later : goal.returns-in-Ok-clause-later
returns-in-Ok-clause-later c =
    let parts = from_place c.args.bytes.now c.args.at (number_bytes c.in-Ok.number) c.in-Ok.rest.now c.in-Ok.ensures.parts in
    let placed = stands c.args.bytes.now c.args.at (number_bytes c.in-Ok.number) c.in-Ok.rest.now c.requires parts in
    omega (arith, placed.end_is, some_byte c.in-Ok.number)
