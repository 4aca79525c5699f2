use Rattle.std.proofs.lemmas.List.{take_rest}
use Rattle.pool_isa.specs.Number.{number_bytes}
use Rattle.pool_isa.specs.Ranges.{IsWithin}
use Rattle.pool_isa.proofs.Faults.{fault_from}
use Rattle.image_form.specs.Reading.{Spelled}
use Rattle.image_form.proofs.number.number_within.Goals as goal

pub returns-in-Err : goal.returns-in-Err
returns-in-Err c = fault_from (Spelled (IsWithin c.args.low c.args.high) number_bytes) c.args.bytes.now c.args.at c.in-Err.good (rw take_rest at c.in-Err.ensures.fault)
