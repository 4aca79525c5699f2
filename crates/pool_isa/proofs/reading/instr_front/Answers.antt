use Rattle.std.proofs.Common.{◌+◌, ◌-◌, ℕ, List, length, get_or, take, drop, refl, sym, subst, arith}
use Rattle.std.proofs.lemmas.List.{nil_from_length}
use Rattle.pool_isa.specs.Spelling.{IsFault}
use Rattle.pool_isa.specs.Instr.{IsInstrSpelling}
use Rattle.pool_isa.proofs.Faults.{first_and_rest}
use Rattle.pool_isa.proofs.Instrs.{instr_at_end, instr_unknown, number_form_behind, type_form_behind, type_form_parts}
use Rattle.pool_isa.proofs.reading.instr_front.Goals as goal

pub returns-in_default-clause-fault : goal.returns-in_default-clause-fault
returns-in_default-clause-fault c =
    let empty = nil_from_length c.args.bytes.now (omega (arith, c.in_default.len_below)) in
    rw empty instr_at_end

pub returns-in-None-clause-fault : goal.returns-in-None-clause-fault
returns-in-None-clause-fault c =
    let bytes = c.args.bytes.now in
    let parts = first_and_rest bytes (get_or bytes 0 0) c.in-len1-up.len_at_least refl in
    subst (λ (bs : List ℕ). IsFault IsInstrSpelling bs 0) (sym parts) (instr_unknown (get_or bytes 0 0) (take (length bytes - 1) (drop 1 bytes)) c.in-None.ensures.unknown)

pub returns-in-Err-clause-fault : goal.returns-in-Err-clause-fault
returns-in-Err-clause-fault c =
    let bytes = c.args.bytes.now in
    let parts = first_and_rest bytes (get_or bytes 0 0) c.in-len1-up.len_at_least refl in
    let has = rw c.in-Some-Numbered.field-0-is at c.in-Some-Numbered.ensures.known in
    subst (λ (bs : List ℕ). IsFault IsInstrSpelling bs (c.in-Err.good + 1)) (sym parts) (number_form_behind c.in-Some-Numbered.form (get_or bytes 0 0) (take (length bytes - 1) (drop 1 bytes)) c.in-Err.good has c.in-Err.ensures.fault)

pub returns-in-Ok-type_front-clause-parts : goal.returns-in-Ok-type_front-clause-parts
returns-in-Ok-type_front-clause-parts c =
    let bytes = c.args.bytes.now in
    let parts = first_and_rest bytes (get_or bytes 0 0) c.in-len1-up.len_at_least refl in
    let has = rw c.in-Some-Typed.field-0-is at c.in-Some-Typed.ensures.known in
    type_form_parts c.in-Some-Typed.form (get_or bytes 0 0) c.in-Ok-type_front.int_type c.with-in-Ok-type_front.result bytes (take (length bytes - 1) (drop 1 bytes)) c.in-Ok-type_front.rest.now has parts c.in-Ok-type_front.ensures.parts c.with-in-Ok-type_front.ensures

pub returns-in-Err-type_front-clause-fault : goal.returns-in-Err-type_front-clause-fault
returns-in-Err-type_front-clause-fault c =
    let bytes = c.args.bytes.now in
    let parts = first_and_rest bytes (get_or bytes 0 0) c.in-len1-up.len_at_least refl in
    let has = rw c.in-Some-Typed.field-0-is at c.in-Some-Typed.ensures.known in
    subst (λ (bs : List ℕ). IsFault IsInstrSpelling bs (c.in-Err-type_front.good + 1)) (sym parts) (type_form_behind c.in-Some-Typed.form (get_or bytes 0 0) (take (length bytes - 1) (drop 1 bytes)) c.in-Err-type_front.good has c.in-Err-type_front.ensures.fault)
