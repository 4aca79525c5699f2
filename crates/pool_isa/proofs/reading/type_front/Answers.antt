use Rattle.std.proofs.Common.{◌-◌, ℕ, List, length, get_or, take, drop, refl, sym, subst, arith}
use Rattle.std.proofs.lemmas.List.{nil_from_length}
use Rattle.pool_isa.specs.Spelling.{IsFault}
use Rattle.pool_isa.specs.Code.{IsTypeSpelling}
use Rattle.pool_isa.proofs.Faults.{first_and_rest}
use Rattle.pool_isa.proofs.Instrs.{type_at_end, type_unknown}
use Rattle.pool_isa.proofs.reading.type_front.Goals as goal

pub returns-in_default-clause-fault : goal.returns-in_default-clause-fault
returns-in_default-clause-fault c =
    let empty = nil_from_length c.args.bytes.now (omega (arith, c.in_default.len_below)) in
    rw empty type_at_end

pub returns-in-None-clause-fault : goal.returns-in-None-clause-fault
returns-in-None-clause-fault c =
    let bytes = c.args.bytes.now in
    subst (λ (bs : List ℕ). IsFault IsTypeSpelling bs 0) (sym (first_and_rest bytes (get_or bytes 0 0) c.in-len1-up.len_at_least refl)) (type_unknown (get_or bytes 0 0) (take (length bytes - 1) (drop 1 bytes)) c.in-None.ensures.unknown)
