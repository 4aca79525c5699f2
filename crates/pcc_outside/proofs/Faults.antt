-- Counts of faults over several calls.
use Rattle.std.proofs.Common.{ℕ, ◌≤◌, inl, inr, arith}
use Rattle.pcc_outside.specs.Outside.{Rose}

-- a count that rose in a later call rose since the start
pub Rose-after : (start old new : ℕ) → start ≤ old → Rose old new → Rose start new
Rose-after start old new h k = elim k as (λ _. Rose start new) [ inl more ↦ inl (omega arith) | inr last ↦ inr last ]

-- a count that rose in an earlier call rose until the end
pub Rose-before : (old new end : ℕ) → old ≤ new → Rose old new → new ≤ end → Rose old end
Rose-before old new end h k g = grind arith
