-- Tables of places.
use Rattle.std.proofs.Common.{◌≡◌, ℕ, zero, suc, ◌<◌, List, [], ◌∷◌, ◌++◌, length, refl, arith}
use Rattle.std.specs.Prelude.{slice_index, replicate}

-- a table of zeros
pub nowhere : (n k : ℕ) → slice_index (replicate n 0) k ≡ 0
nowhere zero zero = refl
nowhere zero (suc k) = refl
nowhere (suc n) zero = refl
nowhere (suc n) (suc k) = nowhere n k

-- what holds of each entry holds with one more
pub one_more_entry : (P : ℕ → ℕ → Type 0) (table : List ℕ) (entry : ℕ) → ((k : ℕ) → k < length table → P k (slice_index table k)) → P (length table) entry
    → (k : ℕ) → k < length (table ++ entry ∷ []) → P k (slice_index (table ++ entry ∷ []) k)
one_more_entry P [] entry each own zero within = own
one_more_entry P [] entry each own (suc k) within = absurd (omega arith)
one_more_entry P (x ∷ table) entry each own zero within = each zero (omega arith)
one_more_entry P (x ∷ table) entry each own (suc k) within =
    one_more_entry (λ n. P (suc n)) table entry (λ n below. each (suc n) (omega arith)) own k (omega arith)
