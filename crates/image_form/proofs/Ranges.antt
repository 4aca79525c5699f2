-- Numbers within a range: their first byte, and where the first fault is.
use Rattle.std.proofs.Common.{◌≡◌, ℕ, ◌+◌, ◌-◌, ◌*◌, ◌/◌, ◌%◌, ◌<◌, ◌≤◌, List, [], ◌∷◌, ◌++◌, sym, ap, ◌∙◌, arith, ◌⊎◌, inl, inr}
use Rattle.std.proofs.lemmas.Bool.{cases_lt}
use Rattle.pool_isa.specs.Spelling.{StandsAt, IsCutShort, IsFault}
use Rattle.pool_isa.specs.Number.{number_bytes}
use Rattle.pool_isa.specs.Ranges.{IsWithin}
use Rattle.pool_isa.proofs.Faults.{fault_at_end, fault_here, fault_behind}
use Rattle.pool_isa.proofs.Numbers.{number_bytes-small, number_bytes-large, number_bytes-more, same_number}
use Rattle.image_form.specs.declared.image.ImageErr.{ImageErr}
use Rattle.image_form.specs.Reading.{Spelled, Refuses}
use Rattle.image_form.proofs.Fields.{IsUnique, Then, goes_on, refused_first, refused_behind}

-- a byte with which the bytes of a number begin
begins : (n b : ℕ) (x : List ℕ) → b ∷ x ≡ number_bytes n → ((n < 128) × (n ≡ b)) ⊎ ((128 ≤ n) × (128 + n % 128 ≡ b) × (x ≡ number_bytes (n / 128)))
begins n b x e =
    elim (cases_lt n 128) [
      | inl small ↦ let parts : n ∷ [] ≡ b ∷ x = sym (number_bytes-small n small) ∙ sym e in inl (small, cc)
      | inr large ↦ let parts : (128 + n % 128) ∷ number_bytes (n / 128) ≡ b ∷ x = sym (number_bytes-large n large) ∙ sym e in inr (large, cc, cc)
    ]

pub one_byte : (bytes rest : List ℕ) (b : ℕ) → bytes ≡ b ∷ rest → b < 128 → bytes ≡ number_bytes b ++ rest
one_byte bytes rest b e lt = e ∙ ap (λ t. t ++ rest) (sym (number_bytes-small b lt))

pub more_bytes : (bytes after rest : List ℕ) (b more : ℕ) → bytes ≡ b ∷ after → after ≡ number_bytes more ++ rest → 128 ≤ b → b < 256 → 0 < more → bytes ≡ number_bytes (b - 128 + 128 * more) ++ rest
more_bytes bytes after rest b more e e' ge lt pos = e ∙ ap (λ t. b ∷ t) e' ∙ ap (λ t. t ++ rest) (sym (number_bytes-more b more ge lt pos))

pub unique_number : (low high : ℕ) → IsUnique (IsWithin low high) number_bytes
unique_number low high a b x y p q e = same_number a b x y e

module _ (low high : ℕ) (small : low ≤ 1) (some : low ≤ high) where
  one_follows : IsCutShort (Spelled (IsWithin low high) number_bytes) []
  one_follows = (low, [], (low, (omega arith, some), sym (number_bytes-small low (omega arith))))

  pub range_at_end : IsFault (Spelled (IsWithin low high) number_bytes) [] 0
  range_at_end = fault_at_end (Spelled (IsWithin low high) number_bytes) one_follows

  -- no number of the range has the byte, nor begins with it
  pub byte_outside : (b : ℕ) (bs : List ℕ) → (b < low) ⊎ ((low ≤ b) × (high < b)) → IsFault (Spelled (IsWithin low high) number_bytes) (b ∷ bs) 0
  byte_outside b bs out =
      fault_here (Spelled (IsWithin low high) number_bytes) b bs one_follows (λ h. no h.0 h.1.0 h.1.1 (begins h.1.0 b h.0 h.1.2) out)
    where
      no : (rest : List ℕ) (n : ℕ) → IsWithin low high n → ((n < 128) × (n ≡ b)) ⊎ ((128 ≤ n) × (128 + n % 128 ≡ b) × (rest ≡ number_bytes (n / 128))) → (b < low) ⊎ ((low ≤ b) × (high < b)) → ⊥
      no rest n is (inl p) (inl below) = omega (arith, is.0, p.1)
      no rest n is (inl p) (inr above) = omega (arith, is.1, p.1, above.1)
      no rest n is (inr p) (inl below) = omega (arith, p.1)
      no rest n is (inr p) (inr above) = omega (arith, is.1, p.0, p.1, above.1)

  -- the bytes behind one from 128 on stand for what is left of the range
  pub fault_in_rest : (b : ℕ) (bs : List ℕ) (good : ℕ) → 128 ≤ b → b < 256 → b ≤ high → IsFault (Spelled (IsWithin 1 ((high - (b - 128)) / 128)) number_bytes) bs good → IsFault (Spelled (IsWithin low high) number_bytes) (b ∷ bs) (good + 1)
  fault_in_rest b bs good ge lt le =
      fault_behind (Spelled (IsWithin 1 ((high - (b - 128)) / 128)) number_bytes) (Spelled (IsWithin low high) number_bytes) b bs good
      (λ x h. (b - 128 + 128 * h.0, (let p = h.1.0 in omega arith, let p = h.1.1 in omega arith), ap (λ t. b ∷ t) h.2 ∙ sym (number_bytes-more b h.0 ge lt h.1.0)))
      (λ x h. rest x h.0 h.1 (begins h.0 b x h.2))
    where
      rest : (x : List ℕ) (n : ℕ) → IsWithin low high n → ((n < 128) × (n ≡ b)) ⊎ ((128 ≤ n) × (128 + n % 128 ≡ b) × (x ≡ number_bytes (n / 128))) → Spelled (IsWithin 1 ((high - (b - 128)) / 128)) number_bytes x
      rest x n is (inl p) = absurd (omega (arith, p.0, p.1))
      rest x n is (inr p) = (n / 128, (let q = p.0 in omega arith, let q = p.0 in let r = p.1 in let s = is.1 in omega arith), p.2)

-- ---- a number and what follows it

-- a number of the range, and then such bytes
abbrev pub Numbered : ℕ → ℕ → (List ℕ → Type 0) → List ℕ → Type 0
Numbered low high Rest bytes = Then (IsWithin low high) number_bytes (λ number rest. Rest rest) bytes

module _ (low high : ℕ) (Rest : List ℕ → Type 0) where
  pub some_number : low ≤ high → (bytes : List ℕ) × Rest bytes → (bytes : List ℕ) × Numbered low high Rest bytes
  some_number le rest = goes_on (IsWithin low high) number_bytes (unique_number low high) (λ number rest. Rest rest) low (omega arith, le) rest

  pub number_refused : (bytes : List ℕ) (at : ℕ) (fault : ImageErr) → (rest : List ℕ) × Rest rest → Refuses (Spelled (IsWithin low high) number_bytes) bytes at fault → Refuses (Numbered low high Rest) bytes at fault
  number_refused bytes at fault rest = refused_first (IsWithin low high) number_bytes (unique_number low high) (λ number rest. Rest rest) bytes at fault (λ n is. rest)

  pub behind_number : (bytes : List ℕ) (at mid n : ℕ) (fault : ImageErr) → IsWithin low high n → StandsAt bytes at mid (number_bytes n) → Refuses Rest bytes mid fault → Refuses (Numbered low high Rest) bytes at fault
  behind_number bytes at mid n fault = refused_behind (IsWithin low high) number_bytes (unique_number low high) (λ number rest. Rest rest) bytes at mid n fault
