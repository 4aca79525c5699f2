-- Unsigned numbers as bytes: LEB128, in the shortest form.
use Rattle.std.specs.Prelude.{◌≡◌, ℕ, zero, suc, ◌+◌, ◌*◌, ◌/◌, ◌%◌, ◌^◌, ◌<◌, ◌≤◌, Bool, true, false, nat_lt, List, [], ◌∷◌}

-- Seven bits a byte, the least first, and 128 more in each byte but the last. A byte is the last where what is left
-- is below 128, as `last` says. There are at most as many bytes as the depth, and one.
abbrev pub number_digits : ℕ → Bool → ℕ → List ℕ
number_digits zero last n = n ∷ []
number_digits (suc depth) true n = n ∷ []
number_digits (suc depth) false n = (128 + n % 128) ∷ number_digits depth (nat_lt (n / 128) 128) (n / 128)

-- the bytes of a number
unfoldable pub number_bytes : ℕ → List ℕ
number_bytes n = number_digits n (nat_lt n 128) n

-- The same as a grammar: a byte below 128 is the last, and stands for itself. One from 128 on has the low seven
-- bits, and the bytes after it stand for the rest, which isn't 0.
abbrev pub IsNumber : List ℕ → ℕ → Type 0
IsNumber [] n = ⊥
IsNumber (b ∷ []) n = (b < 128) × (n ≡ b)
IsNumber (b ∷ c ∷ bs) n = (128 ≤ b) × (b < 256) × ((high : ℕ) × (0 < high) × (n + 128 ≡ b + 128 * high) × IsNumber (c ∷ bs) high)

-- the bytes of a number of 64 bits
abbrev pub IsNumberSpelling : List ℕ → Type 0
IsNumberSpelling bytes = (n : ℕ) × (n < 2 ^ 64) × (bytes ≡ number_bytes n)

-- the bytes that may follow a first byte from 128 on: of a number that isn't 0, below a bound
abbrev pub IsHighSpelling : ℕ → List ℕ → Type 0
IsHighSpelling more bytes = (n : ℕ) × (0 < n) × (n < 2 * 128 ^ more) × (bytes ≡ number_bytes n)
