-- The bytes of numbers: one byte more, the grammar, and that none begins another.
use Rattle.std.proofs.Common.{◌≡◌, ℕ, zero, suc, ◌+◌, ◌-◌, ◌*◌, ◌/◌, ◌%◌, ◌^◌, ◌<◌, ◌≤◌, Bool, true, false, nat_lt, List, [], ◌∷◌, ◌++◌, length, take, refl, sym, ap, subst, ◌∙◌, append_assoc, arith, ◌⊎◌, inl, inr}
use Rattle.std.proofs.lemmas.Bool.{cases_lt, ltb-false, le-ltb, lt-ltb}
use Rattle.std.proofs.Math.Nat.{one-le-pow, pow-succ', pow-le-pow_right}
use Rattle.std.proofs.lemmas.List.{append_cancel_left, length-take, take-append-le}
use Rattle.std.specs.Prelude.{◌↔◌}
use Rattle.pool_isa.specs.Spelling.{IsCutShort, IsFault}
use Rattle.pool_isa.proofs.Faults.{IsPrefixFree, fault_at_end, fault_here, fault_behind}
use Rattle.pool_isa.specs.Number.{number_digits, number_bytes, IsNumber, IsNumberSpelling, IsHighSpelling}

-- more depth than the number gives the same bytes
digits_enough : (j k : ℕ) (last : Bool) (n : ℕ) → nat_lt n 128 ≡ last → n ≤ j → n ≤ k → number_digits j last n ≡ number_digits k last n
digits_enough zero zero last n e p q = refl
digits_enough zero (suc k) true n e p q = refl
digits_enough zero (suc k) false n e p q = absurd (omega (arith, ltb-false n 128 e))
digits_enough (suc j) zero true n e p q = refl
digits_enough (suc j) zero false n e p q = absurd (omega (arith, ltb-false n 128 e))
digits_enough (suc j) (suc k) true n e p q = refl
digits_enough (suc j) (suc k) false n e p q =
    let large : 128 ≤ n = ltb-false n 128 e in
    ap (λ (bs : List ℕ). (128 + n % 128) ∷ bs) (digits_enough j k (nat_lt (n / 128) 128) (n / 128) refl (omega arith) (omega arith))

digits_small : (depth n : ℕ) → number_digits depth true n ≡ n ∷ []
digits_small zero n = refl
digits_small (suc depth) n = refl

pub number_bytes-small : (n : ℕ) → n < 128 → number_bytes n ≡ n ∷ []
unfolding number_bytes
number_bytes-small n lt = rw (lt-ltb n 128 lt) (digits_small n n)

pub number_bytes-large : (n : ℕ) → 128 ≤ n → number_bytes n ≡ (128 + n % 128) ∷ number_bytes (n / 128)
unfolding number_bytes
number_bytes-large zero le = absurd (omega (arith, le))
number_bytes-large (suc m) le =
    rw (le-ltb (suc m) 128 le) (ap (λ (bs : List ℕ). (128 + suc m % 128) ∷ bs) (digits_enough m (suc m / 128) (nat_lt (suc m / 128) 128) (suc m / 128) refl (omega arith) (omega arith)))

-- a number has a byte
pub some_byte : (n : ℕ) → 0 < length (number_bytes n)
some_byte n =
    elim (cases_lt n 128) [
      | inl small ↦ rw (number_bytes-small n small) (omega arith)
      | inr large ↦ rw (number_bytes-large n large) (omega arith)
    ]

-- the low seven bits before the rest
pub number_bytes-more : (b high : ℕ) → 128 ≤ b → b < 256 → 0 < high → number_bytes (b - 128 + 128 * high) ≡ b ∷ number_bytes high
number_bytes-more b high ge lt pos =
    let n : ℕ = b - 128 + 128 * high in
    let low : 128 + n % 128 ≡ b = omega arith in
    let rest : n / 128 ≡ high = omega arith in
    number_bytes-large n (omega arith) ∙ ap (λ (b : ℕ). b ∷ number_bytes (n / 128)) low ∙ ap (λ (m : ℕ). b ∷ number_bytes m) rest

-- the first byte of a number
first_small : (n b : ℕ) (x y : List ℕ) → n < 128 → number_bytes n ++ x ≡ b ∷ y → (n ≡ b) × (x ≡ y)
first_small n b x y lt e = let parts : n ∷ x ≡ b ∷ y = ap (λ (t : List ℕ). t ++ x) (sym (number_bytes-small n lt)) ∙ e in (cc, cc)

first_large : (n b : ℕ) (x y : List ℕ) → 128 ≤ n → number_bytes n ++ x ≡ b ∷ y → (128 + n % 128 ≡ b) × (number_bytes (n / 128) ++ x ≡ y)
first_large n b x y le e = let parts : (128 + n % 128) ∷ (number_bytes (n / 128) ++ x) ≡ b ∷ y = ap (λ (t : List ℕ). t ++ x) (sym (number_bytes-large n le)) ∙ e in (cc, cc)

-- two numbers whose bytes begin alike are one, where their high parts are
same_step : (m n : ℕ) (x y : List ℕ) → (128 ≤ m → number_bytes (m / 128) ++ x ≡ number_bytes (n / 128) ++ y → m / 128 ≡ n / 128) → number_bytes m ++ x ≡ number_bytes n ++ y → m ≡ n
same_step m n x y high e =
    elim (cases_lt n 128) [
      | inl small ↦ let e' : number_bytes m ++ x ≡ n ∷ y = e ∙ ap (λ (t : List ℕ). t ++ y) (number_bytes-small n small) in
          elim (cases_lt m 128) [
            | inl small' ↦ (first_small m n x y small' e').0
            | inr large' ↦ absurd (omega (arith, (first_large m n x y large' e').0, small))
          ]
      | inr large ↦ let e' : number_bytes m ++ x ≡ (128 + n % 128) ∷ (number_bytes (n / 128) ++ y) = e ∙ ap (λ (t : List ℕ). t ++ y) (number_bytes-large n large) in
          elim (cases_lt m 128) [
            | inl small' ↦ absurd (omega (arith, (first_small m (128 + n % 128) x (number_bytes (n / 128) ++ y) small' e').0, small'))
            | inr large' ↦
                let parts = first_large m (128 + n % 128) x (number_bytes (n / 128) ++ y) large' e' in
                let same : m / 128 ≡ n / 128 = high large' parts.1 in
                omega (arith, parts.0, same)
          ]
    ]

same_below : (k m n : ℕ) (x y : List ℕ) → m ≤ k → number_bytes m ++ x ≡ number_bytes n ++ y → m ≡ n
same_below zero m n x y le = same_step m n x y (λ large _. absurd (omega (arith, large, le)))
same_below (suc k) m n x y le = same_step m n x y (λ large h. same_below k (m / 128) (n / 128) x y (omega (arith, large, le)) h)

-- The bytes of a number begin no others.
pub same_number : (m n : ℕ) (x y : List ℕ) → number_bytes m ++ x ≡ number_bytes n ++ y → (m ≡ n) × (x ≡ y)
same_number m n x y e =
    let same : m ≡ n = same_below m m n x y (omega arith) e in
    (same, append_cancel_left (number_bytes n) x y (ap (λ (k : ℕ). number_bytes k ++ x) (sym same) ∙ e))

pub numbers_prefix_free : IsPrefixFree IsNumberSpelling
numbers_prefix_free a b x y p q e = p.2 ∙ ap number_bytes (same_number p.0 q.0 x y (ap (λ (t : List ℕ). t ++ x) (sym p.2) ∙ e ∙ ap (λ (t : List ℕ). t ++ y) q.2)).0 ∙ sym q.2

-- ---- the grammar

pub number_from_grammar : (bytes : List ℕ) (n : ℕ) → IsNumber bytes n → bytes ≡ number_bytes n
number_from_grammar [] n h = absurd h
number_from_grammar (b ∷ []) n h = ap (λ (m : ℕ). m ∷ []) (sym h.1) ∙ sym (number_bytes-small n (omega (arith, h.0, h.1)))
number_from_grammar (b ∷ c ∷ bs) n h =
    let high = h.2.0 in
    let value : b - 128 + 128 * high ≡ n = omega (arith, h.0, h.2.2) in
    ap (λ (t : List ℕ). b ∷ t) (number_from_grammar (c ∷ bs) high h.2.3) ∙ sym (number_bytes-more b high h.0 h.1 h.2.1) ∙ ap number_bytes value

grammar_more : (b high n : ℕ) (bs : List ℕ) → 128 ≤ b → b < 256 → 0 < high → n + 128 ≡ b + 128 * high → IsNumber bs high → IsNumber (b ∷ bs) n
grammar_more b high n [] ge lt pos e h = absurd h
grammar_more b high n (c ∷ bs) ge lt pos e h = (ge, lt, (high, pos, e, h))

grammar_below : (k n : ℕ) → n ≤ k → IsNumber (number_bytes n) n
grammar_below zero n le = rw (number_bytes-small n (omega (arith, le))) (omega (arith, le), refl)
grammar_below (suc k) n le =
    elim (cases_lt n 128) [
      | inl small ↦ rw (number_bytes-small n small) (small, refl)
      | inr large ↦ rw (number_bytes-large n large) (grammar_more (128 + n % 128) (n / 128) n (number_bytes (n / 128)) (omega arith) (omega arith) (omega arith) (omega arith) (grammar_below k (n / 128) (omega arith)))
    ]

-- The bytes of a number are those of the grammar, and no others.
pub number_grammar_lem : (bytes : List ℕ) (n : ℕ) → IsNumber bytes n ↔ bytes ≡ number_bytes n
number_grammar_lem bytes n = (number_from_grammar bytes n, λ e. subst (λ (t : List ℕ). IsNumber t n) (sym e) (grammar_below n n (omega arith)))

-- ---- faults in numbers

one_follows : (more : ℕ) → IsCutShort (IsHighSpelling more) []
one_follows more = (1, [], (1, omega arith, omega (arith, one-le-pow more 128 (omega arith)), sym (number_bytes-small 1 (omega arith))))

-- the first byte of a number, as an equation of all its bytes
begins : (n b : ℕ) (x : List ℕ) → b ∷ x ≡ number_bytes n → ((n < 128) × (n ≡ b)) ⊎ ((128 ≤ n) × (128 + n % 128 ≡ b) × (x ≡ number_bytes (n / 128)))
begins n b x e =
    elim (cases_lt n 128) [
      | inl small ↦ let parts : n ∷ [] ≡ b ∷ x = sym (number_bytes-small n small) ∙ sym e in inl (small, cc)
      | inr large ↦ let parts : (128 + n % 128) ∷ number_bytes (n / 128) ≡ b ∷ x = sym (number_bytes-large n large) ∙ sym e in inr (large, cc, cc)
    ]

pub high_at_end : (more : ℕ) → IsFault (IsHighSpelling more) [] 0
high_at_end more = fault_at_end (IsHighSpelling more) (one_follows more)

pub high_zero : (more : ℕ) (bs : List ℕ) → IsFault (IsHighSpelling more) (0 ∷ bs) 0
high_zero more bs = fault_here (IsHighSpelling more) 0 bs (one_follows more) (λ h. elim (begins h.1.0 0 h.0 h.1.3) [ inl p ↦ omega (arith, h.1.1, p.1) | inr p ↦ omega (arith, p.1) ])

-- at the last byte of ten only one bit is left
pub high_last : (b : ℕ) (bs : List ℕ) → 1 < b → IsFault (IsHighSpelling 0) (b ∷ bs) 0
high_last b bs lt = fault_here (IsHighSpelling 0) b bs (one_follows 0) (λ h. elim (begins h.1.0 b h.0 h.1.3) [ inl p ↦ omega (arith, h.1.2, p.1, lt) | inr p ↦ omega (arith, h.1.2, p.0) ])

-- a bound seven bits further
pub bound-more : (more less high : ℕ) → suc less ≡ more → high < 2 * 128 ^ less → 127 + 128 * high < 2 * 128 ^ more
bound-more more less high e lt = rw (← e) (omega (arith, pow-succ' 128 less, lt))

bound-less : (more less n : ℕ) → suc less ≡ more → n < 2 * 128 ^ more → n / 128 < 2 * 128 ^ less
bound-less more less n e lt = omega (arith, pow-succ' 128 less, ap (λ (k : ℕ). 128 ^ k) e, lt)

pub bound_holds_small : (more less low : ℕ) → suc less ≡ more → low < 128 → low < 2 * 128 ^ more
bound_holds_small more less low e lt = omega (arith, bound-more more less 0 e (omega (arith, one-le-pow less 128 (omega arith))), lt)

pub bound_is_small : (more high : ℕ) → more ≤ 8 → high < 2 * 128 ^ more → high < 2 ^ 57
bound_is_small more high le lt = omega (arith, pow-le-pow_right {n = 128} (omega arith) {i = more} {j = 8} le, lt)

-- a first byte that is the whole number
pub alone_parts : (bytes : List ℕ) (low : ℕ) (rest : List ℕ) → bytes ≡ low ∷ rest → low < 128 → bytes ≡ number_bytes low ++ rest
alone_parts bytes low rest e lt = e ∙ ap (λ (t : List ℕ). t ++ rest) (sym (number_bytes-small low lt))

-- a first byte before the high part
pub more_parts : (bytes : List ℕ) (low : ℕ) (rest : List ℕ) (high : ℕ) (after : List ℕ) → bytes ≡ low ∷ rest → rest ≡ number_bytes high ++ after → 128 ≤ low → low < 256 → 0 < high → bytes ≡ number_bytes (low - 128 + 128 * high) ++ after
more_parts bytes low rest high after e e' ge lt pos = e ∙ ap (λ (t : List ℕ). low ∷ t) e' ∙ ap (λ (t : List ℕ). t ++ after) (sym (number_bytes-more low high ge lt pos))

-- the low seven bits, and the fault behind them
pub high_behind : (more less b : ℕ) (bs : List ℕ) (good : ℕ) → suc less ≡ more → 128 ≤ b → b < 256 → IsFault (IsHighSpelling less) bs good → IsFault (IsHighSpelling more) (b ∷ bs) (good + 1)
high_behind more less b bs good e ge lt =
    fault_behind (IsHighSpelling less) (IsHighSpelling more) b bs good
    (λ x h. (b - 128 + 128 * h.0, omega (arith, h.1), omega (arith, bound-more more less h.0 e h.2, lt), ap (λ (t : List ℕ). b ∷ t) h.3 ∙ sym (number_bytes-more b h.0 ge lt h.1)))
    (λ x h. elim (begins h.0 b x h.3) [ inl p ↦ absurd (omega (arith, p.0, p.1, ge)) | inr p ↦ (h.0 / 128, omega (arith, p.0), bound-less more less h.0 e h.2, p.2) ])

pub number_at_end : IsFault IsNumberSpelling [] 0
number_at_end = fault_at_end IsNumberSpelling (0, [], (0, omega arith, sym (number_bytes-small 0 (omega arith))))

pub number_behind : (b : ℕ) (bs : List ℕ) (good : ℕ) → 128 ≤ b → b < 256 → IsFault (IsHighSpelling 8) bs good → IsFault IsNumberSpelling (b ∷ bs) (good + 1)
number_behind b bs good ge lt =
    fault_behind (IsHighSpelling 8) IsNumberSpelling b bs good
    (λ x h. (b - 128 + 128 * h.0, omega (arith, h.2, lt), ap (λ (t : List ℕ). b ∷ t) h.3 ∙ sym (number_bytes-more b h.0 ge lt h.1)))
    (λ x h. elim (begins h.0 b x h.2) [ inl p ↦ absurd (omega (arith, p.0, p.1, ge)) | inr p ↦ (h.0 / 128, omega (arith, p.0), omega (arith, h.1), p.2) ])

-- ---- writing

-- one byte more of a number that goes on
pub pushed_more : (code new whole : List ℕ) (rest : ℕ) → new ≡ code ++ (128 + rest % 128) ∷ [] → 128 ≤ rest → code ++ number_bytes rest ≡ whole → new ++ number_bytes (rest / 128) ≡ whole
pushed_more code new whole rest e le h =
    ap (λ (t : List ℕ). t ++ number_bytes (rest / 128)) e ∙ append_assoc code ((128 + rest % 128) ∷ []) (number_bytes (rest / 128)) ∙ ap (λ (t : List ℕ). code ++ t) (sym (number_bytes-large rest le)) ∙ h

-- the last byte of a number
pub pushed_last : (code new whole : List ℕ) (rest : ℕ) → new ≡ code ++ rest ∷ [] → rest < 128 → code ++ number_bytes rest ≡ whole → new ≡ whole
pushed_last code new whole rest e lt h = e ∙ ap (λ (t : List ℕ). code ++ t) (sym (number_bytes-small rest lt)) ∙ h

-- what is appended leaves what was there
pub kept_append : (old code new more : List ℕ) → new ≡ code ++ more → take (length old) code ≡ old → take (length old) new ≡ old
kept_append old code new more e h =
    ap (take (length old)) e ∙ take-append-le (length old) code more (omega (arith, length-take (length old) code, ap length h)) ∙ h
