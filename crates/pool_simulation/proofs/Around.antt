-- Words of addresses that moves bring around 2 ^ 64.
use Rattle.std.proofs.Common.{◌≡◌, ℕ, zero, suc, ◌+◌, ◌-◌, ◌*◌, ◌/◌, ◌%◌, ◌^◌, Some, ℤ, pos, negsuc, ◌+ℤ◌, ◌*ℤ◌, neg_ℤ, refl, ap, ◌∙◌, arith}
use Rattle.std.proofs.Math.Nat.{mod-eq_of_lt}
use Rattle.std.proofs.Math.IntN.{pos-*ℤ-pos, negsuc-*ℤ-pos}
use Rattle.std.proofs.lemmas.Int.{ints}
use Rattle.tac_ir.specs.Objects.{offset_moved}
use Rattle.pool_ir.specs.Words.{moved_by, moved_back}
use Rattle.pool_simulation.specs.Placed.{IsAround}
use Rattle.pool_simulation.proofs.WordValues.{word}

-- ---- around 2 ^ 64

pub around_same : (place : ℕ) → IsAround place place
around_same place = record { congruent = refl; exact = λ fits. refl }

pub around_is : (word place : ℕ) → word ≡ place → IsAround word place
around_is word place e = record { congruent = ap (λ n. n % 2 ^ 64) e; exact = λ fits. e }

pub around_cut : (word place : ℕ) → word ≡ place % 2 ^ 64 → IsAround word place
around_cut word place e = record { congruent = omega (arith, e); exact = λ fits. e ∙ mod-eq_of_lt fits }

-- ---- offsets that move

-- where an offset moves to a place, the sum is that
pub offset_sum : (offset further : ℕ) (z : ℤ) → offset_moved offset z ≡ Some further → pos offset +ℤ z ≡ pos further
offset_sum offset further z e = by (pos offset +ℤ z) refl
  where
    by : (sum : ℤ) → pos offset +ℤ z ≡ sum → pos offset +ℤ z ≡ pos further
    by (pos n) is = cc
    by (negsuc n) is = absurd (cc)

-- forward
onward : (offset further k size : ℕ) → pos offset +ℤ pos k *ℤ pos size ≡ pos further → offset + k * size ≡ further
onward offset further k size e = let product = pos-*ℤ-pos k size in omega (arith, ints, e, product)

-- backward
backward : (offset further k size : ℕ) → pos offset +ℤ negsuc k *ℤ pos size ≡ pos further → further + suc k * size ≡ offset
backward offset further k size e = let product = negsuc-*ℤ-pos k size in omega (arith, ints, e, product)

-- by no element
pub offset_still : (offset size : ℕ) → offset_moved offset (pos 0 *ℤ pos size) ≡ Some offset
offset_still offset size = ap Some (omega arith)

-- ---- words that move

-- a number of elements, cut to a word, in bytes
cut_size : (k size : ℕ) → k * size ≡ 2 ^ 64 * (k / 2 ^ 64 * size) + k % 2 ^ 64 * size
cut_size k size = let all : k * size ≡ (2 ^ 64 * (k / 2 ^ 64) + k % 2 ^ 64) * size = ap (λ n. n * size) (omega arith) in omega (arith, all)

-- the same of what is left to 2 ^ 64
left_size : (k size : ℕ) → (2 ^ 64 - 1 - k % 2 ^ 64) * size + suc k * size ≡ 2 ^ 64 * (k / 2 ^ 64 * size) + 2 ^ 64 * size
left_size k size =
    let all : (2 ^ 64 - 1 - k % 2 ^ 64 + suc k) * size ≡ (2 ^ 64 * (k / 2 ^ 64) + 2 ^ 64) * size = ap (λ n. n * size) (omega arith) in
    omega (arith, all)

module _ (address base offset further size : ℕ) (near : address % 2 ^ 64 ≡ (base + offset) % 2 ^ 64) where
  -- so many elements further
  pub moves_by : (z : ℤ) → pos offset +ℤ z *ℤ pos size ≡ pos further → moved_by address size (word z) ≡ (base + further) % 2 ^ 64
  moves_by (pos k) e = by (k % 2 ^ 64 * size) (k / 2 ^ 64 * size) (k * size) (onward offset further k size e) (cut_size k size)
    where
      by : (part whole all : ℕ) → offset + all ≡ further → all ≡ 2 ^ 64 * whole + part → (address + part) % 2 ^ 64 ≡ (base + further) % 2 ^ 64
      by part whole all sum cut = omega (arith, near, sum, cut)
  moves_by (negsuc k) e = by ((2 ^ 64 - 1 - k % 2 ^ 64) * size) (k / 2 ^ 64 * size) (suc k * size) (backward offset further k size e) (left_size k size)
    where
      by : (part whole all : ℕ) → further + all ≡ offset → part + all ≡ 2 ^ 64 * whole + 2 ^ 64 * size → (address + part) % 2 ^ 64 ≡ (base + further) % 2 ^ 64
      by part whole all sum cut = omega (arith, near, sum, cut)

  -- so many elements back
  pub moves_back : (z : ℤ) → pos offset +ℤ neg_ℤ z *ℤ pos size ≡ pos further → moved_back address size (word z) ≡ (base + further) % 2 ^ 64
  moves_back (pos k) e = by (k % 2 ^ 64 * size) (k / 2 ^ 64 * size) (k * size) (back k e) (cut_size k size)
    where
      back : (k : ℕ) → pos offset +ℤ neg_ℤ (pos k) *ℤ pos size ≡ pos further → further + k * size ≡ offset
      back zero e = let product = pos-*ℤ-pos 0 size in omega (arith, ints, e, product)
      back (suc k) e = backward offset further k size e

      by : (part whole all : ℕ) → further + all ≡ offset → all ≡ 2 ^ 64 * whole + part → (address + (2 ^ 64 - part % 2 ^ 64)) % 2 ^ 64 ≡ (base + further) % 2 ^ 64
      by part whole all sum cut = omega (arith, near, sum, cut)
  moves_back (negsuc k) e = by ((2 ^ 64 - 1 - k % 2 ^ 64) * size) (k / 2 ^ 64 * size) (suc k * size) (onward offset further (suc k) size e) (left_size k size)
    where
      by : (part whole all : ℕ) → offset + all ≡ further → part + all ≡ 2 ^ 64 * whole + 2 ^ 64 * size → (address + (2 ^ 64 - part % 2 ^ 64)) % 2 ^ 64 ≡ (base + further) % 2 ^ 64
      by part whole all sum cut = omega (arith, near, sum, cut)
