-- Offsets of elements that stand in one row compare as their indices do, and lie as many elements apart.
use Rattle.std.proofs.Common.{◌≡◌, ℕ, zero, suc, ◌+◌, ◌*◌, ◌/◌, ◌<◌, ◌≤◌, Bool, true, false, ltb, leb, ℤ, pos, negsuc, ◌-ℤ◌, neg_ℤ, int_div, refl, sym, ap, ◌∙◌, arith, ltb-true, ltb-false, leb-true, leb-false, le-leb, mul-le-mul_right}
use Rattle.std.proofs.lemmas.Bool.{false≢true, lt-ltb, le-ltb}
use Rattle.std.proofs.lemmas.Int.{ints}
use Rattle.std.proofs.Math.Nat.{mul-div_cancel, mul-lt-mul_of_pos_right}
use Rattle.c_num.specs.declared.Relation.{Relation}
use Rattle.c_num.specs.declared.Relation.TheVariants as R
use Rattle.c_num.specs.Arith.{compare_of}
use Rattle.ref_semantics.specs.Pointers.{is_equality}

-- a product by a sum
times : (a b c size : ℕ) → a + b ≡ c → a * size + b * size ≡ c * size
times a b c size e = let all : (a + b) * size ≡ c * size = ap (λ n. n * size) e in omega (arith, all)

scaled_lt : (start size i j : ℕ) → 1 ≤ size → i < j → start + i * size < start + j * size
scaled_lt start size i j one lt = let product : i * size < j * size = mul-lt-mul_of_pos_right lt one in omega (arith, product)

scaled_le : (start size i j : ℕ) → i ≤ j → start + i * size ≤ start + j * size
scaled_le start size i j le = let product : i * size ≤ j * size = mul-le-mul_right size le in omega (arith, product)

nle : (a b : ℕ) → b < a → leb a b ≡ false
nle a b lt = by (leb a b) refl
  where
    by : (x : Bool) → leb a b ≡ x → x ≡ false
    by false e = refl
    by true e = let le = leb-true a b e in absurd (omega arith)

less_scaled : (start size i j : ℕ) → 1 ≤ size → ltb (start + i * size) (start + j * size) ≡ ltb i j
less_scaled start size i j one = by (ltb i j) refl
  where
    by : (x : Bool) → ltb i j ≡ x → ltb (start + i * size) (start + j * size) ≡ x
    by true e = lt-ltb (start + i * size) (start + j * size) (scaled_lt start size i j one (ltb-true i j e))
    by false e = le-ltb (start + i * size) (start + j * size) (scaled_le start size j i (ltb-false i j e))

most_scaled : (start size i j : ℕ) → 1 ≤ size → leb (start + i * size) (start + j * size) ≡ leb i j
most_scaled start size i j one = by (leb i j) refl
  where
    by : (x : Bool) → leb i j ≡ x → leb (start + i * size) (start + j * size) ≡ x
    by true e = le-leb (start + i * size) (start + j * size) (scaled_le start size i j (leb-true i j e))
    by false e = nle (start + i * size) (start + j * size) (scaled_lt start size j i one (leb-false i j e))

pub order_scaled : (relation : Relation) → is_equality relation ≡ false → (start size i j : ℕ) → 1 ≤ size → compare_of relation (pos (start + i * size)) (pos (start + j * size)) ≡ compare_of relation (pos i) (pos j)
order_scaled R.Eq order start size i j one = absurd (false≢true (sym order))
order_scaled R.Ne order start size i j one = absurd (false≢true (sym order))
order_scaled R.Lt order start size i j one = less_scaled start size i j one
order_scaled R.Le order start size i j one = most_scaled start size i j one
order_scaled R.Gt order start size i j one = less_scaled start size j i one
order_scaled R.Ge order start size i j one = most_scaled start size j i one

-- ---- differences

forward : (x y w : ℕ) → y + w ≡ x → pos x -ℤ pos y ≡ pos w
forward x y w e = omega (arith, ints)

back : (x y w : ℕ) → x + w ≡ y → pos x -ℤ pos y ≡ neg_ℤ (pos w)
back x y w e = omega (arith, ints)

is_forward : (i j k : ℕ) → pos i -ℤ pos j ≡ pos k → j + k ≡ i
is_forward i j k e = omega (arith, ints)

is_back : (i j k : ℕ) → pos i -ℤ pos j ≡ negsuc k → i + suc k ≡ j
is_back i j k e = omega (arith, ints)

-- a multiple that isn't zero
divides_back : (n size k : ℕ) → n ≡ suc k * size → 1 ≤ size → int_div (neg_ℤ (pos n)) (pos size) ≡ negsuc k
divides_back zero size k e one = absurd (positive size k e one)
  where
    positive : (size k : ℕ) → 0 ≡ suc k * size → 1 ≤ size → ⊥
    positive size k e one = omega arith
divides_back (suc n) size k e one = ap (λ m. neg_ℤ (pos (m / size))) e ∙ ap (λ m. neg_ℤ (pos m)) (mul-div_cancel (suc k) one)

pub difference_scaled : (start size i j : ℕ) → 1 ≤ size → int_div (pos (start + i * size) -ℤ pos (start + j * size)) (pos size) ≡ pos i -ℤ pos j
difference_scaled start size i j one = by (pos i -ℤ pos j) refl
  where
    by : (z : ℤ) → pos i -ℤ pos j ≡ z → int_div (pos (start + i * size) -ℤ pos (start + j * size)) (pos size) ≡ z
    by (pos k) e =
        let all : start + j * size + k * size ≡ start + i * size = omega (arith, times j k i size (is_forward i j k e)) in
        ap (λ z. int_div z (pos size)) (forward (start + i * size) (start + j * size) (k * size) all) ∙ ap (λ n. pos n) (mul-div_cancel k one)
    by (negsuc k) e =
        let all : start + i * size + suc k * size ≡ start + j * size = omega (arith, times i (suc k) j size (is_back i j k e)) in
        ap (λ z. int_div z (pos size)) (back (start + i * size) (start + j * size) (suc k * size) all) ∙ divides_back (suc k * size) size k refl one
