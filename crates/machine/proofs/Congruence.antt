-- Sums, products and negatives of numbers that are congruent.
use Rattle.std.proofs.Common.{◌≡◌, ℕ, ◌*◌, ℤ, pos, ◌+ℤ◌, ◌*ℤ◌, neg_ℤ, ap, ◌∙◌, arith}
use Rattle.std.proofs.lemmas.Int.{ints}
use borrow.Author.Differences.{up, down, sum_is_lem, product_is, neg_is}
use Rattle.c_num.specs.Conversion.{IsCongruent}

product_sum : (a b c : ℤ) → (a +ℤ b) *ℤ c ≡ a *ℤ c +ℤ b *ℤ c
product_sum a b c =
    let sum = sum_is_lem a b in
    let above = ap (λ x. x * up c) sum in
    let below = ap (λ x. x * down c) sum in
    omega (arith, ints)

product_swap : (k m c : ℤ) → (k *ℤ m) *ℤ c ≡ (k *ℤ c) *ℤ m
product_swap k m c =
    let p = product_is k m in
    let q = product_is k c in
    let a = ap (λ x. x * up c) p.0 in
    let b = ap (λ x. x * down c) p.0 in
    let d = ap (λ x. x * up c) p.1 in
    let e = ap (λ x. x * down c) p.1 in
    let f = ap (λ x. x * up m) q.0 in
    let g = ap (λ x. x * down m) q.0 in
    let h = ap (λ x. x * up m) q.1 in
    let i = ap (λ x. x * down m) q.1 in
    omega (arith, ints)

product_neg : (k m : ℤ) → neg_ℤ (k *ℤ m) ≡ neg_ℤ k *ℤ m
product_neg k m =
    let n = neg_is k in
    let a = ap (λ x. x * up m) n.0 in
    let b = ap (λ x. x * down m) n.0 in
    let d = ap (λ x. x * up m) n.1 in
    let e = ap (λ x. x * down m) n.1 in
    omega (arith, ints)

module _ (m : ℕ) (x z : ℤ) (h : IsCongruent m x z) where
  pub sum-congruent : (c : ℤ) → IsCongruent m (x +ℤ c) (z +ℤ c)
  sum-congruent c = (h.0, let e = h.1 in omega (arith, ints))

  pub product-congruent : (c : ℤ) → IsCongruent m (x *ℤ c) (z *ℤ c)
  product-congruent c = (h.0 *ℤ c, ap (λ y. y *ℤ c) h.1 ∙ product_sum x (h.0 *ℤ pos m) c ∙ ap (λ y. x *ℤ c +ℤ y) (product_swap h.0 (pos m) c))

  pub negative-congruent : IsCongruent m (neg_ℤ x) (neg_ℤ z)
  negative-congruent = (neg_ℤ h.0, ap neg_ℤ h.1 ∙ (let e : neg_ℤ (x +ℤ h.0 *ℤ pos m) ≡ neg_ℤ x +ℤ neg_ℤ (h.0 *ℤ pos m) = omega (arith, ints) in e) ∙ ap (λ y. neg_ℤ x +ℤ y) (product_neg h.0 (pos m)))
