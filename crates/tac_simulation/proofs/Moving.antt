-- Pointers that move by a number of elements.
use Rattle.std.proofs.Common.{◌≡◌, ℕ, suc, ◌+◌, ◌*◌, Some, ℤ, pos, negsuc, ◌+ℤ◌, ◌*ℤ◌, neg_ℤ, refl, sym, ap, ◌∙◌, arith}
use Rattle.std.proofs.Math.IntN.{pos-+ℤ-pos, pos-*ℤ-pos, negsuc-*ℤ-pos, +ℤ-neg_ℤ_cancel, -ℤ-+ℤ_cancel}
use Rattle.ref_semantics.specs.Pointers.{index_moved}
use Rattle.tac_ir.specs.Objects.{offset_moved}

-- what an index is that has moved
natural_is : (index idx : ℕ) (z : ℤ) → index_moved index z ≡ Some idx → pos index +ℤ z ≡ pos idx
natural_is index idx z e = by (pos index +ℤ z) refl
  where
    by : (sum : ℤ) → pos index +ℤ z ≡ sum → pos index +ℤ z ≡ pos idx
    by (pos n) is = cc
    by (negsuc n) is = absurd (cc)

moved_is : (offset further : ℕ) (z : ℤ) → pos offset +ℤ z ≡ pos further → offset_moved offset z ≡ Some further
moved_is offset further z e = rw e refl

-- a product by a sum
times : (a b c size : ℕ) → a + b ≡ c → a * size + b * size ≡ c * size
times a b c size e = let all : (a + b) * size ≡ c * size = ap (λ n. n * size) e in omega (arith, all)

-- an offset moves by as many elements as the index does
pub offset_moves : (start index idx size : ℕ) (z : ℤ) → index_moved index z ≡ Some idx → offset_moved (start + index * size) (z *ℤ pos size) ≡ Some (start + idx * size)
offset_moves start index idx size (pos k) e =
    let sum : index + k ≡ idx = cc (sym (pos-+ℤ-pos index k) ∙ natural_is index idx (pos k) e) in
    let all : start + index * size + k * size ≡ start + idx * size = omega (arith, times index k idx size sum) in
    moved_is (start + index * size) (start + idx * size) (pos k *ℤ pos size) (ap (λ n. pos (start + index * size) +ℤ n) (pos-*ℤ-pos k size) ∙ pos-+ℤ-pos (start + index * size) (k * size) ∙ ap pos all)
offset_moves start index idx size (negsuc k) e =
    let back : pos index ≡ pos idx +ℤ pos (suc k) = sym (-ℤ-+ℤ_cancel (pos index) (pos (suc k))) ∙ ap (λ n. n +ℤ pos (suc k)) (natural_is index idx (negsuc k) e) in
    let sum : idx + suc k ≡ index = cc (back ∙ pos-+ℤ-pos idx (suc k)) in
    let all : start + index * size ≡ start + idx * size + suc k * size = omega (arith, times idx (suc k) index size sum) in
    moved_is (start + index * size) (start + idx * size) (negsuc k *ℤ pos size)
    (ap (λ n. pos (start + index * size) +ℤ n) (negsuc-*ℤ-pos k size) ∙ ap (λ n. pos n +ℤ neg_ℤ (pos (suc k * size))) all
    ∙ ap (λ n. n +ℤ neg_ℤ (pos (suc k * size))) (sym (pos-+ℤ-pos (start + idx * size) (suc k * size))) ∙ +ℤ-neg_ℤ_cancel (pos (start + idx * size)) (pos (suc k * size)))
