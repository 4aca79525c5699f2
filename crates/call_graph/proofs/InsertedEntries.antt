-- What a map has after an entry is inserted, where keys are told by a test that decides equality.
use Rattle.std.proofs.Common.{◌≡◌, ℕ, suc, zero, ◌<◌, Bool, true, false, cond, if◌then◌else◌, List, [], ◌∷◌, drop, length, get_or, Option, Some, None, refl, sym, ap, ◌∙◌, arith}
use Rattle.std.proofs.lemmas.Bool.{false≢true, false_from_ne_true}
use Rattle.std.specs.Map.{lookup}
use Rattle.indexmap.specs.IndexMap.{insert_entry}

same-symm : {Q : Type 0} (same : Q → Q → Bool) (decides : (a b : Q) → (same a b ≡ true → a ≡ b) × (a ≡ b → same a b ≡ true)) (a b : Q) → same a b ≡ same b a
same-symm same decides a b = by (same a b) refl
  where
    by : (t : Bool) → same a b ≡ t → same a b ≡ same b a
    by true e = let equal = (decides a b).0 e in e ∙ sym ((decides b a).1 (sym equal))
    by false e = e ∙ sym (false_from_ne_true (same b a) (λ h. false≢true (sym e ∙ (decides a b).1 (sym ((decides b a).0 h)))))

-- where one isn't another, a third isn't both
apart : {Q V : Type 0} (same : Q → Q → Bool) (decides : (a b : Q) → (same a b ≡ true → a ≡ b) × (a ≡ b → same a b ≡ true)) (k other q : Q) (x y z : Option V) → same k other ≡ false
    → cond (same q other) x (if same k q then y else z) ≡ (if same k q then y else cond (same q other) x z)
apart same decides k other q x y z differ = by (same k q) refl
  where
    by : (t : Bool) → same k q ≡ t → cond (same q other) x (if t then y else z) ≡ (if t then y else cond (same q other) x z)
    by true e = λ i. cond ((ap (λ n. same n other) (sym ((decides k q).0 e)) ∙ differ) i) x y
    by false e = refl

pub found_inserted : {K Q V : Type 0} (of : K → Q) (same : Q → Q → Bool) (decides : (a b : Q) → (same a b ≡ true → a ≡ b) × (a ≡ b → same a b ≡ true)) (entries : List (K × V)) (k : K) (v : V) (q : Q)
    → lookup (λ key. same q (of key)) (insert_entry (λ a b. same (of a) (of b)) entries k v) ≡ (if same (of k) q then Some v else lookup (λ key. same q (of key)) entries)
found_inserted of same decides [] k v q = λ i. cond (same-symm same decides q (of k) i) (Some v) None
found_inserted {K = K} {V = V} of same decides (entry ∷ entries) k v q = by (same (of k) (of entry.0)) refl (found_inserted of same decides entries k v q)
  where
    inserted : Bool → List (K × V)
    inserted t = if t then (entry.0, v) ∷ entries else entry ∷ insert_entry (λ a b. same (of a) (of b)) entries k v

    twice : (t s : Bool) → s ≡ t → cond t (Some v) (lookup (λ key. same q (of key)) entries) ≡ (if t then Some v else cond s (Some entry.1) (lookup (λ key. same q (of key)) entries))
    twice true s is = refl
    twice false s is = let back = sym is in λ i. cond (back i) (Some entry.1) (lookup (λ key. same q (of key)) entries)

    by : (t : Bool) → same (of k) (of entry.0) ≡ t → lookup (λ key. same q (of key)) (insert_entry (λ a b. same (of a) (of b)) entries k v) ≡ (if same (of k) q then Some v else lookup (λ key. same q (of key)) entries)
        → lookup (λ key. same q (of key)) (inserted (same (of k) (of entry.0))) ≡ (if same (of k) q then Some v else cond (same q (of entry.0)) (Some entry.1) (lookup (λ key. same q (of key)) entries))
    by true e behind =
        let equal : of k ≡ of entry.0 = (decides (of k) (of entry.0)).0 e in
        let test : same q (of entry.0) ≡ same (of k) q = ap (same q) (sym equal) ∙ same-symm same decides q (of k) in
        ap (λ t. lookup (λ key. same q (of key)) (inserted t)) e ∙ (ap (λ t. cond t (Some v) (lookup (λ key. same q (of key)) entries)) test ∙ twice (same (of k) q) (same q (of entry.0)) test)
    by false e behind =
        ap (λ t. lookup (λ key. same q (of key)) (inserted t)) e ∙ (ap (cond (same q (of entry.0)) (Some entry.1)) behind
        ∙ apart same decides (of k) (of entry.0) q (Some entry.1) (Some v) (lookup (λ key. same q (of key)) entries) e)

-- ---- the rest of a list

pub from_here : {A : Type 0} → (items : List A) (n : ℕ) (item : A) → n < length items → item ≡ get_or items n item → drop n items ≡ item ∷ drop (suc n) items
from_here [] n item lt is = absurd (omega (arith, lt))
from_here (first ∷ others) zero item lt is = λ i. (sym is) i ∷ others
from_here (first ∷ others) (suc n) item lt is = from_here others n item (omega (arith, lt)) is
