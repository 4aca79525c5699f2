-- Labels in the order in which they were added, and the newest first.
use Rattle.std.proofs.Common.{◌≡◌, Bool, true, false, ◌||◌, if◌then◌else◌, List, [], ◌∷◌, ◌++◌, ℤ, refl, sym, ap, ◌∙◌}
use Rattle.std.specs.Ordering.{int_eq}
use Rattle.std.specs.List.{list_any}
use Rattle.std.specs.Cmp.{int_eq_equiv}
use Rattle.indexmap.specs.IndexSet.{insert_key}
use Rattle.c_rules.specs.Statements.{has_label}
use Rattle.c_types.specs.Parts.{SameLabels}

pub any-label : (label : ℤ) (labels : List ℤ) → list_any (int_eq label) labels ≡ has_label labels label
any-label label [] = refl
any-label label (first ∷ labels) = λ i. int_eq_equiv.symm label first i || any-label label labels i

-- a label that is there stays there
has-same : (labels : List ℤ) (a b : ℤ) → int_eq a b ≡ true → has_label labels a ≡ has_label labels b
has-same [] a b e = refl
has-same (first ∷ labels) a b e = λ i. (int_eq_equiv.symm first a ∙ int_eq_equiv.congr a b first e ∙ int_eq_equiv.symm b first) i || has-same labels a b e i

swap : (a b c : Bool) → a || (b || c) ≡ b || (a || c)
swap true true c = refl
swap true false c = refl
swap false true c = refl
swap false false c = refl

has-last : (labels : List ℤ) (label other : ℤ) → has_label (labels ++ label ∷ []) other ≡ has_label (label ∷ labels) other
has-last [] label other = refl
has-last (first ∷ labels) label other = ap (λ b. int_eq first other || b) (has-last labels label other) ∙ swap (int_eq first other) (int_eq label other) (has_label labels other)

pub same-inserted : (labels : List ℤ) (label : ℤ) → SameLabels (insert_key int_eq labels label) (label ∷ labels)
same-inserted labels label other = by (list_any (int_eq label) labels) refl
  where
    there : (b : Bool) → int_eq label other ≡ b → has_label labels label ≡ true → has_label labels other ≡ b || has_label labels other
    there true e h = sym (has-same labels label other e) ∙ h
    there false e h = refl

    by : (b : Bool) → list_any (int_eq label) labels ≡ b → has_label (if b then labels else labels ++ label ∷ []) other ≡ has_label (label ∷ labels) other
    by true e = there (int_eq label other) refl (sym (any-label label labels) ∙ e)
    by false e = has-last labels label other
