-- Where the first fault is, for any set of spellings.
use Rattle.std.proofs.Common.{◌≡◌, ℕ, suc, ◌+◌, ◌-◌, ◌≤◌, List, [], ◌∷◌, ◌++◌, length, get_or, take, drop, refl, sym, ap, subst, ◌∙◌, append_assoc, add-one, arith, inl, inr, Result, Ok}
use Rattle.std.proofs.lemmas.Bool.{cases_lt}
use Rattle.std.proofs.lemmas.List.{append-nil, length-append, length-take, length-drop, take-append-drop, take-append-le, take-take, take_at, take_rest, drop_at, drop-drop}
use Rattle.pool_isa.specs.Spelling.{StandsAt, Begins, IsCutShort, IsFault, IsFaultAt}

-- no spelling begins another
abbrev pub IsPrefixFree : (List ℕ → Type 0) → Type 0
IsPrefixFree IsSpelling = (a b x y : List ℕ) → IsSpelling a → IsSpelling b → a ++ x ≡ b ++ y → a ≡ b

-- ---- one fault

pub fault_at_end : (S : List ℕ → Type 0) → IsCutShort S [] → IsFault S [] 0
fault_at_end S cut = record { within = omega arith; begun = cut; wrong = λ lt b. absurd (omega (arith, lt)) }

pub fault_here : (S : List ℕ → Type 0) (b : ℕ) (bs : List ℕ) → IsCutShort S [] → (Begins S (b ∷ []) → ⊥) → IsFault S (b ∷ bs) 0
fault_here S b bs cut bad = record { within = omega arith; begun = cut; wrong = λ lt h. bad h }

-- a fault behind a byte: the spellings in T that begin with it are those in S behind it
pub fault_behind : (S T : List ℕ → Type 0) (b : ℕ) (bs : List ℕ) (good : ℕ) → ((x : List ℕ) → S x → T (b ∷ x)) → ((x : List ℕ) → T (b ∷ x) → S x) → IsFault S bs good → IsFault T (b ∷ bs) (good + 1)
fault_behind S T b bs good into back f = rw add-one (record {
  within = omega (arith, f.within);
  begun = (f.begun.0, f.begun.1, into (take good bs ++ f.begun.0 ∷ f.begun.1) f.begun.2);
  wrong = λ lt h. f.wrong (omega (arith, lt)) (h.0, back (take (suc good) bs ++ h.0) h.1);
})

-- no spelling stands in front of a fault
pub nothing_stands : (S : List ℕ → Type 0) → IsPrefixFree S → (bytes : List ℕ) (good : ℕ) (s rest : List ℕ) → IsFault S bytes good → S s → bytes ≡ s ++ rest → ⊥
nothing_stands S free bytes good s rest f is e =
    elim (cases_lt good (length s)) [
      | inl lt ↦
          f.wrong (omega (arith, ap length e, length-append s rest))
          (drop (suc good) s, subst S (sym (ap (λ (t : List ℕ). t ++ drop (suc good) s) (ap (take (suc good)) e ∙ take-append-le (suc good) s rest (omega (arith, lt))) ∙ take-append-drop (suc good) s)) is)
      | inr le ↦
          let front : List ℕ = take good bytes in
          let whole : List ℕ = front ++ f.begun.0 ∷ f.begun.1 in
          let begins : take (length s) front ≡ s = take-take (length s) good bytes le ∙ ap (take (length s)) e ∙ take_at s rest (length s) refl in
          let parts : s ++ drop (length s) front ≡ front = ap (λ (t : List ℕ). t ++ drop (length s) front) (sym begins) ∙ take-append-drop (length s) front in
          let joined : s ++ (drop (length s) front ++ f.begun.0 ∷ f.begun.1) ≡ whole ++ [] = sym (append_assoc s (drop (length s) front) (f.begun.0 ∷ f.begun.1)) ∙ ap (λ (t : List ℕ). t ++ f.begun.0 ∷ f.begun.1) parts ∙ sym (append-nil whole) in
          let same : s ≡ whole = free s whole (drop (length s) front ++ f.begun.0 ∷ f.begun.1) [] is f.begun.2 joined in
          omega (arith, ap length same, length-append front (f.begun.0 ∷ f.begun.1), length-take good bytes, f.within, le)
    ]

-- what is found in the rest stands at the place
pub stands : (bytes : List ℕ) (at : ℕ) (spelled rest : List ℕ) → at ≤ length bytes → drop at bytes ≡ spelled ++ rest → StandsAt bytes at (length bytes - length rest) spelled
stands bytes at spelled rest le e =
    let count : length bytes - at ≡ length spelled + length rest = sym (length-drop at bytes) ∙ ap length e ∙ length-append spelled rest in
    let end_is : length bytes - length rest ≡ at + length spelled = omega arith in
    let after : drop (length bytes - length rest) bytes ≡ rest = rw end_is (sym (drop-drop (length spelled) at bytes) ∙ ap (drop (length spelled)) e ∙ drop_at spelled rest (length spelled) refl) in
    record { parts = e ∙ ap (λ (t : List ℕ). spelled ++ t) (sym after); end_is = end_is; within = omega arith }

-- a fault in the rest is one from the place on
pub fault_from : (S : List ℕ → Type 0) (bytes : List ℕ) (at good : ℕ) → IsFault S (drop at bytes) good → IsFaultAt S bytes at (at + good)
fault_from S bytes at good f =
    let back : good ≡ at + good - at = omega arith in
    record { from = omega arith; fault = subst (λ (k : ℕ). IsFault S (drop at bytes) k) back f }

-- the first item and those behind it, as a slice pattern gives them
pub first_and_rest : (bytes : List ℕ) (b : ℕ) → 1 ≤ length bytes → b ≡ get_or bytes 0 0 → bytes ≡ b ∷ take (length bytes - 1) (drop 1 bytes)
first_and_rest [] b le e = absurd (omega (arith, le))
first_and_rest (x ∷ xs) b le e = ap (λ (y : ℕ). y ∷ xs) (sym e) ∙ ap (λ (ys : List ℕ). b ∷ ys) (sym (take_rest (x ∷ xs) 1))

-- what a slice from a place on has
pub from_place : (bytes : List ℕ) (at : ℕ) (spelled rest : List ℕ) → take (length bytes - at) (drop at bytes) ≡ spelled ++ rest → drop at bytes ≡ spelled ++ rest
from_place bytes at spelled rest e = sym (take_rest bytes at) ∙ e

-- the one value, and the place behind its bytes
pub same_answer : {X E : Type 0} (spelling : X → List ℕ) (x y : X) (at end : ℕ) → x ≡ y → end ≡ at + length (spelling x) → ◌≡◌ {A = Result (X × ℕ) E} (Ok (x, end)) (Ok (y, at + length (spelling y)))
same_answer {X} {E} spelling x y at end same e = subst (λ (z : X). ◌≡◌ {A = Result (X × ℕ) E} (Ok (x, end)) (Ok (z, at + length (spelling z)))) same (ap (λ (k : ℕ). Ok (x, k)) e)

-- ---- one after the other

-- a spelling and then another
pub stands_then : (bytes : List ℕ) (at middle end : ℕ) (first second : List ℕ) → StandsAt bytes at middle first → StandsAt bytes middle end second → StandsAt bytes at end (first ++ second)
stands_then bytes at middle end first second f g = record {
  parts = f.parts ∙ ap (λ (t : List ℕ). first ++ t) g.parts ∙ sym (append_assoc first second (drop end bytes));
  end_is = omega (arith, f.end_is, g.end_is, length-append first second);
  within = g.within;
}

-- the spellings of two sets that are alike have the same faults
fault_alike : (S T : List ℕ → Type 0) (bytes : List ℕ) (good : ℕ) → ((x : List ℕ) → S x → T x) → ((x : List ℕ) → T x → S x) → IsFault S bytes good → IsFault T bytes good
fault_alike S T bytes good into back f = record {
  within = f.within;
  begun = (f.begun.0, f.begun.1, into (take good bytes ++ f.begun.0 ∷ f.begun.1) f.begun.2);
  wrong = λ lt h. f.wrong lt (h.0, back (take (suc good) bytes ++ h.0) h.1);
}

-- a fault behind bytes: the spellings in T that begin with them are those in S behind them
pub fault_past : (S T : List ℕ → Type 0) (front bytes : List ℕ) (good : ℕ) → ((x : List ℕ) → S x → T (front ++ x)) → ((x : List ℕ) → T (front ++ x) → S x) → IsFault S bytes good → IsFault T (front ++ bytes) (length front + good)
fault_past S T [] bytes good into back f = subst (λ (k : ℕ). IsFault T bytes k) (omega arith) (fault_alike S T bytes good into back f)
fault_past S T (b ∷ front) bytes good into back f =
    let deeper = fault_past S (λ x. T (b ∷ x)) front bytes good into back f in
    subst (λ (k : ℕ). IsFault T (b ∷ (front ++ bytes)) k) (omega arith) (fault_behind (λ x. T (b ∷ x)) T b (front ++ bytes) (length front + good) (λ x h. h) (λ x h. h) deeper)

-- the same from places on
pub fault_then : (S T : List ℕ → Type 0) (bytes : List ℕ) (at middle place : ℕ) (front : List ℕ) → StandsAt bytes at middle front → ((x : List ℕ) → S x → T (front ++ x)) → ((x : List ℕ) → T (front ++ x) → S x) → IsFaultAt S bytes middle place → IsFaultAt T bytes at place
fault_then S T bytes at middle place front s into back f =
    let count : length front + (place - middle) ≡ place - at = omega (arith, s.end_is, f.from) in
    record {
      from = omega (arith, s.end_is, f.from);
      fault = subst (λ (k : ℕ). IsFault T (drop at bytes) k) count (subst (λ (t : List ℕ). IsFault T t (length front + (place - middle))) (sym s.parts) (fault_past S T front (drop middle bytes) (place - middle) into back f.fault));
    }
