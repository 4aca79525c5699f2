-- Fields that stand one behind another, and where the first fault in them is.
use Rattle.std.proofs.Common.{◌≡◌, ℕ, zero, suc, ◌+◌, ◌-◌, ◌<◌, List, [], ◌∷◌, ◌++◌, length, get_or, take, drop, drop-cons, add-one, refl, sym, ap, subst, ◌∙◌, arith, append_assoc, inl, inr}
use Rattle.std.proofs.lemmas.Bool.{cases_lt}
use Rattle.std.proofs.lemmas.List.{length-take, take-append-drop, take-append-le, take-take, take_at}
use Rattle.pool_isa.specs.Spelling.{StandsAt, IsCutShort, IsFault, IsFaultAt}
use Rattle.pool_isa.proofs.Faults.{IsPrefixFree, nothing_stands, fault_then}
use Rattle.image_form.specs.declared.image.ImageErr.{ImageErr}
use Rattle.image_form.specs.declared.image.ImageErr.TheVariants.{Bad, OutOfMemory}
use Rattle.image_form.specs.Reading.{Spelled, Refuses}

-- no such field's bytes begin another's
abbrev pub IsUnique : {V : Type 0} → (V → Type 0) → (V → List ℕ) → Type 0
IsUnique {V} IsField bytes_of = (a b : V) (x y : List ℕ) → IsField a → IsField b → bytes_of a ++ x ≡ bytes_of b ++ y → (a ≡ b) × (x ≡ y)

-- a field, and what the rest is by it
abbrev pub Then : {V : Type 0} → (V → Type 0) → (V → List ℕ) → (V → List ℕ → Type 0) → List ℕ → Type 0
Then {V} IsField bytes_of Rest bytes = (field : V) × (rest : List ℕ) × IsField field × (bytes ≡ bytes_of field ++ rest) × Rest field rest

-- ---- faults of sets of spellings

-- The spellings in T begin with those in S, each of which goes on: a fault in S is one in T.
fault_first : (S T : List ℕ → Type 0) → IsPrefixFree S → ((a : List ℕ) → S a → (b : List ℕ) × T (a ++ b)) → ((x : List ℕ) → T x → (a : List ℕ) × (b : List ℕ) × S a × (x ≡ a ++ b)) → (bytes : List ℕ) (good : ℕ) → IsFault S bytes good → IsFault T bytes good
fault_first S T free goes_on parts bytes good f =
    let more = goes_on (take good bytes ++ f.begun.0 ∷ f.begun.1) f.begun.2 in
    record {
      within = f.within;
      begun = (f.begun.0, f.begun.1 ++ more.0, subst T (append_assoc (take good bytes) (f.begun.0 ∷ f.begun.1) more.0) more.1);
      wrong = λ lt h. let p = parts (take (suc good) bytes ++ h.0) h.1 in none lt h.0 p.0 p.1 p.2 p.3;
    }
  where
    none : good < length bytes → (rest a b : List ℕ) → S a → take (suc good) bytes ++ rest ≡ a ++ b → ⊥
    none lt rest a b is e =
        elim (cases_lt good (length a)) [
          | inl longer ↦
              let many : length (take (suc good) bytes) ≡ suc good = omega (arith, length-take (suc good) bytes) in
              let front : take (suc good) bytes ≡ take (suc good) a = sym (take_at (take (suc good) bytes) rest (suc good) many) ∙ ap (take (suc good)) e ∙ take-append-le (suc good) a b (omega arith) in
              f.wrong lt (drop (suc good) a, subst S (sym (ap (λ t. t ++ drop (suc good) a) front ∙ take-append-drop (suc good) a)) is)
          | inr shorter ↦
              let whole : take (length a) bytes ≡ a = sym (take-take (length a) (suc good) bytes (omega arith)) ∙ sym (take-append-le (length a) (take (suc good) bytes) rest (let l = length-take (suc good) bytes in omega arith)) ∙ ap (take (length a)) e ∙ take_at a b (length a) refl in
              nothing_stands S free bytes good a (drop (length a) bytes) f is (sym (ap (λ t. t ++ drop (length a) bytes) (sym whole) ∙ take-append-drop (length a) bytes))
        ]

-- a set within another: what begins with the first byte is in both
pub fault_within : (S T : List ℕ → Type 0) (b : ℕ) (bs : List ℕ) (good : ℕ) → IsCutShort T [] → ((x : List ℕ) → T x → S x) → ((x : List ℕ) → S (b ∷ x) → T (b ∷ x)) → IsFault S (b ∷ bs) good → IsFault T (b ∷ bs) good
fault_within S T b bs zero follows less same f = record {
  within = f.within;
  begun = follows;
  wrong = λ lt h. f.wrong lt (h.0, less (b ∷ h.0) h.1);
}
fault_within S T b bs (suc good) follows less same f = record {
  within = f.within;
  begun = (f.begun.0, f.begun.1, same (take good bs ++ f.begun.0 ∷ f.begun.1) f.begun.2);
  wrong = λ lt h. f.wrong lt (h.0, less (take (suc (suc good)) (b ∷ bs) ++ h.0) h.1);
}

-- the first byte is at fault
pub fault_at_once : (S : List ℕ → Type 0) (bytes : List ℕ) (at : ℕ) → IsFault S (drop at bytes) 0 → IsFaultAt S bytes at at
fault_at_once S bytes at f = let none : 0 ≡ at - at = omega arith in record { from = omega arith; fault = subst (IsFault S (drop at bytes)) none f }

-- the byte at a place stands there
pub byte_stands : (bytes : List ℕ) (at b d : ℕ) → at < length bytes → b ≡ get_or bytes at d → StandsAt bytes at (at + 1) (b ∷ [])
byte_stands bytes at b d lt e = record {
  parts = drop-cons bytes at d lt ∙ ap (λ c. c ∷ drop (suc at) bytes) (sym e) ∙ ap (λ k. b ∷ drop k bytes) (sym (add-one at));
  end_is = refl;
  within = omega arith;
}

-- ---- refusals

pub refusal : (S T : List ℕ → Type 0) (bytes : List ℕ) (here at : ℕ) → ((place : ℕ) → IsFaultAt S bytes here place → IsFaultAt T bytes at place) → (fault : ImageErr) → Refuses S bytes here fault → Refuses T bytes at fault
refusal S T bytes here at f (Bad place) r = f place r
refusal S T bytes here at f OutOfMemory r = tt

-- two sets with the same spellings have the same faults
pub refused_alike : (S T : List ℕ → Type 0) (bytes : List ℕ) (at : ℕ) (fault : ImageErr) → ((x : List ℕ) → S x → T x) → ((x : List ℕ) → T x → S x) → Refuses S bytes at fault → Refuses T bytes at fault
refused_alike S T bytes at fault into back =
    refusal S T bytes at at (λ place f. record {
      from = f.from;
      fault = record {
        within = f.fault.within;
        begun = (f.fault.begun.0, f.fault.begun.1, into (take (place - at) (drop at bytes) ++ f.fault.begun.0 ∷ f.fault.begun.1) f.fault.begun.2);
        wrong = λ lt h. f.fault.wrong lt (h.0, back (take (suc (place - at)) (drop at bytes) ++ h.0) h.1);
      };
    }) fault

pub spelled_free : {V : Type 0} (IsField : V → Type 0) (bytes_of : V → List ℕ) → IsUnique IsField bytes_of → IsPrefixFree (Spelled IsField bytes_of)
spelled_free IsField bytes_of unique a b x y p q e =
    p.2 ∙ ap bytes_of (unique p.0 q.0 x y p.1 q.1 (ap (λ t. t ++ x) (sym p.2) ∙ e ∙ ap (λ t. t ++ y) q.2)).0 ∙ sym q.2

module _ {V : Type 0} (IsField : V → Type 0) (bytes_of : V → List ℕ) (unique : IsUnique IsField bytes_of) (Rest : V → List ℕ → Type 0) where
  pub goes_on : (field : V) → IsField field → (rest : List ℕ) × Rest field rest → (bytes : List ℕ) × Then IsField bytes_of Rest bytes
  goes_on field is rest = (bytes_of field ++ rest.0, (field, rest.0, is, refl, rest.1))

  -- a fault in the field
  pub refused_first : (bytes : List ℕ) (at : ℕ) (fault : ImageErr) → ((field : V) → IsField field → (rest : List ℕ) × Rest field rest) → Refuses (Spelled IsField bytes_of) bytes at fault → Refuses (Then IsField bytes_of Rest) bytes at fault
  refused_first bytes at fault rest =
      refusal (Spelled IsField bytes_of) (Then IsField bytes_of Rest) bytes at at (λ place f. record {
        from = f.from;
        fault = fault_first (Spelled IsField bytes_of) (Then IsField bytes_of Rest) (spelled_free IsField bytes_of unique)
            (λ a is. let more = rest is.0 is.1 in (more.0, (is.0, more.0, is.1, ap (λ t. t ++ more.0) is.2, more.1)))
            (λ x is. (bytes_of is.0, is.1, (is.0, is.2, refl), is.3))
            (drop at bytes) (place - at) f.fault;
      }) fault

  -- a fault behind the field
  pub refused_behind : (bytes : List ℕ) (at mid : ℕ) (field : V) (fault : ImageErr) → IsField field → StandsAt bytes at mid (bytes_of field) → Refuses (Rest field) bytes mid fault → Refuses (Then IsField bytes_of Rest) bytes at fault
  refused_behind bytes at mid field fault is stands =
      refusal (Rest field) (Then IsField bytes_of Rest) bytes mid at
      (λ place f. fault_then (Rest field) (Then IsField bytes_of Rest) bytes at mid place (bytes_of field) stands
      (λ x rest. (field, x, is, refl, rest))
      (λ x whole. let same = unique field whole.0 x whole.1 is whole.2 whole.3 in back field whole.0 x whole.1 same.0 same.1 whole.4)
      f) fault
    where
      back : (a b : V) (x y : List ℕ) → a ≡ b → x ≡ y → Rest b y → Rest a x
      back a b x y e e' rest = subst (λ v. Rest v x) (sym e) (subst (Rest b) (sym e') rest)
