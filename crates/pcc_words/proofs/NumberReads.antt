-- What the getters of the matches read.
use Rattle.std.proofs.Common.{◌≡◌, ◌^◌, ◌<◌, ℕ, Bool, true, false, refl, ap, List, [], ◌∷◌, Option, Some, None, Result, Ok, Err}
use Rattle.std.specs.Prelude.{nat_lt, unwrap_or, option_map}
use Rattle.std.specs.Option.{option_map_or}
use Rattle.std.specs.List.{list_all}
use Rattle.std.specs.Char.{digit_value}
use Rattle.std.specs.Str.{bytes_eq}
use Rattle.std.specs.Str.Parse.{AllDigits, IsNumeral, ParsesUnsigned, without_leading_plus}
use Rattle.std.proofs.lemmas.Bool.{lt-ltb, ltb-true}
use Rattle.std.proofs.lemmas.Slice.Eq.{bytes_eq-Decides}
use Rattle.clap.specs.Matches.{ReadsOne}
use Rattle.clap.proofs.WalkLemmas.{both}
use Rattle.clap.specs.Walk.{Text}
use Rattle.pcc_words.proofs.WordRules.{some-same, some≢none}
use Rattle.pcc_words.specs.Line.{number_of}
use Rattle.pcc_words.specs.Found.{is_unsigned, number_or}

all_tested : (digits : List ℕ) → AllDigits 10 digits → list_all (λ digit. nat_lt (digit_value digit) 10) digits ≡ true
all_tested [] all = refl
all_tested (digit ∷ digits) all = rw (lt-ltb (digit_value digit) 10 all.0) (all_tested digits all.1)

all_digits : (digits : List ℕ) → list_all (λ digit. nat_lt (digit_value digit) 10) digits ≡ true → AllDigits 10 digits
all_digits [] e = tt
all_digits (digit ∷ digits) e =
    let parts = both _ _ e in
    (ltb-true (digit_value digit) 10 parts.0, all_digits digits parts.1)

unsigned_tested : (bits : ℕ) (text : Text) → IsNumeral 10 (without_leading_plus text) → number_of text < 2 ^ bits → is_unsigned bits text ≡ true
unsigned_tested bits text is small = rw (lt-ltb _ _ is.0, all_tested _ is.1, lt-ltb _ _ small) refl

unsigned_is : (bits : ℕ) (text : Text) → is_unsigned bits text ≡ true → IsNumeral 10 (without_leading_plus text) × (number_of text < 2 ^ bits)
unsigned_is bits text e =
    let outer = both _ _ e in
    let inner = both _ _ outer.0 in
    ((ltb-true _ _ inner.0, all_digits _ inner.1), ltb-true _ _ outer.1)

module _ (E : Type 0) (G : Text → Result ℕ E → Type 0) (bits default : ℕ) (parses : (t : Text) (x : Result ℕ E) → G t x → ParsesUnsigned bits 10 t x) where
  read : (t : Text) (r : Option ℕ) → ReadsOne G t r → unwrap_or r default ≡ number_or bits default t
  read t (Some v) h =
      let is = parses t (Ok v) h in
      rw (unsigned_tested bits t is.0.0 is.0.1) is.1
  read t None h = go (is_unsigned bits t) refl
    where
      go : (b : Bool) → is_unsigned bits t ≡ b → default ≡ number_or bits default t
      go false e = rw e refl
      go true e = absurd (parses t (Err h.0) h.1 (unsigned_is bits t e))

  -- `get_one`, with a default
  pub number_read : (text : Option Text) (r : Option ℕ) → (text ≡ None → r ≡ None) → ((t : Text) → text ≡ Some t → ReadsOne G t r)
      → unwrap_or r default ≡ option_map_or (number_or bits default) text default
  number_read None r none some = ap (λ o. unwrap_or o default) (none refl)
  number_read (Some t) r none some = read t r (some t refl)

-- the subcommand with what was found for it, by its two halves
pub both_found : {X A B : Type 0} (f : X → A) (g : X → B) (o : Option X) (a : A) (b : B) → Some a ≡ option_map f o
    → Some b ≡ option_map (λ (p : A × B). p.1) (option_map (λ x. (f x, g x)) o) → ◌≡◌ {A = Option (A × B)} (Some (a, b)) (option_map (λ x. (f x, g x)) o)
both_found f g None a b e1 e2 = absurd (some≢none a e1)
both_found f g (Some x) a b e1 e2 = λ i. Some (some-same a (f x) e1 i, some-same b (g x) e2 i)

pub text_is : (a b : Text) → bytes_eq a b ≡ true → a ≡ b
text_is a b e = (bytes_eq-Decides a b).0 e
