-- What `clap` makes of a word, by the word's looks.
use Rattle.std.proofs.Common.{◌≡◌, ◌∙◌, ◌^◌, ◌&&◌, ◌==◌, ℕ, Bool, cond, true, false, suc, refl, sym, ap, subst, List, [], ◌∷◌, length, Some, None, true≢false}
use Rattle.std.specs.Prelude.{slice_get, nat_le, nat_lt}
use Rattle.std.specs.List.{after_first, before_first, list_any}
use Rattle.std.specs.Char.{encode_utf8}
use Rattle.std.specs.Str.{IsUtf8, bytes_eq, chars}
use Rattle.std.proofs.lemmas.Bool.{eqb-true}
use Rattle.std.proofs.lemmas.Str.{encodes-chars}
use Rattle.std.proofs.Math.Utf8.{encodes}
use Rattle.clap.specs.Lexer.{long_of, short_of}
use Rattle.clap.specs.Walk.{Text}
use Rattle.pcc_words.specs.Line.{Look, Dashes, Named, Valued, Letters, Plain, behind_dash, behind_dashes, is_equals, is_number, look_of, number_of}
use Rattle.pcc_words.proofs.WordRules.{and_false}

abbrev pub dashes : Text
dashes = 45 ∷ 45 ∷ []

-- the flags of a bundle: there is a first character
pub record HasFlags (word : Text) : Type 0 where
  pub flags : Text
  pub short : short_of word ≡ Some flags
  pub first : ℕ
  pub is_first : slice_get (chars flags) 0 ≡ Some first
  pub less : ℕ
  pub size : length flags ≡ suc less

-- no number begins with a dash
abbrev pub IsNoNumber : Text → Type 0
IsNoNumber word = (most : ℕ) → is_number most word ≡ false

abbrev pub LooksLike : Look → Text → Type 0
LooksLike Dashes word = (bytes_eq word dashes ≡ true) × IsNoNumber word
LooksLike (Named name) word = (bytes_eq word dashes ≡ false) × (long_of word ≡ Some (name, None)) × IsNoNumber word
LooksLike (Valued name value) word = (bytes_eq word dashes ≡ false) × (long_of word ≡ Some (name, Some value)) × IsNoNumber word
LooksLike Letters word = (bytes_eq word dashes ≡ false) × (long_of word ≡ None) × HasFlags word × IsNoNumber word
LooksLike Plain word = (bytes_eq word dashes ≡ false) × (long_of word ≡ None) × (short_of word ≡ None)

no_number : (bytes : Text) → IsNoNumber (45 ∷ bytes)
no_number bytes most =
    ap (λ b. b && (nat_lt (number_of (45 ∷ bytes)) (2 ^ 64) && (nat_le 1 (number_of (45 ∷ bytes)) && nat_le (number_of (45 ∷ bytes)) most)))
    (and_false (nat_lt 0 (length (45 ∷ bytes))))

-- a text behind an ASCII byte has a character where it has a byte
chars_behind : (byte : ℕ) (bytes : Text) → IsUtf8 (45 ∷ byte ∷ bytes) → chars (byte ∷ bytes) ≡ [] → ⊥
unfolding chars encode_utf8
chars_behind byte bytes utf8 none =
    let all : encodes (45 ∷ chars (byte ∷ bytes)) ≡ 45 ∷ byte ∷ bytes = encodes-chars (45 ∷ byte ∷ bytes) utf8 in
    let short : encodes (45 ∷ []) ≡ 45 ∷ byte ∷ bytes = ap (λ cs. encodes (45 ∷ cs)) (sym none) ∙ all in
    true≢false (ap is_one short)
  where
    is_one : Text → Bool
    is_one (a ∷ []) = true
    is_one _ = false

some_first : (cs : List ℕ) → (cs ≡ [] → ⊥) → (first : ℕ) × (slice_get cs 0 ≡ Some first)
some_first [] h = absurd (h refl)
some_first (c ∷ cs) h = (c, refl)

-- behind the first dash
one_dash : (bytes : Text) → IsUtf8 (45 ∷ bytes) → LooksLike (behind_dash bytes) (45 ∷ bytes)
one_dash [] utf8 = (refl, refl, refl)
one_dash (byte ∷ bytes) utf8 = go (byte == 45) refl
  where
    two : (rest : Text) → LooksLike (behind_dashes rest) (45 ∷ 45 ∷ rest)
    two [] = (refl, no_number (45 ∷ []))
    two (x ∷ xs) = pick (list_any is_equals (x ∷ xs)) refl
      where
        pick : (b : Bool) → list_any is_equals (x ∷ xs) ≡ b
            → LooksLike (cond b (Valued (before_first is_equals (x ∷ xs)) (after_first is_equals (x ∷ xs))) (Named (before_first is_equals (x ∷ xs)))) (45 ∷ 45 ∷ x ∷ xs)
        pick true e = (refl, ap (λ b. Some (before_first is_equals (x ∷ xs), cond b (Some (after_first is_equals (x ∷ xs))) None)) e, no_number (45 ∷ x ∷ xs))
        pick false e = (refl, ap (λ b. Some (before_first is_equals (x ∷ xs), cond b (Some (after_first is_equals (x ∷ xs))) None)) e, no_number (45 ∷ x ∷ xs))

    go : (b : Bool) → (byte == 45) ≡ b → LooksLike (cond b (behind_dashes bytes) Letters) (45 ∷ byte ∷ bytes)
    go true e = subst (λ x. LooksLike (behind_dashes bytes) (45 ∷ x ∷ bytes)) (sym (eqb-true byte 45 e)) (two bytes)
    go false e =
        let first = some_first (chars (byte ∷ bytes)) (chars_behind byte bytes utf8) in (
          rw e refl,
          rw e refl,
          record { flags = byte ∷ bytes; short = rw e refl; first = first.0; is_first = first.1; less = length bytes; size = refl },
          no_number (byte ∷ bytes),
        )

pub seen : (word : Text) → IsUtf8 word → LooksLike (look_of word) word
seen [] utf8 = (refl, refl, refl)
seen (byte ∷ bytes) utf8 = go (byte == 45) refl
  where
    go : (b : Bool) → (byte == 45) ≡ b → LooksLike (cond b (behind_dash bytes) Plain) (byte ∷ bytes)
    go true e =
        let is = eqb-true byte 45 e in
        subst (λ x. LooksLike (behind_dash bytes) (x ∷ bytes)) (sym is) (one_dash bytes (subst (λ x. IsUtf8 (x ∷ bytes)) is utf8))
    go false e = (rw e refl, rw e refl, rw e refl)
