-- What stands between quotes, byte by byte.
use Rattle.std.proofs.Common.{◌≡◌, inl, inr, ℕ, zero, suc, ◌+◌, ◌≤◌, ◌==◌, List, [], ◌∷◌, ◌++◌, Some, None, Result, Ok, Err, cond, ◌&&◌, ◌||◌, length, drop, sym, refl, ap, ◌∙◌, subst, arith, eq-eqb, ne_eqb}
use Rattle.std.specs.Prelude.{is_some, not}
use Rattle.std.proofs.lemmas.Bool.{cases_Bool, cond-true, cond-false}
use Rattle.run_theory.specs.declared.place.Pos.{Pos}
use Rattle.c_lexer.specs.declared.lex_err.LexErr.{LexErr}
use Rattle.c_lexer.specs.declared.lex_err.LexErr.TheVariants.{BadByte, BadLiteral, Unclosed, BadDirective, NameTooLong, OutOfMemory}
use Rattle.c_lexer.specs.Constants.{escape_width, escape_byte, byte_or_zero, is_open, is_bad_escape, spelled_byte, spelled_width, spelled, quoted_from}
use Rattle.c_lexer.specs.Tokens.{UnlessMemory}

same_pair : (found : Result (ℕ × ℕ) LexErr) (byte width byte' width' : ℕ) → found ≡ Ok (byte, width) → found ≡ Ok (byte', width') → (byte ≡ byte') × (width ≡ width')
same_pair found byte width byte' width' is is' =
    let both : Ok (byte, width) ≡ Ok (byte', width') = sym is ∙ is' in
    let pair : ◌≡◌ {A = ℕ × ℕ} (byte, width) (byte', width') = cc in
    (ap (λ p. p.0) pair, ap (λ p. p.1) pair)

-- a byte or escape, and what follows it
pub quoted_more : (place : Pos) (quote : ℕ) (found : List ℕ) (count : ℕ) (byte : ℕ) (rest : List ℕ) (value width : ℕ) → (byte ≡ quote → ⊥) → spelled place byte rest ≡ Ok (value, width) → quoted_from place quote found count 0 (byte ∷ rest) ≡ quoted_from place quote (found ++ value ∷ []) (count + 1) width rest
quoted_more place quote found count byte rest value width other is =
    cond-false (byte == quote) _ _ (ne_eqb byte quote other) ∙ elim (cases_Bool (is_open byte rest)) [
      | inl opens ↦ absurd (let both : Err (Unclosed place) ≡ Ok (value, width) = sym (cond-true (is_open byte rest) _ _ opens) ∙ is in cc)
      | inr closed ↦ cond-false (is_open byte rest) _ _ closed ∙ elim (cases_Bool (is_bad_escape byte rest)) [
        | inl bad ↦ absurd (let both : Err (BadLiteral place) ≡ Ok (value, width) = sym (cond-false (is_open byte rest) _ _ closed ∙ cond-true (is_bad_escape byte rest) _ _ bad) ∙ is in cc)
        | inr good ↦ (let same = same_pair (spelled place byte rest) (spelled_byte byte rest) (spelled_width byte rest) value width (cond-false (is_open byte rest) _ _ closed ∙ cond-false (is_bad_escape byte rest) _ _ good) is in
            cond-false (is_bad_escape byte rest) _ _ good ∙ ap (λ v. quoted_from place quote (found ++ v ∷ []) (count + 1) (spelled_width byte rest) rest) same.0 ∙ ap (λ w. quoted_from place quote (found ++ value ∷ []) (count + 1) w rest) same.1)
      ]
    ]

same_error : (found : Result (ℕ × ℕ) LexErr) (error error' : LexErr) → found ≡ Err error → found ≡ Err error' → error ≡ error'
same_error found error error' is is' = let both : Err error ≡ Err error' = sym is ∙ is' in cc

pub quoted_refused : (place : Pos) (quote : ℕ) (found : List ℕ) (count : ℕ) (byte : ℕ) (rest : List ℕ) (error : LexErr) → (byte ≡ quote → ⊥) → spelled place byte rest ≡ Err error → quoted_from place quote found count 0 (byte ∷ rest) ≡ Err error
quoted_refused place quote found count byte rest error other is =
    cond-false (byte == quote) _ _ (ne_eqb byte quote other) ∙ elim (cases_Bool (is_open byte rest)) [
      | inl opens ↦ cond-true (is_open byte rest) _ _ opens ∙ ap Err (same_error (spelled place byte rest) (Unclosed place) error (cond-true (is_open byte rest) _ _ opens) is)
      | inr closed ↦ cond-false (is_open byte rest) _ _ closed ∙ elim (cases_Bool (is_bad_escape byte rest)) [
        | inl bad ↦ cond-true (is_bad_escape byte rest) _ _ bad ∙ ap Err (same_error (spelled place byte rest) (BadLiteral place) error (cond-false (is_open byte rest) _ _ closed ∙ cond-true (is_bad_escape byte rest) _ _ bad) is)
        | inr good ↦ absurd (let both : Ok (spelled_byte byte rest, spelled_width byte rest) ≡ Err error = sym (cond-false (is_open byte rest) _ _ closed ∙ cond-false (is_bad_escape byte rest) _ _ good) ∙ is in cc)
      ]
    ]

pub quoted_closes : (place : Pos) (quote : ℕ) (found : List ℕ) (count : ℕ) (byte : ℕ) (rest : List ℕ) → byte ≡ quote → quoted_from place quote found count 0 (byte ∷ rest) ≡ Ok (found, count + 1)
quoted_closes place quote found count byte rest is = cond-true (byte == quote) _ _ (eq-eqb byte quote is)

-- the bytes of an escape are passed
pub quoted_skips : (place : Pos) (quote : ℕ) (found : List ℕ) (count skip : ℕ) (text : List ℕ) → skip ≤ length text → quoted_from place quote found count skip text ≡ quoted_from place quote found (count + skip) 0 (drop skip text)
quoted_skips place quote found count zero text within =
    let same : count ≡ count + 0 = omega arith in
    ap (λ n. quoted_from place quote found n 0 text) same
quoted_skips place quote found count (suc skip) [] within = absurd (omega (arith, within))
quoted_skips place quote found count (suc skip) (byte ∷ rest) within =
    let same : count + 1 + skip ≡ count + suc skip = omega arith in
    quoted_skips place quote found (count + 1) skip rest (omega (arith, within)) ∙ ap (λ n. quoted_from place quote found n 0 (drop skip rest)) same

-- what is so is so unless memory ran out
pub unless_memory : (error : LexErr) (Fact : Type 0) → Fact → UnlessMemory error Fact
unless_memory OutOfMemory Fact fact = tt
unless_memory (BadByte place) Fact fact = fact
unless_memory (BadLiteral place) Fact fact = fact
unless_memory (Unclosed place) Fact fact = fact
unless_memory (BadDirective place) Fact fact = fact
unless_memory (NameTooLong place) Fact fact = fact

-- what a byte between quotes is, in its cases
pub spelled_end : (place : Pos) (first : ℕ) (rest : List ℕ) → first ≡ 10 → spelled place first rest ≡ Err (Unclosed place)
spelled_end place first rest ends = subst (λ f. spelled place f rest ≡ Err (Unclosed place)) (sym ends) refl

pub spelled_plain : (place : Pos) (first : ℕ) (rest : List ℕ) → (first ≡ 10 → ⊥) → (first ≡ 92 → ⊥) → spelled place first rest ≡ Ok (first, 0)
spelled_plain place first rest no_end no_escape =
    let e = ne_eqb first 10 no_end in
    let b = ne_eqb first 92 no_escape in
    ap (λ x. cond (x || (first == 92 && escape_width rest == 0)) (Err (Unclosed place)) (cond (is_bad_escape first rest) (Err (BadLiteral place)) (Ok (spelled_byte first rest, spelled_width first rest)))) e
    ∙ ap (λ x. cond (x && escape_width rest == 0) (Err (Unclosed place)) (cond (x && not (is_some (escape_byte rest))) (Err (BadLiteral place)) (Ok (cond x (byte_or_zero (escape_byte rest)) first, cond x (escape_width rest) 0)))) b

pub spelled_open : (place : Pos) (first : ℕ) (rest : List ℕ) → first ≡ 92 → escape_width rest ≡ 0 → spelled place first rest ≡ Err (Unclosed place)
spelled_open place first rest escape none =
    subst (λ f. spelled place f rest ≡ Err (Unclosed place)) (sym escape)
    (cond-true (escape_width rest == 0) _ _ (eq-eqb (escape_width rest) 0 none))

pub spelled_bad : (place : Pos) (first : ℕ) (rest : List ℕ) → first ≡ 92 → (escape_width rest ≡ 0 → ⊥) → escape_byte rest ≡ None → spelled place first rest ≡ Err (BadLiteral place)
spelled_bad place first rest escape some bad =
    subst (λ f. spelled place f rest ≡ Err (BadLiteral place)) (sym escape)
    (cond-false (escape_width rest == 0) _ _ (ne_eqb (escape_width rest) 0 some) ∙ cond-true (not (is_some (escape_byte rest))) _ _ (ap (λ o. not (is_some o)) bad))

pub spelled_escape : (place : Pos) (first : ℕ) (rest : List ℕ) (value : ℕ) → first ≡ 92 → (escape_width rest ≡ 0 → ⊥) → escape_byte rest ≡ Some value → spelled place first rest ≡ Ok (value, escape_width rest)
spelled_escape place first rest value escape some good =
    subst (λ f. spelled place f rest ≡ Ok (value, escape_width rest)) (sym escape)
    (cond-false (escape_width rest == 0) _ _ (ne_eqb (escape_width rest) 0 some) ∙ cond-false (not (is_some (escape_byte rest))) _ _ (ap (λ o. not (is_some o)) good) ∙ ap (λ o. Ok (byte_or_zero o, escape_width rest)) good)
