-- A text divides in one way, or has one first fault, and never both; one of the two is so.
use Rattle.std.proofs.Common.{◌≡◌, ◌⊎◌, inl, inr, ℕ, zero, suc, ◌≤◌, List, [], ◌∷◌, ◌++◌, Result, Ok, Err, Bool, true, length, take, drop, sym, refl, ap, ◌∙◌, subst, append_assoc, arith, length-drop}
use Rattle.run_theory.specs.declared.place.Pos.{Pos}
use Rattle.run_theory.specs.Places.{first_place, place_behind}
use Rattle.c_grammar.specs.declared.token.Lexeme.{Lexeme}
use Rattle.c_grammar.specs.declared.token.Lexeme.TheVariants as L
use Rattle.c_grammar.specs.declared.token.Token.{Token}
use Rattle.c_lexer.specs.declared.lex_err.LexErr.{LexErr}
use Rattle.c_lexer.specs.declared.lex_err.LexErr.TheVariants.{BadByte, BadLiteral, Unclosed, BadDirective, NameTooLong, OutOfMemory}
use Rattle.c_lexer.specs.declared.front.Front.{Front}
use Rattle.c_lexer.specs.declared.front.Front.TheVariants as F
use Rattle.c_grammar.specs.Leaves.{Leaf, leaves_of}
use Rattle.c_lexer.specs.Fronts.{front_of}
use Rattle.c_lexer.specs.Tokens.{line_behind, DividesFrom, at_end, blank, token, Divides, width_of, FaultsFrom, here, behind, Faults, token_at, UnlessMemory, IsFoundUnlessMemory}
use Rattle.c_lexer.proofs.Widths.{front_within}

abbrev pub leaf : Lexeme → Pos → Leaf
leaf lexeme place = record { lexeme = lexeme; place = place }

-- what is left behind so many bytes divides so
abbrev pub DividesBehind : ℕ → Bool → Pos → List ℕ → List Leaf → Type 0
DividesBehind count line place text leaves = DividesFrom (line_behind line (take count text)) (place_behind place (take count text)) (drop count text) leaves

abbrev pub FaultsBehind : ℕ → Bool → Pos → List ℕ → LexErr → Type 0
FaultsBehind count line place text error = FaultsFrom (line_behind line (take count text)) (place_behind place (take count text)) (drop count text) error

-- nothing is left of an empty text but its end
pub end_only : (line : Bool) (place : Pos) (leaves : List Leaf) → DividesFrom line place [] leaves → leaves ≡ leaf L.EndOfText place ∷ []
end_only line place leaves (at_end l p) = refl

pub behind_blank : (line : Bool) (place : Pos) (byte : ℕ) (bytes : List ℕ) (count : ℕ) (leaves : List Leaf) → front_of line place (byte ∷ bytes) ≡ Ok (F.Blank count) → DividesFrom line place (byte ∷ bytes) leaves → DividesBehind count line place (byte ∷ bytes) leaves
behind_blank line place byte bytes count leaves is (blank l p b bs count' ls is' d) =
    let both : Ok (F.Blank count') ≡ Ok (F.Blank count) = sym is' ∙ is in
    let same : count' ≡ count = cc in
    subst (λ n. DividesBehind n line place (byte ∷ bytes) leaves) same d
behind_blank line place byte bytes count leaves is (token l p b bs lexeme count' ls is' d) =
    absurd (let both : Ok (F.Token lexeme count') ≡ Ok (F.Blank count) = sym is' ∙ is in cc)

pub behind_token : (line : Bool) (place : Pos) (byte : ℕ) (bytes : List ℕ) (lexeme : Lexeme) (count : ℕ) (leaves : List Leaf) → front_of line place (byte ∷ bytes) ≡ Ok (F.Token lexeme count) → DividesFrom line place (byte ∷ bytes) leaves → (more : List Leaf) × (leaves ≡ leaf lexeme place ∷ more) × DividesBehind count line place (byte ∷ bytes) more
behind_token line place byte bytes lexeme count leaves is (blank l p b bs count' ls is' d) =
    absurd (let both : Ok (F.Blank count') ≡ Ok (F.Token lexeme count) = sym is' ∙ is in cc)
behind_token line place byte bytes lexeme count leaves is (token l p b bs lexeme' count' ls is' d) =
    let both : Ok (F.Token lexeme' count') ≡ Ok (F.Token lexeme count) = sym is' ∙ is in
    let same : count' ≡ count = cc in
    let alike : lexeme' ≡ lexeme = cc in
    (ls, ap (λ x. leaf x place ∷ ls) alike, subst (λ n. DividesBehind n line place (byte ∷ bytes) ls) same d)

pub no_division : (line : Bool) (place : Pos) (byte : ℕ) (bytes : List ℕ) (error : LexErr) (leaves : List Leaf) → front_of line place (byte ∷ bytes) ≡ Err error → DividesFrom line place (byte ∷ bytes) leaves → ⊥
no_division line place byte bytes error leaves is (blank l p b bs count ls is' d) = let both : Ok (F.Blank count) ≡ Err error = sym is' ∙ is in cc
no_division line place byte bytes error leaves is (token l p b bs lexeme count ls is' d) = let both : Ok (F.Token lexeme count) ≡ Err error = sym is' ∙ is in cc

-- a text divides in one way
pub one_division : (line : Bool) (place : Pos) (text : List ℕ) (leaves leaves' : List Leaf) → DividesFrom line place text leaves → DividesFrom line place text leaves' → leaves ≡ leaves'
one_division line place text leaves leaves' (at_end l p) d' = sym (end_only line place leaves' d')
one_division line place text leaves leaves' (blank l p b bs count ls is d) d' = one_division _ _ _ leaves leaves' d (behind_blank line place b bs count leaves' is d')
one_division line place text leaves leaves' (token l p b bs lexeme count ls is d) d' =
    let s = behind_token line place b bs lexeme count leaves' is d' in
    ap (λ more. leaf lexeme place ∷ more) (one_division _ _ _ ls s.0 d s.2) ∙ sym s.1

-- a text with a fault doesn't divide
pub no_both : (line : Bool) (place : Pos) (text : List ℕ) (error : LexErr) (leaves : List Leaf) → FaultsFrom line place text error → DividesFrom line place text leaves → ⊥
no_both line place text error leaves (here l p b bs e is) d = no_division line place b bs error leaves is d
no_both line place text error leaves (behind l p b bs (F.Blank count) e is f) d = no_both _ _ _ error leaves f (behind_blank line place b bs count leaves is d)
no_both line place text error leaves (behind l p b bs (F.Token lexeme count) e is f) d =
    let s = behind_token line place b bs lexeme count leaves is d in
    no_both _ _ _ error s.0 f s.2

-- a text has one first fault
pub one_fault : (line : Bool) (place : Pos) (text : List ℕ) (error error' : LexErr) → FaultsFrom line place text error → FaultsFrom line place text error' → error ≡ error'
one_fault line place text error error' (here l p b bs e is) (here l' p' b' bs' e' is') = let both : Err error ≡ Err error' = sym is ∙ is' in cc
one_fault line place text error error' (here l p b bs e is) (behind l' p' b' bs' front e' is' f) = absurd (let both : Err error ≡ Ok front = sym is ∙ is' in cc)
one_fault line place text error error' (behind l p b bs front e is f) (here l' p' b' bs' e' is') = absurd (let both : Ok front ≡ Err error' = sym is ∙ is' in cc)
one_fault line place text error error' (behind l p b bs front e is f) (behind l' p' b' bs' front' e' is' f') =
    let both : Ok front ≡ Ok front' = sym is ∙ is' in
    let same : front ≡ front' = cc in
    one_fault _ _ _ error error' f (subst (λ x. FaultsBehind (width_of x) line place (b ∷ bs) error') (sym same) f')

-- a text divides, or has a fault
abbrev pub Decided : Bool → Pos → List ℕ → Type 0
Decided line place text = ((leaves : List Leaf) × DividesFrom line place text leaves) ⊎ ((error : LexErr) × FaultsFrom line place text error)

decided_front : (n : ℕ) (line : Bool) (place : Pos) (byte : ℕ) (bytes : List ℕ) (front : Result Front LexErr) → ((line : Bool) (place : Pos) (text : List ℕ) → length text ≤ n → Decided line place text) → length (byte ∷ bytes) ≤ suc n → front_of line place (byte ∷ bytes) ≡ front → Decided line place (byte ∷ bytes)
decided_front n line place byte bytes (Err error) rest short is = inr (error, here line place byte bytes error is)
decided_front n line place byte bytes (Ok (F.Blank count)) rest short is =
    let within = front_within line place (byte ∷ bytes) (F.Blank count) (omega arith) is in
    elim (rest (line_behind line (take count (byte ∷ bytes))) (place_behind place (take count (byte ∷ bytes))) (drop count (byte ∷ bytes)) (omega (arith, within.0, within.1, short, length-drop count (byte ∷ bytes)))) [
      | inl d ↦ inl (d.0, blank line place byte bytes count d.0 is d.1)
      | inr f ↦ inr (f.0, behind line place byte bytes (F.Blank count) f.0 is f.1)
    ]
decided_front n line place byte bytes (Ok (F.Token lexeme count)) rest short is =
    let within = front_within line place (byte ∷ bytes) (F.Token lexeme count) (omega arith) is in
    elim (rest (line_behind line (take count (byte ∷ bytes))) (place_behind place (take count (byte ∷ bytes))) (drop count (byte ∷ bytes)) (omega (arith, within.0, within.1, short, length-drop count (byte ∷ bytes)))) [
      | inl d ↦ inl (leaf lexeme place ∷ d.0, token line place byte bytes lexeme count d.0 is d.1)
      | inr f ↦ inr (f.0, behind line place byte bytes (F.Token lexeme count) f.0 is f.1)
    ]

decided_within : (n : ℕ) (line : Bool) (place : Pos) (text : List ℕ) → length text ≤ n → Decided line place text
decided_within n line place [] short = inl (leaf L.EndOfText place ∷ [], at_end line place)
decided_within zero line place (byte ∷ bytes) short = absurd (omega (arith, short))
decided_within (suc n) line place (byte ∷ bytes) short = decided_front n line place byte bytes (front_of line place (byte ∷ bytes)) (decided_within n) short refl

pub decided : (text : List ℕ) → ((leaves : List Leaf) × Divides first_place text leaves) ⊎ ((error : LexErr) × Faults first_place text error)
decided text = decided_within (length text) true first_place text (omega arith)

-- What the rest of the text divides into, the text divides into behind the leaves found; and a fault of the rest is one
-- of the text.
pub record IsCutBefore (text : List ℕ) (found : List Leaf) (line : Bool) (place : Pos) (rest : List ℕ) : Type 0 where
  pub joins : (more : List Leaf) → DividesFrom line place rest more → Divides first_place text (found ++ more)
  pub faults : (error : LexErr) → FaultsFrom line place rest error → Faults first_place text error

pub cut_first : (text : List ℕ) (found : List Token) (place : Pos) → found ≡ [] → place ≡ first_place → IsCutBefore text (leaves_of found) true place text
cut_first text found place none first = rw (none, first) record { joins = λ more d. d; faults = λ error f. f }

join_front : (line : Bool) (place : Pos) (rest : List ℕ) (front : Front) (start : ℕ) (more : List Leaf) → 1 ≤ length rest → front_of line place rest ≡ Ok front → DividesBehind (width_of front) line place rest more → DividesFrom line place rest (leaves_of (token_at front start place) ++ more)
join_front line place [] front start more some is d = absurd (omega (arith, some))
join_front line place (byte ∷ bytes) (F.Blank count) start more some is d = blank line place byte bytes count more is d
join_front line place (byte ∷ bytes) (F.Token lexeme count) start more some is d = token line place byte bytes lexeme count more is d

fault_front : (line : Bool) (place : Pos) (rest : List ℕ) (front : Front) (error : LexErr) → 1 ≤ length rest → front_of line place rest ≡ Ok front → FaultsBehind (width_of front) line place rest error → FaultsFrom line place rest error
fault_front line place [] front error some is f = absurd (omega (arith, some))
fault_front line place (byte ∷ bytes) front error some is f = behind line place byte bytes front error is f

leaves_of-append : (xs ys : List Token) → leaves_of (xs ++ ys) ≡ leaves_of xs ++ leaves_of ys
leaves_of-append [] ys = refl
leaves_of-append (x ∷ xs) ys = ap (λ ls. leaf x.lexeme x.place ∷ ls) (leaves_of-append xs ys)

pub cut_front : (text : List ℕ) (found found' : List Token) (line line' : Bool) (place place' : Pos) (rest rest' : List ℕ) (front : Front) (start : ℕ) → found' ≡ found ++ token_at front start place → line' ≡ line_behind line (take (width_of front) rest) → place' ≡ place_behind place (take (width_of front) rest) → rest' ≡ drop (width_of front) rest → 1 ≤ length rest → front_of line place rest ≡ Ok front → IsCutBefore text (leaves_of found) line place rest → IsCutBefore text (leaves_of found') line' place' rest'
cut_front text found found' line line' place place' rest rest' front start kept goes past after some is cut =
    let here_leaves = leaves_of (token_at front start place) in
    let regrouped = λ (more : List Leaf). sym (ap (λ ts. leaves_of ts ++ more) kept ∙ ap (λ ls. ls ++ more) (leaves_of-append found (token_at front start place)) ∙ append_assoc (leaves_of found) here_leaves more) in
    record {
      joins = λ more d. subst (Divides first_place text) (regrouped more) (cut.joins (here_leaves ++ more) (join_front line place rest front start more some is (subst (λ l. DividesFrom l (place_behind place (take (width_of front) rest)) (drop (width_of front) rest) more) goes (subst (λ p. DividesFrom line' p (drop (width_of front) rest) more) past (subst (λ t. DividesFrom line' place' t more) after d)))));
      faults = λ error f. cut.faults error (fault_front line place rest front error some is (subst (λ l. FaultsFrom l (place_behind place (take (width_of front) rest)) (drop (width_of front) rest) error) goes (subst (λ p. FaultsFrom line' p (drop (width_of front) rest) error) past (subst (λ t. FaultsFrom line' place' t error) after f))));
    }

pub cut_end : (text : List ℕ) (found found' : List Leaf) (line : Bool) (place : Pos) (rest : List ℕ) → found' ≡ found ++ leaf L.EndOfText place ∷ [] → rest ≡ [] → IsCutBefore text found line place rest → Divides first_place text found'
cut_end text found found' line place rest pushed ends cut =
    subst (Divides first_place text) (sym pushed) (cut.joins (leaf L.EndOfText place ∷ []) (subst (λ t. DividesFrom line place t (leaf L.EndOfText place ∷ [])) (sym ends) (at_end line place)))

-- what doesn't divide is refused as the front of its rest is, unless memory runs out there
pub cut_refused : (text : List ℕ) (found : List Leaf) (line : Bool) (place : Pos) (rest : List ℕ) (error : LexErr) → 1 ≤ length rest → UnlessMemory error (front_of line place rest ≡ Err error) → IsCutBefore text found line place rest → UnlessMemory error (Faults first_place text error)
cut_refused text found line place [] error some refused cut = absurd (omega (arith, some))
cut_refused text found line place (byte ∷ bytes) OutOfMemory some refused cut = tt
cut_refused text found line place (byte ∷ bytes) (BadByte at) some refused cut = cut.faults (BadByte at) (here line place byte bytes (BadByte at) refused)
cut_refused text found line place (byte ∷ bytes) (BadLiteral at) some refused cut = cut.faults (BadLiteral at) (here line place byte bytes (BadLiteral at) refused)
cut_refused text found line place (byte ∷ bytes) (Unclosed at) some refused cut = cut.faults (Unclosed at) (here line place byte bytes (Unclosed at) refused)
cut_refused text found line place (byte ∷ bytes) (BadDirective at) some refused cut = cut.faults (BadDirective at) (here line place byte bytes (BadDirective at) refused)
cut_refused text found line place (byte ∷ bytes) (NameTooLong at) some refused cut = cut.faults (NameTooLong at) (here line place byte bytes (NameTooLong at) refused)

-- a refusal for another reason than want of memory leaves no division
pub refused_only : (text : List ℕ) (error : LexErr) (leaves : List Leaf) → UnlessMemory error (Faults first_place text error) → Divides first_place text leaves → IsFoundUnlessMemory (Err error) leaves
refused_only text OutOfMemory leaves refused d = tt
refused_only text (BadByte at) leaves refused d = no_both true first_place text (BadByte at) leaves refused d
refused_only text (BadLiteral at) leaves refused d = no_both true first_place text (BadLiteral at) leaves refused d
refused_only text (Unclosed at) leaves refused d = no_both true first_place text (Unclosed at) leaves refused d
refused_only text (BadDirective at) leaves refused d = no_both true first_place text (BadDirective at) leaves refused d
refused_only text (NameTooLong at) leaves refused d = no_both true first_place text (NameTooLong at) leaves refused d

-- the same, where the width is counted by another name
pub cut_step : (text : List ℕ) (found found' : List Token) (line line' : Bool) (place place' : Pos) (rest rest' : List ℕ) (front : Front) (start width : ℕ) → width ≡ width_of front → found' ≡ found ++ token_at front start place → line' ≡ line_behind line (take width rest) → place' ≡ place_behind place (take width rest) → rest' ≡ drop width rest → 1 ≤ length rest → front_of line place rest ≡ Ok front → IsCutBefore text (leaves_of found) line place rest → IsCutBefore text (leaves_of found') line' place' rest'
cut_step text found found' line line' place place' rest rest' front start width counted kept goes past after some is cut =
    cut_front text found found' line line' place place' rest rest' front start kept (goes ∙ ap (λ w. line_behind line (take w rest)) counted) (past ∙ ap (λ w. place_behind place (take w rest)) counted) (after ∙ ap (λ w. drop w rest) counted) some is cut
