-- Where the tokens found so far stand in the text.
use Rattle.std.proofs.Common.{◌≡◌, ℕ, ◌+◌, ◌-◌, ◌≤◌, ◌==◌, List, [], ◌∷◌, ◌++◌, Ok, Bool, length, take, drop, sym, refl, ap, ◌∙◌, subst, append_assoc, arith, take-append-drop, length-append, length-drop, drop-drop}
use Rattle.std.proofs.lemmas.Bool.{cond_both}
use Rattle.run_theory.specs.declared.place.Pos.{Pos}
use Rattle.run_theory.specs.Places.{newline, place_after, first_place, place_behind, place_in}
use Rattle.run_theory.proofs.Places.{place_behind-append, place_in_room}
use Rattle.c_grammar.specs.declared.token.Lexeme.{Lexeme}
use Rattle.c_grammar.specs.declared.token.Lexeme.TheVariants as L
use Rattle.c_grammar.specs.declared.token.Token.{Token}
use Rattle.c_lexer.specs.declared.front.Front.{Front}
use Rattle.c_lexer.specs.declared.front.Front.TheVariants as F
use Rattle.c_lexer.specs.Fronts.{front_of}
use Rattle.c_lexer.specs.Tokens.{Spells, StandFrom, token_at, width_of}
use Rattle.c_lexer.proofs.Widths.{front_within}

-- The tokens found stand in the text before a place, and the rest begins there.
pub record StandBefore (text : List ℕ) (found : List Token) (start : ℕ) (rest : List ℕ) : Type 0 where
  pub within : start ≤ length text
  pub begins : rest ≡ drop start text
  pub joins : (more : List Token) → StandFrom text start more → StandFrom text 0 (found ++ more)

-- what stands before and what is left are together the text
pub stand_room : (text : List ℕ) (found : List Token) (start : ℕ) (rest : List ℕ) → StandBefore text found start rest → start + length rest ≡ length text
stand_room text found start rest stand = omega (arith, stand.within, ap length stand.begins, length-drop start text)

earlier : (text : List ℕ) (from from' : ℕ) (tokens : List Token) → from' ≤ from → StandFrom text from tokens → StandFrom text from' tokens
earlier text from from' [] before stand = stand
earlier text from from' (token ∷ tokens) before stand = (omega (arith, stand.0), stand.1, stand.2, stand.3, stand.4)

pub stand_first : (text : List ℕ) (found : List Token) → found ≡ [] → StandBefore text found 0 text
stand_first text found none = rw none record { within = omega arith; begins = refl; joins = λ more later. later }

spells_token : (line : Bool) (place : Pos) (text : List ℕ) (lexeme : Lexeme) (count : ℕ) → 1 ≤ length text → front_of line place text ≡ Ok (F.Token lexeme count) → Spells place text count lexeme
spells_token line place [] lexeme count some is = absurd (omega (arith, some))
spells_token line place (byte ∷ bytes) lexeme count some is = (line, is)

-- the token at the front of the rest, if one stands there, is the next one
joins_front : (text : List ℕ) (start : ℕ) (line : Bool) (place : Pos) (front : Front) (more : List Token) → start + width_of front ≤ length text → 1 ≤ length (drop start text) → front_of line place (drop start text) ≡ Ok front → StandFrom text (start + width_of front) more → StandFrom text start (token_at front start place ++ more)
joins_front text start line place (F.Blank count) more within some is later = earlier text (start + count) start more (omega arith) later
joins_front text start line place (F.Token lexeme count) more within some is later =
    let width : count ≡ start + count - start = omega arith in
    (omega arith, omega arith, within, subst (λ n. Spells place (drop start text) n lexeme) width (spells_token line place (drop start text) lexeme count some is), later)

pub stand_front : (text : List ℕ) (found found' : List Token) (start start' : ℕ) (rest rest' : List ℕ) (line : Bool) (place : Pos) (front : Front) → found' ≡ found ++ token_at front start place → rest' ≡ drop (width_of front) rest → start' ≡ start + width_of front → 1 ≤ length rest → front_of line place rest ≡ Ok front → StandBefore text found start rest → StandBefore text found' start' rest'
stand_front text found found' start start' rest rest' line place front kept after further some is stand =
    let fits = front_within line place rest front some is in
    let within : start + width_of front ≤ length text = omega (arith, stand.within, fits.1, ap length stand.begins, length-drop start text) in
    record {
      within = omega (arith, within, further);
      begins = after ∙ ap (drop (width_of front)) stand.begins ∙ drop-drop (width_of front) start text ∙ ap (λ n. drop n text) (sym further);
      joins = λ more later. subst (StandFrom text 0) (sym (ap (λ ts. ts ++ more) kept ∙ append_assoc found (token_at front start place) more))
          (stand.joins _ (joins_front text start line place front more within (subst (λ t. 1 ≤ length t) stand.begins some) (subst (λ t. front_of line place t ≡ Ok front) stand.begins is) (subst (λ n. StandFrom text n more) further later)));
    }

pub stand_end : (text : List ℕ) (found found' : List Token) (start : ℕ) (rest : List ℕ) (place : Pos) → found' ≡ found ++ record { lexeme = L.EndOfText; start = start; end = start; place = place } ∷ [] → rest ≡ [] → StandBefore text found start rest → StandFrom text 0 found'
stand_end text found found' start rest place pushed ends stand =
    let width : 0 ≡ start - start = omega arith in
    let empty : [] ≡ drop start text = sym ends ∙ stand.begins in
    subst (StandFrom text 0) (sym pushed) (stand.joins _ (omega arith, omega arith, stand.within, subst (λ n. Spells place (drop start text) n L.EndOfText) width (subst (λ t. Spells place t 0 L.EndOfText) empty (refl, refl)), tt))

-- The rest of the text begins at the place.
pub record IsPlacedBefore (text : List ℕ) (place : Pos) (rest : List ℕ) : Type 0 where
  pub front : List ℕ
  pub whole : text ≡ front ++ rest
  pub is : place ≡ place_in front

pub placed_first : (text : List ℕ) (place : Pos) → place ≡ first_place → IsPlacedBefore text place text
placed_first text place first = record { front = []; whole = refl; is = first }

pub placed_token : (text : List ℕ) (place place' : Pos) (rest rest' : List ℕ) (count : ℕ) → place' ≡ place_behind place (take count rest) → rest' ≡ drop count rest → IsPlacedBefore text place rest → IsPlacedBefore text place' rest'
placed_token text place place' rest rest' count behind after placed = record {
  front = placed.front ++ take count rest;
  whole = placed.whole ∙ ap (λ r. placed.front ++ r) (sym (take-append-drop count rest) ∙ ap (λ r. take count rest ++ r) (sym after)) ∙ sym (append_assoc placed.front (take count rest) rest');
  is = behind ∙ ap (λ p. place_behind p (take count rest)) placed.is ∙ sym (place_behind-append first_place placed.front (take count rest));
}

-- lines and columns and what is left of the text are together no more than its bytes, and one
pub placed_room : (text : List ℕ) (place : Pos) (rest : List ℕ) → IsPlacedBefore text place rest → (place.line + length rest ≤ length text + 1) × (place.column + length rest ≤ length text + 1)
placed_room text place rest placed =
    let room = place_in_room placed.front in
    let sum : length text ≡ length placed.front + length rest = ap length placed.whole ∙ length-append placed.front rest in
    (omega (arith, sum, room.0, ap (λ p. p.line) placed.is), omega (arith, sum, room.1, ap (λ p. p.column) placed.is))

-- a byte further, lines and columns are at most one more
pub line_after : (place : Pos) (byte : ℕ) → (place_after place byte).line ≤ place.line + 1
line_after place byte = cond_both (byte == newline) _ _ (λ (p : Pos). p.line ≤ place.line + 1) (λ ends. omega arith) (λ other. omega arith)

pub column_after : (place : Pos) (byte : ℕ) → (place_after place byte).column ≤ place.column + 1
column_after place byte = cond_both (byte == newline) _ _ (λ (p : Pos). p.column ≤ place.column + 1) (λ ends. omega arith) (λ other. omega arith)

-- the same as `stand_front`, where the width is counted by another name
pub stand_step : (text : List ℕ) (found found' : List Token) (start start' : ℕ) (rest rest' : List ℕ) (line : Bool) (place : Pos) (front : Front) (width : ℕ) → width ≡ width_of front → found' ≡ found ++ token_at front start place → rest' ≡ drop width rest → start' ≡ start + width → 1 ≤ length rest → front_of line place rest ≡ Ok front → StandBefore text found start rest → StandBefore text found' start' rest'
stand_step text found found' start start' rest rest' line place front width counted kept after further some is stand =
    stand_front text found found' start start' rest rest' line place front kept (after ∙ ap (λ w. drop w rest) counted) (further ∙ ap (λ w. start + w) counted) some is stand
