-- The tokens of a text have at most one that is misplaced, in one way.
use Rattle.std.proofs.Common.{◌≡◌, ℕ, Bool, true, List, [], ◌∷◌, ◌++◌, sym, ap, ◌∙◌, refl, subst, append_assoc}
use Rattle.run_theory.specs.declared.place.Pos.{Pos}
use Rattle.run_theory.specs.Places.{first_place}
use Rattle.c_grammar.specs.Prefixes.{Accepted, BeginsAccepted}
use Rattle.c_grammar.specs.Forms.{Program}
use Rattle.c_grammar.specs.Leaves.{Leaf}
use Rattle.c_lexer.specs.Tokens.{DividesFrom, at_end, blank, token}
use Rattle.c_lexer.proofs.Dividing.{one_division}
use Rattle.c_reader.specs.Grammar.{grammar}
use Rattle.c_reader.specs.Shapes.{place_of}
use Rattle.c_reader.specs.ProgramReadings.{nesting_limit, EndsText, IsThere, MisfitAt, TooDeepAt}
use Rattle.pcc_words.specs.declared.status.SyntaxKind.{SyntaxKind}
use Rattle.pcc_words.specs.declared.status.SyntaxKind.TheVariants as Y
use Rattle.pcc_words.specs.declared.status.Refusal.TheVariants as R
use Rattle.poolcc.specs.Refused.{Misplaced, IsSyntactic}

-- ---- the tokens of a text end in its end

with_before : (leaf : Leaf) (leaves : List Leaf) → EndsText leaves → EndsText (leaf ∷ leaves)
with_before leaf [] ends = absurd ends
with_before leaf (next ∷ leaves) ends = ends

ends_text : {line : Bool} {place : Pos} {text : List ℕ} {leaves : List Leaf} → DividesFrom line place text leaves → EndsText leaves
ends_text (at_end line place) = refl
ends_text (blank line place byte bytes count leaves is divides) = ends_text divides
ends_text (token line place byte bytes lexeme count leaves is divides) = with_before (record { lexeme = lexeme; place = place }) leaves (ends_text divides)

-- ---- what begins a program

-- Of what holds of each front of a list where it holds of the list, the longest front is one.
one_front : {A : Type 0} (P : List A → Type 0) → ((xs ys : List A) → P (xs ++ ys) → P xs) → (xs ys xs' ys' : List A) (x x' : A) → xs ++ x ∷ ys ≡ xs' ++ x' ∷ ys' → P xs → (P (xs ++ x ∷ []) → ⊥) → P xs' → (P (xs' ++ x' ∷ []) → ⊥) → (xs ≡ xs') × (x ≡ x')
one_front P shorter [] ys [] ys' x x' e p none p' none' = (refl, cc e)
one_front P shorter [] ys (z ∷ xs') ys' x x' e p none p' none' =
    let same : z ≡ x = cc e in
    absurd (none (subst (λ w. P (w ∷ [])) same (shorter (z ∷ []) xs' p')))
one_front P shorter (y ∷ xs) ys [] ys' x x' e p none p' none' =
    let same : y ≡ x' = cc e in
    absurd (none' (subst (λ w. P (w ∷ [])) same (shorter (y ∷ []) xs p)))
one_front P shorter (y ∷ xs) ys (z ∷ xs') ys' x x' e p none p' none' =
    let same : y ≡ z = cc e in
    let r = one_front (λ l. P (y ∷ l)) (λ l m. shorter (y ∷ l) m) xs ys xs' ys' x x' (cc e) p none (subst (λ w. P (w ∷ xs')) (sym same) p') (λ q. none' (subst (λ w. P (w ∷ (xs' ++ x' ∷ []))) same q)) in
    (ap (λ l. y ∷ l) r.0 ∙ ap (λ w. w ∷ xs') same, r.1)

abbrev Begins : List Leaf → Type 0
Begins front = BeginsAccepted grammar Program 0 nesting_limit front

shorter : (front more : List Leaf) → Begins (front ++ more) → Begins front
shorter front more begins = record { more = more ++ begins.more; accepted = subst (Accepted grammar Program 0 nesting_limit) (append_assoc front more begins.more) begins.accepted }

-- ---- the token that is misplaced

record StopsAt (leaves front : List Leaf) (leaf : Leaf) (others : List Leaf) (place : Pos) : Type 0 where
  pub parts : leaves ≡ front ++ leaf ∷ others
  pub stands : leaf.place ≡ place
  pub before : Begins front
  pub none : Begins (front ++ leaf ∷ []) → ⊥

one_stop : {leaves front front' : List Leaf} {leaf leaf' : Leaf} {others others' : List Leaf} {place place' : Pos} → StopsAt leaves front leaf others place → StopsAt leaves front' leaf' others' place' → (front ≡ front') × (leaf ≡ leaf')
one_stop {front = front} {front' = front'} {leaf = leaf} {leaf' = leaf'} {others = others} {others' = others'} a b =
    one_front Begins shorter front others front' others' leaf leaf' (sym a.parts ∙ b.parts) a.before a.none b.before b.none

one_place : {leaves front front' : List Leaf} {leaf leaf' : Leaf} {others others' : List Leaf} {place place' : Pos} → StopsAt leaves front leaf others place → StopsAt leaves front' leaf' others' place' → place ≡ place'
one_place a b = sym a.stands ∙ ap (λ l. l.place) (one_stop a b).1 ∙ b.stands

one_token : (behind : List Leaf) → IsThere behind → (leaf : Leaf) × (others : List Leaf) × (behind ≡ leaf ∷ others)
one_token [] there = absurd there
one_token (leaf ∷ others) there = (leaf, others, refl)

at_token : {leaves : List Leaf} {place : Pos} (m : MisfitAt leaves place) {leaf : Leaf} {others : List Leaf} → m.behind ≡ leaf ∷ others → StopsAt leaves m.misfit.front leaf others place
at_token m {leaf = leaf} {others = others} here = record {
  parts = m.misfit.passed ∙ ap (λ l. m.misfit.front ++ l) here;
  stands = sym (ap place_of here) ∙ m.stands;
  before = m.misfit.before;
  none = m.misfit.none leaf others here nesting_limit;
}

deep_token : {leaves : List Leaf} {place : Pos} (d : TooDeepAt leaves place) → StopsAt leaves d.too_deep.front d.too_deep.leaf d.too_deep.others place
deep_token d = record {
  parts = d.too_deep.passed ∙ ap (λ l. d.too_deep.front ++ l) d.too_deep.here;
  stands = sym (ap place_of d.too_deep.here) ∙ d.stands;
  before = d.too_deep.before;
  none = d.too_deep.none;
}

-- What fits in no program isn't too deep.
not_both : {leaves : List Leaf} {place place' : Pos} → EndsText leaves → MisfitAt leaves place → TooDeepAt leaves place' → ⊥
not_both ends m d =
    let t = one_token m.behind (m.there ends) in
    let r = one_stop (at_token m t.2) (deep_token d) in
    m.misfit.none t.0 t.1 t.2 d.too_deep.larger (subst (λ front. BeginsAccepted grammar Program 0 d.too_deep.larger (front ++ t.0 ∷ [])) (sym r.0) (subst (λ leaf. BeginsAccepted grammar Program 0 d.too_deep.larger (d.too_deep.front ++ leaf ∷ [])) (sym r.1) d.too_deep.deeper))

one_misplaced : (leaves : List Leaf) (kind kind' : SyntaxKind) (place place' : Pos) → EndsText leaves → Misplaced kind leaves place → Misplaced kind' leaves place' → R.Syntax kind place ≡ R.Syntax kind' place'
one_misplaced leaves Y.At Y.At place place' ends m m' =
    let t = one_token m.behind (m.there ends) in
    let t' = one_token m'.behind (m'.there ends) in
    ap (R.Syntax Y.At) (one_place (at_token m t.2) (at_token m' t'.2))
one_misplaced leaves Y.At Y.TooDeep place place' ends m d = absurd (not_both ends m d)
one_misplaced leaves Y.TooDeep Y.At place place' ends d m = absurd (not_both ends m d)
one_misplaced leaves Y.TooDeep Y.TooDeep place place' ends d d' = ap (R.Syntax Y.TooDeep) (one_place (deep_token d) (deep_token d'))

pub one_syntactic : (text : List ℕ) (kind kind' : SyntaxKind) (place place' : Pos) → IsSyntactic text kind place → IsSyntactic text kind' place' → R.Syntax kind place ≡ R.Syntax kind' place'
one_syntactic text kind kind' place place' a b =
    let same = one_division true first_place text b.leaves a.leaves b.divides a.divides in
    one_misplaced a.leaves kind kind' place place' (ends_text a.divides) a.misplaced (subst (λ leaves. Misplaced kind' leaves place') same b.misplaced)
