-- The end of a text stands at the end of a program, and nowhere else. So where the end of the text is the last of the
-- tokens, a refusal names one of them.
use Rattle.std.proofs.Common.{◌≡◌, ℕ, Bool, true, false, ◌||◌, List, [], ◌∷◌, ◌++◌, Some, sym, refl, ◌∙◌, ap, subst}
use Rattle.std.proofs.lemmas.Bool.{or_parts, or_from}
use Rattle.std.proofs.lemmas.List.{append-nil}
use Rattle.c_grammar.specs.Table.{Symbol, Terminal, Nonterminal, leaves, Is, nothing, token, part, IsPart, first, after}
use Rattle.c_grammar.specs.Runs.{Whole, Bad, Failed, Run}
use Rattle.c_grammar.specs.Prefixes.{Accepted}
use Rattle.c_grammar.specs.declared.kind.Kind.{Kind}
use Rattle.c_grammar.specs.declared.kind.Kind.TheVariants.{Name, End}
use Rattle.c_grammar.specs.Kinds.{is}
use Rattle.c_grammar.specs.Forms
use Rattle.c_grammar.proofs.LanguageFollowed.{left_expr}
use Rattle.c_grammar.proofs.LanguageTells.{is_same}
use Rattle.c_grammar.proofs.LanguagePlaces.{misfit, only}
use Rattle.c_grammar.specs.Leaves.{Leaf, kind_of, sample}
use Rattle.c_reader.specs.Grammar.{grammar, Parse}
use Rattle.c_reader.specs.ProgramReadings.{nesting_limit, EndsText, IsThere}

pub real : (kind : Kind) → kind_of (sample kind) ≡ kind
real Name = refl
real _ = refl

-- ---- rows

abbrev is_program : Forms.Sort → Bool
is_program Forms.Program = true
is_program _ = false

-- May the end of a text stand in the trees of these symbols?
abbrev may_end : List (Symbol Kind Forms.Sort) → Bool
may_end [] = false
may_end (Terminal kind ∷ symbols) = is kind End || may_end symbols
may_end (Nonterminal sort level ∷ symbols) = is_program sort || may_end symbols

-- No row begins with it.
other_token : (kind : Kind) (row : Kind → Forms.Production) → Forms.is_row (row End) ≡ false → Forms.is_row (row kind) ≡ true → is kind End ≡ false
other_token kind row none is_row = by (is kind End) refl
  where
    by : (test : Bool) → is kind End ≡ test → is kind End ≡ false
    by false e = e
    by true e =
        let clash : true ≡ false = sym is_row ∙ ap (λ k. Forms.is_row (row k)) (is_same kind End e) ∙ none in
        absurd (cc clash)

inside : (form : Forms.Production) → Forms.is_row form ≡ true → is_program (Forms.sort_of form) ≡ false → may_end (Forms.symbols_of form) ≡ false
inside Forms.WholeProgram row other = absurd (cc other)
inside (Forms.Storage kind) row other = or_from (is kind End) false (other_token kind Forms.Storage refl row) refl
inside (Forms.ItemTyped kind next) row other = or_from (is kind End) false (other_token kind (λ k. Forms.ItemTyped k next) refl row) refl
inside (Forms.BaseWord own words kind next) row other = or_from (is kind End) false (other_token kind (λ k. Forms.BaseWord own words k next) refl row) refl
inside (Forms.BaseStruct true) row other = refl
inside (Forms.BaseStruct false) row other = refl
inside (Forms.Single kind) row other = or_from (is kind End) false (other_token kind Forms.Single refl row) refl
inside (Forms.Prefix kind operand) row other = or_from (is kind End) false (other_token kind (λ k. Forms.Prefix k operand) refl row) refl
inside (Forms.Binary kind right) row other = or_from (is kind End) false (other_token kind (λ k. Forms.Binary k right) refl row) refl
inside (Forms.Assign kind) row other = or_from (is kind End) false (other_token kind Forms.Assign refl row) refl
inside _ row other = refl

-- ---- trees

-- Is the end of a text among the leaves?
abbrev holds_end : List Leaf → Bool
holds_end [] = false
holds_end (leaf ∷ text) = is (kind_of leaf) End || holds_end text

beside : (xs ys : List Leaf) → holds_end xs ≡ false → holds_end ys ≡ false → holds_end (xs ++ ys) ≡ false
beside [] ys e h = h
beside (leaf ∷ xs) ys e h =
    let p = or_parts (is (kind_of leaf) End) (holds_end xs) e in
    or_from (is (kind_of leaf) End) (holds_end (xs ++ ys)) p.0 (beside xs ys p.1 h)

mutual
  parts_end : {symbols : List (Symbol Kind Forms.Sort)} {tree : Parse} → Is grammar symbols tree → may_end symbols ≡ false → holds_end (leaves tree) ≡ false
  parts_end nothing none = refl
  parts_end (token {kind = kind} {symbols = symbols} {others = others} leaf fits is_others) none =
      let p = or_parts (is kind End) (may_end symbols) none in
      or_from (is (kind_of leaf) End) (holds_end (leaves others)) (subst (λ k. is k End ≡ false) (is_same kind (kind_of leaf) fits) p.0) (parts_end is_others p.1)
  parts_end (part {sort = sort} {symbols = symbols} {tree = tree} {others = others} is_tree is_others free) none =
      let p = or_parts (is_program sort) (may_end symbols) none in
      beside (leaves tree) (leaves others) (tree_end is_tree p.0) (parts_end is_others p.1)

  -- It stands in no tree but a program.
  tree_end : {sort : Forms.Sort} {level : ℕ} {tree : Parse} → IsPart grammar sort level tree → is_program sort ≡ false → holds_end (leaves tree) ≡ false
  tree_end (first form sorted row left tight parts) other = parts_end parts (inside form row (ap is_program sorted ∙ other))
  tree_end (after {left = before} {parts = parts} form level sorted row left tight tree is_parts) other = beside (leaves before) (leaves parts) (tree_end tree other) (parts_end is_parts (inside form row (ap is_program sorted ∙ other)))

-- in a program it is the last, and no other is
pub record EndsOnce (text : List Leaf) : Type 0 where
  pub items : List Leaf
  pub last : Leaf
  pub parts : text ≡ items ++ last ∷ []
  pub none : holds_end items ≡ false

no_program : {level : ℕ} (form : Forms.Production) → Forms.sort_of form ≡ Forms.Program → Forms.left_of form ≡ Some level → ⊥
no_program {level = level} form sorted left = let expr : Forms.Program ≡ Forms.Expr = sym sorted ∙ left_expr form level left in cc expr

program_ends : {level : ℕ} {tree : Parse} → IsPart grammar Forms.Program level tree → EndsOnce (leaves tree)
program_ends (first Forms.WholeProgram sorted row left tight (part {tree = items} is_items (token end ends nothing) free)) = record { items = leaves items; last = end; parts = refl; none = tree_end is_items refl }
program_ends (first form sorted row left tight parts) = absurd (cc sorted)
program_ends (after form level sorted row left tight tree parts) = absurd (no_program form sorted left)

-- what ends in it is the whole program
whole : (front more items : List Leaf) (last : Leaf) → front ++ more ≡ items ++ last ∷ [] → holds_end items ≡ false → EndsText front → more ≡ []
whole [] more items last e none ends = absurd ends
whole (leaf ∷ []) more [] last e none ends = cc e
whole (leaf ∷ []) more (item ∷ items) last e none ends =
    let same : leaf ≡ item = cc e in
    let is_end : is (kind_of item) End ≡ true = ap (λ l. is (kind_of l) End) (sym same) ∙ ap (λ k. is k End) ends in
    let clash : true ≡ false = sym is_end ∙ (or_parts (is (kind_of item) End) (holds_end items) none).0 in
    absurd (cc clash)
whole (leaf ∷ next ∷ front) more [] last e none ends = absurd (cc e)
whole (leaf ∷ next ∷ front) more (item ∷ items) last e none ends = whole (next ∷ front) more items last (cc e) (or_parts (is (kind_of item) End) (holds_end items) none).1 ends

-- A text that begins a program and ends in it is one, so that no reader refuses it behind all its tokens.
pub stops_there : (text behind : List Leaf) → Run grammar (Whole Forms.Program 0) nesting_limit text (Failed Bad behind) → EndsText text → IsThere behind
stops_there text [] run ends =
    let at = misfit kind_of sample real nesting_limit text [] run in
    let all : text ≡ at.front = at.passed ∙ append-nil at.front in
    let tree = at.before.accepted in
    let once = program_ends tree.spelled in
    let none = whole at.front at.before.more once.items once.last (sym tree.same_leaves ∙ once.parts) once.none (subst EndsText all ends) in
    let same : at.front ++ at.before.more ≡ text = ap (λ more. at.front ++ more) none ∙ append-nil at.front ∙ sym all in
    absurd (only kind_of sample real nesting_limit text (Failed Bad []) run nesting_limit (subst (Accepted grammar Forms.Program 0 nesting_limit) same tree))
stops_there text (leaf ∷ behind) run ends = tt
