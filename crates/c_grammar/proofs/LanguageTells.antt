-- Two words tell the row.
use Rattle.std.proofs.Common.{◌≡◌, ℕ, zero, suc, ◌+◌, ◌≤◌, ◌⊎◌, inl, inr, Bool, true, false, ◌&&◌, ◌||◌, if◌then◌else◌, List, [], ◌∷◌, Option, Some, None, nat_le, length, sym, refl, ◌∙◌, ap, subst, arith, eq-eqb}
use Rattle.std.proofs.lemmas.Bool.{eqb-true}
use Rattle.c_grammar.specs.Table.{Symbol, Terminal, Nonterminal, Choice, Never, Take, Stuck, Table}
use Rattle.c_grammar.specs.Runs.{Parts, Whole, Outcome, Done, Failed, Run, no_memory, at_end, unfit, token_done, token_failed, part_done, part_failed, then_failed, never, stuck, stuck_deep, first_deep, second_deep, row_failed, row_done}
use Rattle.c_grammar.specs.Laws.{lowest, Within, Tells}
use Rattle.c_grammar.specs.declared.kind.Kind.{Kind}
use Rattle.c_grammar.specs.declared.kind.Kind.TheVariants.{Name, Integer, Character, Literal, End, Reserved, Const, Void, Char, Short, Int, Long, Signed, Unsigned, Struct, Static, Extern, Sizeof, Null, EndOfFile, If, Else, While, Do, For, Switch, Case, Default, Break, Continue, Return, OpenParenthesis, CloseParenthesis, OpenBrace, CloseBrace, OpenBracket, CloseBracket, Semicolon, Comma, Colon, Question, Dot, Arrow, PlusPlus, MinusMinus, Star, Slash, Percent, Plus, Minus, ShiftLeft, ShiftRight, Less, Greater, LessEqual, GreaterEqual, EqualEqual, ExclamationEqual, Ampersand, Caret, Bar, AmpersandAmpersand, BarBar, Tilde, Exclamation, Equal, StarEqual, SlashEqual, PercentEqual, PlusEqual, MinusEqual, ShiftLeftEqual, ShiftRightEqual, AmpersandEqual, CaretEqual, BarEqual}
use Rattle.c_grammar.specs.Kinds.{is_type_word, prefix_level, is_single, is, number}
use Rattle.c_grammar.specs.Forms
use Rattle.c_grammar.specs.Chooses.{take_if, begins_expr, begins_direct, by_prefix, choose_expr, choose_nested, choose_operand, choose_by}
use Rattle.c_grammar.specs.Language.{choose_at, language}
use Rattle.c_grammar.proofs.Exact.{within_more, shrinks}
use Rattle.c_grammar.proofs.LanguageRows.{AllRows, never as no_row, taken, stuck as stuck_row, good_row, tested, branch, branch_tested, and_left, and_right}

-- Each kind has its own number.
kinds : List Kind
kinds = Name ∷ Integer ∷ Character ∷ Literal ∷ End ∷ Reserved ∷ Const ∷ Void ∷ Char ∷ Short ∷ Int ∷ Long ∷ Signed ∷ Unsigned ∷ Struct ∷ Static ∷ Extern ∷ Sizeof ∷ Null ∷ EndOfFile ∷ If ∷ Else ∷ While ∷ Do ∷ For ∷ Switch ∷ Case ∷ Default ∷ Break ∷ Continue ∷ Return ∷ OpenParenthesis ∷ CloseParenthesis ∷ OpenBrace ∷ CloseBrace ∷ OpenBracket ∷ CloseBracket ∷ Semicolon ∷ Comma ∷ Colon ∷ Question ∷ Dot ∷ Arrow ∷ PlusPlus ∷ MinusMinus ∷ Star ∷ Slash ∷ Percent ∷ Plus ∷ Minus ∷ ShiftLeft ∷ ShiftRight ∷ Less ∷ Greater ∷ LessEqual ∷ GreaterEqual ∷ EqualEqual ∷ ExclamationEqual ∷ Ampersand ∷ Caret ∷ Bar ∷ AmpersandAmpersand ∷ BarBar ∷ Tilde ∷ Exclamation ∷ Equal ∷ StarEqual ∷ SlashEqual ∷ PercentEqual ∷ PlusEqual ∷ MinusEqual ∷ ShiftLeftEqual ∷ ShiftRightEqual ∷ AmpersandEqual ∷ CaretEqual ∷ BarEqual ∷ []

nth : List Kind → ℕ → Kind
nth [] n = End
nth (kind ∷ rest) zero = kind
nth (kind ∷ rest) (suc n) = nth rest n

numbered : (kind : Kind) → nth kinds (number kind) ≡ kind
unfolding kinds nth
numbered Name = refl
numbered _ = refl

pub is_same : (a b : Kind) → is a b ≡ true → a ≡ b
is_same a b e = sym (numbered a) ∙ ap (nth kinds) (eqb-true (number a) (number b) e) ∙ numbered b

pub is_swap : (a b : Kind) → is a b ≡ true → is b a ≡ true
is_swap a b e = eq-eqb (number b) (number a) (sym (eqb-true (number a) (number b) e))

pub is_self : (a : Kind) → is a a ≡ true
is_self a = eq-eqb (number a) (number a) refl

-- the row begins with a token that this kind is
pub record StartsWith (kind : Kind) (form : Forms.Production) (first second : ℕ) : Type 0 where
  pub own : Kind
  pub others : List (Symbol Kind Forms.Sort)
  pub row : Forms.symbols_of form ≡ Terminal own ∷ others
  pub told : is own kind ≡ true

prefix_starts : (level : ℕ) (kind : Kind) (operand : Option ℕ) → AllRows (StartsWith kind) (by_prefix level kind operand Never)
prefix_starts level kind (Some operand) = tested (nat_le 2 level) (Forms.Prefix kind operand) (λ e. record { own = kind; others = Nonterminal Forms.Expr operand ∷ []; row = refl; told = is_self kind }) no_row
prefix_starts level kind None = no_row

pub expr_starts : (level : ℕ) (kind next : Kind) → AllRows (StartsWith kind) (choose_expr level kind next)
expr_starts level kind next =
    tested (is_single kind) (Forms.Single kind) (λ e. record { own = kind; others = []; row = refl; told = is_self kind })
    (tested (is kind Literal) Forms.Text (λ e. record { own = Literal; others = _; row = refl; told = is_swap kind Literal e })
    (tested (is kind OpenParenthesis && (nat_le 3 level && is_type_word next)) Forms.Cast (λ e. record { own = OpenParenthesis; others = _; row = refl; told = is_swap kind OpenParenthesis (and_left (is kind OpenParenthesis) (nat_le 3 level && is_type_word next) e) })
    (tested (is kind OpenParenthesis) Forms.Parenthesized (λ e. record { own = OpenParenthesis; others = _; row = refl; told = is_swap kind OpenParenthesis e })
    (tested (is kind Sizeof && nat_le 2 level) Forms.SizeofRow (λ e. record { own = Sizeof; others = _; row = refl; told = is_swap kind Sizeof (and_left (is kind Sizeof) (nat_le 2 level) e) })
    (prefix_starts level kind (prefix_level kind))))))

nested_starts : (named : Bool) (kind next : Kind) → is OpenParenthesis kind ≡ true → AllRows (StartsWith kind) (choose_nested named next)
nested_starts named kind next e =
    branch (is next CloseParenthesis || is_type_word next) (taken (record { own = OpenParenthesis; others = _; row = refl; told = e }))
    (branch (is next Star || begins_direct named next) (taken (record { own = OpenParenthesis; others = _; row = refl; told = e })) (stuck_row 0))

pub direct_starts : (named : Bool) (level : ℕ) (kind next : Kind) → AllRows (StartsWith kind) (choose_by (Forms.ParamDirect named) level kind next)
direct_starts named level kind next =
    branch_tested (is kind OpenParenthesis) (λ e. nested_starts named kind next (is_swap kind OpenParenthesis e))
    (tested (is kind OpenBracket) (Forms.ParamArray named) (λ e. record { own = OpenBracket; others = _; row = refl; told = is_swap kind OpenBracket e })
    (tested (named && is kind Name) (Forms.ParamName named) (λ e. record { own = Name; others = _; row = refl; told = is_swap kind Name (and_right named (is kind Name) e) }) no_row))

-- the operand of `sizeof` behind a parenthesis
pub data OperandRow (form : Forms.Production) (first second : ℕ) : Type 0 where
  of_type : form ≡ Forms.SizeofType → OperandRow form first second
  of_expr : form ≡ Forms.SizeofExpr → second ≡ 2 → OperandRow form first second

pub operand_rows : (next : Kind) → AllRows OperandRow (choose_operand next)
operand_rows next = branch (is_type_word next) (taken (of_type refl)) (branch (begins_expr next) (taken (of_expr refl refl)) (stuck_row 0))

-- The least height for the first word doesn't hang on the second.
lowest_if : (test : Bool) (form : Forms.Production) (one other : Choice Forms.Production) → lowest one ≡ lowest other → lowest (take_if test form one) ≡ lowest (take_if test form other)
lowest_if true form one other e = refl
lowest_if false form one other e = e

lowest_cast : (opens cast cast' : Bool) (rest : Choice Forms.Production) → lowest (take_if (opens && cast) Forms.Cast (take_if opens Forms.Parenthesized rest)) ≡ lowest (take_if (opens && cast') Forms.Cast (take_if opens Forms.Parenthesized rest))
lowest_cast false cast cast' rest = refl
lowest_cast true true true rest = refl
lowest_cast true true false rest = refl
lowest_cast true false true rest = refl
lowest_cast true false false rest = refl

lowest_zero : (test : Bool) (one other : Choice Forms.Production) → lowest one ≡ Some 0 → lowest other ≡ Some 0 → lowest (if test then one else other) ≡ Some 0
lowest_zero true one other e e' = e
lowest_zero false one other e e' = e'

lowest_branch : (test : Bool) (one one' other : Choice Forms.Production) → lowest one ≡ lowest one' → lowest (if test then one else other) ≡ lowest (if test then one' else other)
lowest_branch true one one' other e = e
lowest_branch false one one' other e = refl

nested_lowest : (named : Bool) (next : Kind) → lowest (choose_nested named next) ≡ Some 0
nested_lowest named next = lowest_zero (is next CloseParenthesis || is_type_word next) _ _ refl (lowest_zero (is next Star || begins_direct named next) _ _ refl refl)

operand_lowest : (next : Kind) → lowest (choose_operand next) ≡ Some 0
operand_lowest next = lowest_zero (is_type_word next) _ _ refl (lowest_zero (begins_expr next) _ _ refl refl)

lowest_by : (sort : Forms.Sort) (level : ℕ) (kind a b : Kind) → lowest (choose_by sort level kind a) ≡ lowest (choose_by sort level kind b)
lowest_by Forms.Expr level kind a b = lowest_if (is_single kind) _ _ _ (lowest_if (is kind Literal) _ _ _ (lowest_cast (is kind OpenParenthesis) (nat_le 3 level && is_type_word a) (nat_le 3 level && is_type_word b) _))
lowest_by (Forms.ParamDirect named) level kind a b = lowest_branch (is kind OpenParenthesis) _ _ _ (nested_lowest named a ∙ sym (nested_lowest named b))
lowest_by Forms.SizeofOperand level kind a b = lowest_branch (is kind OpenParenthesis) _ _ _ (operand_lowest a ∙ sym (operand_lowest b))
lowest_by _ level kind a b = refl

-- A row that begins with a token that fits passes it.
pub passes : {Leaf Kind Sort Production : Type 0} (T : Table Leaf Kind Sort Production) {kind : Kind} {symbols : List (Symbol Kind Sort)} {below : ℕ} {leaf : Leaf} {text : List Leaf} {outcome : Outcome Leaf Production} → Run T (Parts (Terminal kind ∷ symbols)) below (leaf ∷ text) outcome → T.fits kind leaf ≡ true → Within (length text) outcome
passes T (no_memory behind) told = tt
passes T (unfit none) told =
    let clash : true ≡ false = sym told ∙ none in
    absurd (cc clash)
passes T (token_done fits run) told = shrinks T run
passes T (token_failed fits run) told = shrinks T run

module _ {Leaf : Type 0} (kind_of : Leaf → Kind) (sample : Kind → Leaf) where
  pub second_of : List Leaf → Kind
  second_of [] = End
  second_of (leaf ∷ text) = kind_of leaf

  pub choose_cons : (sort : Forms.Sort) (level : ℕ) (leaf : Leaf) (text : List Leaf) → choose_at kind_of sample sort level (leaf ∷ text) ≡ choose_by sort level (kind_of leaf) (second_of text)
  unfolding second_of
  choose_cons sort level leaf [] = refl
  choose_cons sort level leaf (next ∷ text) = refl

  starts_pass : (kind : Kind) (form : Forms.Production) (first second : ℕ) → StartsWith kind form first second → (below : ℕ) (leaf : Leaf) (text : List Leaf) (outcome : Outcome Leaf Forms.Production) → kind ≡ kind_of leaf → Run (language kind_of sample) (Parts (Forms.symbols_of form)) below (leaf ∷ text) outcome → Within (length text) outcome
  starts_pass kind form first second starts below leaf text outcome e run =
      passes (language kind_of sample) (subst (λ s. Run (language kind_of sample) (Parts s) below (leaf ∷ text) outcome) starts.row run) (ap (is starts.own) (sym e) ∙ starts.told)

  -- an expression in parentheses, where no cast may stand
  pub parenthesized : (leaf : Leaf) (text : List Leaf) → is (kind_of leaf) OpenParenthesis ≡ true → choose_at kind_of sample Forms.Expr 2 (leaf ∷ text) ≡ Take Forms.Parenthesized 2 2
  parenthesized leaf text e = choose_cons Forms.Expr 2 leaf text ∙ ap (λ k. choose_expr 2 k (second_of text)) (is_same (kind_of leaf) OpenParenthesis e)

  paren_passes : {room : ℕ} {leaf : Leaf} {text : List Leaf} {outcome : Outcome Leaf Forms.Production} → Run (language kind_of sample) (Whole Forms.Expr 2) room (leaf ∷ text) outcome → choose_at kind_of sample Forms.Expr 2 (leaf ∷ text) ≡ Take Forms.Parenthesized 2 2 → is OpenParenthesis (kind_of leaf) ≡ true → 2 ≤ room → Within (length text) outcome
  paren_passes (no_memory behind) at told fit = tt
  paren_passes (never chosen) at told fit =
      let clash : Never ≡ Take Forms.Parenthesized 2 2 = sym chosen ∙ at in
      absurd (cc clash)
  paren_passes (stuck {first = first} chosen le) at told fit = omega arith
  paren_passes (stuck_deep {first = first} chosen deep) at told fit =
      let clash : Stuck first ≡ Take Forms.Parenthesized 2 2 = sym chosen ∙ at in
      absurd (cc clash)
  paren_passes (first_deep {first = first} {second = second} {form = form} chosen deep) at told fit =
      let rows : Take form first second ≡ Take Forms.Parenthesized 2 2 = sym chosen ∙ at in
      let two : first ≡ 2 = cc rows in
      absurd (omega (arith, two, deep, fit))
  paren_passes (second_deep chosen le deep) at told fit = omega arith
  paren_passes {leaf = leaf} {text = text} (row_failed {below = below} {first = first} {second = second} {form = form} {behind = behind} {fault = fault} chosen le le' down run) at told fit =
      let rows : Take form first second ≡ Take Forms.Parenthesized 2 2 = sym chosen ∙ at in
      let same_form : form ≡ Forms.Parenthesized = cc rows in
      passes (language kind_of sample) (subst (λ f. Run (language kind_of sample) (Parts (Forms.symbols_of f)) below (leaf ∷ text) (Failed fault behind)) same_form run) told
  paren_passes {leaf = leaf} {text = text} (row_done {below = below} {first = first} {second = second} {form = form} {middle = middle} {parts = parts} {outcome = outcome} chosen le le' down run more) at told fit =
      let rows : Take form first second ≡ Take Forms.Parenthesized 2 2 = sym chosen ∙ at in
      let same_form : form ≡ Forms.Parenthesized = cc rows in
      let passed = passes (language kind_of sample) (subst (λ f. Run (language kind_of sample) (Parts (Forms.symbols_of f)) below (leaf ∷ text) (Done parts middle)) same_form run) told in
      within_more outcome (length middle) (length text) passed (shrinks (language kind_of sample) more)

  operand_passes : {below : ℕ} {leaf : Leaf} {text : List Leaf} {outcome : Outcome Leaf Forms.Production} → Run (language kind_of sample) (Parts (Forms.symbols_of Forms.SizeofExpr)) below (leaf ∷ text) outcome → is (kind_of leaf) OpenParenthesis ≡ true → 2 ≤ below → Within (length text) outcome
  operand_passes (no_memory behind) opens fit = tt
  operand_passes {leaf = leaf} {text = text} (part_done run at_end) opens fit = paren_passes run (parenthesized leaf text opens) (is_swap (kind_of leaf) OpenParenthesis opens) fit
  operand_passes {leaf = leaf} {text = text} (part_failed run) opens fit = paren_passes run (parenthesized leaf text opens) (is_swap (kind_of leaf) OpenParenthesis opens) fit
  operand_passes {leaf = leaf} {text = text} (then_failed run (no_memory behind)) opens fit = tt

  same_form : (sort : Forms.Sort) (level : ℕ) (leaf : Leaf) (text text' : List Leaf) (form form' : Forms.Production) (first second first' second' : ℕ) → ((kind a b : Kind) → choose_by sort level kind a ≡ choose_by sort level kind b) → choose_at kind_of sample sort level (leaf ∷ text) ≡ Take form first second → choose_at kind_of sample sort level (leaf ∷ text') ≡ Take form' first' second' → form ≡ form'
  same_form sort level leaf text text' form form' first second first' second' alike chosen chosen' =
      let rows : Take form first second ≡ Take form' first' second' = sym chosen ∙ choose_cons sort level leaf text ∙ alike (kind_of leaf) (second_of text) (second_of text') ∙ sym (choose_cons sort level leaf text') ∙ chosen' in
      cc rows

  abbrev Passes : Forms.Production → ℕ → Leaf → List Leaf → Type 0
  Passes form second leaf text = (room below : ℕ) (outcome : Outcome Leaf Forms.Production) → second ≤ room → below + Forms.weight_of form ≡ room → Run (language kind_of sample) (Parts (Forms.symbols_of form)) below (leaf ∷ text) outcome → Within (length text) outcome

  started : (level : ℕ) (sort : Forms.Sort) (leaf : Leaf) (text : List Leaf) (form : Forms.Production) (first second : ℕ) → AllRows (StartsWith (kind_of leaf)) (choose_by sort level (kind_of leaf) (second_of text)) → choose_at kind_of sample sort level (leaf ∷ text) ≡ Take form first second → Passes form second leaf text
  started level sort leaf text form first second rows chosen = λ room below outcome fit down run.
      starts_pass (kind_of leaf) form first second (good_row rows form first second (sym (choose_cons sort level leaf text) ∙ chosen)) below leaf text outcome refl run

  operand : (test : Bool) (level : ℕ) (leaf : Leaf) (text text' : List Leaf) (form form' : Forms.Production) (first second first' second' : ℕ) → is (kind_of leaf) OpenParenthesis ≡ test → (if test then choose_operand (second_of text) else take_if (begins_expr (kind_of leaf)) Forms.SizeofExpr Never) ≡ Take form first second → (if test then choose_operand (second_of text') else take_if (begins_expr (kind_of leaf)) Forms.SizeofExpr Never) ≡ Take form' first' second' → (form ≡ form') ⊎ Passes form second leaf text
  operand false level leaf text text' form form' first second first' second' opens chosen chosen' =
      let rows : Take form first second ≡ Take form' first' second' = sym chosen ∙ chosen' in
      inl (cc rows)
  operand true level leaf text text' form form' first second first' second' opens chosen chosen' =
      inr (λ room below outcome fit down run. by_row (good_row (operand_rows (second_of text)) form first second chosen) room below outcome fit down run)
    where
      by_row : OperandRow form first second → Passes form second leaf text
      by_row (of_type e) = λ room below outcome fit down run.
          passes (language kind_of sample) (subst (λ f. Run (language kind_of sample) (Parts (Forms.symbols_of f)) below (leaf ∷ text) outcome) e run) (is_swap (kind_of leaf) OpenParenthesis opens)
      by_row (of_expr e two) = λ room below outcome fit down run.
          let weights : Forms.weight_of form ≡ 0 = ap Forms.weight_of e in
          operand_passes (subst (λ f. Run (language kind_of sample) (Parts (Forms.symbols_of f)) below (leaf ∷ text) outcome) e run) opens (omega (arith, fit, two, down, weights))

  takes : (sort : Forms.Sort) (level : ℕ) (leaf : Leaf) (text text' : List Leaf) (form form' : Forms.Production) (first second first' second' : ℕ) → choose_at kind_of sample sort level (leaf ∷ text) ≡ Take form first second → choose_at kind_of sample sort level (leaf ∷ text') ≡ Take form' first' second' → (form ≡ form') ⊎ Passes form second leaf text
  takes Forms.Expr level leaf text text' form form' first second first' second' chosen chosen' = inr (started level Forms.Expr leaf text form first second (expr_starts level (kind_of leaf) (second_of text)) chosen)
  takes (Forms.ParamDirect named) level leaf text text' form form' first second first' second' chosen chosen' = inr (started level (Forms.ParamDirect named) leaf text form first second (direct_starts named level (kind_of leaf) (second_of text)) chosen)
  takes Forms.SizeofOperand level leaf text text' form form' first second first' second' chosen chosen' =
      operand (is (kind_of leaf) OpenParenthesis) level leaf text text' form form' first second first' second' refl (sym (choose_cons Forms.SizeofOperand level leaf text) ∙ chosen) (sym (choose_cons Forms.SizeofOperand level leaf text') ∙ chosen')
  takes sort level leaf text text' form form' first second first' second' chosen chosen' = inl (same_form sort level leaf text text' form form' first second first' second' (λ kind a b. refl) chosen chosen')

  pub tells : Tells (language kind_of sample)
  tells = record {
    same_first = λ sort level leaf text text'. ap lowest (choose_cons sort level leaf text) ∙ lowest_by sort level (kind_of leaf) (second_of text) (second_of text') ∙ sym (ap lowest (choose_cons sort level leaf text'));
    same_second = λ sort level leaf next text text'. refl;
    takes_first = takes;
  }
