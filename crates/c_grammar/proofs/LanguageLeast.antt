-- The least trees of the grammar are trees, and the rows by which expressions go on are as they are told.
use Rattle.std.proofs.Common.{◌≡◌, ℕ, ◌+◌, ◌≤◌, max, Bool, true, false, ◌&&◌, if◌then◌else◌, List, [], ◌∷◌, Option, Some, None, nat_le, sym, refl, ◌∙◌, ap, subst, arith}
use Rattle.std.proofs.lemmas.Bool.{leb-true}
use Rattle.c_grammar.specs.Table.{Symbol, Terminal, Nonterminal, Tree, Alone, Then, Node, leaves, height, barred, Is, nothing, token, part, IsPart, first, need_all, Plain, Orderly}
use Rattle.c_grammar.specs.Runs.{level_of, next_row}
use Rattle.c_grammar.specs.Laws.{IsNext}
use Rattle.c_grammar.specs.declared.kind.Kind.{Kind}
use Rattle.c_grammar.specs.declared.kind.Kind.TheVariants.{Name, Integer, Else, End, Struct, Int, Semicolon, CloseBrace, OpenBrace, OpenBracket, CloseBracket, OpenParenthesis, CloseParenthesis, Question, Dot, Arrow, PlusPlus, MinusMinus}
use Rattle.c_grammar.specs.Kinds.{is, is_assignment, binary_right}
use Rattle.c_grammar.specs.Forms
use Rattle.c_grammar.specs.Chooses.{goes_if, by_binary, by_postfix, postfix_of, goes_on_by}
use Rattle.c_grammar.specs.Language.{is_open, least_words, least_name, least_type, least_direct, least_expr, least_of, language}
use Rattle.c_grammar.proofs.LanguageRows.{and_left, and_right, this_number}
use Rattle.c_grammar.proofs.LanguageTells.{is_swap, is_self}
use Rattle.c_grammar.specs.declared.words.Sign.TheVariants.{NoSign}
use Rattle.c_grammar.specs.declared.words.Size.TheVariants.{NoSize}
use Rattle.c_grammar.specs.declared.words.Words.TheVariants.{NoWord, FullType, Integers}
use Rattle.c_grammar.specs.declared.words.Words.{Words}

pub and_false : (b : Bool) → (b && false) ≡ false
and_false true = refl
and_false false = refl

not_true : (b : Bool) → (b ≡ true → ⊥) → b ≡ false
not_true true h = absurd (h refl)
not_true false h = refl

pub not_swap : (a b : Kind) → is a b ≡ false → is b a ≡ false
not_swap a b e = not_true (is b a) (λ h. clash h)
  where
    clash : is b a ≡ true → ⊥
    clash h =
        let both : true ≡ false = sym (is_swap b a h) ∙ e in
        cc both

-- The token behind a tree of a row is never `else`.
plain_row : List (Symbol Kind Forms.Sort) → Bool
plain_row [] = true
plain_row (Terminal kind ∷ symbols) = if is kind Else then false else plain_row symbols
plain_row (Nonterminal sort level ∷ symbols) = plain_row symbols

orderly_row : List (Symbol Kind Forms.Sort) → Bool
orderly_row [] = true
orderly_row (Terminal kind ∷ symbols) = orderly_row symbols
orderly_row (Nonterminal sort level ∷ symbols) = plain_row symbols && orderly_row symbols

orderly_test : (form : Forms.Production) → orderly_row (Forms.symbols_of form) ≡ true
unfolding plain_row orderly_row
orderly_test Forms.WholeProgram = refl
orderly_test (Forms.BaseStruct true) = refl
orderly_test (Forms.BaseStruct false) = refl
orderly_test _ = refl

-- what may come behind an expression
pub record NextAt (level own : ℕ) (kind : Kind) (form : Forms.Production) : Type 0 where
  pub left_level : ℕ
  pub own_sort : Forms.sort_of form ≡ Forms.Expr
  pub own_row : Forms.is_row form ≡ true
  pub own_left : Forms.left_of form ≡ Some left_level
  pub own_level : Forms.level_of_form form ≤ level
  pub binds : own ≤ left_level
  pub token_kind : Kind
  pub others : List (Symbol Kind Forms.Sort)
  pub row : Forms.symbols_of form ≡ Terminal token_kind ∷ others
  pub told : is token_kind kind ≡ true

pub data AllForms (P : Forms.Production → Type 0) : Option Forms.Production → Type 0 where
  no_form : AllForms P None
  a_form : {form : Forms.Production} → P form → AllForms P (Some form)

tested_form : {P : Forms.Production → Type 0} (test : Bool) (form : Forms.Production) {otherwise : Option Forms.Production} → (test ≡ true → P form) → AllForms P otherwise → AllForms P (goes_if test form otherwise)
tested_form true form h others = a_form (h refl)
tested_form false form h others = others

three_left : (a b c : Bool) → (a && (b && c)) ≡ true → a ≡ true
three_left a b c e = and_left a (b && c) e

three_middle : (a b c : Bool) → (a && (b && c)) ≡ true → b ≡ true
three_middle a b c e = and_left b c (and_right a (b && c) e)

three_right : (a b c : Bool) → (a && (b && c)) ≡ true → c ≡ true
three_right a b c e = and_right b c (and_right a (b && c) e)

next_binary : (level own : ℕ) (kind : Kind) (right : Option ℕ) → binary_right kind ≡ right → AllForms (NextAt level own kind) (by_binary level own kind right)
next_binary level own kind None found = no_form
next_binary level own kind (Some right) found = tested_form (nat_le own (right + 1) && nat_le (right + 1) level) (Forms.Binary kind right) (λ e. record {
  left_level = right + 1;
  own_sort = refl;
  own_row = this_number found;
  own_left = refl;
  own_level = leb-true (right + 1) level (and_right (nat_le own (right + 1)) (nat_le (right + 1) level) e);
  binds = leb-true own (right + 1) (and_left (nat_le own (right + 1)) (nat_le (right + 1) level) e);
  token_kind = kind;
  others = Nonterminal Forms.Expr right ∷ [];
  row = refl;
  told = is_self kind;
}) no_form

next_other : (level own : ℕ) (kind : Kind) → AllForms (NextAt level own kind) (by_postfix level own kind None)
next_other level own kind =
    tested_form (is_assignment kind && (nat_le own 2 && nat_le 15 level)) (Forms.Assign kind) (λ e. record {
      left_level = 2;
      own_sort = refl;
      own_row = three_left (is_assignment kind) (nat_le own 2) (nat_le 15 level) e;
      own_left = refl;
      own_level = leb-true 15 level (three_right (is_assignment kind) (nat_le own 2) (nat_le 15 level) e);
      binds = leb-true own 2 (three_middle (is_assignment kind) (nat_le own 2) (nat_le 15 level) e);
      token_kind = kind;
      others = Nonterminal Forms.Expr 15 ∷ [];
      row = refl;
      told = is_self kind;
    }) (tested_form (is kind Question && (nat_le own 13 && nat_le 14 level)) Forms.Conditional (λ e. record {
      left_level = 13;
      own_sort = refl;
      own_row = refl;
      own_left = refl;
      own_level = leb-true 14 level (three_right (is kind Question) (nat_le own 13) (nat_le 14 level) e);
      binds = leb-true own 13 (three_middle (is kind Question) (nat_le own 13) (nat_le 14 level) e);
      token_kind = Question;
      others = _;
      row = refl;
      told = is_swap kind Question (three_left (is kind Question) (nat_le own 13) (nat_le 14 level) e);
    }) (next_binary level own kind (binary_right kind) refl))

postfix_at : (level own : ℕ) (kind token_kind : Kind) (form : Forms.Production) (others : List (Symbol Kind Forms.Sort)) → Forms.sort_of form ≡ Forms.Expr → Forms.is_row form ≡ true → Forms.left_of form ≡ Some 1 → Forms.level_of_form form ≡ 1 → Forms.symbols_of form ≡ Terminal token_kind ∷ others → is token_kind kind ≡ true → AllForms (NextAt level own kind) (goes_if (nat_le own 1 && nat_le 1 level) form None)
postfix_at level own kind token_kind form others own_sort own_row own_left one row told = tested_form (nat_le own 1 && nat_le 1 level) form (λ e.
    let le : 1 ≤ level = leb-true 1 level (and_right (nat_le own 1) (nat_le 1 level) e) in
    record {
      left_level = 1;
      own_sort = own_sort;
      own_row = own_row;
      own_left = own_left;
      own_level = omega (arith, one, le);
      binds = leb-true own 1 (and_left (nat_le own 1) (nat_le 1 level) e);
      token_kind = token_kind;
      others = others;
      row = row;
      told = told;
    }) no_form

next_expr : (level own : ℕ) (kind : Kind) → AllForms (NextAt level own kind) (by_postfix level own kind (postfix_of kind))
next_expr level own OpenBracket = postfix_at level own OpenBracket OpenBracket Forms.Index _ refl refl refl refl refl refl
next_expr level own OpenParenthesis = postfix_at level own OpenParenthesis OpenParenthesis Forms.Call _ refl refl refl refl refl refl
next_expr level own Dot = postfix_at level own Dot Dot Forms.Member _ refl refl refl refl refl refl
next_expr level own Arrow = postfix_at level own Arrow Arrow Forms.PointerMember _ refl refl refl refl refl refl
next_expr level own PlusPlus = postfix_at level own PlusPlus PlusPlus Forms.PostIncrement _ refl refl refl refl refl refl
next_expr level own MinusMinus = postfix_at level own MinusMinus MinusMinus Forms.PostDecrement _ refl refl refl refl refl refl
next_expr level own kind = next_other level own kind

next_by : (sort : Forms.Sort) (level own : ℕ) (kind : Kind) → AllForms (NextAt level own kind) (goes_on_by sort level own kind)
next_by Forms.Expr level own kind = next_expr level own kind
next_by _ level own kind = no_form

is_expr : (sort : Forms.Sort) (level own : ℕ) (kind : Kind) (form : Forms.Production) → goes_on_by sort level own kind ≡ Some form → sort ≡ Forms.Expr
is_expr Forms.Expr level own kind form e = refl
is_expr _ level own kind form e = cc e

a_next : {P : Forms.Production → Type 0} {choice : Option Forms.Production} → AllForms P choice → (form : Forms.Production) → choice ≡ Some form → P form
a_next no_form form e = absurd (cc e)
a_next {P = P} (a_form {form = form'} h) form e =
    let same_form : form' ≡ form = cc e in
    subst P same_form h

module _ {Leaf : Type 0} (kind_of : Leaf → Kind) (sample : Kind → Leaf) where
  plain_case : (test : Bool) (kind : Kind) (symbols : List (Symbol Kind Forms.Sort)) → is kind Else ≡ test → (if test then false else plain_row symbols) ≡ true → (plain_row symbols ≡ true → Plain (language kind_of sample) symbols) → Plain (language kind_of sample) (Terminal kind ∷ symbols)
  plain_case true kind symbols e h f = absurd (cc h)
  plain_case false kind symbols e h f = (e, f h)

  plain_from : (symbols : List (Symbol Kind Forms.Sort)) → plain_row symbols ≡ true → Plain (language kind_of sample) symbols
  unfolding plain_row
  plain_from [] e = tt
  plain_from (Terminal kind ∷ symbols) e = plain_case (is kind Else) kind symbols refl e (λ h. plain_from symbols h)
  plain_from (Nonterminal sort level ∷ symbols) e = plain_from symbols e

  orderly_from : (symbols : List (Symbol Kind Forms.Sort)) → orderly_row symbols ≡ true → Orderly (language kind_of sample) symbols
  unfolding orderly_row
  orderly_from [] e = tt
  orderly_from (Terminal kind ∷ symbols) e = orderly_from symbols e
  orderly_from (Nonterminal sort level ∷ symbols) e = (plain_from symbols (and_left (plain_row symbols) (orderly_row symbols) e), orderly_from symbols (and_right (plain_row symbols) (orderly_row symbols) e))

  pub orderly : (form : Forms.Production) → Orderly (language kind_of sample) (Forms.symbols_of form)
  orderly form = orderly_from (Forms.symbols_of form) (orderly_test form)

  -- the same in the table's words
  pub same_needs : (symbols : List (Symbol Kind Forms.Sort)) → need_all (language kind_of sample) symbols ≡ Forms.needs_of symbols
  same_needs [] = refl
  same_needs (Terminal kind ∷ symbols) = same_needs symbols
  same_needs (Nonterminal sort level ∷ symbols) = ap (max (Forms.need_of sort)) (same_needs symbols)

  pub next_at : (sort : Forms.Sort) (level : ℕ) (left : Tree Leaf Forms.Production) (text : List Leaf) (form : Forms.Production) → next_row (language kind_of sample) sort level left text ≡ Some form → IsNext (language kind_of sample) sort level left text form
  next_at sort level left [] form e = absurd (cc e)
  next_at sort level left (leaf ∷ text) form e =
      let n = a_next (next_by sort level (level_of (language kind_of sample) left) (kind_of leaf)) form e in
      let expr = is_expr sort level (level_of (language kind_of sample) left) (kind_of leaf) form e in
      let same = same_needs (Forms.symbols_of form) in
      record {
        left_level = n.left_level;
        own_sort = n.own_sort ∙ sym expr;
        own_row = n.own_row;
        own_left = n.own_left;
        own_level = n.own_level;
        binds = n.binds;
        enough = omega (arith, same);
        kind = n.token_kind;
        others = n.others;
        row = n.row;
        told = n.told;
      }

  not_open : (tree : Tree Leaf Forms.Production) (xs : List Leaf) → is_open tree ≡ false → barred (language kind_of sample) tree xs ≡ false
  not_open tree [] e = refl
  not_open tree (leaf ∷ xs) e = ap (λ x. is Else (kind_of leaf) && x) e ∙ and_false (is Else (kind_of leaf))

  module _ (real : (kind : Kind) → kind_of (sample kind) ≡ kind) where
    pub token_free : (kind : Kind) (tree : Tree Leaf Forms.Production) → is kind Else ≡ false → (is Else (kind_of (sample kind)) && is_open tree) ≡ false
    token_free kind tree e = ap (λ x. x && is_open tree) (ap (is Else) (real kind) ∙ not_swap kind Else e)

    pub sample_fits : (kind : Kind) → is kind (kind_of (sample kind)) ≡ true
    sample_fits kind = ap (is kind) (real kind) ∙ is_self kind

    tk : (kind : Kind) {symbols : List (Symbol Kind Forms.Sort)} {others : Tree Leaf Forms.Production} → Is (language kind_of sample) symbols others → Is (language kind_of sample) (Terminal kind ∷ symbols) (Then (Alone (sample kind)) others)
    tk kind is_others = token (sample kind) (sample_fits kind) is_others

    pt : {sort : Forms.Sort} {level : ℕ} {symbols : List (Symbol Kind Forms.Sort)} {tree others : Tree Leaf Forms.Production} → is_open tree ≡ false → IsPart (language kind_of sample) sort level tree → Is (language kind_of sample) symbols others → Is (language kind_of sample) (Nonterminal sort level ∷ symbols) (Then tree others)
    pt {tree = tree} {others = others} closed is_tree is_others = part is_tree is_others (not_open tree (leaves others) closed)

    node : {sort : Forms.Sort} {level : ℕ} {parts : Tree Leaf Forms.Production} (form : Forms.Production) → Forms.sort_of form ≡ sort → Forms.is_row form ≡ true → Forms.left_of form ≡ None → Forms.level_of_form form ≡ 0 → Is (language kind_of sample) (Forms.symbols_of form) parts → IsPart (language kind_of sample) sort level (Node form parts)
    node form own_sort own_row own_left tight is_parts = first form own_sort own_row own_left (omega (arith, tight)) is_parts

    name_is : {level : ℕ} → IsPart (language kind_of sample) Forms.Declarator level (least_name kind_of sample)
    name_is = node Forms.DeclaratorRow refl refl refl refl (pt refl (node Forms.NoStar refl refl refl refl nothing) (pt refl (node Forms.DirectName refl refl refl refl (tk Name (pt refl (node Forms.NoSuffix refl refl refl refl nothing) nothing))) nothing))

    words_is : (own : Bool) (words : Words) {level : ℕ} → IsPart (language kind_of sample) (Forms.Base own words) level (least_words kind_of sample own words)
    words_is own NoWord = node (Forms.BaseWord own NoWord Int (Integers NoSign NoSize true)) refl refl refl refl (tk Int (pt refl (node (Forms.BaseEnd own (Integers NoSign NoSize true)) refl refl refl refl nothing) nothing))
    words_is own FullType = node (Forms.BaseEnd own FullType) refl refl refl refl nothing
    words_is own (Integers sign size has_int) = node (Forms.BaseEnd own (Integers sign size has_int)) refl refl refl refl nothing

    type_is : {level : ℕ} → IsPart (language kind_of sample) Forms.Type_name level (least_type kind_of sample)
    type_is = node Forms.TypeRow refl refl refl refl (pt refl (words_is false NoWord) (pt refl (node (Forms.OptionalNone false) refl refl refl refl nothing) nothing))

    direct_is : (named : Bool) {level : ℕ} → IsPart (language kind_of sample) (Forms.ParamDirect named) level (least_direct kind_of sample named)
    direct_is named = node (Forms.ParamArray named) refl refl refl refl (tk OpenBracket (pt refl (node Forms.NoLength refl refl refl refl nothing) (tk CloseBracket (pt refl (node Forms.NoSuffix refl refl refl refl nothing) nothing))))

    expr_is : {level : ℕ} → IsPart (language kind_of sample) Forms.Expr level (least_expr kind_of sample)
    expr_is = node (Forms.Single Integer) refl refl refl refl (tk Integer nothing)

    pub least_is_part : (sort : Forms.Sort) (level : ℕ) → IsPart (language kind_of sample) sort level (least_of kind_of sample sort level)
    least_is_part Forms.Program level = node Forms.WholeProgram refl refl refl refl (pt refl (node Forms.NoItem refl refl refl refl nothing) (tk End nothing))
    least_is_part Forms.Item level = node Forms.ItemStruct refl refl refl refl (tk Struct (tk Name (pt refl (node Forms.NoMembers refl refl refl refl nothing) (pt refl (node Forms.TailAlone refl refl refl refl (tk Semicolon nothing)) nothing))))
    least_is_part Forms.Declared level = node Forms.DeclaredRow refl refl refl refl (pt refl name_is (pt refl (node Forms.DeclaredValues refl refl refl refl (pt refl (node Forms.NoValue refl refl refl refl nothing) (pt refl (node Forms.DeclarationEnd refl refl refl refl (tk Semicolon nothing)) nothing))) nothing))
    least_is_part Forms.AfterDeclarator level = node Forms.DeclaredValues refl refl refl refl (pt refl (node Forms.NoValue refl refl refl refl nothing) (pt refl (node Forms.DeclarationEnd refl refl refl refl (tk Semicolon nothing)) nothing))
    least_is_part Forms.MemberSort level = node Forms.MemberRow refl refl refl refl (pt refl (words_is false NoWord) (pt refl name_is (pt refl (node Forms.MemberEnd refl refl refl refl (tk Semicolon nothing)) nothing)))
    least_is_part (Forms.Base own words) level = words_is own words
    least_is_part Forms.Init level = node Forms.InitValue refl refl refl refl (pt refl expr_is nothing)
    least_is_part Forms.Declarator level = name_is
    least_is_part Forms.Direct level = node Forms.DirectName refl refl refl refl (tk Name (pt refl (node Forms.NoSuffix refl refl refl refl nothing) nothing))
    least_is_part Forms.Param level = node Forms.ParamRow refl refl refl refl (pt refl (words_is false NoWord) (pt refl (node (Forms.OptionalNone true) refl refl refl refl nothing) nothing))
    least_is_part Forms.Type_name level = type_is
    least_is_part (Forms.Inner named) level = node (Forms.InnerDirect named) refl refl refl refl (pt refl (direct_is named) nothing)
    least_is_part (Forms.ParamDirect named) level = direct_is named
    least_is_part Forms.Body level = node Forms.BodyRow refl refl refl refl (tk OpenBrace (pt refl (node Forms.BlockEnd refl refl refl refl (tk CloseBrace nothing)) nothing))
    least_is_part Forms.Declaration level = node Forms.DeclarationRow refl refl refl refl (pt refl (words_is false NoWord) (pt refl name_is (pt refl (node Forms.NoValue refl refl refl refl nothing) (pt refl (node Forms.DeclarationEnd refl refl refl refl (tk Semicolon nothing)) nothing))))
    least_is_part Forms.Expr level = expr_is
    least_is_part Forms.SizeofOperand level = node Forms.SizeofType refl refl refl refl (tk OpenParenthesis (pt refl type_is (tk CloseParenthesis nothing)))
    least_is_part Forms.StructTail level = node Forms.TailAlone refl refl refl refl (tk Semicolon nothing)
    least_is_part Forms.MembersMore level = node Forms.MembersEnd refl refl refl refl (tk CloseBrace nothing)
    least_is_part Forms.MemberMore level = node Forms.MemberEnd refl refl refl refl (tk Semicolon nothing)
    least_is_part Forms.DeclaratorsMore level = node Forms.DeclarationEnd refl refl refl refl (tk Semicolon nothing)
    least_is_part Forms.InitMore level = node Forms.InitEnd refl refl refl refl (tk CloseBrace nothing)
    least_is_part Forms.InitNext level = node Forms.InitClose refl refl refl refl (tk CloseBrace nothing)
    least_is_part Forms.Stmt level = node Forms.Empty refl refl refl refl (tk Semicolon nothing)
    least_is_part Forms.BlockItems level = node Forms.BlockEnd refl refl refl refl (tk CloseBrace nothing)
    least_is_part Forms.ForFirst level = node Forms.ForEmpty refl refl refl refl (tk Semicolon nothing)
    least_is_part Forms.SwitchItems level = node Forms.SwitchEnd refl refl refl refl (tk CloseBrace nothing)
    least_is_part Forms.ReturnValue level = node Forms.ReturnNothing refl refl refl refl (tk Semicolon nothing)
    least_is_part Forms.Items level = node Forms.NoItem refl refl refl refl nothing
    least_is_part Forms.MembersOpt level = node Forms.NoMembers refl refl refl refl nothing
    least_is_part Forms.FirstValue level = node Forms.NoValue refl refl refl refl nothing
    least_is_part Forms.Stars level = node Forms.NoStar refl refl refl refl nothing
    least_is_part Forms.AfterStar level = node Forms.StarEnd refl refl refl refl nothing
    least_is_part Forms.Suffixes level = node Forms.NoSuffix refl refl refl refl nothing
    least_is_part Forms.Length level = node Forms.NoLength refl refl refl refl nothing
    least_is_part Forms.Params level = node Forms.NoParam refl refl refl refl nothing
    least_is_part Forms.ParamsMore level = node Forms.ParamsEnd refl refl refl refl nothing
    least_is_part (Forms.Optional named) level = node (Forms.OptionalNone named) refl refl refl refl nothing
    least_is_part (Forms.DirectOptional named) level = node (Forms.DirectNone named) refl refl refl refl nothing
    least_is_part Forms.ElseOpt level = node Forms.NoElse refl refl refl refl nothing
    least_is_part Forms.ExprOpt level = node Forms.NoExpr refl refl refl refl nothing
    least_is_part Forms.Literals level = node Forms.NoLiteral refl refl refl refl nothing
    least_is_part Forms.Arguments level = node Forms.NoArgument refl refl refl refl nothing
    least_is_part Forms.ArgumentsMore level = node Forms.ArgumentsEnd refl refl refl refl nothing

    pub free_at : (sort : Forms.Sort) (level : ℕ) (tree : Tree Leaf Forms.Production) → barred (language kind_of sample) tree (leaves (least_of kind_of sample sort level)) ≡ false
    free_at Forms.Program level tree = token_free End tree refl
    free_at Forms.Item level tree = token_free Struct tree refl
    free_at Forms.StructTail level tree = token_free Semicolon tree refl
    free_at Forms.Declared level tree = token_free Name tree refl
    free_at Forms.AfterDeclarator level tree = token_free Semicolon tree refl
    free_at Forms.MemberSort level tree = token_free Int tree refl
    free_at Forms.MembersMore level tree = token_free CloseBrace tree refl
    free_at Forms.MemberMore level tree = token_free Semicolon tree refl
    free_at Forms.DeclaratorsMore level tree = token_free Semicolon tree refl
    free_at Forms.Init level tree = token_free Integer tree refl
    free_at Forms.InitMore level tree = token_free CloseBrace tree refl
    free_at Forms.InitNext level tree = token_free CloseBrace tree refl
    free_at Forms.Declarator level tree = token_free Name tree refl
    free_at Forms.Direct level tree = token_free Name tree refl
    free_at Forms.Param level tree = token_free Int tree refl
    free_at Forms.Type_name level tree = token_free Int tree refl
    free_at (Forms.Inner named) level tree = token_free OpenBracket tree refl
    free_at (Forms.ParamDirect named) level tree = token_free OpenBracket tree refl
    free_at Forms.Stmt level tree = token_free Semicolon tree refl
    free_at Forms.Body level tree = token_free OpenBrace tree refl
    free_at Forms.BlockItems level tree = token_free CloseBrace tree refl
    free_at Forms.Declaration level tree = token_free Int tree refl
    free_at Forms.ForFirst level tree = token_free Semicolon tree refl
    free_at Forms.SwitchItems level tree = token_free CloseBrace tree refl
    free_at Forms.ReturnValue level tree = token_free Semicolon tree refl
    free_at Forms.Expr level tree = token_free Integer tree refl
    free_at Forms.SizeofOperand level tree = token_free OpenParenthesis tree refl
    free_at (Forms.Base own NoWord) level tree = token_free Int tree refl
    free_at (Forms.Base own FullType) level tree = refl
    free_at (Forms.Base own (Integers sign size has_int)) level tree = refl
    free_at Forms.Items level tree = refl
    free_at Forms.MembersOpt level tree = refl
    free_at Forms.FirstValue level tree = refl
    free_at Forms.Stars level tree = refl
    free_at Forms.AfterStar level tree = refl
    free_at Forms.Suffixes level tree = refl
    free_at Forms.Length level tree = refl
    free_at Forms.Params level tree = refl
    free_at Forms.ParamsMore level tree = refl
    free_at (Forms.Optional named) level tree = refl
    free_at (Forms.DirectOptional named) level tree = refl
    free_at Forms.ElseOpt level tree = refl
    free_at Forms.ExprOpt level tree = refl
    free_at Forms.Literals level tree = refl
    free_at Forms.Arguments level tree = refl
    free_at Forms.ArgumentsMore level tree = refl

    pub least_is_low : (sort : Forms.Sort) (level : ℕ) → height (language kind_of sample) (least_of kind_of sample sort level) ≤ Forms.need_of sort
    least_is_low (Forms.Base own NoWord) level = omega arith
    least_is_low (Forms.Base own FullType) level = omega arith
    least_is_low (Forms.Base own (Integers sign size has_int)) level = omega arith
    least_is_low _ level = omega arith

    pub least_is_shut : (sort : Forms.Sort) (level : ℕ) → is_open (least_of kind_of sample sort level) ≡ false
    least_is_shut (Forms.Base own NoWord) level = refl
    least_is_shut (Forms.Base own FullType) level = refl
    least_is_shut (Forms.Base own (Integers sign size has_int)) level = refl
    least_is_shut _ level = refl
