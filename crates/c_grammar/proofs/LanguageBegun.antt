-- For each leaf by which a row is chosen there is a tree that begins with it, and with the next one where that decides.
use Rattle.std.proofs.Common.{◌≡◌, ℕ, ◌<◌, ◌≤◌, ◌⊎◌, inl, inr, is_some, Bool, true, false, ◌&&◌, ◌||◌, if◌then◌else◌, List, [], ◌∷◌, ◌++◌, Option, Some, None, nat_le, sym, refl, ◌∙◌, ap, subst, arith, append_assoc}
use Rattle.std.proofs.lemmas.Bool.{leb-true}
use Rattle.c_grammar.specs.Table.{Symbol, Terminal, Nonterminal, Tree, Alone, Then, Node, Choice, Never, Take, leaves, barred, Is, nothing, token, part, IsPart, first as made_by, least_parts, Plain, Orderly}
use Rattle.c_grammar.specs.Laws.{lowest, IsDivided, Begun, BegunTwo}
use Rattle.c_grammar.proofs.Sound.{barred_append, barred_by_least}
use Rattle.c_grammar.specs.declared.kind.Kind.{Kind}
use Rattle.c_grammar.specs.declared.kind.Kind.TheVariants.{Name, Integer, Character, Literal, End, Const, Void, Char, Short, Int, Long, Signed, Unsigned, Struct, Static, Extern, Sizeof, Null, EndOfFile, If, Else, While, Do, For, Switch, Case, Default, Break, Continue, Return, OpenParenthesis, CloseParenthesis, OpenBrace, CloseBrace, OpenBracket, Semicolon, Comma, PlusPlus, MinusMinus, Star, Ampersand, Plus, Minus, Tilde, Exclamation, Equal}
use Rattle.c_grammar.specs.Kinds.{is_type_word, prefix_level, is_single, is}
use Rattle.c_grammar.specs.Forms
use Rattle.c_grammar.specs.Chooses.{take, take_if, begins_expr, begins_declarator, begins_direct, begins_item, begins_stmt, stmt_of, by_stmt, is_start, by_word, by_item, by_prefix, choose_expr, choose_nested, choose_operand, choose_by}
use Rattle.c_grammar.specs.Language.{is_open, least_of, choose_at, language}
use Rattle.c_grammar.proofs.LanguageRows.{AllRows, taken, stuck as stuck_row, branch, branch_tested, and_left, and_right, these_words, this_number, good_row}
use Rattle.c_grammar.proofs.LanguageTells.{is_swap, is_self}
use Rattle.c_grammar.proofs.LanguageLeast.{and_false, orderly, token_free, sample_fits, least_is_part, free_at, least_is_shut}
use Rattle.c_grammar.specs.declared.words.Sign.TheVariants.{NoSign, IsSigned, IsUnsigned}
use Rattle.c_grammar.specs.declared.words.Size.TheVariants.{NoSize, CharSize, ShortSize, LongSize}
use Rattle.c_grammar.specs.declared.words.Words.TheVariants.{NoWord, FullType, Integers}
use Rattle.c_grammar.specs.declared.words.Words.{Words}

or_case : {A : Type 0} (a b : Bool) → (a || b) ≡ true → (a ≡ true → A) → (b ≡ true → A) → A
or_case true b e f g = f refl
or_case false b e f g = g e

or_cases : {A : Type 0} (a b c : Bool) → (a || b || c) ≡ true → (a ≡ true → A) → (b ≡ true → A) → (c ≡ true → A) → A
or_cases true b c e f g h = f refl
or_cases false true c e f g h = g refl
or_cases false false c e f g h = h e

-- A choice that names one height isn't divided.
same_heights : (form form' : Forms.Production) (n first second : ℕ) → Take form n n ≡ Take form' first second → first < second → ⊥
same_heights form form' n first second e lt =
    let low : n ≡ first = cc e in
    let high : n ≡ second = cc e in
    omega (arith, low, high, lt)

-- Behind `(` of an operand of `sizeof` the second leaf decides where it begins an expression.
operand_told : (next : Kind) → AllRows (λ form first second. first < second → begins_expr next ≡ true) (choose_operand next)
operand_told next = branch (is_type_word next) (taken (λ lt. absurd (omega (arith, lt)))) (branch_tested (begins_expr next) (λ e. taken (λ lt. e)) (stuck_row 0))

-- Behind `(` of a declarator that may lack its name it does where it begins one.
nested_told : (named : Bool) (next : Kind) → AllRows (λ form first second. first < second → (is next Star || begins_direct named next) ≡ true) (choose_nested named next)
nested_told named next = branch (is next CloseParenthesis || is_type_word next) (taken (λ lt. absurd (omega (arith, lt)))) (branch_tested (is next Star || begins_direct named next) (λ e. taken (λ lt. e)) (stuck_row 0))

module _ {Leaf : Type 0} (kind_of : Leaf → Kind) (sample : Kind → Leaf) (real : (kind : Kind) → kind_of (sample kind) ≡ kind) where
  pub least_bars : (sort : Forms.Sort) (level : ℕ) (leaf : Leaf) → (is Else (kind_of leaf) && is_open (least_of kind_of sample sort level)) ≡ false
  least_bars sort level leaf = ap (λ x. is Else (kind_of leaf) && x) (least_is_shut kind_of sample real sort level) ∙ and_false (is Else (kind_of leaf))

  least_is : (symbols : List (Symbol Kind Forms.Sort)) → Is (language kind_of sample) symbols (least_parts (language kind_of sample) symbols)
  least_is [] = nothing
  least_is (Terminal kind ∷ symbols) = token (sample kind) (sample_fits kind_of sample real kind) (least_is symbols)
  least_is (Nonterminal sort level ∷ symbols) = part (least_is_part kind_of sample real sort level) (least_is symbols) (barred_by_least (language kind_of sample) sort level (leaves (least_parts (language kind_of sample) symbols)) (least_bars sort level))

  least_is_free : (symbols : List (Symbol Kind Forms.Sort)) (tree : Tree Leaf Forms.Production) → Plain (language kind_of sample) symbols → barred (language kind_of sample) tree (leaves (least_parts (language kind_of sample) symbols)) ≡ false
  least_is_free [] tree plain = refl
  least_is_free (Terminal kind ∷ symbols) tree plain = token_free kind_of sample real kind tree plain.0
  least_is_free (Nonterminal sort level ∷ symbols) tree plain = barred_append (language kind_of sample) tree (leaves (least_of kind_of sample sort level)) (leaves (least_parts (language kind_of sample) symbols)) (free_at kind_of sample real sort level tree) (least_is_free symbols tree plain)

  -- a tree that begins with these leaves
  record Begins (sort : Forms.Sort) (level : ℕ) (front : List Leaf) : Type 0 where
    pub tree : Tree Leaf Forms.Production
    pub more : List Leaf
    pub spelled : IsPart (language kind_of sample) sort level tree
    pub continues : leaves tree ≡ front ++ more

  -- by a row that begins with a token, and the least trees behind it
  at_token : {sort : Forms.Sort} {level : ℕ} {kind : Kind} {symbols : List (Symbol Kind Forms.Sort)} (form : Forms.Production) (leaf : Leaf) → Forms.sort_of form ≡ sort → Forms.is_row form ≡ true → Forms.left_of form ≡ None → Forms.level_of_form form ≤ level → Forms.symbols_of form ≡ Terminal kind ∷ symbols → is kind (kind_of leaf) ≡ true → Begins sort level (leaf ∷ [])
  at_token {symbols = symbols} form leaf own_sort own_row own_left own_level row told = record {
    tree = Node form (Then (Alone leaf) (least_parts (language kind_of sample) symbols));
    more = leaves (least_parts (language kind_of sample) symbols);
    spelled = made_by form own_sort own_row own_left own_level (subst (λ s. Is (language kind_of sample) s (Then (Alone leaf) (least_parts (language kind_of sample) symbols))) (sym row) (token leaf told (least_is symbols)));
    continues = refl;
  }

  by_token : {sort : Forms.Sort} {level : ℕ} {kind : Kind} {symbols : List (Symbol Kind Forms.Sort)} (form : Forms.Production) (leaf : Leaf) → Forms.sort_of form ≡ sort → Forms.is_row form ≡ true → Forms.left_of form ≡ None → Forms.level_of_form form ≡ 0 → Forms.symbols_of form ≡ Terminal kind ∷ symbols → is kind (kind_of leaf) ≡ true → Begins sort level (leaf ∷ [])
  by_token form leaf own_sort own_row own_left tight row told = at_token form leaf own_sort own_row own_left (omega (arith, tight)) row told

  -- by a row that begins with a tree
  by_part : {sort part_sort : Forms.Sort} {level part_level : ℕ} {symbols : List (Symbol Kind Forms.Sort)} {front : List Leaf} (form : Forms.Production) → Forms.sort_of form ≡ sort → Forms.is_row form ≡ true → Forms.left_of form ≡ None → Forms.level_of_form form ≡ 0 → Forms.symbols_of form ≡ Nonterminal part_sort part_level ∷ symbols → Begins part_sort part_level front → Begins sort level front
  by_part {part_sort = part_sort} {part_level = part_level} {symbols = symbols} {front = front} form own_sort own_row own_left tight row b =
      let T = language kind_of sample in
      let plain = (subst (Orderly T) row (orderly kind_of sample form)).0 in
      record {
        tree = Node form (Then b.tree (least_parts T symbols));
        more = b.more ++ leaves (least_parts T symbols);
        spelled = made_by form own_sort own_row own_left (omega (arith, tight)) (subst (λ s. Is T s (Then b.tree (least_parts T symbols))) (sym row) (part b.spelled (least_is symbols) (least_is_free symbols b.tree plain)));
        continues = ap (λ x. x ++ leaves (least_parts T symbols)) b.continues ∙ append_assoc front b.more (leaves (least_parts T symbols));
      }

  -- by a row that begins with a tree of which the least has no leaves, and another tree
  by_second : {sort empty_sort part_sort : Forms.Sort} {level empty_level part_level : ℕ} {symbols : List (Symbol Kind Forms.Sort)} {front : List Leaf} (form : Forms.Production) → Forms.sort_of form ≡ sort → Forms.is_row form ≡ true → Forms.left_of form ≡ None → Forms.level_of_form form ≡ 0 → Forms.symbols_of form ≡ Nonterminal empty_sort empty_level ∷ Nonterminal part_sort part_level ∷ symbols → leaves (least_of kind_of sample empty_sort empty_level) ≡ [] → Begins part_sort part_level front → Begins sort level front
  by_second {empty_sort = empty_sort} {part_sort = part_sort} {empty_level = empty_level} {part_level = part_level} {symbols = symbols} {front = front} form own_sort own_row own_left tight row bare b =
      let T = language kind_of sample in
      let plain = (subst (Orderly T) row (orderly kind_of sample form)).1.0 in
      let others = part b.spelled (least_is symbols) (least_is_free symbols b.tree plain) in
      let empty = least_of kind_of sample empty_sort empty_level in
      let behind = Then b.tree (least_parts T symbols) in
      record {
        tree = Node form (Then empty behind);
        more = b.more ++ leaves (least_parts T symbols);
        spelled = made_by form own_sort own_row own_left (omega (arith, tight)) (subst (λ s. Is T s (Then empty behind)) (sym row) (part (least_is_part kind_of sample real empty_sort empty_level) others (barred_by_least T empty_sort empty_level (leaves behind) (least_bars empty_sort empty_level))));
        continues = ap (λ x. x ++ (leaves b.tree ++ leaves (least_parts T symbols))) bare ∙ ap (λ x. x ++ leaves (least_parts T symbols)) b.continues ∙ append_assoc front b.more (leaves (least_parts T symbols));
      }

  -- by a row that begins with a token and a tree
  by_token_and_part : {sort part_sort : Forms.Sort} {level part_level : ℕ} {kind : Kind} {symbols : List (Symbol Kind Forms.Sort)} {front : List Leaf} (form : Forms.Production) (leaf : Leaf) → Forms.sort_of form ≡ sort → Forms.is_row form ≡ true → Forms.left_of form ≡ None → Forms.level_of_form form ≡ 0 → Forms.symbols_of form ≡ Terminal kind ∷ Nonterminal part_sort part_level ∷ symbols → is kind (kind_of leaf) ≡ true → Begins part_sort part_level front → Begins sort level (leaf ∷ front)
  by_token_and_part {part_sort = part_sort} {part_level = part_level} {symbols = symbols} {front = front} form leaf own_sort own_row own_left tight row told b =
      let T = language kind_of sample in
      let plain = (subst (Orderly T) row (orderly kind_of sample form)).0 in
      let others = part b.spelled (least_is symbols) (least_is_free symbols b.tree plain) in
      record {
        tree = Node form (Then (Alone leaf) (Then b.tree (least_parts T symbols)));
        more = b.more ++ leaves (least_parts T symbols);
        spelled = made_by form own_sort own_row own_left (omega (arith, tight)) (subst (λ s. Is T s (Then (Alone leaf) (Then b.tree (least_parts T symbols)))) (sym row) (token leaf told others));
        continues = ap (λ x. leaf ∷ x) (ap (λ x. x ++ leaves (least_parts T symbols)) b.continues ∙ append_assoc front b.more (leaves (least_parts T symbols)));
      }

  -- trees of the sorts that other sorts begin with
  expr_of : (level : ℕ) → 2 ≤ level → (kind : Kind) → begins_expr kind ≡ true → (leaf : Leaf) → is kind (kind_of leaf) ≡ true → Begins Forms.Expr level (leaf ∷ [])
  expr_of level le Name e leaf told = by_token (Forms.Single Name) leaf refl refl refl refl refl told
  expr_of level le Integer e leaf told = by_token (Forms.Single Integer) leaf refl refl refl refl refl told
  expr_of level le Character e leaf told = by_token (Forms.Single Character) leaf refl refl refl refl refl told
  expr_of level le Literal e leaf told = by_token Forms.Text leaf refl refl refl refl refl told
  expr_of level le Null e leaf told = by_token (Forms.Single Null) leaf refl refl refl refl refl told
  expr_of level le EndOfFile e leaf told = by_token (Forms.Single EndOfFile) leaf refl refl refl refl refl told
  expr_of level le OpenParenthesis e leaf told = by_token Forms.Parenthesized leaf refl refl refl refl refl told
  expr_of level le Sizeof e leaf told = at_token Forms.SizeofRow leaf refl refl refl le refl told
  expr_of level le PlusPlus e leaf told = at_token (Forms.Prefix PlusPlus 2) leaf refl refl refl le refl told
  expr_of level le MinusMinus e leaf told = at_token (Forms.Prefix MinusMinus 2) leaf refl refl refl le refl told
  expr_of level le Star e leaf told = at_token (Forms.Prefix Star 3) leaf refl refl refl le refl told
  expr_of level le Ampersand e leaf told = at_token (Forms.Prefix Ampersand 3) leaf refl refl refl le refl told
  expr_of level le Plus e leaf told = at_token (Forms.Prefix Plus 3) leaf refl refl refl le refl told
  expr_of level le Minus e leaf told = at_token (Forms.Prefix Minus 3) leaf refl refl refl le refl told
  expr_of level le Tilde e leaf told = at_token (Forms.Prefix Tilde 3) leaf refl refl refl le refl told
  expr_of level le Exclamation e leaf told = at_token (Forms.Prefix Exclamation 3) leaf refl refl refl le refl told
  expr_of level le _ e leaf told = cc e

  expr : {level : ℕ} (leaf : Leaf) → begins_expr (kind_of leaf) ≡ true → 2 ≤ level → Begins Forms.Expr level (leaf ∷ [])
  expr {level = level} leaf e le = expr_of level le (kind_of leaf) e leaf (is_self (kind_of leaf))

  base_of : (own : Bool) (level : ℕ) (kind : Kind) → is_type_word kind ≡ true → (leaf : Leaf) → is kind (kind_of leaf) ≡ true → Begins (Forms.Base own NoWord) level (leaf ∷ [])
  base_of own level Const e leaf told = by_token (Forms.BaseWord own NoWord Const NoWord) leaf refl refl refl refl refl told
  base_of own level Void e leaf told = by_token (Forms.BaseWord own NoWord Void FullType) leaf refl refl refl refl refl told
  base_of own level Char e leaf told = by_token (Forms.BaseWord own NoWord Char (Integers NoSign CharSize false)) leaf refl refl refl refl refl told
  base_of own level Short e leaf told = by_token (Forms.BaseWord own NoWord Short (Integers NoSign ShortSize false)) leaf refl refl refl refl refl told
  base_of own level Int e leaf told = by_token (Forms.BaseWord own NoWord Int (Integers NoSign NoSize true)) leaf refl refl refl refl refl told
  base_of own level Long e leaf told = by_token (Forms.BaseWord own NoWord Long (Integers NoSign LongSize false)) leaf refl refl refl refl refl told
  base_of own level Signed e leaf told = by_token (Forms.BaseWord own NoWord Signed (Integers IsSigned NoSize false)) leaf refl refl refl refl refl told
  base_of own level Unsigned e leaf told = by_token (Forms.BaseWord own NoWord Unsigned (Integers IsUnsigned NoSize false)) leaf refl refl refl refl refl told
  base_of true level Struct e leaf told = by_token (Forms.BaseStruct true) leaf refl refl refl refl refl told
  base_of false level Struct e leaf told = by_token (Forms.BaseStruct false) leaf refl refl refl refl refl told
  base_of own level _ e leaf told = cc e

  base : {level : ℕ} (own : Bool) (leaf : Leaf) → is_type_word (kind_of leaf) ≡ true → Begins (Forms.Base own NoWord) level (leaf ∷ [])
  base {level = level} own leaf e = base_of own level (kind_of leaf) e leaf (is_self (kind_of leaf))

  declarator : {level : ℕ} (leaf : Leaf) → begins_declarator (kind_of leaf) ≡ true → Begins Forms.Declarator level (leaf ∷ [])
  declarator leaf e =
      or_cases (is (kind_of leaf) Star) (is (kind_of leaf) Name) (is (kind_of leaf) OpenParenthesis) e
      (λ star. by_part Forms.DeclaratorRow refl refl refl refl refl (by_token Forms.StarFirst leaf refl refl refl refl refl (is_swap (kind_of leaf) Star star)))
      (λ name. by_second Forms.DeclaratorRow refl refl refl refl refl refl (by_token Forms.DirectName leaf refl refl refl refl refl (is_swap (kind_of leaf) Name name)))
      (λ opens. by_second Forms.DeclaratorRow refl refl refl refl refl refl (by_token Forms.DirectNested leaf refl refl refl refl refl (is_swap (kind_of leaf) OpenParenthesis opens)))

  direct : {level : ℕ} (named : Bool) (leaf : Leaf) → begins_direct named (kind_of leaf) ≡ true → Begins (Forms.ParamDirect named) level (leaf ∷ [])
  direct named leaf e =
      or_cases (named && is (kind_of leaf) Name) (is (kind_of leaf) OpenParenthesis) (is (kind_of leaf) OpenBracket) e
      (λ name. by_token (Forms.ParamName named) leaf refl (and_left named (is (kind_of leaf) Name) name) refl refl refl (is_swap (kind_of leaf) Name (and_right named (is (kind_of leaf) Name) name)))
      (λ opens. by_token (Forms.ParamFunction named) leaf refl refl refl refl refl (is_swap (kind_of leaf) OpenParenthesis opens))
      (λ array. by_token (Forms.ParamArray named) leaf refl refl refl refl refl (is_swap (kind_of leaf) OpenBracket array))

  stmt_by : (level : ℕ) (kind : Kind) → begins_stmt kind ≡ true → (leaf : Leaf) → is kind (kind_of leaf) ≡ true → Begins Forms.Stmt level (leaf ∷ [])
  stmt_by level OpenBrace e leaf told = by_token Forms.Block leaf refl refl refl refl refl told
  stmt_by level Semicolon e leaf told = by_token Forms.Empty leaf refl refl refl refl refl told
  stmt_by level If e leaf told = by_token Forms.IfRow leaf refl refl refl refl refl told
  stmt_by level While e leaf told = by_token Forms.WhileRow leaf refl refl refl refl refl told
  stmt_by level Do e leaf told = by_token Forms.DoRow leaf refl refl refl refl refl told
  stmt_by level For e leaf told = by_token Forms.ForRow leaf refl refl refl refl refl told
  stmt_by level Switch e leaf told = by_token Forms.SwitchRow leaf refl refl refl refl refl told
  stmt_by level Break e leaf told = by_token Forms.BreakRow leaf refl refl refl refl refl told
  stmt_by level Continue e leaf told = by_token Forms.ContinueRow leaf refl refl refl refl refl told
  stmt_by level Return e leaf told = by_token Forms.ReturnRow leaf refl refl refl refl refl told
  stmt_by level kind e leaf told = by_part Forms.Expression refl refl refl refl refl (expr_of 15 (omega arith) kind e leaf told)

  stmt : {level : ℕ} (leaf : Leaf) → begins_stmt (kind_of leaf) ≡ true → Begins Forms.Stmt level (leaf ∷ [])
  stmt {level = level} leaf e = stmt_by level (kind_of leaf) e leaf (is_self (kind_of leaf))

  declared : {level : ℕ} (leaf : Leaf) → begins_declarator (kind_of leaf) ≡ true → Begins Forms.Declared level (leaf ∷ [])
  declared leaf e = by_part Forms.DeclaredRow refl refl refl refl refl (declarator leaf e)

  struct_tail : {level : ℕ} (leaf : Leaf) → (is (kind_of leaf) Const || begins_declarator (kind_of leaf)) ≡ true → Begins Forms.StructTail level (leaf ∷ [])
  struct_tail leaf e =
      or_case (is (kind_of leaf) Const) (begins_declarator (kind_of leaf)) e
      (λ const. by_part Forms.TailTyped refl refl refl refl refl (by_token (Forms.BaseWord true FullType Const FullType) leaf refl refl refl refl refl (is_swap (kind_of leaf) Const const)))
      (λ other. by_second Forms.TailTyped refl refl refl refl refl refl (declared leaf other))

  member : {level : ℕ} (leaf : Leaf) → is_type_word (kind_of leaf) ≡ true → Begins Forms.MemberSort level (leaf ∷ [])
  member leaf e = by_part Forms.MemberRow refl refl refl refl refl (base false leaf e)

  declaration : {level : ℕ} (leaf : Leaf) → is_type_word (kind_of leaf) ≡ true → Begins Forms.Declaration level (leaf ∷ [])
  declaration leaf e = by_part Forms.DeclarationRow refl refl refl refl refl (base false leaf e)

  init : {level : ℕ} (leaf : Leaf) → (is (kind_of leaf) OpenBrace || begins_expr (kind_of leaf)) ≡ true → Begins Forms.Init level (leaf ∷ [])
  init leaf e =
      or_case (is (kind_of leaf) OpenBrace) (begins_expr (kind_of leaf)) e
      (λ opens. by_token Forms.InitList leaf refl refl refl refl refl (is_swap (kind_of leaf) OpenBrace opens))
      (λ other. by_part Forms.InitValue refl refl refl refl refl (expr leaf other (omega arith)))

  inner : {level : ℕ} (named : Bool) (leaf : Leaf) → (is (kind_of leaf) Star || begins_direct named (kind_of leaf)) ≡ true → Begins (Forms.Inner named) level (leaf ∷ [])
  inner named leaf e =
      or_case (is (kind_of leaf) Star) (begins_direct named (kind_of leaf)) e
      (λ star. by_token (Forms.InnerPointer named) leaf refl refl refl refl refl (is_swap (kind_of leaf) Star star))
      (λ other. by_part (Forms.InnerDirect named) refl refl refl refl refl (direct named leaf other))

  -- what the laws ask of a choice
  record Asked (sort : Forms.Sort) (level : ℕ) (leaf : Leaf) (text : List Leaf) (choice : Choice Forms.Production) : Type 0 where
    pub one : (first : ℕ) → lowest choice ≡ Some first → IsDivided choice ⊎ (0 < first) → Begun (language kind_of sample) sort level leaf choice first
    pub two : (form : Forms.Production) (first second : ℕ) → choice ≡ Take form first second → first < second → BegunTwo (language kind_of sample) sort level leaf text

  -- the same for each way in which a row is chosen
  no_row : {sort : Forms.Sort} {level : ℕ} {leaf : Leaf} {text : List Leaf} → Asked sort level leaf text Never
  no_row = record { one = λ first e asked. absurd (cc e); two = λ form first second e lt. absurd (cc e) }

  row : {sort : Forms.Sort} {level : ℕ} {leaf : Leaf} {text : List Leaf} (form : Forms.Production) → Begins sort level (leaf ∷ []) → Asked sort level leaf text (take form)
  row form b = record {
    one = λ first e asked. record { tree = b.tree; more = b.more; spelled = b.spelled; continues = b.continues; low = λ divided. absurd (omega (arith, divided)) };
    two = λ form' first second e lt. absurd (same_heights form form' (Forms.row_need form) first second e lt);
  }

  -- A row of height 0 asks nothing, since it isn't too deep.
  low_row : {sort : Forms.Sort} {level : ℕ} {leaf : Leaf} {text : List Leaf} (form : Forms.Production) → Forms.row_need form ≡ 0 → Asked sort level leaf text (take form)
  low_row {sort = sort} {level = level} {leaf = leaf} form none = record {
    one = λ first e asked. absurd (none_asked first e asked);
    two = λ form' first second e lt. absurd (same_heights form form' (Forms.row_need form) first second e lt);
  }
    where
      none_asked : (first : ℕ) → Some (Forms.row_need form) ≡ Some first → (Forms.row_need form < Forms.row_need form) ⊎ (0 < first) → ⊥
      none_asked first e (inl lt) = omega (arith, lt)
      none_asked first e (inr some) =
          let same : Forms.row_need form ≡ first = cc e in
          omega (arith, none, same, some)

  row_if : {sort : Forms.Sort} {level : ℕ} {leaf : Leaf} {text : List Leaf} {otherwise : Choice Forms.Production} (test : Bool) (form : Forms.Production) → (test ≡ true → Begins sort level (leaf ∷ [])) → Asked sort level leaf text otherwise → Asked sort level leaf text (take_if test form otherwise)
  row_if true form h others = row form (h refl)
  row_if false form h others = others

  token_if : {sort : Forms.Sort} {level : ℕ} {symbols : List (Symbol Kind Forms.Sort)} {leaf : Leaf} {text : List Leaf} {otherwise : Choice Forms.Production} (kind : Kind) (form : Forms.Production) → Forms.sort_of form ≡ sort → Forms.is_row form ≡ true → Forms.left_of form ≡ None → Forms.level_of_form form ≡ 0 → Forms.symbols_of form ≡ Terminal kind ∷ symbols → Asked sort level leaf text otherwise → Asked sort level leaf text (take_if (is (kind_of leaf) kind) form otherwise)
  token_if {leaf = leaf} kind form own_sort own_row own_left tight symbols_are others = row_if (is (kind_of leaf) kind) form (λ e. by_token form leaf own_sort own_row own_left tight symbols_are (is_swap (kind_of leaf) kind e)) others

  low_if : {sort : Forms.Sort} {level : ℕ} {leaf : Leaf} {text : List Leaf} {otherwise : Choice Forms.Production} (test : Bool) (form : Forms.Production) → Forms.row_need form ≡ 0 → Asked sort level leaf text otherwise → Asked sort level leaf text (take_if test form otherwise)
  low_if true form none others = low_row form none
  low_if false form none others = others

  either_of : {sort : Forms.Sort} {level : ℕ} {leaf : Leaf} {text : List Leaf} {one other : Choice Forms.Production} (test : Bool) → (test ≡ true → Asked sort level leaf text one) → Asked sort level leaf text other → Asked sort level leaf text (if test then one else other)
  either_of true h h' = h refl
  either_of false h h' = h'

  -- the kind of the next leaf
  abbrev ahead : List Leaf → Kind
  ahead [] = End
  ahead (leaf ∷ text) = kind_of leaf

  -- trees that begin with two leaves
  two_by : {sort : Forms.Sort} {level : ℕ} {leaf : Leaf} (next : Leaf) (others : List Leaf) → Begins sort level (leaf ∷ next ∷ []) → BegunTwo (language kind_of sample) sort level leaf (next ∷ others)
  two_by next others b = record { tree = b.tree; next = next; others = others; more = b.more; spelled = b.spelled; split = refl; continues = b.continues }

  operand_two : {level : ℕ} (leaf : Leaf) (text : List Leaf) → is (kind_of leaf) OpenParenthesis ≡ true → begins_expr (ahead text) ≡ true → BegunTwo (language kind_of sample) Forms.SizeofOperand level leaf text
  operand_two leaf [] opens e = cc e
  operand_two leaf (next ∷ others) opens e =
      let inside = by_token_and_part Forms.Parenthesized leaf refl refl refl refl refl (is_swap (kind_of leaf) OpenParenthesis opens) (expr next e (omega arith)) in
      two_by next others (by_part Forms.SizeofExpr refl refl refl refl refl inside)

  nested_two : {level : ℕ} (named : Bool) (leaf : Leaf) (text : List Leaf) → is (kind_of leaf) OpenParenthesis ≡ true → (is (ahead text) Star || begins_direct named (ahead text)) ≡ true → BegunTwo (language kind_of sample) (Forms.ParamDirect named) level leaf text
  nested_two true leaf [] opens e = cc e
  nested_two false leaf [] opens e = cc e
  nested_two named leaf (next ∷ others) opens e =
      two_by next others (by_token_and_part (Forms.ParamNested named) leaf refl refl refl refl refl (is_swap (kind_of leaf) OpenParenthesis opens) (inner named next e))

  -- Behind `(` the least trees are a type in parentheses, and parentheses alone.
  of_operand : {level : ℕ} (leaf : Leaf) (text : List Leaf) → is (kind_of leaf) OpenParenthesis ≡ true → Asked Forms.SizeofOperand level leaf text (choose_operand (ahead text))
  of_operand {level = level} leaf text opens =
      let T = language kind_of sample in
      let symbols : List (Symbol Kind Forms.Sort) = Nonterminal Forms.Type_name 0 ∷ Terminal CloseParenthesis ∷ [] in
      record {
        one = λ first e asked. record {
          tree = Node Forms.SizeofType (Then (Alone leaf) (least_parts T symbols));
          more = leaves (least_parts T symbols);
          spelled = made_by Forms.SizeofType refl refl refl (omega arith) (token leaf (is_swap (kind_of leaf) OpenParenthesis opens) (least_is symbols));
          continues = refl;
          low = λ divided. omega arith;
        };
        two = λ form first second e lt. operand_two leaf text opens (good_row (operand_told (ahead text)) form first second e lt);
      }

  of_nested : {level : ℕ} (named : Bool) (leaf : Leaf) (text : List Leaf) → is (kind_of leaf) OpenParenthesis ≡ true → Asked (Forms.ParamDirect named) level leaf text (choose_nested named (ahead text))
  of_nested {level = level} named leaf text opens =
      let T = language kind_of sample in
      let symbols : List (Symbol Kind Forms.Sort) = Nonterminal Forms.Params 0 ∷ Terminal CloseParenthesis ∷ Nonterminal Forms.Suffixes 0 ∷ [] in
      record {
        one = λ first e asked. record {
          tree = Node (Forms.ParamFunction named) (Then (Alone leaf) (least_parts T symbols));
          more = leaves (least_parts T symbols);
          spelled = made_by (Forms.ParamFunction named) refl refl refl (omega arith) (token leaf (is_swap (kind_of leaf) OpenParenthesis opens) (least_is symbols));
          continues = refl;
          low = λ divided. omega arith;
        };
        two = λ form first second e lt. nested_two named leaf text opens (good_row (nested_told named (ahead text)) form first second e lt);
      }

  of_stmt : {level : ℕ} (kind : Kind) (leaf : Leaf) (text : List Leaf) (form : Option Forms.Production) → stmt_of kind ≡ form → is kind (kind_of leaf) ≡ true → Asked Forms.Stmt level leaf text (by_stmt kind form)
  of_stmt {level = level} kind leaf text (Some form) e told = row form (stmt_by level kind (ap (λ o. is_some o || begins_expr kind) e) leaf told)
  of_stmt kind leaf text None e told = row_if (begins_expr kind) Forms.Expression (λ e'. by_part Forms.Expression refl refl refl refl refl (expr_of 15 (omega arith) kind e' leaf told)) no_row

  of_prefix : {level : ℕ} (leaf : Leaf) (text : List Leaf) (operand : Option ℕ) → prefix_level (kind_of leaf) ≡ operand → Asked Forms.Expr level leaf text (by_prefix level (kind_of leaf) operand Never)
  of_prefix {level = level} leaf text (Some operand) found = row_if (nat_le 2 level) (Forms.Prefix (kind_of leaf) operand) (λ e. at_token (Forms.Prefix (kind_of leaf) operand) leaf refl (this_number found) refl (leb-true 2 level e) refl (is_self (kind_of leaf))) no_row
  of_prefix leaf text None found = no_row

  of_item : {level : ℕ} (leaf : Leaf) (text : List Leaf) (next : Option Words) → Forms.with_word (kind_of leaf) NoWord ≡ next → Asked Forms.Item level leaf text (by_item (kind_of leaf) next)
  of_item leaf text (Some next) found = row (Forms.ItemTyped (kind_of leaf) next) (by_token (Forms.ItemTyped (kind_of leaf) next) leaf refl (these_words found) refl refl refl (is_self (kind_of leaf)))
  of_item leaf text None found = no_row

  of_expr : (level : ℕ) (leaf : Leaf) (text : List Leaf) (next : Kind) → Asked Forms.Expr level leaf text (choose_expr level (kind_of leaf) next)
  of_expr level leaf text next =
      let kind = kind_of leaf in
      row_if (is_single kind) (Forms.Single kind) (λ e. by_token (Forms.Single kind) leaf refl e refl refl refl (is_self kind))
      (row_if (is kind Literal) Forms.Text (λ e. by_token Forms.Text leaf refl refl refl refl refl (is_swap kind Literal e))
      (row_if (is kind OpenParenthesis && (nat_le 3 level && is_type_word next)) Forms.Cast (λ e. at_token Forms.Cast leaf refl refl refl (leb-true 3 level (and_left (nat_le 3 level) (is_type_word next) (and_right (is kind OpenParenthesis) (nat_le 3 level && is_type_word next) e))) refl (is_swap kind OpenParenthesis (and_left (is kind OpenParenthesis) (nat_le 3 level && is_type_word next) e)))
      (row_if (is kind OpenParenthesis) Forms.Parenthesized (λ e. by_token Forms.Parenthesized leaf refl refl refl refl refl (is_swap kind OpenParenthesis e))
      (row_if (is kind Sizeof && nat_le 2 level) Forms.SizeofRow (λ e. at_token Forms.SizeofRow leaf refl refl refl (leb-true 2 level (and_right (is kind Sizeof) (nat_le 2 level) e)) refl (is_swap kind Sizeof (and_left (is kind Sizeof) (nat_le 2 level) e)))
      (of_prefix leaf text (prefix_level kind) refl)))))

  of_word : {level : ℕ} (own : Bool) (words : Words) (leaf : Leaf) (text : List Leaf) (next : Option Words) → Asked (Forms.Base own words) level leaf text (by_word own words (kind_of leaf) next)
  of_word own words leaf text (Some next) = low_row (Forms.BaseWord own words (kind_of leaf) next) refl
  of_word own words leaf text None = low_if (Forms.is_type words) (Forms.BaseEnd own words) refl no_row

  struct_low : (own : Bool) → Forms.row_need (Forms.BaseStruct own) ≡ 0
  struct_low true = refl
  struct_low false = refl

  -- the choices of each sort
  asked : (sort : Forms.Sort) (level : ℕ) (leaf : Leaf) (text : List Leaf) → Asked sort level leaf text (choose_by sort level (kind_of leaf) (ahead text))
  asked Forms.Program level leaf text = low_if (is (kind_of leaf) End || begins_item (kind_of leaf)) Forms.WholeProgram refl no_row
  asked Forms.Items level leaf text = low_if (begins_item (kind_of leaf)) Forms.OneItem refl (low_row Forms.NoItem refl)
  asked Forms.Item level leaf text = low_if (is (kind_of leaf) Static || is (kind_of leaf) Extern) (Forms.Storage (kind_of leaf)) refl (low_if (is (kind_of leaf) Struct) Forms.ItemStruct refl (of_item leaf text (Forms.with_word (kind_of leaf) NoWord) refl))
  asked Forms.StructTail level leaf text = low_if (is (kind_of leaf) Semicolon) Forms.TailAlone refl (row_if (is (kind_of leaf) Const || begins_declarator (kind_of leaf)) Forms.TailTyped (λ e. struct_tail leaf e) no_row)
  asked Forms.Declared level leaf text = row_if (begins_declarator (kind_of leaf)) Forms.DeclaredRow (λ e. declared leaf e) no_row
  asked Forms.AfterDeclarator level leaf text = row_if (is (kind_of leaf) OpenBrace) Forms.FunctionBody (λ e. by_part Forms.FunctionBody refl refl refl refl refl (by_token Forms.BodyRow leaf refl refl refl refl refl (is_swap (kind_of leaf) OpenBrace e))) (low_if (is (kind_of leaf) Equal || is (kind_of leaf) Comma || is (kind_of leaf) Semicolon) Forms.DeclaredValues refl no_row)
  asked Forms.MembersOpt level leaf text = token_if OpenBrace Forms.Members refl refl refl refl refl (low_row Forms.NoMembers refl)
  asked Forms.MemberSort level leaf text = row_if (is_type_word (kind_of leaf)) Forms.MemberRow (λ e. member leaf e) no_row
  asked Forms.MembersMore level leaf text = low_if (is (kind_of leaf) CloseBrace) Forms.MembersEnd refl (row_if (is_type_word (kind_of leaf)) Forms.MembersNext (λ e. by_part Forms.MembersNext refl refl refl refl refl (member leaf e)) no_row)
  asked Forms.MemberMore level leaf text = low_if (is (kind_of leaf) Semicolon) Forms.MemberEnd refl (token_if Comma Forms.MemberNext refl refl refl refl refl no_row)
  asked (Forms.Base own words) level leaf text = low_if (is (kind_of leaf) Struct && is_start words) (Forms.BaseStruct own) (struct_low own) (of_word own words leaf text (Forms.with_word (kind_of leaf) words))
  asked Forms.FirstValue level leaf text = token_if Equal Forms.Value refl refl refl refl refl (low_row Forms.NoValue refl)
  asked Forms.DeclaratorsMore level leaf text = low_if (is (kind_of leaf) Semicolon) Forms.DeclarationEnd refl (token_if Comma Forms.DeclarationNext refl refl refl refl refl no_row)
  asked Forms.Init level leaf text = token_if OpenBrace Forms.InitList refl refl refl refl refl (row_if (begins_expr (kind_of leaf)) Forms.InitValue (λ e. by_part Forms.InitValue refl refl refl refl refl (expr leaf e (omega arith))) no_row)
  asked Forms.InitMore level leaf text = low_if (is (kind_of leaf) CloseBrace) Forms.InitEnd refl (low_if (is (kind_of leaf) Comma) Forms.InitComma refl no_row)
  asked Forms.InitNext level leaf text = low_if (is (kind_of leaf) CloseBrace) Forms.InitClose refl (row_if (is (kind_of leaf) OpenBrace || begins_expr (kind_of leaf)) Forms.InitOther (λ e. by_part Forms.InitOther refl refl refl refl refl (init leaf e)) no_row)
  asked Forms.Declarator level leaf text = row_if (begins_declarator (kind_of leaf)) Forms.DeclaratorRow (λ e. declarator leaf e) no_row
  asked Forms.Stars level leaf text = low_if (is (kind_of leaf) Star) Forms.StarFirst refl (low_row Forms.NoStar refl)
  asked Forms.AfterStar level leaf text = low_if (is (kind_of leaf) Star) Forms.StarNext refl (low_if (is (kind_of leaf) Const) Forms.StarConst refl (low_row Forms.StarEnd refl))
  asked Forms.Direct level leaf text = low_if (is (kind_of leaf) Name) Forms.DirectName refl (token_if OpenParenthesis Forms.DirectNested refl refl refl refl refl no_row)
  asked Forms.Suffixes level leaf text = low_if (is (kind_of leaf) OpenBracket) Forms.Array refl (low_if (is (kind_of leaf) OpenParenthesis) Forms.Function refl (low_row Forms.NoSuffix refl))
  asked Forms.Length level leaf text = row_if (begins_expr (kind_of leaf)) Forms.LengthRow (λ e. by_part Forms.LengthRow refl refl refl refl refl (expr leaf e (omega arith))) (low_row Forms.NoLength refl)
  asked Forms.Params level leaf text = low_if (is_type_word (kind_of leaf)) Forms.OneParam refl (low_row Forms.NoParam refl)
  asked Forms.ParamsMore level leaf text = low_if (is (kind_of leaf) Comma) Forms.ParamsNext refl (low_row Forms.ParamsEnd refl)
  asked Forms.Param level leaf text = low_if (is_type_word (kind_of leaf)) Forms.ParamRow refl no_row
  asked Forms.Type_name level leaf text = low_if (is_type_word (kind_of leaf)) Forms.TypeRow refl no_row
  asked (Forms.Optional named) level leaf text = token_if Star (Forms.OptionalPointer named) refl refl refl refl refl (row_if (begins_direct named (kind_of leaf)) (Forms.OptionalDirect named) (λ e. by_part (Forms.OptionalDirect named) refl refl refl refl refl (direct named leaf e)) (low_row (Forms.OptionalNone named) refl))
  asked (Forms.Inner named) level leaf text = token_if Star (Forms.InnerPointer named) refl refl refl refl refl (row_if (begins_direct named (kind_of leaf)) (Forms.InnerDirect named) (λ e. by_part (Forms.InnerDirect named) refl refl refl refl refl (direct named leaf e)) no_row)
  asked (Forms.DirectOptional named) level leaf text = low_if (begins_direct named (kind_of leaf)) (Forms.DirectSome named) refl (low_row (Forms.DirectNone named) refl)
  asked (Forms.ParamDirect named) level leaf text = either_of (is (kind_of leaf) OpenParenthesis) (λ e. of_nested named leaf text e) (low_if (is (kind_of leaf) OpenBracket) (Forms.ParamArray named) refl (low_if (named && is (kind_of leaf) Name) (Forms.ParamName named) refl no_row))
  asked Forms.Stmt level leaf text = of_stmt (kind_of leaf) leaf text (stmt_of (kind_of leaf)) refl (is_self (kind_of leaf))
  asked Forms.Body level leaf text = token_if OpenBrace Forms.BodyRow refl refl refl refl refl no_row
  asked Forms.BlockItems level leaf text = low_if (is (kind_of leaf) CloseBrace) Forms.BlockEnd refl (row_if (is_type_word (kind_of leaf)) Forms.BlockDeclaration (λ e. by_part Forms.BlockDeclaration refl refl refl refl refl (declaration leaf e)) (row_if (begins_stmt (kind_of leaf)) Forms.BlockStatement (λ e. by_part Forms.BlockStatement refl refl refl refl refl (stmt leaf e)) no_row))
  asked Forms.Declaration level leaf text = row_if (is_type_word (kind_of leaf)) Forms.DeclarationRow (λ e. declaration leaf e) no_row
  asked Forms.ElseOpt level leaf text = token_if Else Forms.ElseRow refl refl refl refl refl (low_row Forms.NoElse refl)
  asked Forms.ForFirst level leaf text = row_if (is_type_word (kind_of leaf)) Forms.ForDeclaration (λ e. by_part Forms.ForDeclaration refl refl refl refl refl (declaration leaf e)) (low_if (is (kind_of leaf) Semicolon) Forms.ForEmpty refl (row_if (begins_expr (kind_of leaf)) Forms.ForExpression (λ e. by_part Forms.ForExpression refl refl refl refl refl (expr leaf e (omega arith))) no_row))
  asked Forms.ExprOpt level leaf text = row_if (begins_expr (kind_of leaf)) Forms.SomeExpr (λ e. by_part Forms.SomeExpr refl refl refl refl refl (expr leaf e (omega arith))) (low_row Forms.NoExpr refl)
  asked Forms.SwitchItems level leaf text = low_if (is (kind_of leaf) CloseBrace) Forms.SwitchEnd refl (token_if Case Forms.CaseRow refl refl refl refl refl (low_if (is (kind_of leaf) Default) Forms.DefaultRow refl (row_if (begins_stmt (kind_of leaf)) Forms.SwitchStatement (λ e. by_part Forms.SwitchStatement refl refl refl refl refl (stmt leaf e)) no_row)))
  asked Forms.ReturnValue level leaf text = low_if (is (kind_of leaf) Semicolon) Forms.ReturnNothing refl (row_if (begins_expr (kind_of leaf)) Forms.ReturnExpr (λ e. by_part Forms.ReturnExpr refl refl refl refl refl (expr leaf e (omega arith))) no_row)
  asked Forms.Expr level leaf text = of_expr level leaf text (ahead text)
  asked Forms.Literals level leaf text = token_if Literal Forms.MoreLiteral refl refl refl refl refl (low_row Forms.NoLiteral refl)
  asked Forms.Arguments level leaf text = row_if (begins_expr (kind_of leaf)) Forms.OneArgument (λ e. by_part Forms.OneArgument refl refl refl refl refl (expr leaf e (omega arith))) (low_row Forms.NoArgument refl)
  asked Forms.ArgumentsMore level leaf text = token_if Comma Forms.ArgumentsNext refl refl refl refl refl (low_row Forms.ArgumentsEnd refl)
  asked Forms.SizeofOperand level leaf text = either_of (is (kind_of leaf) OpenParenthesis) (λ e. of_operand leaf text e) (row_if (begins_expr (kind_of leaf)) Forms.SizeofExpr (λ e. by_part Forms.SizeofExpr refl refl refl refl refl (expr leaf e (omega arith))) no_row)

  asked_at : (sort : Forms.Sort) (level : ℕ) (leaf : Leaf) (text : List Leaf) → Asked sort level leaf text (choose_at kind_of sample sort level (leaf ∷ text))
  asked_at sort level leaf [] = asked sort level leaf []
  asked_at sort level leaf (next ∷ text) = asked sort level leaf (next ∷ text)

  pub begun : (sort : Forms.Sort) (level : ℕ) (leaf : Leaf) (text : List Leaf) (first : ℕ) → lowest (choose_at kind_of sample sort level (leaf ∷ text)) ≡ Some first → IsDivided (choose_at kind_of sample sort level (leaf ∷ text)) ⊎ (0 < first) → Begun (language kind_of sample) sort level leaf (choose_at kind_of sample sort level (leaf ∷ text)) first
  begun sort level leaf text first e asks = (asked_at sort level leaf text).one first e asks

  pub begun_two : (sort : Forms.Sort) (level : ℕ) (leaf : Leaf) (text : List Leaf) (form : Forms.Production) (first second : ℕ) → choose_at kind_of sample sort level (leaf ∷ text) ≡ Take form first second → first < second → BegunTwo (language kind_of sample) sort level leaf text
  begun_two sort level leaf text form first second e lt = (asked_at sort level leaf text).two form first second e lt
