-- The row of a tree is the one that its first two tokens choose.
use Rattle.std.proofs.Common.{◌≡◌, ℕ, ◌≤◌, Bool, true, false, ◌&&◌, ◌||◌, if◌then◌else◌, List, [], ◌∷◌, ◌++◌, Option, Some, None, is_some, nat_le, sym, refl, ◌∙◌, ap, subst, arith}
use Rattle.std.proofs.lemmas.Bool.{le-leb}
use Rattle.std.proofs.lemmas.List.{append-nil}
use Rattle.c_grammar.specs.Table.{Symbol, Terminal, Nonterminal, Tree, Node, Choice, Never, Take, Stuck, leaves, Is, nothing, token, part, IsPart, first, after}
use Rattle.c_grammar.specs.declared.kind.Kind.{Kind}
use Rattle.c_grammar.specs.declared.kind.Kind.TheVariants.{Name, Literal, End, Else, Sizeof, Struct, Static, Extern, OpenParenthesis, OpenBrace, CloseParenthesis, Star, OpenBracket, Comma}
use Rattle.c_grammar.specs.Kinds.{is_type_word, prefix_level, is_single, is}
use Rattle.c_grammar.specs.Forms
use Rattle.c_grammar.specs.Chooses.{take, take_if, begins_expr, is_start, by_word, by_item, by_prefix, choose_expr, choose_nested, choose_operand, choose_by}
use Rattle.c_grammar.specs.Language.{choose_at, language}
use Rattle.c_grammar.specs.Follows.{member, type_words, item_words, expr_words, stmt_words, direct_words, begins, may_lack, follows, OneOf, NotLiteral, NoElseBehind, Stands}
use Rattle.c_grammar.specs.declared.words.Words.TheVariants.{NoWord}
use Rattle.c_grammar.specs.declared.words.Words.{Words}
use Rattle.c_grammar.proofs.LanguageRows.{both, are_these_words, is_that_number}
use Rattle.c_grammar.proofs.LanguageTells.{second_of, choose_cons, is_same, is_swap}
use Rattle.c_grammar.proofs.LanguageLeast.{and_false, not_swap}
use Rattle.c_grammar.proofs.LanguageFollowed.{inside_if, either_way, behind, Front, front_part, first_of_row}
use Rattle.c_grammar.proofs.LanguageParts.{and_true, first_token}

-- A row is chosen by each kind of a set.
abbrev pub Picks : Forms.Sort → Forms.Production → List Kind → Type 0
Picks sort form kinds = (level : ℕ) (kind next : Kind) → member kinds kind ≡ true → choose_by sort level kind next ≡ take form

abbrev Each : Forms.Sort → Forms.Production → List Kind → Type 0
Each sort form [] = Unit {0}
Each sort form (kind ∷ kinds) = ((level : ℕ) (next : Kind) → choose_by sort level kind next ≡ take form) × Each sort form kinds

each : (sort : Forms.Sort) (form : Forms.Production) (kinds : List Kind) → Each sort form kinds → Picks sort form kinds
each sort form [] all level kind next e = absurd (cc e)
each sort form (one ∷ kinds) all level kind next e = either_way (is one kind) (member kinds kind) (λ h. subst (λ k. choose_by sort level k next ≡ take form) (is_same one kind h) (all.0 level next)) (λ h. each sort form kinds all.1 level kind next h) e

taken_if : {A : Type 0} (test : Bool) (goal one other : A) → goal ≡ (if test then one else other) → test ≡ true → goal ≡ one
taken_if true goal one other e h = e
taken_if false goal one other e h = absurd (cc h)

-- where many kinds choose a row
by_whole_program : (level : ℕ) (kind next : Kind) → choose_by Forms.Program level kind next ≡ (if member (item_words ++ End ∷ []) kind then take Forms.WholeProgram else choose_by Forms.Program level kind next)
by_whole_program level Name next = refl
by_whole_program level _ next = refl

pick_whole_program : Picks Forms.Program Forms.WholeProgram (item_words ++ End ∷ [])
pick_whole_program level kind next e = taken_if (member (item_words ++ End ∷ []) kind) (choose_by Forms.Program level kind next) (take Forms.WholeProgram) (choose_by Forms.Program level kind next) (by_whole_program level kind next) e

by_one_item : (level : ℕ) (kind next : Kind) → choose_by Forms.Items level kind next ≡ (if member item_words kind then take Forms.OneItem else choose_by Forms.Items level kind next)
by_one_item level Name next = refl
by_one_item level _ next = refl

pick_one_item : Picks Forms.Items Forms.OneItem item_words
pick_one_item level kind next e = taken_if (member item_words kind) (choose_by Forms.Items level kind next) (take Forms.OneItem) (choose_by Forms.Items level kind next) (by_one_item level kind next) e

by_member_row : (level : ℕ) (kind next : Kind) → choose_by Forms.MemberSort level kind next ≡ (if member type_words kind then take Forms.MemberRow else choose_by Forms.MemberSort level kind next)
by_member_row level Name next = refl
by_member_row level _ next = refl

pick_member_row : Picks Forms.MemberSort Forms.MemberRow type_words
pick_member_row level kind next e = taken_if (member type_words kind) (choose_by Forms.MemberSort level kind next) (take Forms.MemberRow) (choose_by Forms.MemberSort level kind next) (by_member_row level kind next) e

by_members_next : (level : ℕ) (kind next : Kind) → choose_by Forms.MembersMore level kind next ≡ (if member type_words kind then take Forms.MembersNext else choose_by Forms.MembersMore level kind next)
by_members_next level Name next = refl
by_members_next level _ next = refl

pick_members_next : Picks Forms.MembersMore Forms.MembersNext type_words
pick_members_next level kind next e = taken_if (member type_words kind) (choose_by Forms.MembersMore level kind next) (take Forms.MembersNext) (choose_by Forms.MembersMore level kind next) (by_members_next level kind next) e

by_init_value : (level : ℕ) (kind next : Kind) → choose_by Forms.Init level kind next ≡ (if member expr_words kind then take Forms.InitValue else choose_by Forms.Init level kind next)
by_init_value level Name next = refl
by_init_value level _ next = refl

pick_init_value : Picks Forms.Init Forms.InitValue expr_words
pick_init_value level kind next e = taken_if (member expr_words kind) (choose_by Forms.Init level kind next) (take Forms.InitValue) (choose_by Forms.Init level kind next) (by_init_value level kind next) e

by_init_other : (level : ℕ) (kind next : Kind) → choose_by Forms.InitNext level kind next ≡ (if member (OpenBrace ∷ expr_words) kind then take Forms.InitOther else choose_by Forms.InitNext level kind next)
by_init_other level Name next = refl
by_init_other level _ next = refl

pick_init_other : Picks Forms.InitNext Forms.InitOther (OpenBrace ∷ expr_words)
pick_init_other level kind next e = taken_if (member (OpenBrace ∷ expr_words) kind) (choose_by Forms.InitNext level kind next) (take Forms.InitOther) (choose_by Forms.InitNext level kind next) (by_init_other level kind next) e

by_length_row : (level : ℕ) (kind next : Kind) → choose_by Forms.Length level kind next ≡ (if member expr_words kind then take Forms.LengthRow else choose_by Forms.Length level kind next)
by_length_row level Name next = refl
by_length_row level _ next = refl

pick_length_row : Picks Forms.Length Forms.LengthRow expr_words
pick_length_row level kind next e = taken_if (member expr_words kind) (choose_by Forms.Length level kind next) (take Forms.LengthRow) (choose_by Forms.Length level kind next) (by_length_row level kind next) e

by_one_param : (level : ℕ) (kind next : Kind) → choose_by Forms.Params level kind next ≡ (if member type_words kind then take Forms.OneParam else choose_by Forms.Params level kind next)
by_one_param level Name next = refl
by_one_param level _ next = refl

pick_one_param : Picks Forms.Params Forms.OneParam type_words
pick_one_param level kind next e = taken_if (member type_words kind) (choose_by Forms.Params level kind next) (take Forms.OneParam) (choose_by Forms.Params level kind next) (by_one_param level kind next) e

by_param_row : (level : ℕ) (kind next : Kind) → choose_by Forms.Param level kind next ≡ (if member type_words kind then take Forms.ParamRow else choose_by Forms.Param level kind next)
by_param_row level Name next = refl
by_param_row level _ next = refl

pick_param_row : Picks Forms.Param Forms.ParamRow type_words
pick_param_row level kind next e = taken_if (member type_words kind) (choose_by Forms.Param level kind next) (take Forms.ParamRow) (choose_by Forms.Param level kind next) (by_param_row level kind next) e

by_type_row : (level : ℕ) (kind next : Kind) → choose_by Forms.Type_name level kind next ≡ (if member type_words kind then take Forms.TypeRow else choose_by Forms.Type_name level kind next)
by_type_row level Name next = refl
by_type_row level _ next = refl

pick_type_row : Picks Forms.Type_name Forms.TypeRow type_words
pick_type_row level kind next e = taken_if (member type_words kind) (choose_by Forms.Type_name level kind next) (take Forms.TypeRow) (choose_by Forms.Type_name level kind next) (by_type_row level kind next) e

by_expression : (level : ℕ) (kind next : Kind) → choose_by Forms.Stmt level kind next ≡ (if member expr_words kind then take Forms.Expression else choose_by Forms.Stmt level kind next)
by_expression level Name next = refl
by_expression level _ next = refl

pick_expression : Picks Forms.Stmt Forms.Expression expr_words
pick_expression level kind next e = taken_if (member expr_words kind) (choose_by Forms.Stmt level kind next) (take Forms.Expression) (choose_by Forms.Stmt level kind next) (by_expression level kind next) e

by_block_declaration : (level : ℕ) (kind next : Kind) → choose_by Forms.BlockItems level kind next ≡ (if member type_words kind then take Forms.BlockDeclaration else choose_by Forms.BlockItems level kind next)
by_block_declaration level Name next = refl
by_block_declaration level _ next = refl

pick_block_declaration : Picks Forms.BlockItems Forms.BlockDeclaration type_words
pick_block_declaration level kind next e = taken_if (member type_words kind) (choose_by Forms.BlockItems level kind next) (take Forms.BlockDeclaration) (choose_by Forms.BlockItems level kind next) (by_block_declaration level kind next) e

by_block_statement : (level : ℕ) (kind next : Kind) → choose_by Forms.BlockItems level kind next ≡ (if member stmt_words kind then take Forms.BlockStatement else choose_by Forms.BlockItems level kind next)
by_block_statement level Name next = refl
by_block_statement level _ next = refl

pick_block_statement : Picks Forms.BlockItems Forms.BlockStatement stmt_words
pick_block_statement level kind next e = taken_if (member stmt_words kind) (choose_by Forms.BlockItems level kind next) (take Forms.BlockStatement) (choose_by Forms.BlockItems level kind next) (by_block_statement level kind next) e

by_declaration_row : (level : ℕ) (kind next : Kind) → choose_by Forms.Declaration level kind next ≡ (if member type_words kind then take Forms.DeclarationRow else choose_by Forms.Declaration level kind next)
by_declaration_row level Name next = refl
by_declaration_row level _ next = refl

pick_declaration_row : Picks Forms.Declaration Forms.DeclarationRow type_words
pick_declaration_row level kind next e = taken_if (member type_words kind) (choose_by Forms.Declaration level kind next) (take Forms.DeclarationRow) (choose_by Forms.Declaration level kind next) (by_declaration_row level kind next) e

by_for_declaration : (level : ℕ) (kind next : Kind) → choose_by Forms.ForFirst level kind next ≡ (if member type_words kind then take Forms.ForDeclaration else choose_by Forms.ForFirst level kind next)
by_for_declaration level Name next = refl
by_for_declaration level _ next = refl

pick_for_declaration : Picks Forms.ForFirst Forms.ForDeclaration type_words
pick_for_declaration level kind next e = taken_if (member type_words kind) (choose_by Forms.ForFirst level kind next) (take Forms.ForDeclaration) (choose_by Forms.ForFirst level kind next) (by_for_declaration level kind next) e

by_for_expression : (level : ℕ) (kind next : Kind) → choose_by Forms.ForFirst level kind next ≡ (if member expr_words kind then take Forms.ForExpression else choose_by Forms.ForFirst level kind next)
by_for_expression level Name next = refl
by_for_expression level _ next = refl

pick_for_expression : Picks Forms.ForFirst Forms.ForExpression expr_words
pick_for_expression level kind next e = taken_if (member expr_words kind) (choose_by Forms.ForFirst level kind next) (take Forms.ForExpression) (choose_by Forms.ForFirst level kind next) (by_for_expression level kind next) e

by_some_expr : (level : ℕ) (kind next : Kind) → choose_by Forms.ExprOpt level kind next ≡ (if member expr_words kind then take Forms.SomeExpr else choose_by Forms.ExprOpt level kind next)
by_some_expr level Name next = refl
by_some_expr level _ next = refl

pick_some_expr : Picks Forms.ExprOpt Forms.SomeExpr expr_words
pick_some_expr level kind next e = taken_if (member expr_words kind) (choose_by Forms.ExprOpt level kind next) (take Forms.SomeExpr) (choose_by Forms.ExprOpt level kind next) (by_some_expr level kind next) e

by_switch_statement : (level : ℕ) (kind next : Kind) → choose_by Forms.SwitchItems level kind next ≡ (if member stmt_words kind then take Forms.SwitchStatement else choose_by Forms.SwitchItems level kind next)
by_switch_statement level Name next = refl
by_switch_statement level _ next = refl

pick_switch_statement : Picks Forms.SwitchItems Forms.SwitchStatement stmt_words
pick_switch_statement level kind next e = taken_if (member stmt_words kind) (choose_by Forms.SwitchItems level kind next) (take Forms.SwitchStatement) (choose_by Forms.SwitchItems level kind next) (by_switch_statement level kind next) e

by_return_expr : (level : ℕ) (kind next : Kind) → choose_by Forms.ReturnValue level kind next ≡ (if member expr_words kind then take Forms.ReturnExpr else choose_by Forms.ReturnValue level kind next)
by_return_expr level Name next = refl
by_return_expr level _ next = refl

pick_return_expr : Picks Forms.ReturnValue Forms.ReturnExpr expr_words
pick_return_expr level kind next e = taken_if (member expr_words kind) (choose_by Forms.ReturnValue level kind next) (take Forms.ReturnExpr) (choose_by Forms.ReturnValue level kind next) (by_return_expr level kind next) e

by_one_argument : (level : ℕ) (kind next : Kind) → choose_by Forms.Arguments level kind next ≡ (if member expr_words kind then take Forms.OneArgument else choose_by Forms.Arguments level kind next)
by_one_argument level Name next = refl
by_one_argument level _ next = refl

pick_one_argument : Picks Forms.Arguments Forms.OneArgument expr_words
pick_one_argument level kind next e = taken_if (member expr_words kind) (choose_by Forms.Arguments level kind next) (take Forms.OneArgument) (choose_by Forms.Arguments level kind next) (by_one_argument level kind next) e

-- rows of a word of theirs
item_pick : (level : ℕ) (kind next : Kind) → choose_by Forms.Item level kind next ≡ (if is_some (Forms.with_word kind NoWord) then by_item kind (Forms.with_word kind NoWord) else choose_by Forms.Item level kind next)
item_pick level Name next = refl
item_pick level _ next = refl

prefix_pick : (level : ℕ) (kind next : Kind) → choose_expr level kind next ≡ (if is_some (prefix_level kind) then by_prefix level kind (prefix_level kind) Never else choose_expr level kind next)
prefix_pick level Name next = refl
prefix_pick level _ next = refl

not_struct : (kind : Kind) (words : Words) → (is kind Struct && is_some (Forms.with_word kind words)) ≡ false
not_struct Name words = refl
not_struct _ words = refl

expr_no_type : (kind : Kind) → (if member expr_words kind then is_type_word kind else false) ≡ false
expr_no_type Name = refl
expr_no_type _ = refl

type_word : (kind : Kind) → (if member type_words kind then is_type_word kind else true) ≡ true
type_word Name = refl
type_word _ = refl

expr_word : (kind : Kind) → (if member expr_words kind then begins_expr kind else true) ≡ true
expr_word Name = refl
expr_word _ = refl

abbrev kinds_in : Option (List Kind) → List Kind
kinds_in (Some kinds) = kinds
kinds_in None = []

-- the first tokens of a row and of what follows it
abbrev first_kinds : Forms.Sort → Forms.Production → List Kind
first_kinds sort form = kinds_in (behind (Forms.symbols_of form) (follows sort))

nested_by : (named : Bool) (next : Kind) → choose_nested named next ≡ (if member (Star ∷ direct_words named) next then Take (Forms.ParamNested named) 0 1 else choose_nested named next)
nested_by true Name = refl
nested_by false Name = refl
nested_by true _ = refl
nested_by false _ = refl

nested_pick : (named : Bool) (level : ℕ) (next : Kind) → member (Star ∷ direct_words named) next ≡ true → choose_by (Forms.ParamDirect named) level OpenParenthesis next ≡ Take (Forms.ParamNested named) 0 1
nested_pick named level next e = taken_if (member (Star ∷ direct_words named) next) (choose_nested named next) (Take (Forms.ParamNested named) 0 1) (choose_nested named next) (nested_by named next) e

function_by : (named : Bool) (next : Kind) → choose_nested named next ≡ (if member (type_words ++ CloseParenthesis ∷ []) next then Take (Forms.ParamFunction named) 0 0 else choose_nested named next)
function_by named Name = refl
function_by named _ = refl

function_pick : (named : Bool) (level : ℕ) (next : Kind) → member (type_words ++ CloseParenthesis ∷ []) next ≡ true → choose_by (Forms.ParamDirect named) level OpenParenthesis next ≡ Take (Forms.ParamFunction named) 0 0
function_pick named level next e = taken_if (member (type_words ++ CloseParenthesis ∷ []) next) (choose_nested named next) (Take (Forms.ParamFunction named) 0 0) (choose_nested named next) (function_by named next) e

parenthesized_pick : (level : ℕ) (next : Kind) → member expr_words next ≡ true → choose_expr level OpenParenthesis next ≡ take Forms.Parenthesized
parenthesized_pick level next e =
    let no_type : is_type_word next ≡ false = inside_if (member expr_words next) (is_type_word next) false false (expr_no_type next) e in
    ap (λ b. take_if (nat_le 3 level && b) Forms.Cast (take Forms.Parenthesized)) no_type ∙ ap (λ b. take_if b Forms.Cast (take Forms.Parenthesized)) (and_false (nat_le 3 level))

cast_pick : (level : ℕ) → 3 ≤ level → (next : Kind) → member type_words next ≡ true → choose_expr level OpenParenthesis next ≡ take Forms.Cast
cast_pick level le next e =
    let a_type : is_type_word next ≡ true = inside_if (member type_words next) (is_type_word next) true true (type_word next) e in
    ap (λ b. take_if b Forms.Cast (take Forms.Parenthesized)) (both (le-leb 3 level le) a_type)

abbrev base_followers : List Kind
base_followers = Star ∷ Name ∷ OpenParenthesis ∷ OpenBracket ∷ Comma ∷ CloseParenthesis ∷ []

module _ {Leaf : Type 0} (kind_of : Leaf → Kind) (sample : Kind → Leaf) where
  abbrev pub Chosen : Forms.Sort → ℕ → Forms.Production → List Leaf → Type 0
  Chosen sort level form text = (low : ℕ) × (high : ℕ) × (choose_at kind_of sample sort level text ≡ Take form low high)

  -- by the first token
  by_first : (sort : Forms.Sort) (level : ℕ) (form : Forms.Production) (kinds : List Kind) (text : List Leaf) → OneOf kind_of (Some kinds) text → Picks sort form kinds → Chosen sort level form text
  by_first sort level form kinds [] h picks = absurd h
  by_first sort level form kinds (leaf ∷ text) h picks = (Forms.row_need form, Forms.row_need form, choose_cons kind_of sample sort level leaf text ∙ picks level (kind_of leaf) (second_of kind_of sample text) h)

  plainly : (sort : Forms.Sort) (level : ℕ) (form : Forms.Production) (kinds : List Kind) {parts : Tree Leaf Forms.Production} → Is (language kind_of sample) (Forms.symbols_of form) parts → (text : List Leaf) → OneOf kind_of (follows sort) text → behind (Forms.symbols_of form) (follows sort) ≡ Some kinds → Picks sort form kinds → Chosen sort level form (leaves parts ++ text)
  plainly sort level form kinds {parts = parts} trees text h e picks =
      by_first sort level form kinds (leaves parts ++ text) (subst (λ x. OneOf kind_of x (leaves parts ++ text)) e (first_of_row kind_of sample trees text (follows sort) h)) picks

  -- where the first token is known
  by_token : (sort : Forms.Sort) (level : ℕ) (form : Forms.Production) (kind : Kind) {others : List (Symbol Kind Forms.Sort)} {parts : Tree Leaf Forms.Production} → Is (language kind_of sample) (Terminal kind ∷ others) parts → (text : List Leaf) (low high : ℕ) → ((next : Kind) → choose_by sort level kind next ≡ Take form low high) → Chosen sort level form (leaves parts ++ text)
  by_token sort level form kind (token {others = trees} leaf fits is_trees) text low high pick =
      (low, high, choose_cons kind_of sample sort level leaf (leaves trees ++ text) ∙ subst (λ k. choose_by sort level k (second_of kind_of sample (leaves trees ++ text)) ≡ Take form low high) (is_same kind (kind_of leaf) fits) (pick (second_of kind_of sample (leaves trees ++ text))))

  -- and where the second one decides
  by_two : (sort : Forms.Sort) (level : ℕ) (form : Forms.Production) (kind : Kind) (kinds : List Kind) (leaf : Leaf) (text : List Leaf) (low high : ℕ) → is kind (kind_of leaf) ≡ true → OneOf kind_of (Some kinds) text → ((next : Kind) → member kinds next ≡ true → choose_by sort level kind next ≡ Take form low high) → Chosen sort level form (leaf ∷ text)
  by_two sort level form kind kinds leaf [] low high fits h pick = absurd h
  by_two sort level form kind kinds leaf (next ∷ text) low high fits h pick =
      (low, high, subst (λ k. choose_by sort level k (kind_of next) ≡ Take form low high) (is_same kind (kind_of leaf) fits) (pick (kind_of next) h))

  -- Rows whose words are told by a test.
  storage_chosen : (kind : Kind) (level : ℕ) {parts : Tree Leaf Forms.Production} → Is (language kind_of sample) (Forms.symbols_of (Forms.Storage kind)) parts → (text : List Leaf) → (is kind Static || is kind Extern) ≡ true → Chosen Forms.Item level (Forms.Storage kind) (leaves parts ++ text)
  storage_chosen kind level trees text e = by_token Forms.Item level (Forms.Storage kind) kind trees text _ _ (λ next. ap (λ b. take_if b (Forms.Storage kind) (take_if (is kind Struct) Forms.ItemStruct (by_item kind (Forms.with_word kind NoWord)))) e)

  item_chosen : (kind : Kind) (words : Words) (level : ℕ) {parts : Tree Leaf Forms.Production} → Is (language kind_of sample) (Forms.symbols_of (Forms.ItemTyped kind words)) parts → (text : List Leaf) → Forms.with_word kind NoWord ≡ Some words → Chosen Forms.Item level (Forms.ItemTyped kind words) (leaves parts ++ text)
  item_chosen kind words level trees text e = by_token Forms.Item level (Forms.ItemTyped kind words) kind trees text _ _ (λ next. item_pick level kind next ∙ ap (λ (x : Option Words). if is_some x then by_item kind x else choose_by Forms.Item level kind next) e)

  word_chosen : (own : Bool) (words next_words : Words) (kind : Kind) (level : ℕ) {parts : Tree Leaf Forms.Production} → Is (language kind_of sample) (Forms.symbols_of (Forms.BaseWord own words kind next_words)) parts → (text : List Leaf) → Forms.with_word kind words ≡ Some next_words → Chosen (Forms.Base own words) level (Forms.BaseWord own words kind next_words) (leaves parts ++ text)
  word_chosen own words next_words kind level trees text e =
      let no_struct : is kind Struct ≡ false = none_left (is kind Struct) (is_some (Forms.with_word kind words)) (not_struct kind words) (ap (λ (x : Option Words). is_some x) e) in
      by_token (Forms.Base own words) level (Forms.BaseWord own words kind next_words) kind trees text _ _ (λ next. ap (λ b. take_if (b && is_start words) (Forms.BaseStruct own) (by_word own words kind (Forms.with_word kind words))) no_struct ∙ ap (λ x. by_word own words kind x) e)
    where
      none_left : (a b : Bool) → (a && b) ≡ false → b ≡ true → a ≡ false
      none_left true b h h' =
          let clash : true ≡ false = sym h' ∙ h in
          absurd (cc clash)
      none_left false b h h' = refl

  end_each : (own : Bool) (words : Words) → Forms.is_type words ≡ true → Picks (Forms.Base own words) (Forms.BaseEnd own words) base_followers
  end_each own words e =
      let picked = λ (level : ℕ) (next : Kind). ap (λ b. take_if b (Forms.BaseEnd own words) Never) e in
      each (Forms.Base own words) (Forms.BaseEnd own words) base_followers (picked, (picked, (picked, (picked, (picked, (picked, tt))))))

  single_chosen : (kind : Kind) (level : ℕ) {parts : Tree Leaf Forms.Production} → Is (language kind_of sample) (Forms.symbols_of (Forms.Single kind)) parts → (text : List Leaf) → is_single kind ≡ true → Chosen Forms.Expr level (Forms.Single kind) (leaves parts ++ text)
  single_chosen kind level trees text e = by_token Forms.Expr level (Forms.Single kind) kind trees text _ _ (λ next. one (is_single kind) (choose_expr level kind next) _ refl e)
    where
      one : (test : Bool) (choice otherwise : Choice Forms.Production) → choice ≡ take_if test (Forms.Single kind) otherwise → test ≡ true → choice ≡ take (Forms.Single kind)
      one true choice otherwise h h' = h
      one false choice otherwise h h' = absurd (cc h')

  prefix_chosen : (kind : Kind) (operand level : ℕ) {parts : Tree Leaf Forms.Production} → Is (language kind_of sample) (Forms.symbols_of (Forms.Prefix kind operand)) parts → (text : List Leaf) → prefix_level kind ≡ Some operand → 2 ≤ level → Chosen Forms.Expr level (Forms.Prefix kind operand) (leaves parts ++ text)
  prefix_chosen kind operand level trees text e le = by_token Forms.Expr level (Forms.Prefix kind operand) kind trees text _ _ (λ next. prefix_pick level kind next ∙ ap (λ (x : Option ℕ). if is_some x then by_prefix level kind x Never else choose_expr level kind next) e ∙ ap (λ b. take_if b (Forms.Prefix kind operand) Never) (le-leb 2 level le))

  no_else_chosen : (level : ℕ) (text : List Leaf) → NoElseBehind kind_of true text → Chosen Forms.ElseOpt level Forms.NoElse text
  no_else_chosen level [] h = absurd h
  no_else_chosen level (leaf ∷ text) h =
      let told : is (kind_of leaf) Else ≡ false = not_swap Else (kind_of leaf) (and_true (is Else (kind_of leaf)) h) in
      (0, 0, choose_cons kind_of sample Forms.ElseOpt level leaf text ∙ ap (λ b. take_if b Forms.ElseRow (take Forms.NoElse)) told)

  no_literal_chosen : (level : ℕ) (text : List Leaf) → NotLiteral kind_of text → Chosen Forms.Literals level Forms.NoLiteral text
  no_literal_chosen level [] h = absurd h
  no_literal_chosen level (leaf ∷ text) h =
      (0, 0, choose_cons kind_of sample Forms.Literals level leaf text ∙ ap (λ b. take_if b Forms.MoreLiteral (take Forms.NoLiteral)) (not_swap Literal (kind_of leaf) h))

  -- Behind a parenthesis that begins an expression which is no cast stands an expression.
  abbrev OpensExpr : List Leaf → Type 0
  OpensExpr [] = Unit {0}
  OpensExpr (leaf ∷ text) = is OpenParenthesis (kind_of leaf) ≡ true → OneOf kind_of (Some expr_words) text

  one_more : (kinds : List Kind) (text others : List Leaf) → OneOf kind_of (Some kinds) text → OneOf kind_of (Some kinds) (text ++ others)
  one_more kinds [] others h = absurd h
  one_more kinds (leaf ∷ text) others h = h

  opens_more : (text others : List Leaf) → Front kind_of sample false expr_words text → OpensExpr text → OpensExpr (text ++ others)
  opens_more [] others some h = absurd (cc some)
  opens_more (leaf ∷ text) others some h = λ e. one_more expr_words text others (h e)

  other_token : (kind : Kind) {others : List (Symbol Kind Forms.Sort)} {parts : Tree Leaf Forms.Production} → (kind ≡ OpenParenthesis → ⊥) → Is (language kind_of sample) (Terminal kind ∷ others) parts → OpensExpr (leaves parts)
  other_token kind differs (token leaf fits trees) = λ e. absurd (differs (is_same kind (kind_of leaf) fits ∙ sym (is_same OpenParenthesis (kind_of leaf) e)))

  single_differs : (kind : Kind) → is_single kind ≡ true → kind ≡ OpenParenthesis → ⊥
  single_differs kind e h =
      let clash : true ≡ false = sym e ∙ ap is_single h in
      cc clash

  prefix_differs : (kind : Kind) (operand : ℕ) → prefix_level kind ≡ Some operand → kind ≡ OpenParenthesis → ⊥
  prefix_differs kind operand e h =
      let clash : Some operand ≡ None = sym e ∙ ap prefix_level h in
      cc clash

  opens_form : (form : Forms.Production) {parts : Tree Leaf Forms.Production} → Forms.sort_of form ≡ Forms.Expr → Forms.is_row form ≡ true → Forms.left_of form ≡ None → Forms.level_of_form form ≤ 2 → Is (language kind_of sample) (Forms.symbols_of form) parts → OpensExpr (leaves parts)
  opens_form (Forms.Single kind) own row none le trees = other_token kind (single_differs kind row) trees
  opens_form Forms.Text own row none le trees = other_token Literal (λ h. cc h) trees
  opens_form Forms.Parenthesized own row none le (token leaf fits trees) = λ e. before_text trees
    where
      before_text : {parts : Tree Leaf Forms.Production} → Is (language kind_of sample) (Nonterminal Forms.Expr 15 ∷ Terminal CloseParenthesis ∷ []) parts → OneOf kind_of (Some expr_words) (leaves parts)
      before_text {parts = parts} trees = subst (λ x. OneOf kind_of (Some expr_words) x) (append-nil (leaves parts)) (first_of_row kind_of sample trees [] None tt)
  opens_form Forms.Cast own row none le trees = absurd (omega (arith, le))
  opens_form Forms.SizeofRow own row none le trees = other_token Sizeof (λ h. cc h) trees
  opens_form (Forms.Prefix kind operand) own row none le trees = other_token kind (prefix_differs kind operand (is_that_number (prefix_level kind) operand row)) trees
  opens_form (Forms.Binary kind right) own row none le trees = absurd (cc none)
  opens_form (Forms.Assign kind) own row none le trees = absurd (cc none)
  opens_form Forms.Conditional own row none le trees = absurd (cc none)
  opens_form Forms.Index own row none le trees = absurd (cc none)
  opens_form Forms.Call own row none le trees = absurd (cc none)
  opens_form Forms.Member own row none le trees = absurd (cc none)
  opens_form Forms.PointerMember own row none le trees = absurd (cc none)
  opens_form Forms.PostIncrement own row none le trees = absurd (cc none)
  opens_form Forms.PostDecrement own row none le trees = absurd (cc none)
  opens_form _ own row none le trees = absurd (cc own)

  opens_part : {sort : Forms.Sort} {level : ℕ} {tree : Tree Leaf Forms.Production} → IsPart (language kind_of sample) sort level tree → sort ≡ Forms.Expr → level ≤ 2 → OpensExpr (leaves tree)
  opens_part (first form own_sort own_row own_left own_level trees) e le = opens_form form (own_sort ∙ e) own_row own_left (omega (arith, own_level, le)) trees
  opens_part (after {sort = sort} {left = left} {parts = parts} form left_level own_sort own_row own_left own_level left_is trees) e le =
      let tight = (first_token form left_level own_row own_left).tight in
      let front = subst (λ s. Front kind_of sample (may_lack s) (begins s) (leaves left)) e (front_part kind_of sample left_is) in
      opens_more (leaves left) (leaves parts) front (opens_part left_is e (omega (arith, tight, own_level, le)))

  -- the operand of `sizeof`
  operand_test : (test : Bool) (level : ℕ) (leaf : Leaf) (text : List Leaf) → is (kind_of leaf) OpenParenthesis ≡ test → member expr_words (kind_of leaf) ≡ true → OpensExpr (leaf ∷ text) → Chosen Forms.SizeofOperand level Forms.SizeofExpr (leaf ∷ text)
  operand_test false level leaf text e begins_one opens =
      (_, _, choose_cons kind_of sample Forms.SizeofOperand level leaf text ∙ ap (λ b. if b then choose_operand (second_of kind_of sample text) else take_if (begins_expr (kind_of leaf)) Forms.SizeofExpr Never) e ∙ ap (λ b. take_if b Forms.SizeofExpr Never) (inside_if (member expr_words (kind_of leaf)) (begins_expr (kind_of leaf)) true true (expr_word (kind_of leaf)) begins_one))
  operand_test true level leaf [] e begins_one opens = absurd (opens (is_swap (kind_of leaf) OpenParenthesis e))
  operand_test true level leaf (next ∷ text) e begins_one opens =
      let begins_next : member expr_words (kind_of next) ≡ true = opens (is_swap (kind_of leaf) OpenParenthesis e) in
      let no_type : is_type_word (kind_of next) ≡ false = inside_if (member expr_words (kind_of next)) (is_type_word (kind_of next)) false false (expr_no_type (kind_of next)) begins_next in
      let an_expr : begins_expr (kind_of next) ≡ true = inside_if (member expr_words (kind_of next)) (begins_expr (kind_of next)) true true (expr_word (kind_of next)) begins_next in
      let one : choose_operand (kind_of next) ≡ (if begins_expr (kind_of next) then Take Forms.SizeofExpr 0 2 else Stuck 0) = ap (λ (b : Bool). if b then Take Forms.SizeofType 0 0 else if begins_expr (kind_of next) then Take Forms.SizeofExpr 0 2 else Stuck 0) no_type in
      let two : choose_operand (kind_of next) ≡ Take Forms.SizeofExpr 0 2 = one ∙ ap (λ (b : Bool). if b then Take Forms.SizeofExpr 0 2 else Stuck 0) an_expr in
      (0, 2, ap (λ b. if b then choose_operand (kind_of next) else take_if (begins_expr (kind_of leaf)) Forms.SizeofExpr Never) e ∙ two)

  operand_chosen : (level : ℕ) (tree : Tree Leaf Forms.Production) (text : List Leaf) → IsPart (language kind_of sample) Forms.Expr 2 tree → Chosen Forms.SizeofOperand level Forms.SizeofExpr (leaves tree ++ text)
  operand_chosen level tree text is_tree = by_list (leaves tree) (front_part kind_of sample is_tree) (opens_more (leaves tree) text (front_part kind_of sample is_tree) (opens_part is_tree refl (omega arith)))
    where
      by_list : (list : List Leaf) → Front kind_of sample false expr_words list → OpensExpr (list ++ text) → Chosen Forms.SizeofOperand level Forms.SizeofExpr (list ++ text)
      by_list [] front opens = absurd (cc front)
      by_list (leaf ∷ list) front opens = operand_test (is (kind_of leaf) OpenParenthesis) level leaf (list ++ text) refl front opens

  by_each : (sort : Forms.Sort) (level : ℕ) (form : Forms.Production) {parts : Tree Leaf Forms.Production} → Is (language kind_of sample) (Forms.symbols_of form) parts → (text : List Leaf) → OneOf kind_of (follows sort) text → behind (Forms.symbols_of form) (follows sort) ≡ Some (first_kinds sort form) → Each sort form (first_kinds sort form) → Chosen sort level form (leaves parts ++ text)
  by_each sort level form trees text h e all = plainly sort level form (first_kinds sort form) trees text h e (each sort form (first_kinds sort form) all)

  pub chosen_form : (form : Forms.Production) (level : ℕ) (parts : Tree Leaf Forms.Production) (text : List Leaf) → Forms.is_row form ≡ true → Forms.left_of form ≡ None → Forms.level_of_form form ≤ level → Is (language kind_of sample) (Forms.symbols_of form) parts → Stands kind_of (Forms.sort_of form) level (Node form parts) text → Chosen (Forms.sort_of form) level form (leaves parts ++ text)
  chosen_form Forms.WholeProgram level parts text row none le trees h = plainly Forms.Program level Forms.WholeProgram (item_words ++ End ∷ []) trees text h refl pick_whole_program
  chosen_form Forms.OneItem level parts text row none le trees h = plainly Forms.Items level Forms.OneItem item_words trees text h refl pick_one_item
  chosen_form Forms.MemberRow level parts text row none le trees h = plainly Forms.MemberSort level Forms.MemberRow type_words trees text h refl pick_member_row
  chosen_form Forms.MembersNext level parts text row none le trees h = plainly Forms.MembersMore level Forms.MembersNext type_words trees text h refl pick_members_next
  chosen_form Forms.InitValue level parts text row none le trees h = plainly Forms.Init level Forms.InitValue expr_words trees text h refl pick_init_value
  chosen_form Forms.InitOther level parts text row none le trees h = plainly Forms.InitNext level Forms.InitOther (OpenBrace ∷ expr_words) trees text h refl pick_init_other
  chosen_form Forms.LengthRow level parts text row none le trees h = plainly Forms.Length level Forms.LengthRow expr_words trees text h refl pick_length_row
  chosen_form Forms.OneParam level parts text row none le trees h = plainly Forms.Params level Forms.OneParam type_words trees text h refl pick_one_param
  chosen_form Forms.ParamRow level parts text row none le trees h = plainly Forms.Param level Forms.ParamRow type_words trees text h refl pick_param_row
  chosen_form Forms.TypeRow level parts text row none le trees h = plainly Forms.Type_name level Forms.TypeRow type_words trees text h refl pick_type_row
  chosen_form Forms.Expression level parts text row none le trees h = plainly Forms.Stmt level Forms.Expression expr_words trees text tt refl pick_expression
  chosen_form Forms.BlockDeclaration level parts text row none le trees h = plainly Forms.BlockItems level Forms.BlockDeclaration type_words trees text h refl pick_block_declaration
  chosen_form Forms.BlockStatement level parts text row none le trees h = plainly Forms.BlockItems level Forms.BlockStatement stmt_words trees text h refl pick_block_statement
  chosen_form Forms.DeclarationRow level parts text row none le trees h = plainly Forms.Declaration level Forms.DeclarationRow type_words trees text h refl pick_declaration_row
  chosen_form Forms.ForDeclaration level parts text row none le trees h = plainly Forms.ForFirst level Forms.ForDeclaration type_words trees text h refl pick_for_declaration
  chosen_form Forms.ForExpression level parts text row none le trees h = plainly Forms.ForFirst level Forms.ForExpression expr_words trees text h refl pick_for_expression
  chosen_form Forms.SomeExpr level parts text row none le trees h = plainly Forms.ExprOpt level Forms.SomeExpr expr_words trees text h refl pick_some_expr
  chosen_form Forms.SwitchStatement level parts text row none le trees h = plainly Forms.SwitchItems level Forms.SwitchStatement stmt_words trees text h refl pick_switch_statement
  chosen_form Forms.ReturnExpr level parts text row none le trees h = plainly Forms.ReturnValue level Forms.ReturnExpr expr_words trees text h refl pick_return_expr
  chosen_form Forms.OneArgument level parts text row none le trees h = plainly Forms.Arguments level Forms.OneArgument expr_words trees text h refl pick_one_argument
  chosen_form Forms.TailTyped level parts text row none le trees h = by_each Forms.StructTail level Forms.TailTyped trees text h refl (λ l n. refl, (λ l n. refl, (λ l n. refl, (λ l n. refl, tt))))
  chosen_form Forms.DeclaredRow level parts text row none le trees h = by_each Forms.Declared level Forms.DeclaredRow trees text h refl (λ l n. refl, (λ l n. refl, (λ l n. refl, tt)))
  chosen_form Forms.FunctionBody level parts text row none le trees h = by_each Forms.AfterDeclarator level Forms.FunctionBody trees text h refl (λ l n. refl, tt)
  chosen_form Forms.DeclaredValues level parts text row none le trees h = by_each Forms.AfterDeclarator level Forms.DeclaredValues trees text h refl (λ l n. refl, (λ l n. refl, (λ l n. refl, tt)))
  chosen_form Forms.NoMembers level parts text row none le trees h = by_each Forms.MembersOpt level Forms.NoMembers trees text h refl (λ l n. refl, (λ l n. refl, (λ l n. refl, (λ l n. refl, (λ l n. refl, (λ l n. refl, (λ l n. refl, (λ l n. refl, tt))))))))
  chosen_form Forms.NoValue level parts text row none le trees h = by_each Forms.FirstValue level Forms.NoValue trees text h refl (λ l n. refl, (λ l n. refl, tt))
  chosen_form Forms.NoStar level parts text row none le trees h = by_each Forms.Stars level Forms.NoStar trees text h refl (λ l n. refl, (λ l n. refl, tt))
  chosen_form Forms.StarEnd level parts text row none le trees h = by_each Forms.AfterStar level Forms.StarEnd trees text h refl (λ l n. refl, (λ l n. refl, (λ l n. refl, (λ l n. refl, (λ l n. refl, tt)))))
  chosen_form Forms.NoSuffix level parts text row none le trees h = by_each Forms.Suffixes level Forms.NoSuffix trees text h refl (λ l n. refl, (λ l n. refl, (λ l n. refl, (λ l n. refl, (λ l n. refl, tt)))))
  chosen_form Forms.NoLength level parts text row none le trees h = by_each Forms.Length level Forms.NoLength trees text h refl (λ l n. refl, tt)
  chosen_form Forms.NoParam level parts text row none le trees h = by_each Forms.Params level Forms.NoParam trees text h refl (λ l n. refl, tt)
  chosen_form Forms.ParamsEnd level parts text row none le trees h = by_each Forms.ParamsMore level Forms.ParamsEnd trees text h refl (λ l n. refl, tt)
  chosen_form Forms.DeclaratorRow level parts text row none le trees h = by_each Forms.Declarator level Forms.DeclaratorRow trees text h refl (λ l n. refl, (λ l n. refl, (λ l n. refl, tt)))
  chosen_form Forms.NoExpr level parts text row none le trees h = by_each Forms.ExprOpt level Forms.NoExpr trees text h refl (λ l n. refl, (λ l n. refl, tt))
  chosen_form Forms.NoArgument level parts text row none le trees h = by_each Forms.Arguments level Forms.NoArgument trees text h refl (λ l n. refl, tt)
  chosen_form Forms.ArgumentsEnd level parts text row none le trees h = by_each Forms.ArgumentsMore level Forms.ArgumentsEnd trees text h refl (λ l n. refl, tt)
  chosen_form Forms.NoItem level parts text row none le trees h = by_each Forms.Items level Forms.NoItem trees text h refl (λ l n. refl, tt)
  chosen_form (Forms.OptionalNone true) level parts text row none le trees h = by_each (Forms.Optional true) level (Forms.OptionalNone true) trees text h refl (λ l n. refl, (λ l n. refl, tt))
  chosen_form (Forms.OptionalNone false) level parts text row none le trees h = by_each (Forms.Optional false) level (Forms.OptionalNone false) trees text h refl (λ l n. refl, (λ l n. refl, tt))
  chosen_form (Forms.OptionalDirect true) level parts text row none le trees h = by_each (Forms.Optional true) level (Forms.OptionalDirect true) trees text h refl (λ l n. refl, (λ l n. refl, (λ l n. refl, tt)))
  chosen_form (Forms.OptionalDirect false) level parts text row none le trees h = by_each (Forms.Optional false) level (Forms.OptionalDirect false) trees text h refl (λ l n. refl, (λ l n. refl, tt))
  chosen_form (Forms.InnerDirect true) level parts text row none le trees h = by_each (Forms.Inner true) level (Forms.InnerDirect true) trees text h refl (λ l n. refl, (λ l n. refl, (λ l n. refl, tt)))
  chosen_form (Forms.InnerDirect false) level parts text row none le trees h = by_each (Forms.Inner false) level (Forms.InnerDirect false) trees text h refl (λ l n. refl, (λ l n. refl, tt))
  chosen_form (Forms.DirectNone true) level parts text row none le trees h = by_each (Forms.DirectOptional true) level (Forms.DirectNone true) trees text h refl (λ l n. refl, (λ l n. refl, tt))
  chosen_form (Forms.DirectNone false) level parts text row none le trees h = by_each (Forms.DirectOptional false) level (Forms.DirectNone false) trees text h refl (λ l n. refl, (λ l n. refl, tt))
  chosen_form (Forms.DirectSome true) level parts text row none le trees h = by_each (Forms.DirectOptional true) level (Forms.DirectSome true) trees text h refl (λ l n. refl, (λ l n. refl, (λ l n. refl, tt)))
  chosen_form (Forms.DirectSome false) level parts text row none le trees h = by_each (Forms.DirectOptional false) level (Forms.DirectSome false) trees text h refl (λ l n. refl, (λ l n. refl, tt))
  chosen_form (Forms.BaseStruct true) level parts text row none le trees h = by_token (Forms.Base true NoWord) level (Forms.BaseStruct true) Struct trees text _ _ (λ next. refl)
  chosen_form (Forms.BaseStruct false) level parts text row none le trees h = by_token (Forms.Base false NoWord) level (Forms.BaseStruct false) Struct trees text _ _ (λ next. refl)
  chosen_form (Forms.ParamName true) level parts text row none le trees h = by_token (Forms.ParamDirect true) level (Forms.ParamName true) Name trees text _ _ (λ next. refl)
  chosen_form (Forms.ParamName false) level parts text row none le trees h = absurd (cc row)
  chosen_form (Forms.Storage kind) level parts text row none le trees h = storage_chosen kind level trees text row
  chosen_form (Forms.ItemTyped kind next) level parts text row none le trees h = item_chosen kind next level trees text (are_these_words (Forms.with_word kind NoWord) next row)
  chosen_form (Forms.BaseEnd own words) level parts text row none le trees h = plainly (Forms.Base own words) level (Forms.BaseEnd own words) base_followers trees text h refl (end_each own words row)
  chosen_form (Forms.BaseWord own words kind next) level parts text row none le trees h = word_chosen own words next kind level trees text (are_these_words (Forms.with_word kind words) next row)
  chosen_form (Forms.Single kind) level parts text row none le trees h = single_chosen kind level trees text row
  chosen_form (Forms.Prefix kind operand) level parts text row none le trees h = prefix_chosen kind operand level trees text (is_that_number (prefix_level kind) operand row) le
  chosen_form (Forms.Binary kind right) level parts text row none le trees h = absurd (cc none)
  chosen_form (Forms.Assign kind) level parts text row none le trees h = absurd (cc none)
  chosen_form Forms.Conditional level parts text row none le trees h = absurd (cc none)
  chosen_form Forms.Index level parts text row none le trees h = absurd (cc none)
  chosen_form Forms.Call level parts text row none le trees h = absurd (cc none)
  chosen_form Forms.Member level parts text row none le trees h = absurd (cc none)
  chosen_form Forms.PointerMember level parts text row none le trees h = absurd (cc none)
  chosen_form Forms.PostIncrement level parts text row none le trees h = absurd (cc none)
  chosen_form Forms.PostDecrement level parts text row none le trees h = absurd (cc none)
  chosen_form (Forms.ParamNested named) level parts text row none le (token leaf fits trees) h =
      by_two (Forms.ParamDirect named) level (Forms.ParamNested named) OpenParenthesis (Star ∷ direct_words named) leaf _ 0 1 fits (first_of_row kind_of sample trees text (follows (Forms.ParamDirect named)) h) (nested_pick named level)
  chosen_form (Forms.ParamFunction named) level parts text row none le (token leaf fits trees) h =
      by_two (Forms.ParamDirect named) level (Forms.ParamFunction named) OpenParenthesis (type_words ++ CloseParenthesis ∷ []) leaf _ 0 0 fits (first_of_row kind_of sample trees text (follows (Forms.ParamDirect named)) h) (function_pick named level)
  chosen_form Forms.Parenthesized level parts text row none le (token leaf fits trees) h =
      by_two Forms.Expr level Forms.Parenthesized OpenParenthesis expr_words leaf _ _ _ fits (first_of_row kind_of sample trees text None tt) (parenthesized_pick level)
  chosen_form Forms.Cast level parts text row none le (token leaf fits trees) h =
      by_two Forms.Expr level Forms.Cast OpenParenthesis type_words leaf _ _ _ fits (first_of_row kind_of sample trees text None tt) (cast_pick level le)
  chosen_form Forms.SizeofRow level parts text row none le trees h = by_token Forms.Expr level Forms.SizeofRow Sizeof trees text _ _ (λ next. ap (λ b. take_if b Forms.SizeofRow Never) (le-leb 2 level le))
  chosen_form Forms.SizeofType level parts text row none le (token leaf fits trees) h =
      by_two Forms.SizeofOperand level Forms.SizeofType OpenParenthesis type_words leaf _ 0 0 fits (first_of_row kind_of sample trees text None tt) (λ next e. ap (λ (b : Bool). if b then Take Forms.SizeofType 0 0 else if begins_expr next then Take Forms.SizeofExpr 0 2 else Stuck 0) (inside_if (member type_words next) (is_type_word next) true true (type_word next) e))
  chosen_form Forms.SizeofExpr level parts text row none le (part {tree = tree} tree_is nothing free) h = subst (λ x. Chosen Forms.SizeofOperand level Forms.SizeofExpr (x ++ text)) (sym (append-nil (leaves tree))) (operand_chosen level tree text tree_is)
  chosen_form Forms.NoElse level parts text row none le nothing h = no_else_chosen level text h
  chosen_form Forms.NoLiteral level parts text row none le nothing h = no_literal_chosen level text h
  chosen_form form level parts text row none le trees h = by_token (Forms.sort_of form) level form _ trees text _ _ (λ next. refl)
