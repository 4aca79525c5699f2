-- The rows that are chosen make trees of the sort and level that is asked for, and their least heights are right.
use Rattle.std.proofs.Common.{◌≡◌, ℕ, ◌≤◌, ◌⊎◌, inl, inr, Bool, true, false, ◌&&◌, ◌||◌, if◌then◌else◌, Option, Some, None, nat_le, refl, ◌∙◌, ap, subst, arith, eq-eqb}
use Rattle.std.proofs.lemmas.Bool.{leb-true, eqb-true, and_from}
use Rattle.c_grammar.specs.Table.{Choice, Never, Take, Stuck}
use Rattle.c_grammar.specs.declared.kind.Kind.{Kind}
use Rattle.c_grammar.specs.declared.kind.Kind.TheVariants.{Name, Literal, End, Const, Struct, Static, Extern, Sizeof, If, Else, While, Do, For, Switch, Case, Default, Break, Continue, Return, OpenParenthesis, CloseParenthesis, OpenBrace, CloseBrace, OpenBracket, Semicolon, Comma, Star, Equal}
use Rattle.c_grammar.specs.Kinds.{is_type_word, prefix_level, is_single, is}
use Rattle.c_grammar.specs.Forms
use Rattle.c_grammar.specs.Chooses.{take_if, begins_expr, begins_declarator, begins_direct, begins_item, begins_stmt, stmt_of, by_stmt, is_start, by_word, by_item, by_prefix, choose_expr, choose_nested, choose_operand, choose_by}
use Rattle.c_grammar.specs.declared.words.Sign.TheVariants.{NoSign, IsSigned, IsUnsigned}
use Rattle.c_grammar.specs.declared.words.Sign.{Sign}
use Rattle.c_grammar.specs.declared.words.Size.TheVariants.{NoSize, CharSize, ShortSize, LongSize}
use Rattle.c_grammar.specs.declared.words.Size.{Size}
use Rattle.c_grammar.specs.declared.words.Words.TheVariants.{NoWord, FullType, Integers}
use Rattle.c_grammar.specs.declared.words.Words.{Words}

pub and_left : (a b : Bool) → (a && b) ≡ true → a ≡ true
and_left true b e = refl
and_left false b e = e

pub and_right : (a b : Bool) → (a && b) ≡ true → b ≡ true
and_right true b e = e
and_right false b e = cc e

pub both : {a b : Bool} → a ≡ true → b ≡ true → (a && b) ≡ true
both {a = a} {b = b} e e' = and_from a b e e'

-- The tests of a row hold of the row that was told, and of no other.
same_sign_self : (sign : Sign) → Forms.same_sign sign sign ≡ true
same_sign_self NoSign = refl
same_sign_self IsSigned = refl
same_sign_self IsUnsigned = refl

same_size_self : (size : Size) → Forms.same_size size size ≡ true
same_size_self NoSize = refl
same_size_self CharSize = refl
same_size_self ShortSize = refl
same_size_self LongSize = refl

same_truth_self : (b : Bool) → Forms.same_truth b b ≡ true
same_truth_self true = refl
same_truth_self false = refl

same_words_self : (words : Words) → Forms.same_words words words ≡ true
same_words_self NoWord = refl
same_words_self FullType = refl
same_words_self (Integers sign size has_int) = and_from (Forms.same_sign sign sign) (Forms.same_size size size && Forms.same_truth has_int has_int) (same_sign_self sign) (and_from (Forms.same_size size size) (Forms.same_truth has_int has_int) (same_size_self size) (same_truth_self has_int))

pub these_words : {found : Option Words} {words : Words} → found ≡ Some words → Forms.is_these_words found words ≡ true
these_words {words = words} e = ap (λ x. Forms.is_these_words x words) e ∙ same_words_self words

pub this_number : {found : Option ℕ} {n : ℕ} → found ≡ Some n → Forms.is_this_number found n ≡ true
this_number {n = n} e = ap (λ x. Forms.is_this_number x n) e ∙ eq-eqb n n refl

same_sign_is : (a b : Sign) → Forms.same_sign a b ≡ true → a ≡ b
same_sign_is NoSign NoSign e = refl
same_sign_is IsSigned IsSigned e = refl
same_sign_is IsUnsigned IsUnsigned e = refl
same_sign_is _ _ e = cc e

same_size_is : (a b : Size) → Forms.same_size a b ≡ true → a ≡ b
same_size_is NoSize NoSize e = refl
same_size_is CharSize CharSize e = refl
same_size_is ShortSize ShortSize e = refl
same_size_is LongSize LongSize e = refl
same_size_is _ _ e = cc e

same_truth_is : (a b : Bool) → Forms.same_truth a b ≡ true → a ≡ b
same_truth_is true true e = refl
same_truth_is false false e = refl
same_truth_is _ _ e = cc e

same_words_is : (a b : Words) → Forms.same_words a b ≡ true → a ≡ b
same_words_is NoWord NoWord e = refl
same_words_is FullType FullType e = refl
same_words_is (Integers sign size has_int) (Integers sign' size' has_int') e =
    let others = and_right (Forms.same_sign sign sign') (Forms.same_size size size' && Forms.same_truth has_int has_int') e in
    let sign_is = same_sign_is sign sign' (and_left (Forms.same_sign sign sign') (Forms.same_size size size' && Forms.same_truth has_int has_int') e) in
    let size_is = same_size_is size size' (and_left (Forms.same_size size size') (Forms.same_truth has_int has_int') others) in
    let has_int_is = same_truth_is has_int has_int' (and_right (Forms.same_size size size') (Forms.same_truth has_int has_int') others) in
    ap (λ x. Integers x size has_int) sign_is ∙ ap (λ x. Integers sign' x has_int) size_is ∙ ap (λ x. Integers sign' size' x) has_int_is
same_words_is _ _ e = cc e

pub are_these_words : (found : Option Words) (words : Words) → Forms.is_these_words found words ≡ true → found ≡ Some words
are_these_words None words e = cc e
are_these_words (Some words') words e = ap Some (same_words_is words' words e)

pub is_that_number : (found : Option ℕ) (n : ℕ) → Forms.is_this_number found n ≡ true → found ≡ Some n
is_that_number None n e = cc e
is_that_number (Some n') n e = ap Some (eqb-true n' n e)

pub data AllRows (P : Forms.Production → ℕ → ℕ → Type 0) : Choice Forms.Production → Type 0 where
  never : AllRows P Never
  taken : {form : Forms.Production} {first second : ℕ} → P form first second → AllRows P (Take form first second)
  stuck : (first : ℕ) → AllRows P (Stuck first)

-- the operand of `sizeof` behind a parenthesis that opens no type
pub record OperandAt (kind : Kind) (form : Forms.Production) (second : ℕ) : Type 0 where
  pub own_form : form ≡ Forms.SizeofExpr
  pub two : second ≡ 2
  pub opens : is kind OpenParenthesis ≡ true

pub record Good (sort : Forms.Sort) (level : ℕ) (kind : Kind) (form : Forms.Production) (first second : ℕ) : Type 0 where
  pub own_sort : Forms.sort_of form ≡ sort
  pub own_row : Forms.is_row form ≡ true
  pub own_left : Forms.left_of form ≡ None
  pub own_level : Forms.level_of_form form ≤ level
  pub ordered : first ≤ second
  pub enough : Forms.row_need form ≤ second
  pub least : (second ≤ Forms.row_need form) ⊎ OperandAt kind form second

plain : {sort : Forms.Sort} {level : ℕ} {kind : Kind} {form : Forms.Production} → Forms.sort_of form ≡ sort → Forms.is_row form ≡ true → Forms.left_of form ≡ None → Forms.level_of_form form ≡ 0 → Good sort level kind form (Forms.row_need form) (Forms.row_need form)
plain own_sort own_row own_left zero = record { own_sort = own_sort; own_row = own_row; own_left = own_left; own_level = omega (arith, zero); ordered = omega arith; enough = omega arith; least = inl (omega arith) }

at : {sort : Forms.Sort} {level : ℕ} {kind : Kind} {form : Forms.Production} → Forms.sort_of form ≡ sort → Forms.is_row form ≡ true → Forms.left_of form ≡ None → Forms.level_of_form form ≤ level → Good sort level kind form (Forms.row_need form) (Forms.row_need form)
at own_sort own_row own_left le = record { own_sort = own_sort; own_row = own_row; own_left = own_left; own_level = le; ordered = omega arith; enough = omega arith; least = inl (omega arith) }

pub either : {P : Forms.Production → ℕ → ℕ → Type 0} (test : Bool) (form : Forms.Production) {otherwise : Choice Forms.Production} → P form (Forms.row_need form) (Forms.row_need form) → AllRows P otherwise → AllRows P (take_if test form otherwise)
either true form h others = taken h
either false form h others = others

pub tested : {P : Forms.Production → ℕ → ℕ → Type 0} (test : Bool) (form : Forms.Production) {otherwise : Choice Forms.Production} → (test ≡ true → P form (Forms.row_need form) (Forms.row_need form)) → AllRows P otherwise → AllRows P (take_if test form otherwise)
tested true form h others = taken (h refl)
tested false form h others = others

pub branch : {P : Forms.Production → ℕ → ℕ → Type 0} (test : Bool) {one other : Choice Forms.Production} → AllRows P one → AllRows P other → AllRows P (if test then one else other)
branch true h h' = h
branch false h h' = h'

pub branch_tested : {P : Forms.Production → ℕ → ℕ → Type 0} (test : Bool) {one other : Choice Forms.Production} → (test ≡ true → AllRows P one) → AllRows P other → AllRows P (if test then one else other)
branch_tested true h h' = h refl
branch_tested false h h' = h'

good_stmt : (level : ℕ) (kind : Kind) → AllRows (Good Forms.Stmt level kind) (by_stmt kind (stmt_of kind))
good_stmt level OpenBrace = taken (plain refl refl refl refl)
good_stmt level Semicolon = taken (plain refl refl refl refl)
good_stmt level If = taken (plain refl refl refl refl)
good_stmt level While = taken (plain refl refl refl refl)
good_stmt level Do = taken (plain refl refl refl refl)
good_stmt level For = taken (plain refl refl refl refl)
good_stmt level Switch = taken (plain refl refl refl refl)
good_stmt level Break = taken (plain refl refl refl refl)
good_stmt level Continue = taken (plain refl refl refl refl)
good_stmt level Return = taken (plain refl refl refl refl)
good_stmt level kind = either (begins_expr kind) Forms.Expression (plain refl refl refl refl) never

good_struct : (own : Bool) (words : Words) (level : ℕ) (kind : Kind) → is_start words ≡ true → Good (Forms.Base own words) level kind (Forms.BaseStruct own) (Forms.row_need (Forms.BaseStruct own)) (Forms.row_need (Forms.BaseStruct own))
good_struct own NoWord level kind e = plain refl refl refl refl
good_struct own FullType level kind e = cc e
good_struct own (Integers sign size has_int) level kind e = cc e

good_word : (own : Bool) (words : Words) (level : ℕ) (kind : Kind) (next : Option Words) → Forms.with_word kind words ≡ next → AllRows (Good (Forms.Base own words) level kind) (by_word own words kind next)
good_word own words level kind (Some next) e = taken (plain refl (these_words e) refl refl)
good_word own words level kind None e = tested (Forms.is_type words) (Forms.BaseEnd own words) (λ named. plain refl named refl refl) never

good_item : (level : ℕ) (kind : Kind) (next : Option Words) → Forms.with_word kind NoWord ≡ next → AllRows (Good Forms.Item level kind) (by_item kind next)
good_item level kind (Some next) e = taken (plain refl (these_words e) refl refl)
good_item level kind None e = never

good_prefix : (level : ℕ) (kind : Kind) (operand : Option ℕ) → prefix_level kind ≡ operand → AllRows (Good Forms.Expr level kind) (by_prefix level kind operand Never)
good_prefix level kind (Some operand) own = tested (nat_le 2 level) (Forms.Prefix kind operand) (λ e. at refl (this_number own) refl (leb-true 2 level e)) never
good_prefix level kind None own = never

good_expr : (level : ℕ) (kind next : Kind) → AllRows (Good Forms.Expr level kind) (choose_expr level kind next)
good_expr level kind next =
    tested (is_single kind) (Forms.Single kind) (λ e. plain refl e refl refl)
    (either (is kind Literal) Forms.Text (plain refl refl refl refl)
    (tested (is kind OpenParenthesis && (nat_le 3 level && is_type_word next)) Forms.Cast (λ e. at refl refl refl (leb-true 3 level (and_left (nat_le 3 level) (is_type_word next) (and_right (is kind OpenParenthesis) (nat_le 3 level && is_type_word next) e))))
    (either (is kind OpenParenthesis) Forms.Parenthesized (plain refl refl refl refl)
    (tested (is kind Sizeof && nat_le 2 level) Forms.SizeofRow (λ e. at refl refl refl (leb-true 2 level (and_right (is kind Sizeof) (nat_le 2 level) e)))
    (good_prefix level kind (prefix_level kind) refl)))))

good_nested : (named : Bool) (level : ℕ) (kind next : Kind) → AllRows (Good (Forms.ParamDirect named) level kind) (choose_nested named next)
good_nested named level kind next =
    branch (is next CloseParenthesis || is_type_word next) (taken (record { own_sort = refl; own_row = refl; own_left = refl; own_level = omega arith; ordered = omega arith; enough = omega arith; least = inl (omega arith) }))
    (branch (is next Star || begins_direct named next) (taken (record { own_sort = refl; own_row = refl; own_left = refl; own_level = omega arith; ordered = omega arith; enough = omega arith; least = inl (omega arith) })) (stuck 0))

good_operand : (level : ℕ) (kind next : Kind) → is kind OpenParenthesis ≡ true → AllRows (Good Forms.SizeofOperand level kind) (choose_operand next)
good_operand level kind next opens =
    branch (is_type_word next) (taken (record { own_sort = refl; own_row = refl; own_left = refl; own_level = omega arith; ordered = omega arith; enough = omega arith; least = inl (omega arith) }))
    (branch (begins_expr next) (taken (record { own_sort = refl; own_row = refl; own_left = refl; own_level = omega arith; ordered = omega arith; enough = omega arith; least = inr (record { own_form = refl; two = refl; opens = opens }) })) (stuck 0))

pub good_by : (sort : Forms.Sort) (level : ℕ) (kind next : Kind) → AllRows (Good sort level kind) (choose_by sort level kind next)
good_by Forms.Program level kind next = either (is kind End || begins_item kind) Forms.WholeProgram (plain refl refl refl refl) never
good_by Forms.Items level kind next = either (begins_item kind) Forms.OneItem (plain refl refl refl refl) (taken (plain refl refl refl refl))
good_by Forms.Item level kind next = tested (is kind Static || is kind Extern) (Forms.Storage kind) (λ e. plain refl e refl refl) (either (is kind Struct) Forms.ItemStruct (plain refl refl refl refl) (good_item level kind (Forms.with_word kind NoWord) refl))
good_by Forms.StructTail level kind next = either (is kind Semicolon) Forms.TailAlone (plain refl refl refl refl) (either (is kind Const || begins_declarator kind) Forms.TailTyped (plain refl refl refl refl) never)
good_by Forms.Declared level kind next = either (begins_declarator kind) Forms.DeclaredRow (plain refl refl refl refl) never
good_by Forms.AfterDeclarator level kind next = either (is kind OpenBrace) Forms.FunctionBody (plain refl refl refl refl) (either (is kind Equal || is kind Comma || is kind Semicolon) Forms.DeclaredValues (plain refl refl refl refl) never)
good_by Forms.MembersOpt level kind next = either (is kind OpenBrace) Forms.Members (plain refl refl refl refl) (taken (plain refl refl refl refl))
good_by Forms.MemberSort level kind next = either (is_type_word kind) Forms.MemberRow (plain refl refl refl refl) never
good_by Forms.MembersMore level kind next = either (is kind CloseBrace) Forms.MembersEnd (plain refl refl refl refl) (either (is_type_word kind) Forms.MembersNext (plain refl refl refl refl) never)
good_by Forms.MemberMore level kind next = either (is kind Semicolon) Forms.MemberEnd (plain refl refl refl refl) (either (is kind Comma) Forms.MemberNext (plain refl refl refl refl) never)
good_by Forms.FirstValue level kind next = either (is kind Equal) Forms.Value (plain refl refl refl refl) (taken (plain refl refl refl refl))
good_by Forms.DeclaratorsMore level kind next = either (is kind Semicolon) Forms.DeclarationEnd (plain refl refl refl refl) (either (is kind Comma) Forms.DeclarationNext (plain refl refl refl refl) never)
good_by Forms.Init level kind next = either (is kind OpenBrace) Forms.InitList (plain refl refl refl refl) (either (begins_expr kind) Forms.InitValue (plain refl refl refl refl) never)
good_by Forms.InitMore level kind next = either (is kind CloseBrace) Forms.InitEnd (plain refl refl refl refl) (either (is kind Comma) Forms.InitComma (plain refl refl refl refl) never)
good_by Forms.InitNext level kind next = either (is kind CloseBrace) Forms.InitClose (plain refl refl refl refl) (either (is kind OpenBrace || begins_expr kind) Forms.InitOther (plain refl refl refl refl) never)
good_by Forms.Declarator level kind next = either (begins_declarator kind) Forms.DeclaratorRow (plain refl refl refl refl) never
good_by Forms.Stars level kind next = either (is kind Star) Forms.StarFirst (plain refl refl refl refl) (taken (plain refl refl refl refl))
good_by Forms.AfterStar level kind next = either (is kind Star) Forms.StarNext (plain refl refl refl refl) (either (is kind Const) Forms.StarConst (plain refl refl refl refl) (taken (plain refl refl refl refl)))
good_by Forms.Direct level kind next = either (is kind Name) Forms.DirectName (plain refl refl refl refl) (either (is kind OpenParenthesis) Forms.DirectNested (plain refl refl refl refl) never)
good_by Forms.Suffixes level kind next = either (is kind OpenBracket) Forms.Array (plain refl refl refl refl) (either (is kind OpenParenthesis) Forms.Function (plain refl refl refl refl) (taken (plain refl refl refl refl)))
good_by Forms.Length level kind next = either (begins_expr kind) Forms.LengthRow (plain refl refl refl refl) (taken (plain refl refl refl refl))
good_by Forms.Params level kind next = either (is_type_word kind) Forms.OneParam (plain refl refl refl refl) (taken (plain refl refl refl refl))
good_by Forms.ParamsMore level kind next = either (is kind Comma) Forms.ParamsNext (plain refl refl refl refl) (taken (plain refl refl refl refl))
good_by Forms.Param level kind next = either (is_type_word kind) Forms.ParamRow (plain refl refl refl refl) never
good_by Forms.Type_name level kind next = either (is_type_word kind) Forms.TypeRow (plain refl refl refl refl) never
good_by (Forms.Optional named) level kind next = either (is kind Star) (Forms.OptionalPointer named) (plain refl refl refl refl) (either (begins_direct named kind) (Forms.OptionalDirect named) (plain refl refl refl refl) (taken (plain refl refl refl refl)))
good_by (Forms.Inner named) level kind next = either (is kind Star) (Forms.InnerPointer named) (plain refl refl refl refl) (either (begins_direct named kind) (Forms.InnerDirect named) (plain refl refl refl refl) never)
good_by (Forms.DirectOptional named) level kind next = either (begins_direct named kind) (Forms.DirectSome named) (plain refl refl refl refl) (taken (plain refl refl refl refl))
good_by Forms.Body level kind next = either (is kind OpenBrace) Forms.BodyRow (plain refl refl refl refl) never
good_by Forms.BlockItems level kind next = either (is kind CloseBrace) Forms.BlockEnd (plain refl refl refl refl) (either (is_type_word kind) Forms.BlockDeclaration (plain refl refl refl refl) (either (begins_stmt kind) Forms.BlockStatement (plain refl refl refl refl) never))
good_by Forms.Declaration level kind next = either (is_type_word kind) Forms.DeclarationRow (plain refl refl refl refl) never
good_by Forms.ElseOpt level kind next = either (is kind Else) Forms.ElseRow (plain refl refl refl refl) (taken (plain refl refl refl refl))
good_by Forms.ForFirst level kind next = either (is_type_word kind) Forms.ForDeclaration (plain refl refl refl refl) (either (is kind Semicolon) Forms.ForEmpty (plain refl refl refl refl) (either (begins_expr kind) Forms.ForExpression (plain refl refl refl refl) never))
good_by Forms.ExprOpt level kind next = either (begins_expr kind) Forms.SomeExpr (plain refl refl refl refl) (taken (plain refl refl refl refl))
good_by Forms.SwitchItems level kind next = either (is kind CloseBrace) Forms.SwitchEnd (plain refl refl refl refl) (either (is kind Case) Forms.CaseRow (plain refl refl refl refl) (either (is kind Default) Forms.DefaultRow (plain refl refl refl refl) (either (begins_stmt kind) Forms.SwitchStatement (plain refl refl refl refl) never)))
good_by Forms.ReturnValue level kind next = either (is kind Semicolon) Forms.ReturnNothing (plain refl refl refl refl) (either (begins_expr kind) Forms.ReturnExpr (plain refl refl refl refl) never)
good_by Forms.Literals level kind next = either (is kind Literal) Forms.MoreLiteral (plain refl refl refl refl) (taken (plain refl refl refl refl))
good_by Forms.Arguments level kind next = either (begins_expr kind) Forms.OneArgument (plain refl refl refl refl) (taken (plain refl refl refl refl))
good_by Forms.ArgumentsMore level kind next = either (is kind Comma) Forms.ArgumentsNext (plain refl refl refl refl) (taken (plain refl refl refl refl))
good_by (Forms.Base own words) level kind next = tested (is kind Struct && is_start words) (Forms.BaseStruct own) (λ e. good_struct own words level kind (and_right (is kind Struct) (is_start words) e)) (good_word own words level kind (Forms.with_word kind words) refl)
good_by (Forms.ParamDirect named) level kind next = branch (is kind OpenParenthesis) (good_nested named level kind next) (either (is kind OpenBracket) (Forms.ParamArray named) (plain refl refl refl refl) (tested (named && is kind Name) (Forms.ParamName named) (λ e. plain refl (and_left named (is kind Name) e) refl refl) never))
good_by Forms.Stmt level kind next = good_stmt level kind
good_by Forms.Expr level kind next = good_expr level kind next
good_by Forms.SizeofOperand level kind next = branch_tested (is kind OpenParenthesis) (good_operand level kind next) (either (begins_expr kind) Forms.SizeofExpr (plain refl refl refl refl) never)

-- what a row that is chosen has
pub good_row : {P : Forms.Production → ℕ → ℕ → Type 0} {choice : Choice Forms.Production} → AllRows P choice → (form : Forms.Production) (first second : ℕ) → choice ≡ Take form first second → P form first second
good_row never form first second e = absurd (cc e)
good_row (stuck n) form first second e = absurd (cc e)
good_row {P = P} (taken {form = form'} {first = first'} {second = second'} h) form first second e =
    let same_form : form' ≡ form = cc e in
    let same_first : first' ≡ first = cc e in
    let same_second : second' ≡ second = cc e in
    subst (λ f. P f first second) same_form (subst (λ a. P form' a second) same_first (subst (λ b. P form' first' b) same_second h))
