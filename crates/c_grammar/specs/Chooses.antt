-- How a reader chooses the rows of the grammar: by one word ahead, and by two behind a parenthesis that opens a type or
-- an expression, parameters or a declarator.
use Rattle.std.specs.Prelude.{ℕ, ◌+◌, is_some, Bool, true, false, ◌&&◌, ◌||◌, if◌then◌else◌, Option, Some, None, nat_le}
use Rattle.c_grammar.specs.Table.{Choice, Never, Take, Stuck}
use Rattle.c_grammar.specs.declared.kind.Kind.{Kind}
use Rattle.c_grammar.specs.declared.kind.Kind.TheVariants.{Name, Integer, Character, Literal, End, Const, Struct, Static, Extern, Sizeof, Null, EndOfFile, If, Else, While, Do, For, Switch, Case, Default, Break, Continue, Return, OpenParenthesis, CloseParenthesis, OpenBrace, CloseBrace, OpenBracket, Semicolon, Comma, Question, Dot, Arrow, PlusPlus, MinusMinus, Star, Ampersand, Plus, Minus, Tilde, Exclamation, Equal}
use Rattle.c_grammar.specs.Kinds.{is_type_word, prefix_level, binary_right, is_assignment, is_single, is}
use Rattle.c_grammar.specs.Forms
use Rattle.c_grammar.specs.declared.words.Words.TheVariants.{NoWord, FullType, Integers}
use Rattle.c_grammar.specs.declared.words.Words.{Words}

abbrev pub take : Forms.Production → Choice Forms.Production
take form = Take form (Forms.row_need form) (Forms.row_need form)

abbrev pub take_if : Bool → Forms.Production → Choice Forms.Production → Choice Forms.Production
take_if true form otherwise = take form
take_if false form otherwise = otherwise

-- What begins an expression?
abbrev pub begins_expr : Kind → Bool
begins_expr Name = true
begins_expr Integer = true
begins_expr Character = true
begins_expr Literal = true
begins_expr Null = true
begins_expr EndOfFile = true
begins_expr OpenParenthesis = true
begins_expr Sizeof = true
begins_expr PlusPlus = true
begins_expr MinusMinus = true
begins_expr Star = true
begins_expr Ampersand = true
begins_expr Plus = true
begins_expr Minus = true
begins_expr Tilde = true
begins_expr Exclamation = true
begins_expr _ = false

-- What begins a declarator, and one that may lack its name behind its stars?
abbrev pub begins_declarator : Kind → Bool
begins_declarator kind = is kind Star || is kind Name || is kind OpenParenthesis

abbrev pub begins_direct : Bool → Kind → Bool
begins_direct named kind = (named && is kind Name) || is kind OpenParenthesis || is kind OpenBracket

abbrev pub begins_item : Kind → Bool
begins_item kind = is kind Static || is kind Extern || is_type_word kind

-- a statement that its first word tells
abbrev pub stmt_of : Kind → Option Forms.Production
stmt_of OpenBrace = Some Forms.Block
stmt_of Semicolon = Some Forms.Empty
stmt_of If = Some Forms.IfRow
stmt_of While = Some Forms.WhileRow
stmt_of Do = Some Forms.DoRow
stmt_of For = Some Forms.ForRow
stmt_of Switch = Some Forms.SwitchRow
stmt_of Break = Some Forms.BreakRow
stmt_of Continue = Some Forms.ContinueRow
stmt_of Return = Some Forms.ReturnRow
stmt_of _ = None

abbrev pub by_stmt : Kind → Option Forms.Production → Choice Forms.Production
by_stmt kind (Some form) = take form
by_stmt kind None = take_if (begins_expr kind) Forms.Expression Never

abbrev pub begins_stmt : Kind → Bool
begins_stmt kind = is_some (stmt_of kind) || begins_expr kind

abbrev pub is_start : Words → Bool
is_start NoWord = true
is_start FullType = false
is_start (Integers sign size has_int) = false

abbrev pub by_word : Bool → Words → Kind → Option Words → Choice Forms.Production
by_word own words kind (Some next) = take (Forms.BaseWord own words kind next)
by_word own words kind None = take_if (Forms.is_type words) (Forms.BaseEnd own words) Never

-- an item that begins with the first word of its type
abbrev pub by_item : Kind → Option Words → Choice Forms.Production
by_item kind (Some next) = take (Forms.ItemTyped kind next)
by_item kind None = Never

abbrev pub by_prefix : ℕ → Kind → Option ℕ → Choice Forms.Production → Choice Forms.Production
by_prefix level kind (Some operand) otherwise = take_if (nat_le 2 level) (Forms.Prefix kind operand) otherwise
by_prefix level kind None otherwise = otherwise

-- an expression
abbrev pub choose_expr : ℕ → Kind → Kind → Choice Forms.Production
choose_expr level kind next =
    take_if (is_single kind) (Forms.Single kind)
    (take_if (is kind Literal) Forms.Text
    (take_if (is kind OpenParenthesis && (nat_le 3 level && is_type_word next)) Forms.Cast
    (take_if (is kind OpenParenthesis) Forms.Parenthesized
    (take_if (is kind Sizeof && nat_le 2 level) Forms.SizeofRow
    (by_prefix level kind (prefix_level kind) Never)))))

-- what stands behind `(` in a declarator that may lack its name: parameters, which may be none, or a declarator
abbrev pub choose_nested : Bool → Kind → Choice Forms.Production
choose_nested named next =
    if is next CloseParenthesis || is_type_word next then Take (Forms.ParamFunction named) 0 0
    else if is next Star || begins_direct named next then Take (Forms.ParamNested named) 0 1
    else Stuck 0

-- The operand of `sizeof`: behind `(` a type, which counts for nothing, or an expression in parentheses.
abbrev pub choose_operand : Kind → Choice Forms.Production
choose_operand next =
    if is_type_word next then Take Forms.SizeofType 0 0
    else if begins_expr next then Take Forms.SizeofExpr 0 2
    else Stuck 0

abbrev pub choose_by : Forms.Sort → ℕ → Kind → Kind → Choice Forms.Production
choose_by Forms.Program level kind next = take_if (is kind End || begins_item kind) Forms.WholeProgram Never
choose_by Forms.Items level kind next = take_if (begins_item kind) Forms.OneItem (take Forms.NoItem)
choose_by Forms.Item level kind next = take_if (is kind Static || is kind Extern) (Forms.Storage kind) (take_if (is kind Struct) Forms.ItemStruct (by_item kind (Forms.with_word kind NoWord)))
choose_by Forms.StructTail level kind next = take_if (is kind Semicolon) Forms.TailAlone (take_if (is kind Const || begins_declarator kind) Forms.TailTyped Never)
choose_by Forms.Declared level kind next = take_if (begins_declarator kind) Forms.DeclaredRow Never
choose_by Forms.AfterDeclarator level kind next = take_if (is kind OpenBrace) Forms.FunctionBody (take_if (is kind Equal || is kind Comma || is kind Semicolon) Forms.DeclaredValues Never)
choose_by Forms.MembersOpt level kind next = take_if (is kind OpenBrace) Forms.Members (take Forms.NoMembers)
choose_by Forms.MemberSort level kind next = take_if (is_type_word kind) Forms.MemberRow Never
choose_by Forms.MembersMore level kind next = take_if (is kind CloseBrace) Forms.MembersEnd (take_if (is_type_word kind) Forms.MembersNext Never)
choose_by Forms.MemberMore level kind next = take_if (is kind Semicolon) Forms.MemberEnd (take_if (is kind Comma) Forms.MemberNext Never)
choose_by (Forms.Base own words) level kind next = take_if (is kind Struct && is_start words) (Forms.BaseStruct own) (by_word own words kind (Forms.with_word kind words))
choose_by Forms.FirstValue level kind next = take_if (is kind Equal) Forms.Value (take Forms.NoValue)
choose_by Forms.DeclaratorsMore level kind next = take_if (is kind Semicolon) Forms.DeclarationEnd (take_if (is kind Comma) Forms.DeclarationNext Never)
choose_by Forms.Init level kind next = take_if (is kind OpenBrace) Forms.InitList (take_if (begins_expr kind) Forms.InitValue Never)
choose_by Forms.InitMore level kind next = take_if (is kind CloseBrace) Forms.InitEnd (take_if (is kind Comma) Forms.InitComma Never)
choose_by Forms.InitNext level kind next = take_if (is kind CloseBrace) Forms.InitClose (take_if (is kind OpenBrace || begins_expr kind) Forms.InitOther Never)
choose_by Forms.Declarator level kind next = take_if (begins_declarator kind) Forms.DeclaratorRow Never
choose_by Forms.Stars level kind next = take_if (is kind Star) Forms.StarFirst (take Forms.NoStar)
choose_by Forms.AfterStar level kind next = take_if (is kind Star) Forms.StarNext (take_if (is kind Const) Forms.StarConst (take Forms.StarEnd))
choose_by Forms.Direct level kind next = take_if (is kind Name) Forms.DirectName (take_if (is kind OpenParenthesis) Forms.DirectNested Never)
choose_by Forms.Suffixes level kind next = take_if (is kind OpenBracket) Forms.Array (take_if (is kind OpenParenthesis) Forms.Function (take Forms.NoSuffix))
choose_by Forms.Length level kind next = take_if (begins_expr kind) Forms.LengthRow (take Forms.NoLength)
choose_by Forms.Params level kind next = take_if (is_type_word kind) Forms.OneParam (take Forms.NoParam)
choose_by Forms.ParamsMore level kind next = take_if (is kind Comma) Forms.ParamsNext (take Forms.ParamsEnd)
choose_by Forms.Param level kind next = take_if (is_type_word kind) Forms.ParamRow Never
choose_by Forms.Type_name level kind next = take_if (is_type_word kind) Forms.TypeRow Never
choose_by (Forms.Optional named) level kind next = take_if (is kind Star) (Forms.OptionalPointer named) (take_if (begins_direct named kind) (Forms.OptionalDirect named) (take (Forms.OptionalNone named)))
choose_by (Forms.Inner named) level kind next = take_if (is kind Star) (Forms.InnerPointer named) (take_if (begins_direct named kind) (Forms.InnerDirect named) Never)
choose_by (Forms.DirectOptional named) level kind next = take_if (begins_direct named kind) (Forms.DirectSome named) (take (Forms.DirectNone named))
choose_by (Forms.ParamDirect named) level kind next = if is kind OpenParenthesis then choose_nested named next else take_if (is kind OpenBracket) (Forms.ParamArray named) (take_if (named && is kind Name) (Forms.ParamName named) Never)
choose_by Forms.Stmt level kind next = by_stmt kind (stmt_of kind)
choose_by Forms.Body level kind next = take_if (is kind OpenBrace) Forms.BodyRow Never
choose_by Forms.BlockItems level kind next = take_if (is kind CloseBrace) Forms.BlockEnd (take_if (is_type_word kind) Forms.BlockDeclaration (take_if (begins_stmt kind) Forms.BlockStatement Never))
choose_by Forms.Declaration level kind next = take_if (is_type_word kind) Forms.DeclarationRow Never
choose_by Forms.ElseOpt level kind next = take_if (is kind Else) Forms.ElseRow (take Forms.NoElse)
choose_by Forms.ForFirst level kind next = take_if (is_type_word kind) Forms.ForDeclaration (take_if (is kind Semicolon) Forms.ForEmpty (take_if (begins_expr kind) Forms.ForExpression Never))
choose_by Forms.ExprOpt level kind next = take_if (begins_expr kind) Forms.SomeExpr (take Forms.NoExpr)
choose_by Forms.SwitchItems level kind next = take_if (is kind CloseBrace) Forms.SwitchEnd (take_if (is kind Case) Forms.CaseRow (take_if (is kind Default) Forms.DefaultRow (take_if (begins_stmt kind) Forms.SwitchStatement Never)))
choose_by Forms.ReturnValue level kind next = take_if (is kind Semicolon) Forms.ReturnNothing (take_if (begins_expr kind) Forms.ReturnExpr Never)
choose_by Forms.Expr level kind next = choose_expr level kind next
choose_by Forms.Literals level kind next = take_if (is kind Literal) Forms.MoreLiteral (take Forms.NoLiteral)
choose_by Forms.Arguments level kind next = take_if (begins_expr kind) Forms.OneArgument (take Forms.NoArgument)
choose_by Forms.ArgumentsMore level kind next = take_if (is kind Comma) Forms.ArgumentsNext (take Forms.ArgumentsEnd)
choose_by Forms.SizeofOperand level kind next = if is kind OpenParenthesis then choose_operand next else take_if (begins_expr kind) Forms.SizeofExpr Never

-- Where a tree of an expression, of its own level, goes on with a token, in an expression of a level.
abbrev pub goes_if : Bool → Forms.Production → Option Forms.Production → Option Forms.Production
goes_if true form otherwise = Some form
goes_if false form otherwise = otherwise

abbrev pub by_binary : ℕ → ℕ → Kind → Option ℕ → Option Forms.Production
by_binary level own kind (Some right) = goes_if (nat_le own (right + 1) && nat_le (right + 1) level) (Forms.Binary kind right) None
by_binary level own kind None = None

-- behind a postfix expression (C17 6.5.2)
abbrev pub postfix_of : Kind → Option Forms.Production
postfix_of OpenBracket = Some Forms.Index
postfix_of OpenParenthesis = Some Forms.Call
postfix_of Dot = Some Forms.Member
postfix_of Arrow = Some Forms.PointerMember
postfix_of PlusPlus = Some Forms.PostIncrement
postfix_of MinusMinus = Some Forms.PostDecrement
postfix_of _ = None

abbrev pub by_postfix : ℕ → ℕ → Kind → Option Forms.Production → Option Forms.Production
by_postfix level own kind (Some form) = goes_if (nat_le own 1 && nat_le 1 level) form None
by_postfix level own kind None =
    goes_if (is_assignment kind && (nat_le own 2 && nat_le 15 level)) (Forms.Assign kind)
    (goes_if (is kind Question && (nat_le own 13 && nat_le 14 level)) Forms.Conditional (by_binary level own kind (binary_right kind)))

abbrev pub goes_on_by : Forms.Sort → ℕ → ℕ → Kind → Option Forms.Production
goes_on_by Forms.Expr level own kind = by_postfix level own kind (postfix_of kind)
goes_on_by _ level own kind = None
