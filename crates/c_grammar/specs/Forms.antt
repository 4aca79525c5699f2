-- The productions of the grammar, each a row of its table.
--
--   program    = item*
--   item       = ("static"|"extern")* (sbase ";" | base inits ";" | base declarator block)
--   sbase      = "struct" NAME [ "{" member+ "}" ]
--   base       = the words of one integer type in any order | "void" | "struct" NAME | an item's own also sbase;
--                "const" anywhere among them
--   member     = base declarator ("," declarator)* ";"
--   inits      = declarator ["=" init] ("," declarator ["=" init])*
--   init       = assign | "{" init ("," init)* [","] "}"
--   declarator = ("*" "const"*)* (NAME | "(" declarator ")") suffix*
--   suffix     = "[" [cond] "]" | "(" params ")"
--   params     = [param ("," param)*]
--   param      = base [declarator | abstract]
--   abstract   = a declarator without its NAME;  type = base [abstract]
--
-- and the statements and expressions of C17 6.8 and 6.5 without labels, `goto` and the comma operator. What may be left
-- out, and what stands any number of times, are sorts of their own, whose rows are chosen by their first token.
use Rattle.std.specs.Prelude.{ℕ, ◌+◌, max, Bool, true, false, ◌&&◌, ◌||◌, ◌==◌, List, [], ◌∷◌, Option, Some, None}
use Rattle.c_grammar.specs.Table.{Symbol, Terminal, Nonterminal}
use Rattle.c_grammar.specs.declared.kind.Kind.{Kind}
use Rattle.c_grammar.specs.declared.kind.Kind.TheVariants.{Name, Literal, End, Const, Void, Char, Short, Int, Long, Signed, Unsigned, Struct, Static, Extern, Sizeof, If, Else, While, Do, For, Switch, Case, Default, Break, Continue, Return, OpenParenthesis, CloseParenthesis, OpenBrace, CloseBrace, OpenBracket, CloseBracket, Semicolon, Comma, Colon, Question, Dot, Arrow, PlusPlus, MinusMinus, Star, Equal}
use Rattle.c_grammar.specs.Kinds.{prefix_level, binary_right, is_assignment, is_single, is}
use Rattle.c_grammar.specs.declared.words.Sign.TheVariants.{NoSign, IsSigned, IsUnsigned}
use Rattle.c_grammar.specs.declared.words.Sign.{Sign}
use Rattle.c_grammar.specs.declared.words.Size.TheVariants.{NoSize, CharSize, ShortSize, LongSize}
use Rattle.c_grammar.specs.declared.words.Size.{Size}
use Rattle.c_grammar.specs.declared.words.Words.TheVariants.{NoWord, FullType, Integers}
use Rattle.c_grammar.specs.declared.words.Words.{Words}

-- May this word stand among them? `struct` has rows of its own.
abbrev pub with_char : Words → Option Words
with_char NoWord = Some (Integers NoSign CharSize false)
with_char (Integers sign NoSize false) = Some (Integers sign CharSize false)
with_char _ = None

abbrev pub with_size : Size → Words → Option Words
with_size size NoWord = Some (Integers NoSign size false)
with_size size (Integers sign NoSize has_int) = Some (Integers sign size has_int)
with_size size _ = None

abbrev pub with_int : Words → Option Words
with_int NoWord = Some (Integers NoSign NoSize true)
with_int (Integers sign NoSize false) = Some (Integers sign NoSize true)
with_int (Integers sign ShortSize false) = Some (Integers sign ShortSize true)
with_int (Integers sign LongSize false) = Some (Integers sign LongSize true)
with_int _ = None

abbrev pub with_sign : Sign → Words → Option Words
with_sign sign NoWord = Some (Integers sign NoSize false)
with_sign sign (Integers NoSign size has_int) = Some (Integers sign size has_int)
with_sign sign _ = None

abbrev pub with_void : Words → Option Words
with_void NoWord = Some FullType
with_void _ = None

abbrev pub with_word : Kind → Words → Option Words
with_word Const words = Some words
with_word Void words = with_void words
with_word Char words = with_char words
with_word Short words = with_size ShortSize words
with_word Long words = with_size LongSize words
with_word Int words = with_int words
with_word Signed words = with_sign IsSigned words
with_word Unsigned words = with_sign IsUnsigned words
with_word _ words = None

-- Are they the same?
abbrev pub same_sign : Sign → Sign → Bool
same_sign NoSign NoSign = true
same_sign IsSigned IsSigned = true
same_sign IsUnsigned IsUnsigned = true
same_sign _ _ = false

abbrev pub same_size : Size → Size → Bool
same_size NoSize NoSize = true
same_size CharSize CharSize = true
same_size ShortSize ShortSize = true
same_size LongSize LongSize = true
same_size _ _ = false

abbrev pub same_truth : Bool → Bool → Bool
same_truth true true = true
same_truth false false = true
same_truth _ _ = false

abbrev pub same_words : Words → Words → Bool
same_words NoWord NoWord = true
same_words FullType FullType = true
same_words (Integers sign size has_int) (Integers sign' size' has_int') = same_sign sign sign' && (same_size size size' && same_truth has_int has_int')
same_words _ _ = false

-- Are there words, and are they these?
abbrev pub is_these_words : Option Words → Words → Bool
is_these_words None words = false
is_these_words (Some words') words = same_words words' words

-- Is there a number, and is it this one?
abbrev pub is_this_number : Option ℕ → ℕ → Bool
is_this_number None n = false
is_this_number (Some n') n = n' == n

-- Do they name a type?
abbrev pub is_type : Words → Bool
is_type NoWord = false
is_type FullType = true
is_type (Integers sign size has_int) = true

pub data Sort : Type 0 where
  Program Items Item StructTail Declared AfterDeclarator : Sort
  MembersOpt MemberSort MembersMore MemberMore : Sort
  -- of an item or of another declaration
  Base : (own : Bool) (words : Words) → Sort
  FirstValue DeclaratorsMore Init InitMore InitNext : Sort
  Declarator Stars AfterStar Direct Suffixes Length Params ParamsMore Param Type_name : Sort
  -- a declarator that may lack its name; with `named` it may have one
  Optional Inner DirectOptional ParamDirect : (named : Bool) → Sort
  Stmt Body BlockItems Declaration ElseOpt ForFirst ExprOpt SwitchItems ReturnValue : Sort
  Expr Literals Arguments ArgumentsMore SizeofOperand : Sort

pub data Production : Type 0 where
  WholeProgram NoItem OneItem : Production
  Storage : (kind : Kind) → Production
  -- with the first word of its type, which isn't `struct`
  ItemTyped : (kind : Kind) (next : Words) → Production
  ItemStruct TailAlone TailTyped DeclaredRow FunctionBody DeclaredValues : Production
  NoMembers Members MemberRow MembersEnd MembersNext MemberEnd MemberNext : Production
  BaseEnd : (own : Bool) (words : Words) → Production
  BaseWord : (own : Bool) (words : Words) (kind : Kind) (next : Words) → Production
  BaseStruct : (own : Bool) → Production
  NoValue Value DeclarationEnd DeclarationNext InitValue InitList InitEnd InitComma InitClose InitOther : Production
  DeclaratorRow NoStar StarFirst StarEnd StarNext StarConst DirectName DirectNested NoSuffix Array Function NoLength LengthRow : Production
  NoParam OneParam ParamsEnd ParamsNext ParamRow TypeRow : Production
  OptionalNone OptionalPointer OptionalDirect InnerPointer InnerDirect DirectNone DirectSome ParamName ParamNested ParamFunction ParamArray : (named : Bool) → Production
  Block Empty Expression IfRow WhileRow DoRow ForRow SwitchRow BreakRow ContinueRow ReturnRow BodyRow : Production
  BlockEnd BlockDeclaration BlockStatement DeclarationRow NoElse ElseRow ForDeclaration ForEmpty ForExpression NoExpr SomeExpr : Production
  SwitchEnd CaseRow DefaultRow SwitchStatement ReturnNothing ReturnExpr : Production
  Single : (kind : Kind) → Production
  Text NoLiteral MoreLiteral Parenthesized Cast SizeofRow SizeofType SizeofExpr : Production
  Prefix : (kind : Kind) (operand : ℕ) → Production
  -- with the level of its right operand
  Binary : (kind : Kind) (right : ℕ) → Production
  Assign : (kind : Kind) → Production
  Conditional Index Call Member PointerMember PostIncrement PostDecrement : Production
  NoArgument OneArgument ArgumentsEnd ArgumentsNext : Production

-- the sort whose trees a row makes
abbrev pub sort_of : Production → Sort
sort_of WholeProgram = Program
sort_of NoItem = Items
sort_of OneItem = Items
sort_of (Storage kind) = Item
sort_of ItemStruct = Item
sort_of (ItemTyped kind next) = Item
sort_of TailAlone = StructTail
sort_of TailTyped = StructTail
sort_of DeclaredRow = Declared
sort_of FunctionBody = AfterDeclarator
sort_of DeclaredValues = AfterDeclarator
sort_of NoMembers = MembersOpt
sort_of Members = MembersOpt
sort_of MemberRow = MemberSort
sort_of MembersEnd = MembersMore
sort_of MembersNext = MembersMore
sort_of MemberEnd = MemberMore
sort_of MemberNext = MemberMore
sort_of (BaseEnd own words) = Base own words
sort_of (BaseWord own words kind next) = Base own words
sort_of (BaseStruct own) = Base own NoWord
sort_of NoValue = FirstValue
sort_of Value = FirstValue
sort_of DeclarationEnd = DeclaratorsMore
sort_of DeclarationNext = DeclaratorsMore
sort_of InitValue = Init
sort_of InitList = Init
sort_of InitEnd = InitMore
sort_of InitComma = InitMore
sort_of InitClose = InitNext
sort_of InitOther = InitNext
sort_of DeclaratorRow = Declarator
sort_of NoStar = Stars
sort_of StarFirst = Stars
sort_of StarEnd = AfterStar
sort_of StarNext = AfterStar
sort_of StarConst = AfterStar
sort_of DirectName = Direct
sort_of DirectNested = Direct
sort_of NoSuffix = Suffixes
sort_of Array = Suffixes
sort_of Function = Suffixes
sort_of NoLength = Length
sort_of LengthRow = Length
sort_of NoParam = Params
sort_of OneParam = Params
sort_of ParamsEnd = ParamsMore
sort_of ParamsNext = ParamsMore
sort_of ParamRow = Param
sort_of TypeRow = Type_name
sort_of (OptionalNone named) = Optional named
sort_of (OptionalPointer named) = Optional named
sort_of (OptionalDirect named) = Optional named
sort_of (InnerPointer named) = Inner named
sort_of (InnerDirect named) = Inner named
sort_of (DirectNone named) = DirectOptional named
sort_of (DirectSome named) = DirectOptional named
sort_of (ParamName named) = ParamDirect named
sort_of (ParamNested named) = ParamDirect named
sort_of (ParamFunction named) = ParamDirect named
sort_of (ParamArray named) = ParamDirect named
sort_of Block = Stmt
sort_of Empty = Stmt
sort_of Expression = Stmt
sort_of IfRow = Stmt
sort_of WhileRow = Stmt
sort_of DoRow = Stmt
sort_of ForRow = Stmt
sort_of SwitchRow = Stmt
sort_of BreakRow = Stmt
sort_of ContinueRow = Stmt
sort_of ReturnRow = Stmt
sort_of BodyRow = Body
sort_of BlockEnd = BlockItems
sort_of BlockDeclaration = BlockItems
sort_of BlockStatement = BlockItems
sort_of DeclarationRow = Declaration
sort_of NoElse = ElseOpt
sort_of ElseRow = ElseOpt
sort_of ForDeclaration = ForFirst
sort_of ForEmpty = ForFirst
sort_of ForExpression = ForFirst
sort_of NoExpr = ExprOpt
sort_of SomeExpr = ExprOpt
sort_of SwitchEnd = SwitchItems
sort_of CaseRow = SwitchItems
sort_of DefaultRow = SwitchItems
sort_of SwitchStatement = SwitchItems
sort_of ReturnNothing = ReturnValue
sort_of ReturnExpr = ReturnValue
sort_of NoLiteral = Literals
sort_of MoreLiteral = Literals
sort_of SizeofType = SizeofOperand
sort_of SizeofExpr = SizeofOperand
sort_of NoArgument = Arguments
sort_of OneArgument = Arguments
sort_of ArgumentsEnd = ArgumentsMore
sort_of ArgumentsNext = ArgumentsMore
sort_of _ = Expr

-- Levels of expressions: 0 primary, 1 postfix, 2 unary, 3 cast, 4 to 13 binary, 14 conditional, 15 assignment.
abbrev pub level_of_form : Production → ℕ
level_of_form (Prefix kind operand) = 2
level_of_form SizeofRow = 2
level_of_form Cast = 3
level_of_form (Binary kind right) = right + 1
level_of_form (Assign kind) = 15
level_of_form Conditional = 14
level_of_form Index = 1
level_of_form Call = 1
level_of_form Member = 1
level_of_form PointerMember = 1
level_of_form PostIncrement = 1
level_of_form PostDecrement = 1
level_of_form _ = 0

-- of a row that begins with an expression, how loosely that may bind
abbrev pub left_of : Production → Option ℕ
left_of (Binary kind right) = Some (right + 1)
left_of (Assign kind) = Some 2
left_of Conditional = Some 13
left_of Index = Some 1
left_of Call = Some 1
left_of Member = Some 1
left_of PointerMember = Some 1
left_of PostIncrement = Some 1
left_of PostDecrement = Some 1
left_of _ = None

-- Is the form a row of the grammar, with these arguments?
abbrev pub is_row : Production → Bool
is_row (Storage kind) = is kind Static || is kind Extern
is_row (ItemTyped kind next) = is_these_words (with_word kind NoWord) next
is_row (BaseEnd own words) = is_type words
is_row (BaseWord own words kind next) = is_these_words (with_word kind words) next
is_row (ParamName named) = named
is_row (Single kind) = is_single kind
is_row (Prefix kind operand) = is_this_number (prefix_level kind) operand
is_row (Binary kind right) = is_this_number (binary_right kind) right
is_row (Assign kind) = is_assignment kind
is_row _ = true

abbrev row : Type 0
row = List (Symbol Kind Sort)

-- the rows; of one that begins with an expression, what follows it
abbrev pub symbols_of : Production → List (Symbol Kind Sort)
symbols_of WholeProgram = Nonterminal Items 0 ∷ Terminal End ∷ []
symbols_of NoItem = []
symbols_of OneItem = Nonterminal Item 0 ∷ Nonterminal Items 0 ∷ []
symbols_of (Storage kind) = Terminal kind ∷ Nonterminal Item 0 ∷ []
symbols_of ItemStruct = Terminal Struct ∷ Terminal Name ∷ Nonterminal MembersOpt 0 ∷ Nonterminal StructTail 0 ∷ []
symbols_of (ItemTyped kind next) = Terminal kind ∷ Nonterminal (Base true next) 0 ∷ Nonterminal Declared 0 ∷ []
symbols_of TailAlone = Terminal Semicolon ∷ []
symbols_of TailTyped = Nonterminal (Base true FullType) 0 ∷ Nonterminal Declared 0 ∷ []
symbols_of DeclaredRow = Nonterminal Declarator 0 ∷ Nonterminal AfterDeclarator 0 ∷ []
symbols_of FunctionBody = Nonterminal Body 0 ∷ []
symbols_of DeclaredValues = Nonterminal FirstValue 0 ∷ Nonterminal DeclaratorsMore 0 ∷ []
symbols_of NoMembers = []
symbols_of Members = Terminal OpenBrace ∷ Nonterminal MemberSort 0 ∷ Nonterminal MembersMore 0 ∷ []
symbols_of MemberRow = Nonterminal (Base false NoWord) 0 ∷ Nonterminal Declarator 0 ∷ Nonterminal MemberMore 0 ∷ []
symbols_of MembersEnd = Terminal CloseBrace ∷ []
symbols_of MembersNext = Nonterminal MemberSort 0 ∷ Nonterminal MembersMore 0 ∷ []
symbols_of MemberEnd = Terminal Semicolon ∷ []
symbols_of MemberNext = Terminal Comma ∷ Nonterminal Declarator 0 ∷ Nonterminal MemberMore 0 ∷ []
symbols_of (BaseEnd own words) = []
symbols_of (BaseWord own words kind next) = Terminal kind ∷ Nonterminal (Base own next) 0 ∷ []
symbols_of (BaseStruct true) = Terminal Struct ∷ Terminal Name ∷ Nonterminal MembersOpt 0 ∷ Nonterminal (Base true FullType) 0 ∷ []
symbols_of (BaseStruct false) = Terminal Struct ∷ Terminal Name ∷ Nonterminal (Base false FullType) 0 ∷ []
symbols_of NoValue = []
symbols_of Value = Terminal Equal ∷ Nonterminal Init 0 ∷ []
symbols_of DeclarationEnd = Terminal Semicolon ∷ []
symbols_of DeclarationNext = Terminal Comma ∷ Nonterminal Declarator 0 ∷ Nonterminal FirstValue 0 ∷ Nonterminal DeclaratorsMore 0 ∷ []
symbols_of InitValue = Nonterminal Expr 15 ∷ []
symbols_of InitList = Terminal OpenBrace ∷ Nonterminal Init 0 ∷ Nonterminal InitMore 0 ∷ []
symbols_of InitEnd = Terminal CloseBrace ∷ []
symbols_of InitComma = Terminal Comma ∷ Nonterminal InitNext 0 ∷ []
symbols_of InitClose = Terminal CloseBrace ∷ []
symbols_of InitOther = Nonterminal Init 0 ∷ Nonterminal InitMore 0 ∷ []
symbols_of DeclaratorRow = Nonterminal Stars 0 ∷ Nonterminal Direct 0 ∷ []
symbols_of NoStar = []
symbols_of StarFirst = Terminal Star ∷ Nonterminal AfterStar 0 ∷ []
symbols_of StarEnd = []
symbols_of StarNext = Terminal Star ∷ Nonterminal AfterStar 0 ∷ []
symbols_of StarConst = Terminal Const ∷ Nonterminal AfterStar 0 ∷ []
symbols_of DirectName = Terminal Name ∷ Nonterminal Suffixes 0 ∷ []
symbols_of DirectNested = Terminal OpenParenthesis ∷ Nonterminal Declarator 0 ∷ Terminal CloseParenthesis ∷ Nonterminal Suffixes 0 ∷ []
symbols_of NoSuffix = []
symbols_of Array = Terminal OpenBracket ∷ Nonterminal Length 0 ∷ Terminal CloseBracket ∷ Nonterminal Suffixes 0 ∷ []
symbols_of Function = Terminal OpenParenthesis ∷ Nonterminal Params 0 ∷ Terminal CloseParenthesis ∷ Nonterminal Suffixes 0 ∷ []
symbols_of NoLength = []
symbols_of LengthRow = Nonterminal Expr 14 ∷ []
symbols_of NoParam = []
symbols_of OneParam = Nonterminal Param 0 ∷ Nonterminal ParamsMore 0 ∷ []
symbols_of ParamsEnd = []
symbols_of ParamsNext = Terminal Comma ∷ Nonterminal Param 0 ∷ Nonterminal ParamsMore 0 ∷ []
symbols_of ParamRow = Nonterminal (Base false NoWord) 0 ∷ Nonterminal (Optional true) 0 ∷ []
symbols_of TypeRow = Nonterminal (Base false NoWord) 0 ∷ Nonterminal (Optional false) 0 ∷ []
symbols_of (OptionalNone named) = []
symbols_of (OptionalPointer named) = Terminal Star ∷ Nonterminal AfterStar 0 ∷ Nonterminal (DirectOptional named) 0 ∷ []
symbols_of (OptionalDirect named) = Nonterminal (ParamDirect named) 0 ∷ []
symbols_of (InnerPointer named) = Terminal Star ∷ Nonterminal AfterStar 0 ∷ Nonterminal (DirectOptional named) 0 ∷ []
symbols_of (InnerDirect named) = Nonterminal (ParamDirect named) 0 ∷ []
symbols_of (DirectNone named) = []
symbols_of (DirectSome named) = Nonterminal (ParamDirect named) 0 ∷ []
symbols_of (ParamName named) = Terminal Name ∷ Nonterminal Suffixes 0 ∷ []
symbols_of (ParamNested named) = Terminal OpenParenthesis ∷ Nonterminal (Inner named) 0 ∷ Terminal CloseParenthesis ∷ Nonterminal Suffixes 0 ∷ []
symbols_of (ParamFunction named) = Terminal OpenParenthesis ∷ Nonterminal Params 0 ∷ Terminal CloseParenthesis ∷ Nonterminal Suffixes 0 ∷ []
symbols_of (ParamArray named) = Terminal OpenBracket ∷ Nonterminal Length 0 ∷ Terminal CloseBracket ∷ Nonterminal Suffixes 0 ∷ []
symbols_of Block = Terminal OpenBrace ∷ Nonterminal BlockItems 0 ∷ []
symbols_of Empty = Terminal Semicolon ∷ []
symbols_of Expression = Nonterminal Expr 15 ∷ Terminal Semicolon ∷ []
symbols_of IfRow = Terminal If ∷ Terminal OpenParenthesis ∷ Nonterminal Expr 15 ∷ Terminal CloseParenthesis ∷ Nonterminal Stmt 0 ∷ Nonterminal ElseOpt 0 ∷ []
symbols_of WhileRow = Terminal While ∷ Terminal OpenParenthesis ∷ Nonterminal Expr 15 ∷ Terminal CloseParenthesis ∷ Nonterminal Stmt 0 ∷ []
symbols_of DoRow = Terminal Do ∷ Nonterminal Stmt 0 ∷ Terminal While ∷ Terminal OpenParenthesis ∷ Nonterminal Expr 15 ∷ Terminal CloseParenthesis ∷ Terminal Semicolon ∷ []
symbols_of ForRow = Terminal For ∷ Terminal OpenParenthesis ∷ Nonterminal ForFirst 0 ∷ Nonterminal ExprOpt 0 ∷ Terminal Semicolon ∷ Nonterminal ExprOpt 0 ∷ Terminal CloseParenthesis ∷ Nonterminal Stmt 0 ∷ []
symbols_of SwitchRow = Terminal Switch ∷ Terminal OpenParenthesis ∷ Nonterminal Expr 15 ∷ Terminal CloseParenthesis ∷ Terminal OpenBrace ∷ Nonterminal SwitchItems 0 ∷ []
symbols_of BreakRow = Terminal Break ∷ Terminal Semicolon ∷ []
symbols_of ContinueRow = Terminal Continue ∷ Terminal Semicolon ∷ []
symbols_of ReturnRow = Terminal Return ∷ Nonterminal ReturnValue 0 ∷ []
symbols_of BodyRow = Terminal OpenBrace ∷ Nonterminal BlockItems 0 ∷ []
symbols_of BlockEnd = Terminal CloseBrace ∷ []
symbols_of BlockDeclaration = Nonterminal Declaration 0 ∷ Nonterminal BlockItems 0 ∷ []
symbols_of BlockStatement = Nonterminal Stmt 0 ∷ Nonterminal BlockItems 0 ∷ []
symbols_of DeclarationRow = Nonterminal (Base false NoWord) 0 ∷ Nonterminal Declarator 0 ∷ Nonterminal FirstValue 0 ∷ Nonterminal DeclaratorsMore 0 ∷ []
symbols_of NoElse = []
symbols_of ElseRow = Terminal Else ∷ Nonterminal Stmt 0 ∷ []
symbols_of ForDeclaration = Nonterminal Declaration 0 ∷ []
symbols_of ForEmpty = Terminal Semicolon ∷ []
symbols_of ForExpression = Nonterminal Expr 15 ∷ Terminal Semicolon ∷ []
symbols_of NoExpr = []
symbols_of SomeExpr = Nonterminal Expr 15 ∷ []
symbols_of SwitchEnd = Terminal CloseBrace ∷ []
symbols_of CaseRow = Terminal Case ∷ Nonterminal Expr 14 ∷ Terminal Colon ∷ Nonterminal SwitchItems 0 ∷ []
symbols_of DefaultRow = Terminal Default ∷ Terminal Colon ∷ Nonterminal SwitchItems 0 ∷ []
symbols_of SwitchStatement = Nonterminal Stmt 0 ∷ Nonterminal SwitchItems 0 ∷ []
symbols_of ReturnNothing = Terminal Semicolon ∷ []
symbols_of ReturnExpr = Nonterminal Expr 15 ∷ Terminal Semicolon ∷ []
symbols_of (Single kind) = Terminal kind ∷ []
symbols_of Text = Terminal Literal ∷ Nonterminal Literals 0 ∷ []
symbols_of NoLiteral = []
symbols_of MoreLiteral = Terminal Literal ∷ Nonterminal Literals 0 ∷ []
symbols_of Parenthesized = Terminal OpenParenthesis ∷ Nonterminal Expr 15 ∷ Terminal CloseParenthesis ∷ []
symbols_of Cast = Terminal OpenParenthesis ∷ Nonterminal Type_name 0 ∷ Terminal CloseParenthesis ∷ Nonterminal Expr 3 ∷ []
symbols_of SizeofRow = Terminal Sizeof ∷ Nonterminal SizeofOperand 0 ∷ []
symbols_of SizeofType = Terminal OpenParenthesis ∷ Nonterminal Type_name 0 ∷ Terminal CloseParenthesis ∷ []
symbols_of SizeofExpr = Nonterminal Expr 2 ∷ []
symbols_of (Prefix kind operand) = Terminal kind ∷ Nonterminal Expr operand ∷ []
symbols_of (Binary kind right) = Terminal kind ∷ Nonterminal Expr right ∷ []
symbols_of (Assign kind) = Terminal kind ∷ Nonterminal Expr 15 ∷ []
symbols_of Conditional = Terminal Question ∷ Nonterminal Expr 15 ∷ Terminal Colon ∷ Nonterminal Expr 14 ∷ []
symbols_of Index = Terminal OpenBracket ∷ Nonterminal Expr 15 ∷ Terminal CloseBracket ∷ []
symbols_of Call = Terminal OpenParenthesis ∷ Nonterminal Arguments 0 ∷ Terminal CloseParenthesis ∷ []
symbols_of Member = Terminal Dot ∷ Terminal Name ∷ []
symbols_of PointerMember = Terminal Arrow ∷ Terminal Name ∷ []
symbols_of PostIncrement = Terminal PlusPlus ∷ []
symbols_of PostDecrement = Terminal MinusMinus ∷ []
symbols_of NoArgument = []
symbols_of OneArgument = Nonterminal Expr 15 ∷ Nonterminal ArgumentsMore 0 ∷ []
symbols_of ArgumentsEnd = []
symbols_of ArgumentsNext = Terminal Comma ∷ Nonterminal Expr 15 ∷ Nonterminal ArgumentsMore 0 ∷ []

-- Does a tree count for nesting? Each statement, expression, declarator and initializer does.
abbrev pub weight_of : Production → ℕ
weight_of InitValue = 1
weight_of InitList = 1
weight_of DeclaratorRow = 1
weight_of (OptionalPointer named) = 1
weight_of (OptionalDirect named) = 1
weight_of (InnerPointer named) = 1
weight_of (InnerDirect named) = 1
weight_of Block = 1
weight_of Empty = 1
weight_of Expression = 1
weight_of IfRow = 1
weight_of WhileRow = 1
weight_of DoRow = 1
weight_of ForRow = 1
weight_of SwitchRow = 1
weight_of BreakRow = 1
weight_of ContinueRow = 1
weight_of ReturnRow = 1
weight_of BodyRow = 1
weight_of (Single kind) = 1
weight_of Text = 1
weight_of Parenthesized = 1
weight_of Cast = 1
weight_of SizeofRow = 1
weight_of (Prefix kind operand) = 1
weight_of (Binary kind right) = 1
weight_of (Assign kind) = 1
weight_of Conditional = 1
weight_of Index = 1
weight_of Call = 1
weight_of Member = 1
weight_of PointerMember = 1
weight_of PostIncrement = 1
weight_of PostDecrement = 1
weight_of _ = 0

-- the least height of the trees of a sort
abbrev pub need_of : Sort → ℕ
need_of Declared = 1
need_of MemberSort = 1
need_of Init = 2
need_of Declarator = 1
need_of (Inner named) = 1
need_of Stmt = 1
need_of Body = 1
need_of Declaration = 1
need_of Expr = 1
need_of _ = 0

abbrev pub needs_of : List (Symbol Kind Sort) → ℕ
needs_of [] = 0
needs_of (Terminal kind ∷ symbols) = needs_of symbols
needs_of (Nonterminal sort level ∷ symbols) = max (need_of sort) (needs_of symbols)

-- of the trees of a row, but for a tree that it begins with
abbrev pub row_need : Production → ℕ
row_need form = needs_of (symbols_of form) + weight_of form

-- of a row that goes on behind a tree
abbrev pub left_need : Production → ℕ
left_need form = row_need form
