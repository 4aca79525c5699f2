-- The kinds of tokens that the grammar tells apart (C17 6.4).
use Rattle.std.specs.Prelude.{ℕ, Bool, true, false, ◌==◌, Option, Some, None}
use Rattle.c_grammar.specs.declared.kind.Kind.{Kind}
use Rattle.c_grammar.specs.declared.kind.Kind.TheVariants.{Name, Integer, Character, Literal, End, Reserved, Const, Void, Char, Short, Int, Long, Signed, Unsigned, Struct, Static, Extern, Sizeof, Null, EndOfFile, If, Else, While, Do, For, Switch, Case, Default, Break, Continue, Return, OpenParenthesis, CloseParenthesis, OpenBrace, CloseBrace, OpenBracket, CloseBracket, Semicolon, Comma, Colon, Question, Dot, Arrow, PlusPlus, MinusMinus, Star, Slash, Percent, Plus, Minus, ShiftLeft, ShiftRight, Less, Greater, LessEqual, GreaterEqual, EqualEqual, ExclamationEqual, Ampersand, Caret, Bar, AmpersandAmpersand, BarBar, Tilde, Exclamation, Equal, StarEqual, SlashEqual, PercentEqual, PlusEqual, MinusEqual, ShiftLeftEqual, ShiftRightEqual, AmpersandEqual, CaretEqual, BarEqual}

-- the words of the grammar's types (C17 6.7.2, 6.7.3)
abbrev pub is_type_word : Kind → Bool
is_type_word Const = true
is_type_word Void = true
is_type_word Char = true
is_type_word Short = true
is_type_word Int = true
is_type_word Long = true
is_type_word Signed = true
is_type_word Unsigned = true
is_type_word Struct = true
is_type_word _ = false

-- an operator before its operand, and how loosely that may bind (C17 6.5.3): 2 is unary, 3 is cast
abbrev pub prefix_level : Kind → Option ℕ
prefix_level PlusPlus = Some 2
prefix_level MinusMinus = Some 2
prefix_level Ampersand = Some 3
prefix_level Star = Some 3
prefix_level Plus = Some 3
prefix_level Minus = Some 3
prefix_level Tilde = Some 3
prefix_level Exclamation = Some 3
prefix_level _ = None

-- an operator between two operands that is joined left (C17 6.5.5 to 6.5.14): how loosely its right operand
-- may bind
abbrev pub binary_right : Kind → Option ℕ
binary_right Star = Some 3
binary_right Slash = Some 3
binary_right Percent = Some 3
binary_right Plus = Some 4
binary_right Minus = Some 4
binary_right ShiftLeft = Some 5
binary_right ShiftRight = Some 5
binary_right Less = Some 6
binary_right Greater = Some 6
binary_right LessEqual = Some 6
binary_right GreaterEqual = Some 6
binary_right EqualEqual = Some 7
binary_right ExclamationEqual = Some 7
binary_right Ampersand = Some 8
binary_right Caret = Some 9
binary_right Bar = Some 10
binary_right AmpersandAmpersand = Some 11
binary_right BarBar = Some 12
binary_right _ = None

-- C17 6.5.16
abbrev pub is_assignment : Kind → Bool
is_assignment Equal = true
is_assignment StarEqual = true
is_assignment SlashEqual = true
is_assignment PercentEqual = true
is_assignment PlusEqual = true
is_assignment MinusEqual = true
is_assignment ShiftLeftEqual = true
is_assignment ShiftRightEqual = true
is_assignment AmpersandEqual = true
is_assignment CaretEqual = true
is_assignment BarEqual = true
is_assignment _ = false

-- a token that is an expression alone (C17 6.5.1); a literal goes on with the literals beside it
abbrev pub is_single : Kind → Bool
is_single Name = true
is_single Integer = true
is_single Character = true
is_single Null = true
is_single EndOfFile = true
is_single _ = false

-- a number for each kind
abbrev pub number : Kind → ℕ
number Name = 0
number Integer = 1
number Character = 2
number Literal = 3
number End = 4
number Reserved = 5
number Const = 6
number Void = 7
number Char = 8
number Short = 9
number Int = 10
number Long = 11
number Signed = 12
number Unsigned = 13
number Struct = 14
number Static = 15
number Extern = 16
number Sizeof = 17
number Null = 18
number EndOfFile = 19
number If = 20
number Else = 21
number While = 22
number Do = 23
number For = 24
number Switch = 25
number Case = 26
number Default = 27
number Break = 28
number Continue = 29
number Return = 30
number OpenParenthesis = 31
number CloseParenthesis = 32
number OpenBrace = 33
number CloseBrace = 34
number OpenBracket = 35
number CloseBracket = 36
number Semicolon = 37
number Comma = 38
number Colon = 39
number Question = 40
number Dot = 41
number Arrow = 42
number PlusPlus = 43
number MinusMinus = 44
number Star = 45
number Slash = 46
number Percent = 47
number Plus = 48
number Minus = 49
number ShiftLeft = 50
number ShiftRight = 51
number Less = 52
number Greater = 53
number LessEqual = 54
number GreaterEqual = 55
number EqualEqual = 56
number ExclamationEqual = 57
number Ampersand = 58
number Caret = 59
number Bar = 60
number AmpersandAmpersand = 61
number BarBar = 62
number Tilde = 63
number Exclamation = 64
number Equal = 65
number StarEqual = 66
number SlashEqual = 67
number PercentEqual = 68
number PlusEqual = 69
number MinusEqual = 70
number ShiftLeftEqual = 71
number ShiftRightEqual = 72
number AmpersandEqual = 73
number CaretEqual = 74
number BarEqual = 75

abbrev pub is : Kind → Kind → Bool
is kind kind' = number kind == number kind'
