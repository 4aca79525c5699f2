-- The spellings of the grammar's words and punctuators.
use Rattle.std.specs.Prelude.{ℕ, List, [], ◌∷◌, Option, Some, None, if◌then◌else◌, codes}
use Rattle.std.specs.Str.{bytes_eq}
use Rattle.c_grammar.specs.declared.kind.Kind.{Kind}
use Rattle.c_grammar.specs.declared.kind.Kind.TheVariants as K

-- the kind that stands beside a spelling in a table
abbrev pub kind_in : List (List ℕ × Kind) → List ℕ → Option Kind
kind_in [] spelling = None
kind_in (row ∷ rows) spelling = if bytes_eq row.0 spelling then Some row.1 else kind_in rows spelling

-- the 44 keywords (C17 6.4.1) and the two constants that are built in; keywords that the language leaves out are of one
-- kind
unfoldable pub words : List (List ℕ × Kind)
words =
    (codes "auto", K.Reserved) ∷ (codes "break", K.Break) ∷ (codes "case", K.Case) ∷ (codes "char", K.Char)
    ∷ (codes "const", K.Const) ∷ (codes "continue", K.Continue) ∷ (codes "default", K.Default) ∷ (codes "do", K.Do)
    ∷ (codes "double", K.Reserved) ∷ (codes "else", K.Else) ∷ (codes "enum", K.Reserved) ∷ (codes "extern", K.Extern)
    ∷ (codes "float", K.Reserved) ∷ (codes "for", K.For) ∷ (codes "goto", K.Reserved) ∷ (codes "if", K.If)
    ∷ (codes "inline", K.Reserved) ∷ (codes "int", K.Int) ∷ (codes "long", K.Long) ∷ (codes "register", K.Reserved)
    ∷ (codes "restrict", K.Reserved) ∷ (codes "return", K.Return) ∷ (codes "short", K.Short)
    ∷ (codes "signed", K.Signed) ∷ (codes "sizeof", K.Sizeof) ∷ (codes "static", K.Static)
    ∷ (codes "struct", K.Struct) ∷ (codes "switch", K.Switch) ∷ (codes "typedef", K.Reserved)
    ∷ (codes "union", K.Reserved) ∷ (codes "unsigned", K.Unsigned) ∷ (codes "void", K.Void)
    ∷ (codes "volatile", K.Reserved) ∷ (codes "while", K.While) ∷ (codes "_Alignas", K.Reserved)
    ∷ (codes "_Alignof", K.Reserved) ∷ (codes "_Atomic", K.Reserved) ∷ (codes "_Bool", K.Reserved)
    ∷ (codes "_Complex", K.Reserved) ∷ (codes "_Generic", K.Reserved) ∷ (codes "_Imaginary", K.Reserved)
    ∷ (codes "_Noreturn", K.Reserved) ∷ (codes "_Static_assert", K.Reserved)
    ∷ (codes "_Thread_local", K.Reserved) ∷ (codes "NULL", K.Null) ∷ (codes "EOF", K.EndOfFile) ∷ []

-- the punctuators of the grammar (C17 6.4.6)
unfoldable pub punctuators : List (List ℕ × Kind)
punctuators =
    (codes "(", K.OpenParenthesis) ∷ (codes ")", K.CloseParenthesis) ∷ (codes "{", K.OpenBrace)
    ∷ (codes "}", K.CloseBrace) ∷ (codes "[", K.OpenBracket) ∷ (codes "]", K.CloseBracket) ∷ (codes ";", K.Semicolon)
    ∷ (codes ",", K.Comma) ∷ (codes ":", K.Colon) ∷ (codes "?", K.Question) ∷ (codes ".", K.Dot)
    ∷ (codes "->", K.Arrow) ∷ (codes "++", K.PlusPlus) ∷ (codes "--", K.MinusMinus) ∷ (codes "&", K.Ampersand)
    ∷ (codes "*", K.Star) ∷ (codes "+", K.Plus) ∷ (codes "-", K.Minus) ∷ (codes "~", K.Tilde)
    ∷ (codes "!", K.Exclamation) ∷ (codes "/", K.Slash) ∷ (codes "%", K.Percent) ∷ (codes "<<", K.ShiftLeft)
    ∷ (codes ">>", K.ShiftRight) ∷ (codes "<", K.Less) ∷ (codes ">", K.Greater) ∷ (codes "<=", K.LessEqual)
    ∷ (codes ">=", K.GreaterEqual) ∷ (codes "==", K.EqualEqual) ∷ (codes "!=", K.ExclamationEqual)
    ∷ (codes "^", K.Caret) ∷ (codes "|", K.Bar) ∷ (codes "&&", K.AmpersandAmpersand) ∷ (codes "||", K.BarBar)
    ∷ (codes "=", K.Equal) ∷ (codes "*=", K.StarEqual) ∷ (codes "/=", K.SlashEqual) ∷ (codes "%=", K.PercentEqual)
    ∷ (codes "+=", K.PlusEqual) ∷ (codes "-=", K.MinusEqual) ∷ (codes "<<=", K.ShiftLeftEqual)
    ∷ (codes ">>=", K.ShiftRightEqual) ∷ (codes "&=", K.AmpersandEqual) ∷ (codes "^=", K.CaretEqual)
    ∷ (codes "|=", K.BarEqual) ∷ []
