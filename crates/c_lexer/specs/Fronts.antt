-- What stands at the front of a text (C17 6.4): white space, a comment, an accepted directive, a token, or a fault. The
-- first byte tells which, and as many bytes are taken as can belong to it (C17 6.4 paragraph 4).
use Rattle.std.specs.Prelude.{ℕ, ◌+◌, List, [], ◌∷◌, Option, Some, None, Bool, true, false, ◌&&◌, ◌||◌, ◌==◌, nat_le, if◌then◌else◌, length, take, drop, slice_index, codes, nat_eq, Result, Ok, Err}
use Rattle.std.specs.List.{prefix_len, starts_with}
use Rattle.run_theory.specs.declared.place.Pos.{Pos}
use Rattle.c_grammar.specs.declared.kind.Kind.{Kind}
use Rattle.c_grammar.specs.declared.token.Lexeme.{Lexeme}
use Rattle.c_grammar.specs.declared.token.Lexeme.TheVariants as L
use Rattle.c_lexer.specs.declared.lex_err.LexErr.{LexErr}
use Rattle.c_lexer.specs.declared.lex_err.LexErr.TheVariants.{BadByte, BadLiteral, Unclosed, BadDirective, NameTooLong}
use Rattle.c_lexer.specs.declared.front.Front.{Front}
use Rattle.c_lexer.specs.declared.front.Front.TheVariants.{Blank, Token}
use Rattle.c_lexer.specs.Classes.{is_space, is_blank, is_in_line, is_letter, is_digit, is_word_byte, goes_on}
use Rattle.c_lexer.specs.Tables.{words, punctuators, kind_in}
use Rattle.c_lexer.specs.Constants.{integer_of, quoted}

-- a word: one of the grammar, or a name
abbrev pub kind_or_name : Option Kind → List ℕ → Lexeme
kind_or_name None word = L.Name word
kind_or_name (Some kind) word = L.Fixed kind

abbrev pub word_lexeme : List ℕ → Lexeme
word_lexeme word = kind_or_name (kind_in words word) word

-- a word has at most 255 bytes
abbrev pub word_front : Pos → List ℕ → Result Front LexErr
word_front place text =
    let count = 1 + prefix_len is_word_byte (drop 1 text) in
    if nat_le count 255 then Ok (Token (word_lexeme (take count text)) count) else Err (NameTooLong place)

-- how many bytes go on with a number behind one of its bytes
abbrev pub number_run : ℕ → List ℕ → ℕ
number_run before [] = 0
number_run before (byte ∷ bytes) = if goes_on before byte then 1 + number_run byte bytes else 0

abbrev pub constant_front : Pos → ℕ → Option Lexeme → Result Front LexErr
constant_front place count None = Err (BadLiteral place)
constant_front place count (Some lexeme) = Ok (Token lexeme count)

abbrev pub number_front : Pos → List ℕ → Result Front LexErr
number_front place text =
    let count = 1 + number_run (slice_index text 0) (drop 1 text) in
    constant_front place count (integer_of (take count text))

-- one byte between single quotes
abbrev pub character_front : Pos → ℕ → List ℕ → Result Front LexErr
character_front place count [] = Err (BadLiteral place)
character_front place count (byte ∷ []) = Ok (Token (L.Character byte) count)
character_front place count (byte ∷ next ∷ bytes) = Err (BadLiteral place)

abbrev pub as_character : Pos → Result (List ℕ × ℕ) LexErr → Result Front LexErr
as_character place (Err error) = Err error
as_character place (Ok found) = character_front place (1 + found.1) found.0

abbrev pub as_literal : Result (List ℕ × ℕ) LexErr → Result Front LexErr
as_literal (Err error) = Err error
as_literal (Ok found) = Ok (Token (L.Literal found.0) (1 + found.1))

-- what is behind spaces and tabs
abbrev pub after_blanks : List ℕ → List ℕ
after_blanks [] = []
after_blanks (byte ∷ bytes) = if is_blank byte then after_blanks bytes else byte ∷ bytes

-- the end of the line, or a CR before it
abbrev pub is_line_end : List ℕ → Bool
is_line_end [] = true
is_line_end (byte ∷ []) = byte == 13
is_line_end (byte ∷ next ∷ bytes) = false

-- a header's name, and nothing behind it but spaces and tabs
abbrev pub is_header : List ℕ → List ℕ → Bool
is_header header name = starts_with nat_eq name header && is_line_end (after_blanks (drop (length header) name))

-- what follows `include`
abbrev pub is_known_header : List ℕ → Bool
is_known_header name = is_header (codes "<stdio.h>") name || is_header (codes "<stdlib.h>") name || is_header (codes "<stddef.h>") name

-- what follows `#` on its line makes an accepted directive
abbrev pub is_accepted : List ℕ → Bool
is_accepted line =
    let name = after_blanks line in
    starts_with nat_eq name (codes "include") && is_known_header (after_blanks (drop 7 name))

abbrev pub line_length : List ℕ → ℕ
line_length text = 1 + prefix_len is_in_line (drop 1 text)

abbrev pub directive_front : Pos → List ℕ → Result Front LexErr
directive_front place text =
    if is_accepted (drop 1 (take (line_length text) text)) then Ok (Blank (line_length text)) else Err (BadDirective place)

-- how many bytes of the text, behind `count`, end a comment
abbrev pub comment_end : ℕ → List ℕ → Option ℕ
comment_end count [] = None
comment_end count (byte ∷ rest) = if byte == 42 && slice_index rest 0 == 47 then Some (count + 2) else comment_end (count + 1) rest

abbrev pub as_comment : Pos → Option ℕ → Result Front LexErr
as_comment place None = Err (Unclosed place)
as_comment place (Some count) = Ok (Blank count)

-- the kind of the punctuator that so many bytes at the front of the text spell
abbrev pub punctuator_of : ℕ → List ℕ → Option Kind
punctuator_of count text = if nat_le count (length text) then kind_in punctuators (take count text) else None

abbrev pub fixed_front : ℕ → Option Kind → Result Front LexErr → Result Front LexErr
fixed_front count None otherwise = otherwise
fixed_front count (Some kind) otherwise = Ok (Token (L.Fixed kind) count)

-- the longest punctuator; none has more than three bytes
abbrev pub punctuator_front : Pos → List ℕ → Result Front LexErr
punctuator_front place text =
    fixed_front 3 (punctuator_of 3 text) (fixed_front 2 (punctuator_of 2 text) (fixed_front 1 (punctuator_of 1 text) (Err (BadByte place))))

-- a comment (C17 6.4.9) or a punctuator
abbrev pub other_front : Pos → List ℕ → Result Front LexErr
other_front place text =
    if slice_index text 0 == 47 && slice_index text 1 == 47 then Ok (Blank (line_length text))
    else if slice_index text 0 == 47 && slice_index text 1 == 42 then as_comment place (comment_end 2 (drop 2 text))
    else punctuator_front place text

-- what stands at the front of a text that isn't empty and begins at the place; does nothing but spaces and tabs stand
-- before it on its line?
abbrev pub front_of : Bool → Pos → List ℕ → Result Front LexErr
front_of line place text =
    if is_space (slice_index text 0) then Ok (Blank 1)
    else if is_letter (slice_index text 0) then word_front place text
    else if is_digit (slice_index text 0) then number_front place text
    else if slice_index text 0 == 39 then as_character place (quoted place 39 (drop 1 text))
    else if slice_index text 0 == 34 then as_literal (quoted place 34 (drop 1 text))
    else if slice_index text 0 == 35 && line then directive_front place text
    else other_front place text
