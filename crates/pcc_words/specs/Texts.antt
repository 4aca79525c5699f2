-- The line that the program writes on its error output for an answer other than its own success.
use Rattle.std.specs.Prelude.{ℕ, List, [], ◌∷◌, ◌++◌, take, codes, decimal}
use Rattle.run_theory.specs.declared.place.Pos.{Pos}
use Rattle.run_theory.specs.Places.{place_text}
use Rattle.run_theory.specs.Names.{undefined_name, trap_name}
use Rattle.pcc_words.specs.declared.status.Status.{Status}
use Rattle.pcc_words.specs.declared.status.Status.TheVariants as S
use Rattle.pcc_words.specs.declared.status.Refusal.{Refusal}
use Rattle.pcc_words.specs.declared.status.Refusal.TheVariants as R
use Rattle.pcc_words.specs.declared.status.FuncName.{FuncName}
use Rattle.pcc_words.specs.declared.status.LexKind.{LexKind}
use Rattle.pcc_words.specs.declared.status.LexKind.TheVariants.{BadByte, BadLiteral, Unclosed, BadDirective, NameTooLong}
use Rattle.pcc_words.specs.declared.status.SyntaxKind.{SyntaxKind}
use Rattle.pcc_words.specs.declared.status.SyntaxKind.TheVariants.{At, TooDeep}
use Rattle.c_rules.specs.Rules.{rule_name}
use Rattle.pcc_words.specs.declared.status.LimitKind.{LimitKind}
use Rattle.pcc_words.specs.declared.status.LimitKind.TheVariants.{L1, L2, L3, L4, L5, L6}

abbrev pub lex_name : LexKind → List ℕ
lex_name BadByte = codes "BadByte"
lex_name BadLiteral = codes "BadLiteral"
lex_name Unclosed = codes "Unclosed"
lex_name BadDirective = codes "BadDirective"
lex_name NameTooLong = codes "NameTooLong"

abbrev pub syntax_name : SyntaxKind → List ℕ
syntax_name At = codes "syntax"
syntax_name TooDeep = codes "nesting"

abbrev pub limit_name : LimitKind → List ℕ
limit_name L1 = codes "L1"
limit_name L2 = codes "L2"
limit_name L3 = codes "L3"
limit_name L4 = codes "L4"
limit_name L5 = codes "L5"
limit_name L6 = codes "L6"

-- a name and the place where it holds
abbrev pub at_place : List ℕ → Pos → List ℕ
at_place name place = name ++ codes " at " ++ place_text place

-- the bytes of a function's name
abbrev pub func_name : FuncName → List ℕ
func_name function = take function.length function.bytes

abbrev pub refusal_text : Refusal → List ℕ
refusal_text (R.Lex kind place) = at_place (lex_name kind) place
refusal_text (R.Syntax kind place) = at_place (syntax_name kind) place
refusal_text (R.TypeRule rule place) = at_place (rule_name rule) place
refusal_text (R.Limit limit count) = limit_name limit ++ codes " count " ++ decimal count
refusal_text (R.Graph count) = codes "graph nodes " ++ decimal count
refusal_text (R.Pools function count) = codes "pools of " ++ func_name function ++ 32 ∷ decimal count

abbrev pub usage_text : List ℕ
usage_text = codes "usage: poolcc build|run|exec|ref|graph|report FILE [options] or poolcc demo N"

abbrev pub message_of : Status → List ℕ
message_of S.Done = []
message_of (S.Program status) = []
message_of S.Depth = codes "call depth reached"
message_of S.HeapExhausted = codes "heap exhausted"
message_of S.IndexExhausted = codes "pool index exhausted"
message_of S.StepsSpent = codes "steps spent"
message_of (S.Trapped kind) = codes "trap " ++ trap_name kind
message_of (S.Undefined kind place) = codes "undefined " ++ at_place (undefined_name kind) place
message_of (S.Refused refusal) = codes "refused " ++ refusal_text refusal
message_of (S.BadImage at) = codes "bad image at " ++ decimal at
message_of S.SourceTooLong = codes "source too long"
message_of S.ImageTooLong = codes "image too long"
message_of (S.Usage kind) = usage_text
message_of S.ReadFault = codes "read fault"
message_of S.WriteFault = codes "write fault"
message_of S.OutOfMemory = codes "out of memory"

-- the whole line; success says nothing
abbrev pub error_text : Status → List ℕ
error_text S.Done = []
error_text (S.Program status) = []
error_text status = codes "poolcc: " ++ message_of status ++ 10 ∷ []
