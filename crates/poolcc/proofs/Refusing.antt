-- What the code refuses is refused, and what is refused gets that answer.
use Rattle.std.proofs.Common.{◌≡◌, ℕ, ◌≤◌, ◌⊎◌, inl, inr, true, List, Option, length, ap, refl, arith}
use Rattle.run_theory.specs.declared.place.Pos.{Pos}
use Rattle.run_theory.specs.Places.{first_place}
use Rattle.c_lexer.specs.declared.lex_err.LexErr.{LexErr}
use Rattle.c_lexer.specs.declared.lex_err.LexErr.TheVariants as X
use Rattle.c_lexer.specs.Tokens.{Faults, UnlessMemory}
use Rattle.c_lexer.proofs.Dividing.{one_fault, no_both}
use Rattle.image_form.specs.declared.image.MachineLimits.{MachineLimits}
use Rattle.image_form.specs.Form.{Form}
use Rattle.pcc_words.specs.declared.status.LexKind.{LexKind}
use Rattle.pcc_words.specs.declared.status.LexKind.TheVariants as K
use Rattle.pcc_words.specs.declared.status.Refusal.{Refusal}
use Rattle.pcc_words.specs.declared.status.Status.{Status}
use Rattle.pcc_words.specs.declared.status.Status.TheVariants as S
use Rattle.poolcc.specs.Compiled.{Compiles}
use Rattle.poolcc.specs.Exec.{source_limit, ExecGives}
use Rattle.poolcc.specs.Refused.{fault_of, IsLexical, IsUncompiled, IsStop, stop_of}
use Rattle.poolcc.proofs.Refusals.{one_refusal_of_all, not_graphed}

pub is_lexical : (text : List ℕ) (kind : LexKind) (place : Pos) → Faults first_place text (fault_of kind place) → IsLexical text kind place
is_lexical text kind place faults = record {
  faults = faults;
  only = λ other fault. one_fault true first_place text other (fault_of kind place) fault faults;
  undivided = λ divided. no_both true first_place text (fault_of kind place) divided.0 faults divided.1;
}

-- what the lexer refuses, unless memory ran out, is so refused
pub stops_so : (text : List ℕ) (error : LexErr) → UnlessMemory error (Faults first_place text error) → IsStop text (stop_of error)
stops_so text (X.BadByte place) refused = is_lexical text K.BadByte place refused
stops_so text (X.BadLiteral place) refused = is_lexical text K.BadLiteral place refused
stops_so text (X.Unclosed place) refused = is_lexical text K.Unclosed place refused
stops_so text (X.BadDirective place) refused = is_lexical text K.BadDirective place refused
stops_so text (X.NameTooLong place) refused = is_lexical text K.NameTooLong place refused
stops_so text X.OutOfMemory refused = tt

module _ (text : List ℕ) (limits : MachineLimits) (steps : ℕ) (left base : List ℕ) (left' written' : Option (List ℕ)) where
  module _ (refusal : Refusal) (refused : IsUncompiled text refusal) (short : length text ≤ source_limit) where
    not_run : {form : Form} → Compiles text limits form → ⊥
    not_run compiles = let graphed = compiles.graphed in not_graphed text compiles.program refusal compiles.accepted graphed.tac graphed.groups graphed.graphs graphed.has refused

    -- a text that is refused gets that answer, or memory ran out
    pub refuses : (answer : Status) → ExecGives text limits steps left base answer left' written' → (answer ≡ S.ReadFault → ⊥) → (answer ≡ S.WriteFault → ⊥) → (answer ≡ S.OutOfMemory) ⊎ (answer ≡ S.Refused refusal)
    refuses (S.Refused other) gives read write = inr (ap S.Refused (one_refusal_of_all text other refusal gives.1 refused))
    refuses S.OutOfMemory gives read write = inl refl
    refuses S.ReadFault gives read write = absurd (read refl)
    refuses S.WriteFault gives read write = absurd (write refl)
    refuses S.SourceTooLong gives read write = let long = gives.0 in absurd (omega arith)
    refuses (S.Program status) gives read write = absurd (not_run gives.compiles)
    refuses S.Depth gives read write = absurd (not_run gives.compiles)
    refuses S.HeapExhausted gives read write = absurd (not_run gives.compiles)
    refuses S.IndexExhausted gives read write = absurd (not_run gives.compiles)
    refuses (S.Trapped kind) gives read write = absurd (not_run gives.compiles)
    refuses S.StepsSpent gives read write = absurd (not_run gives.compiles)
    refuses S.Done gives read write = absurd gives
    refuses (S.Undefined kind place) gives read write = absurd gives
    refuses (S.BadImage at) gives read write = absurd gives
    refuses S.ImageTooLong gives read write = absurd gives
    refuses (S.Usage kind) gives read write = absurd gives
