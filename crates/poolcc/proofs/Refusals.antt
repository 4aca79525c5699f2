-- A text has at most one refusal, and none where it is accepted. That for its heap graphs comes only where it is accepted so far.
use Rattle.std.proofs.Common.{◌≡◌, ℕ, List, Option, Some, None, sym, ap, subst, ◌∙◌, refl}
use Rattle.run_theory.specs.declared.place.Pos.{Pos}
use Rattle.c_syntax.specs.Trees
use Rattle.c_rules.specs.declared.violation.Violation.{Violation}
use Rattle.c_rules.specs.Known.{least}
use Rattle.c_rules.specs.Programs as rules
use Rattle.c_rules.specs.Elaborated as elaborated
use Rattle.c_rules.specs.NamedItems.{named_types}
use Rattle.c_types.specs.declared.limits.LimitErr.{LimitErr}
use Rattle.c_types.specs.declared.limits.Limit.{Limit}
use Rattle.c_types.specs.declared.limits.Limit.TheVariants as L
use Rattle.c_types.specs.Limits.{exceeded}
use Rattle.pcc_words.specs.declared.status.LexKind.{LexKind}
use Rattle.pcc_words.specs.declared.status.LexKind.TheVariants as K
use Rattle.pcc_words.specs.declared.status.SyntaxKind.{SyntaxKind}
use Rattle.pcc_words.specs.declared.status.LimitKind.{LimitKind}
use Rattle.pcc_words.specs.declared.status.LimitKind.TheVariants as M
use Rattle.pcc_words.specs.declared.status.Refusal.{Refusal}
use Rattle.pcc_words.specs.declared.status.Refusal.TheVariants as R
use Rattle.poolcc.specs.declared.text.Stop as code
use Rattle.poolcc.specs.declared.text.Stop.TheVariants as stops
use Rattle.tac_ir.specs.Code.{Tac}
use Rattle.heap_graph.specs.Graphs.{ProgramGraphs}
use Rattle.dsa_bottom_up.specs.Graphed.{HasGraphs, IsOvergrown}
use Rattle.dsa_bottom_up.proofs.Once.{one_overgrown, not_overgrown}
use Rattle.poolcc.specs.Compiled.{ReadsAs, IsAccepted, IsBuildable, initial_values}
use Rattle.poolcc.specs.Refused.{fault_of, IsLexical, IsSyntactic, IsRefused, IsOverfull, IsUncompiled, IsStop, IsHalt, limit_named, stop_of}
use Rattle.poolcc.proofs.Misplacing.{one_syntactic}

abbrev told_limit : Limit → LimitKind
told_limit L.L1 = M.L1
told_limit L.L2 = M.L2
told_limit L.L3 = M.L3
told_limit L.L4 = M.L4
told_limit L.L5 = M.L5
told_limit L.L6 = M.L6

told_named : (limit : LimitKind) → told_limit (limit_named limit) ≡ limit
told_named M.L1 = refl
told_named M.L2 = refl
told_named M.L3 = refl
told_named M.L4 = refl
told_named M.L5 = refl
told_named M.L6 = refl

-- the refusal of a program that was read, if it has one
abbrev of_limits : Option LimitErr → Option Refusal
of_limits None = None
of_limits (Some limit) = Some (R.Limit (told_limit limit.which) limit.count)

abbrev of_rules : Option Violation → Option LimitErr → Option Refusal
of_rules None limit = of_limits limit
of_rules (Some violation) limit = Some (R.TypeRule violation.kind violation.place)

abbrev limit_of : Trees.ProgramTree → Option LimitErr
limit_of program = exceeded (elaborated.typed_of program) (named_types program)

abbrev refusal_of : Trees.ProgramTree → Option Refusal
refusal_of program = of_rules (rules.refusal program) (limit_of program)

-- Where a text is refused: among its bytes, among its tokens, or as the program that it reads as.
data Reason (text : List ℕ) : Refusal → Type 0 where
  lexical : {kind : LexKind} {place : Pos} → IsLexical text kind place → Reason text (R.Lex kind place)
  syntactic : {kind : SyntaxKind} {place : Pos} → IsSyntactic text kind place → Reason text (R.Syntax kind place)
  of_program : {refusal : Refusal} (program : Trees.ProgramTree) → ReadsAs text program → refusal_of program ≡ Some refusal → Reason text refusal

reason : (text : List ℕ) (refusal : Refusal) → IsRefused text refusal → Reason text refusal
reason text (R.Lex kind place) refused = lexical refused
reason text (R.Syntax kind place) refused = syntactic refused
reason text (R.TypeRule rule place) refused = of_program refused.program refused.reads (ap (λ least. of_rules least (limit_of refused.program)) refused.least)
reason text (R.Limit limit count) refused =
    let program = refused.program in
    of_program program refused.reads (ap (λ all. of_rules (least all) (limit_of program)) refused.typed ∙ ap of_limits refused.first ∙ ap (λ kind. Some (R.Limit kind count)) (told_named limit))
reason text (R.Graph count) refused = absurd refused
reason text (R.Pools function count) refused = absurd refused

-- ---- no two

-- a fault names one refusal
named : (kind : LexKind) (place : Pos) → stop_of (fault_of kind place) ≡ stops.Refused (R.Lex kind place)
named K.BadByte place = refl
named K.BadLiteral place = refl
named K.Unclosed place = refl
named K.BadDirective place = refl
named K.NameTooLong place = refl

one_lexical : (text : List ℕ) (kind kind' : LexKind) (place place' : Pos) → IsLexical text kind place → IsLexical text kind' place' → R.Lex kind place ≡ R.Lex kind' place'
one_lexical text kind kind' place place' a b =
    let both : stops.Refused (R.Lex kind place) ≡ stops.Refused (R.Lex kind' place') = sym (named kind place) ∙ ap stop_of (b.only (fault_of kind place) a.faults) ∙ named kind' place' in
    cc both

not_read : {text : List ℕ} {kind : LexKind} {place : Pos} {program : Trees.ProgramTree} → IsLexical text kind place → ReadsAs text program → ⊥
not_read refused reads = refused.undivided (reads.reads.leaves, reads.reads.divides)

same_reason : (text : List ℕ) (refusal other : Refusal) → Reason text refusal → Reason text other → refusal ≡ other
same_reason text _ _ (lexical a) (lexical b) = one_lexical text _ _ _ _ a b
same_reason text _ _ (lexical a) (syntactic b) = absurd (a.undivided (b.leaves, b.divides))
same_reason text _ _ (lexical a) (of_program program reads is) = absurd (not_read a reads)
same_reason text _ _ (syntactic a) (lexical b) = absurd (b.undivided (a.leaves, a.divides))
same_reason text _ _ (syntactic a) (syntactic b) = one_syntactic text _ _ _ _ a b
same_reason text _ _ (syntactic a) (of_program program reads is) = absurd (a.unread program reads.reads)
same_reason text _ _ (of_program program reads is) (lexical b) = absurd (not_read b reads)
same_reason text _ _ (of_program program reads is) (syntactic b) = absurd (b.unread program reads.reads)
same_reason text refusal other (of_program program reads is) (of_program program' reads' is') =
    let both : Some refusal ≡ Some other = sym is ∙ ap refusal_of (reads'.only program reads.reads) ∙ is' in
    cc both

pub one_refusal : (text : List ℕ) (refusal other : Refusal) → IsRefused text refusal → IsRefused text other → refusal ≡ other
one_refusal text refusal other a b = same_reason text refusal other (reason text refusal a) (reason text other b)

-- ---- none of a text that is accepted

none_of : (text : List ℕ) (program : Trees.ProgramTree) (accepted : IsAccepted text program) → refusal_of program ≡ None
none_of text program accepted = ap (λ all. of_rules (least all) (limit_of program)) accepted.typed ∙ ap of_limits accepted.within

no_reason : (text : List ℕ) (program : Trees.ProgramTree) (refusal : Refusal) → IsAccepted text program → Reason text refusal → ⊥
no_reason text program _ accepted (lexical a) = not_read a accepted.reads
no_reason text program _ accepted (syntactic a) = a.unread program accepted.reads.reads
no_reason text program refusal accepted (of_program whole reads is) =
    let both : None ≡ Some refusal = sym (ap refusal_of (accepted.reads.only whole reads.reads) ∙ none_of text program accepted) ∙ is in
    cc both

pub not_refused : (text : List ℕ) (program : Trees.ProgramTree) (refusal : Refusal) → IsAccepted text program → IsRefused text refusal → ⊥
not_refused text program refusal accepted refused = no_reason text program refusal accepted (reason text refusal refused)

-- ---- heap graphs

-- a text that is refused isn't refused for its heap graphs
pub only_refusal : (text : List ℕ) (other refusal : Refusal) → IsUncompiled text other → IsRefused text refusal → other ≡ refusal
only_refusal text (R.Graph count) refusal overfull refused = absurd (not_refused text overfull.program refusal overfull.accepted refused)
only_refusal text (R.Lex kind place) refusal other refused = one_refusal text (R.Lex kind place) refusal other refused
only_refusal text (R.Syntax kind place) refusal other refused = one_refusal text (R.Syntax kind place) refusal other refused
only_refusal text (R.TypeRule rule place) refusal other refused = one_refusal text (R.TypeRule rule place) refusal other refused
only_refusal text (R.Limit limit count) refusal other refused = one_refusal text (R.Limit limit count) refusal other refused
only_refusal text (R.Pools function count) refusal other refused = absurd other

module _ (text : List ℕ) where
  -- what is overgrown is the program of the text
  own_program : (program : Trees.ProgramTree) (count : ℕ) → IsAccepted text program → IsOverfull text count → IsOvergrown (elaborated.typed_of program) (initial_values program) count
  own_program program count accepted overfull =
      subst (λ (tree : Trees.ProgramTree). IsOvergrown (elaborated.typed_of tree) (initial_values tree) count) (accepted.reads.only overfull.program overfull.accepted.reads.reads) overfull.overgrown

  overfull_once : (a b : ℕ) → IsOverfull text a → IsOverfull text b → a ≡ b
  overfull_once a b one two =
      let program = one.program in
      one_overgrown (elaborated.typed_of program) (initial_values program) a b one.overgrown (own_program program b one.accepted two)

  is_overfull : (refusal : Refusal) (count : ℕ) → IsUncompiled text refusal → IsOverfull text count → refusal ≡ R.Graph count
  is_overfull (R.Graph other) count one two = ap R.Graph (overfull_once other count one two)
  is_overfull (R.Lex kind place) count one two = absurd (not_refused text two.program (R.Lex kind place) two.accepted one)
  is_overfull (R.Syntax kind place) count one two = absurd (not_refused text two.program (R.Syntax kind place) two.accepted one)
  is_overfull (R.TypeRule rule place) count one two = absurd (not_refused text two.program (R.TypeRule rule place) two.accepted one)
  is_overfull (R.Limit limit n) count one two = absurd (not_refused text two.program (R.Limit limit n) two.accepted one)
  is_overfull (R.Pools function n) count one two = absurd one

  -- a text that isn't compiled has one refusal
  pub one_refusal_of_all : (refusal other : Refusal) → IsUncompiled text refusal → IsUncompiled text other → refusal ≡ other
  one_refusal_of_all refusal (R.Graph count) one two = is_overfull refusal count one two
  one_refusal_of_all refusal (R.Lex kind place) one two = only_refusal text refusal (R.Lex kind place) one two
  one_refusal_of_all refusal (R.Syntax kind place) one two = only_refusal text refusal (R.Syntax kind place) one two
  one_refusal_of_all refusal (R.TypeRule rule place) one two = only_refusal text refusal (R.TypeRule rule place) one two
  one_refusal_of_all refusal (R.Limit limit n) one two = only_refusal text refusal (R.Limit limit n) one two
  one_refusal_of_all refusal (R.Pools function n) one two = absurd two

  module _ (program : Trees.ProgramTree) (accepted : IsAccepted text program) (few : (count : ℕ) → IsOvergrown (elaborated.typed_of program) (initial_values program) count → ⊥) where
    not_halted : (refusal : Refusal) → IsUncompiled text refusal → ⊥
    not_halted (R.Graph count) overfull = few count (own_program program count accepted overfull)
    not_halted (R.Lex kind place) refused = not_refused text program (R.Lex kind place) accepted refused
    not_halted (R.Syntax kind place) refused = not_refused text program (R.Syntax kind place) accepted refused
    not_halted (R.TypeRule rule place) refused = not_refused text program (R.TypeRule rule place) accepted refused
    not_halted (R.Limit limit n) refused = not_refused text program (R.Limit limit n) accepted refused
    not_halted (R.Pools function n) refused = absurd refused

  -- a text that can be compiled isn't refused
  pub not_buildable : (program : Trees.ProgramTree) (refusal : Refusal) → IsBuildable text program → IsUncompiled text refusal → ⊥
  not_buildable program refusal buildable = not_halted program buildable.accepted buildable.few refusal

  -- nor is one whose graphs were made
  pub not_graphed : (program : Trees.ProgramTree) (refusal : Refusal) → IsAccepted text program → (tac : Tac) (groups : List (List ℕ)) (graphs : ProgramGraphs)
      → HasGraphs (elaborated.typed_of program) (initial_values program) tac groups graphs → IsUncompiled text refusal → ⊥
  not_graphed program refusal accepted tac groups graphs has =
      not_halted program accepted (not_overgrown (elaborated.typed_of program) (initial_values program) tac groups graphs has) refusal

refused_halts : (text : List ℕ) (refusal : Refusal) → IsRefused text refusal → IsUncompiled text refusal
refused_halts text (R.Graph count) refused = absurd refused
refused_halts text (R.Lex kind place) refused = refused
refused_halts text (R.Syntax kind place) refused = refused
refused_halts text (R.TypeRule rule place) refused = refused
refused_halts text (R.Limit limit count) refused = refused
refused_halts text (R.Pools function count) refused = absurd refused

-- where there is no typed tree there is no image
pub stop_halts : (text : List ℕ) (stop : code.Stop) → IsStop text stop → IsHalt text stop
stop_halts text (stops.Refused refusal) refused = refused_halts text refusal refused
stop_halts text stops.OutOfMemory memory = tt
