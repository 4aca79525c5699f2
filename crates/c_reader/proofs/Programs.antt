-- Which programs are read, and where others are refused, from what a reader by the table comes to.
use Rattle.std.proofs.Common.{◌≡◌, ◌==◌, true, false, ◌<◌, List, [], ◌∷◌, ◌++◌, Err, length, sym, refl, ◌∙◌, ap, subst, arith, eqb-true, append_assoc}
use Rattle.std.proofs.lemmas.List.{append-nil}
use Rattle.run_theory.specs.declared.place.Pos.{Pos}
use Rattle.c_grammar.specs.Table.{leaves, height}
use Rattle.c_grammar.specs.Runs.{Whole, Bad, Deep, Done, Failed, Run}
use Rattle.c_grammar.specs.Prefixes.{BeginsAccepted}
use Rattle.c_grammar.proofs.Exact.{Kept, past, same, exact}
use Rattle.c_grammar.proofs.Sound.{sound}
use Rattle.c_grammar.specs.Forms.{Program}
use Rattle.c_grammar.proofs.LanguageTells.{tells}
use Rattle.c_grammar.proofs.LanguageBounds.{bounds}
use Rattle.c_grammar.proofs.LanguageCompletes.{completes}
use Rattle.c_grammar.proofs.LanguagePlaces.{is_read, misfit, too_deep, only}
use Rattle.c_grammar.specs.declared.token.Token.{Token}
use Rattle.c_grammar.specs.Leaves.{Leaf, kind_of, sample, leaf_of, leaves_of}
use Rattle.c_syntax.specs.Trees.{ProgramTree}
use Rattle.c_reader.specs.declared.syntax_err.SyntaxErr.{SyntaxErr}
use Rattle.c_reader.specs.declared.syntax_err.SyntaxErr.TheVariants.{At, TooDeep, OutOfMemory}
use Rattle.c_reader.specs.Grammar.{grammar, Parse}
use Rattle.c_reader.specs.Shapes.{place_of, program_of}
use Rattle.c_reader.specs.Readings.{FailsAt, Fails}
use Rattle.c_reader.specs.ProgramReadings.{nesting_limit, IsProgram, MisfitAt, Refuses, IsReadUnlessMemory}
use Rattle.c_reader.specs.Rows.{Found}
use Rattle.c_reader.proofs.Ends.{real, stops_there}

one_more : {A : Type 0} (front others : List A) (x : A) → front ++ x ∷ others ≡ (front ++ x ∷ []) ++ others
one_more front others x = sym (append_assoc front (x ∷ []) others)

pub found_program : (text : List Leaf) (program : ProgramTree) → Found (Whole Program 0) nesting_limit text program_of program [] → IsProgram text program
found_program text program f =
    let s = sound grammar (completes kind_of sample real) f.run in
    record {
      accepted = record { tree = f.parse; spelled = s.0; same_leaves = sym (append-nil (leaves f.parse)) ∙ sym s.1; nesting = s.2 };
      shape = f.shape;
    }

pub refused_program : (text : List Leaf) (fault : SyntaxErr) → Fails (Whole Program 0) nesting_limit text fault → Refuses text fault
refused_program text (At place) f = record {
  behind = f.behind;
  stands = f.stands;
  misfit = misfit kind_of sample real nesting_limit text f.behind f.run;
  there = stops_there text f.behind f.run;
}
refused_program text (TooDeep place) f = record {
  behind = f.behind;
  stands = f.stands;
  too_deep = too_deep kind_of sample real nesting_limit text f.behind f.run;
}
refused_program text OutOfMemory f = tt

beyond : (leaf : Leaf) (others more : List Leaf) (tree tree' : Parse) → Kept others more tree (leaf ∷ others) tree' [] → ⊥
beyond leaf others more tree tree' (past le) = absurd (omega (arith, le))
beyond leaf others more tree tree' (same e [] a b) = absurd (omega (arith, ap length a))
beyond leaf others more tree tree' (same e (x ∷ common) a b) = absurd (cc b)

-- Tokens behind a program don't fit.
pub trailing_program : (text : List Leaf) (parse : Parse) (leaf : Leaf) (others : List Leaf) → Run grammar (Whole Program 0) nesting_limit text (Done parse (leaf ∷ others)) → MisfitAt text leaf.place
trailing_program text parse leaf others run =
    let s = sound grammar (completes kind_of sample real) run in
    record {
      behind = leaf ∷ others;
      stands = refl;
      misfit = record {
        front = leaves parse;
        passed = s.1;
        before = record { more = []; accepted = record { tree = parse; spelled = s.0; same_leaves = sym (append-nil (leaves parse)); nesting = s.2 } };
        none = λ next rest here larger begins.
            let same_next : next ≡ leaf = cc here in
            let begins1 = subst (λ x. BeginsAccepted grammar Program 0 larger (leaves parse ++ x ∷ [])) same_next begins in
            beyond leaf others begins1.more parse begins1.accepted.tree (exact grammar (tells kind_of sample) (bounds kind_of sample) run (leaves parse ++ leaf ∷ []) others begins1.more ((leaves parse ++ leaf ∷ []) ++ begins1.more) (s.1 ∙ one_more (leaves parse) others leaf) refl larger begins1.accepted.tree [] (is_read kind_of sample real larger ((leaves parse ++ leaf ∷ []) ++ begins1.more) begins1.accepted));
      };
      there = λ ends. tt;
    }

-- A program is read whole, as its tree.
pub only_done : (text : List Leaf) (program tree : ProgramTree) (behind : List Leaf) → IsProgram text program → Found (Whole Program 0) nesting_limit text program_of tree behind → (tree ≡ program) × (behind ≡ [])
only_done text program tree behind is f =
    let a = only kind_of sample real nesting_limit text (Done f.parse behind) f.run nesting_limit is.accepted in
    (sym f.shape ∙ ap program_of a.0 ∙ is.shape, a.1)

-- and no program is refused
pub only_bad : (text : List Leaf) (program : ProgramTree) (place : Pos) → IsProgram text program → FailsAt Bad (Whole Program 0) nesting_limit text place → ⊥
only_bad text program place is f =
    only kind_of sample real nesting_limit text (Failed Bad f.behind) f.run nesting_limit is.accepted

pub only_deep : (text : List Leaf) (program : ProgramTree) (place : Pos) → IsProgram text program → FailsAt Deep (Whole Program 0) nesting_limit text place → ⊥
only_deep text program place is f =
    let a : nesting_limit < height grammar is.accepted.tree = only kind_of sample real nesting_limit text (Failed Deep f.behind) f.run nesting_limit is.accepted in
    absurd (omega (arith, a, is.accepted.nesting))

pub only_refused : (text : List Leaf) (program : ProgramTree) (fault : SyntaxErr) → Fails (Whole Program 0) nesting_limit text fault → IsProgram text program → IsReadUnlessMemory (Err fault) program
only_refused text program (At place) f is = only_bad text program place is f
only_refused text program (TooDeep place) f is = only_deep text program place is f
only_refused text program OutOfMemory f is = tt

-- ---- tokens behind a program

no_end : true ≡ false → ⊥
no_end clash = cc clash

pub trailing_refused : (text : List Leaf) (tokens : List Token) (tree : ProgramTree) (place : Pos) → Found (Whole Program 0) nesting_limit text program_of tree (leaves_of tokens) → (length tokens == 0) ≡ false → place ≡ place_of (leaves_of tokens) → MisfitAt text place
trailing_refused text [] tree place f some at = absurd (no_end some)
trailing_refused text (token ∷ tokens) tree place f some at = subst (MisfitAt text) (sym at) (trailing_program text f.parse (leaf_of token) (leaves_of tokens) f.run)

pub trailing_only : (text : List Leaf) (program tree : ProgramTree) (tokens : List Token) → Found (Whole Program 0) nesting_limit text program_of tree (leaves_of tokens) → (length tokens == 0) ≡ false → IsProgram text program → ⊥
trailing_only text program tree [] f some is = no_end some
trailing_only text program tree (token ∷ tokens) f some is =
    let none : leaf_of token ∷ leaves_of tokens ≡ [] = (only_done text program tree (leaves_of (token ∷ tokens)) is f).1 in
    cc none

-- ---- nothing behind a program

pub whole_found : (text : List Leaf) (tokens : List Token) (tree : ProgramTree) → Found (Whole Program 0) nesting_limit text program_of tree (leaves_of tokens) → (length tokens == 0) ≡ true → IsProgram text tree
whole_found text [] tree f none = found_program text tree f
whole_found text (token ∷ tokens) tree f none = absurd (omega (arith, eqb-true (length (token ∷ tokens)) 0 none))
