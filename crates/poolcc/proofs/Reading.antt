-- What the reader answers of a text's tokens, as facts of the text.
use Rattle.std.proofs.Common.{◌≡◌, ℕ, List, sym, subst}
use Rattle.run_theory.specs.Places.{first_place}
use Rattle.c_grammar.specs.Leaves.{Leaf}
use Rattle.c_lexer.specs.Tokens.{Divides}
use Rattle.c_syntax.specs.Trees
use Rattle.c_reader.specs.ProgramReadings.{IsProgram}
use Rattle.poolcc.specs.Compiled.{Reads, ReadsAs}

module _ (text : List ℕ) (leaves : List Leaf) (divides : Divides first_place text leaves) (alone : (others : List Leaf) → Divides first_place text others → leaves ≡ others) where
  -- the program that was found, and no other
  pub reads_as : (program : Trees.ProgramTree) → IsProgram leaves program → ((other : Trees.ProgramTree) → IsProgram leaves other → program ≡ other) → ReadsAs text program
  reads_as program spelled only = record {
    reads = record { leaves = leaves; divides = divides; spelled = spelled };
    only = λ other reads. sym (only other (subst (λ those. IsProgram those other) (sym (alone reads.leaves reads.divides)) reads.spelled));
  }

  -- none was found, and there is none
  pub unread : ((program : Trees.ProgramTree) → IsProgram leaves program → ⊥) → (program : Trees.ProgramTree) → Reads text program → ⊥
  unread none program reads = none program (subst (λ those. IsProgram those program) (sym (alone reads.leaves reads.divides)) reads.spelled)
