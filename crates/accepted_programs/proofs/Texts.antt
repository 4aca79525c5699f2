-- A program that is read from a text has at most one node for each byte, and one for its end.
use Rattle.std.proofs.Common.{ℕ, suc, ◌≤◌, List, length, ap, arith}
use Rattle.run_theory.specs.Places.{first_place}
use Rattle.c_grammar.specs.Leaves.{Leaf}
use Rattle.c_syntax.specs.Trees.{ProgramTree}
use Rattle.c_lexer.specs.Tokens.{Divides}
use Rattle.c_syntax.specs.SyntaxNodes.{program_nodes}
use Rattle.c_reader.specs.ProgramReadings.{IsProgram}
use Rattle.accepted_programs.proofs.Filling.{size_leaves, is_of}
use Rattle.accepted_programs.proofs.Lengths.{leaves_within}
use Rattle.accepted_programs.proofs.CReaderSizes.Programs.{program_sized}

-- It has at most one node for each token.
pub nodes_within_leaves : (leaves : List Leaf) (program : ProgramTree) → IsProgram leaves program → program_nodes program ≤ length leaves
nodes_within_leaves leaves program is =
    omega (arith, ap program_nodes is.shape, program_sized is.accepted.tree (is_of is.accepted.spelled), size_leaves is.accepted.tree, ap length is.accepted.same_leaves)

pub nodes_within_text : (text : List ℕ) (leaves : List Leaf) (program : ProgramTree) → Divides first_place text leaves → IsProgram leaves program → program_nodes program ≤ suc (length text)
nodes_within_text text leaves program divides is = omega (arith, nodes_within_leaves leaves program is, leaves_within _ _ text leaves divides)
