-- The expressions of the typed tree of a program whose text is accepted nest no deeper than `greatest_depth`.
use Rattle.std.proofs.Common.{◌≡◌, ◌≤◌, List, ap, arith}
use Rattle.c_grammar.specs.Prefixes.{Accepted}
use Rattle.c_grammar.specs.Forms.{Program}
use Rattle.c_grammar.specs.Leaves.{Leaf}
use Rattle.c_syntax.specs.Trees.{ProgramTree}
use Rattle.c_syntax.specs.SyntaxDepths as S
use Rattle.c_typed.specs.TypedDepths.{program_depth, greatest_depth}
use Rattle.c_reader.specs.Grammar.{grammar}
use Rattle.c_reader.specs.Shapes.{program_of}
use Rattle.c_rules.specs.Elaborated.{typed_of}
use Rattle.accepted_programs.proofs.CReaderDepths.Programs.{syntax_depth}
use Rattle.c_rules.proofs.Depths.Programs.{typed_depth}

-- The reader lets 200 nodes of syntax nest, and at most three typed nodes are made of one. The premises are the two fields of `IsProgram`
-- (c_reader/specs/Readings.antt).
pub accepted_depth : (leaves : List Leaf) (program : ProgramTree) (accepted : Accepted grammar Program 0 200 leaves) → program_of accepted.tree ≡ program → program_depth (typed_of program) ≤ greatest_depth
accepted_depth leaves program accepted shape = omega (arith, typed_depth program, ap S.program_depth shape, syntax_depth 200 leaves accepted)
