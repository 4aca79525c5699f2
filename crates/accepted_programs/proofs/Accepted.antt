-- The typed tree of a text that is read and violates no rule is filled.
use Rattle.std.proofs.Common.{◌≡◌, List, []}
use Rattle.c_grammar.specs.Leaves.{Leaf}
use Rattle.c_syntax.specs.Trees.{ProgramTree}
use Rattle.c_rules.specs.Programs.{violations}
use Rattle.c_rules.specs.Elaborated.{typed_of}
use Rattle.c_reader.specs.ProgramReadings.{IsProgram}
use Rattle.c_typed.specs.Sizes.{IsFilled}
use Rattle.accepted_programs.proofs.CRulesFilled.Program.{elaboration_gives_filled}
use Rattle.accepted_programs.proofs.Read.{spelled_given}

pub accepted_filled : (leaves : List Leaf) (program : ProgramTree) → IsProgram leaves program → violations program ≡ [] → IsFilled (typed_of program)
accepted_filled leaves program spelled none = elaboration_gives_filled program (spelled_given leaves program spelled) none
