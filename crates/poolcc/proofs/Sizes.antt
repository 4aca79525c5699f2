-- The typed tree of a text within the source limit has so many nodes at most.
use Rattle.std.proofs.Common.{ℕ, ◌≤◌, List, length, arith}
use Rattle.c_syntax.specs.Trees.{ProgramTree}
use Rattle.c_rules.specs.Elaborated.{typed_of}
use Rattle.c_typed.specs.TypedNodes.{program_nodes, greatest_nodes}
use Rattle.c_rules.proofs.Sizes.Programs.{typed_nodes}
use Rattle.accepted_programs.proofs.Texts.{nodes_within_text}
use Rattle.poolcc.specs.Compiled.{IsAccepted}
use Rattle.poolcc.specs.Exec.{source_limit}

pub nodes_within : (text : List ℕ) (program : ProgramTree) → length text ≤ source_limit → IsAccepted text program → program_nodes (typed_of program) ≤ greatest_nodes
nodes_within text program short accepted =
    let reads = accepted.reads.reads in
    omega (arith, typed_nodes program, nodes_within_text text reads.leaves program reads.divides reads.spelled, short)
