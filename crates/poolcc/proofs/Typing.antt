-- The typed tree of an accepted text is one that is compiled.
use Rattle.std.proofs.Common.{◌≡◌, ℕ, ◌≤◌, List, length, is_some, refl, sym, ap, subst}
use Rattle.c_syntax.specs.Trees.{ProgramTree}
use Rattle.c_typed.specs.Typed.{Program}
use Rattle.c_rules.specs.Elaborated.{typed_of}
use Rattle.c_rules.specs.NamedItems.{named_types}
use Rattle.accepted_programs.proofs.Premises.{Premises, accepted_premises}
use Rattle.accepted_programs.proofs.CTypesArguments.Program.{limits_give_few_arguments}
use Rattle.accepted_programs.proofs.FewParameters.{few_parameters}
use Rattle.accepted_programs.proofs.FewSlots.{accepted_few_slots}
use Rattle.accepted_programs.proofs.CProgramDepths.Programs.{accepted_depth}
use Rattle.poolcc.specs.Compiled.{IsAccepted, IsCompilable}
use Rattle.poolcc.specs.Exec.{source_limit}
use Rattle.poolcc.proofs.Sizes.{nodes_within}

tree_compilable : (text : List ℕ) (program : ProgramTree) → length text ≤ source_limit → IsAccepted text program → IsCompilable (typed_of program)
tree_compilable text program short accepted =
    let reads = accepted.reads.reads in
    let premises : Premises (typed_of program) =
    accepted_premises text reads.leaves program (typed_of program) (named_types program) reads.divides reads.spelled accepted.typed refl refl (ap is_some accepted.within) in
    record {
      well_typed = premises.well_typed;
      storable = premises.storable;
      named = named_types program;
      within = accepted.within;
      small = nodes_within text program short accepted;
      shallow = accepted_depth reads.leaves program reads.spelled.accepted reads.spelled.shape;
      parameters = few_parameters program accepted.within;
      few = limits_give_few_arguments program accepted.typed accepted.within;
      few_slots = accepted_few_slots program (typed_of program) (named_types program) refl refl accepted.within;
    }

pub accepted_compilable : (text : List ℕ) (program : ProgramTree) (typed : Program) → length text ≤ source_limit → IsAccepted text program → typed ≡ typed_of program → IsCompilable typed
accepted_compilable text program typed short accepted elaborated = subst IsCompilable (sym elaborated) (tree_compilable text program short accepted)
