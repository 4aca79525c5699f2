-- The graphs that were made so far are closed below the next number.
use Rattle.std.proofs.Common.{ℕ, ◌<◌, subst, ltb-true}
use Rattle.tac_ir.specs.Views.{tac_of}
use Rattle.heap_graph.specs.Closed.{group_of}
use Rattle.heap_graph.specs.declared.program.ProgramGraphs.{ProgramGraphs}
use Rattle.dsa_local.proofs.CalledSteps.{target_within}
use Rattle.dsa_inlining.specs.Before.{GraphsBefore}
use Rattle.dsa_bottom_up.specs.AssembledGroups.Making.{IsGrouped, family_at, BeginsWith, IsMaking}
use Rattle.dsa_bottom_up.proofs.Members.{noted_before}
use Rattle.dsa_bottom_up.specs.Below.{ClosedBelow}
use Rattle.dsa_bottom_up.proofs.Outside.{group_is}

pub closed_so_far : (before : GraphsBefore) → IsGrouped before.tac before.groups → (number : ℕ) → IsMaking before number → (all : ProgramGraphs) → BeginsWith before number all → ClosedBelow (family_at before all) number
closed_so_far before grouped number making all begins = record {
  groups = making.closed all begins;
  classes = λ pointer c_type a b called first second below.
      let home = group_is before grouped a (target_within (tac_of before.tac) pointer c_type a first) in
      let less : home.group < number = subst (λ n. n < number) home.told (ltb-true (group_of (family_at before all) a) number below) in
      making.classes all begins pointer c_type a b called first second (noted_before before.groups number a home.group home.of less);
}
