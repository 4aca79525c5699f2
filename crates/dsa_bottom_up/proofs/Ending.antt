-- Where the graphs of a program begin, with none made, and end, with all of them closed.
use Rattle.std.proofs.Common.{◌≡◌, ℕ, ◌<◌, true, [], length, Option, Some, None, refl, ap, arith}
use Rattle.std.specs.Prelude.{slice_get}
use Rattle.std.proofs.lemmas.Bool.{false≢true, ltb-true}
use Rattle.std.proofs.lemmas.Option.{slice_get_within}
use Rattle.tac_ir.specs.Views.{tac_of}
use Rattle.heap_graph.specs.Closed.{group_of, AreOne, Closed}
use Rattle.heap_graph.specs.declared.program.ProgramGraphs.{ProgramGraphs}
use Rattle.heap_graph.proofs.GroupNumbers.{in_own}
use Rattle.heap_graph.specs.Faults.{StartClosed, AreGrouped}
use Rattle.heap_graph.proofs.Split.{all_closed}
use Rattle.call_graph.specs.GroupViews.{groups_of}
use Rattle.dsa_inlining.specs.Before.{GraphsBefore}
use Rattle.dsa_bottom_up.specs.AssembledGroups.Making.{IsGrouped, family_at, BeginsWith, is_below, IsMaking}

-- each function of the program is in a group
pub all_grouped : (before : GraphsBefore) (all : ProgramGraphs) → IsGrouped before.tac before.groups → AreGrouped (family_at before all)
all_grouped before all grouped number within =
    let home = in_own (tac_of before.tac) (groups_of before.groups) grouped.groups (group_of (family_at before all) number) number within refl in
    slice_get_within (groups_of before.groups) (group_of (family_at before all) number) home.0 home.1

-- no group has its graph yet
pub making_begins : (before : GraphsBefore) → before.graphs ≡ [] → length before.functions ≡ length before.tac.functions.items → length before.escaping ≡ length before.tac.functions.items → IsMaking before 0
making_begins before none functions lists = record {
  graphs = ap length none;
  functions = functions;
  escaping = lists;
  reached = λ called group of less. absurd (omega (arith, less));
  closed = λ all begins at less. absurd (omega (arith, less));
  classes = λ all begins pointer c_type a b called first second among. none_below (AreOne (family_at before all) a b) (slice_get before.groups.group_of.items a) among;
  ascend = λ at graph less. absurd (omega (arith, less));
}
  where
    none_below : (P : Type 0) (found : Option ℕ) → is_below 0 found ≡ true → P
    none_below P None below = absurd (false≢true below)
    none_below P (Some group) below = let less : group < 0 = ltb-true group 0 below in absurd (omega (arith, less))

-- all groups have theirs, and `start` is closed
pub making_ends : (before : GraphsBefore) (all : ProgramGraphs) → IsGrouped before.tac before.groups → IsMaking before (length (groups_of before.groups)) → BeginsWith before (length (groups_of before.groups)) all
    → StartClosed (family_at before all) → Closed (family_at before all)
making_ends before all grouped making begins start = all_closed (family_at before all) (all_grouped before all grouped) (making.closed all begins) start
