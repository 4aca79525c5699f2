-- The groups and graphs of a program's code, where no group begins with more than 65,536 nodes, and how many it are where one does.
use Rattle.std.specs.Prelude.{◌≡◌, ℕ, ◌≤◌, List, [], length}
use Rattle.c_typed.specs.Typed.{Values, Program}
use Rattle.c_typed.specs.DefinitionViews.{LiteralsStand}
use Rattle.c_typed.specs.Programs.{IsWellTyped}
use Rattle.c_typed.specs.Sizes.{HasStorableTypes}
use Rattle.tac_ir.specs.declared.program.Tac as memory_tac
use Rattle.tac_ir.specs.Code.{Tac}
use Rattle.tac_ir.specs.Views.{tac_of}
use Rattle.tac_build.specs.ProgramCode.{Code}
use Rattle.tac_ir.specs.Groups.{AreGroups}
use Rattle.heap_graph.specs.Graphs.{ProgramGraphs}
use Rattle.heap_graph.specs.Closed.{Family, Closed}
use Rattle.dsa_bottom_up.specs.Below.{LeastBelow}
use Rattle.heap_graph.specs.Least.{Least}
use Rattle.dsa_bottom_up.specs.Smallest.{IsSmallest}
use Rattle.dsa_bottom_up.specs.Counted.{HaveFewSlots}
use Rattle.dsa_bottom_up.specs.Counting.{within, counted_values, counted_functions}
use Rattle.dsa_bottom_up.specs.declared.program.Counts.{Counts}
use Rattle.dsa_bottom_up.specs.Refused.{limit, AreFew, StartCounts, IsRefused}

-- so much the functions of a program count by themselves, and the first values of its variables
pub record AreCounts (program : Program) (first : Values) (counts : Counts) : Type 0 where
  pub functions : counts.functions.items ≡ counted_functions program
  pub start : counts.start ≡ counted_values (within program []) first

-- the code is that of a program that is known to have graphs
pub record IsSource (program : Program) (first : Values) (tac : memory_tac.Tac) (counts : Counts) : Type 0 where
  pub code : Code program (tac_of tac)
  pub literals : LiteralsStand tac.types tac.literals.items
  pub well_typed : IsWellTyped program
  pub storable : HasStorableTypes program
  pub few_slots : HaveFewSlots program.structs
  pub counted : AreCounts program first counts

abbrev pub family_of : Tac → List (List ℕ) → ProgramGraphs → Family
family_of tac groups graphs = record { tac = tac; groups = groups; graphs = graphs }

-- A program's code has groups and closed graphs, which are the least: they can be mapped into all others that are closed, also where only those
-- of the first groups are, and no flag can be taken away. None begins with too many nodes.
pub record HasGraphs (program : Program) (first : Values) (tac : Tac) (groups : List (List ℕ)) (graphs : ProgramGraphs) : Type 0 where
  pub code : Code program tac
  pub are : AreGroups tac groups
  pub closed : Closed (family_of tac groups graphs)
  pub smallest : IsSmallest (family_of tac groups graphs)
  pub least_below : LeastBelow (family_of tac groups graphs) (length groups)
  pub few : AreFew (family_of tac groups graphs) (counted_functions program) (length groups)
  pub few_first : (count : ℕ) × StartCounts (family_of tac groups graphs) (counted_values (within program []) first) count × (count ≤ limit)
  pub least : Least (family_of tac groups graphs)

-- A program is refused for its graphs: the first group that begins with too many nodes begins with so many.
pub record IsOvergrown (program : Program) (first : Values) (count : ℕ) : Type 0 where
  pub tac : Tac
  pub code : Code program tac
  pub groups : List (List ℕ)
  pub are : AreGroups tac groups
  pub refused : IsRefused tac groups (counted_functions program) (counted_values (within program []) first) count
