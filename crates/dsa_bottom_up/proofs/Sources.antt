-- What is known of the code of a program before its graphs are made, and what its graphs come to.
use Rattle.std.proofs.Common.{◌≡◌, ℕ, ◌<◌, ◌≤◌, List, [], length, refl, subst}
use Rattle.std.proofs.lemmas.List.{length-map}
use Rattle.c_typed.specs.Typed.{Values, Program}
use Rattle.tac_ir.specs.declared.program.Tac as memory_tac
use Rattle.tac_ir.specs.Code.{Known}
use Rattle.tac_ir.specs.States.{InStart}
use Rattle.tac_ir.specs.Views.{tac_of, function_in}
use Rattle.tac_ir.specs.Groups.{AreGroups, Makes}
use Rattle.heap_graph.specs.Graphs.{ProgramGraphs}
use Rattle.heap_graph.specs.Closed.{Closed}
use Rattle.dsa_bottom_up.specs.Below.{LeastBelow}
use Rattle.heap_graph.specs.Least.{Least}
use Rattle.dsa_bottom_up.specs.Smallest.{IsSmallest}
use Rattle.call_graph.specs.declared.group_lists.Groups.{Groups}
use Rattle.call_graph.specs.GroupViews.{groups_of, IsOf}
use Rattle.dsa_bottom_up.specs.AssembledGroups.Making.{IsGrouped}
use Rattle.dsa_bottom_up.proofs.LoweredPoints.Programs.{program_stands}
use Rattle.dsa_bottom_up.proofs.Calls.{names_known, calls_known}
use Rattle.dsa_bottom_up.specs.Counting.{within, counted_values}
use Rattle.dsa_bottom_up.specs.declared.program.Counts.{Counts}
use Rattle.dsa_bottom_up.specs.Refused.{limit, AreFew, StartCounts, IsRefused}
use Rattle.dsa_bottom_up.specs.Graphed.{IsSource, family_of, HasGraphs, IsOvergrown}

module _ (program : Program) (first : Values) (tac : memory_tac.Tac) (counts : Counts) (source : IsSource program first tac counts) where
  -- calls by name are of functions of the program
  pub calls : (caller function : ℕ) → Makes (tac_of tac) caller (Known function) → function < length (tac_of tac).functions
  calls = calls_known program (tac_of tac) source.code

  -- its groups are those of code that stands
  pub grouped : (made : Groups) → AreGroups (tac_of tac) (groups_of made) → IsOf tac made → IsGrouped tac made
  grouped made are is = record {
    stands = program_stands program (tac_of tac) source.code source.well_typed source.storable source.few_slots;
    literals = source.literals;
    groups = are;
    of = is;
    known_first = λ at site function arguments there.
        subst (λ count. function < count) (length-map tac.functions.items (function_in tac.types))
        (names_known program (tac_of tac) source.code InStart (tac_of tac).start refl at site function arguments there);
  }

  -- graphs that are closed and the smallest are those of the program
  pub graphed : (groups : List (List ℕ)) (graphs : ProgramGraphs) → AreGroups (tac_of tac) groups → Closed (family_of (tac_of tac) groups graphs)
      → ((tac_of tac).start.parameters ≡ 0 → IsSmallest (family_of (tac_of tac) groups graphs)) → ((tac_of tac).start.parameters ≡ 0 → LeastBelow (family_of (tac_of tac) groups graphs) (length groups))
      → ((tac_of tac).start.parameters ≡ 0 → Least (family_of (tac_of tac) groups graphs))
      → AreFew (family_of (tac_of tac) groups graphs) counts.functions.items (length groups)
      → ((count : ℕ) × StartCounts (family_of (tac_of tac) groups graphs) counts.start count × (count ≤ limit)) → HasGraphs program first (tac_of tac) groups graphs
  graphed groups graphs are closed smallest least_below least few few_first = record {
    code = source.code;
    are = are;
    closed = closed;
    smallest = smallest source.code.parameters;
    least_below = least_below source.code.parameters;
    few = subst (λ own. AreFew (family_of (tac_of tac) groups graphs) own (length groups)) source.counted.functions few;
    few_first = subst (λ own. (count : ℕ) × StartCounts (family_of (tac_of tac) groups graphs) own count × (count ≤ limit)) source.counted.start few_first;
    least = least source.code.parameters;
  }

  -- a group that begins with too many nodes is one of the program's
  pub overgrown : (groups : List (List ℕ)) (count : ℕ) → AreGroups (tac_of tac) groups → ((tac_of tac).start.parameters ≡ 0 → IsRefused (tac_of tac) groups counts.functions.items counts.start count) → IsOvergrown program first count
  overgrown groups count are refused = record {
    tac = tac_of tac;
    code = source.code;
    groups = groups;
    are = are;
    refused = subst (λ own. IsRefused (tac_of tac) groups own (counted_values (within program []) first) count) source.counted.functions
        (subst (λ own. IsRefused (tac_of tac) groups counts.functions.items own count) source.counted.start (refused source.code.parameters));
  }
