use Rattle.std.proofs.Common.{◌≡◌, ℕ, ◌<◌, length}
use Rattle.std.specs.Prelude.{slice_get}
use Rattle.c_typed.specs.Table.{Interned}
use Rattle.graph_unification.specs.Memory.{graph_in, IsGraph}
use Rattle.dsa_inlining.specs.Owners.{TellsAt}
use Rattle.dsa_inlining.proofs.names.names_of_owners.Given as goal

abbrev pub invariant-loop-owner : goal.invariant-loop-owner
invariant-loop-owner l = record {
  long : length l.names.items ≡ l.owner-index;
  told : (table : Interned) → IsGraph table l.graph → (n : ℕ) → n < l.owner-index → TellsAt (graph_in table l.graph) l.tac (slice_get l.owners n) (slice_get l.names.items n);
}
