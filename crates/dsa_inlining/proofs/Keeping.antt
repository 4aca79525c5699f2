-- What calls out of a group ask stays done while a graph goes on.
use Rattle.std.proofs.Common.{◌≡◌, ℕ, ◌<◌, List, length, get_or, Option, None, refl, sym, ap, subst, ◌∙◌}
use Rattle.std.proofs.lemmas.Option.{slice_get_within, slice_get-get_or}
use Rattle.c_typed.specs.Table.{structs_in}
use Rattle.tac_ir.specs.declared.register.FunctionId.{FunctionId}
use Rattle.tac_ir.specs.declared.register.Register.{Register}
use Rattle.tac_ir.specs.Code.{Op}
use Rattle.tac_ir.specs.States.{Owner}
use Rattle.tac_ir.specs.Views.{tac_of}
use Rattle.heap_graph.specs.Structures.{AreMade}
use Rattle.heap_graph.specs.Graphs.{Name, OfCopy, Graph}
use Rattle.heap_graph.specs.Targets.{has_target}
use Rattle.heap_graph.specs.Merging.{IsSound}
use Rattle.graph_unification.specs.Memory.{owner_of}
use Rattle.graph_unification.proofs.FittingNames.{target_there}
use Rattle.graph_unification.specs.Going.{GoesOn}
use Rattle.dsa_inlining.specs.declared.copies.Copies.{Copies}
use Rattle.dsa_inlining.specs.Copied.{numbers_in}
use Rattle.dsa_inlining.specs.CallCopies.Telling.{ArraysTold}
use Rattle.dsa_inlining.proofs.Carried.{copies_kept}
use Rattle.dsa_inlining.proofs.Kept.{Keeps, crossed_kept}
use Rattle.dsa_inlining.specs.declared.before.Crossings.{Crossings}
use Rattle.dsa_inlining.specs.Before.{GraphsBefore, graph_reached, nodes_reached}
use Rattle.dsa_inlining.specs.Crossings.{CopiesStand, UsesCopies, EntriesStand, OpCrosses, CallsCross, AreCrossed, EachStands}

-- what is kept where a graph with a program's structures goes on
abbrev pub Stays : GraphsBefore → (Graph → Type 0) → Type 0
Stays before told = Keeps (structs_in before.tac.types) told

module _ (before : GraphsBefore) (made : AreMade (structs_in before.tac.types)) where
  -- ---- one call, to one function

  pub stand_kept : (called : ℕ) (copies : Copies) → Stays before (CopiesStand before called copies)
  stand_kept called copies old new sound goes stand = record {
    reached = stand.reached;
    first = stand.first;
    next = stand.next;
    numbered = stand.numbered;
    copied = copies_kept (structs_in before.tac.types) made old new (nodes_reached before called stand.reached) (numbers_in copies) sound goes stand.copied;
  }

  pub uses_kept : (owner : Owner) (site : ℕ) (arguments : List Register) (called : ℕ) (own : Crossings) → Stays before (UsesCopies before owner site arguments called own)
  unfolding stand_kept
  uses_kept owner site arguments called own old new sound goes uses = record {
    copies = uses.copies;
    is = uses.is;
    stand = stand_kept called uses.copies old new sound goes uses.stand;
    crossed = crossed_kept (structs_in before.tac.types) made (tac_of before.tac) owner site arguments called (graph_reached before called uses.stand.reached) (numbers_in uses.copies) old new sound goes uses.crossed;
  }

  -- ---- the calls of one function

  pub entries_kept : (group : Option ℕ) (owner : Owner) (own : Crossings) → Stays before (EntriesStand before group owner own)
  entries_kept group owner own old new sound goes stand = λ site called copies is.
      let its = stand site called copies is in
      (stand_kept called copies old new sound goes its.0, its.1)

  pub op_kept : (group : Option ℕ) (owner : Owner) (own : Crossings) (op : Op) → Stays before (λ graph. OpCrosses before group owner own graph op)
  op_kept group owner own op old new sound goes crosses = λ site callee arguments called is target out live.
      uses_kept owner site arguments called own old new sound goes (crosses site callee arguments called is target out live)

  pub calls_kept : (group : Option ℕ) (owner : Owner) (own : Crossings) → Stays before (CallsCross before group owner own)
  calls_kept group owner own old new sound goes cross = λ function at op is there. op_kept group owner own op old new sound goes (cross function at op is there)

  -- ---- the calls of a group

  -- where the same names have targets
  crossings_stay : (group : Option ℕ) (owners : List (Option FunctionId)) (all : List Crossings) (old new : Graph) → IsSound (structs_in before.tac.types) old → GoesOn (structs_in before.tac.types) old new
      → ((name : Name) → has_target (new.targets name) ≡ has_target (old.targets name)) → AreCrossed before group owners all old → AreCrossed before group owners all new
  crossings_stay group owners all old new sound goes same crossed = record {
    size = crossed.size;
    entries = λ place owner own of_owner there. entries_kept group (owner_of owner) own old new sound goes (crossed.entries place owner own of_owner there);
    calls = λ place owner own of_owner there. calls_kept group (owner_of owner) own old new sound goes (crossed.calls place owner own of_owner there);
    names = λ number target is.
        let was = target_there old (OfCopy number) (old.targets (OfCopy number)) refl (sym (same (OfCopy number)) ∙ ap has_target is) in
        crossed.names number was.0 was.1;
  }

pub crossings_kept : (before : GraphsBefore) (group : Option ℕ) (owners : List (Option FunctionId)) (all : List Crossings) (old new : Graph) → AreMade (structs_in before.tac.types) → IsSound (structs_in before.tac.types) old
    → GoesOn (structs_in before.tac.types) old new → ((name : Name) → has_target (new.targets name) ≡ has_target (old.targets name)) → AreCrossed before group owners all old → AreCrossed before group owners all new
crossings_kept before group owners all old new made = crossings_stay before made group owners all old new

-- so do they where it is told of nodes that they are of arrays
pub crossings_told : (before : GraphsBefore) (group : Option ℕ) (owners : List (Option FunctionId)) (all : List Crossings) (old new : Graph) → AreMade (structs_in before.tac.types) → IsSound (structs_in before.tac.types) old
    → GoesOn (structs_in before.tac.types) old new → ArraysTold old new → AreCrossed before group owners all old → AreCrossed before group owners all new
crossings_told before group owners all old new made sound goes arrays = crossings_kept before group owners all old new made sound goes (λ name. ap has_target (arrays.names name))

-- each of the copies is at a call of an owner
pub stands_each : (before : GraphsBefore) (group : Option ℕ) (owners : List (Option FunctionId)) (all : List Crossings) (graph : Graph) → AreCrossed before group owners all graph → EachStands before all graph
stands_each before group owners all graph crossed place own site called copies there at =
    let within : place < length owners = subst (λ n. place < n) crossed.size (slice_get_within all place own there) in
    (crossed.entries place (get_or owners place None) own (slice_get-get_or owners place None within) there site called copies at).0
