-- What is told of the graph of a group is kept on the way to the one that is closed.
use Rattle.std.proofs.Common.{◌≡◌, ℕ, List, length, Option, sym, ap, subst, ◌∙◌}
use Rattle.std.proofs.lemmas.List.{length-map}
use Rattle.c_typed.specs.Table.{structs_in}
use Rattle.tac_ir.specs.declared.register.FunctionId.{FunctionId}
use Rattle.tac_ir.specs.Views.{tac_of}
use Rattle.heap_graph.specs.Graphs.{Name, Graph}
use Rattle.heap_graph.specs.Targets.{has_target}
use Rattle.heap_graph.specs.Structures.{AreMade}
use Rattle.heap_graph.specs.Merging.{IsSound}
use Rattle.heap_graph.specs.Frozen.{graph_with}
use Rattle.heap_graph.specs.declared.program.FunctionGraph.{FunctionGraph}
use Rattle.dsa_inlining.specs.CallCopies.Telling.{ArraysTold, OnlyAsked}
use Rattle.graph_unification.specs.Going.{GoesOn}
use Rattle.graph_unification.proofs.Goes.{goes_then}
use Rattle.dsa_local.specs.Told.{NamesTold}
use Rattle.dsa_local.proofs.InnerCalls.Kept.{calls_joined_kept, classes_joined_kept}
use Rattle.dsa_local.specs.Local.{IsJoinedGroup}
use Rattle.dsa_local.proofs.Keeping.{EachSame, joined_kept}
use Rattle.dsa_local.specs.Rounds.{Settled}
use Rattle.dsa_local.specs.Growing.{OnlyFlagsGrow, OnlyArrays}
use Rattle.dsa_local.specs.Sizes.{SizesTold, AsksOwner}
use Rattle.dsa_local.proofs.Grown.{grown_then}
use Rattle.dsa_inlining.specs.declared.group.Frozen.{Frozen}
use Rattle.dsa_inlining.specs.GroupFreezing.Groups.{IsFrozenGroup}
use Rattle.dsa_inlining.specs.Kept.{IsFrozen}
use Rattle.dsa_inlining.specs.Owners.{is_owner, names_in}
use Rattle.dsa_inlining.specs.declared.before.Crossings.{Crossings}
use Rattle.dsa_inlining.specs.Before.{GraphsBefore, is_inside}
use Rattle.dsa_inlining.specs.Crossings.{owners_in, AllReached, NumbersApart, AreCrossed, AllCopiesTold}
use Rattle.dsa_inlining.specs.Asking.{AsksCall}
use Rattle.dsa_inlining.proofs.Arrays.{only_flags, settled_still, sizes_still}
use Rattle.dsa_inlining.proofs.Keeping.{crossings_kept}
use Rattle.dsa_bottom_up.specs.Assembled.{IsAssembled}
use Rattle.dsa_bottom_up.specs.Assembling.{TellEach}
use Rattle.dsa_bottom_up.proofs.Leading.{LeadsWanted, only_asked}

-- what is told of a graph of a group from its calls out of it on
pub record IsCrossing (before : GraphsBefore) (group : Option ℕ) (owners : List (Option FunctionId)) (all : List Crossings) (graph : Graph) : Type 0 where
  pub sound : IsSound (structs_in before.tac.types) graph
  pub joined : IsJoinedGroup (tac_of before.tac) (owners_in owners) (is_inside before.groups group) graph
  pub crossed : AreCrossed before group owners all graph

module _ (before : GraphsBefore) (made : AreMade (structs_in before.tac.types)) (group : Option ℕ) (owners : List (Option FunctionId)) where
  -- the calls out of the group have their copies
  pub crossing_first : (all : List Crossings) (begun graph : Graph) → IsSound (structs_in before.tac.types) begun → IsSound (structs_in before.tac.types) graph → GoesOn (structs_in before.tac.types) begun graph
      → IsJoinedGroup (tac_of before.tac) (owners_in owners) (is_inside before.groups group) begun → NamesTold (tac_of before.tac) (owners_in owners) graph → AreCrossed before group owners all graph
      → IsCrossing before group owners all graph
  crossing_first all begun graph from sound goes joined told crossed = record {
    sound = sound;
    joined = record {
      told = told;
      named = goes.named joined.named;
      classes = classes_joined_kept (structs_in before.tac.types) made (tac_of before.tac) (is_inside before.groups group) begun graph from goes joined.classes;
      calls = λ caller is. calls_joined_kept (structs_in before.tac.types) made (tac_of before.tac) (is_inside before.groups group) caller begun graph from goes (joined.calls caller is);
    };
    crossed = crossed;
  }

  -- and have them still where the graph goes on
  pub crossing_next : (all : List Crossings) (old new : Graph) → IsSound (structs_in before.tac.types) new → GoesOn (structs_in before.tac.types) old new → EachSame old new
      → IsCrossing before group owners all old → IsCrossing before group owners all new
  crossing_next all old new sound goes same its = record {
    sound = sound;
    joined = joined_kept (tac_of before.tac) made (owners_in owners) (is_inside before.groups group) old new its.sound goes (λ name own. same name) its.joined;
    crossed = crossings_kept before group owners all old new made its.sound goes same its.crossed;
  }

  -- once its points are settled and sizes are told
  pub crossing_sized : (all : List Crossings) (begun crossed settled sized : Graph) → IsSound (structs_in before.tac.types) begun → IsSound (structs_in before.tac.types) crossed → IsSound (structs_in before.tac.types) settled
      → IsSound (structs_in before.tac.types) sized → GoesOn (structs_in before.tac.types) begun crossed → GoesOn (structs_in before.tac.types) crossed settled → GoesOn (structs_in before.tac.types) settled sized
      → IsJoinedGroup (tac_of before.tac) (owners_in owners) (is_inside before.groups group) begun → NamesTold (tac_of before.tac) (owners_in owners) crossed → AreCrossed before group owners all crossed
      → EachSame crossed settled → ((name : Name) → sized.targets name ≡ settled.targets name) → IsCrossing before group owners all sized
  crossing_sized all begun crossed settled sized from first second third a b c joined told are same names =
      crossing_next all settled sized third c (λ name. ap has_target (names name)) (crossing_next all crossed settled second b same (crossing_first all begun crossed from first a joined told are))

  -- the graph that was made, with what is kept of it
  pub assembled : (all : List Crossings) (begun typed sized told : Graph) (frozen : Frozen) (functions : List FunctionGraph) → AllReached before group owners → GoesOn (structs_in before.tac.types) begun told → IsCrossing before group owners all sized
      → NumbersApart all → LeadsWanted before group owners all begun typed → OnlyFlagsGrow typed sized → OnlyArrays (AsksOwner (tac_of before.tac) (owners_in owners) typed) typed sized → OnlyAsked (AsksCall before all sized) sized told
      → IsSound (structs_in before.tac.types) told → GoesOn (structs_in before.tac.types) sized told → ArraysTold sized told → Settled (tac_of before.tac) (owners_in owners) sized
      → SizesTold (tac_of before.tac) (owners_in owners) sized → AllCopiesTold before all told → IsFrozenGroup before.tac.types before.tac owners told frozen
      → TellEach told frozen.names.items all functions → IsAssembled before group owners begun frozen.graph functions
  assembled all begun typed sized told frozen functions reached goes its apart leads grows sizes_asked copies_asked sound last arrays settled sizes copies kept each =
      let now = crossing_next all sized told sound last (λ name. ap has_target (arrays.names name)) its in
      let named = now.joined.named in
      record {
        made = told;
        crossings = all;
        reached = reached;
        goes = goes;
        sound = sound;
        told = now.joined.told;
        named = named;
        classes = now.joined.classes;
        calls = now.joined.calls;
        settled = settled_still (tac_of before.tac) sized told its.sound named arrays (owners_in owners) settled;
        sizes = sizes_still (tac_of before.tac) sized told its.sound named arrays (owners_in owners) sizes;
        crossed = now.crossed;
        apart = apart;
        copies = copies;
        size = sym (length-map functions (λ (function : FunctionGraph). function.names)) ∙ ap length each.names' ∙ kept.size;
        frozen = subst (λ names. IsFrozen (tac_of before.tac) (is_owner owners) told (graph_with before.tac.types frozen.graph (names_in owners names))) (sym each.names') kept.kept;
        found = kept.found;
        embeddings = each.embeddings;
        typed = typed;
        leads = leads;
        grows = grown_then typed sized told grows (only_flags (structs_in before.tac.types) sized told its.sound named arrays);
        only = only_asked before owners all typed sized told grows sizes_asked arrays copies_asked;
      }

  -- one step after the other
  pub goes_all : (one two three four five : Graph) → IsSound (structs_in before.tac.types) one → GoesOn (structs_in before.tac.types) one two → GoesOn (structs_in before.tac.types) two three
      → GoesOn (structs_in before.tac.types) three four → GoesOn (structs_in before.tac.types) four five → GoesOn (structs_in before.tac.types) one five
  goes_all one two three four five sound a b c d =
      let then = goes_then (structs_in before.tac.types) made in
      then one four five sound (then one three four sound (then one two three sound a b) c) d
