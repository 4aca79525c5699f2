-- The graph of `start` is mapped to that of each other closed family of which all is told.
use Rattle.std.proofs.Common.{◌≡◌, ℕ, zero, suc, true, false, List, [], ◌∷◌, length, Option, Some, None, refl, ap, subst}
use Rattle.std.proofs.lemmas.Bool.{false≢true}
use Rattle.std.proofs.lemmas.Option.{none-some, same_Some}
use Rattle.tac_ir.specs.declared.register.FunctionId.{FunctionId}
use Rattle.tac_ir.specs.States.{Owner, InStart, InFunction}
use Rattle.tac_ir.specs.Views.{tac_of}
use Rattle.heap_graph.specs.Graphs.{Target, Graph, ProgramGraphs}
use Rattle.heap_graph.specs.Merging.{GraphMap, Maps}
use Rattle.heap_graph.specs.Closed.{Family, graph_of, same_group, is_start, Closed}
use Rattle.graph_unification.specs.Memory.{owner_of}
use Rattle.heap_graph.specs.declared.frozen.FrozenGraph.{FrozenGraph}
use Rattle.heap_graph.specs.declared.program.FunctionGraph.{FunctionGraph}
use Rattle.heap_graph.specs.declared.program.ProgramGraphs as memory_graphs
use Rattle.heap_graph.specs.Completed.{completed, HasNodes}
use Rattle.heap_graph.proofs.CompletedGraph.{closed_has_nodes}
use Rattle.call_graph.specs.GroupViews.{groups_of}
use Rattle.dsa_local.specs.Mentioned.{is_among}
use Rattle.dsa_local.specs.Told.{NoCopies}
use Rattle.dsa_local.proofs.GroupBegins.Completing.{closed_fits}
use Rattle.dsa_local.proofs.InnerCalls.Completing.{classes_completed}
use Rattle.dsa_local.specs.FirstTold.{FirstTold}
use Rattle.dsa_local.specs.Keeping.{FirstFits, Keeps}
use Rattle.dsa_local.proofs.FirstValues.Completing.{first_completed, first_alone}
use Rattle.dsa_local.specs.Local.{LeadsJoined}
use Rattle.dsa_inlining.specs.Before.{GraphsBefore, is_out}
use Rattle.dsa_inlining.specs.Crossings.{owners_in}
use Rattle.dsa_bottom_up.specs.Assembled.{IsAssembled}
use Rattle.dsa_bottom_up.specs.AssembledGroups.Making.{IsGrouped, family_at, BeginsWith, IsMaking}
use Rattle.dsa_bottom_up.specs.Shown.{function_in, ShowsOwners}
use Rattle.dsa_bottom_up.proofs.Starting.{HasStart, start_owner_shown}
use Rattle.dsa_bottom_up.specs.Mapping.{GroupMaps, MapsOwner, MapsBelow, KeepsCertain, FlagsBelow}
use Rattle.dsa_bottom_up.specs.LeastGraphs.Making.{other_at}
use Rattle.dsa_bottom_up.proofs.SamePoints.{with_copies}
use Rattle.dsa_bottom_up.proofs.CopyTargets.{copies_sound}
use Rattle.dsa_bottom_up.proofs.StaticNames.{global_fits, literal_fits}
use Rattle.dsa_bottom_up.proofs.OneGroup.{function_closed, group_kept}

-- what is known of the graph of `start` before its calls are joined: first values were stored into one in which its names are
pub record IsStartBegun (before : GraphsBefore) (begun : Graph) : Type 0 where
  pub joined : Graph
  pub leads : LeadsJoined (tac_of before.tac) (InStart ∷ []) (λ number. false) joined
  pub keeps : Keeps (tac_of before.tac) joined begun
  pub copies : NoCopies begun

module _ (before : GraphsBefore) (start : (tac_of before.tac).start.parameters ≡ 0) (grouped : IsGrouped before.tac before.groups) (making : IsMaking before (length (groups_of before.groups))) (begun : Graph)
    (graph : FrozenGraph) (own : FunctionGraph) (assembled : IsAssembled before None (None ∷ []) begun graph (own ∷ [])) (begins_so : IsStartBegun before begun) (all : memory_graphs.ProgramGraphs)
    (begins : BeginsWith before (length (groups_of before.groups)) all) (has : HasStart graph own all) (graphs : ProgramGraphs) (closed : Closed (other_at before graphs)) (maps : GroupMaps)
    (below : MapsBelow (family_at before all) (other_at before graphs) (length (groups_of before.groups)) maps) (flags : FlagsBelow (family_at before all) (other_at before graphs) (length (groups_of before.groups)) maps) where
  abbrev alone : List (Option FunctionId)
  alone = None ∷ []

  abbrev family : Family
  family = family_at before all

  abbrev other : Family
  other = other_at before graphs

  abbrev theirs : Graph
  theirs = graph_of other InStart

  pub same : (owner : Owner) → is_among owner (owners_in alone) ≡ true → graph_of other owner ≡ theirs
  same InStart among = refl
  same (InFunction function) among = absurd (false≢true among)

  pub apart : (owner : Owner) → is_among owner (owners_in alone) ≡ true → (called : ℕ) → is_out before.groups None called ≡ true → same_group other owner called ≡ false
  apart InStart among called out = refl
  apart (InFunction function) among called out = absurd (false≢true among)

  sound : HasNodes theirs
  sound = closed_has_nodes other theirs is_start InStart closed.last

  abbrev no_copies : ℕ → Option Target
  no_copies copy = None

  more_sound : HasNodes (with_copies theirs no_copies)
  more_sound = copies_sound theirs no_copies sound (λ copy. refl)

  -- first values are told of their graph, and of the completed one
  told : FirstTold other.tac theirs
  told = first_alone other sound closed.first

  first_fits : (some : ℕ) → FirstFits (tac_of before.tac) (completed some theirs)
  first_fits some = record {
    told = first_completed theirs sound some other.tac told;
    own = theirs;
    named = told;
    globals = λ number global is there.
        let fits = global_fits other InStart no_copies some more_sound closed.last.globals closed.last.literals number global is there in
        record { target = fits.target; is = fits.is; slot = fits.slot; element = fits.element; flags = fits.flags };
    literals = λ number literal is there.
        let fits = literal_fits other InStart no_copies some more_sound closed.last.globals closed.last.literals number literal is there in
        record { target = fits.target; is = fits.is; slot = fits.slot; element = fits.element; flags = fits.flags };
  }

  begin : (some : ℕ) → (map : GraphMap) × Maps (tac_of before.tac).structs begun (completed some theirs) map
  begin some =
      let first = begins_so.leads (completed some theirs)
      (closed_fits other (InStart ∷ []) InStart is_start some start closed.last (λ owner function among is. record { closed = function_closed other closed owner function is; graph = same owner among }))
      (classes_completed some other closed (λ number. false) theirs (λ function is. absurd (false≢true is))) (λ caller is. absurd (false≢true is)) in
      begins_so.keeps.leads (completed some theirs) first.0 first.1 (first_fits some)

  pub shows : ShowsOwners all (None ∷ []) (own ∷ [])
  shows zero owner at = subst (λ o. function_in all (owner_of o) ≡ Some own) (same_Some None owner at) (ap Some has.function)
  shows (suc place) owner at = absurd (none-some owner at)

  -- what was told of objects once types were final is told there
  pub start_told : (map : GraphMap) × MapsOwner (family_at before all) (other_at before graphs) (length (groups_of before.groups)) maps InStart map × KeepsCertain assembled.typed (graph_of (other_at before graphs) InStart) map
  start_told =
      let its = group_kept before grouped (length (groups_of before.groups)) making all begins graphs maps below None alone begun graph (own ∷ []) assembled InStart same apart
      (λ owner function among is. function_closed other closed owner function is) is_start closed.last flags
      begins_so.copies begin shows (start_owner_shown before graph own all grouped has) in
      (its.0, its.1 0 None refl, its.2)

  pub start_mapped : (map : GraphMap) × MapsOwner (family_at before all) (other_at before graphs) (length (groups_of before.groups)) maps InStart map
  start_mapped = (start_told.0, start_told.1)
