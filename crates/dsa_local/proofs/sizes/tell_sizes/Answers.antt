use Rattle.std.proofs.Common.{◌≡◌, ◌+◌, [], drop, length, Some, refl, ap, subst, ◌∙◌}
use Rattle.std.specs.Prelude.{slice_get, option_map}
use Rattle.std.proofs.lemmas.Option.{slice_get_read, slice_get-map}
use Rattle.c_typed.specs.Table.{structs_in}
use Rattle.tac_ir.specs.Views.{tac_of}
use Rattle.heap_graph.specs.declared.scope.Scope.{Scope}
use Rattle.heap_graph.specs.Known.{owner_at}
use Rattle.graph_unification.specs.Memory.{graph_in}
use Rattle.graph_unification.proofs.Goes.{goes_same, goes_then}
use Rattle.dsa_local.specs.Rounds.{points_at, owners_of}
use Rattle.dsa_local.specs.Growing.{OnlyArrays}
use Rattle.dsa_local.specs.Sizes.{AllSizesTold, SizesTold, SizesGoOn, AsksPoint, AsksOwner}
use Rattle.dsa_local.proofs.RoundSteps.{next_of, none_left}
use Rattle.dsa_local.proofs.Grown.{grown_same, grown_then}
use Rattle.dsa_local.proofs.GrownPoints.{settled_grown}
use Rattle.dsa_local.proofs.ArraySteps.{arrays_same, arrays_then, arrays_more, owner_asked}
use Rattle.dsa_local.proofs.SizeSteps.{sizes_begin, sizes_on, sizes_end, all_sizes_grown}
use Rattle.dsa_local.proofs.sizes.tell_sizes.Goals as goal

pub loop-scope-init : goal.loop-scope-init
loop-scope-init c =
    let tac = c.args.tac.now in
    let graph = graph_in tac.types c.args.graph.now in
    record {
      graph = c.requires.graph;
      goes = goes_same (structs_in tac.types) c.requires.made graph c.requires.graph.sound;
      grows = grown_same graph;
      told = sizes_begin graph (SizesTold (tac_of tac) (owners_of c.args.scopes.now));
      arrays = arrays_same (AsksOwner (tac_of tac) (owners_of c.args.scopes.now) graph) graph;
    }

pub loop-scope-preserved : goal.loop-scope-preserved
loop-scope-preserved c =
    let tac = c.args.tac.now in
    let code = tac_of tac in
    let scopes = c.args.scopes.now in
    let index = c.loop-scope.scope-index in
    let owner = owner_at c.scope-item.result.owner in
    let start = graph_in tac.types c.args.graph.now in
    let graph = graph_in tac.types c.loop-scope.graph in
    let next = graph_in tac.types c.tell_all.new.graph in
    let left = owners_of (drop (index + 1) scopes) in
    let all = SizesTold code (owners_of scopes) in
    let here = next_of scopes index c.scope-item.result c.scope-item.is c.loop-scope-test.true in
    let at : slice_get (owners_of scopes) index ≡ Some owner =
    slice_get-map (λ (scope : Scope). owner_at scope.owner) scopes index
    ∙ ap (option_map (λ (scope : Scope). owner_at scope.owner)) (slice_get_read scopes (length scopes) index c.scope-item.result refl c.loop-scope-test.true c.scope-item.is) in
    record {
      graph = c.tell_all.ensures.graph;
      goes = goes_then (structs_in tac.types) c.requires.made start graph next c.requires.graph.sound c.loop-scope.invariant.goes c.tell_all.ensures.goes;
      grows = grown_then start graph next c.loop-scope.invariant.grows c.tell_all.ensures.grows;
      told = sizes_on graph next (AllSizesTold code owner (points_at code owner)) (SizesTold code left) all (λ new more. all_sizes_grown code next new more owner (points_at code owner))
          (subst (λ l. SizesGoOn graph (SizesTold code (owners_of l)) all) here c.loop-scope.invariant.told) c.tell_all.ensures.grows
          (subst (λ l. AllSizesTold code owner l next) c.points_of.ensures c.tell_all.ensures.told);
      arrays = arrays_then (AsksOwner code (owners_of scopes) start) start graph next c.loop-scope.invariant.grows c.loop-scope.invariant.arrays
          (arrays_more (AsksPoint code owner (points_at code owner) graph) (AsksOwner code (owners_of scopes) start) graph next
          (owner_asked start graph c.loop-scope.invariant.grows.names code (owners_of scopes) index owner at)
          (subst (λ l. OnlyArrays (AsksPoint code owner l graph) graph next) c.points_of.ensures c.tell_all.ensures.arrays));
    }

pub returns-clause-settled : goal.returns-clause-settled
returns-clause-settled c =
    let tac = c.args.tac.now in
    settled_grown (tac_of tac) (graph_in tac.types c.args.graph.now) (graph_in tac.types c.loop-scope.graph) c.loop-scope.invariant.grows (owners_of c.args.scopes.now) c.requires.settled

pub returns-clause-told : goal.returns-clause-told
returns-clause-told c =
    let tac = c.args.tac.now in
    let code = tac_of tac in
    let scopes = c.args.scopes.now in
    let graph = graph_in tac.types c.loop-scope.graph in
    let all = SizesTold code (owners_of scopes) in
    sizes_end graph (SizesTold code []) all
    (subst (λ l. SizesGoOn graph (SizesTold code l) all) (none_left scopes c.loop-scope.scope-index c.loop-scope-test.false) c.loop-scope.invariant.told) tt
