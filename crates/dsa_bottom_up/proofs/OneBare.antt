-- No flag of a node of a group's graph can be taken away: a closed family that has fewer there asks for each of them, or is told it by the map
-- that leads to it from the graph that was made.
use Rattle.std.proofs.Common.{◌≡◌, ◌⊎◌, inl, inr, ℕ, zero, suc, ◌+◌, ◌<◌, Bool, true, false, List, [], ◌∷◌, Option, Some, None, refl, sym, ap, subst, ◌∙◌}
use Rattle.std.specs.Prelude.{◌&&◌, ◌||◌, slice_get}
use Rattle.std.proofs.lemmas.Bool.{false≢true, and_parts, or_left, or_right}
use Rattle.std.proofs.lemmas.Option.{none-some, same_Some}
use Rattle.tac_ir.specs.declared.register.FunctionId.{FunctionId}
use Rattle.tac_ir.specs.declared.register.Register.TheVariants as R
use Rattle.tac_ir.specs.Code as O
use Rattle.tac_ir.specs.Code.{Function, Tree}
use Rattle.tac_ir.specs.States.{Owner, InFunction, function_of, points_of}
use Rattle.tac_ir.specs.Views.{tac_of}
use Rattle.heap_graph.specs.Graphs.{Target, Flags, Node, Name, OfRegister, Graph, ProgramGraphs, node_at}
use Rattle.heap_graph.specs.Targets.{has_target, at_target, shifted, implies, types_differ, flags_kept, element_kept}
use Rattle.heap_graph.specs.Escaping.{same_owner, Escapes}
use Rattle.heap_graph.specs.Points as P
use Rattle.heap_graph.specs.Points.{point_closed}
use Rattle.heap_graph.specs.Merging.{GraphMap, mapped}
use Rattle.heap_graph.specs.Steps.{unmoved}
use Rattle.heap_graph.specs.Closed as C
use Rattle.heap_graph.specs.Closed.{Family, graph_of, group_of, same_group, crossing, op_closed, IsNeeded, named, embedded, GraphClosed, IsEmbedding, IsKept, Closed}
use Rattle.heap_graph.specs.Least.{AreFewer, with_flags}
use Rattle.heap_graph.proofs.MapsCompose.{at_there, shifted_there, shift_in}
use Rattle.graph_unification.proofs.WholeFunction.{owner_eq}
use Rattle.graph_unification.specs.Memory.{owner_of}
use Rattle.heap_graph.specs.declared.frozen.FrozenGraph.{FrozenGraph}
use Rattle.heap_graph.specs.declared.program.FunctionGraph.{FunctionGraph}
use Rattle.heap_graph.specs.declared.program.ProgramGraphs as memory_graphs
use Rattle.heap_graph.proofs.Showing.{shown_node}
use Rattle.heap_graph.proofs.Certain.{implies_holds}
use Rattle.heap_graph.proofs.Outside.{same_itself}
use Rattle.dsa_inlining.specs.Copied.{numbers_in, named_copy}
use Rattle.dsa_local.specs.Mentioned.{is_among}
use Rattle.dsa_local.proofs.GrownMaps.{grown_places}
use Rattle.dsa_local.specs.Sizes.{AsksOwner, is_size_of}
use Rattle.dsa_local.proofs.SizeSteps.{size_by_types}
use Rattle.dsa_inlining.specs.Owners.{is_owner}
use Rattle.dsa_inlining.proofs.KeptNodes.{before}
use Rattle.dsa_inlining.specs.Before.{GraphsBefore, is_out}
use Rattle.dsa_inlining.specs.Crossings.{owners_in}
use Rattle.dsa_inlining.specs.Asking.{AsksCall}
use Rattle.dsa_bottom_up.specs.Assembled.{kept_graph, IsAssembled, AsksArray}
use Rattle.dsa_bottom_up.specs.AssembledGroups.Making.{IsGrouped, family_at, BeginsWith, IsMaking}
use Rattle.dsa_bottom_up.specs.Shown.{ShowsOwners}
use Rattle.dsa_bottom_up.proofs.Placed.{also_there, among_there}
use Rattle.dsa_bottom_up.proofs.Crossing.{embedding_is}
use Rattle.dsa_bottom_up.specs.Mapping.{MapsOwner, KeepsCertain}
use Rattle.dsa_bottom_up.specs.LeastGraphs.Making.{other_at}
use Rattle.dsa_bottom_up.proofs.KeptShape.{kept_name}
use Rattle.dsa_bottom_up.proofs.KnownCallees.{known_callee, copy_escapes}
use Rattle.dsa_bottom_up.proofs.OneGroup.{point_at, function_closed}
use Rattle.dsa_bottom_up.proofs.ChangedFlags.{flags_here, escapes_still}

-- ---- Booleans

implied : (a b : Bool) → (a ≡ true → b ≡ true) → implies a b ≡ true
implied true b gives = gives refl
implied false b gives = refl

both_ways : (a b : Bool) → implies a b ≡ true → implies b a ≡ true → a ≡ b
both_ways true true there back = refl
both_ways true false there back = absurd (false≢true there)
both_ways false true there back = absurd (false≢true back)
both_ways false false there back = refl

or_other : (a b : Bool) → a ≡ false → (a || b) ≡ true → b ≡ true
or_other true b is h = absurd (false≢true (sym is))
or_other false b is h = h

-- ---- owners

-- an owner has a place
owner_place : (owners : List (Option FunctionId)) (owner : Owner) → is_owner owners owner ≡ true → (place : ℕ) × (own : Option FunctionId) × (slice_get owners place ≡ Some own) × (owner_of own ≡ owner)
owner_place [] owner is = absurd (false≢true is)
owner_place (first ∷ owners) owner is = by (same_owner (owner_of first) owner) refl is (λ rest. owner_place owners owner rest)
  where
    by : (b : Bool) → same_owner (owner_of first) owner ≡ b → (b || is_owner owners owner) ≡ true
        → (is_owner owners owner ≡ true → (place : ℕ) × (own : Option FunctionId) × (slice_get owners place ≡ Some own) × (owner_of own ≡ owner))
        → (place : ℕ) × (own : Option FunctionId) × (slice_get (first ∷ owners) place ≡ Some own) × (owner_of own ≡ owner)
    by true same h later = (0, first, refl, owner_eq (owner_of first) owner same)
    by false same h later = let found = later h in (suc found.0, found.1, found.2, found.3)

among_at : (owners : List Owner) (place : ℕ) (owner : Owner) → slice_get owners place ≡ Some owner → is_among owner owners ≡ true
among_at [] place owner is = absurd (none-some owner is)
among_at (first ∷ owners) zero owner is = or_left (same_owner first owner) (is_among owner owners) (ap (λ o. same_owner o owner) (same_Some first owner is) ∙ same_itself owner)
among_at (first ∷ owners) (suc place) owner is = or_right (same_owner first owner) (is_among owner owners) (among_at owners place owner is)

-- ---- targets

-- a part of a target is of the same node
shift_node : (graph : Graph) (slots : ℕ) (from to : Target) → shifted graph slots (Some from) ≡ Some to → from.node ≡ to.node
shift_node graph slots from to is = by (node_at graph from.node) refl
  where
    none : node_at graph from.node ≡ None → shifted graph slots (Some from) ≡ None
    none e = rw e refl

    by : (found : Option Node) → node_at graph from.node ≡ found → from.node ≡ to.node
    by None e = absurd (none-some to (sym (none e) ∙ is))
    by (Some node) e = ap (λ (t : Target). t.node) (same_Some (record { node = from.node; shift = shift_in node (from.shift + slots) }) to (sym (shifted_there graph slots from node e) ∙ is))

has_some : (found : Option Target) → has_target found ≡ true → (target : Target) × (found ≡ Some target)
has_some None has = absurd (false≢true has)
has_some (Some target) has = (target, refl)

-- ---- a node of a group's graph

module _ (before' : GraphsBefore) (grouped : IsGrouped before'.tac before'.groups) (number : ℕ) (making : IsMaking before' number) (all : memory_graphs.ProgramGraphs) (begins : BeginsWith before' number all) (graphs : ProgramGraphs)
    (closed : Closed (other_at before' graphs)) (embeddings : graphs.embedding ≡ (family_at before' all).graphs.embedding)
    (same_below : (function : ℕ) → group_of (family_at before' all) function < number → graph_of (other_at before' graphs) (InFunction function) ≡ graph_of (family_at before' all) (InFunction function))
    (group : Option ℕ) (owners : List (Option FunctionId)) (begun : Graph) (graph : FrozenGraph) (functions : List FunctionGraph) (assembled : IsAssembled before' group owners begun graph functions) (one : Owner)
    (same : (owner : Owner) → is_among owner (owners_in owners) ≡ true → graph_of (other_at before' graphs) owner ≡ graph_of (other_at before' graphs) one)
    (apart : (owner : Owner) → is_among owner (owners_in owners) ≡ true → (called : ℕ) → is_out before'.groups group called ≡ true → same_group (other_at before' graphs) owner called ≡ false)
    (test : Owner → Bool) (its_closed : GraphClosed (other_at before' graphs) (graph_of (other_at before' graphs) one) test one) (listed : (owner : Owner) → test owner ≡ true → is_owner owners owner ≡ true)
    (shows : ShowsOwners all owners functions) where
  abbrev family : Family
  family = family_at before' all

  abbrev other : Family
  other = other_at before' graphs

  abbrev kept : Graph
  kept = kept_graph before' owners graph functions

  abbrev made : Graph
  made = assembled.made

  module _ (place : ℕ) (node : Node) (few : Flags) (here : node_at kept place ≡ Some node) (fewer : AreFewer few node.flags) (changes : graph_of other one ≡ with_flags place few kept) where
    abbrev own : Graph
    own = with_flags place few kept

    abbrev now : Node
    now = record node { flags = few }

    now_is : node_at own place ≡ Some now
    now_is = flags_here few kept place node here

    own_of : (owner : Owner) → is_among owner (owners_in owners) ≡ true → graph_of other owner ≡ own
    own_of owner among = same owner among ∙ changes

    -- what is there at the place
    at_place : (its : Node) (at : ℕ) → at ≡ place → node_at own at ≡ Some its → its ≡ now
    at_place its at is there = same_Some its now (sym there ∙ (ap (node_at own) is ∙ now_is))

    -- ---- the node as it was made

    abbrev was : Node
    was = (before made kept assembled.frozen.nodes place node here).old

    was_is : node_at made place ≡ Some was
    was_is = (before made kept assembled.frozen.nodes place node here).is

    abbrev first : Node
    first = ((grown_places assembled.typed made assembled.grows).nodes place was was_is).was

    first_is : node_at assembled.typed place ≡ Some first
    first_is = ((grown_places assembled.typed made assembled.grows).nodes place was was_is).is

    certain : first.flags.certain ≡ true
    certain = sym ((grown_places assembled.typed made assembled.grows).nodes place was was_is).certain ∙ (before made kept assembled.frozen.nodes place node here).keeps.certain

    element : node.element ≡ first.element
    element = (before made kept assembled.frozen.nodes place node here).keeps.element ∙ ((grown_places assembled.typed made assembled.grows).nodes place was was_is).element

    node_flags : node.flags ≡ record was.flags { complete = node.flags.complete }
    node_flags = (before made kept assembled.frozen.nodes place node here).keeps.flags

    was_same : was ≡ record first { flags = record first.flags { array = was.flags.array } }
    was_same = (assembled.only place first was first_is was_is).same

    -- ---- arrays

    -- a size asks for one
    size_asked : AsksOwner (tac_of before'.tac) (owners_in owners) made place first.element → few.array ≡ true
    size_asked asks = by (function_of (tac_of before'.tac) asks.owner) refl
      where
        among : is_among asks.owner (owners_in owners) ≡ true
        among = among_at (owners_in owners) asks.place asks.owner asks.there

        site : ℕ
        site = asks.asks.asks.site

        size : Tree
        size = asks.asks.asks.size

        name : Name
        name = OfRegister asks.owner (R.Call site)

        by_point : point_closed (tac_of before'.tac) own asks.owner (O.Allocate site size) ≡ true → few.array ≡ true
        by_point is =
            let parts = and_parts (has_target (kept.targets name)) (at_target own (kept.targets name) (λ image shift. image.flags.heap && (P.is_size_of (tac_of before'.tac) own asks.owner size image.element || image.flags.array))) is in
            let found = has_some (kept.targets name) parts.0 in
            let led = (kept_name (tac_of before'.tac) (is_owner owners) made kept assembled.frozen name found.0 found.1).0 in
            let target : found.0 ≡ asks.asks.asks.asks.target = same_Some found.0 asks.asks.asks.asks.target (sym led ∙ asks.asks.asks.asks.is) in
            let told = at_there own found.0 (λ image shift. image.flags.heap && (P.is_size_of (tac_of before'.tac) own asks.owner size image.element || image.flags.array))
            (subst (λ t. at_target own t (λ image shift. image.flags.heap && (P.is_size_of (tac_of before'.tac) own asks.owner size image.element || image.flags.array)) ≡ true) found.1 parts.1) in
            let its : told.node ≡ now = at_place told.node found.0.node (ap (λ (t : Target). t.node) target ∙ asks.asks.asks.asks.node) told.is in
            let either = (and_parts told.node.flags.heap (P.is_size_of (tac_of before'.tac) own asks.owner size told.node.element || told.node.flags.array) told.so).1 in
            let mine : (P.is_size_of (tac_of before'.tac) own asks.owner size node.element || few.array) ≡ true =
            subst (λ (n : Node). (P.is_size_of (tac_of before'.tac) own asks.owner size n.element || n.flags.array) ≡ true) its either in
            or_other (P.is_size_of (tac_of before'.tac) own asks.owner size node.element) few.array
            (size_by_types (tac_of before'.tac) own asks.owner size node.element ∙ (ap (is_size_of (tac_of before'.tac).structs size) element ∙ asks.asks.asks.asks.differs)) mine

        by : (found : Option Function) → function_of (tac_of before'.tac) asks.owner ≡ found → few.array ≡ true
        by None is = absurd (none-some asks.asks.op (sym (ap (λ f. slice_get (points_of f) asks.asks.at) is) ∙ asks.asks.point))
        by (Some function) is =
            let point : slice_get function.points asks.asks.at ≡ Some (O.Allocate site size) = sym (ap (λ f. slice_get (points_of f) asks.asks.at) is) ∙ (asks.asks.point ∙ ap Some asks.asks.asks.is) in
            let shut : op_closed other asks.owner (O.Allocate site size) ≡ true = point_at other asks.owner function.points (function_closed other closed asks.owner function is).points asks.asks.at (O.Allocate site size) point in
            by_point (subst (λ g. point_closed (tac_of before'.tac) g asks.owner (O.Allocate site size) ≡ true) (own_of asks.owner among) shut)

    -- a copy does
    copy_asked : AsksCall before' assembled.crossings made place first.element → few.array ≡ true
    copy_asked asks =
        let its = asks.asks in
        let found = also_there owners assembled.crossings asks.place asks.own (sym assembled.crossed.size) asks.there in
        let owner = owner_of found.0 in
        let among = among_there owners asks.place found.0 found.1 in
        let entry = assembled.crossed.entries asks.place found.0 asks.own found.1 asks.there its.site its.called its.copies its.at in
        let stand = entry.0 in
        let from = entry.1 in
        let embeds : IsEmbedding other owner its.site its.called =
        (function_closed other closed owner from.function from.is).embeddings its.site from.callee from.arguments from.at its.called from.call from.target (apart owner among its.called from.out) in
        let known = known_callee before' grouped number making all begins its.called its.reached in
        let stands = known_callee before' grouped number making all begins its.called stand.reached in
        let below = same_below its.called known.less in
        let old : node_at (graph_of other (InFunction its.called)) its.asks.from ≡ Some its.asks.node =
        ap (λ g. node_at g its.asks.from) below ∙ (shown_node before'.tac.types family (InFunction its.called) its.reached.graph known.shown its.asks.from ∙ its.asks.there) in
        let escapes : Escapes (graph_of other (InFunction its.called)) (InFunction its.called) its.asks.from =
        subst (λ g. Escapes g (InFunction its.called) its.asks.from) (sym below)
        (copy_escapes before' number all its.called stand.reached stands (numbers_in its.copies) stand.first stand.next stand.numbered its.asks.from its.asks.copy its.asks.of) in
        let image : IsKept other owner (other.graphs.embedding (crossing other owner its.site its.called)) its.asks.from its.asks.node = embeds.escaping its.asks.from its.asks.node old escapes in
        let told : family.graphs.embedding (crossing family owner its.site its.called) its.asks.from ≡ Some its.asks.target =
        embedding_is before' group owners begun graph functions assembled all shows asks.place found.0 asks.own found.1 asks.there its.site its.called its.copies its.at its.asks.from
        ∙ (ap (named_copy made) its.asks.of ∙ its.asks.is) in
        let target : image.at ≡ its.asks.target = same_Some image.at its.asks.target (sym image.is ∙ (ap (λ e. e (crossing family owner its.site its.called) its.asks.from) embeddings ∙ told)) in
        let there = at_there (graph_of other owner) image.at (C.node_kept other owner its.asks.node) image.kept in
        let is : there.node ≡ now = at_place there.node image.at.node (ap (λ (t : Target). t.node) target ∙ its.asks.at) (ap (λ g. node_at g image.at.node) (sym (own_of owner among)) ∙ there.is) in
        let rest = (and_parts (element_kept other.tac.structs its.asks.node.element there.node image.at.shift)
        (flags_kept its.asks.node.flags there.node.flags && implies (its.asks.node.flags.heap && types_differ its.asks.node.element there.node.element) there.node.flags.array) there.so).1 in
        let last = (and_parts (flags_kept its.asks.node.flags there.node.flags) (implies (its.asks.node.flags.heap && types_differ its.asks.node.element there.node.element) there.node.flags.array) rest).1 in
        implies_holds (its.asks.node.flags.heap && types_differ its.asks.node.element node.element) few.array
        (subst (λ (n : Node). implies (its.asks.node.flags.heap && types_differ its.asks.node.element n.element) n.flags.array ≡ true) is last)
        (ap (λ e. its.asks.node.flags.heap && types_differ its.asks.node.element e) element ∙ its.asks.asks)

    -- ---- complete nodes

    complete_asked : node.flags.complete ≡ true → few.complete ≡ true
    complete_asked is =
        its_closed.complete place now (ap (λ g. node_at g place) changes ∙ now_is)
        (λ function among escapes.
        (assembled.frozen.complete place node here).0 is function (listed (InFunction function) among)
        (escapes_still few kept place node here (InFunction function) place (subst (λ g. Escapes g (InFunction function) place) changes escapes)))

    -- ---- what the map tells

    module _ (map : GraphMap) (each : (at : ℕ) (owner : Option FunctionId) → slice_get owners at ≡ Some owner → MapsOwner family other number (λ before. unmoved) (owner_of owner) map) (told : KeepsCertain assembled.typed (graph_of other one) map)
        (least : Option FunctionId) (least_is : slice_get owners 0 ≡ Some least) (shown : (owner : Owner) → is_among owner (owners_in owners) ≡ true → graph_of family owner ≡ kept) where
      -- a node that is named or embedded stays where it is
      stays : IsNeeded family kept test place → (map place).node ≡ place
      stays (named name target is at) =
          let among = among_there owners 0 least least_is in
          let led = (each 0 least least_is).shape.names name target (ap (λ (g : Graph). g.targets name) (shown (owner_of least) among) ∙ is) in
          let mine : own.targets name ≡ mapped own map target = subst (λ (g : Graph). g.targets name ≡ mapped g map target) (own_of (owner_of least) among) led in
          let moved = shift_node own target.shift (map target.node) target (sym mine ∙ is) in
          subst (λ n. (map n).node ≡ n) at moved
      stays (embedded at from target owned cross held is) =
          let owner = owner_place owners at.owner (listed at.owner owned) in
          let among = subst (λ o. is_among o (owners_in owners) ≡ true) owner.3 (among_there owners owner.0 owner.1 owner.2) in
          let maps = subst (λ o. MapsOwner family other number (λ before. unmoved) o map) owner.3 (each owner.0 owner.1 owner.2) in
          let led = (maps.embeddings at.site at.called from target held).1 in
          let mine : shifted own 0 (Some target) ≡ mapped own map target =
          subst (λ g. shifted g 0 (Some target) ≡ mapped g map target) (own_of at.owner among)
          (sym (ap (shifted (graph_of other at.owner) 0) (ap (λ e. e (crossing family at.owner at.site at.called) from) embeddings ∙ held)) ∙ led) in
          let there = shifted_there own 0 target now (ap (node_at own) is ∙ now_is) in
          let moved = shift_node own target.shift (map target.node) (record { node = target.node; shift = shift_in now (target.shift + 0) }) (sym mine ∙ there) in
          subst (λ n. (map n).node ≡ n) is moved

      module _ (needed : IsNeeded family kept test place) where
        -- what was told once types were final is told there
        first_kept : flags_kept first.flags few ≡ true
        first_kept =
            let its = at_there own (map place) (λ image shift. flags_kept first.flags image.flags)
            (subst (λ g. at_target g (Some (map place)) (λ image shift. flags_kept first.flags image.flags) ≡ true) changes (told place first first_is certain)) in
            subst (λ (n : Node). flags_kept first.flags n.flags ≡ true) (at_place its.node (map place).node (stays needed) its.is) its.so

        abbrev kept_array : Bool
        kept_array = implies first.flags.array few.array && (implies first.flags.modified few.modified && implies first.flags.read few.read)

        -- each flag by itself
        heap_kept : (implies first.flags.heap few.heap ≡ true) × ((implies first.flags.stack few.stack && (implies first.flags.global few.global && kept_array)) ≡ true)
        heap_kept = and_parts (implies first.flags.heap few.heap) (implies first.flags.stack few.stack && (implies first.flags.global few.global && kept_array)) first_kept

        stack_kept : (implies first.flags.stack few.stack ≡ true) × ((implies first.flags.global few.global && kept_array) ≡ true)
        stack_kept = and_parts (implies first.flags.stack few.stack) (implies first.flags.global few.global && kept_array) heap_kept.1

        global_kept : (implies first.flags.global few.global ≡ true) × (kept_array ≡ true)
        global_kept = and_parts (implies first.flags.global few.global) kept_array stack_kept.1

        array_kept : (implies first.flags.array few.array ≡ true) × ((implies first.flags.modified few.modified && implies first.flags.read few.read) ≡ true)
        array_kept = and_parts (implies first.flags.array few.array) (implies first.flags.modified few.modified && implies first.flags.read few.read) global_kept.1

        modified_kept : (implies first.flags.modified few.modified ≡ true) × (implies first.flags.read few.read ≡ true)
        modified_kept = and_parts (implies first.flags.modified few.modified) (implies first.flags.read few.read) array_kept.1

        array_asked : node.flags.array ≡ true → few.array ≡ true
        array_asked is = by ((assembled.only place first was first_is was_is).only (sym (ap (λ (f : Flags). f.array) node_flags) ∙ is))
          where
            by : (first.flags.array ≡ true) ⊎ AsksArray before' owners assembled.crossings made place first.element → few.array ≡ true
            by (inl told) = implies_holds first.flags.array few.array array_kept.0 told
            by (inr (inl asks)) = size_asked asks
            by (inr (inr asks)) = copy_asked asks

        -- so no flag was taken away
        pub none_fewer : few ≡ node.flags
        none_fewer = λ i. record {
          heap = both_ways few.heap node.flags.heap fewer.heap (subst (λ b. implies b few.heap ≡ true) (sym (ap (λ (f : Flags). f.heap) node_flags ∙ ap (λ (n : Node). n.flags.heap) was_same)) heap_kept.0) i;
          stack = both_ways few.stack node.flags.stack fewer.stack (subst (λ b. implies b few.stack ≡ true) (sym (ap (λ (f : Flags). f.stack) node_flags ∙ ap (λ (n : Node). n.flags.stack) was_same)) stack_kept.0) i;
          global = both_ways few.global node.flags.global fewer.global (subst (λ b. implies b few.global ≡ true) (sym (ap (λ (f : Flags). f.global) node_flags ∙ ap (λ (n : Node). n.flags.global) was_same)) global_kept.0) i;
          array = both_ways few.array node.flags.array fewer.array (implied node.flags.array few.array array_asked) i;
          modified = both_ways few.modified node.flags.modified fewer.modified (subst (λ b. implies b few.modified ≡ true) (sym (ap (λ (f : Flags). f.modified) node_flags ∙ ap (λ (n : Node). n.flags.modified) was_same)) modified_kept.0) i;
          read = both_ways few.read node.flags.read fewer.read (subst (λ b. implies b few.read ≡ true) (sym (ap (λ (f : Flags). f.read) node_flags ∙ ap (λ (n : Node). n.flags.read) was_same)) modified_kept.1) i;
          complete = both_ways few.complete node.flags.complete fewer.complete (implied node.flags.complete few.complete complete_asked) i;
          certain = fewer.certain i;
        }
