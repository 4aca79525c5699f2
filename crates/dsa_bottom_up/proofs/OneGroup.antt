-- The graph of a group that was assembled is mapped to that of each other closed family, where the graphs of the groups before are and what is
-- told of their objects is kept.
use Rattle.std.proofs.Common.{◌≡◌, ℕ, zero, suc, ◌<◌, ◌≤◌, ◌⊎◌, inl, inr, Bool, true, false, cond, List, [], ◌∷◌, length, Option, Some, None, refl, sym, ap, subst, ◌∙◌, arith}
use Rattle.std.specs.Prelude.{◌&&◌, slice_get}
use Rattle.std.proofs.lemmas.Bool.{false≢true, and_parts, cases_lt}
use Rattle.std.proofs.lemmas.Option.{none-some, same_Some}
use Rattle.c_typed.specs.Layouts.{StructDef}
use Rattle.tac_ir.specs.declared.register.FunctionId.{FunctionId}
use Rattle.tac_ir.specs.declared.register.Register.{Register}
use Rattle.tac_ir.specs.Code as O
use Rattle.tac_ir.specs.Code.{Callee, Function, Op}
use Rattle.tac_ir.specs.States.{Owner, InStart, InFunction, function_of}
use Rattle.tac_ir.specs.Views.{tac_of}
use Rattle.tac_ir.specs.Targets.{is_target}
use Rattle.heap_graph.specs.Structures.{AreMade}
use Rattle.heap_graph.specs.Graphs.{Target, Node, Name, OfRegister, OfResult, OfObject, OfGlobal, OfLiteral, OfCopy, Graph, ProgramGraphs, is_copy, node_at}
use Rattle.heap_graph.specs.Targets.{at_target, implies, flags_kept, marks_kept}
use Rattle.heap_graph.specs.Escaping.{is_outside, Escapes}
use Rattle.heap_graph.specs.Merging.{GraphMap, mapped, Maps}
use Rattle.heap_graph.specs.Closed.{Family, graph_of, group_of, same_group, crossing, is_slot, inner_call, outer_call, call_of, call_closed, mentions_closed, op_closed, ops_closed, FunctionClosed, GraphClosed, IsEmbedding, Closed}
use Rattle.heap_graph.specs.Least.{embedded}
use Rattle.heap_graph.proofs.MapsCompose.{at_there}
use Rattle.graph_unification.specs.Memory.{owner_of}
use Rattle.heap_graph.specs.declared.frozen.FrozenGraph.{FrozenGraph}
use Rattle.heap_graph.specs.declared.program.FunctionGraph.{FunctionGraph}
use Rattle.heap_graph.specs.declared.program.ProgramGraphs as memory_graphs
use Rattle.heap_graph.specs.Programs.{function_embedding}
use Rattle.heap_graph.proofs.Showing.{shown_node}
use Rattle.heap_graph.specs.Asks.{is_certain}
use Rattle.heap_graph.specs.Completed.{or_target, nothing_in, completed, HasNodes}
use Rattle.heap_graph.specs.CertainMaps.{MapsCertain}
use Rattle.heap_graph.proofs.Certain.{certain_some, implies_holds}
use Rattle.heap_graph.proofs.CompletedGraph.{closed_has_nodes}
use Rattle.heap_graph.proofs.CompletedNames.{completed_maps}
use Rattle.dsa_inlining.specs.declared.copies.Copies.{Copies}
use Rattle.dsa_inlining.specs.Copied.{numbers_in, named_copy, copied, AreCopied}
use Rattle.dsa_inlining.specs.Crossed.{AllCome}
use Rattle.dsa_inlining.specs.Placed.{CopyPlaced}
use Rattle.dsa_inlining.proofs.Completing.{outer_completed}
use Rattle.dsa_local.specs.Mentioned.{is_among}
use Rattle.dsa_local.specs.Told.{NoCopies}
use Rattle.dsa_inlining.specs.declared.before.Crossings.{Crossings}
use Rattle.dsa_inlining.specs.Before.{GraphsBefore, graph_reached, nodes_reached, is_live, is_out}
use Rattle.dsa_inlining.specs.Crossings.{owners_in, copies_at, CopiesStand, IsCalledFrom, UsesCopies, IsOfCall}
use Rattle.dsa_inlining.specs.CallSteps.{AllFit, OwnersCross}
use Rattle.dsa_inlining.proofs.Reached.{one_reached, is_callee}
use Rattle.dsa_inlining.proofs.GroupCrossings.Images.{call_images_none}
use Rattle.dsa_local.proofs.Grown.{certain_grown}
use Rattle.dsa_inlining.specs.Owners.{is_owner}
use Rattle.dsa_bottom_up.specs.Assembled.{kept_graph, IsWanted, IsAssembled}
use Rattle.dsa_bottom_up.specs.AssembledGroups.Making.{IsGrouped, family_at, BeginsWith, IsMaking}
use Rattle.dsa_bottom_up.specs.Shown.{ShowsOwners}
use Rattle.dsa_bottom_up.proofs.Placed.{also_there, among_there}
use Rattle.dsa_bottom_up.proofs.Copying.{embedding_told}
use Rattle.dsa_bottom_up.proofs.Crossing.{embedding_is}
use Rattle.dsa_bottom_up.specs.Mapping.{MapsShape, GroupMaps, EmbeddingsKept, MapsOwner, MapsBelow, KeepsCertain, FlagsBelow}
use Rattle.dsa_bottom_up.specs.LeastGraphs.Making.{other_at}
use Rattle.dsa_bottom_up.proofs.Reaching.{escapes_mapped}
use Rattle.dsa_bottom_up.proofs.SamePoints.{with_copies}
use Rattle.dsa_bottom_up.proofs.SoundGraphs.{ends_there, found_there, name_there}
use Rattle.dsa_bottom_up.proofs.CopyTargets.{copies_sound}
use Rattle.dsa_bottom_up.proofs.Settling.{bound_of, all_settled}
use Rattle.dsa_bottom_up.proofs.StaticNames.{statics_fit}
use Rattle.dsa_bottom_up.proofs.KeptShape.{kept_shape}
use Rattle.dsa_bottom_up.proofs.KnownCallees.{IsKnownCallee, known_callee, copy_escapes, outside_shown}
use Rattle.dsa_bottom_up.proofs.CopyPlaces.{place_of, copy_placed, place_shown, place_slot, all_copied}

-- ---- calls of a closed family

pub called_closed : (family : Family) (owner : Owner) (site : ℕ) (callee : Callee) (arguments : List Register) (count : ℕ) → call_closed family owner count site callee arguments ≡ true → (called : ℕ) → called < count
    → is_target family.tac callee called ≡ true → call_of family owner site arguments called ≡ true
called_closed family owner site callee arguments zero closed called less target = absurd (omega (arith, less))
called_closed family owner site callee arguments (suc count) closed called less target = by (cases_lt called count) (λ before. called_closed family owner site callee arguments count both.1 called before target)
  where
    both : (implies (is_target family.tac callee count) (call_of family owner site arguments count) ≡ true) × (call_closed family owner count site callee arguments ≡ true)
    both = and_parts (implies (is_target family.tac callee count) (call_of family owner site arguments count)) (call_closed family owner count site callee arguments) closed

    by : (called < count) ⊎ (count ≤ called) → (called < count → call_of family owner site arguments called ≡ true) → call_of family owner site arguments called ≡ true
    by (inl before) rest = rest before
    by (inr behind) rest =
        let same : called ≡ count = omega (arith, less, behind) in
        subst (λ n. call_of family owner site arguments n ≡ true) (sym same)
        (implies_holds (is_target family.tac callee count) (call_of family owner site arguments count) both.0 (subst (λ n. is_target family.tac callee n ≡ true) same target))

-- each point of a closed function is closed
pub point_at : (family : Family) (owner : Owner) (ops : List Op) → ops_closed family owner ops ≡ true → (at : ℕ) (op : Op) → slice_get ops at ≡ Some op → op_closed family owner op ≡ true
point_at family owner [] closed at op is = absurd (none-some op is)
point_at family owner (first ∷ ops) closed zero op is =
    let both = and_parts (op_closed family owner first) (ops_closed family owner ops) (and_parts (mentions_closed family owner first) (op_closed family owner first && ops_closed family owner ops) closed).1 in
    subst (λ (o : Op). op_closed family owner o ≡ true) (same_Some first op is) both.0
point_at family owner (first ∷ ops) closed (suc at) op is =
    let both = and_parts (op_closed family owner first) (ops_closed family owner ops) (and_parts (mentions_closed family owner first) (op_closed family owner first && ops_closed family owner ops) closed).1 in
    point_at family owner ops both.1 at op is

module _ (other : Family) where
  pub function_closed : Closed other → (owner : Owner) (function : Function) → function_of other.tac owner ≡ Some function → FunctionClosed other owner function
  function_closed closed InStart function is = subst (FunctionClosed other InStart) (same_Some other.tac.start function is) closed.start
  function_closed closed (InFunction number) function is = closed.functions number function is

  -- a call out of the group is closed
  outer_is_closed : (owner : Owner) (function : Function) → FunctionClosed other owner function → (at site : ℕ) (callee : Callee) (arguments : List Register) (called : ℕ)
      → slice_get function.points at ≡ Some (O.Call site callee arguments) → is_target other.tac callee called ≡ true → called < length other.tac.functions → same_group other owner called ≡ false
      → outer_call other owner site arguments called ≡ true
  outer_is_closed owner function closed at site callee arguments called call target less apart =
      let all : call_closed other owner (length other.tac.functions) site callee arguments ≡ true = point_at other owner function.points closed.points at (O.Call site callee arguments) call in
      sym (ap (λ b. cond b (inner_call other owner site arguments called) (outer_call other owner site arguments called)) apart)
      ∙ called_closed other owner site callee arguments (length other.tac.functions) all called less target

abbrev or_start : Option (Option FunctionId) → Owner
or_start None = InStart
or_start (Some owner) = owner_of owner

-- ---- the groups before

module _ (before : GraphsBefore) (grouped : IsGrouped before.tac before.groups) (number : ℕ) (making : IsMaking before number) (all : memory_graphs.ProgramGraphs) (begins : BeginsWith before number all) (graphs : ProgramGraphs)
    (maps : GroupMaps) (below : MapsBelow (family_at before all) (other_at before graphs) number maps) where
  abbrev family : Family
  family = family_at before all

  abbrev other : Family
  other = other_at before graphs

  abbrev structs : List StructDef
  structs = (tac_of before.tac).structs

  made_structs : AreMade structs
  made_structs = grouped.stands.code.made

  -- ---- a function that is called, whose nodes have copies

  module _ (called : ℕ) (copies : Copies) (graph : Graph) (stand : CopiesStand before called copies graph) where
    abbrev callee : Graph
    callee = graph_of family (InFunction called)

    abbrev theirs : Graph
    theirs = graph_of other (InFunction called)

    abbrev into : GraphMap
    into = maps (group_of family called)

    known : IsKnownCallee before number all called stand.reached
    known = known_callee before grouped number making all begins called stand.reached

    shape : MapsShape structs callee theirs into
    shape = (below called known.less).shape

    same_node : (node : ℕ) → node_at callee node ≡ node_at (nodes_reached before called stand.reached) node
    same_node node = shown_node before.tac.types family (InFunction called) stand.reached.graph known.shown node

    node_copied : (node copy : ℕ) → numbers_in copies node ≡ Some copy → (its : Node) × (node_at callee node ≡ Some its)
    node_copied node copy of = let its = (stand.numbered.only node copy of).1 in (its.0, same_node node ∙ its.1)

    -- a node that is copied comes to one that escapes
    their_escapes : (node copy : ℕ) → numbers_in copies node ≡ Some copy → Escapes theirs (InFunction called) (into node).node
    their_escapes node copy of =
        let escapes = copy_escapes before number all called stand.reached known (numbers_in copies) stand.first stand.next stand.numbered node copy of in
        escapes_mapped structs callee theirs into shape (ends_there callee known.sound) (InFunction called) node escapes (name_there callee known.sound escapes.name escapes.target escapes.is)

    shown_copied : (some : Graph) → AreCopied structs some (nodes_reached before called stand.reached) (numbers_in copies) → AreCopied structs some callee (numbers_in copies)
    shown_copied some its = record {
      nodes = λ node copy old of is. its.nodes node copy old of (sym (same_node node) ∙ is);
      edges = λ node copy old of is. its.edges node copy old of (sym (same_node node) ∙ is);
    }

    copied_shown : (some : Graph) → AreCopied structs some callee (numbers_in copies) → AreCopied structs some (nodes_reached before called stand.reached) (numbers_in copies)
    copied_shown some its = record {
      nodes = λ node copy old of is. its.nodes node copy old of (same_node node ∙ is);
      edges = λ node copy old of is. its.edges node copy old of (same_node node ∙ is);
    }

    -- what callers see of it comes to what they see of theirs
    seen : (name : Name) (target : Target) → is_outside (InFunction called) name ≡ true → (graph_reached before called stand.reached).targets name ≡ Some target → theirs.targets name ≡ mapped theirs into target
    seen name target outside is = shape.names name target (outside_shown before number all called stand.reached known name outside ∙ is)

  -- ---- the group

  module _ (group : Option ℕ) (owners : List (Option FunctionId)) (begun : Graph) (graph : FrozenGraph) (functions : List FunctionGraph) (assembled : IsAssembled before group owners begun graph functions) (one : Owner)
      (same : (owner : Owner) → is_among owner (owners_in owners) ≡ true → graph_of other owner ≡ graph_of other one)
      (apart : (owner : Owner) → is_among owner (owners_in owners) ≡ true → (called : ℕ) → is_out before.groups group called ≡ true → same_group other owner called ≡ false)
      (own_closed : (owner : Owner) (function : Function) → is_among owner (owners_in owners) ≡ true → function_of (tac_of before.tac) owner ≡ Some function → FunctionClosed other owner function)
      (test : Owner → Bool) (its_closed : GraphClosed other (graph_of other one) test one) (flags : FlagsBelow family other number maps) where
    abbrev own : Graph
    own = graph_of other one

    abbrev made : Graph
    made = assembled.made

    own_sound : HasNodes own
    own_sound = closed_has_nodes other own test one its_closed

    embeds : (owner : Owner) (site called : ℕ) → is_among owner (owners_in owners) ≡ true → IsCalledFrom before group owner site called → IsEmbedding other owner site called
    embeds owner site called among from =
        (own_closed owner from.function among from.is).embeddings site from.callee from.arguments from.at called from.call from.target (apart owner among called from.out)

    -- ---- where copies are

    owner_at : ℕ → Owner
    owner_at place = or_start (slice_get owners place)

    place_in : (copy : ℕ) → IsOfCall assembled.crossings copy → Target
    place_in copy c = place_of other (owner_at c.place) c.site c.called (maps (group_of family c.called)) c.node

    -- the call of a copy
    record Entry (copy : ℕ) (c : IsOfCall assembled.crossings copy) : Type 0 where
      owner : Option FunctionId
      owner_is : slice_get owners c.place ≡ Some owner
      among : is_among (owner_of owner) (owners_in owners) ≡ true
      stand : CopiesStand before c.called c.copies made
      from : IsCalledFrom before group (owner_of owner) c.site c.called

    entry : (copy : ℕ) (c : IsOfCall assembled.crossings copy) → Entry copy c
    entry copy c =
        let owner = also_there owners assembled.crossings c.place c.own (sym assembled.crossed.size) c.there in
        let its = assembled.crossed.entries c.place owner.0 c.own owner.1 c.there c.site c.called c.copies c.at in
        record { owner = owner.0; owner_is = owner.1; among = among_there owners c.place owner.0 owner.1; stand = its.0; from = its.1 }

    copy_there : (copy : ℕ) → IsOfCall assembled.crossings copy → (target : Target) × (made.targets (OfCopy copy) ≡ Some target)
    copy_there copy c =
        let stand = (entry copy c).stand in
        let node = (stand.numbered.only c.node copy c.is).1 in
        let fits = stand.copied.nodes c.node copy node.0 c.is node.1 in
        (fits.target, fits.is)

    pick : (copy : ℕ) (found : Option Target) → made.targets (OfCopy copy) ≡ found → Option Target
    pick copy None e = None
    pick copy (Some target) e = Some (place_in copy (assembled.crossed.names copy target e))

    at : ℕ → Option Target
    at copy = pick copy (made.targets (OfCopy copy)) refl

    picked : (copy : ℕ) (c : IsOfCall assembled.crossings copy) (found : Option Target) (e : made.targets (OfCopy copy) ≡ found) → pick copy found e ≡ Some (place_in copy c)
    unfolding pick place_in owner_at
    picked copy c None e = let there = copy_there copy c in absurd (none-some there.0 (sym e ∙ there.1))
    picked copy c (Some target) e =
        let same_call = assembled.apart copy (assembled.crossed.names copy target e) c in
        λ i. Some (place_of other (or_start (slice_get owners (same_call.place i))) (same_call.site i) (same_call.called i) (maps (group_of family (same_call.called i))) (same_call.node i))

    at_is : (copy : ℕ) (c : IsOfCall assembled.crossings copy) → at copy ≡ Some (place_in copy c)
    unfolding at
    at_is copy c = picked copy c (made.targets (OfCopy copy)) refl

    at_call : (copy : ℕ) (c : IsOfCall assembled.crossings copy) (owner : Option FunctionId) → slice_get owners c.place ≡ Some owner → at copy ≡ Some (place_of other (owner_of owner) c.site c.called (maps (group_of family c.called)) c.node)
    unfolding place_in owner_at
    at_call copy c owner is = at_is copy c ∙ ap (λ o. Some (place_of other (or_start o) c.site c.called (maps (group_of family c.called)) c.node)) is

    at_slot : (copy : ℕ) (found : Option Target) (e : made.targets (OfCopy copy) ≡ found) → is_slot own (pick copy found e) ≡ true
    unfolding pick place_in owner_at entry
    at_slot copy None e = refl
    at_slot copy (Some target) e =
        let c = assembled.crossed.names copy target e in
        let its = entry copy c in
        let node = node_copied c.called c.copies made its.stand c.node copy c.is in
        let slot = place_slot other made_structs (owner_of its.owner) c.site c.called (embeds (owner_of its.owner) c.site c.called its.among its.from) (callee c.called c.copies made its.stand) (maps (group_of family c.called))
        (shape c.called c.copies made its.stand) c.node node.0 node.1 (their_escapes c.called c.copies made its.stand c.node copy c.is) in
        subst (λ g. is_slot g (Some (place_of other (or_start (slice_get owners c.place)) c.site c.called (maps (group_of family c.called)) c.node)) ≡ true) (same (owner_of its.owner) its.among)
        (subst (λ o. is_slot (graph_of other (owner_of its.owner)) (Some (place_of other (or_start o) c.site c.called (maps (group_of family c.called)) c.node)) ≡ true) (sym its.owner_is) slot)

    abbrev more : Graph
    more = with_copies own at

    more_sound : HasNodes more
    unfolding at
    more_sound = copies_sound own at own_sound (λ copy. at_slot copy (made.targets (OfCopy copy)) refl)

    abbrev bound : ℕ
    bound = bound_of other own at more_sound (owners_in owners)

    abbrev whole : Graph
    whole = completed bound more

    -- ---- calls use these copies

    abbrev UsesAt : Option FunctionId → Crossings → ℕ → List Register → ℕ → Type 0
    UsesAt owner its site arguments called = UsesCopies before (owner_of owner) site arguments called its whole

    kept_name : (name : Name) (target : Target) → is_copy name ≡ false → own.targets name ≡ Some target → whole.targets name ≡ Some target
    kept_name (OfRegister owner register) target plain is = ap (or_target (nothing_in more)) is
    kept_name (OfResult owner) target plain is = ap (or_target (nothing_in more)) is
    kept_name (OfObject owner local) target plain is = ap (or_target (nothing_in more)) is
    kept_name (OfGlobal place) target plain is = ap (or_target (nothing_in more)) is
    kept_name (OfLiteral place) target plain is = ap (or_target (nothing_in more)) is
    kept_name (OfCopy copy) target plain is = absurd (false≢true (sym plain))

    module _ (place : ℕ) (owner : Option FunctionId) (its : Crossings) (here : slice_get owners place ≡ Some owner) (there : slice_get assembled.crossings place ≡ Some its) where
      among : is_among (owner_of owner) (owners_in owners) ≡ true
      among = among_there owners place owner here

      abbrev call_place : ℕ → ℕ → ℕ → Target
      call_place site called node = place_of other (owner_of owner) site called (maps (group_of family called)) node

      module _ (site called : ℕ) (copies : Copies) (is : copies_at its site called ≡ Some copies) where
        its_stand : CopiesStand before called copies made
        its_stand = (assembled.crossed.entries place owner its here there site called copies is).0

        its_from : IsCalledFrom before group (owner_of owner) site called
        its_from = (assembled.crossed.entries place owner its here there site called copies is).1

        of_call : (node copy : ℕ) → numbers_in copies node ≡ Some copy → IsOfCall assembled.crossings copy
        of_call node copy of = record { place = place; own = its; there = there; site = site; called = called; copies = copies; at = is; node = node; is = of }

        copy_place : (node copy : ℕ) → numbers_in copies node ≡ Some copy → at copy ≡ Some (call_place site called node)
        unfolding of_call
        copy_place node copy of = at_call copy (of_call node copy of) owner here

        whole_place : (node copy : ℕ) → numbers_in copies node ≡ Some copy → whole.targets (OfCopy copy) ≡ Some (call_place site called node)
        whole_place node copy of = ap (or_target (nothing_in more)) (copy_place node copy of)

        whole_copied : (stand : CopiesStand before called copies made) → AreCopied structs whole (nodes_reached before called stand.reached) (numbers_in copies)
        whole_copied stand =
            copied_shown called copies made stand whole
            (all_copied other made_structs (owner_of owner) site called (embeds (owner_of owner) site called among its_from) (callee called copies made stand) (into called copies made stand) (shape called copies made stand) bound more
            whole (ap (λ (g : Graph). g.nodes) (sym (same (owner_of owner) among))) refl (flags called (known called copies made stand).less) (numbers_in copies) whole_place (their_escapes called copies made stand)
            (ends_there (callee called copies made stand) (known called copies made stand).sound) made (shown_copied called copies made stand made stand.copied)
            (found_there (callee called copies made stand) (known called copies made stand).sound))

        placed : (stand : CopiesStand before called copies made) (node copy : ℕ) → numbers_in copies node ≡ Some copy
            → (target : Target) × (whole.targets (OfCopy copy) ≡ Some target) × CopyPlaced other (owner_of owner) site called (maps (group_of family called)) node target
        placed stand node copy of =
            let old = node_copied called copies made stand node copy of in (
              call_place site called node,
              whole_place node copy of,
              copy_placed other made_structs (owner_of owner) site called (embeds (owner_of owner) site called among its_from) (callee called copies made stand) (into called copies made stand) (shape called copies made stand) node
                  old.0 old.1 (their_escapes called copies made stand node copy of),
            )

      uses_at : (function : Function) (point site : ℕ) (callee : Callee) (arguments : List Register) (called : ℕ) → function_of (tac_of before.tac) (owner_of owner) ≡ Some function
          → slice_get function.points point ≡ Some (O.Call site callee arguments) → is_target (tac_of before.tac) callee called ≡ true → is_out before.groups group called ≡ true → is_live before called ≡ true → UsesAt owner its site arguments called
      uses_at function point site callee arguments called is call target out live =
          let was = assembled.crossed.calls place owner its here there function point (O.Call site callee arguments) is call site callee arguments called refl target out live in
          let outer = outer_is_closed other (owner_of owner) function (own_closed (owner_of owner) function among is) point site callee arguments called call target (known called was.copies made was.stand).within (apart (owner_of owner) among called out) in
          record {
            copies = was.copies;
            is = was.is;
            stand = record { reached = was.stand.reached; first = was.stand.first; next = was.stand.next; numbered = was.stand.numbered; copied = whole_copied site called was.copies was.is was.stand };
            crossed = outer_completed other (owner_of owner) site called bound whole (graph_reached before called was.stand.reached) (numbers_in was.copies) (maps (group_of family called))
                (ap (λ (g : Graph). (completed bound g).nodes) (sym (same (owner_of owner) among)))
                (λ name target plain held. kept_name name target plain (ap (λ (g : Graph). g.targets name) (sym (same (owner_of owner) among)) ∙ held))
                (placed site called was.copies was.is was.stand) (is_callee before called was.stand.reached (numbers_in was.copies) was.stand.first was.stand.next was.stand.numbered) (seen called was.copies made was.stand) arguments
                outer;
          }

    all_cross : OwnersCross before group owners assembled.crossings whole
    all_cross place owner its here there function point op is call site callee arguments called is_call target out live =
        uses_at place owner its here there function point site callee arguments called is (call ∙ ap Some is_call) target out live

    all_fit : AllFit before group owners whole
    all_fit place owner here site called from reached =
        let its = also_there assembled.crossings owners place owner assembled.crossed.size here in
        let uses = uses_at place owner its.0 here its.1 from.function from.at site from.callee from.arguments called from.is from.call from.target from.out from.live in
        statics_fit other one at bound more_sound its_closed.globals its_closed.literals (graph_reached before called reached) (numbers_in uses.copies)
        (subst (λ (g : Graph). AllCome g (numbers_in uses.copies) OfGlobal whole) (one_reached before called uses.stand.reached reached) uses.crossed.globals)
        (subst (λ (g : Graph). AllCome g (numbers_in uses.copies) OfLiteral whole) (one_reached before called uses.stand.reached reached) uses.crossed.literals)

    is_wanted : IsWanted before group owners assembled.crossings whole
    is_wanted = record {
      fits = all_fit;
      crosses = all_cross;
      settled = all_settled other own at more_sound bound (owners_in owners) (omega arith) same own_closed;
    }

    -- ---- the map

    -- the graph that was begun has no copies
    begun_maps : NoCopies begun → (map : GraphMap) → Maps structs begun (completed bound own) map → Maps structs begun whole map
    begun_maps none map its = record { names = by; elements = its.elements; flags = its.flags; edges = its.edges }
      where
        by : (name : Name) (target : Target) → begun.targets name ≡ Some target → whole.targets name ≡ mapped whole map target
        by (OfRegister owner register) target is = its.names (OfRegister owner register) target is
        by (OfResult owner) target is = its.names (OfResult owner) target is
        by (OfObject owner local) target is = its.names (OfObject owner local) target is
        by (OfGlobal place) target is = its.names (OfGlobal place) target is
        by (OfLiteral place) target is = its.names (OfLiteral place) target is
        by (OfCopy copy) target is = absurd (none-some target (sym (none copy) ∙ is))

    module _ (none : NoCopies begun) (first : (some : ℕ) → (map : GraphMap) × Maps structs begun (completed some own) map) where
      typed_maps : (map : GraphMap) × MapsCertain structs assembled.typed more map
      typed_maps =
          let begin = first bound in
          let rest = assembled.leads whole begin.0 (begun_maps none begin.0 begin.1) is_wanted in
          (rest.0, completed_maps structs assembled.typed bound more more_sound rest.0 rest.1)

    -- a map of the certain nodes keeps where copies are
    module _ (map : GraphMap) (its_maps : MapsCertain structs assembled.typed more map) (shows : ShowsOwners all owners functions) where
      abbrev Kept : Owner → ℕ → ℕ → ℕ → Target → Type 0
      Kept owner site called node target = (group_of family called < number) × (embedded other (crossing other owner site called) (Some (maps (group_of family called) node)) ≡ mapped (graph_of other owner) map target)

      embeddings_kept : (place : ℕ) (owner : Option FunctionId) → slice_get owners place ≡ Some owner → EmbeddingsKept family other number maps (owner_of owner) map
      embeddings_kept place owner here site called node target held =
          by (copies_at its site called) refl
        where
          crossings : (its : Crossings) × (slice_get assembled.crossings place ≡ Some its)
          crossings = also_there assembled.crossings owners place owner assembled.crossed.size here

          its : Crossings
          its = crossings.0

          told : (function : FunctionGraph) × (slice_get functions place ≡ Some function)
          told = also_there functions owners place owner assembled.size here

          none : copies_at its site called ≡ None → family.graphs.embedding (crossing family (owner_of owner) site called) node ≡ None
          none is =
              embedding_told all (owner_of owner) site called node
              ∙ (ap (λ f. function_embedding f site called node) (shows place owner here ∙ told.1)
              ∙ call_images_none assembled.made its told.0.embeddings (assembled.embeddings place its told.0 crossings.1 told.1) site called is node)

          copied_to : (copies : Copies) → copies_at its site called ≡ Some copies → (found : Option ℕ) → numbers_in copies node ≡ found → named_copy made found ≡ Some target → Kept (owner_of owner) site called node target
          copied_to copies is None of at_target = absurd (none-some target at_target)
          copied_to copies is (Some copy) of to =
              let stand = its_stand place owner its here crossings.1 site called copies is in
              let from = its_from place owner its here crossings.1 site called copies is in
              let among = among_there owners place owner here in
              let old = node_copied called copies made stand node copy of in
              let plain = (stand.numbered.only node copy of).1 in
              let fits = stand.copied.nodes node copy plain.0 of plain.1 in
              let image = at_there made fits.target (λ image shift. marks_kept (copied plain.0).flags image.flags) fits.flags in
              let certain : is_certain made (Some target) ≡ true =
              ap (is_certain made) (sym to ∙ fits.is) ∙ (certain_some made fits.target image.node image.is ∙ (and_parts image.node.flags.certain (flags_kept (copied plain.0).flags image.node.flags) image.so).0) in
              let shown = place_shown other made_structs (owner_of owner) site called (embeds (owner_of owner) site called among from) (callee called copies made stand) (into called copies made stand)
              (shape called copies made stand) node old.0 old.1 (their_escapes called copies made stand node copy of) in
              let goes : mapped own map target ≡ Some (call_place place owner its here crossings.1 site called node) =
              sym (its_maps.names (OfCopy copy) target (sym (assembled.grows.names (OfCopy copy)) ∙ to) (sym (certain_grown assembled.typed made assembled.grows (Some target)) ∙ certain)) ∙ copy_place place owner its here crossings.1 site called copies is node copy of in (
                (known called copies made stand).less,
                shown ∙ (sym goes ∙ ap (λ g. mapped g map target) (sym (same (owner_of owner) among))),
              )

          by : (found : Option Copies) → copies_at its site called ≡ found → Kept (owner_of owner) site called node target
          by None is = absurd (none-some target (sym (none is) ∙ held))
          by (Some copies) is =
              copied_to copies is (numbers_in copies node) refl (sym (embedding_is before group owners begun graph functions assembled all shows place owner its here crossings.1 site called copies is node) ∙ held)

    -- so the graph of the group is mapped to theirs, and what was told of objects once types were final is told there
    pub group_kept : NoCopies begun → ((some : ℕ) → (map : GraphMap) × Maps structs begun (completed some own) map) → ShowsOwners all owners functions
        → ((owner : Owner) → is_among owner (owners_in owners) ≡ true → graph_of family owner ≡ kept_graph before owners graph functions)
        → (map : GraphMap) × ((place : ℕ) (owner : Option FunctionId) → slice_get owners place ≡ Some owner → MapsOwner family other number maps (owner_of owner) map) × KeepsCertain assembled.typed (graph_of other one) map
    group_kept none first shows shown =
        let its = typed_maps none first in
        let shape = kept_shape (tac_of before.tac) (is_owner owners) made (kept_graph before owners graph functions) assembled.frozen assembled.typed assembled.grows structs own at its.0 its.1 in (
          its.0,
          λ place owner here.
              let among = among_there owners place owner here in
              record {
                shape = subst (λ g. MapsShape structs g (graph_of other (owner_of owner)) its.0) (sym (shown (owner_of owner) among))
                    (subst (λ g. MapsShape structs (kept_graph before owners graph functions) g its.0) (sym (same (owner_of owner) among)) shape);
                embeddings = embeddings_kept its.0 its.1 shows place owner here;
              },
          its.1.flags,
        )

    pub group_mapped : NoCopies begun → ((some : ℕ) → (map : GraphMap) × Maps structs begun (completed some own) map) → ShowsOwners all owners functions
        → ((owner : Owner) → is_among owner (owners_in owners) ≡ true → graph_of family owner ≡ kept_graph before owners graph functions)
        → (map : GraphMap) × ((place : ℕ) (owner : Option FunctionId) → slice_get owners place ≡ Some owner → MapsOwner family other number maps (owner_of owner) map)
    group_mapped none first shows shown = let its = group_kept none first shows shown in (its.0, its.1)
