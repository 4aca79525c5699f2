-- The calls out of a group that was assembled, in the graphs of a program that show it: they are closed, and copies are images.
use Rattle.std.proofs.Common.{◌≡◌, ℕ, Bool, true, false, List, Option, Some, None, refl, sym, ap, subst, ◌∙◌}
use Rattle.std.specs.Prelude.{slice_get}
use Rattle.std.proofs.lemmas.Bool.{true≢false}
use Rattle.tac_ir.specs.declared.register.FunctionId.{FunctionId}
use Rattle.tac_ir.specs.Code as O
use Rattle.tac_ir.specs.States.{Owner}
use Rattle.tac_ir.specs.Views.{tac_of}
use Rattle.heap_graph.specs.Graphs.{Graph}
use Rattle.heap_graph.specs.Closed.{graph_of, same_group, crossing}
use Rattle.graph_unification.specs.Memory.{owner_of}
use Rattle.c_typed.specs.Table.{structs_in}
use Rattle.heap_graph.specs.declared.frozen.FrozenGraph.{FrozenGraph}
use Rattle.heap_graph.specs.declared.program.FunctionGraph.{FunctionGraph}
use Rattle.heap_graph.specs.declared.program.ProgramGraphs.{ProgramGraphs}
use Rattle.heap_graph.specs.Programs.{function_embedding}
use Rattle.heap_graph.specs.Restricted.{Restricts}
use Rattle.dsa_inlining.specs.declared.copies.Copies.{Copies}
use Rattle.dsa_inlining.specs.Adding.{AreNumbered}
use Rattle.dsa_inlining.specs.Copied.{numbers_in, named_copy, copy_at, AreCopied}
use Rattle.dsa_inlining.specs.CallCopies.Telling.{CopiesTold}
use Rattle.dsa_inlining.proofs.CallCopies.Closing.{KeepsCertain, restricts_keeps}
use Rattle.dsa_inlining.proofs.Listed.{embeds}
use Rattle.dsa_inlining.specs.Crossed.{IsCrossed}
use Rattle.dsa_inlining.proofs.OuterCalls.Closing.{outer_closed}
use Rattle.dsa_local.specs.Mentioned.{is_among}
use Rattle.dsa_inlining.specs.Embedded.{CopiesAreImages}
use Rattle.dsa_inlining.specs.Owners.{is_owner}
use Rattle.dsa_inlining.proofs.RestrictsMade.{restricts}
use Rattle.dsa_bottom_up.specs.MadeGroups.Made.{IsOuterClosed, AreOuterClosed}
use Rattle.dsa_inlining.specs.declared.before.Crossings.{Crossings}
use Rattle.dsa_inlining.specs.Before.{GraphsBefore, IsReached, graph_reached, nodes_reached, is_live, is_out}
use Rattle.dsa_inlining.specs.Crossings.{owners_in, copies_at}
use Rattle.dsa_inlining.proofs.GroupCrossings.Images.{call_images, call_images_none}
use Rattle.dsa_bottom_up.specs.Assembled.{kept_graph, IsAssembled}
use Rattle.dsa_bottom_up.specs.AssembledGroups.Making.{family_at}
use Rattle.dsa_bottom_up.specs.Shown.{ShowsReached, ShowsOwners}
use Rattle.dsa_bottom_up.proofs.Placed.{also_there, owner_there, among_there, all_told}
use Rattle.dsa_bottom_up.proofs.Copying.{bare_sound, embedding_told}
use Rattle.dsa_bottom_up.proofs.QuietCalls.{nothing_crosses, nothing_numbered, nothing_copied, nothing_told}

module _ (before : GraphsBefore) (group : Option ℕ) (owners : List (Option FunctionId)) (begun : Graph) (graph : FrozenGraph) (functions : List FunctionGraph)
    (assembled : IsAssembled before group owners begun graph functions) where
  -- the graph that is only read is that of the certain nodes
  pub kept_restricts : Restricts assembled.made (kept_graph before owners graph functions)
  kept_restricts =
      restricts (tac_of before.tac) (is_owner owners) assembled.made (kept_graph before owners graph functions) assembled.frozen (all_told (tac_of before.tac) owners assembled.made assembled.told.only)

  module _ (all : ProgramGraphs) (shows : ShowsOwners all owners functions) where
    -- the embedding of a call is that of its copies
    pub embedding_is : (place : ℕ) (owner : Option FunctionId) (own : Crossings) → slice_get owners place ≡ Some owner → slice_get assembled.crossings place ≡ Some own → (site called : ℕ) (copies : Copies)
        → copies_at own site called ≡ Some copies → (node : ℕ)
        → (family_at before all).graphs.embedding (crossing (family_at before all) (owner_of owner) site called) node ≡ copy_at assembled.made (numbers_in copies) node
    embedding_is place owner own at there site called copies is node =
        let told = also_there functions owners place owner assembled.size at in
        let stand = (assembled.crossed.entries place owner own at there site called copies is).0 in
        embedding_told all (owner_of owner) site called node
        ∙ (ap (λ f. function_embedding f site called node) (shows place owner at ∙ told.1)
        ∙ call_images assembled.made own told.0.embeddings (assembled.embeddings place own told.0 there told.1) site called before copies is stand node)

    -- where nothing escapes what is called, there is none
    embedding_none : (place : ℕ) (owner : Option FunctionId) (own : Crossings) → slice_get owners place ≡ Some owner → slice_get assembled.crossings place ≡ Some own → (site called : ℕ)
        → is_live before called ≡ false → (node : ℕ) → (family_at before all).graphs.embedding (crossing (family_at before all) (owner_of owner) site called) node ≡ None
    embedding_none place owner own at there site called dead node =
        let told = also_there functions owners place owner assembled.size at in
        embedding_told all (owner_of owner) site called node
        ∙ (ap (λ f. function_embedding f site called node) (shows place owner at ∙ told.1)
        ∙ call_images_none assembled.made own told.0.embeddings (assembled.embeddings place own told.0 there told.1) site called (by (copies_at own site called) refl) node)
      where
        by : (found : Option Copies) → copies_at own site called ≡ found → copies_at own site called ≡ None
        by None e = e
        by (Some copies) e = absurd (true≢false (sym (assembled.crossed.entries place owner own at there site called copies e).1.live ∙ dead))

    module _ (reached : ShowsReached before all) (stands : (owner : Owner) → is_among owner (owners_in owners) ≡ true → graph_of (family_at before all) owner ≡ kept_graph before owners graph functions) where
      -- calls of an owner to functions of other groups are closed, and have embeddings
      pub outer_are_closed : (place : ℕ) (owner : Option FunctionId) → slice_get owners place ≡ Some owner
          → ((called : ℕ) → same_group (family_at before all) (owner_of owner) called ≡ false → is_out before.groups group called ≡ true) → AreOuterClosed (family_at before all) (owner_of owner)
      outer_are_closed place owner at apart function point site callee arguments called is call target outer = by (is_live before called) refl
        where
          own : (crossings : Crossings) × (slice_get assembled.crossings place ≡ Some crossings)
          own = also_there assembled.crossings owners place owner assembled.crossed.size at

          same : graph_of (family_at before all) (owner_of owner) ≡ kept_graph before owners graph functions
          same = stands (owner_of owner) (among_there owners place owner at)

          keeps : KeepsCertain assembled.made (graph_of (family_at before all) (owner_of owner))
          keeps = subst (λ g. KeepsCertain assembled.made g) (sym same) (restricts_keeps assembled.made (kept_graph before owners graph functions) kept_restricts)

          closes : (its : IsReached before called) (copies : ℕ → Option ℕ) (first next : ℕ) → ((node : ℕ) → (family_at before all).graphs.embedding (crossing (family_at before all) (owner_of owner) site called) node ≡ copy_at assembled.made copies node)
              → AreNumbered (nodes_reached before called its) its.numbers copies first next → AreCopied (structs_in before.tac.types) assembled.made (nodes_reached before called its) copies
              → CopiesTold assembled.made (nodes_reached before called its) copies → IsCrossed (tac_of before.tac) (owner_of owner) site arguments called (graph_reached before called its) copies assembled.made
              → IsOuterClosed (family_at before all) (owner_of owner) site arguments called
          closes its copies first next images numbered copied told crossed =
              let shown = reached called its in
              record {
                condition = outer_closed (family_at before all) (owner_of owner) site called assembled.made (kept_graph before owners graph functions) kept_restricts
                    (λ name plain. ap (λ (g : Graph). g.targets name) same) keeps before.tac.types its.graph its.own.names shown.0 shown.1 copies images arguments crossed;
                embedding = embeds before.tac.types (family_at before all) called its.graph shown.0 (bare_sound (structs_in before.tac.types) before.tac.types its.graph its.own.names its.ready.sound)
                    its.ready.found its.ready.marks (its.ready.escapes (family_at before all) shown.0 shown.1) its.numbers its.ready.listed (owner_of owner) site assembled.made copies
                    first next keeps numbered copied told images;
              }

          by : (b : Bool) → is_live before called ≡ b → IsOuterClosed (family_at before all) (owner_of owner) site arguments called
          by true live =
              let uses = assembled.crossed.calls place owner own.0 at own.1 function point (O.Call site callee arguments) is call site callee arguments called refl target (apart called outer) live in
              let its = uses.stand.reached in
              closes its (numbers_in uses.copies) uses.stand.first uses.stand.next (embedding_is place owner own.0 at own.1 site called uses.copies uses.is) uses.stand.numbered uses.stand.copied
              (assembled.copies place own.0 site called uses.copies own.1 uses.is its) uses.crossed
          by false dead =
              let its = assembled.reached place owner at function point site callee arguments called is call target (apart called outer) in
              closes its (λ node. None) 0 0 (embedding_none place owner own.0 at own.1 site called dead) (nothing_numbered before called its dead) (nothing_copied before called its dead assembled.made)
              (nothing_told before called its dead assembled.made) (nothing_crosses before called its dead (owner_of owner) site arguments assembled.made)

    -- where no function outside the group is of the owners' group, copies are the images of nodes at the owners' calls
    pub copies_are_images : ((place : ℕ) (owner : Option FunctionId) → slice_get owners place ≡ Some owner → (called : ℕ) → is_out before.groups group called ≡ true
        → same_group (family_at before all) (owner_of owner) called ≡ false) → CopiesAreImages (family_at before all) (is_owner owners) assembled.made
    copies_are_images apart number target is certain =
        let copy = assembled.crossed.names number target is in
        let owner = also_there owners assembled.crossings copy.place copy.own (sym assembled.crossed.size) copy.there in
        let from = (assembled.crossed.entries copy.place owner.0 copy.own owner.1 copy.there copy.site copy.called copy.copies copy.at).1 in
        record {
          at = crossing (family_at before all) (owner_of owner.0) copy.site copy.called;
          own = owner_there owners copy.place owner.0 owner.1;
          crossing = record {
            function = from.function;
            is = from.is;
            point = from.at;
            callee = from.callee;
            arguments = from.arguments;
            call = from.call;
            target = from.target;
            outer = apart copy.place owner.0 owner.1 copy.called from.out;
          };
          node = copy.node;
          is = embedding_is copy.place owner.0 copy.own owner.1 copy.there copy.site copy.called copy.copies copy.at copy.node ∙ (ap (named_copy assembled.made) copy.is ∙ is);
        }
