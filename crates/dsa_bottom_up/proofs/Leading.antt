-- The graph of a group is on the way to each other graph in which its calls use copies and its points are settled. After that it is told of
-- arrays only what is asked.
use Rattle.std.proofs.Common.{◌≡◌, ◌⊎◌, inl, inr, ℕ, true, List, Option, sym, ap, subst, ◌∙◌}
use Rattle.std.proofs.lemmas.Option.{same_Some}
use Rattle.c_typed.specs.Table.{structs_in}
use Rattle.tac_ir.specs.declared.register.FunctionId.{FunctionId}
use Rattle.tac_ir.specs.Views.{tac_of}
use Rattle.heap_graph.specs.Graphs.{Node, Graph}
use Rattle.heap_graph.specs.Merging.{GraphMap, Maps}
use Rattle.graph_unification.specs.Leading.{Leads}
use Rattle.dsa_inlining.specs.CallCopies.Telling.{ArrayTold, ArraysTold, OnlyAsked}
use Rattle.dsa_local.specs.Growing.{OnlyFlagsGrow, GetsArray, OnlyArrays}
use Rattle.dsa_local.specs.Sizes.{AsksOwner}
use Rattle.dsa_local.specs.Rounds.{Settled}
use Rattle.dsa_local.proofs.ArraySteps.{asked_still}
use Rattle.dsa_inlining.specs.declared.before.Crossings.{Crossings}
use Rattle.dsa_inlining.specs.Before.{GraphsBefore}
use Rattle.dsa_inlining.specs.Asking.{AsksCall}
use Rattle.dsa_inlining.specs.Crossings.{owners_in}
use Rattle.dsa_inlining.specs.CallSteps.{AllLead}
use Rattle.dsa_inlining.proofs.AskedCalls.{calls_asked}
use Rattle.dsa_bottom_up.specs.Assembled.{IsWanted, AsksArray}

-- the graph goes on from the one that was begun, on the way to each such other graph
abbrev pub LeadsWanted : GraphsBefore → Option ℕ → List (Option FunctionId) → List Crossings → Graph → Graph → Type 0
LeadsWanted before group owners all begun graph =
    (other : Graph) (into : GraphMap) → Maps (structs_in before.tac.types) begun other into → IsWanted before group owners all other → (rest : GraphMap) × Maps (structs_in before.tac.types) graph other rest

module _ (before : GraphsBefore) (group : Option ℕ) (owners : List (Option FunctionId)) (all : List Crossings) (begun : Graph) where
  pub settled_leads : (crossed settled : Graph) → AllLead before group owners all begun crossed → Leads (structs_in before.tac.types) crossed settled (Settled (tac_of before.tac) (owners_in owners))
      → LeadsWanted before group owners all begun settled
  settled_leads crossed settled first next other into maps wanted =
      let one = first other into maps wanted.fits wanted.crosses in
      let two = next.least other one.0 one.1 wanted.settled in
      (two.0, two.1)

-- ---- arrays

module _ (before : GraphsBefore) (owners : List (Option FunctionId)) (all : List Crossings) (typed sized made : Graph) (grows : OnlyFlagsGrow typed sized)
    (sizes : OnlyArrays (AsksOwner (tac_of before.tac) (owners_in owners) typed) typed sized) (arrays : ArraysTold sized made) (copies : OnlyAsked (AsksCall before all sized) sized made) where
  one_asked : (number : ℕ) (a m c : Node) → GetsArray (AsksOwner (tac_of before.tac) (owners_in owners) typed number a.element) a m → (told : ArrayTold made number m) → told.now ≡ c → m.element ≡ a.element
      → (c.flags.array ≡ true → (m.flags.array ≡ true) ⊎ AsksCall before all sized number m.element) → GetsArray (AsksArray before owners all made number a.element) a c
  one_asked number a m c first told last element only = record {
    same = subst (λ (n : Node). n ≡ record m { flags = record m.flags { array = n.flags.array } }) last told.same ∙ ap (λ (n : Node). record n { flags = record n.flags { array = c.flags.array } }) first.same;
    only = λ is. by_copy (only is);
  }
    where
      by_size : (a.flags.array ≡ true) ⊎ AsksOwner (tac_of before.tac) (owners_in owners) typed number a.element → (a.flags.array ≡ true) ⊎ AsksArray before owners all made number a.element
      by_size (inl was) = inl was
      by_size (inr asks) = inr (inl (asked_still made typed (λ name. sym (grows.names name) ∙ sym (arrays.names name)) (tac_of before.tac) (owners_in owners) number a.element asks))

      by_copy : (m.flags.array ≡ true) ⊎ AsksCall before all sized number m.element → (a.flags.array ≡ true) ⊎ AsksArray before owners all made number a.element
      by_copy (inl was) = by_size (first.only was)
      by_copy (inr asks) = inr (inr (subst (AsksCall before all made number) element (calls_asked before made sized (λ name. sym (arrays.names name)) all number m.element asks)))

  -- sizes were told, and then copies
  pub only_asked : OnlyArrays (AsksArray before owners all made) typed made
  only_asked number a c here there =
      let middle = grows.nodes number a here in
      let told = arrays.nodes number middle.now middle.is in
      one_asked number a middle.now c (sizes number a middle.now here middle.is) told (same_Some told.now c (sym told.is ∙ there)) middle.grows.element (copies number middle.now c middle.is there)
