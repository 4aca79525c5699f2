-- The graphs of a program in memory show the graphs of its family.
use Rattle.std.proofs.Common.{◌≡◌, ℕ, zero, suc, ◌+◌, ◌<◌, ◌==◌, Bool, true, false, List, [], ◌∷◌, map, length, Option, Some, None, refl, sym, ap, subst, ◌∙◌, arith, eqb-true, eq-eqb}
use Rattle.std.specs.Prelude.{slice_get}
use Rattle.std.proofs.lemmas.Bool.{false≢true}
use Rattle.std.proofs.lemmas.Option.{none-some, same_Some, slice_get_within}
use Rattle.std.proofs.lemmas.List.{length-map}
use Rattle.c_typed.specs.Table.{Interned}
use Rattle.tac_ir.specs.declared.program.Tac as memory_tac
use Rattle.tac_ir.specs.Views.{tac_of, function_in}
use Rattle.tac_ir.specs.States.{Owner, InStart, InFunction}
use Rattle.tac_ir.specs.Groups.{AreGroups}
use Rattle.heap_graph.specs.Graphs.{OfRegister, OfResult, OfObject, OfGlobal, OfLiteral, OfCopy, Graph}
use Rattle.heap_graph.specs.Closed.{Family, is_in, of_group, group_from, graph_of, or_no_graph}
use Rattle.heap_graph.specs.Frozen.{named, register_target, object_target, optional_target, graph_with}
use Rattle.heap_graph.specs.declared.frozen.FrozenGraph.{FrozenGraph}
use Rattle.heap_graph.specs.declared.program.FunctionGraph.{FunctionGraph}
use Rattle.heap_graph.specs.declared.program.ProgramGraphs.{ProgramGraphs}
use Rattle.heap_graph.specs.Programs.{names_if, group_names, group_graphs, family_in}
use Rattle.heap_graph.specs.Shows.{ShowsGraph, ShowsNames, HasNoNames, ShowsGroup}
use Rattle.heap_graph.proofs.GroupNumbers.{in_is, own_number, stands, among_at, in_own_at}

graph_there : (table : Interned) (groups : List (List ℕ)) (functions : List FunctionGraph) (number : ℕ) (graphs : List FrozenGraph) (at : ℕ) (graph : FrozenGraph) → slice_get graphs at ≡ Some graph
    → (sum : ℕ) → number + at ≡ sum → slice_get (group_graphs table groups functions number graphs) at ≡ Some (graph_with table graph (group_names groups functions sum))
graph_there table groups functions number [] at graph e sum is = absurd (none-some graph e)
graph_there table groups functions number (first ∷ graphs) zero graph e sum is =
    let same : number ≡ sum = omega (arith, is) in
    λ i. Some (graph_with table (same_Some first graph e i) (group_names groups functions (same i)))
graph_there table groups functions number (first ∷ graphs) (suc at) graph e sum is = graph_there table groups functions (suc number) graphs at graph e sum (omega (arith, is))

module _ (tac : memory_tac.Tac) (groups : List (List ℕ)) (graphs : ProgramGraphs) where
  abbrev family : Family
  family = family_in tac groups graphs

  abbrev functions : List FunctionGraph
  functions = graphs.functions.items

  abbrev shown : ℕ → FrozenGraph → Graph
  shown at graph = graph_with tac.types graph (group_names groups functions at)

  pub own_graph : AreGroups (tac_of tac) groups → (at number : ℕ) (group : List ℕ) (graph : FrozenGraph) → slice_get groups at ≡ Some group → is_in number group ≡ true
      → slice_get graphs.graphs.items at ≡ Some graph → graph_of family (InFunction number) ≡ shown at graph
  own_graph are at number group graph found here stored =
      ap (λ k. or_no_graph (slice_get family.graphs.graphs k)) (own_number (tac_of tac) groups are at number group found here)
      ∙ ap or_no_graph (graph_there tac.types groups functions 0 graphs.graphs.items at graph stored at (omega arith))

  pub shows_graph : AreGroups (tac_of tac) groups → (at number : ℕ) (group : List ℕ) (graph : FrozenGraph) → slice_get groups at ≡ Some group → is_in number group ≡ true
      → slice_get graphs.graphs.items at ≡ Some graph → ShowsGraph tac.types family (InFunction number) graph
  shows_graph are at number group graph found here stored =
      let is = own_graph are at number group graph found here stored in
      record {
        structs = refl;
        nodes = ap (λ (g : Graph). g.nodes) is;
        globals = λ k i. (is i).targets (OfGlobal k);
        literals = λ k i. (is i).targets (OfLiteral k);
        copies = λ k i. (is i).targets (OfCopy k);
      }

  -- the names of a function in its group's graph
  names_there : AreGroups (tac_of tac) groups → (at number : ℕ) (group : List ℕ) (own : FunctionGraph) → slice_get groups at ≡ Some group → is_in number group ≡ true
      → slice_get functions number ≡ Some own → group_names groups functions at (InFunction number) ≡ Some own.names
  names_there are at number group own found here stored =
      ap (λ b. names_if b (slice_get functions number)) (eq-eqb (group_from 0 groups number) at (own_number (tac_of tac) groups are at number group found here)) ∙ ap (names_if true) stored

  pub shows_names : AreGroups (tac_of tac) groups → (at number : ℕ) (group : List ℕ) (graph : FrozenGraph) (own : FunctionGraph) → slice_get groups at ≡ Some group → is_in number group ≡ true
      → slice_get graphs.graphs.items at ≡ Some graph → slice_get functions number ≡ Some own → ShowsNames family (InFunction number) own.names
  shows_names are at number group graph own found here stored told =
      let is = own_graph are at number group graph found here stored in
      let names = names_there are at number group own found here told in
      record {
        registers = λ register. (λ i. (is i).targets (OfRegister (InFunction number) register)) ∙ ap (named (λ n. register_target n register)) names;
        returned = (λ i. (is i).targets (OfResult (InFunction number))) ∙ ap (named (λ n. optional_target n.returned)) names;
        objects = λ local. (λ i. (is i).targets (OfObject (InFunction number) local)) ∙ ap (named (λ n. object_target n local)) names;
      }

  -- no function of another group has names there
  no_names : (at : ℕ) (group : List ℕ) (owner : Owner) → ((number : ℕ) → group_from 0 groups number ≡ at → is_in number group ≡ true) → of_group group owner ≡ false
      → group_names groups functions at owner ≡ None
  no_names at group InStart in_own out = refl
  no_names at group (InFunction number) in_own out = by (group_from 0 groups number == at) refl (slice_get functions number)
    where
      by : (b : Bool) → (group_from 0 groups number == at) ≡ b → (own : Option FunctionGraph) → names_if b own ≡ None
      by b e None = refl
      by true e (Some own) = absurd (false≢true (sym out ∙ in_own number (eqb-true (group_from 0 groups number) at e)))
      by false e (Some own) = refl

  abbrev Inside : Type 0
  Inside = (number : ℕ) → number < length tac.functions.items → number < length functions

  in_group : AreGroups (tac_of tac) groups → (at : ℕ) (group : List ℕ) → slice_get groups at ≡ Some group → (number : ℕ) → group_from 0 groups number ≡ at → at < length groups
      → is_in number group ≡ true
  in_group are at group found number is within =
      let own = in_own_at number groups at is within in
      subst (λ g. is_in number g ≡ true) (same_Some own.0 group (sym own.1 ∙ found)) own.2

  pub shows_group : AreGroups (tac_of tac) groups → length functions ≡ length tac.functions.items → (at : ℕ) (group : List ℕ) (graph : FrozenGraph) → slice_get groups at ≡ Some group
      → slice_get graphs.graphs.items at ≡ Some graph → ShowsGroup tac.types family group graph functions
  shows_group are each at group graph found stored = record {
    one = λ number here. shows_graph are at number group graph found here stored;
    there = λ number here.
        let place = stands groups at group found in
        let same_length : length (map (function_in tac.types) tac.functions.items) ≡ length tac.functions.items = length-map tac.functions.items (function_in tac.types) in
        let within = are.only number (among_at place.before place.after group number groups place.is (in_is number group here)) in
        omega (arith, each, within, same_length);
    names = λ number own here told. shows_names are at number group graph own found here stored told;
    same = λ a b here there. own_graph are at a group graph found here stored ∙ sym (own_graph are at b group graph found there stored);
    others = λ number owner here out.
        let is = own_graph are at number group graph found here stored in
        let none = no_names at group owner (λ other e. in_group are at group found other e (slice_get_within groups at group found)) out in
        record {
          registers = λ register. (λ i. (is i).targets (OfRegister owner register)) ∙ ap (named (λ n. register_target n register)) none;
          returned = (λ i. (is i).targets (OfResult owner)) ∙ ap (named (λ n. optional_target n.returned)) none;
          objects = λ local. (λ i. (is i).targets (OfObject owner local)) ∙ ap (named (λ n. object_target n local)) none;
        };
  }

  -- ---- `start`

  pub shows_start : ShowsGraph tac.types family InStart graphs.start
  shows_start = record { structs = refl; nodes = refl; globals = λ k. refl; literals = λ k. refl; copies = λ k. refl }

  pub start_shows_names : ShowsNames family InStart graphs.start_function.names
  start_shows_names = record { registers = λ register. refl; returned = refl; objects = λ local. refl }

  pub start_alone : (number : ℕ) → HasNoNames (graph_of family InStart) (InFunction number)
  start_alone number = record { registers = λ register. refl; returned = refl; objects = λ local. refl }
