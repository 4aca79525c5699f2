-- The graph of `start` once all groups have theirs, and the graphs of the program in the end.
use Rattle.std.proofs.Common.{◌≡◌, ℕ, false, List, [], ◌∷◌, ◌++◌, length, Option, Some, None, refl, sym, ap, subst, ◌∙◌, arith}
use Rattle.std.proofs.lemmas.Bool.{false≢true}
use Rattle.std.proofs.lemmas.List.{length-append, length-map}
use Rattle.tac_ir.specs.declared.program.Tac as memory_tac
use Rattle.tac_ir.specs.States.{InStart}
use Rattle.tac_ir.specs.declared.register.FunctionId.{FunctionId}
use Rattle.tac_ir.specs.Code.{Tac}
use Rattle.tac_ir.specs.Views.{tac_of}
use Rattle.std.specs.Prelude.{slice_get}
use Rattle.c_typed.specs.DefinitionViews.{LiteralsStand}
use Rattle.heap_graph.specs.Graphs.{Target, Graph, OfCopy}
use Rattle.heap_graph.specs.Targets.{has_target}
use Rattle.heap_graph.specs.Structures.{AreMade}
use Rattle.heap_graph.specs.Merging.{IsSound}
use Rattle.heap_graph.specs.Closed.{Closed}
use Rattle.heap_graph.specs.Least.{Least}
use Rattle.heap_graph.specs.declared.frozen.FrozenGraph.{FrozenGraph}
use Rattle.call_graph.specs.ClassLists.{numbers_of}
use Rattle.call_graph.specs.declared.group_lists.Groups.{Groups}
use Rattle.call_graph.specs.GroupViews.{groups_of, IsOf}
use Rattle.graph_unification.specs.declared.graph.Graph as memory_graph
use Rattle.graph_unification.specs.Memory.{graph_in}
use Rattle.graph_unification.specs.Standing.{CodeStands}
use Rattle.heap_graph.specs.declared.program.FunctionGraph.{FunctionGraph}
use Rattle.heap_graph.specs.declared.program.ProgramGraphs.{ProgramGraphs}
use Rattle.dsa_local.specs.Told.{NoCopies}
use Rattle.dsa_local.proofs.InnerCalls.Kept.{classes_joined_kept}
use Rattle.dsa_local.specs.Local.{IsJoinedGroup}
use Rattle.dsa_local.specs.FirstTold.{FirstTold}
use Rattle.dsa_local.specs.Keeping.{Keeps}
use Rattle.dsa_local.proofs.GoingOn.{first_kept}
use Rattle.dsa_local.proofs.FirstValues.Closing.{first_shown}
use Rattle.dsa_inlining.specs.declared.before.Before.{Before}
use Rattle.dsa_inlining.specs.Before.{GraphsBefore, graphs_before, is_inside}
use Rattle.dsa_inlining.specs.Crossings.{owners_in, AllReached, IsKnown}
use Rattle.dsa_bottom_up.specs.Assembled.{kept_graph, IsAssembled}
use Rattle.dsa_bottom_up.specs.AssembledGroups.Making.{IsGrouped, family_at, BeginsWith, IsMaking}
use Rattle.dsa_bottom_up.proofs.Crossing.{kept_restricts}
use Rattle.dsa_bottom_up.proofs.Starting.{HasStart, start_shown}
use Rattle.dsa_bottom_up.proofs.Growing.{start_reached}
use Rattle.dsa_bottom_up.proofs.Whole.{program_closes}
use Rattle.dsa_bottom_up.specs.LeastGraphs.Making.{AreLeast}
use Rattle.dsa_bottom_up.specs.Smallest.{IsSmallest}
use Rattle.dsa_bottom_up.proofs.StartGraph.{IsStartBegun}
use Rattle.dsa_bottom_up.proofs.Smallest.{program_smallest}
use Rattle.dsa_bottom_up.specs.Bare.{AreBare}
use Rattle.dsa_bottom_up.proofs.AllBare.{program_least}
use Rattle.dsa_bottom_up.specs.declared.making.Making.{Making}
use Rattle.dsa_inlining.specs.GroupStatics.Groups.{HaveStatics}
use Rattle.dsa_inlining.specs.Live.{AreLive}
use Rattle.dsa_bottom_up.specs.Making.{made_in, AreKeptBelow}

-- ---- what is known before

pub known_of : (before : Before) (tac : memory_tac.Tac) (groups : Groups) (making : Making) → graphs_before before ≡ made_in tac groups making → IsGrouped tac groups → (number : ℕ) → AreKeptBelow (made_in tac groups making) number → IsKnown before
known_of before tac groups making same grouped number below = record {
  code = subst (λ (g : GraphsBefore). CodeStands (tac_of g.tac)) (sym same) grouped.stands.code;
  literals = subst (λ (g : GraphsBefore). LiteralsStand g.tac.types g.tac.literals.items) (sym same) grouped.literals;
  groups = subst (λ (g : GraphsBefore). IsOf g.tac g.groups) (sym same) grouped.of;
  live = subst (λ (g : GraphsBefore). AreLive g.tac g.escaping g.live) (sym same) below.live;
  statics = subst (λ (g : GraphsBefore). HaveStatics g.tac.types g.graphs g.statics) (sym same) below.statics;
}

pub reached_of : (before : Before) (tac : memory_tac.Tac) (groups : Groups) (making : Making) → graphs_before before ≡ made_in tac groups making → IsGrouped tac groups
    → IsMaking (made_in tac groups making) (length (groups_of groups)) → (owners : List (Option FunctionId)) → owners ≡ None ∷ [] → AllReached (graphs_before before) None owners
reached_of before tac groups making same grouped made owners alone =
    subst (λ os. AllReached (graphs_before before) None os) (sym alone)
    (subst (λ (g : GraphsBefore). AllReached g None (None ∷ [])) (sym same) (start_reached (made_in tac groups making) grouped made grouped.known_first))

-- ---- the graph of `start` with first values

-- first values are told, and what was told of it is told still
pub first_joined : (tac : memory_tac.Tac) (groups : Groups) → AreMade (tac_of tac).structs → (old new : Graph) → IsSound (tac_of tac).structs old → Keeps (tac_of tac) old new → IsJoinedGroup (tac_of tac) (InStart ∷ []) (λ number. false) old
    → IsJoinedGroup (tac_of tac) (InStart ∷ []) (is_inside groups None) new
first_joined tac groups made old new sound keeps joined = record {
  told = keeps.names (InStart ∷ []) joined.told;
  named = keeps.goes.named joined.named;
  classes = classes_joined_kept (tac_of tac).structs made (tac_of tac) (is_inside groups None) old new sound keeps.goes joined.classes;
  calls = λ caller inside. absurd (false≢true inside);
}

pub still_joined : (before : Before) (tac : memory_tac.Tac) (groups : Groups) (making : Making) → graphs_before before ≡ made_in tac groups making → (owners : List (Option FunctionId)) → owners ≡ None ∷ [] → (graph : memory_graph.Graph)
    → IsJoinedGroup (tac_of tac) (InStart ∷ []) (is_inside groups None) (graph_in tac.types graph) → IsJoinedGroup (tac_of before.tac.now) (owners_in owners) (is_inside before.groups.now None) (graph_in before.tac.now.types graph)
still_joined before tac groups making same owners alone graph joined =
    subst (λ os. IsJoinedGroup (tac_of before.tac.now) (owners_in os) (is_inside before.groups.now None) (graph_in before.tac.now.types graph)) (sym alone)
    (subst (λ (g : GraphsBefore). IsJoinedGroup (tac_of g.tac) (InStart ∷ []) (is_inside g.groups None) (graph_in g.tac.types graph)) (sym same) joined)

none_there : (found : Option Target) → has_target found ≡ false → found ≡ None
none_there None has = refl
none_there (Some target) has = absurd (false≢true (sym has))

pub first_copies : (tac : Tac) (old new : Graph) → Keeps tac old new → NoCopies old → NoCopies new
first_copies tac old new keeps copies = λ number. none_there (new.targets (OfCopy number)) (keeps.statics (OfCopy number) refl ∙ ap has_target (copies number))

pub still_no_copies : (before : Before) (tac : memory_tac.Tac) (groups : Groups) (making : Making) → graphs_before before ≡ made_in tac groups making → (graph : memory_graph.Graph) → NoCopies (graph_in tac.types graph)
    → NoCopies (graph_in before.tac.now.types graph)
still_no_copies before tac groups making same graph copies = subst (λ (g : GraphsBefore). NoCopies (graph_in g.tac.types graph)) (sym same) copies

-- ---- the program

-- a list of one is its last
pub one_alone : (all rest : List FunctionGraph) (own : FunctionGraph) → all ≡ rest ++ own ∷ [] → length all ≡ 1 → all ≡ own ∷ []
one_alone all [] own is one = is
one_alone all (first ∷ rest) own is one = absurd (by (sym (ap length is) ∙ one))
  where
    by : length (first ∷ (rest ++ own ∷ [])) ≡ 1 → ⊥
    by same = let long = length-append rest (own ∷ []) in omega (arith, same, long)

-- what was made of `start`, over the graphs of all groups
pub start_assembled : (before : Before) (tac : memory_tac.Tac) (groups : Groups) (making : Making) → graphs_before before ≡ made_in tac groups making → (owners : List (Option FunctionId)) → owners ≡ None ∷ [] → (begun : memory_graph.Graph)
    (graph : FrozenGraph) (functions rest : List FunctionGraph) (own : FunctionGraph) → functions ≡ rest ++ own ∷ [] → IsAssembled (graphs_before before) None owners (graph_in before.tac.now.types begun) graph functions
    → IsAssembled (made_in tac groups making) None (None ∷ []) (graph_in tac.types begun) graph (own ∷ [])
start_assembled before tac groups making same owners alone begun graph functions rest own last assembled =
    let one = one_alone functions rest own last (assembled.size ∙ ap length alone) in
    subst (λ (g : GraphsBefore). IsAssembled g None (None ∷ []) (graph_in g.tac.types begun) graph (own ∷ [])) same
    (subst (λ fs. IsAssembled (graphs_before before) None (None ∷ []) (graph_in before.tac.now.types begun) graph fs) one
    (subst (λ os. IsAssembled (graphs_before before) None os (graph_in before.tac.now.types begun) graph functions) alone assembled))

pub groups_many : (groups : Groups) → length (groups_of groups) ≡ length groups.members.items
groups_many groups = length-map groups.members.items (λ members. numbers_of members.items)

module _ (tac : memory_tac.Tac) (groups : Groups) (making : Making) (grouped : IsGrouped tac groups) (made : IsMaking (made_in tac groups making) (length (groups_of groups))) (all : ProgramGraphs)
    (graphs : all.graphs ≡ making.graphs) (functions : all.functions ≡ making.functions) where
  abbrev before : GraphsBefore
  before = made_in tac groups making

  pub begins : BeginsWith before (length (groups_of groups)) all
  begins = record {
    functions = ap (λ fs. length fs.items) functions ∙ made.functions;
    graphs = λ at less. ap (λ gs. slice_get gs.items at) graphs;
    own = λ called group is less. ap (λ fs. slice_get fs.items called) functions;
  }

  -- where the graph of `start` was closed over one in which first values are told, so is the program
  pub ends_closed : (begun : Graph) (own : FunctionGraph) → IsSound (tac_of tac).structs begun → FirstTold (tac_of tac) begun → IsAssembled before None (None ∷ []) begun all.start (own ∷ []) → all.start_function ≡ own
      → Closed (family_at before all)
  ends_closed begun own sound told assembled is =
      let has : HasStart all.start own all = record { is = refl; function = is } in
      program_closes before begun all.start own all grouped made begins has assembled
      (first_shown (family_at before all) assembled.made (kept_graph before (None ∷ []) all.start (own ∷ [])) (kept_restricts before None (None ∷ []) begun all.start (own ∷ []) assembled)
      (start_shown before all.start own all grouped has) (InStart ∷ []) assembled.told (first_kept (tac_of tac) grouped.stands.code.made begun assembled.made sound assembled.goes told))

  -- and it is mapped to each other closed family, where the groups are
  pub ends_smallest : (begun : Graph) (own : FunctionGraph) → (tac_of tac).start.parameters ≡ 0 → IsAssembled before None (None ∷ []) begun all.start (own ∷ []) → IsStartBegun before begun → all.start_function ≡ own
      → AreLeast before (length (groups_of groups)) → IsSmallest (family_at before all)
  ends_smallest begun own start assembled begins_so is least =
      program_smallest before start begun all.start own all grouped made least begins (ap (λ gs. length gs.items) graphs ∙ made.graphs) (record { is = refl; function = is }) assembled begins_so

  -- and no flag can be taken away
  pub ends_least : (begun : Graph) (own : FunctionGraph) → (tac_of tac).start.parameters ≡ 0 → IsAssembled before None (None ∷ []) begun all.start (own ∷ []) → IsStartBegun before begun → all.start_function ≡ own
      → AreLeast before (length (groups_of groups)) → AreBare before (length (groups_of groups)) → Closed (family_at before all) → Least (family_at before all)
  ends_least begun own start assembled begins_so is least bare closed =
      program_least before start begun all.start own all grouped made least bare begins (ap (λ gs. length gs.items) graphs ∙ made.graphs) (record { is = refl; function = is }) assembled begins_so closed
