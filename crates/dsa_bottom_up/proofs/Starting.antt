-- All that is told of the graph of `start` closes it in each family of graphs that has it.
use Rattle.std.proofs.Common.{◌≡◌, ℕ, Bool, true, List, [], ◌∷◌, Option, None, refl, sym, ap, subst, ◌∙◌}
use Rattle.std.proofs.lemmas.Bool.{false≢true}
use Rattle.tac_ir.specs.declared.register.FunctionId.{FunctionId}
use Rattle.tac_ir.specs.States.{Owner, InStart, InFunction}
use Rattle.tac_ir.specs.Views.{tac_of}
use Rattle.heap_graph.specs.Graphs.{Graph}
use Rattle.heap_graph.specs.Closed.{Family, graph_of, same_group, is_start, first_closed, FunctionClosed, GraphClosed}
use Rattle.heap_graph.specs.Frozen.{graph_with}
use Rattle.heap_graph.specs.declared.frozen.FrozenGraph.{FrozenGraph}
use Rattle.heap_graph.specs.declared.program.FunctionGraph.{FunctionGraph}
use Rattle.heap_graph.specs.declared.program.ProgramGraphs.{ProgramGraphs}
use Rattle.heap_graph.specs.Programs.{start_names}
use Rattle.heap_graph.specs.Faults.{StartClosed}
use Rattle.dsa_local.specs.Mentioned.{is_among}
use Rattle.dsa_inlining.specs.Owners.{is_owner, names_in}
use Rattle.dsa_inlining.specs.Embedded.{CopiesAreImages}
use Rattle.dsa_inlining.proofs.ShownKept.{start_same, start_names_are}
use Rattle.dsa_inlining.proofs.ClosedGraph.{graph_closed}
use Rattle.dsa_bottom_up.specs.MadeGroups.Made.{IsGroup, IsMade, AreOuterClosed}
use Rattle.dsa_bottom_up.proofs.MadeGroups.Functions.{function_closes}
use Rattle.dsa_bottom_up.proofs.Points.{globals_hold, literals_hold}
use Rattle.dsa_inlining.specs.Before.{GraphsBefore, is_inside}
use Rattle.dsa_inlining.specs.Crossings.{owners_in}
use Rattle.dsa_bottom_up.specs.Assembled.{IsAssembled, kept_graph}
use Rattle.dsa_bottom_up.specs.AssembledGroups.Making.{IsGrouped, family_at}
use Rattle.dsa_bottom_up.proofs.AssembledGroups.Classes.{start_callees_are_one}
use Rattle.dsa_bottom_up.proofs.Closing.{assembled_made}
use Rattle.dsa_bottom_up.proofs.Placed.{all_told}

-- the graphs have that of `start`, and what is told of it
pub record HasStart (graph : FrozenGraph) (own : FunctionGraph) (all : ProgramGraphs) : Type 0 where
  pub is : all.start ≡ graph
  pub function : all.start_function ≡ own

module _ (before : GraphsBefore) (graph : FrozenGraph) (own : FunctionGraph) (all : ProgramGraphs) (grouped : IsGrouped before.tac before.groups) (has : HasStart graph own all) where
  abbrev family : Family
  family = family_at before all

  abbrev alone : List (Option FunctionId)
  alone = None ∷ []

  abbrev inside : ℕ → Bool
  inside = is_inside before.groups None

  abbrev kept : Graph
  kept = kept_graph before alone graph (own ∷ [])

  -- it has the graph in which it has its names
  pub start_shown : graph_of (family_at before all) InStart ≡ kept_graph before (None ∷ []) graph (own ∷ [])
  start_shown =
      let names : start_names all.start_function ≡ names_in alone (own.names ∷ []) = λ i owner. (ap (λ f. start_names f owner) has.function ∙ sym (start_names_are own owner)) i in
      ap (λ g. graph_with before.tac.types g (start_names all.start_function)) has.is ∙ ap (λ n. graph_with before.tac.types graph n) names

  pub start_owner_shown : (owner : Owner) → is_among owner (owners_in (None ∷ [])) ≡ true → graph_of (family_at before all) owner ≡ kept_graph before (None ∷ []) graph (own ∷ [])
  start_owner_shown InStart is = start_shown
  start_owner_shown (InFunction one) is = absurd (false≢true is)

  same : (owner : Owner) (called : ℕ) → is_among owner (owners_in alone) ≡ true → same_group family owner called ≡ true → inside called ≡ true
  same InStart called among alike = absurd (false≢true alike)
  same (InFunction one) called among alike = absurd (false≢true among)

  -- no function is with it
  pub is_start_group : IsGroup (family_at before all) (owners_in (None ∷ [])) (is_inside before.groups None)
  is_start_group = record {
    code = grouped.stands.code;
    own = λ caller. refl;
    same = same;
    members = λ a b one other. absurd (false≢true one);
    together = λ pointer c_type a b called first second is. absurd (false≢true is);
  }

  module _ (begun : Graph) (assembled : IsAssembled before None (None ∷ []) begun graph (own ∷ [])) (first : first_closed (family_at before all) 0 (family_at before all).tac.globals ≡ true)
      (outer : AreOuterClosed (family_at before all) InStart) (images : CopiesAreImages (family_at before all) (is_owner (None ∷ [])) assembled.made) where
    made : IsMade family (owners_in alone) inside assembled.made kept
    made = assembled_made before None alone begun graph (own ∷ []) assembled all start_owner_shown

    function : FunctionClosed family InStart family.tac.start
    function = function_closes family (owners_in alone) inside assembled.made kept is_start_group made InStart refl outer (start_callees_are_one before all grouped) family.tac.start refl

    last : GraphClosed family family.graphs.start is_start InStart
    last =
        let closed : GraphClosed family kept (is_owner alone) InStart =
        graph_closed family (is_owner alone) assembled.made kept assembled.frozen (all_told (tac_of before.tac) alone assembled.made assembled.told.only) assembled.named images assembled.sound InStart
        (globals_hold family (owners_in alone) inside assembled.made kept made InStart refl) (literals_hold family (owners_in alone) inside assembled.made kept made InStart refl) in
        subst (λ g. GraphClosed family g is_start InStart) (sym start_shown) (subst (λ test. GraphClosed family kept test InStart) start_same closed)

    pub start_closes : StartClosed (family_at before all)
    start_closes = record { start = function; first = first; last = last }
