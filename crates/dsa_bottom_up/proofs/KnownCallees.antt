-- Functions of groups before, as a family shows them.
use Rattle.std.proofs.Common.{◌≡◌, ℕ, ◌<◌, true, length, Option, Some, ap, ◌∙◌, arith}
use Rattle.std.proofs.lemmas.Bool.{false≢true}
use Rattle.std.proofs.lemmas.List.{length-map}
use Rattle.std.proofs.lemmas.Option.{slice_get_within}
use Rattle.tac_ir.specs.States.{InFunction}
use Rattle.tac_ir.specs.Views.{tac_of, function_in}
use Rattle.tac_ir.specs.declared.register.Local.TheVariants as L
use Rattle.tac_ir.specs.declared.register.Register.TheVariants as R
use Rattle.heap_graph.specs.Graphs.{Target, Name, OfRegister, OfResult, OfObject, OfGlobal, OfLiteral, OfCopy}
use Rattle.heap_graph.specs.Escaping.{is_outside, Escapes}
use Rattle.heap_graph.specs.Closed.{Family, graph_of, group_of, group_from, of_group}
use Rattle.heap_graph.specs.declared.program.ProgramGraphs.{ProgramGraphs}
use Rattle.heap_graph.specs.Shows.{ShowsGraph, ShowsNames}
use Rattle.heap_graph.proofs.GroupNumbers.{is_then_in, own_number}
use Rattle.heap_graph.specs.Completed.{HasNodes}
use Rattle.heap_graph.proofs.CompletedGraph.{closed_has_nodes}
use Rattle.call_graph.specs.GroupViews.{groups_of}
use Rattle.graph_unification.proofs.WholeFunction.{owner_eq}
use Rattle.dsa_inlining.specs.Adding.{AreNumbered}
use Rattle.dsa_inlining.specs.Before.{GraphsBefore, IsReached, graph_reached, nodes_reached}
use Rattle.dsa_bottom_up.specs.AssembledGroups.Making.{IsGrouped, family_at, BeginsWith, IsMaking}
use Rattle.dsa_bottom_up.proofs.Growing.{begins_shows}

-- it is of a group before, its graph and names are shown, and its graph leads to nodes
pub record IsKnownCallee (before : GraphsBefore) (number : ℕ) (all : ProgramGraphs) (called : ℕ) (reached : IsReached before called) : Type 0 where
  pub less : group_of (family_at before all) called < number
  pub within : called < length (tac_of before.tac).functions
  pub shown : ShowsGraph before.tac.types (family_at before all) (InFunction called) reached.graph
  pub names : ShowsNames (family_at before all) (InFunction called) reached.own.names
  pub sound : HasNodes (graph_of (family_at before all) (InFunction called))

pub known_callee : (before : GraphsBefore) → IsGrouped before.tac before.groups → (number : ℕ) → IsMaking before number → (all : ProgramGraphs) → BeginsWith before number all → (called : ℕ) (reached : IsReached before called)
    → IsKnownCallee before number all called reached
known_callee before grouped number making all begins called reached =
    let family = family_at before all in
    let home = grouped.of.group called reached.group reached.of in
    let inside = is_then_in called home.0 home.2 in
    let told : group_from 0 (groups_of before.groups) called ≡ reached.group = own_number (tac_of before.tac) (groups_of before.groups) grouped.groups reached.group called home.0 home.1 inside in
    let place = slice_get_within before.graphs reached.group reached.graph reached.graph_is in
    let size = making.graphs in
    let less : reached.group < number = omega (arith, size, place) in
    let shows = begins_shows before number all grouped making begins called reached in
    let there = slice_get_within before.groups.group_of.items called reached.group reached.of in
    let each = grouped.of.each in
    let many : length (tac_of before.tac).functions ≡ length before.tac.functions.items = length-map before.tac.functions.items (function_in before.tac.types) in
    record {
      less = omega (arith, told, less);
      within = omega (arith, there, each, many);
      shown = shows.0;
      names = shows.1;
      sound = closed_has_nodes family (graph_of family (InFunction called)) (of_group home.0) (InFunction called) ((making.closed all begins reached.group less).graph called home.0 home.1 inside);
    }

module _ (before : GraphsBefore) (number : ℕ) (all : ProgramGraphs) (called : ℕ) (reached : IsReached before called) (known : IsKnownCallee before number all called reached) where
  abbrev family : Family
  family = family_at before all

  abbrev theirs : Name → Option Target
  theirs name = (graph_of family (InFunction called)).targets name

  -- what is copied escapes it
  pub copy_escapes : (copies : ℕ → Option ℕ) (first next : ℕ) → AreNumbered (nodes_reached before called reached) reached.numbers copies first next → (node copy : ℕ) → copies node ≡ Some copy
      → Escapes (graph_of (family_at before all) (InFunction called)) (InFunction called) node
  copy_escapes copies first next numbered node copy of =
      let its = (numbered.only node copy of).0 in
      (reached.ready.escapes family known.shown known.names node (reached.ready.within node its)).0 ((reached.ready.listed node).1 its)

  -- callers see the same names
  pub outside_shown : (name : Name) → is_outside (InFunction called) name ≡ true → (graph_of (family_at before all) (InFunction called)).targets name ≡ (graph_reached before called reached).targets name
  outside_shown (OfRegister own (R.Local (L.Parameter place))) outside =
      ap (λ o. theirs (OfRegister o (R.Local (L.Parameter place)))) (owner_eq own (InFunction called) outside) ∙ known.names.registers (R.Local (L.Parameter place))
  outside_shown (OfRegister own (R.Local (L.Variable place))) outside = absurd (false≢true outside)
  outside_shown (OfRegister own (R.Call place)) outside = absurd (false≢true outside)
  outside_shown (OfRegister own (R.Argument place)) outside = absurd (false≢true outside)
  outside_shown (OfRegister own (R.Expression place)) outside = absurd (false≢true outside)
  outside_shown (OfRegister own (R.Temporary place)) outside = absurd (false≢true outside)
  outside_shown (OfResult own) outside = ap (λ o. theirs (OfResult o)) (owner_eq own (InFunction called) outside) ∙ known.names.returned
  outside_shown (OfObject own local) outside = absurd (false≢true outside)
  outside_shown (OfGlobal place) outside = known.shown.globals place
  outside_shown (OfLiteral place) outside = known.shown.literals place
  outside_shown (OfCopy place) outside = absurd (false≢true outside)
