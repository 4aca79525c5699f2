-- What two families tell of functions of groups below a number, of which both are closed and can be mapped to each other, is the same: how many
-- nodes escape each, and of which variables outside functions and literals its graph tells.
use Rattle.std.proofs.Common.{◌≡◌, ℕ, ◌<◌, ◌≤◌, true, List, length, Option, Some, None, refl, sym, ap, ◌∙◌}
use Rattle.std.proofs.lemmas.Bool.{false≢true}
use Rattle.tac_ir.specs.Code.{Tac}
use Rattle.tac_ir.specs.States.{InFunction}
use Rattle.tac_ir.specs.Groups.{AreGroups}
use Rattle.heap_graph.specs.Graphs.{Target, Name, Graph, ProgramGraphs}
use Rattle.heap_graph.specs.Targets.{has_target}
use Rattle.heap_graph.specs.Closed.{Family, graph_of, group_from}
use Rattle.heap_graph.proofs.MapsCompose.{mapped_there}
use Rattle.heap_graph.specs.Faults.{GroupClosed}
use Rattle.dsa_bottom_up.specs.Mapping.{GroupMaps, MapsBelow}
use Rattle.dsa_bottom_up.proofs.Reaching.{node_image, escapes_mapped}
use Rattle.dsa_bottom_up.proofs.SoundGraphs.{ends_there, name_there}
use Rattle.dsa_bottom_up.specs.Refused.{AreEscaping}
use Rattle.dsa_bottom_up.proofs.Rising.{rising_fewer}
use Rattle.dsa_bottom_up.proofs.RoundTrips.{family_with, Grouped, grouped, comes_back}

module _ (tac : Tac) (groups : List (List ℕ)) (are : AreGroups tac groups) (first second : ProgramGraphs) (number : ℕ) (reach : number ≤ length groups)
    (closed : (at : ℕ) → at < number → GroupClosed (family_with tac groups first) at) (there back : GroupMaps) (to : MapsBelow (family_with tac groups first) (family_with tac groups second) number there)
    (from : MapsBelow (family_with tac groups second) (family_with tac groups first) number back) (function : ℕ) (below : group_from 0 groups function < number) where
  abbrev one : Family
  one = family_with tac groups first

  abbrev two : Family
  two = family_with tac groups second

  abbrev own : ℕ
  own = group_from 0 groups function

  abbrev old : Graph
  old = graph_of one (InFunction function)

  abbrev new : Graph
  new = graph_of two (InFunction function)

  home : Grouped one function
  home = grouped one number reach closed function below

  -- no more nodes escape it than in the other family
  pub escaping_fewer : (numbers others : List ℕ) → AreEscaping (family_with tac groups first) function numbers → AreEscaping (family_with tac groups second) function others → length numbers ≤ length others
  escaping_fewer numbers others are_own are_others =
      rising_fewer numbers others (λ node. (there own node).node) are_own.rises
      (λ node is.
      let its = (are_own.exactly node).0 is in
      let image = node_image tac.structs old new (there own) (to function below).shape node its.0 its.1 in
      let escapes = its.2 in
      (are_others.exactly (there own node).node).1 (
        image.node,
        image.is,
        escapes_mapped tac.structs old new (there own) (to function below).shape (ends_there old home.sound) (InFunction function) node escapes (name_there old home.sound escapes.name escapes.target escapes.is),
      ))
      (λ a b is also same.
      let x = (are_own.exactly a).0 is in
      let y = (are_own.exactly b).0 also in
      sym (comes_back tac groups are first second number reach closed there back to from function below a x.0 x.1)
      ∙ (ap (λ n. (back own n).node) same ∙ comes_back tac groups are first second number reach closed there back to from function below b y.0 y.1))

  -- what it tells of, the other tells of
  pub told_too : (name : Name) → has_target ((graph_of (family_with tac groups first) (InFunction function)).targets name) ≡ true
      → has_target ((graph_of (family_with tac groups second) (InFunction function)).targets name) ≡ true
  told_too name has = by (old.targets name) refl has
    where
      by : (found : Option Target) → old.targets name ≡ found → has_target found ≡ true → has_target (new.targets name) ≡ true
      by None is none = absurd (false≢true none)
      by (Some target) is some =
          let node = name_there old home.sound name target is in
          let image = node_image tac.structs old new (there own) (to function below).shape target.node node.0 node.1 in
          ap has_target ((to function below).shape.names name target is ∙ mapped_there new (there own) target image.node image.is)
