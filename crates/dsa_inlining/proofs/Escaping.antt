-- What callers see of a function is copied where all nodes that escape it are.
use Rattle.std.proofs.Common.{◌≡◌, ℕ, ◌<◌, ◌↔◌, true, List, length, Contains, Option, Some, ap, ◌∙◌}
use Rattle.std.proofs.lemmas.Bool.{false≢true}
use Rattle.c_typed.specs.Table.{Interned, structs_in}
use Rattle.tac_ir.specs.declared.register.Local.TheVariants as L
use Rattle.tac_ir.specs.declared.register.Register.TheVariants as R
use Rattle.tac_ir.specs.States.{InFunction}
use Rattle.heap_graph.specs.Graphs.{Target, Name, OfRegister, OfResult, OfObject, OfGlobal, OfLiteral, OfCopy, Graph}
use Rattle.heap_graph.specs.Merging.{IsSound}
use Rattle.heap_graph.specs.Escaping.{is_outside, here, Escapes}
use Rattle.heap_graph.specs.Closed.{Family, graph_of}
use Rattle.heap_graph.specs.Frozen.{bare, own_graph}
use Rattle.heap_graph.specs.declared.frozen.FunctionNames.{FunctionNames}
use Rattle.heap_graph.specs.declared.frozen.FrozenGraph.{FrozenGraph}
use Rattle.heap_graph.specs.Shows.{ShowsGraph, ShowsNames}
use Rattle.heap_graph.specs.declared.marks.NodeMarks.{NodeMarks}
use Rattle.heap_graph.specs.Marks.{is_marked, AreMarked}
use Rattle.heap_graph.specs.Edges.{EdgesAreFound}
use Rattle.graph_unification.proofs.WholeFunction.{owner_eq}
use Rattle.dsa_inlining.specs.Adding.{AreNumbered}
use Rattle.dsa_inlining.proofs.Listed.{escapes_listed}

module _ (table : Interned) (called : ℕ) (graph : FrozenGraph) (names : FunctionNames) where
  abbrev callee : Graph
  callee = own_graph table graph names

  -- where the nodes of all that callers see are listed, these are copied
  pub outside_copied : (numbers : List ℕ) (copies : ℕ → Option ℕ) (first next : ℕ) → IsSound (structs_in table) callee → AreNumbered (bare table graph) numbers copies first next
      → ((name : Name) (target : Target) → is_outside (InFunction called) name ≡ true → callee.targets name ≡ Some target → Contains numbers target.node)
      → (name : Name) (target : Target) → is_outside (InFunction called) name ≡ true → callee.targets name ≡ Some target → (copy : ℕ) × (copies target.node ≡ Some copy)
  outside_copied numbers copies first next sound numbered listed name target outside is =
      let slot = sound.names name target is in
      numbered.all target.node slot.node (listed name target outside is) slot.is

  module _ (family : Family) (graph_shown : ShowsGraph table family (InFunction called) graph) (names_shown : ShowsNames family (InFunction called) names) where
    abbrev theirs : Name → Option Target
    theirs name = (graph_of family (InFunction called)).targets name

    -- callers see the same names in the program's graph
    outside_shown : (name : Name) → is_outside (InFunction called) name ≡ true → theirs name ≡ callee.targets name
    outside_shown (OfRegister own (R.Local (L.Parameter number))) outside =
        ap (λ o. theirs (OfRegister o (R.Local (L.Parameter number)))) (owner_eq own (InFunction called) outside) ∙ names_shown.registers (R.Local (L.Parameter number))
    outside_shown (OfRegister own (R.Local (L.Variable number))) outside = absurd (false≢true outside)
    outside_shown (OfRegister own (R.Call number)) outside = absurd (false≢true outside)
    outside_shown (OfRegister own (R.Argument number)) outside = absurd (false≢true outside)
    outside_shown (OfRegister own (R.Expression number)) outside = absurd (false≢true outside)
    outside_shown (OfRegister own (R.Temporary number)) outside = absurd (false≢true outside)
    outside_shown (OfResult own) outside = ap (λ o. theirs (OfResult o)) (owner_eq own (InFunction called) outside) ∙ names_shown.returned
    outside_shown (OfObject own local) outside = absurd (false≢true outside)
    outside_shown (OfGlobal number) outside = graph_shown.globals number
    outside_shown (OfLiteral number) outside = graph_shown.literals number
    outside_shown (OfCopy number) outside = absurd (false≢true outside)

    -- what is seen of a function escapes it, and so is listed
    pub outside_listed : IsSound (structs_in table) callee → IsSound (structs_in table) (bare table graph) → EdgesAreFound graph → (marks : NodeMarks)
        → ((number : ℕ) → number < length graph.nodes.items → (is_marked marks number ≡ true) ↔ Escapes (graph_of family (InFunction called)) (InFunction called) number) → (numbers : List ℕ) → AreMarked marks numbers
        → (name : Name) (target : Target) → is_outside (InFunction called) name ≡ true → callee.targets name ≡ Some target → Contains numbers target.node
    outside_listed sound plain found marks escaping numbers listed name target outside is =
        let slot = sound.names name target is in
        escapes_listed table family called graph graph_shown plain found marks escaping numbers listed target.node slot.node slot.is
        (record { name = name; outside = outside; target = target; is = outside_shown name outside ∙ is; reaches = here target.node })
