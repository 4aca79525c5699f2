-- What is kept of a graph that was made is mapped where its certain nodes are; flags may have been set since.
use Rattle.std.proofs.Common.{◌≡◌, ℕ, Bool, true, false, cond, List, Option, Some, None, refl, sym, ap, subst, ◌∙◌}
use Rattle.std.proofs.lemmas.Option.{none-some}
use Rattle.c_typed.specs.Layouts.{StructDef}
use Rattle.tac_ir.specs.Code.{Tac}
use Rattle.tac_ir.specs.States.{Owner}
use Rattle.heap_graph.specs.Graphs.{Target, Name, OfRegister, OfResult, OfObject, OfGlobal, OfLiteral, OfCopy, Edge, Graph, edge_in}
use Rattle.heap_graph.specs.Targets.{at_target, element_kept}
use Rattle.heap_graph.specs.Merging.{GraphMap, mapped}
use Rattle.heap_graph.specs.Asks.{is_certain}
use Rattle.heap_graph.specs.Restricted.{if_certain}
use Rattle.heap_graph.specs.CertainMaps.{MapsCertain}
use Rattle.dsa_local.specs.Growing.{OnlyFlagsGrow}
use Rattle.dsa_local.proofs.Grown.{certain_grown}
use Rattle.dsa_local.proofs.GrownMaps.{grown_places}
use Rattle.dsa_inlining.specs.Kept.{is_own, IsFrozen}
use Rattle.dsa_inlining.proofs.KeptNodes.{before}
use Rattle.dsa_bottom_up.specs.Mapping.{MapsShape}
use Rattle.dsa_bottom_up.proofs.SamePoints.{with_copies}

if_some : (graph : Graph) (target : Option Target) (to : Target) → if_certain graph target ≡ Some to → (target ≡ Some to) × (is_certain graph (Some to) ≡ true)
if_some graph None to e = absurd (none-some to e)
if_some graph (Some target) to e = by (is_certain graph (Some target)) refl e
  where
    by : (b : Bool) → is_certain graph (Some target) ≡ b → cond b (Some target) None ≡ Some to → (Some target ≡ Some to) × (is_certain graph (Some to) ≡ true)
    by true certain h = (h, ap (is_certain graph) (sym h) ∙ certain)
    by false certain h = absurd (none-some to h)

module _ (tac : Tac) (owners : Owner → Bool) (made kept : Graph) (frozen : IsFrozen tac owners made kept) where
  -- a name that is kept leads where it led, to a certain node
  pub kept_name : (name : Name) (target : Target) → kept.targets name ≡ Some target → (made.targets name ≡ Some target) × (is_certain made (Some target) ≡ true)
  kept_name name target is = by (is_own tac owners name) (sym (frozen.names name) ∙ is)
    where
      by : (b : Bool) → cond b (if_certain made (made.targets name)) None ≡ Some target → (made.targets name ≡ Some target) × (is_certain made (Some target) ≡ true)
      by true e = if_some made (made.targets name) target e
      by false e = absurd (none-some target e)

module _ (tac : Tac) (owners : Owner → Bool) (made kept : Graph) (frozen : IsFrozen tac owners made kept) (typed : Graph) (grows : OnlyFlagsGrow typed made) (structs : List StructDef) (other : Graph)
    (at : ℕ → Option Target) (map : GraphMap) (maps : MapsCertain structs typed (with_copies other at) map) where
  still_certain : (target : Target) → is_certain made (Some target) ≡ true → is_certain typed (Some target) ≡ true
  still_certain target certain = sym (certain_grown typed made grows (Some target)) ∙ certain

  named : (name : Name) (target : Target) → kept.targets name ≡ Some target → (with_copies other at).targets name ≡ mapped other map target
  named name target is = let was = kept_name tac owners made kept frozen name target is in maps.names name target (sym (grows.names name) ∙ was.0) (still_certain target was.1)

  pub kept_shape : MapsShape structs kept other map
  kept_shape = record {
    names = by;
    elements = λ number node is.
        let was = before made kept frozen.nodes number node is in
        let first = (grown_places typed made grows).nodes number was.old was.is in
        subst (λ element. at_target other (Some (map number)) (element_kept structs element) ≡ true) (sym (was.keeps.element ∙ first.element)) (maps.elements number first.was first.is (sym first.certain ∙ was.keeps.certain));
    edges = λ number slot node to is edge.
        let was = before made kept frozen.nodes number node is in
        let its = if_some made (edge_in was.old.edges slot) to (sym (was.keeps.edges slot) ∙ edge) in
        let first = (grown_places typed made grows).nodes number was.old was.is in
        maps.edges number slot first.was to first.is (sym first.certain ∙ was.keeps.certain) (sym (ap (λ (edges : List Edge). edge_in edges slot) first.edges) ∙ its.0) (still_certain to its.1);
  }
    where
      -- copies have no names any more
      by : (name : Name) (target : Target) → kept.targets name ≡ Some target → other.targets name ≡ mapped other map target
      by (OfRegister owner register) target is = named (OfRegister owner register) target is
      by (OfResult owner) target is = named (OfResult owner) target is
      by (OfObject owner local) target is = named (OfObject owner local) target is
      by (OfGlobal number) target is = named (OfGlobal number) target is
      by (OfLiteral number) target is = named (OfLiteral number) target is
      by (OfCopy number) target is = absurd (none-some target (sym (frozen.names (OfCopy number)) ∙ is))
