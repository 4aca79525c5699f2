-- The same names have targets.
use Rattle.std.proofs.Common.{◌≡◌, true, false, List, Option, Some, None, refl, sym, ap, ◌∙◌, ◌⊎◌, inl, inr}
use Rattle.std.proofs.lemmas.Bool.{false≢true}
use Rattle.std.proofs.lemmas.Option.{none-some}
use Rattle.c_typed.specs.Layouts.{StructDef}
use Rattle.heap_graph.specs.Graphs.{Target, Name, Graph}
use Rattle.heap_graph.specs.Targets.{has_target, element_kept}
use Rattle.heap_graph.specs.Merging.{IsSound, GraphMap, mapped, Maps, Asked, LeastWith}
use Rattle.heap_graph.proofs.MapsCompose.{at_there, mapped_there}
use Rattle.graph_unification.proofs.NameKeys.{name_cases}
use Rattle.graph_unification.specs.Leading.{Least}

-- a target has an image
pub image_there : (structs : List StructDef) (old new : Graph) (map : GraphMap) → Maps structs old new map → IsSound structs old → (name : Name) (target : Target) → old.targets name ≡ Some target
    → has_target (mapped new map target) ≡ true
image_there structs old new map maps sound name target e =
    let slot = sound.names name target e in
    let there = at_there new (map target.node) (element_kept structs slot.node.element) (maps.elements target.node slot.node slot.is) in
    ap has_target (mapped_there new map target there.node there.is)

-- a name that has a target keeps it
pub names_kept : (structs : List StructDef) (old new : Graph) (map : GraphMap) → Maps structs old new map → IsSound structs old → (name : Name) → has_target (old.targets name) ≡ true
    → has_target (new.targets name) ≡ true
names_kept structs old new map maps sound name has = by (old.targets name) refl
  where
    by : (o : Option Target) → old.targets name ≡ o → has_target (new.targets name) ≡ true
    by None e = absurd (false≢true (sym (ap has_target e) ∙ has))
    by (Some target) e = ap has_target (maps.names name target e) ∙ image_there structs old new map maps sound name target e

-- the target of a name is taken away
abbrev taken : (name other : Name) → ((other ≡ name) ⊎ (other ≡ name → ⊥)) → Option Target → Option Target
taken name other (inl same) target = None
taken name other (inr differ) target = target

taken_there : (name : Name) (cases : (name ≡ name) ⊎ (name ≡ name → ⊥)) (target : Option Target) → taken name name cases target ≡ None
taken_there name (inl same) target = refl
taken_there name (inr differ) target = absurd (differ refl)

-- The least graph gives a target to no other name: it can be mapped to itself without that.
pub no_more : (structs : List StructDef) (old new : Graph) (asked : Asked) → IsSound structs new → (its : Least structs old new asked)
    → ((targets : Name → Option Target) → asked (record { nodes = new.nodes; targets = targets }) its.map) → (name : Name) → old.targets name ≡ None → has_target (new.targets name) ≡ false
no_more structs old new asked sound its holds name none = by (new.targets name) refl
  where
    fewer : Name → Option Target
    fewer other = taken name other (name_cases name other) (new.targets other)

    lesser : Graph
    lesser = record { nodes = new.nodes; targets = fewer }

    named : (other : Name) (target : Target) → old.targets other ≡ Some target → (cases : (other ≡ name) ⊎ (other ≡ name → ⊥)) → taken name other cases (new.targets other) ≡ mapped new its.map target
    named other target e (inl same) = absurd (none-some target (sym none ∙ ap old.targets (sym same) ∙ e))
    named other target e (inr differ) = its.maps.names other target e

    into : Maps structs old lesser its.map
    into = record { names = λ other target e. named other target e (name_cases name other); elements = its.maps.elements; flags = its.maps.flags; edges = its.maps.edges }

    by : (o : Option Target) → new.targets name ≡ o → has_target (new.targets name) ≡ false
    by None e = ap has_target e
    by (Some target) e =
        let rest = its.least lesser its.map into (holds fewer) in
        absurd (false≢true
        (ap has_target (sym (taken_there name (name_cases name name) (new.targets name)) ∙ rest.1.names name target e)
        ∙ image_there structs new lesser rest.0 rest.1 sound name target e))

pub names_same : (structs : List StructDef) (old new : Graph) (asked : Asked) → IsSound structs old → IsSound structs new → (its : Least structs old new asked)
    → ((targets : Name → Option Target) → asked (record { nodes = new.nodes; targets = targets }) its.map) → (name : Name) → has_target (new.targets name) ≡ has_target (old.targets name)
names_same structs old new asked sound fine its holds name = by (old.targets name) refl
  where
    by : (o : Option Target) → old.targets name ≡ o → has_target (new.targets name) ≡ has_target (old.targets name)
    by None e = no_more structs old new asked fine its holds name e ∙ sym (ap has_target e)
    by (Some target) e = names_kept structs old new its.map its.maps sound name (ap has_target e) ∙ sym (ap has_target e)

pub names_with : (structs : List StructDef) (old new : Graph) (asked : Asked) → IsSound structs old → IsSound structs new → (its : LeastWith structs old new asked)
    → ((targets : Name → Option Target) → asked (record { nodes = new.nodes; targets = targets }) its.map) → (name : Name) → has_target (new.targets name) ≡ has_target (old.targets name)
names_with structs old new asked sound fine its holds = names_same structs old new asked sound fine (record { map = its.map; maps = its.maps; onto = its.onto; holds = its.holds; least = its.least }) holds
