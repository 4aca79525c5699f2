-- Paths from objects outside functions.
use Rattle.std.proofs.Common.{◌≡◌, Bool, true, false, List, Option, Some, None, refl, sym, ap, subst, ◌∙◌}
use Rattle.std.specs.Prelude.{map}
use Rattle.std.proofs.lemmas.Option.{none-some, same_Some}
use Rattle.c_typed.specs.declared.part.Part.{Part}
use Rattle.tac_ir.specs.Code.{AtGlobal, AtLiteral, Tac}
use Rattle.tac_ir.specs.Objects.{global_type, literal_object}
use Rattle.tac_ir.specs.States.{InStart}
use Rattle.heap_graph.specs.Graphs.{Target, OfGlobal, OfLiteral, Graph}
use Rattle.heap_graph.specs.Structures.{AreMade}
use Rattle.heap_graph.specs.Targets.{has_target, at_target, holds_part, implies, elements_of}
use Rattle.heap_graph.specs.Points.{type_of_inner, base_part, path_part}
use Rattle.heap_graph.specs.Closed.{no_graph}
use Rattle.heap_graph.specs.Merging.{IsSlot, IsSound}
use Rattle.heap_graph.proofs.MapsCompose.{at_from}
use Rattle.graph_unification.specs.Applying.{IsMemberTyped}
use Rattle.graph_unification.specs.Fits.{LeadsToPart, PathFits}
use Rattle.graph_unification.proofs.Places.{LeadsToSlot}
use Rattle.graph_unification.proofs.Staying.{base_name, base_named, base_typed_by_code}
use Rattle.graph_unification.specs.Named.{BaseNamed}
use Rattle.graph_unification.proofs.Fitting.{found_below}
use Rattle.graph_unification.proofs.Kept.{global_kept, literal_kept}
use Rattle.dsa_local.specs.declared.roots.Root.{Root}
use Rattle.dsa_local.specs.declared.roots.Root.TheVariants as R
use Rattle.dsa_local.specs.Roots.{base_at}
use Rattle.graph_unification.specs.GraphPremises.First.{step_in, path_to, IsWithin}
use Rattle.graph_unification.specs.Going.{GoesOn}
use Rattle.dsa_local.proofs.GoingOn.{array_goes}
use Rattle.dsa_local.proofs.Storing.{global_slot, literal_slot}

always : (b : Bool) → implies b true ≡ true
always true = refl
always false = refl

module _ (tac : Tac) (graph : Graph) where
  -- no pointer tells their types
  pub root_typed : (root : Root) (parts : List Part) → IsMemberTyped tac InStart (path_to (base_at root) parts) graph
  root_typed (R.Global global) parts = always _
  root_typed (R.Literal literal) parts = always _

  pub root_has : (root : Root) → BaseNamed tac graph (base_at root) → has_target (base_part tac graph InStart (base_at root)).target ≡ true
  root_has (R.Global global) named = named.has
  root_has (R.Literal literal) named = named.has

  pub name_has : (root : Root) → BaseNamed tac graph (base_at root) → has_target (graph.targets (base_name InStart (base_at root))) ≡ true
  name_has (R.Global global) named = named.has
  name_has (R.Literal literal) named = named.has

  pub root_fits : (root : Root) (parts : List Part) → IsWithin tac (base_at root) parts → BaseNamed tac graph (base_at root) → PathFits tac graph InStart (path_to (base_at root) parts)
  root_fits (R.Global global) parts within named =
      let found = found_below tac.globals global.0 within.base in
      record {
        based = λ is. named.has;
        object = λ is.
            subst (λ t. at_target graph (graph.targets (OfGlobal global.0)) (holds_part tac.structs (elements_of t)) ≡ true) (sym (ap (λ o. type_of_inner (global_type o)) found.1)) (named.part found.0 found.1);
        leads = λ is. subst (LeadsToPart tac.structs (AtGlobal global.0) (map step_in parts)) (base_typed_by_code tac no_graph graph InStart (AtGlobal global.0)) (within.leads is);
      }
  root_fits (R.Literal literal) parts within named =
      let found = found_below tac.literals literal.0 within.base in
      record {
        based = λ is. named.has;
        object = λ is.
            subst (λ t. at_target graph (graph.targets (OfLiteral literal.0)) (holds_part tac.structs (elements_of t)) ≡ true) (sym (ap (λ o. type_of_inner (literal_object o)) found.1)) (named.part found.0 found.1);
        leads = λ is. subst (LeadsToPart tac.structs (AtLiteral literal.0) (map step_in parts)) (base_typed_by_code tac no_graph graph InStart (AtLiteral literal.0)) (within.leads is);
      }

  root_slot : AreMade tac.structs → IsSound tac.structs graph → (root : Root) (parts : List Part) → IsWithin tac (base_at root) parts → BaseNamed tac graph (base_at root)
      → LeadsToSlot tac.structs graph (path_part tac graph InStart (path_to (base_at root) parts)).target
  root_slot made sound (R.Global global) parts within named = global_slot tac graph made sound global.0 parts within named
  root_slot made sound (R.Literal literal) parts within named = literal_slot tac graph made sound literal.0 parts within named

  -- the place that is found is a slot
  pub place_slot : AreMade tac.structs → IsSound tac.structs graph → (root : Root) (parts : List Part) → IsWithin tac (base_at root) parts → BaseNamed tac graph (base_at root) → (place : Target)
      → Some place ≡ (path_part tac graph InStart (path_to (base_at root) parts)).target → IsSlot tac.structs graph place
  place_slot made sound root parts within named place is =
      let its = root_slot made sound root parts within named in
      subst (IsSlot tac.structs graph) (sym (same_Some place its.place (is ∙ its.is))) its.slot

  -- it is found
  pub no_place : AreMade tac.structs → IsSound tac.structs graph → (root : Root) (parts : List Part) → IsWithin tac (base_at root) parts → BaseNamed tac graph (base_at root)
      → None ≡ (path_part tac graph InStart (path_to (base_at root) parts)).target → ⊥
  no_place made sound root parts within named is = let its = root_slot made sound root parts within named in none-some its.place (is ∙ its.is)

-- an object that has A keeps it
pub array_kept : (tac : Tac) → AreMade tac.structs → (old new : Graph) → IsSound tac.structs old → GoesOn tac.structs old new → (root : Root) → BaseNamed tac old (base_at root) → (asked : Bool)
    → at_target old (base_part tac old InStart (base_at root)).target (λ node shift. implies asked node.flags.array) ≡ true
    → at_target new (base_part tac new InStart (base_at root)).target (λ node shift. implies asked node.flags.array) ≡ true
array_kept tac made old new sound goes (R.Global global) named asked h = array_goes tac.structs made old new sound goes asked (OfGlobal global.0) named.has h
array_kept tac made old new sound goes (R.Literal literal) named asked h = array_goes tac.structs made old new sound goes asked (OfLiteral literal.0) named.has h

-- where nothing is asked, it holds
pub not_asked : (tac : Tac) (graph : Graph) → IsSound tac.structs graph → (root : Root) (asked : Bool) → asked ≡ false
    → at_target graph (base_part tac graph InStart (base_at root)).target (λ node shift. implies asked node.flags.array) ≡ true
not_asked tac graph sound root asked none =
    subst (λ b. at_target graph (base_part tac graph InStart (base_at root)).target (λ node shift. implies b node.flags.array) ≡ true) (sym none)
    (ap (λ t. at_target graph t (λ node shift. true)) (base_named tac graph InStart (base_at root)) ∙ there (graph.targets (base_name InStart (base_at root))) refl)
  where
    there : (o : Option Target) → graph.targets (base_name InStart (base_at root)) ≡ o → at_target graph o (λ node shift. true) ≡ true
    there None e = refl
    there (Some target) e = let slot = sound.names (base_name InStart (base_at root)) target e in at_from graph target (λ node shift. true) slot.node slot.is refl

-- an object that has a node of its type keeps it
pub root_kept : (tac : Tac) → AreMade tac.structs → (old new : Graph) → IsSound tac.structs old → GoesOn tac.structs old new → (root : Root) → BaseNamed tac old (base_at root) → BaseNamed tac new (base_at root)
root_kept tac made old new sound goes (R.Global global) named = global_kept tac made old new sound goes global.0 named
root_kept tac made old new sound goes (R.Literal literal) named = literal_kept tac made old new sound goes literal.0 named
