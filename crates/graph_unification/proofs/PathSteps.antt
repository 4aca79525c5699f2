-- What is done at the ends of paths.
use Rattle.std.proofs.Common.{◌≡◌, ℕ, ◌+◌, ◌<◌, ◌^◌, Bool, true, false, List, [], ◌∷◌, Option, Some, None, refl, sym, ap, subst, ◌∙◌, arith}
use Rattle.std.specs.List.{list_any}
use Rattle.std.proofs.lemmas.Bool.{false≢true, true≢false, cond-true}
use Rattle.std.proofs.lemmas.Option.{same_Some, none-some}
use Rattle.c_typed.specs.Types.{CType}
use Rattle.c_typed.specs.Layouts.{StructDef, is_complete}
use Rattle.tac_ir.specs.Code.{Base, AtLocal, AtGlobal, AtLiteral, Pointed, Indexed, Step, Path, Tac}
use Rattle.tac_ir.specs.States.{Owner}
use Rattle.heap_graph.specs.Graphs.{Target, OfType, Node, Name, OfRegister, Graph, node_at}
use Rattle.heap_graph.specs.Structures.{AreMade}
use Rattle.heap_graph.specs.Targets.{has_target, at_target, edge_at, holds_part, elements_of}
use Rattle.heap_graph.specs.Points.{is_member, base_part, path_part, base_typed}
use Rattle.heap_graph.specs.Merging.{IsSlot, IsSound, GraphMap, mapped, Maps, AreOne, HasEdge}
use Rattle.heap_graph.proofs.Certain.{same_eq, eq_same}
use Rattle.graph_unification.specs.Leading.{Least}
use Rattle.graph_unification.specs.Asked.{bare}
use Rattle.graph_unification.proofs.Bounds.{slot_fits}
use Rattle.heap_graph.specs.Parts.{slots_of, has_part}
use Rattle.heap_graph.proofs.MapsCompose.{shift_in, shifted_there}
use Rattle.heap_graph.proofs.PartsNest.{tested, within}
use Rattle.graph_unification.specs.Fits.{is_object, told_of, slots_to, type_at, LeadsToPart, PathFits}
use Rattle.graph_unification.specs.Applying.{Applies, IsPlace, IsLinked, IsMemberTyped}
use Rattle.graph_unification.proofs.Changing.{of_least}
use Rattle.graph_unification.proofs.Staying.{base_named, implied_holds}
use Rattle.graph_unification.proofs.Places.{LeadsToSlot, moved_to, path_leads, path_mapped, place_slot}

-- what has a part with a slot has slots
pub told_slots : (structs : List StructDef) → AreMade structs → (base : Base) (steps : List Step) (c_type : CType) → is_object base ≡ false → LeadsToPart structs base steps c_type → 0 < slots_of structs c_type
told_slots structs made (AtLocal local) steps c_type plain leads = absurd (true≢false plain)
told_slots structs made (AtGlobal number) steps c_type plain leads = absurd (true≢false plain)
told_slots structs made (AtLiteral number) steps c_type plain leads = absurd (true≢false plain)
told_slots structs made (Pointed pointer target) steps c_type plain leads =
    let inside = within structs made c_type (slots_to structs steps c_type) (type_at structs steps c_type) (tested structs made c_type (slots_to structs steps c_type) (type_at structs steps c_type) leads.part) in
    omega (arith, inside, leads.some)
told_slots structs made (Indexed pointer target number) steps c_type plain leads =
    let inside = within structs made c_type (slots_to structs steps c_type) (type_at structs steps c_type) (tested structs made c_type (slots_to structs steps c_type) (type_at structs steps c_type) leads.part) in
    omega (arith, inside, leads.some)

module _ (tac : Tac) (owner : Owner) (graph : Graph) where
  -- what is known of a base is held by its node
  held : (base : Base) → is_complete tac.structs (base_part tac graph owner base).c_type ≡ true
      → (is_object base ≡ true → at_target graph (base_part tac graph owner base).target (holds_part tac.structs (elements_of (base_part tac graph owner base).c_type)) ≡ true)
      → base_typed tac graph owner base ≡ true → at_target graph (base_part tac graph owner base).target (holds_part tac.structs (told_of base (base_part tac graph owner base).c_type)) ≡ true
  held (AtLocal local) complete object typed = object refl
  held (AtGlobal number) complete object typed = object refl
  held (AtLiteral number) complete object typed = object refl
  held (Pointed pointer target) complete object typed = sym (cond-true (is_complete tac.structs target) (at_target graph (graph.targets (OfRegister owner pointer)) (holds_part tac.structs target)) true complete) ∙ typed
  held (Indexed pointer target number) complete object typed = sym (cond-true (is_complete tac.structs target) (at_target graph (graph.targets (OfRegister owner pointer)) (holds_part tac.structs target)) true complete) ∙ typed

  pub member_held : (path : Path) → PathFits tac graph owner path → IsMemberTyped tac owner path graph → list_any is_member path.steps ≡ true
      → at_target graph (base_part tac graph owner path.base).target (holds_part tac.structs (told_of path.base (base_part tac graph owner path.base).c_type)) ≡ true
  member_held path fits typed members = held path.base (fits.leads members).complete fits.object (implied_holds _ _ typed members)

  -- the slot to which a path leads
  pub path_slot : AreMade tac.structs → IsSound tac.structs graph → (path : Path) → PathFits tac graph owner path → IsMemberTyped tac owner path graph → (whole : Target)
      → (base_part tac graph owner path.base).target ≡ Some whole → LeadsToSlot tac.structs graph (path_part tac graph owner path).target
  path_slot made sound path fits typed whole at =
      place_slot tac made owner graph sound path whole (sym (base_named tac graph owner path.base) ∙ at)
      (λ members. ap (λ t. at_target graph t (holds_part tac.structs (told_of path.base (base_part tac graph owner path.base).c_type))) (sym at) ∙ member_held path fits typed members) fits.leads

  pub slot_of_place : (path : Path) (place : Target) → LeadsToSlot tac.structs graph (path_part tac graph owner path).target → Some place ≡ (path_part tac graph owner path).target → IsSlot tac.structs graph place
  slot_of_place path place its is = by its.place (is ∙ its.is) its.slot
    where
      by : (x : Target) → Some place ≡ Some x → IsSlot tac.structs graph x → IsSlot tac.structs graph place
      by x e slot = subst (IsSlot tac.structs graph) (sym (same_Some place x e)) slot

module _ (tac : Tac) (made : AreMade tac.structs) (owner : Owner) (old new : Graph) (sound : IsSound tac.structs old) (changed : Bool)
    (names : (name : Name) → has_target (new.targets name) ≡ has_target (old.targets name)) (path : Path) (has : has_target (base_part tac old owner path.base).target ≡ true) (name : Name) (x place : Target)
    (at : old.targets name ≡ Some x) (is : (path_part tac old owner path).target ≡ Some place) where
  there : (other : Graph) (into : GraphMap) → Maps tac.structs old other into → (path_part tac other owner path).target ≡ mapped other into place
  there other into maps = path_mapped tac made owner old other into sound maps path place (ap has_target (sym (base_named tac old owner path.base)) ∙ has) is

  pub place_joined : Least tac.structs old new (AreOne x place) → (changed ≡ false → (new ≡ old) × (x ≡ place)) → Applies tac.structs changed old new (IsPlace tac owner name path)
  place_joined least done =
      of_least tac.structs changed old new (AreOne x place) (IsPlace tac owner name path)
      (λ other into maps same. sym (maps.names name x at) ∙ same_eq (other.targets name) (path_part tac other owner path).target same ∙ there other into maps) names least
      (λ e.
      let end = done e in
      (end.0, subst (IsPlace tac owner name path) (sym end.0) (eq_same (old.targets name) (path_part tac old owner path).target (at ∙ ap (λ (t : Target). Some t) end.1 ∙ sym is))))

  pub linked : Least tac.structs old new (HasEdge place.node place.shift x) → (changed ≡ false → (new ≡ old) × (edge_at old (Some place) ≡ Some x)) → Applies tac.structs changed old new (IsLinked tac owner name path)
  linked least done =
      of_least tac.structs changed old new (HasEdge place.node place.shift x) (IsLinked tac owner name path)
      (λ other into maps same.
      ap (edge_at other) (sym (there other into maps)) ∙ sym (same_eq (other.targets name) (edge_at other (path_part tac other owner path).target) same) ∙ maps.names name x at)
      names least
      (λ e.
      let end = done e in
      (end.0, subst (IsLinked tac owner name path) (sym end.0) (eq_same (old.targets name) (edge_at old (path_part tac old owner path).target) (at ∙ sym end.1 ∙ ap (edge_at old) (sym is)))))

-- ---- what is read of a place

none_moved : (tac : Tac) (owner : Owner) (graph : Graph) (path : Path) (whole : Target) → (base_part tac graph owner path.base).target ≡ Some whole
    → (path_part tac graph owner path).target ≡ moved_to graph (list_any is_member path.steps) (slots_to tac.structs path.steps (base_part tac graph owner path.base).c_type) (Some whole)
none_moved tac owner graph path whole at =
    path_leads tac graph owner path
    ∙ ap (moved_to graph (list_any is_member path.steps) (slots_to tac.structs path.steps (base_part tac graph owner path.base).c_type)) (sym (base_named tac graph owner path.base) ∙ at)

-- without members
pub place_plain : (tac : Tac) (owner : Owner) (graph : Graph) (path : Path) (whole : Target) → (base_part tac graph owner path.base).target ≡ Some whole → list_any is_member path.steps ≡ false
    → Some whole ≡ (path_part tac graph owner path).target
place_plain tac owner graph path whole at none =
    sym (none_moved tac owner graph path whole at ∙ ap (λ m. moved_to graph m (slots_to tac.structs path.steps (base_part tac graph owner path.base).c_type) (Some whole)) none)

-- with members, behind so many slots of the node
pub place_shifted : (tac : Tac) (owner : Owner) (graph : Graph) (path : Path) (whole : Target) → (base_part tac graph owner path.base).target ≡ Some whole → list_any is_member path.steps ≡ true
    → (node : Node) → node_at graph whole.node ≡ Some node → (shift : ℕ) → shift ≡ shift_in node (whole.shift + slots_to tac.structs path.steps (base_part tac graph owner path.base).c_type)
    → Some (record { node = whole.node; shift = shift }) ≡ (path_part tac graph owner path).target
place_shifted tac owner graph path whole at members node is shift e =
    let sum = slots_to tac.structs path.steps (base_part tac graph owner path.base).c_type in
    ap (λ s. Some (record { node = whole.node; shift = s })) e
    ∙ sym (none_moved tac owner graph path whole at ∙ ap (λ m. moved_to graph m sum (Some whole)) members ∙ shifted_there graph sum whole node is)

-- its shift is small
pub place_small : (tac : Tac) → AreMade tac.structs → (owner : Owner) (graph : Graph) → IsSound tac.structs graph → (path : Path) → PathFits tac graph owner path → IsMemberTyped tac owner path graph → (whole : Target)
    → (base_part tac graph owner path.base).target ≡ Some whole → list_any is_member path.steps ≡ true → (node : Node) → node_at graph whole.node ≡ Some node
    → shift_in node (whole.shift + slots_to tac.structs path.steps (base_part tac graph owner path.base).c_type) < 2 ^ 64
place_small tac made owner graph sound path fits typed whole at members node is =
    let its = path_slot tac owner graph made sound path fits typed whole at in
    let shift = shift_in node (whole.shift + slots_to tac.structs path.steps (base_part tac graph owner path.base).c_type) in
    by its.place (place_shifted tac owner graph path whole at members node is shift refl ∙ its.is) (slot_fits tac.structs graph its.place its.slot)
  where
    by : (x : Target) → Some (record { node = whole.node; shift = shift_in node (whole.shift + slots_to tac.structs path.steps (base_part tac graph owner path.base).c_type) }) ≡ Some x → x.shift < 2 ^ 64
        → shift_in node (whole.shift + slots_to tac.structs path.steps (base_part tac graph owner path.base).c_type) < 2 ^ 64
    by x e small = subst (λ n. n < 2 ^ 64) (sym (ap (λ (t : Target). t.shift) (same_Some _ x e))) small

-- so many slots lie in front of a part
abbrev alone : CType → Graph
alone c_type = record { nodes = Some (record { element = OfType c_type; flags = bare; edges = [] }) ∷ []; targets = λ name. None }

pub part_small : (structs : List StructDef) → AreMade structs → (own : CType) (sum : ℕ) (part : CType) → has_part structs own sum part ≡ true → 0 < slots_of structs part → sum < 2 ^ 64
part_small structs made own sum part has some =
    let fits = within structs made own sum part (tested structs made own sum part has) in
    slot_fits structs (alone own) (record { node = 0; shift = sum }) (record { node = record { element = OfType own; flags = bare; edges = [] }; is = refl; inside = omega (arith, fits, some) })

pub place_is_slot : (tac : Tac) → AreMade tac.structs → (owner : Owner) (graph : Graph) → IsSound tac.structs graph → (path : Path) → PathFits tac graph owner path → IsMemberTyped tac owner path graph
    → has_target (base_part tac graph owner path.base).target ≡ true → (place : Target) → Some place ≡ (path_part tac graph owner path).target → IsSlot tac.structs graph place
place_is_slot tac made owner graph sound path fits typed has place is = by (base_part tac graph owner path.base).target refl
  where
    by : (o : Option Target) → (base_part tac graph owner path.base).target ≡ o → IsSlot tac.structs graph place
    by None e = absurd (false≢true (sym (ap has_target e) ∙ has))
    by (Some whole) e = slot_of_place tac owner graph path place (path_slot tac owner graph made sound path fits typed whole e) is

-- there is such a place
pub place_there : (tac : Tac) → AreMade tac.structs → (owner : Owner) (graph : Graph) → IsSound tac.structs graph → (path : Path) → PathFits tac graph owner path → IsMemberTyped tac owner path graph
    → has_target (base_part tac graph owner path.base).target ≡ true → None ≡ (path_part tac graph owner path).target → ⊥
place_there tac made owner graph sound path fits typed has is = by (base_part tac graph owner path.base).target refl
  where
    by : (o : Option Target) → (base_part tac graph owner path.base).target ≡ o → ⊥
    by None e = false≢true (sym (ap has_target e) ∙ has)
    by (Some whole) e = let its = path_slot tac owner graph made sound path fits typed whole e in none-some its.place (is ∙ its.is)
