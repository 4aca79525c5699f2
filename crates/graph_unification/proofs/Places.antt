-- Where paths lead.
use Rattle.std.proofs.Common.{◌≡◌, ℕ, ◌+◌, ◌<◌, Bool, true, false, cond, List, [], ◌∷◌, Option, Some, None, refl, sym, ap, subst, ◌∙◌, arith}
use Rattle.std.specs.List.{list_any}
use Rattle.std.proofs.lemmas.Bool.{false≢true, true≢false}
use Rattle.c_typed.specs.Types.{CType}
use Rattle.c_typed.specs.Layouts.{StructDef}
use Rattle.tac_ir.specs.Code.{Step, Member, Element, Path, Tac}
use Rattle.tac_ir.specs.States.{Owner}
use Rattle.heap_graph.specs.Graphs as G
use Rattle.heap_graph.specs.Graphs.{Target, OfType, Missing, Collapsed, Node, Name, Graph, node_at}
use Rattle.heap_graph.specs.Parts.{slots_of, has_part}
use Rattle.heap_graph.specs.Structures.{AreMade}
use Rattle.heap_graph.specs.Targets.{Part, has_target, at_target, is_collapsed, shifted, holds_part, slots_before, type_of_member, element_type}
use Rattle.heap_graph.specs.Points.{is_member, base_part, steps_part, path_part}
use Rattle.heap_graph.specs.Merging.{slots, IsSlot, IsSound, GraphMap, mapped, Maps}
use Rattle.heap_graph.proofs.MapsCompose.{shifted_there, shift_in, at_there, target_in, mapped_there, kept_collapsed}
use Rattle.heap_graph.proofs.PartsNest.{tested, part_trans, within}
use Rattle.graph_unification.specs.Fits.{slots_to, type_at, told_of, LeadsToPart}
use Rattle.graph_unification.proofs.Staying.{base_name, base_named, base_typed_by_code, Image, image_of}

-- a member shifts a target, elements don't
abbrev pub moved_to : Graph → Bool → ℕ → Option Target → Option Target
moved_to graph members slots target = cond members (shifted graph slots target) target

shifted_none : (graph : Graph) (slots : ℕ) (target : Target) → node_at graph target.node ≡ None → shifted graph slots (Some target) ≡ None
shifted_none graph slots target e = rw e refl

twice : (collapsed : Bool) (s a b : ℕ) → cond collapsed 0 (cond collapsed 0 (s + a) + b) ≡ cond collapsed 0 (s + (a + b))
twice true s a b = refl
twice false s a b = omega arith

shifted_twice : (graph : Graph) (a b : ℕ) (target : Option Target) → shifted graph b (shifted graph a target) ≡ shifted graph (a + b) target
shifted_twice graph a b None = refl
shifted_twice graph a b (Some target) = by (node_at graph target.node) refl
  where
    by : (o : Option Node) → node_at graph target.node ≡ o → shifted graph b (shifted graph a (Some target)) ≡ shifted graph (a + b) (Some target)
    by None e = ap (shifted graph b) (shifted_none graph a target e) ∙ sym (shifted_none graph (a + b) target e)
    by (Some node) e =
        ap (shifted graph b) (shifted_there graph a target node e)
        ∙ shifted_there graph b (record { node = target.node; shift = shift_in node (target.shift + a) }) node e
        ∙ ap (λ s. Some (record { node = target.node; shift = s })) (twice (is_collapsed node.element) target.shift a b)
        ∙ sym (shifted_there graph (a + b) target node e)

plus_none : (graph : Graph) (members : Bool) (a : ℕ) (b : ℕ) (target : Option Target) → (members ≡ false → b ≡ 0) → moved_to graph members b (shifted graph a target) ≡ shifted graph (a + b) target
plus_none graph true a b target none = shifted_twice graph a b target
plus_none graph false a b target none = let e = none refl in ap (λ n. shifted graph n target) (omega (arith, e))

-- where there are no members there are no slots in front
no_slots : (structs : List StructDef) (steps : List Step) (c_type : CType) → list_any is_member steps ≡ false → slots_to structs steps c_type ≡ 0
no_slots structs [] c_type e = refl
no_slots structs (Member number ∷ steps) c_type e = absurd (true≢false e)
no_slots structs (Element index ∷ steps) c_type e = no_slots structs steps (element_type c_type) e

pub steps_lead : (tac : Tac) (graph : Graph) (owner : Owner) (steps : List Step) (part : Part)
    → (steps_part tac graph owner steps part).target ≡ moved_to graph (list_any is_member steps) (slots_to tac.structs steps part.c_type) part.target
steps_lead tac graph owner [] part = refl
steps_lead tac graph owner (Member number ∷ steps) part =
    let type = type_of_member tac.structs part.c_type number in
    let before = slots_before tac.structs part.c_type number in
    steps_lead tac graph owner steps (record { target = shifted graph before part.target; c_type = type })
    ∙ plus_none graph (list_any is_member steps) before (slots_to tac.structs steps type) part.target (no_slots tac.structs steps type)
steps_lead tac graph owner (Element index ∷ steps) part = steps_lead tac graph owner steps (record { target = part.target; c_type = element_type part.c_type })

-- a path leads so many slots behind its base
pub path_leads : (tac : Tac) (graph : Graph) (owner : Owner) (path : Path)
    → (path_part tac graph owner path).target
    ≡ moved_to graph (list_any is_member path.steps) (slots_to tac.structs path.steps (base_part tac graph owner path.base).c_type) (graph.targets (base_name owner path.base))
path_leads tac graph owner path =
    let members = list_any is_member path.steps in
    let sum = slots_to tac.structs path.steps (base_part tac graph owner path.base).c_type in
    steps_lead tac graph owner path.steps (base_part tac graph owner path.base) ∙ ap (moved_to graph members sum) (base_named tac graph owner path.base)

-- ---- shifts and maps

settled_shift : (old new : Bool) (m s n : ℕ) → (old ≡ true → new ≡ true) → cond new 0 (cond new 0 (m + s) + n) ≡ cond new 0 (m + cond old 0 (s + n))
settled_shift old true m s n keeps = refl
settled_shift true false m s n keeps = absurd (false≢true (keeps refl))
settled_shift false false m s n keeps = omega arith

module _ (tac : Tac) (made : AreMade tac.structs) (owner : Owner) (graph other : Graph) (into : GraphMap) (sound : IsSound tac.structs graph) (maps : Maps tac.structs graph other into) where
  shifted_mapped : (name : Name) → Image tac.structs made graph other into sound maps name → (slots : ℕ) (place : Target) → shifted graph slots (graph.targets name) ≡ Some place
      → shifted other slots (other.targets name) ≡ mapped other into place
  shifted_mapped name i slots place is =
      let whole = i.target in
      let at : shifted graph slots (Some whole) ≡ Some place = ap (shifted graph slots) (sym i.at) ∙ is in
      let placed : Some (record { node = whole.node; shift = shift_in i.node (whole.shift + slots) }) ≡ Some place = sym (shifted_there graph slots whole i.node i.is) ∙ at in
      ap (shifted other slots) i.now
      ∙ shifted_there other slots (target_in into whole i.image) i.image i.image_is
      ∙ ap (λ s. Some (record { node = (into whole.node).node; shift = s }))
      (settled_shift (is_collapsed i.node.element) (is_collapsed i.image.element) (into whole.node).shift whole.shift slots (kept_collapsed tac.structs i.node.element i.image (into whole.node).shift i.element))
      ∙ sym (mapped_there other into (record { node = whole.node; shift = shift_in i.node (whole.shift + slots) }) i.image i.image_is)
      ∙ by (record { node = whole.node; shift = shift_in i.node (whole.shift + slots) }) placed
    where
      by : (x : Target) → Some x ≡ Some place → mapped other into x ≡ mapped other into place
      by x e = ap (λ (o : Option Target). of_some o) e
        where
          of_some : Option Target → Option Target
          of_some None = None
          of_some (Some t) = mapped other into t

  moved_mapped : (name : Name) → Image tac.structs made graph other into sound maps name → (members : Bool) (slots : ℕ) (place : Target) → moved_to graph members slots (graph.targets name) ≡ Some place
      → moved_to other members slots (other.targets name) ≡ mapped other into place
  moved_mapped name i true slots place is = shifted_mapped name i slots place is
  moved_mapped name i false slots place is = maps.names name place is

  -- where a path leads is mapped to where it leads
  pub path_mapped : (path : Path) (place : Target) → has_target (graph.targets (base_name owner path.base)) ≡ true → (path_part tac graph owner path).target ≡ Some place
      → (path_part tac other owner path).target ≡ mapped other into place
  path_mapped path place has is =
      let name = base_name owner path.base in
      let members = list_any is_member path.steps in
      let same = base_typed_by_code tac other graph owner path.base in
      path_leads tac other owner path
      ∙ ap (λ t. moved_to other members (slots_to tac.structs path.steps t) (other.targets name)) same
      ∙ moved_mapped name (image_of tac.structs made graph other into sound maps name has) members (slots_to tac.structs path.steps (base_part tac graph owner path.base).c_type) place
      (sym (path_leads tac graph owner path) ∙ is)

-- ---- the slot to which a path leads

pub record LeadsToSlot (structs : List StructDef) (graph : Graph) (target : Option Target) : Type 0 where
  pub place : Target
  pub is : target ≡ Some place
  pub slot : IsSlot structs graph place

module _ (tac : Tac) (made : AreMade tac.structs) (owner : Owner) (graph : Graph) (sound : IsSound tac.structs graph) where
  inside : (e : G.Element) (flags : G.Flags) (edges : List G.Edge) (shift sum : ℕ) (own end : CType) → holds_part tac.structs own (record { element = e; flags = flags; edges = edges }) shift ≡ true
      → has_part tac.structs own sum end ≡ true → 0 < slots_of tac.structs end → cond (is_collapsed e) 0 (shift + sum) < slots tac.structs e
  inside Missing flags edges shift sum own end h part some = absurd (false≢true h)
  inside (OfType t) flags edges shift sum own end h part some =
      let all = part_trans tac.structs t shift own sum end (tested tac.structs made t shift own h) (tested tac.structs made own sum end part) in
      let fits = within tac.structs made t (shift + sum) end all in
      omega (arith, fits, some)
  inside Collapsed flags edges shift sum own end h part some = omega arith

  moved_slot : (name : Name) (whole : Target) → graph.targets name ≡ Some whole → (members : Bool) (sum : ℕ) (own end : CType)
      → (members ≡ true → (at_target graph (Some whole) (holds_part tac.structs own) ≡ true) × ((has_part tac.structs own sum end ≡ true) × (0 < slots_of tac.structs end)))
      → LeadsToSlot tac.structs graph (moved_to graph members sum (Some whole))
  moved_slot name whole at false sum own end part = record { place = whole; is = refl; slot = sound.names name whole at }
  moved_slot name whole at true sum own end part =
      let its = part refl in
      let there = at_there graph whole (holds_part tac.structs own) its.0 in
      record {
        place = record { node = whole.node; shift = shift_in there.node (whole.shift + sum) };
        is = shifted_there graph sum whole there.node there.is;
        slot = record {
          node = there.node;
          is = there.is;
          inside = inside there.node.element there.node.flags there.node.edges whole.shift sum own end there.so its.1.0 its.1.1;
        };
      }

  -- a path leads to a slot, where its base's node holds the type that its members are parts of
  pub place_slot : (path : Path) (whole : Target) → graph.targets (base_name owner path.base) ≡ Some whole
      → (list_any is_member path.steps ≡ true → at_target graph (Some whole) (holds_part tac.structs (told_of path.base (base_part tac graph owner path.base).c_type)) ≡ true)
      → (list_any is_member path.steps ≡ true → LeadsToPart tac.structs path.base path.steps (base_part tac graph owner path.base).c_type)
      → LeadsToSlot tac.structs graph (path_part tac graph owner path).target
  place_slot path whole at holds leads =
      let members = list_any is_member path.steps in
      let type = (base_part tac graph owner path.base).c_type in
      let sum = slots_to tac.structs path.steps type in
      subst (LeadsToSlot tac.structs graph) (sym (path_leads tac graph owner path ∙ ap (moved_to graph members sum) at))
      (moved_slot (base_name owner path.base) whole at members sum (told_of path.base type) (type_at tac.structs path.steps type) (λ is. let its = leads is in (holds is, (its.part, its.some))))
