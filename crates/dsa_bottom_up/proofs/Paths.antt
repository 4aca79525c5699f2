-- Steps of paths lead from types to the types of their parts, and so to parts of what a path begins with.
use Rattle.std.proofs.Common.{◌≡◌, ℕ, zero, suc, ◌+◌, ◌≤◌, ◌<◌, Bool, true, false, List, [], ◌∷◌, ◌++◌, Option, Some, None, refl, sym, ap, subst, ◌∙◌, inl, inr, arith}
use Rattle.std.specs.Prelude.{slice_get, take}
use Rattle.std.specs.List.{list_any}
use Rattle.std.proofs.lemmas.Bool.{false≢true, true≢false}
use Rattle.std.proofs.lemmas.Option.{none-some, same_Some}
use Rattle.c_typed.specs.Types.{CType, Void, Integer, Pointer, Array, Struct, Function, literal_type}
use Rattle.c_typed.specs.Layouts.{StructDef, MemberDef, Layout, Table, greatest, saturated, no_layout, member_layout, behind, members_layout, layouts, members_by_tag, has_members, known_members, member_slots, member_type, is_complete}
use Rattle.c_typed.specs.Inside.{is_sized, is_known_sized, are_sized}
use Rattle.c_typed.specs.Typed.{GlobalDef, LiteralDef, Program}
use Rattle.c_typed.specs.Expressions.{is_scalar}
use Rattle.c_typed.specs.Sizes.{are_filled}
use Rattle.tac_ir.specs.Code.{Base, AtLocal, AtGlobal, AtLiteral, Pointed, Indexed, Step, Member, Element, Path, Tac}
use Rattle.tac_ir.specs.Code as O
use Rattle.tac_ir.specs.Objects.{own_type, global_type, whole}
use Rattle.tac_ir.specs.States.{Owner, function_of, objects_of}
use Rattle.tac_build.specs.Code.{then_step, type_of_member}
use Rattle.heap_graph.specs.Parts.{MemberIn, slots_of, has_part}
use Rattle.heap_graph.specs.Structures.{AreMade}
use Rattle.heap_graph.specs.Targets as G
use Rattle.heap_graph.specs.Targets.{elements_of}
use Rattle.heap_graph.specs.Points.{is_member, type_of_inner}
use Rattle.heap_graph.proofs.Older.{sized_parts, known}
use Rattle.heap_graph.proofs.PartsNest.{PartOf, Itself, InElement, InMember, alike_refl, found, within}
use Rattle.graph_unification.specs.Fits.{slots_to, type_at, is_object, told_of, LeadsToPart}
use Rattle.graph_unification.specs.Standing.{BaseStands, base_type, PathStands, AccessStands}
use Rattle.dsa_bottom_up.proofs.Slots.{sized_has_slots}

-- ---- types of steps

-- steps lead from a type to a type
abbrev pub TypedSteps : List StructDef → List Step → CType → CType → Type 0
TypedSteps structs [] own end = own ≡ end
TypedSteps structs (Member number ∷ steps) own end = (part : CType) × (type_of_member structs own number ≡ Some part) × TypedSteps structs steps part end
TypedSteps structs (Element index ∷ steps) own end = (element : CType) × (count : ℕ) × (own ≡ Array element count) × TypedSteps structs steps element end

typed_then : (structs : List StructDef) (steps : List Step) (step : Step) (own end part : CType) → TypedSteps structs steps own end → TypedSteps structs (step ∷ []) end part → TypedSteps structs (steps ++ step ∷ []) own part
typed_then structs [] step own end part typed last = subst (λ t. TypedSteps structs (step ∷ []) t part) (sym typed) last
typed_then structs (Member number ∷ steps) step own end part typed last = (typed.0, typed.1, typed_then structs steps step typed.0 end part typed.2 last)
typed_then structs (Element index ∷ steps) step own end part typed last = (typed.0, typed.1, typed.2, typed_then structs steps step typed.0 end part typed.3 last)

-- ---- members

record MemberThere (structs : List StructDef) (own : CType) (number : ℕ) (part : CType) : Type 0 where
  tag : List ℕ
  is : own ≡ Struct tag
  members : List MemberDef
  has : members_by_tag structs tag ≡ Some members
  member : MemberDef
  there : slice_get members number ≡ Some member
  typed : member.c_type ≡ Some part

abbrev no_members : List MemberDef
no_members = []

no_member : (number : ℕ) → slice_get no_members number ≡ None
no_member zero = refl
no_member (suc number) = refl

member_there : (structs : List StructDef) (own : CType) (number : ℕ) (part : CType) → type_of_member structs own number ≡ Some part → MemberThere structs own number part
member_there structs (Struct tag) number part typed = by (members_by_tag structs tag) refl typed
  where
    in_members : (members : List MemberDef) → members_by_tag structs tag ≡ Some members → (o : Option MemberDef) → slice_get members number ≡ o → member_type o ≡ Some part → MemberThere structs (Struct tag) number part
    in_members members has None there e = absurd (none-some part e)
    in_members members has (Some member) there e = record { tag = tag; is = refl; members = members; has = has; member = member; there = there; typed = e }

    by : (o : Option (List MemberDef)) → members_by_tag structs tag ≡ o → member_type (slice_get (known_members o) number) ≡ Some part → MemberThere structs (Struct tag) number part
    by None has e = absurd (none-some part (sym (ap member_type (no_member number)) ∙ e))
    by (Some members) has e = in_members members has (slice_get members number) refl e
member_there structs Void number part typed = absurd (none-some part typed)
member_there structs (Integer int_type) number part typed = absurd (none-some part typed)
member_there structs (Pointer target) number part typed = absurd (none-some part typed)
member_there structs (Array element count) number part typed = absurd (none-some part typed)
member_there structs (Function result parameters) number part typed = absurd (none-some part typed)

front_within : (table : Table) (members : List MemberDef) (front : Layout) → (members_layout table front members).slots < greatest → front.slots ≤ (members_layout table front members).slots
front_within table [] front few = omega arith
front_within table (member ∷ members) front few =
    let rest : saturated (front.slots + (member_layout table member).slots) ≤ (members_layout table front (member ∷ members)).slots =
    front_within table members (behind front (member_layout table member)) few in
    omega (arith, rest, few)

-- a member lies behind those in front
member_in : (table : Table) (members : List MemberDef) (front : Layout) (before : ℕ) → before ≡ front.slots → (members_layout table front members).slots < greatest → (number : ℕ) (member : MemberDef) (part : CType)
    → slice_get members number ≡ Some member → member.c_type ≡ Some part → MemberIn table before members (members_layout table front (take number members)).slots part
member_in table [] front before same few number member part there typed = absurd (none-some member (sym (no_member number) ∙ there))
member_in table (first ∷ others) front before same few zero member part there typed = inl_first (same_first there)
  where
    same_first : Some first ≡ Some member → first ≡ member
    same_first e = same_Some first member e

    inl_first : first ≡ member → MemberIn table before (first ∷ others) front.slots part
    inl_first e = inl (ap (λ (m : MemberDef). m.c_type) e ∙ typed, same)
member_in table (first ∷ others) front before same few (suc number) member part there typed =
    let rest : saturated (front.slots + (member_layout table first).slots) ≤ (members_layout table front (first ∷ others)).slots =
    front_within table others (behind front (member_layout table first)) few in
    let next : before + (member_layout table first).slots ≡ saturated (front.slots + (member_layout table first).slots) = omega (arith, rest, few, same) in
    inr (member_in table others (behind front (member_layout table first)) (before + (member_layout table first).slots) next few number member part there typed)

member_sized : (structs : List StructDef) (members : List MemberDef) (number : ℕ) (member : MemberDef) (part : CType) → are_sized structs members ≡ true → slice_get members number ≡ Some member → member.c_type ≡ Some part
    → is_sized structs part ≡ true
member_sized structs [] number member part sized there typed = absurd (none-some member (sym (no_member number) ∙ there))
member_sized structs (first ∷ others) zero member part sized there typed =
    let parts = sized_parts (is_known_sized structs first.c_type) (are_sized structs others) sized in
    ap (is_known_sized structs) (sym (ap (λ (m : MemberDef). m.c_type) (same_Some first member there) ∙ typed)) ∙ parts.0
member_sized structs (first ∷ others) (suc number) member part sized there typed =
    member_sized structs others number member part (sized_parts (is_known_sized structs first.c_type) (are_sized structs others) sized).1 there typed

module _ (structs : List StructDef) (made : AreMade structs) (own : CType) (number : ℕ) (part : CType) (typed : type_of_member structs own number ≡ Some part) where
  there : MemberThere structs own number part
  there = member_there structs own number part typed

  same_type_of : G.type_of_member structs own number ≡ part
  same_type_of = ap (λ t. G.type_of_member structs t number) there.is ∙ ap G.or_void (ap (λ t. type_of_member structs t number) (sym there.is) ∙ typed)

  lies : MemberIn (layouts structs) 0 there.members (G.slots_before structs own number) part
  lies =
      let at : G.slots_before structs own number ≡ (members_layout (layouts structs) no_layout (take number there.members)).slots =
      ap (λ t. G.slots_before structs t number) there.is
      ∙ ap (λ o. member_slots (layouts structs) (known_members o) number (slice_get (known_members o) number)) there.has
      ∙ ap (member_slots (layouts structs) there.members number) there.there in
      subst (λ n. MemberIn (layouts structs) 0 there.members n part) (sym at)
      (member_in (layouts structs) there.members no_layout 0 refl (known structs made there.tag there.members there.has).few number there.member part there.there there.typed)

  then_member : (slot : ℕ) (end : CType) → PartOf structs part slot end → PartOf structs own (G.slots_before structs own number + slot) end
  then_member slot end inside =
      InMember own there.tag there.members (G.slots_before structs own number) part slot (G.slots_before structs own number + slot) end there.is there.has lies refl inside

  part_sized : is_sized structs part ≡ true
  part_sized = member_sized structs there.members number there.member part (known structs made there.tag there.members there.has).sized there.there there.typed

  owner_complete : is_complete structs own ≡ true
  owner_complete = ap (is_complete structs) there.is ∙ ap has_members there.has

ends : (structs : List StructDef) → AreMade structs → (steps : List Step) (own end : CType) → TypedSteps structs steps own end → type_at structs steps own ≡ end
ends structs made [] own end typed = typed
ends structs made (Member number ∷ steps) own end typed = ap (type_at structs steps) (same_type_of structs made own number typed.0 typed.1) ∙ ends structs made steps typed.0 end typed.2
ends structs made (Element index ∷ steps) own end typed = ap (λ t. type_at structs steps (G.element_type t)) typed.2 ∙ ends structs made steps typed.0 end typed.3

-- ---- parts

module _ (structs : List StructDef) (made : AreMade structs) where
  steps_part : (steps : List Step) (own end : CType) → TypedSteps structs steps own end → PartOf structs own (slots_to structs steps own) (type_at structs steps own)
  steps_part [] own end typed = Itself own 0 own refl (alike_refl own)
  steps_part (Member number ∷ steps) own end typed =
      subst (λ t. PartOf structs own (G.slots_before structs own number + slots_to structs steps t) (type_at structs steps t)) (sym (same_type_of structs made own number typed.0 typed.1))
      (then_member structs made own number typed.0 typed.1 (slots_to structs steps typed.0) (type_at structs steps typed.0) (steps_part steps typed.0 end typed.2))
  steps_part (Element index ∷ steps) own end typed =
      subst (λ t. PartOf structs t (slots_to structs steps (G.element_type t)) (type_at structs steps (G.element_type t))) (sym typed.2)
      (InElement (Array typed.0 typed.1) typed.0 typed.1 (slots_to structs steps typed.0) (type_at structs steps typed.0) refl (steps_part steps typed.0 end typed.3))

  -- a structure's elements are itself
  struct_elements : (own : CType) (number : ℕ) (part : CType) → type_of_member structs own number ≡ Some part → elements_of own ≡ own
  struct_elements own number part typed = let its = member_there structs own number part typed in ap elements_of its.is ∙ sym its.is

  -- the same from the elements of an array
  elements_part : (steps : List Step) (own end : CType) → list_any is_member steps ≡ true → TypedSteps structs steps own end → PartOf structs (elements_of own) (slots_to structs steps own) (type_at structs steps own)
  elements_part [] own end some typed = absurd (false≢true some)
  elements_part (Member number ∷ steps) own end some typed =
      subst (λ t. PartOf structs t (slots_to structs (Member number ∷ steps) own) (type_at structs (Member number ∷ steps) own)) (sym (struct_elements own number typed.0 typed.1))
      (steps_part (Member number ∷ steps) own end typed)
  elements_part (Element index ∷ steps) own end some typed =
      subst (λ t. PartOf structs (elements_of t) (slots_to structs steps (G.element_type t)) (type_at structs steps (G.element_type t))) (sym typed.2) (steps_part steps typed.0 end typed.3)

  begins_complete : (steps : List Step) (own end : CType) → list_any is_member steps ≡ true → TypedSteps structs steps own end → is_complete structs own ≡ true
  begins_complete [] own end some typed = absurd (false≢true some)
  begins_complete (Member number ∷ steps) own end some typed = owner_complete structs made own number typed.0 typed.1
  begins_complete (Element index ∷ steps) own end some typed = ap (is_complete structs) typed.2

  -- what stays of known size
  ends_sized : (steps : List Step) (own end : CType) → TypedSteps structs steps own end → is_sized structs own ≡ true → is_sized structs end ≡ true
  ends_sized [] own end typed sized = subst (λ t. is_sized structs t ≡ true) typed sized
  ends_sized (Member number ∷ steps) own end typed sized = ends_sized steps typed.0 end typed.2 (part_sized structs made own number typed.0 typed.1)
  ends_sized (Element index ∷ steps) own end typed sized = ends_sized steps typed.0 end typed.3 (ap (is_sized structs) (sym typed.2) ∙ sized)

  member_ends_sized : (steps : List Step) (own end : CType) → list_any is_member steps ≡ true → TypedSteps structs steps own end → is_sized structs end ≡ true
  member_ends_sized [] own end some typed = absurd (false≢true some)
  member_ends_sized (Member number ∷ steps) own end some typed = ends_sized steps typed.0 end typed.2 (part_sized structs made own number typed.0 typed.1)
  member_ends_sized (Element index ∷ steps) own end some typed = member_ends_sized steps typed.0 end some typed.3

  scalar_slots : (t : CType) → is_scalar t ≡ true → slots_of structs t ≡ 1
  scalar_slots Void scalar = absurd (false≢true scalar)
  scalar_slots (Integer int_type) scalar = refl
  scalar_slots (Pointer target) scalar = refl
  scalar_slots (Array element count) scalar = absurd (false≢true scalar)
  scalar_slots (Struct tag) scalar = absurd (false≢true scalar)
  scalar_slots (Function result parameters) scalar = absurd (false≢true scalar)

  -- what has a scalar part has a slot
  around_scalar : (steps : List Step) (own end : CType) → TypedSteps structs steps own end → is_scalar end ≡ true → 0 < slots_of structs own
  around_scalar steps own end typed scalar =
      let whole = within structs made own (slots_to structs steps own) (type_at structs steps own) (steps_part steps own end typed) in
      let one = ap (slots_of structs) (ends structs made steps own end typed) ∙ scalar_slots end scalar in
      omega (arith, whole, one)

  -- an array of scalars has no members
  literal_plain : (bytes : List ℕ) (steps : List Step) (end : CType) → list_any is_member steps ≡ true → TypedSteps structs steps (literal_type bytes) end → ⊥
  literal_plain bytes steps end some typed = in_array steps (literal_type bytes) some typed refl
    where
      in_scalar : (steps : List Step) (own : CType) → is_scalar own ≡ true → list_any is_member steps ≡ true → TypedSteps structs steps own end → ⊥
      in_scalar [] own scalar some typed = false≢true some
      in_scalar (Member number ∷ steps) own scalar some typed = false≢true (sym (ap is_scalar (member_there structs own number typed.0 typed.1).is) ∙ scalar)
      in_scalar (Element index ∷ steps) own scalar some typed = false≢true (sym (ap is_scalar typed.2) ∙ scalar)

      in_array : (steps : List Step) (own : CType) → list_any is_member steps ≡ true → TypedSteps structs steps own end → own ≡ literal_type bytes → ⊥
      in_array [] own some typed is = false≢true some
      in_array (Member number ∷ steps) own some typed is =
          let its = member_there structs own number typed.0 typed.1 in
          false≢true (ap is_struct (sym is ∙ its.is))
        where
          is_struct : CType → Bool
          is_struct (Struct tag) = true
          is_struct t = false
      in_array (Element index ∷ steps) own some typed is = in_scalar steps typed.0 (ap (λ t. is_scalar (G.element_type t)) (sym typed.2 ∙ is)) some typed.3

  module _ (filled : are_filled structs ≡ true) where
    leads_from : (base : Base) (steps : List Step) (own end : CType) → list_any is_member steps ≡ true → TypedSteps structs steps own end
        → has_part structs (told_of base own) (slots_to structs steps own) (type_at structs steps own) ≡ true → LeadsToPart structs base steps own
    leads_from base steps own end some typed part = record {
      complete = begins_complete steps own end some typed;
      part = part;
      some = subst (λ t. 0 < slots_of structs t) (sym (ends structs made steps own end typed)) (sized_has_slots structs filled end (member_ends_sized steps own end some typed));
    }

    leads_to : (base : Base) (steps : List Step) (own end : CType) → list_any is_member steps ≡ true → TypedSteps structs steps own end → LeadsToPart structs base steps own
    leads_to base steps own end some typed = leads_from base steps own end some typed (by base)
      where
        object : has_part structs (elements_of own) (slots_to structs steps own) (type_at structs steps own) ≡ true
        object = found structs made (elements_of own) (slots_to structs steps own) (type_at structs steps own) (elements_part steps own end some typed)

        pointed : has_part structs own (slots_to structs steps own) (type_at structs steps own) ≡ true
        pointed = found structs made own (slots_to structs steps own) (type_at structs steps own) (steps_part steps own end typed)

        by : (base : Base) → has_part structs (told_of base own) (slots_to structs steps own) (type_at structs steps own) ≡ true
        by (AtLocal local) = object
        by (AtGlobal number) = object
        by (AtLiteral number) = object
        by (Pointed pointer target) = pointed
        by (Indexed pointer target number) = pointed

-- ---- paths

module _ (tac : Tac) (owner : Owner) (function : O.Function) where
  -- what a path begins with has a type
  abbrev pub BaseIs : Base → CType → Type 0
  BaseIs (AtLocal local) own = own_type function.objects local ≡ whole own
  BaseIs (AtGlobal number) own = (global : GlobalDef) × (slice_get tac.globals number ≡ Some global) × (own ≡ global.c_type)
  BaseIs (AtLiteral number) own = (literal : LiteralDef) × (slice_get tac.literals number ≡ Some literal) × (bytes : List ℕ) × (own ≡ literal_type bytes)
  BaseIs (Pointed pointer target) own = own ≡ target
  BaseIs (Indexed pointer target number) own = own ≡ target

  -- a path leads from that to an object of a type
  pub record PathFound (path : Path) (c_type : CType) : Type 0 where
    pub base : BaseStands tac owner function path.base
    pub own : CType
    pub is : BaseIs path.base own
    pub steps : TypedSteps tac.structs path.steps own c_type

  pub then_found : (path : Path) (step : Step) (c_type part : CType) → PathFound path c_type → TypedSteps tac.structs (step ∷ []) c_type part → PathFound (then_step path step) part
  then_found path step c_type part it last = record { base = it.base; own = it.own; is = it.is; steps = typed_then tac.structs path.steps step it.own c_type part it.steps last }

  module _ (here : function_of tac owner ≡ Some function) (made : AreMade tac.structs) (filled : are_filled tac.structs ≡ true) where
    abbrev not_literal : Base → Bool
    not_literal (AtLiteral number) = false
    not_literal base = true

    base_is : (base : Base) (own : CType) → not_literal base ≡ true → BaseIs base own → base_type tac owner function base ≡ own
    base_is (AtLocal local) own plain is = ap (λ o. type_of_inner (own_type (objects_of o) local)) here ∙ ap type_of_inner is
    base_is (AtGlobal number) own plain is = ap (λ o. type_of_inner (global_type o)) is.1 ∙ sym is.2
    base_is (AtLiteral number) own plain is = absurd (false≢true plain)
    base_is (Pointed pointer target) own plain is = sym is
    base_is (Indexed pointer target number) own plain is = sym is

    leads_of : (base : Base) (steps : List Step) (own end : CType) → BaseIs base own → TypedSteps tac.structs steps own end → list_any is_member steps ≡ true
        → LeadsToPart tac.structs base steps (base_type tac owner function base)
    leads_of (AtLiteral number) steps own end is typed some =
        absurd (literal_plain tac.structs made is.2 steps end some (subst (λ t. TypedSteps tac.structs steps t end) is.3 typed))
    leads_of (AtLocal local) steps own end is typed some =
        subst (LeadsToPart tac.structs (AtLocal local) steps) (sym (base_is (AtLocal local) own refl is)) (leads_to tac.structs made filled (AtLocal local) steps own end some typed)
    leads_of (AtGlobal number) steps own end is typed some =
        subst (LeadsToPart tac.structs (AtGlobal number) steps) (sym (base_is (AtGlobal number) own refl is)) (leads_to tac.structs made filled (AtGlobal number) steps own end some typed)
    leads_of (Pointed pointer target) steps own end is typed some =
        subst (LeadsToPart tac.structs (Pointed pointer target) steps) is (leads_to tac.structs made filled (Pointed pointer target) steps own end some typed)
    leads_of (Indexed pointer target number) steps own end is typed some =
        subst (LeadsToPart tac.structs (Indexed pointer target number) steps) is (leads_to tac.structs made filled (Indexed pointer target number) steps own end some typed)

    pub path_stands : (path : Path) (c_type : CType) → PathFound path c_type → PathStands tac owner function path
    path_stands path c_type it = record { base = it.base; leads = λ some. leads_of path.base path.steps it.own c_type it.is it.steps some }

    slots_at : (base : Base) (steps : List Step) (own end : CType) → BaseIs base own → TypedSteps tac.structs steps own end → is_scalar end ≡ true → is_object base ≡ false → 0 < slots_of tac.structs (base_type tac owner function base)
    slots_at (Pointed pointer target) steps own end is typed scalar plain = subst (λ t. 0 < slots_of tac.structs t) is (around_scalar tac.structs made steps own end typed scalar)
    slots_at (Indexed pointer target number) steps own end is typed scalar plain = subst (λ t. 0 < slots_of tac.structs t) is (around_scalar tac.structs made steps own end typed scalar)
    slots_at (AtLocal local) steps own end is typed scalar plain = absurd (true≢false plain)
    slots_at (AtGlobal number) steps own end is typed scalar plain = absurd (true≢false plain)
    slots_at (AtLiteral number) steps own end is typed scalar plain = absurd (true≢false plain)

    pub access_stands : (path : Path) (c_type : CType) → PathFound path c_type → is_scalar c_type ≡ true → AccessStands tac owner function path
    access_stands path c_type it scalar = record { stands = path_stands path c_type it; slots = λ plain complete. slots_at path.base path.steps it.own c_type it.is it.steps scalar plain }

-- a function of the code of a program whose structures are made of filled ones
pub record IsOf (program : Program) (tac : Tac) (owner : Owner) (function : O.Function) : Type 0 where
  pub structs : tac.structs ≡ program.structs
  pub globals : tac.globals ≡ program.globals
  pub literals : tac.literals ≡ program.literals
  pub here : function_of tac owner ≡ Some function
  pub made : AreMade tac.structs
  pub filled : are_filled tac.structs ≡ true
