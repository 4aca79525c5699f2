-- Steps to parts of an object.
use Rattle.std.proofs.Common.{◌≡◌, ℕ, zero, suc, ◌+◌, ◌≤◌, List, [], ◌∷◌, map, drop, slice_get, Option, Some, None, refl, sym, ap, subst, ◌∙◌, arith}
use Rattle.std.specs.Prelude.{option_map}
use Rattle.std.proofs.lemmas.Option.{none-some, same_Some}
use Rattle.c_typed.specs.declared.c_type.CType as number
use Rattle.c_typed.specs.declared.c_type.StructId as tag
use Rattle.c_typed.specs.declared.c_type.Shape.{Shape}
use Rattle.c_typed.specs.declared.c_type.Shape.TheVariants as S
use Rattle.c_typed.specs.declared.structure.PlacedMember.{PlacedMember}
use Rattle.c_typed.specs.declared.structure.MemberAt.{MemberAt}
use Rattle.c_typed.specs.declared.structure.MemberPlace.{MemberPlace}
use Rattle.c_typed.specs.declared.structure.Structure.{Structure}
use Rattle.c_typed.specs.declared.structure.Step.{Step}
use Rattle.c_typed.specs.declared.structure.Step.TheVariants as Steps
use Rattle.c_typed.specs.Types.{CType, Void, Integer, Pointer, Array, Struct}
use Rattle.c_typed.specs.Layouts.{StructDef, MemberDef, greatest, saturated, layouts, members_by_tag, known_members, member_type, member_slots, slot_at}
use Rattle.c_typed.specs.Table.{Interned, structs_in, known_in, KnownStands, member_def, member_defs, tag_in, type_in, Stands, shape_type, members_of, names_of, member_number, IsMember, IsMemberType, IsMemberPlace}
use Rattle.c_typed.specs.Inside.{IsStep, IsStructure, MemberStands, MembersStand, member_entry, struct_entry, before, placed_names, IsFirst}
use Rattle.c_typed.proofs.Sizes.{saturated-le, small_slots_before}

pub slot_at-small : (structs : List StructDef) (t : Option CType) (path : List Step) → slot_at structs t path ≤ greatest
slot_at-small structs t [] = omega arith
slot_at-small structs (Some (Struct tag)) (Steps.Member number ∷ path) =
    let members = known_members (members_by_tag structs tag) in
    saturated-le (member_slots (layouts structs) members number (slice_get members number) + slot_at structs (member_type (slice_get members number)) path)
slot_at-small structs (Some (Struct tag)) (Steps.Element index ∷ path) = omega arith
slot_at-small structs (Some (Array t n)) (Steps.Element index ∷ path) = slot_at-small structs (Some t) path
slot_at-small structs (Some (Array t n)) (Steps.Member number ∷ path) = omega arith
slot_at-small structs _ (step ∷ path) = omega arith

slot_at-none : (structs : List StructDef) (path : List Step) → slot_at structs None path ≡ 0
slot_at-none structs [] = refl
slot_at-none structs (step ∷ path) = refl

module _ (table : Interned) where
  -- a step that leads to no part
  pub nowhere : (whole : Option CType) (step : Step) → ((path : List Step) → slot_at (structs_in table) whole (step ∷ path) ≡ 0) → IsStep table whole step (0, None)
  nowhere whole step none = record {
    slots = λ path. none path ∙ (let e = slot_at-none (structs_in table) path in omega arith);
    small = omega arith;
    stands = tt;
  }

  pub no_step : (shape : Shape) (step : Step) → ((id : tag.StructId) → shape ≡ S.Struct id → ⊥) → ((t : number.CType) (n : ℕ) → shape ≡ S.Array t n → ⊥)
      → IsStep table (Some (shape_type table shape)) step (0, None)
  no_step S.Void step a b = nowhere (Some Void) step (λ path. refl)
  no_step (S.Integer t) step a b = nowhere (Some (Integer t)) step (λ path. refl)
  no_step (S.Pointer t) step a b = nowhere (Some (Pointer (type_in table t))) step (λ path. refl)
  no_step (S.Array t n) step a b = absurd (b t n refl)
  no_step (S.Struct id) step a b = absurd (a id refl)
  no_step (S.Function t ps) step a b = nowhere (Some (shape_type table (S.Function t ps))) step (λ path. refl)

  -- a step into an array
  pub element_step : (t : number.CType) (n index : ℕ) → Stands table t → IsStep table (Some (Array (type_in table t) n)) (Steps.Element index) (0, Some t)
  element_step t n index h = record {
    slots = λ path. let le = slot_at-small (structs_in table) (Some (type_in table t)) path in omega arith;
    small = omega arith;
    stands = h;
  }

  stands_there : (members : List PlacedMember) → MembersStand table.tags table.entries (map member_entry members) → (n : ℕ) (member : PlacedMember)
      → slice_get members n ≡ Some member → KnownStands table member.c_type
  stands_there [] h n member at = absurd (none-some member at)
  stands_there (first ∷ members) h zero member at = subst (λ (m : PlacedMember). KnownStands table m.c_type) (same_Some first member at) (known_stands first.c_type h.0)
    where
      known_stands : (t : Option number.CType) → MemberStands table.tags table.entries t → KnownStands table t
      known_stands (Some t) h = h
      known_stands None h = tt
  stands_there (first ∷ members) h (suc n) member at = stands_there members h.1 n member at

  def_there : (members : List PlacedMember) (n : ℕ) → slice_get (member_defs table.tags table.entries (map member_entry members)) n
      ≡ option_map (λ (m : PlacedMember). member_def table.tags table.entries (member_entry m)) (slice_get members n)
  def_there [] n = refl
  def_there (first ∷ members) zero = refl
  def_there (first ∷ members) (suc n) = def_there members n

  -- a step to a member
  pub to_member : (id : tag.StructId) (s : Structure) → IsStructure table id s → (n : ℕ) (found : ℕ × Option number.CType) → found ≡ before (slice_get s.members.items n)
      → IsStep table (Some (Struct (tag_in table id))) (Steps.Member n) found
  to_member id s is n found e = subst (IsStep table (Some (Struct (tag_in table id))) (Steps.Member n)) (sym e) (by (slice_get s.members.items n) refl)
    where
      by : (o : Option PlacedMember) → slice_get s.members.items n ≡ o → IsStep table (Some (Struct (tag_in table id))) (Steps.Member n) (before o)
      by None at = nowhere (Some (Struct (tag_in table id))) (Steps.Member n) (λ path.
          let none : slice_get (known_members (members_by_tag (structs_in table) (tag_in table id))) n ≡ None =
          ap (λ o. slice_get (known_members o) n) is.members ∙ def_there s.members.items n ∙ ap (option_map (λ (m : PlacedMember). member_def table.tags table.entries (member_entry m))) at in
          (λ i. saturated (member_slots (layouts (structs_in table)) (known_members (members_by_tag (structs_in table) (tag_in table id))) n (none i) + slot_at (structs_in table) (member_type (none i)) path))
          ∙ (let e = slot_at-none (structs_in table) path in omega arith))
      by (Some member) at = record {
        slots = λ path.
            let defs = member_defs table.tags table.entries (struct_entry s).members in
            let some : slice_get (known_members (members_by_tag (structs_in table) (tag_in table id))) n ≡ Some (member_def table.tags table.entries (member_entry member)) =
            ap (λ o. slice_get (known_members o) n) is.members ∙ def_there s.members.items n ∙ ap (option_map (λ (m : PlacedMember). member_def table.tags table.entries (member_entry m))) at in
            (λ i. saturated (member_slots (layouts (structs_in table)) (known_members (is.members i)) n (some i) + slot_at (structs_in table) (member_type (some i)) path))
            ∙ (λ i. saturated (sym (is.slots n member at) i + slot_at (structs_in table) (known_in table.tags table.entries member.c_type) path));
        small = let e = is.slots n member at in let le = small_slots_before (structs_in table) n (member_defs table.tags table.entries (struct_entry s).members) in omega arith;
        stands = stands_there s.members.items is.stand n member at;
      }

  -- a member by its number
  pub member_there : (id : tag.StructId) (s : Structure) → IsStructure table id s → (n : ℕ) (found : Option (Option number.CType)) → found ≡ option_map (λ (m : PlacedMember). m.c_type) (slice_get s.members.items n)
      → IsMemberType table (slice_get (members_of (structs_in table) (Struct (tag_in table id))) n) found
  member_there id s is n found e =
      subst (IsMemberType table (slice_get (members_of (structs_in table) (Struct (tag_in table id))) n)) (sym e)
      (subst (λ o. IsMemberType table o (option_map (λ (m : PlacedMember). m.c_type) (slice_get s.members.items n))) (sym (ap (λ o. slice_get (known_members o) n) is.members ∙ def_there s.members.items n)) (by (slice_get s.members.items n) refl))
    where
      by : (o : Option PlacedMember) → slice_get s.members.items n ≡ o → IsMemberType table (option_map (λ (m : PlacedMember). member_def table.tags table.entries (member_entry m)) o) (option_map (λ (m : PlacedMember). m.c_type) o)
      by None at = tt
      by (Some member) at = (refl, stands_there s.members.items is.stand n member at)

  -- there is none before the structure is completed
  pub no_member_there : (id : tag.StructId) → members_by_tag (structs_in table) (tag_in table id) ≡ None → (n : ℕ) → IsMemberType table (slice_get (members_of (structs_in table) (Struct (tag_in table id))) n) None
  no_member_there id is n = subst (λ o. IsMemberType table (slice_get (known_members o) n) None) (sym is) tt

  abbrev defs_of : Structure → List MemberDef
  defs_of s = member_defs table.tags table.entries (struct_entry s).members

  -- where a member stands
  pub place_there : (id : tag.StructId) (s : Structure) (c_type : CType) → IsStructure table id s → c_type ≡ Struct (tag_in table id) → (n : ℕ) (found : Option MemberPlace)
      → found ≡ option_map (λ (m : PlacedMember). record { offset = m.offset; c_type = m.c_type }) (slice_get s.members.items n)
      → IsMemberPlace table (members_of (structs_in table) c_type) n found
  place_there id s c_type is e n found h =
      let members : members_of (structs_in table) c_type ≡ defs_of s = ap (members_of (structs_in table)) e ∙ ap known_members is.members in
      subst (λ ms. IsMemberPlace table ms n found) (sym members) (subst (IsMemberPlace table (defs_of s) n) (sym h) (by (slice_get s.members.items n) refl))
    where
      by : (o : Option PlacedMember) → slice_get s.members.items n ≡ o
          → IsMemberPlace table (defs_of s) n (option_map (λ (m : PlacedMember). record { offset = m.offset; c_type = m.c_type }) o)
      by None at = def_there s.members.items n ∙ ap (option_map (λ (m : PlacedMember). member_def table.tags table.entries (member_entry m))) at
      by (Some member) at =
          let there = def_there s.members.items n ∙ ap (option_map (λ (m : PlacedMember). member_def table.tags table.entries (member_entry m))) at in (
            is.offsets n member at,
            sym (ap (option_map (λ (m : MemberDef). m.c_type)) there),
            stands_there s.members.items is.stand n member at,
          )

  -- a step from a part with a type
  pub step_from : (whole : Option number.CType) (t : number.CType) (c_type : CType) (step step' : Step) (found : ℕ × Option number.CType) → whole ≡ Some t → type_in table t ≡ c_type → step ≡ step'
      → IsStep table (Some c_type) step' found → IsStep table (known_in table.tags table.entries whole) step found
  step_from whole t c_type step step' found e f g is =
      subst (λ w. IsStep table w step found) (sym (ap (known_in table.tags table.entries) e ∙ ap Some f))
      (subst (λ s. IsStep table (Some c_type) s found) (sym g) is)

  names_there : (members : List PlacedMember) → names_of (member_defs table.tags table.entries (map member_entry members)) ≡ placed_names members
  names_there [] = refl
  names_there (first ∷ members) = ap (λ names. first.name.items ∷ names) (names_there members)

  -- the first member of a name
  pub first_is_member : (id : tag.StructId) (s : Structure) (c_type : CType) → IsStructure table id s → c_type ≡ Struct (tag_in table id) → (name : List ℕ) (found : Option MemberAt)
      → IsFirst s.members.items name found → IsMember table (members_of (structs_in table) c_type) name found
  first_is_member id s c_type is e name found h =
      let members : members_of (structs_in table) c_type ≡ member_defs table.tags table.entries (struct_entry s).members = ap (members_of (structs_in table)) e ∙ ap known_members is.members in
      subst (λ ms. IsMember table ms name found) (sym members) (by found h)
    where
      names : names_of (member_defs table.tags table.entries (struct_entry s).members) ≡ placed_names s.members.items
      names = names_there s.members.items

      typed : (o : Option PlacedMember) (found : MemberAt) → slice_get s.members.items found.number ≡ o → option_map (λ (m : PlacedMember). m.c_type) o ≡ Some found.c_type
          → (known_in table.tags table.entries found.c_type ≡ member_type (slice_get (member_defs table.tags table.entries (struct_entry s).members) found.number)) × KnownStands table found.c_type
      typed None found at e = absurd (none-some found.c_type e)
      typed (Some member) found at e =
          let same = same_Some member.c_type found.c_type e in (
            ap (known_in table.tags table.entries) (sym same)
                ∙ sym (ap member_type (def_there s.members.items found.number ∙ ap (option_map (λ (m : PlacedMember). member_def table.tags table.entries (member_entry m))) at)),
            subst (KnownStands table) same (stands_there s.members.items is.stand found.number member at),
          )

      by : (found : Option MemberAt) → IsFirst s.members.items name found → IsMember table (member_defs table.tags table.entries (struct_entry s).members) name found
      by None h = ap (λ ns. member_number ns name) names ∙ h
      by (Some found) h =
          let kept = typed (slice_get s.members.items found.number) found refl h.1 in
          (ap (λ ns. member_number ns name) names ∙ h.0, kept.0, kept.1)

  -- the slots up to a part, and those from there on
  pub slots_on : (whole : Option CType) (path : List Step) (n : ℕ) (step : Step) (slot total : ℕ) (found : ℕ × Option number.CType)
      → drop n path ≡ step ∷ drop (n + 1) path → IsStep table whole step found → saturated (slot + slot_at (structs_in table) whole (drop n path)) ≡ total
      → saturated (saturated (slot + found.0) + slot_at (structs_in table) (known_in table.tags table.entries found.1) (drop (n + 1) path)) ≡ total
  slots_on whole path n step slot total found next is so_far =
      let rest = slot_at (structs_in table) (known_in table.tags table.entries found.1) (drop (n + 1) path) in
      let here : slot_at (structs_in table) whole (drop n path) ≡ saturated (found.0 + rest) = ap (slot_at (structs_in table) whole) next ∙ is.slots (drop (n + 1) path) in
      together slot found.0 rest ∙ ap (λ k. saturated (slot + k)) (sym here) ∙ so_far
    where
      together : (a b c : ℕ) → saturated (saturated (a + b) + c) ≡ saturated (a + saturated (b + c))
      together a b c = omega arith
