-- The member of an element.
use Rattle.std.proofs.Common.{◌≡◌, ℕ, ◌+◌, List, slice_get, option_map, Option, Some, None, refl, sym, ap, subst, ◌∙◌}
use Rattle.std.proofs.lemmas.Option.{none-some, same_Some}
use Rattle.c_typed.specs.declared.c_type.CType as number
use Rattle.c_typed.specs.Types.{CType, Struct}
use Rattle.c_typed.specs.Layouts.{StructDef, MemberDef, layouts, known_members, members_by_tag, offset_before}
use Rattle.c_typed.specs.Table as t
use Rattle.c_typed.specs.Table.{Interned, Stands, KnownStands, type_in, structs_in, known_in, the_type}
use Rattle.ref_semantics.specs.Values.{Row, first_of_row}
use Rattle.ref_semantics.specs.Store.{TypeEnvironment, members_of, known_type, member_row, offset_of, member_at}
use Rattle.ref_meaning.specs.declared.value.Place as memory_place
use Rattle.ref_meaning.specs.RefStore.Views.{name_of, row_in, place_in}
use Rattle.ref_meaning.proofs.Scalars.{void, void_means, void_stands, nothing, nothing_means}

-- ---- the type of a member, or `void` where it has none

module _ (table : Interned) (known : Option number.CType) (t : number.CType) where
  abbrev pub MemberType : Type 0
  MemberType = (type_in table t ≡ known_type (known_in table.tags table.entries known)) × Stands table t

  pub member-typed : (is : number.CType) → known ≡ Some is → t ≡ is → KnownStands table known → MemberType
  member-typed is e same stands = (
    ap (type_in table) same ∙ ap (λ k. known_type (known_in table.tags table.entries k)) (sym e),
    subst (Stands table) (sym same) (subst (KnownStands table) e stands),
  )

  pub member-untyped : known ≡ None → t ≡ void → MemberType
  member-untyped e same = (
    ap (type_in table) same ∙ ap the_type (void_means table) ∙ ap (λ k. known_type (known_in table.tags table.entries k)) (sym e),
    subst (Stands table) (sym same) (void_stands table),
  )

pub known-type : (table : Interned) (known : Option number.CType) → KnownStands table known → (t : number.CType) × MemberType table known t
known-type table (Some t) stands = (t, member-typed table (Some t) t t refl refl stands)
known-type table None stands = (void, member-untyped table None void refl refl)

-- ---- its row

members-same : (around : TypeEnvironment) (structs : List StructDef) (c_type : CType) → around.structs ≡ structs → members_of around c_type ≡ t.members_of structs c_type
members-same around structs (Struct tag) e = λ i. known_members (members_by_tag (e i) tag)
members-same around structs _ e = refl

row-there : (around : TypeEnvironment) (structs : List StructDef) (members : List MemberDef) (index offset within : ℕ) (c_type : CType) (known : Option CType) (found : Option MemberDef) → around.structs ≡ structs
    → within ≡ offset_before (layouts structs) members index found → Some known ≡ option_map (λ (member : MemberDef). member.c_type) found → c_type ≡ known_type known
    → record { start = offset + within; c_type = c_type; count = 1 } ≡ member_row around offset members index found
row-there around structs members index offset within c_type known None same lies is typed = absurd (none-some known (sym is))
row-there around structs members index offset within c_type known (Some member) same lies is typed =
    let start : within ≡ offset_before (layouts around.structs) members index (Some member) = lies ∙ (λ i. offset_before (layouts (sym same i)) members index (Some member)) in
    let own : c_type ≡ known_type member.c_type = typed ∙ ap known_type (same_Some known member.c_type is) in
    λ i. record { start = offset + start i; c_type = own i; count = 1 }

module _ (around : TypeEnvironment) (table : Interned) (place : memory_place.Place) (index : ℕ) (same : around.structs ≡ structs_in table) where
  abbrev members : List MemberDef
  members = t.members_of (structs_in table) (type_in table place.row.c_type)

  -- with the members that the table knows
  abbrev row_among : List MemberDef → Row
  row_among ms = member_row around (offset_of around (place_in table place)) ms index (slice_get ms index)

  among : row_among members ≡ row_among (members_of around (type_in table place.row.c_type))
  among = ap row_among (sym (members-same around (structs_in table) (type_in table place.row.c_type) same))

  pub no-member : (result : memory_place.Place) → result ≡ record { name = place.name; row = nothing; index = 0 } → slice_get members index ≡ None → place_in table result ≡ member_at around (place_in table place) index
  no-member result is none =
      ap (place_in table) is
      ∙ ap (first_of_row (name_of place.name)) (nothing_means table ∙ ap (member_row around (offset_of around (place_in table place)) members index) (sym none) ∙ among)

  pub member-there : (result : memory_place.Place) (start offset within : ℕ) (c_type : number.CType) (known : Option number.CType) → result ≡ record { name = place.name; row = record { start = start; c_type = c_type; count = 1 }; index = 0 }
      → start ≡ offset + within → offset ≡ offset_of around (place_in table place) → within ≡ offset_before (layouts (structs_in table)) members index (slice_get members index)
      → Some (known_in table.tags table.entries known) ≡ option_map (λ (member : MemberDef). member.c_type) (slice_get members index) → MemberType table known c_type
      → place_in table result ≡ member_at around (place_in table place) index
  member-there result start offset within c_type known is begins from lies means typed =
      let row : row_in table (record { start = start; c_type = c_type; count = 1 }) ≡ row_among members =
      (λ i. record { start = (begins ∙ ap (λ n. n + within) from) i; c_type = type_in table c_type; count = 1 })
      ∙ row-there around (structs_in table) members index (offset_of around (place_in table place)) within (type_in table c_type) (known_in table.tags table.entries known) (slice_get members index) same lies means typed.0 in
      ap (place_in table) is ∙ ap (first_of_row (name_of place.name)) (row ∙ among)
