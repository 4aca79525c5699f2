use Rattle.std.proofs.Common.{◌+◌, Some, refl, sym, subst}
use Rattle.c_typed.specs.Table.{Stands, IsMemberPlace, members_of, structs_in, type_in}
use Rattle.ref_meaning.specs.Fitting.{with_structs}
use Rattle.ref_meaning.specs.declared.value.Place.{Place}
use Rattle.ref_meaning.proofs.Scalars.{nothing, void_stands, nothing_means}
use Rattle.ref_meaning.proofs.MemberPlaces.{MemberType, member-typed, member-untyped, known-type, no-member, member-there}
use Rattle.ref_meaning.proofs.Fitting.{first_stands, first_element, nothing_row_fits, nothing_row_room, member_stands, member_element, member_starts}
use Rattle.ref_meaning.proofs.store.Store.member_at.Goals.{in-Some-c_type, in-None}
use Rattle.ref_meaning.proofs.store.Store.member_at.Goals as goal

pub returns-in_default-clause-found : goal.returns-in_default-clause-found
returns-in_default-clause-found c = λ around same. no-member around c.args.self.now.types.now c.args.place c.args.number same c.first.result c.first.ensures c.in_default.ensures

pub returns-in_default-clause-stands : goal.returns-in_default-clause-stands
returns-in_default-clause-stands c =
    let table = c.args.self.now.types.now in
    first_stands table c.first.result c.args.place.name nothing c.first.ensures (void_stands table) (nothing_row_fits table nothing (nothing_means table))

pub returns-in_default-clause-element : goal.returns-in_default-clause-element
returns-in_default-clause-element c =
    let table = c.args.self.now.types.now in
    first_element table c.first.result c.args.place.name nothing c.first.ensures (nothing_row_room table nothing (nothing_means table))

pub overflow_add-row : goal.overflow_add-row
overflow_add-row c =
    let table = c.args.self.now.types.now in
    let around = with_structs (structs_in table) in
    let found : IsMemberPlace table (members_of (structs_in table) (type_in table c.args.place.row.c_type)) c.args.number (Some c.in-Some.member) = c.in-Some.ensures in
    let typed = known-type table c.in-Some.member.c_type found.2 in
    let start = c.offset.result + c.in-Some.member.offset in
    let member : Place = record { name = c.args.place.name; row = record { start = start; c_type = typed.0; count = 1 }; index = 0 } in
    let is = member-there around table c.args.place c.args.number refl member start c.offset.result c.in-Some.member.offset typed.0 c.in-Some.member.c_type
    refl refl (c.offset.ensures around refl) found.0 found.1 typed.1 in
    record { fits = member_starts table c.args.place member c.requires.element c.args.number is refl }

found : (c : goal.After-first-2) → IsMemberPlace c.args.self.now.types.now (members_of (structs_in c.args.self.now.types.now) (type_in c.args.self.now.types.now c.args.place.row.c_type)) c.args.number (Some c.in-Some.member)
found c = c.in-Some.ensures

member-type : (c : goal.After-first-2) → MemberType c.args.self.now.types.now c.in-Some.member.c_type c.match-member.row
member-type c =
    elim c.match-member.branch [
      | in-Some-c_type w ↦ member-typed c.args.self.now.types.now c.in-Some.member.c_type c.match-member.row w.in-Some-c_type.c_type w.in-Some-c_type.is w.row-is (found c).2
      | in-None w ↦ member-untyped c.args.self.now.types.now c.in-Some.member.c_type c.match-member.row w.in-None.is w.row-is
    ]

pub returns-clause-found : goal.returns-clause-found
returns-clause-found c = λ around same.
    member-there around c.args.self.now.types.now c.args.place c.args.number same c.first-2.result (c.offset.result + c.in-Some.member.offset) c.offset.result c.in-Some.member.offset c.match-member.row c.in-Some.member.c_type
    c.first-2.ensures refl (c.offset.ensures around same) (found c).0 (found c).1 (member-type c)

pub returns-clause-stands : goal.returns-clause-stands
returns-clause-stands c =
    let table = c.args.self.now.types.now in
    member_stands table c.args.place c.first-2.result c.requires.element c.args.number (returns-clause-found c (with_structs (structs_in table)) refl)
    (subst (λ (p : Place). Stands table p.row.c_type) (sym c.first-2.ensures) (member-type c).1)

pub returns-clause-element : goal.returns-clause-element
returns-clause-element c =
    let table = c.args.self.now.types.now in
    member_element table c.args.place c.first-2.result c.requires.element c.args.number (returns-clause-found c (with_structs (structs_in table)) refl)
