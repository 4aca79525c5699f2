use Rattle.std.proofs.Common.{◌≡◌, ℕ, refl, sym, ap, subst, ◌∙◌}
use Rattle.c_typed.specs.declared.c_type.CType as number
use Rattle.c_typed.specs.declared.c_type.Shape.{Shape}
use Rattle.c_typed.specs.declared.c_type.Shape.TheVariants as S
use Rattle.c_typed.specs.Table.{Interned, Stands, PartsStand, type_in, structs_in, shape_type}
use Rattle.ref_semantics.specs.Values.{first_of_row}
use Rattle.ref_semantics.specs.Store.{TypeEnvironment, inner_row, offset_of}
use Rattle.ref_meaning.specs.Fitting.{with_structs}
use Rattle.ref_meaning.specs.RefStore.Views.{name_of, row_in, place_in}
use Rattle.ref_meaning.specs.declared.value.Place.{Place}
use Rattle.ref_meaning.proofs.Fitting.{decayed_stands}
use Rattle.ref_meaning.proofs.store.Store.decayed.Goals.{in-Array, in_default}
use Rattle.ref_meaning.proofs.store.Store.decayed.Goals as goal

other_row : (table : Interned) (shape : Shape) (offset : ℕ) → ((element : number.CType) (length : ℕ) → shape ≡ S.Array element length → ⊥)
    → record { start = offset; c_type = shape_type table shape; count = 1 } ≡ inner_row offset (shape_type table shape)
other_row table S.Void offset other = refl
other_row table (S.Integer int_type) offset other = refl
other_row table (S.Pointer target) offset other = refl
other_row table (S.Array element length) offset other = absurd (other element length refl)
other_row table (S.Struct id) offset other = refl
other_row table (S.Function result parameters) offset other = refl

row_found : (c : goal.After-first) (around : TypeEnvironment) → around.structs ≡ structs_in c.args.self.now.types.now
    → row_in c.args.self.now.types.now c.match-shape.row ≡ inner_row (offset_of around (place_in c.args.self.now.types.now c.args.place)) (type_in c.args.self.now.types.now c.args.place.row.c_type)
row_found c around same =
    let table = c.args.self.now.types.now in
    let offset = c.offset-start.ensures around same in
    let means = c.shape.ensures.means in
    elim c.match-shape.branch [
      | in-Array w ↦ ap (row_in table) w.row-is
          ∙ (λ i. record { start = offset i; c_type = type_in table w.in-Array.element; count = w.in-Array.length })
          ∙ ap (inner_row (offset_of around (place_in table c.args.place))) (sym (means ∙ ap (shape_type table) w.in-Array.is))
      | in_default w ↦ ap (row_in table) w.row-is
          ∙ (λ i. record { start = offset i; c_type = means i; count = 1 })
          ∙ other_row table c.shape.result (offset_of around (place_in table c.args.place)) w.in_default.not-Array
          ∙ ap (inner_row (offset_of around (place_in table c.args.place))) (sym means)
    ]

pub returns-clause-found : goal.returns-clause-found
returns-clause-found c = λ around same.
    let table = c.args.self.now.types.now in
    ap (place_in table) c.first.ensures ∙ ap (first_of_row (name_of c.args.place.name)) (row_found c around same)

typed : (c : goal.After-first) → Stands c.args.self.now.types.now c.first.result.row.c_type
typed c =
    let table = c.args.self.now.types.now in
    subst (λ (p : Place). Stands table p.row.c_type) (sym c.first.ensures)
    (elim c.match-shape.branch [
      | in-Array w ↦ subst (λ r. Stands table r.c_type) (sym w.row-is) (subst (PartsStand table) w.in-Array.is c.shape.ensures.parts)
      | in_default w ↦ subst (λ r. Stands table r.c_type) (sym w.row-is) c.requires.place.c_type
    ])

pub returns-clause-stands : goal.returns-clause-stands
returns-clause-stands c =
    let table = c.args.self.now.types.now in
    decayed_stands table c.args.place c.first.result c.requires.element (returns-clause-found c (with_structs (structs_in table)) refl) (typed c)
