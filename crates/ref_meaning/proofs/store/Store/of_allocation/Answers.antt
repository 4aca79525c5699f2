use Rattle.std.proofs.Math.Nat.{div-mul-le_self}
use Rattle.std.proofs.Common.{◌≡◌, ℕ, ◌*◌, ◌<◌, ◌^◌, Fits, w64, rules, arith, ◌/◌, ◌%◌, ◌==◌, false, List, Some, None, is_some, refl, sym, ap, subst, ◌∙◌}
use Rattle.c_typed.specs.Types.{same_type}
use Rattle.c_typed.specs.Layouts.{StructDef, layout_of}
use Rattle.c_typed.specs.Table.{Stands, type_in, structs_in}
use Rattle.ref_semantics.specs.Values.{Heap, Scalar, Elements, PointerValue, first_of_row}
use Rattle.ref_semantics.specs.Store.{with_content}
use Rattle.ref_meaning.specs.declared.value.Name.TheVariants as N
use Rattle.ref_meaning.specs.declared.value.Row.{Row}
use Rattle.ref_meaning.specs.declared.value.Place.{Place}
use Rattle.ref_meaning.specs.declared.object.Content.TheVariants as C
use Rattle.ref_meaning.specs.Fitting.{size_in, ElementsStand}
use Rattle.ref_meaning.specs.Fitting.{Fits as Rows}
use Rattle.c_typed.proofs.Same.{same_type-true}
use Rattle.ref_meaning.proofs.Fitting.{object_elements, first_stands, whole_fits}
use Rattle.ref_meaning.specs.RefStore.Views.{place_in}
use Rattle.ref_meaning.specs.RefStore.Holding.{EvaluatesTo}
use Rattle.ref_meaning.proofs.Giving.{comes-same}
use Rattle.ref_meaning.proofs.Updating.{at_changed, none_held}
use Rattle.ref_meaning.proofs.Allocations.{parts-some, parts-none, found_told, fresh, typed, typed-dead, typed-other, typed-same, typed-odd, typed-fresh}
use Rattle.ref_meaning.proofs.store.Store.of_allocation.Goals as goal

divided : (size own count : ℕ) → count ≡ size / own → size < 2 ^ 64 → count * own < 2 ^ 64
divided size own count e lt = let le = div-mul-le_self size own in omega (arith, ap (λ n. n * own) e, le, lt)

fits_all : (c : goal.After-first-2) → c.in-Some.count * size_in (structs_in c.args.self.now.types.now) (type_in c.args.self.now.types.now c.args.target) < 2 ^ 64
fits_all c =
    let size = c.in-Some-Raw.size in
    let own = c.size_of.result in
    let small : Fits w64 size = search rules in
    let whole = parts-some (size % own == 0) (size / own) c.in-Some.count c.in-Some.ensures in
    subst (λ n. c.in-Some.count * n < 2 ^ 64) c.size_of.ensures (divided size own c.in-Some.count whole.1 small.fits)

stand : (c : goal.After-first-2) → ElementsStand c.args.self.now.types.now c.new-elements.result.c_type c.new-elements.result.count
stand c =
    let table = c.args.self.now.types.now in
    let made = c.new-elements in
    subst (ElementsStand table made.result.c_type) (sym made.ensures.count)
    (subst (λ t. ElementsStand table t c.in-Some.count) (sym made.ensures.c_type) (object_elements table c.args.target c.requires.target c.in-Some.count (fits_all c)))

pub returns-in-None-clause-gives : goal.returns-in-None-clause-gives
returns-in-None-clause-gives c = λ around base state at.
    let store = c.args.self.now in
    let number = c.args.number in
    typed-dead around c.args.here (type_in store.types.now c.args.target) number state
    (found_told store.types.now store.objects (N.Heap number) None (state.objects (Heap number)) c.in-None.ensures.value (at.objects (N.Heap number)))

pub same-requires-clause-a : goal.same-requires-clause-a
same-requires-clause-a c =
    let store = c.args.self.now in
    let name = N.Heap c.args.number in
    let known = c.requires.store in
    let told = found_told store.types.now store.objects name (Some (C.Elements c.in-Some-Elements.elements)) (known.state.objects (Heap c.args.number))
    (ap Some (sym c.in-Some-Elements.field-0-is) ∙ c.in-Some-Elements.ensures.value) (known.at.objects name) in
    subst (λ (r : Row). Stands store.types.now r.c_type) (sym c.row-row.ensures) told.2.0

pub returns-then-not-same-clause-gives : goal.returns-then-not-same-clause-gives
returns-then-not-same-clause-gives c = λ around base state at.
    let store = c.args.self.now in
    let table = store.types.now in
    let number = c.args.number in
    let target = type_in table c.args.target in
    let some = c.in-Some-Elements.elements in
    let told = found_told table store.objects (N.Heap number) (Some (C.Elements some)) (state.objects (Heap number))
    (ap Some (sym c.in-Some-Elements.field-0-is) ∙ c.in-Some-Elements.ensures.value) (at.objects (N.Heap number)) in
    typed-other around c.args.here target number state some.is_static (type_in table some.c_type) some.count told.0 told.1
    (ap (λ (r : Row). same_type (type_in table r.c_type) target) (sym c.row-row.ensures) ∙ (sym c.same.ensures ∙ c.if-not-same.true))

pub returns-in-Some-Elements-clause-gives : goal.returns-in-Some-Elements-clause-gives
returns-in-Some-Elements-clause-gives c = λ around base state at.
    let store = c.args.self.now in
    let table = store.types.now in
    let number = c.args.number in
    let target = type_in table c.args.target in
    let some = c.in-Some-Elements.elements in
    let told = found_told table store.objects (N.Heap number) (Some (C.Elements some)) (state.objects (Heap number))
    (ap Some (sym c.in-Some-Elements.field-0-is) ∙ c.in-Some-Elements.ensures.value) (at.objects (N.Heap number)) in
    let does = typed-same around c.args.here target number state some.is_static (type_in table some.c_type) some.count told.0 told.1
    (ap (λ (r : Row). same_type (type_in table r.c_type) target) (sym c.row-row.ensures) ∙ (sym c.same.ensures ∙ c.if-not-same.false)) in
    let row = ap (λ (r : Row). PointerValue (first_of_row (Heap number) (record { start = r.start; c_type = target; count = r.count }))) (sym c.row-row.ensures) in
    let is = row ∙ ap (λ (p : Place). PointerValue (place_in table p)) (sym c.first.ensures) in
    comes-same around store base (typed around c.args.here target number) state _ (subst (λ (v : Scalar). EvaluatesTo (typed around c.args.here target number) state v state) is does) at

pub returns-in_default-clause-gives : goal.returns-in_default-clause-gives
returns-in_default-clause-gives c = λ around base state at.
    let store = c.args.self.now in
    let table = store.types.now in
    let number = c.args.number in
    let target = type_in table c.args.target in
    let size = c.in-Some-Raw.size in
    let own = c.size_of.result in
    let told = found_told table store.objects (N.Heap number) (Some (C.Raw size)) (state.objects (Heap number))
    (ap Some (sym c.in-Some-Raw.field-0-is) ∙ c.in-Some-Raw.ensures.value) (at.objects (N.Heap number)) in
    typed-odd around c.args.here target number state size own told (ap (λ (structs : List StructDef). (layout_of structs target).size) at.structs ∙ sym c.size_of.ensures)
    (parts-none (size % own == 0) (size / own) (ap is_some (sym c.parts.ensures ∙ c.in_default.is)))

pub returns-clause-gives : goal.returns-clause-gives
returns-clause-gives c = λ around base state at.
    let store = c.args.self.now in
    let table = store.types.now in
    let number = c.args.number in
    let target = type_in table c.args.target in
    let size = c.in-Some-Raw.size in
    let own = c.size_of.result in
    let made = c.new-elements.result in
    let told = found_told table store.objects (N.Heap number) (Some (C.Raw size)) (state.objects (Heap number))
    (ap Some (sym c.in-Some-Raw.field-0-is) ∙ c.in-Some-Raw.ensures.value) (at.objects (N.Heap number)) in
    let whole = parts-some (size % own == 0) (size / own) c.in-Some.count c.in-Some.ensures in
    let does = typed-fresh around c.args.here target number state size own told (ap (λ (structs : List StructDef). (layout_of structs target).size) at.structs ∙ sym c.size_of.ensures) whole.0 in
    let content = Elements false target (size / own) (λ offset. None) in
    let after = record state { objects = with_content (Heap number) content state.objects } in
    let holds = fresh table target (size / own) made c.new-elements.ensures.is_static (ap (type_in table) c.new-elements.ensures.c_type) (c.new-elements.ensures.count ∙ whole.1)
    (stand c) (none_held table made.held c.new-elements.ensures.held) in
    let row = ap (λ count. PointerValue (first_of_row (Heap number) (record { start = 0; c_type = target; count = count }))) (sym whole.1) in
    let is = row ∙ ap (λ (p : Place). PointerValue (place_in table p)) (sym c.first-2.ensures) in
    record {
      after = after;
      does = subst (λ (v : Scalar). EvaluatesTo (typed around c.args.here target number) state v after) is does;
      at = at_changed around store base state (record store { objects = c.insert.new.self }) (N.Heap number) (Some (C.Elements made)) content state.trace c.in_ok-insert.ensures.updates.0 holds at;
      quiet = refl;
    }

pub returns-clause-stands : goal.returns-clause-stands
returns-clause-stands c =
    let table = c.args.self.now.types.now in
    let own = object_elements table c.args.target c.requires.target c.in-Some.count (fits_all c) in
    first_stands table c.first-2.result (N.Heap c.args.number) (record { start = 0; c_type = c.args.target; count = c.in-Some.count }) c.first-2.ensures own.0 (whole_fits table c.args.target c.in-Some.count own)

pub returns-in-Some-Elements-clause-stands : goal.returns-in-Some-Elements-clause-stands
returns-in-Some-Elements-clause-stands c =
    let store = c.args.self.now in
    let table = store.types.now in
    let structs = structs_in table in
    let name = N.Heap c.args.number in
    let some = c.in-Some-Elements.elements in
    let target = type_in table c.args.target in
    let row = c.row-row.result in
    let known = c.requires.store in
    let told = found_told table store.objects name (Some (C.Elements some)) (known.state.objects (Heap c.args.number))
    (ap Some (sym c.in-Some-Elements.field-0-is) ∙ c.in-Some-Elements.ensures.value) (known.at.objects name) in
    let same : type_in table some.c_type ≡ target =
    ap (λ (r : Row). type_in table r.c_type) (sym c.row-row.ensures) ∙ same_type-true (type_in table row.c_type) target (sym c.if-not-same.ensures) in
    let whole = subst (λ t. Rows structs (record { start = 0; c_type = t; count = some.count })) same (whole_fits table some.c_type some.count told.2) in
    first_stands table c.first.result name (record { start = row.start; c_type = c.args.target; count = row.count }) c.first.ensures c.requires.target.stands
    (subst (λ (r : Row). Rows structs (record { start = r.start; c_type = target; count = r.count })) (sym c.row-row.ensures) whole)
