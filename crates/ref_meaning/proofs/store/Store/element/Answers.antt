use Rattle.std.proofs.Common.{ℤ, pos, ◌<ℤ◌, ◌≤ℤ◌, nat_abs, Fits, FitsSigned, w64, to_z, of_z, to_z-of_z, arith, rules, sym, ap, subst, ◌∙◌}
use Rattle.std.specs.Int.{w128}
use Rattle.std.proofs.lemmas.Int.{ints}
use Rattle.ref_semantics.specs.Values.{at_index}
use Rattle.ref_semantics.specs.Pointers.{element}
use Rattle.ref_meaning.specs.RefStore.Views.{place_in, scalar_in}
use Rattle.ref_meaning.specs.RefStore.Holding.{EvaluatesTo, IsMoved}
use Rattle.ref_meaning.proofs.Fitting.{at_stands, at_element}
use Rattle.ref_meaning.proofs.Giving.{comes-same}
use Rattle.ref_meaning.proofs.Pointing.{index-exact, negative, not_negative, index-at_least, index-below, index-negative, lt-true, lt-false, le-true, le-false, cast-le, cast-lt, element-dead, element-null, element-over, element-before, element-there}
use Rattle.ref_meaning.proofs.store.Store.element.Goals as goal

pub returns-then-is_dead_pointer-clause-gives : goal.returns-then-is_dead_pointer-clause-gives
returns-then-is_dead_pointer-clause-gives c = λ around base state at.
    element-dead c.args.here (scalar_in c.args.self.now.types.now c.args.pointer) c.args.number state (sym (c.is_dead_pointer.ensures around base state at) ∙ c.if-is_dead_pointer.true)

pub returns-then-is_null-clause-gives : goal.returns-then-is_null-clause-gives
returns-then-is_null-clause-gives c = λ around base state at.
    let table = c.args.self.now.types.now in
    element-null c.args.here (scalar_in table c.args.pointer) c.args.number state
    (sym (c.is_dead_pointer.ensures around base state at) ∙ c.if-is_dead_pointer.false) (sym (c.is_null.ensures table) ∙ c.if-is_null.true)

pub returns-then-index-from-clause-gives : goal.returns-then-index-from-clause-gives
returns-then-index-from-clause-gives c = λ around base state at.
    let table = c.args.self.now.types.now in
    let place = place_in table c.place-place.result in
    let m = c.moved-index.result in
    let moved : IsMoved place.index c.args.number m = subst (λ (x : ℤ). IsMoved place.index x m) (to_z-of_z c.ranges.number) c.moved-index.ensures in
    let fits : FitsSigned w128 m = record { sfits = c.moved-index.type_inv } in
    let from : FitsSigned w128 c.from.result = record { sfits = c.from.type_inv } in
    let above = subst (λ (x : ℤ). x ≤ℤ m) c.from.ensures (le-true c.from.result m from fits c.if-index-from.true) in
    element-over c.args.here (scalar_in table c.args.pointer) c.args.number state place (c.place-place.ensures.means table)
    (sym (c.is_dead_pointer.ensures around base state at) ∙ c.if-is_dead_pointer.false) (sym (c.is_null.ensures table) ∙ c.if-is_null.false)
    (index-at_least place.index place.row.count c.args.number m moved above)

pub returns-then-index-lt0-clause-gives : goal.returns-then-index-lt0-clause-gives
returns-then-index-lt0-clause-gives c = λ around base state at.
    let table = c.args.self.now.types.now in
    let place = place_in table c.place-place.result in
    let m = c.moved-index.result in
    let moved : IsMoved place.index c.args.number m = subst (λ (x : ℤ). IsMoved place.index x m) (to_z-of_z c.ranges.number) c.moved-index.ensures in
    let fits : FitsSigned w128 m = record { sfits = c.moved-index.type_inv } in
    let zero : FitsSigned w128 (pos 0) = search rules in
    let under = lt-true m (pos 0) fits zero c.if-index-lt0.true in
    element-before c.args.here (scalar_in table c.args.pointer) c.args.number state place (c.place-place.ensures.means table)
    (sym (c.is_dead_pointer.ensures around base state at) ∙ c.if-is_dead_pointer.false) (sym (c.is_null.ensures table) ∙ c.if-is_null.false)
    (index-negative place.index place.row.count c.args.number m moved under) (negative place.index place.row.count c.args.number m moved under)

pub returns-clause-gives : goal.returns-clause-gives
returns-clause-gives c = λ around base state at.
    let store = c.args.self.now in
    let table = store.types.now in
    let p = scalar_in table c.args.pointer in
    let place = place_in table c.place-place.result in
    let z = c.args.number in
    let m = c.moved-index.result in
    let moved : IsMoved place.index z m = subst (λ (x : ℤ). IsMoved place.index x m) (to_z-of_z c.ranges.number) c.moved-index.ensures in
    let small : Fits w64 c.place-place.result.row.count = search rules in
    let fits : FitsSigned w128 m = record { sfits = c.moved-index.type_inv } in
    let from : FitsSigned w128 c.from.result = record { sfits = c.from.type_inv } in
    let zero : FitsSigned w128 (pos 0) = search rules in
    let under : m <ℤ pos place.row.count = subst (λ (x : ℤ). m <ℤ x) c.from.ensures (le-false c.from.result m from fits c.if-index-from.false) in
    let least = lt-false m (pos 0) fits zero c.if-index-lt0.false in
    let does = element-there c.args.here p z state place (c.place-place.ensures.means table)
    (sym (c.is_dead_pointer.ensures around base state at) ∙ c.if-is_dead_pointer.false) (sym (c.is_null.ensures table) ∙ c.if-is_null.false)
    (index-below place.index place.row.count z m moved small.fits least under) (not_negative place.index place.row.count z m moved least) in
    let index = sym (index-exact place.index place.row.count z m moved small.fits least (omega (arith, ints))) ∙ ap nat_abs (sym (to_z-of_z fits)) in
    comes-same around store base (element c.args.here p z) state _ (subst (λ n. EvaluatesTo (element c.args.here p z) state (at_index place n) state) index does) at

pub returns-clause-stands : goal.returns-clause-stands
returns-clause-stands c = λ stands.
    let table = c.args.self.now.types.now in
    let row = c.place-place.result.row in
    let m = c.moved-index.result in
    let fits : FitsSigned w128 m = record { sfits = c.moved-index.type_inv } in
    let from : FitsSigned w128 c.from.result = record { sfits = c.from.type_inv } in
    let zero : FitsSigned w128 (pos 0) = search rules in
    let under : m <ℤ pos row.count = subst (λ (x : ℤ). m <ℤ x) c.from.ensures (le-false c.from.result m from fits c.if-index-from.false) in
    let most : m ≤ℤ pos row.count = omega (arith, ints, under) in
    at_stands table c.place-place.result (nat_abs (to_z w128 (of_z w128 m))) (c.place-place.ensures.stands table stands) (cast-le m row.count fits (lt-false m (pos 0) fits zero c.if-index-lt0.false) most)

pub returns-clause-element : goal.returns-clause-element
returns-clause-element c = λ stands.
    let table = c.args.self.now.types.now in
    let row = c.place-place.result.row in
    let m = c.moved-index.result in
    let small : Fits w64 row.count = search rules in
    let fits : FitsSigned w128 m = record { sfits = c.moved-index.type_inv } in
    let from : FitsSigned w128 c.from.result = record { sfits = c.from.type_inv } in
    let zero : FitsSigned w128 (pos 0) = search rules in
    let under : m <ℤ pos row.count = subst (λ (x : ℤ). m <ℤ x) c.from.ensures (le-false c.from.result m from fits c.if-index-from.false) in
    at_element table c.place-place.result (nat_abs (to_z w128 (of_z w128 m))) (c.place-place.ensures.stands table stands) (cast-lt m row.count fits (lt-false m (pos 0) fits zero c.if-index-lt0.false) under) small.fits
