use Rattle.std.proofs.Common.{◌≡◌, true, if◌then◌else◌, ℤ, pos, neg_ℤ, ◌<ℤ◌, ◌≤ℤ◌, nat_abs, Fits, FitsSigned, w64, to_z, of_z, to_z-of_z, rules, refl, sym, ap, subst, ◌∙◌}
use Rattle.std.specs.Int.{w128}
use Rattle.ref_semantics.specs.Values.{PointerValue, place_of, at_index}
use Rattle.ref_semantics.specs.Pointers.{added}
use Rattle.ref_meaning.specs.RefStore.Views.{place_in, scalar_in}
use Rattle.ref_meaning.specs.RefStore.Holding.{EvaluatesTo, IsMoved}
use Rattle.ref_meaning.proofs.Fitting.{at_stands}
use Rattle.ref_meaning.proofs.Giving.{comes-same}
use Rattle.ref_meaning.proofs.Pointing.{index-exact, lt-true, lt-false, is_outside, outside-negative, outside-above, outside-not_above, fits-cast, cast-le, added-dead, added-outside, added-null, added-there}
use Rattle.ref_meaning.proofs.store.Store.added.Goals as goal
use Rattle.ref_meaning.proofs.store.Store.added.Goals.{then-index-lt0-via-then-index-lt0, then-index-lt0-via-else-index-lt0+then-index-from}

pub returns-then-is_dead_pointer-clause-gives : goal.returns-then-is_dead_pointer-clause-gives
returns-then-is_dead_pointer-clause-gives c = λ around base state at.
    added-dead c.args.here (scalar_in c.args.self.now.types.now c.args.pointer) (if c.args.is_minus then neg_ℤ c.args.number else c.args.number) state
    (sym (c.is_dead_pointer.ensures around base state at) ∙ c.if-is_dead_pointer.true)

pub returns-then-is_null-clause-gives : goal.returns-then-is_null-clause-gives
returns-then-is_null-clause-gives c = λ around base state at.
    let table = c.args.self.now.types.now in
    let p = scalar_in table c.args.pointer in
    let z = if c.args.is_minus then neg_ℤ c.args.number else c.args.number in
    added-null c.args.here p z state (place_of p) refl (sym (c.is_dead_pointer.ensures around base state at) ∙ c.if-is_dead_pointer.false) (sym (c.is_null.ensures table) ∙ c.if-is_null.true)

pub returns-then-index-lt0-clause-gives : goal.returns-then-index-lt0-clause-gives
returns-then-index-lt0-clause-gives c = λ around base state at.
    let table = c.args.self.now.types.now in
    let p = scalar_in table c.args.pointer in
    let place = place_in table c.place-place.result in
    let z = if c.args.is_minus then neg_ℤ c.args.number else c.args.number in
    let m = c.moved-index.result in
    let moved : IsMoved place.index z m = subst (λ (x : ℤ). IsMoved place.index (if c.args.is_minus then neg_ℤ x else x) m) (to_z-of_z c.ranges.number) c.moved-index.ensures in
    let fits : FitsSigned w128 m = record { sfits = c.moved-index.type_inv } in
    let zero : FitsSigned w128 (pos 0) = search rules in
    let outside : is_outside place z ≡ true =
    elim c.then-index-lt0.branch [
      | then-index-lt0-via-then-index-lt0 w ↦ outside-negative place z m moved (lt-true m (pos 0) fits zero w.if-index-lt0.true)
      | then-index-lt0-via-else-index-lt0+then-index-from w ↦
          outside-above place z m moved (subst (λ (x : ℤ). x <ℤ m) w.from.ensures (lt-true w.from.result m (record { sfits = w.from.type_inv }) fits w.if-index-from.true))
    ] in
    added-outside c.args.here p z state place (c.place-place.ensures.means table) (sym (c.is_dead_pointer.ensures around base state at) ∙ c.if-is_dead_pointer.false) (sym (c.is_null.ensures table) ∙ c.if-is_null.false) outside

pub overflow_cast-result : goal.overflow_cast-result
overflow_cast-result c =
    let row = c.place-place.result.row in
    let m = c.moved-index.result in
    let small : Fits w64 row.count = search rules in
    let fits : FitsSigned w128 m = record { sfits = c.moved-index.type_inv } in
    let from : FitsSigned w128 c.from.result = record { sfits = c.from.type_inv } in
    let zero : FitsSigned w128 (pos 0) = search rules in
    let below : m ≤ℤ pos row.count = subst (λ (x : ℤ). m ≤ℤ x) c.from.ensures (lt-false c.from.result m from fits c.if-index-from.false) in
    fits-cast m row.count fits (lt-false m (pos 0) fits zero c.if-index-lt0.false) below small.fits

pub returns-clause-gives : goal.returns-clause-gives
returns-clause-gives c = λ around base state at.
    let store = c.args.self.now in
    let table = store.types.now in
    let p = scalar_in table c.args.pointer in
    let place = place_in table c.place-place.result in
    let z = if c.args.is_minus then neg_ℤ c.args.number else c.args.number in
    let m = c.moved-index.result in
    let moved : IsMoved place.index z m = subst (λ (x : ℤ). IsMoved place.index (if c.args.is_minus then neg_ℤ x else x) m) (to_z-of_z c.ranges.number) c.moved-index.ensures in
    let small : Fits w64 c.place-place.result.row.count = search rules in
    let fits : FitsSigned w128 m = record { sfits = c.moved-index.type_inv } in
    let from : FitsSigned w128 c.from.result = record { sfits = c.from.type_inv } in
    let zero : FitsSigned w128 (pos 0) = search rules in
    let below : m ≤ℤ pos place.row.count = subst (λ (x : ℤ). m ≤ℤ x) c.from.ensures (lt-false c.from.result m from fits c.if-index-from.false) in
    let least = lt-false m (pos 0) fits zero c.if-index-lt0.false in
    let outside = outside-not_above place z m moved small.fits least below in
    let does = added-there c.args.here p z state place (c.place-place.ensures.means table) (sym (c.is_dead_pointer.ensures around base state at) ∙ c.if-is_dead_pointer.false) (sym (c.is_null.ensures table) ∙ c.if-is_null.false) outside in
    let index = sym (index-exact place.index place.row.count z m moved small.fits least below) ∙ ap nat_abs (sym (to_z-of_z fits)) in
    comes-same around store base (added c.args.here p z) state _ (subst (λ n. EvaluatesTo (added c.args.here p z) state (PointerValue (at_index place n)) state) index does) at

pub returns-clause-stands : goal.returns-clause-stands
returns-clause-stands c = λ stands.
    let table = c.args.self.now.types.now in
    let row = c.place-place.result.row in
    let m = c.moved-index.result in
    let fits : FitsSigned w128 m = record { sfits = c.moved-index.type_inv } in
    let from : FitsSigned w128 c.from.result = record { sfits = c.from.type_inv } in
    let zero : FitsSigned w128 (pos 0) = search rules in
    let below : m ≤ℤ pos row.count = subst (λ (x : ℤ). m ≤ℤ x) c.from.ensures (lt-false c.from.result m from fits c.if-index-from.false) in
    at_stands table c.place-place.result (nat_abs (to_z w128 (of_z w128 m))) (c.place-place.ensures.stands table stands) (cast-le m row.count fits (lt-false m (pos 0) fits zero c.if-index-lt0.false) below)
