use Rattle.std.proofs.Common.{◌≡◌, Bool, true, false, not, nat_lt, Fits, w64, rules, refl, true≢false, sym, ap, subst, ◌∙◌}
use Rattle.std.proofs.lemmas.Bool.{ltb-true}
use Rattle.c_typed.specs.Table.{structs_in}
use Rattle.ref_semantics.specs.Values.{Place, is_end}
use Rattle.ref_semantics.specs.Pointers.{accessed}
use Rattle.ref_meaning.specs.RefStore.Holding.{EvaluatesTo}
use Rattle.ref_meaning.specs.RefStore.Views.{row_in, scalar_in}
use Rattle.ref_meaning.proofs.Fitting.{room_below}
use Rattle.ref_meaning.proofs.Giving.{comes-same}
use Rattle.ref_meaning.proofs.Pointing.{accessed-dead, accessed-null, accessed-end, accessed-there}
use Rattle.ref_meaning.proofs.store.Store.accessed.Goals as goal

pub returns-then-is_dead_pointer-clause-gives : goal.returns-then-is_dead_pointer-clause-gives
returns-then-is_dead_pointer-clause-gives c = λ around base state at.
    accessed-dead c.args.here (scalar_in c.args.self.now.types.now c.args.pointer) state (sym (c.is_dead_pointer.ensures around base state at) ∙ c.if-is_dead_pointer.true)

pub returns-then-is_null-clause-gives : goal.returns-then-is_null-clause-gives
returns-then-is_null-clause-gives c = λ around base state at.
    let table = c.args.self.now.types.now in
    accessed-null c.args.here (scalar_in table c.args.pointer) state
    (sym (c.is_dead_pointer.ensures around base state at) ∙ c.if-is_dead_pointer.false) (sym (c.is_null.ensures table) ∙ c.if-is_null.true)

pub returns-then-is_end-clause-gives : goal.returns-then-is_end-clause-gives
returns-then-is_end-clause-gives c = λ around base state at.
    let table = c.args.self.now.types.now in
    accessed-end c.args.here (scalar_in table c.args.pointer) state
    (sym (c.is_dead_pointer.ensures around base state at) ∙ c.if-is_dead_pointer.false) (sym (c.is_null.ensures table) ∙ c.if-is_null.false)
    (ap is_end (sym (c.place-place.ensures.means table)) ∙ (sym (c.is_end.ensures table) ∙ c.if-is_end.true))

pub returns-clause-gives : goal.returns-clause-gives
returns-clause-gives c = λ around base state at.
    let store = c.args.self.now in
    let table = store.types.now in
    let p = scalar_in table c.args.pointer in
    let is = sym (c.place-place.ensures.means table) in
    let does = accessed-there c.args.here p state
    (sym (c.is_dead_pointer.ensures around base state at) ∙ c.if-is_dead_pointer.false) (sym (c.is_null.ensures table) ∙ c.if-is_null.false)
    (ap is_end is ∙ (sym (c.is_end.ensures table) ∙ c.if-is_end.false)) in
    comes-same around store base (accessed c.args.here p) state _ (subst (λ (q : Place). EvaluatesTo (accessed c.args.here p) state q state) is does) at

pub returns-clause-stands : goal.returns-clause-stands
returns-clause-stands c = λ stands. c.place-place.ensures.stands c.args.self.now.types.now stands

pub returns-clause-element : goal.returns-clause-element
returns-clause-element c = λ stands.
    let table = c.args.self.now.types.now in
    let place = c.place-place.result in
    let small : Fits w64 place.row.count = search rules in
    room_below (structs_in table) (row_in table place.row) place.index (c.place-place.ensures.stands table stands).fits
    (ltb-true place.index place.row.count (before (nat_lt place.index place.row.count) (sym (c.is_end.ensures table) ∙ c.if-is_end.false))) small.fits
  where
    before : (b : Bool) → not b ≡ false → b ≡ true
    before true e = refl
    before false e = absurd (true≢false e)
