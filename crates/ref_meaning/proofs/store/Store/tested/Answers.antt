use Rattle.std.proofs.Common.{not, sym, ap, subst, ◌∙◌}
use Rattle.ref_semantics.specs.Values.{Scalar}
use Rattle.ref_semantics.specs.Pointers.{tested, truth}
use Rattle.ref_meaning.specs.RefStore.Holding.{EvaluatesTo}
use Rattle.ref_meaning.specs.RefStore.Views.{scalar_in}
use Rattle.ref_meaning.proofs.Giving.{comes-same}
use Rattle.ref_meaning.proofs.Pointing.{tested-dead, tested-there}
use Rattle.ref_meaning.proofs.store.Store.tested.Goals as goal

pub returns-then-is_dead_pointer-clause-gives : goal.returns-then-is_dead_pointer-clause-gives
returns-then-is_dead_pointer-clause-gives c = λ around base state at.
    tested-dead c.args.here (scalar_in c.args.self.now.types.now c.args.value) state (sym (c.is_dead_pointer.ensures around base state at) ∙ c.if-is_dead_pointer.true)

pub returns-clause-gives : goal.returns-clause-gives
returns-clause-gives c = λ around base state at.
    let store = c.args.self.now in
    let table = store.types.now in
    let p = scalar_in table c.args.value in
    let does = tested-there c.args.here p state (sym (c.is_dead_pointer.ensures around base state at) ∙ c.if-is_dead_pointer.false) in
    let is = ap (λ b. truth (not b)) (sym (c.is_null.ensures table)) ∙ sym (c.truth.ensures.means table) in
    comes-same around store base (tested c.args.here p) state _ (subst (λ (v : Scalar). EvaluatesTo (tested c.args.here p) state v state) is does) at

pub returns-clause-stands : goal.returns-clause-stands
returns-clause-stands c = c.truth.ensures.stands c.args.self.now.types.now
