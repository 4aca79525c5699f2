use Rattle.std.proofs.Common.{◌≡◌, ◌+◌, Some, slice_get, ◌∙◌, ap, arith}
use Rattle.std.proofs.lemmas.Option.{slice_get_read}
use Rattle.ref_meaning.specs.RefStore.Views.{place_in}
use Rattle.ref_meaning.proofs.Found.{comes-there, comes-nowhere}
use Rattle.ref_meaning.proofs.store.Store.local.Goals as goal

pub returns-then-index-height-clause-gives : goal.returns-then-index-height-clause-gives
returns-then-index-height-clause-gives c = λ around state at.
    let items = c.args.self.now.locals.items in
    let own = c.index.result.now in
    let there : slice_get items c.saturating_add-index.result ≡ Some own =
    slice_get_read items c.height.result c.saturating_add-index.result own c.height.ensures c.if-index-height.true c.index.ensures in
    let number : c.args.base + c.args.number ≡ c.saturating_add-index.result = omega (arith, c.saturating_add-index.ensures, c.if-index-height.true, c.height.type_inv) in
    comes-there around c.args.self.now c.args.base state at c.args.number (place_in c.args.self.now.types.now c.named.result) own
    (ap (slice_get items) number ∙ there) (c.named.ensures.gives around c.args.base state at)

pub returns-then-index-height-clause-stands : goal.returns-then-index-height-clause-stands
returns-then-index-height-clause-stands c = λ around state at. c.named.ensures.stands around c.args.base state at

pub returns-else-index-height-clause-gives : goal.returns-else-index-height-clause-gives
returns-else-index-height-clause-gives c = λ around state at.
    comes-nowhere around c.args.self.now c.args.base state at c.args.number (place_in c.args.self.now.types.now c.named-else-index-height.result)
    (omega (arith, c.saturating_add-index.ensures, c.if-index-height.false, c.height.ensures)) (c.named-else-index-height.ensures.gives around c.args.base state at)

pub returns-else-index-height-clause-stands : goal.returns-else-index-height-clause-stands
returns-else-index-height-clause-stands c = λ around state at. c.named-else-index-height.ensures.stands around c.args.base state at

pub returns-then-index-height-clause-element : goal.returns-then-index-height-clause-element
returns-then-index-height-clause-element c = λ around state at. c.named.ensures.element around c.args.base state at

pub returns-else-index-height-clause-element : goal.returns-else-index-height-clause-element
returns-else-index-height-clause-element c = λ around state at. c.named-else-index-height.ensures.element around c.args.base state at
