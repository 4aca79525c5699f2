use Rattle.std.proofs.Common.{◌∙◌, sym, ap}
use Rattle.ref_semantics.specs.Pointers.{as_typed}
use Rattle.ref_meaning.specs.RefStore.Views.{scalar_in}
use Rattle.ref_meaning.proofs.store.Store.as_typed.Goals as goal

pub returns-in-Raw-clause-means : goal.returns-in-Raw-clause-means
returns-in-Raw-clause-means c = λ around base state at.
    c.to_first.ensures.means around base state at ∙ ap (λ v. as_typed state.objects (scalar_in c.args.self.now.types.now v)) (sym c.in-Raw.is)

pub returns-in-Raw-clause-stands : goal.returns-in-Raw-clause-stands
returns-in-Raw-clause-stands c = λ around base state at stands. c.to_first.ensures.stands around base state at
