use Rattle.std.proofs.Common.{sym, ap, ◌∙◌}
use Rattle.ref_semantics.specs.Store.{is_dead_pointer}
use Rattle.ref_meaning.specs.RefStore.Views.{scalar_in}
use Rattle.ref_meaning.proofs.store.Store.is_dead_pointer.Goals as goal

pub returns-in-Pointer : goal.returns-in-Pointer
returns-in-Pointer c = λ around base state at.
    c.is_dead.ensures around base state at ∙ ap (λ v. is_dead_pointer state.objects (scalar_in c.args.self.now.types.now v)) (sym c.in-Pointer.is)

pub returns-in-Raw : goal.returns-in-Raw
returns-in-Raw c = λ around base state at.
    c.is_dead-in-Raw.ensures around base state at ∙ ap (λ v. is_dead_pointer state.objects (scalar_in c.args.self.now.types.now v)) (sym c.in-Raw.is)
