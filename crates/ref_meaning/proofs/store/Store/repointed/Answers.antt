use Rattle.std.proofs.Common.{sym, ap, ◌∙◌}
use Rattle.c_typed.specs.Table.{type_in}
use Rattle.ref_semantics.specs.Pointers.{repointed, retyped}
use Rattle.ref_meaning.specs.RefStore.Views.{place_in, scalar_in}
use Rattle.ref_meaning.specs.RefStore.Holding.{left}
use Rattle.ref_meaning.proofs.Giving.{comes-same}
use Rattle.ref_meaning.proofs.Allocations.{typed, repointed-dead, repointed-void, repointed-typed, repointed-other, repointed-same, gives-as}
use Rattle.ref_meaning.proofs.Wanting.{out_so, if_error, points_untyped}
use Rattle.ref_meaning.proofs.store.Store.repointed.Goals as goal

pub returns-then-is_dead_pointer-clause-gives : goal.returns-then-is_dead_pointer-clause-gives
returns-then-is_dead_pointer-clause-gives c = λ around base state at.
    let table = c.args.self.now.types.now in
    repointed-dead around c.args.here (type_in table c.args.target) (scalar_in table c.args.value) state (sym (c.is_dead_pointer.ensures around base state at) ∙ c.if-is_dead_pointer.true)

pub returns-then-is_like_void-clause-gives : goal.returns-then-is_like_void-clause-gives
returns-then-is_like_void-clause-gives c = λ around base state at.
    let store = c.args.self.now in
    let target = type_in store.types.now c.args.target in
    let value = scalar_in store.types.now c.args.value in
    comes-same around store base (repointed around c.args.here target value) state value
    (repointed-void around c.args.here target value state
    (sym (c.is_dead_pointer.ensures around base state at) ∙ c.if-is_dead_pointer.false) (sym (c.is_like_void.ensures around base state at) ∙ c.if-is_like_void.true)) at

pub returns-then-not-same-clause-gives : goal.returns-then-not-same-clause-gives
returns-then-not-same-clause-gives c = λ around base state at.
    let table = c.args.self.now.types.now in
    repointed-other around c.args.here (type_in table c.args.target) (scalar_in table c.args.value) state
    (sym (c.is_dead_pointer.ensures around base state at) ∙ c.if-is_dead_pointer.false) (sym (c.is_like_void.ensures around base state at) ∙ c.if-is_like_void.false)
    (place_in table c.in-Pointer.place) (ap (scalar_in table) c.in-Pointer.is) (sym c.same.ensures ∙ c.if-not-same.true)

pub returns-in-Raw-clause-gives : goal.returns-in-Raw-clause-gives
returns-in-Raw-clause-gives c = λ around base.
    let store = c.args.self.now in
    let table = store.types.now in
    let target = type_in table c.args.target in
    let value = scalar_in table c.args.value in
    gives-as around store c.of_allocation.new.self base (scalar_in table) (repointed around c.args.here target value) (typed around c.args.here target c.in-Raw.number) c.of_allocation.result
    (λ state at units input.
    repointed-typed around c.args.here target value state
    (sym (c.is_dead_pointer.ensures around base state at) ∙ c.if-is_dead_pointer.false) (sym (c.is_like_void.ensures around base state at) ∙ c.if-is_like_void.false) units input
    ∙ ap (λ v. retyped around c.args.here target (scalar_in table v) (left units input state)) c.in-Raw.is)
    (c.of_allocation.ensures.gives around base)

pub returns-else-not-same-clause-gives : goal.returns-else-not-same-clause-gives
returns-else-not-same-clause-gives c = λ around base state at.
    let store = c.args.self.now in
    let table = store.types.now in
    let target = type_in table c.args.target in
    let value = scalar_in table c.args.value in
    comes-same around store base (repointed around c.args.here target value) state value
    (repointed-same around c.args.here target value state
    (sym (c.is_dead_pointer.ensures around base state at) ∙ c.if-is_dead_pointer.false) (sym (c.is_like_void.ensures around base state at) ∙ c.if-is_like_void.false)
    (place_in table c.in-Pointer.place) (ap (scalar_in table) c.in-Pointer.is) (sym c.same.ensures ∙ c.if-not-same.false)) at

pub returns-in-Raw-clause-want : goal.returns-in-Raw-clause-want
returns-in-Raw-clause-want c = λ around base state at.
    let table = c.args.self.now.types.now in
    let target = type_in table c.args.target in
    if_error _ _ c.of_allocation.result
    (λ stop. out_so _ _ stop (λ gets. (
      sym (c.is_like_void.ensures around base state at) ∙ c.if-is_like_void.false,
      points_untyped around target state.objects (scalar_in table c.args.value) c.in-Raw.number (ap (scalar_in table) c.in-Raw.is) gets,
    )))
    (c.of_allocation.ensures.want around base state at)
