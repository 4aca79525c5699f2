use Rattle.std.proofs.Common.{◌≡◌, ◌∙◌, sym, ap, pos}
use Rattle.ref_semantics.specs.Values.{Place}
use Rattle.ref_semantics.specs.Pointers.{truth, truth_of_equality}
use Rattle.ref_meaning.specs.RefStore.Views.{scalar_in}
use Rattle.ref_meaning.proofs.Comparing.{or-first, or-second, or-neither, compared-dead, equality-beside, order-beside, equality-comes, order-comes, truth-of-unlike, truth-of-like, compared-as}
use Rattle.ref_meaning.proofs.store.Store.compared.Goals as goal
use Rattle.ref_meaning.proofs.store.Store.compared.Goals.{then-is_dead_pointer-via-then-is_dead_pointer, then-is_dead_pointer-via-else-is_dead_pointer+then-is_dead_pointer-2, then-eq, else-eq}

pub returns-then-is_dead_pointer-clause-gives : goal.returns-then-is_dead_pointer-clause-gives
returns-then-is_dead_pointer-clause-gives c = λ around base state at.
    let table = c.args.self.now.types.now in
    compared-dead around c.args.relation c.args.here (scalar_in table c.args.a) (scalar_in table c.args.b) state
    (elim c.then-is_dead_pointer.branch [
      | then-is_dead_pointer-via-then-is_dead_pointer w ↦ or-first _ _ (w.if-is_dead_pointer.ensures around base state at)
      | then-is_dead_pointer-via-else-is_dead_pointer+then-is_dead_pointer-2 w ↦ or-second _ _ (w.if-is_dead_pointer-2.ensures around base state at)
    ])

pub returns-then-is_end_beside-clause-gives : goal.returns-then-is_end_beside-clause-gives
returns-then-is_end_beside-clause-gives c = λ around base state at.
    let table = c.args.self.now.types.now in
    equality-beside around c.args.relation c.args.here (scalar_in table c.args.a) (scalar_in table c.args.b) state
    (or-neither _ _ (c.if-is_dead_pointer.ensures around base state at) (c.if-is_dead_pointer-2.ensures around base state at))
    c.if-is_equality.ensures (c.if-is_end_beside.ensures table)

pub returns-then-is_equality-clause-gives : goal.returns-then-is_equality-clause-gives
returns-then-is_equality-clause-gives c = λ around base state at.
    let table = c.args.self.now.types.now in
    let same = c.are_equal-same.ensures around at.structs in
    let told : truth_of_equality c.args.relation c.are_equal-same.result ≡ truth c.if-eq.truth = elim c.if-eq.branch [
      | then-eq w ↦ truth-of-unlike c.args.relation c.are_equal-same.result w.if-eq.ensures ∙ ap truth (sym w.truth-is)
      | else-eq w ↦ truth-of-like c.args.relation c.are_equal-same.result w.if-eq.ensures ∙ ap truth (sym w.truth-is)
    ] in
    equality-comes around c.args.self.now base c.args.relation c.args.here (scalar_in table c.args.a) (scalar_in table c.args.b) state _
    (or-neither _ _ (c.if-is_dead_pointer.ensures around base state at) (c.if-is_dead_pointer-2.ensures around base state at))
    c.if-is_equality.ensures (c.if-is_end_beside.ensures table) at
    (ap (truth_of_equality c.args.relation) (sym same) ∙ told ∙ sym (c.truth.ensures.means table))

pub returns-then-is_equality-clause-stands : goal.returns-then-is_equality-clause-stands
returns-then-is_equality-clause-stands c = c.truth.ensures.stands c.args.self.now.types.now

pub returns-then-not-are_in_one_row-clause-gives : goal.returns-then-not-are_in_one_row-clause-gives
returns-then-not-are_in_one_row-clause-gives c = λ around base state at.
    let table = c.args.self.now.types.now in
    order-beside around c.args.relation c.args.here (scalar_in table c.args.a) (scalar_in table c.args.b) state
    (or-neither _ _ (c.if-is_dead_pointer.ensures around base state at) (c.if-is_dead_pointer-2.ensures around base state at))
    c.if-is_equality.ensures (c.if-not-are_in_one_row.ensures around base state at)

pub returns-clause-gives : goal.returns-clause-gives
returns-clause-gives c = λ around base state at.
    let table = c.args.self.now.types.now in
    let index_a = sym (ap (λ (p : Place). pos p.index) (c.place.ensures.means table)) ∙ sym c.from-a.ensures in
    let index_b = sym (ap (λ (p : Place). pos p.index) (c.place-2.ensures.means table)) ∙ sym c.from-b.ensures in
    order-comes around c.args.self.now base c.args.relation c.args.here (scalar_in table c.args.a) (scalar_in table c.args.b) state _
    (or-neither _ _ (c.if-is_dead_pointer.ensures around base state at) (c.if-is_dead_pointer-2.ensures around base state at))
    c.if-is_equality.ensures (c.if-not-are_in_one_row.ensures around base state at) at
    (ap truth (compared-as c.args.relation _ _ c.from-a.result c.from-b.result c.compare.result c.from-a.type_inv c.from-b.type_inv index_a index_b c.compare.ensures.value) ∙ sym (c.truth-2.ensures.means table))

pub returns-clause-stands : goal.returns-clause-stands
returns-clause-stands c = c.truth-2.ensures.stands c.args.self.now.types.now
