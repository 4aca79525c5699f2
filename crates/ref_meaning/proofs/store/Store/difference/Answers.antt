use Rattle.std.proofs.Common.{◌∙◌, sym, ap, pos}
use Rattle.c_num.specs.declared.IntType.TheVariants as I
use Rattle.c_num.specs.Types.{is_value}
use Rattle.ref_semantics.specs.Values.{IntegerValue, Place, place_of}
use Rattle.ref_meaning.specs.RefStore.Views.{scalar_in}
use Rattle.ref_meaning.proofs.Comparing.{or-first, or-second, or-neither, difference-dead, difference-apart, difference-far, difference-comes, subtracted-as}
use Rattle.ref_meaning.proofs.store.Store.difference.Goals as goal
use Rattle.ref_meaning.proofs.store.Store.difference.Goals.{then-is_dead_pointer-via-then-is_dead_pointer, then-is_dead_pointer-via-else-is_dead_pointer+then-is_dead_pointer-2}

pub returns-then-is_dead_pointer-clause-gives : goal.returns-then-is_dead_pointer-clause-gives
returns-then-is_dead_pointer-clause-gives c = λ around base state at.
    let table = c.args.self.now.types.now in
    difference-dead c.args.here (scalar_in table c.args.a) (scalar_in table c.args.b) state
    (elim c.then-is_dead_pointer.branch [
      | then-is_dead_pointer-via-then-is_dead_pointer w ↦ or-first _ _ (w.if-is_dead_pointer.ensures around base state at)
      | then-is_dead_pointer-via-else-is_dead_pointer+then-is_dead_pointer-2 w ↦ or-second _ _ (w.if-is_dead_pointer-2.ensures around base state at)
    ])

pub returns-then-not-are_in_one_row-clause-gives : goal.returns-then-not-are_in_one_row-clause-gives
returns-then-not-are_in_one_row-clause-gives c = λ around base state at.
    let table = c.args.self.now.types.now in
    difference-apart c.args.here (scalar_in table c.args.a) (scalar_in table c.args.b) state
    (or-neither _ _ (c.if-is_dead_pointer.ensures around base state at) (c.if-is_dead_pointer-2.ensures around base state at))
    (c.if-not-are_in_one_row.ensures around base state at)

pub returns-then-not-is_long-clause-gives : goal.returns-then-not-is_long-clause-gives
returns-then-not-is_long-clause-gives c = λ around base state at.
    let table = c.args.self.now.types.now in
    let a = scalar_in table c.args.a in
    let b = scalar_in table c.args.b in
    let index_a = sym (ap (λ (p : Place). pos p.index) (c.place.ensures.means table)) ∙ sym c.from-a.ensures in
    let index_b = sym (ap (λ (p : Place). pos p.index) (c.place-2.ensures.means table)) ∙ sym c.from-b.ensures in
    let between = subtracted-as (place_of a).index (place_of b).index c.from-a.result c.from-b.result c.from-a.type_inv c.from-b.type_inv index_a index_b in
    difference-far c.args.here a b state
    (or-neither _ _ (c.if-is_dead_pointer.ensures around base state at) (c.if-is_dead_pointer-2.ensures around base state at))
    (c.if-not-are_in_one_row.ensures around base state at)
    (ap (is_value I.Long) between ∙ (sym c.is_long.ensures ∙ c.if-not-is_long.true))

pub returns-clause-gives : goal.returns-clause-gives
returns-clause-gives c = λ around base state at.
    let table = c.args.self.now.types.now in
    let a = scalar_in table c.args.a in
    let b = scalar_in table c.args.b in
    let index_a = sym (ap (λ (p : Place). pos p.index) (c.place.ensures.means table)) ∙ sym c.from-a.ensures in
    let index_b = sym (ap (λ (p : Place). pos p.index) (c.place-2.ensures.means table)) ∙ sym c.from-b.ensures in
    let between = subtracted-as (place_of a).index (place_of b).index c.from-a.result c.from-b.result c.from-a.type_inv c.from-b.type_inv index_a index_b in
    difference-comes around c.args.self.now base c.args.here a b state _
    (or-neither _ _ (c.if-is_dead_pointer.ensures around base state at) (c.if-is_dead_pointer-2.ensures around base state at))
    (c.if-not-are_in_one_row.ensures around base state at)
    (ap (is_value I.Long) between ∙ (sym c.is_long.ensures ∙ c.if-not-is_long.false)) at
    (ap IntegerValue between)
