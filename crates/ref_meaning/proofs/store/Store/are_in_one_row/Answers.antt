use Rattle.std.proofs.Common.{◌∙◌}
use Rattle.ref_semantics.specs.Pointers.{is_one_row}
use Rattle.ref_meaning.proofs.store.Store.are_in_one_row.Goals as goal

pub returns : goal.returns
returns c = λ around base state at.
    c.is_one_row.ensures (c.as_typed.ensures.stands around base state at c.requires.a) (c.as_typed-2.ensures.stands around base state at c.requires.b)
    ∙ (λ i. is_one_row (c.as_typed.ensures.means around base state at i) (c.as_typed-2.ensures.means around base state at i))
