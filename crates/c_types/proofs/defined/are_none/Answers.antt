use Rattle.std.proofs.Common.{◌==◌, length, sym, ap, ◌∙◌}
use Rattle.c_typed.specs.DefinitionViews.{all_first}
use Rattle.c_types.proofs.VariableNumbers.{some-left, some-scalar, some-text, not-none}
use Rattle.c_types.proofs.defined.are_none.Goals.{in-Scalar, in-Text}
use Rattle.c_types.proofs.defined.are_none.Goals as goal

pub returns-then-not-is_none : goal.returns-then-not-is_none
returns-then-not-is_none c =
    let firsts = c.args.first.now in
    not-none (length (all_first firsts))
    (some-left firsts firsts c.one-item.result c.loop-one.one-index c.loop-one-test.true c.one-item.is c.loop-one.invariant
    (elim c.match-one.branch [
      | in-Scalar w ↦ some-scalar c.one-item.result w.in-Scalar.field-0 w.in-Scalar.is
      | in-Text w ↦ some-text c.one-item.result w.in-Text.parts w.in-Text.int_type w.in-Text.bytes w.in-Text.is
          (ap (λ bytes. length bytes == 0) (sym w.as_slice.ensures) ∙ sym w.is_empty-is_none.ensures ∙ sym w.is_none-is ∙ c.if-not-is_none.true)
    ]))
