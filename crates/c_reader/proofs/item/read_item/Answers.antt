use Rattle.std.proofs.Common.{arith, refl}
use Rattle.std.proofs.lemmas.Result.{err_from_is_err_and}
use Rattle.c_syntax.specs.Views as views
use Rattle.c_reader.specs.Shapes as shapes
use Rattle.c_reader.proofs.Reaching as Rows
use Rattle.c_reader.specs.ItemForms as items
use Rattle.c_reader.proofs.ItemRows as steps
use Rattle.c_reader.specs.declared.syntax_err.SyntaxErr.TheVariants.{At}
use Rattle.c_reader.proofs.item.read_item.Goals as goal

pub loop-kind-init : goal.loop-kind-init
loop-kind-init c =
    record { stored = steps.stored_none; within = omega arith }

pub returns-in_err-kind-clause-gives : goal.returns-in_err-kind-clause-gives
returns-in_err-kind-clause-gives c =
    let p = err_from_is_err_and c.from_residual.result c.from_residual.ensures.1 in
    rw (p.1, p.2) (steps.stored_fails _ c.loop-kind.invariant.stored (Rows.empty_fails _ _ _ _ c.in_err-kind.ensures.none c.in_err-kind.ensures.misfit))

pub loop-kind-smaller : goal.loop-kind-smaller
loop-kind-smaller c =
    omega (arith, c.in_ok-word-in-Some-Storage.ensures.shorter)

pub loop-kind-preserved : goal.loop-kind-preserved
loop-kind-preserved c =
    record { stored = steps.stored_word c.loop-kind.invariant.stored c.in_ok-kind.ensures.found (Rows.tells_at (items.item_form _) c.in-Some-Storage.ensures c.in-Some-Storage.field-0-is) c.in_ok-word-in-Some-Storage.ensures.found; within = omega (arith, c.loop-kind.invariant.within, c.in_ok-word-in-Some-Storage.ensures.shorter) }

pub returns-in-Some-Struct-clause-gives : goal.returns-in-Some-Struct-clause-gives
returns-in-Some-Struct-clause-gives c =
    steps.stored_gives _ c.loop-kind.invariant.stored (Rows.whole_gives shapes.item_of views.item_tree _ record { kind = _; begins = c.in_ok-kind.ensures.found; tells = Rows.tells_at (items.item_form _) c.in-Some-Struct.ensures c.in-Some-Struct.field-0-is; fits = omega arith; down = omega arith; ends = record { ends = λ own kind. refl } } c.read_struct_item.ensures.gives)

pub returns-in-Some-Struct-clause-shorter : goal.returns-in-Some-Struct-clause-shorter
returns-in-Some-Struct-clause-shorter c =
    steps.less_rest _ c.loop-kind.invariant.within c.read_struct_item.ensures.shorter

pub returns-in_err-has_room-in-Some-Typed-clause-gives : goal.returns-in_err-has_room-in-Some-Typed-clause-gives
returns-in_err-has_room-in-Some-Typed-clause-gives c =
    let p = err_from_is_err_and c.from_residual-in_err-has_room-in-Some-Typed.result c.from_residual-in_err-has_room-in-Some-Typed.ensures.1 in
    rw (p.1, p.2) (steps.stored_fails _ c.loop-kind.invariant.stored (Rows.deep_fails _ c.in_ok-kind.ensures.found (Rows.tells_at (items.item_form _) c.in-Some-Typed.ensures c.in-Some-Typed.field-0-is) c.in_err-has_room-in-Some-Typed.ensures.none c.in_err-has_room-in-Some-Typed.ensures.deep))

pub returns-in-Some-Typed-clause-gives : goal.returns-in-Some-Typed-clause-gives
returns-in-Some-Typed-clause-gives c =
    steps.stored_gives _ c.loop-kind.invariant.stored (Rows.whole_gives shapes.item_of views.item_tree _ record { kind = _; begins = c.in_ok-kind.ensures.found; tells = Rows.tells_at (items.item_form _) c.in-Some-Typed.ensures c.in-Some-Typed.field-0-is; fits = c.in_ok-has_room-in-Some-Typed.ensures.fits; down = omega arith; ends = record { ends = λ own kind. refl } } c.read_typed_item.ensures.gives)

pub returns-in-Some-Typed-clause-shorter : goal.returns-in-Some-Typed-clause-shorter
returns-in-Some-Typed-clause-shorter c =
    steps.less_rest _ c.loop-kind.invariant.within c.read_typed_item.ensures.shorter

pub returns-in-None-clause-gives : goal.returns-in-None-clause-gives
returns-in-None-clause-gives c =
    steps.stored_fails (At _) c.loop-kind.invariant.stored (Rows.none_fails _ _ c.in_ok-kind.ensures.found c.in-None.ensures c.first_place.ensures)
