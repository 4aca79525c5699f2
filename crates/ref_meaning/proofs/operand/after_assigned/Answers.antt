use Rattle.std.proofs.Common.{Ok, Err, FitsSigned, to_z-of_z, refl, sym, subst, ◌∙◌}
use Rattle.std.specs.Int.{w128}
use Rattle.c_typed.specs.Views.{value_in}
use Rattle.ref_semantics.specs.Values.{integer_of}
use Rattle.ref_semantics.specs.Meaning.{converted}
use Rattle.ref_semantics.specs.Parts.{value_of_both}
use Rattle.ref_meaning.specs.RefStore.Views.{scalar_in}
use Rattle.ref_meaning.specs.RefStore.Holding.{CallGives}
use Rattle.ref_meaning.proofs.Both.{gives-handed, read-stopped, written, write-stopped, operated, operator-stopped, operator-then, moved, move-stopped, move-then}
use Rattle.ref_meaning.proofs.operand.after_assigned.Goals as goal

pub returns-in_err-write-in-Assign-clause-gives : goal.returns-in_err-write-in-Assign-clause-gives
returns-in_err-write-in-Assign-clause-gives c = λ around base is.
    let store = c.args.store.now in
    let table = store.types.now in
    let a = scalar_in table c.args.first in
    let b = scalar_in table c.args.second in
    let stop = c.in_err-write-in-Assign.field-0.0 in
    gives-handed around store c.write.new.self base (scalar_in table) (value_of_both around (value_in table c.args.value.now) a b) stop c.from_residual.result c.from_residual.ensures.1
    (subst (λ v. CallGives around store c.write.new.self base (scalar_in table) (value_of_both around (value_in table v) a b) (Err stop)) (sym c.in-Assign.is)
    (write-stopped around store c.write.new.self base table c.in-Assign.place a c.place-object.result (c.place-object.ensures.means table) (Unit {0}) c.args.second b stop refl (c.in_err-write-in-Assign.ensures.gives around base)))

pub returns-in_err-old-in-AssignArithmetic-clause-gives : goal.returns-in_err-old-in-AssignArithmetic-clause-gives
returns-in_err-old-in-AssignArithmetic-clause-gives c = λ around base is.
    let store = c.args.store.now in
    let table = store.types.now in
    let a = scalar_in table c.args.first in
    let b = scalar_in table c.args.second in
    let stop = c.in_err-old-in-AssignArithmetic.field-0.0 in
    gives-handed around store store base (scalar_in table) (value_of_both around (value_in table c.args.value.now) a b) stop c.from_residual-in_err-old-in-AssignArithmetic.result c.from_residual-in_err-old-in-AssignArithmetic.ensures.1
    (subst (λ v. CallGives around store store base (scalar_in table) (value_of_both around (value_in table v) a b) (Err stop)) (sym c.in-AssignArithmetic.is)
    (read-stopped around store store base table c.in-AssignArithmetic.place a c.place-object.result (c.place-object.ensures.means table) (scalar_in table) (operated around store store base table c.in-AssignArithmetic.place a c.place-object.result (c.place-object.ensures.means table) c.in-AssignArithmetic.op c.in-AssignArithmetic.int_type c.in-AssignArithmetic.object_type b) stop (c.in_err-old-in-AssignArithmetic.ensures.gives around base)))

pub returns-in_err-new-in-AssignArithmetic-clause-gives : goal.returns-in_err-new-in-AssignArithmetic-clause-gives
returns-in_err-new-in-AssignArithmetic-clause-gives c = λ around base is.
    let store = c.args.store.now in
    let table = store.types.now in
    let a = scalar_in table c.args.first in
    let b = scalar_in table c.args.second in
    let stop = c.in_err-new-in-AssignArithmetic.field-0.0 in
    gives-handed around store store base (scalar_in table) (value_of_both around (value_in table c.args.value.now) a b) stop c.from_residual-in_err-new-in-AssignArithmetic.result c.from_residual-in_err-new-in-AssignArithmetic.ensures.1
    (subst (λ v. CallGives around store store base (scalar_in table) (value_of_both around (value_in table v) a b) (Err stop)) (sym c.in-AssignArithmetic.is)
    (operator-stopped around store store base table c.in-AssignArithmetic.place a c.place-object.result (c.place-object.ensures.means table) c.in-AssignArithmetic.op c.in-AssignArithmetic.int_type c.in-AssignArithmetic.object_type b c.in_ok-old-in-AssignArithmetic.old c.converted-old.result (c.converted-old.ensures.means table) stop (c.in_ok-old-in-AssignArithmetic.ensures.gives around base) (c.in_err-new-in-AssignArithmetic.ensures.gives around store base)))

pub returns-in_err-write-in-AssignArithmetic-clause-gives : goal.returns-in_err-write-in-AssignArithmetic-clause-gives
returns-in_err-write-in-AssignArithmetic-clause-gives c = λ around base is.
    let store = c.args.store.now in
    let table = store.types.now in
    let a = scalar_in table c.args.first in
    let b = scalar_in table c.args.second in
    let stop = c.in_err-write-in-AssignArithmetic.field-0.0 in
    gives-handed around store c.write-in-AssignArithmetic.new.self base (scalar_in table) (value_of_both around (value_in table c.args.value.now) a b) stop c.from_residual-in_err-write-in-AssignArithmetic.result c.from_residual-in_err-write-in-AssignArithmetic.ensures.1
    (subst (λ v. CallGives around store c.write-in-AssignArithmetic.new.self base (scalar_in table) (value_of_both around (value_in table v) a b) (Err stop)) (sym c.in-AssignArithmetic.is)
    (operator-then around store c.write-in-AssignArithmetic.new.self base table c.in-AssignArithmetic.place a c.place-object.result (c.place-object.ensures.means table) c.in-AssignArithmetic.op c.in-AssignArithmetic.int_type c.in-AssignArithmetic.object_type b c.in_ok-old-in-AssignArithmetic.old c.converted-old.result (c.converted-old.ensures.means table) c.in_ok-new-in-AssignArithmetic.new (Err stop) (c.in_ok-old-in-AssignArithmetic.ensures.gives around base) (c.in_ok-new-in-AssignArithmetic.ensures.gives around store base)
    (write-stopped around store c.write-in-AssignArithmetic.new.self base table c.in-AssignArithmetic.place a c.place-object.result (c.place-object.ensures.means table) (Unit {0}) c.converted-new.result (converted c.in-AssignArithmetic.object_type (scalar_in table c.in_ok-new-in-AssignArithmetic.new)) stop (c.converted-new.ensures.means table) (c.in_err-write-in-AssignArithmetic.ensures.gives around base))))

pub returns-in_err-old-in-AssignMoved-clause-gives : goal.returns-in_err-old-in-AssignMoved-clause-gives
returns-in_err-old-in-AssignMoved-clause-gives c = λ around base is.
    let store = c.args.store.now in
    let table = store.types.now in
    let a = scalar_in table c.args.first in
    let b = scalar_in table c.args.second in
    let stop = c.in_err-old-in-AssignMoved.field-0.0 in
    gives-handed around store store base (scalar_in table) (value_of_both around (value_in table c.args.value.now) a b) stop c.from_residual-in_err-old-in-AssignMoved.result c.from_residual-in_err-old-in-AssignMoved.ensures.1
    (subst (λ v. CallGives around store store base (scalar_in table) (value_of_both around (value_in table v) a b) (Err stop)) (sym c.in-AssignMoved.is)
    (read-stopped around store store base table c.in-AssignMoved.place a c.place-object.result (c.place-object.ensures.means table) (scalar_in table) (moved around store store base table c.in-AssignMoved.place a c.place-object.result (c.place-object.ensures.means table) c.in-AssignMoved.is_minus (integer_of b)) stop (c.in_err-old-in-AssignMoved.ensures.gives around base)))

pub returns-in_err-new-in-AssignMoved-clause-gives : goal.returns-in_err-new-in-AssignMoved-clause-gives
returns-in_err-new-in-AssignMoved-clause-gives c = λ around base is.
    let store = c.args.store.now in
    let table = store.types.now in
    let a = scalar_in table c.args.first in
    let b = scalar_in table c.args.second in
    let stop = c.in_err-new-in-AssignMoved.field-0.0 in
    gives-handed around store store base (scalar_in table) (value_of_both around (value_in table c.args.value.now) a b) stop c.from_residual-in_err-new-in-AssignMoved.result c.from_residual-in_err-new-in-AssignMoved.ensures.1
    (subst (λ v. CallGives around store store base (scalar_in table) (value_of_both around (value_in table v) a b) (Err stop)) (sym c.in-AssignMoved.is)
    (let fits : FitsSigned w128 c.integer.result = record { sfits = c.integer.type_inv } in let number = to_z-of_z fits ∙ c.integer.ensures table in move-stopped around store store base table c.in-AssignMoved.place a c.place-object.result (c.place-object.ensures.means table) c.in-AssignMoved.is_minus (integer_of b) _ c.in_ok-old-in-AssignMoved.old number stop (c.in_ok-old-in-AssignMoved.ensures.gives around base) (c.in_err-new-in-AssignMoved.ensures.gives around base)))

pub write-requires-in-AssignMoved-clause-value : goal.write-requires-in-AssignMoved-clause-value
write-requires-in-AssignMoved-clause-value c = c.in_ok-new-in-AssignMoved.ensures.stands (c.in_ok-old-in-AssignMoved.ensures.stands c.requires.store.around c.requires.store.base c.requires.store.state c.requires.store.at)

pub returns-in_err-write-in-AssignMoved-clause-gives : goal.returns-in_err-write-in-AssignMoved-clause-gives
returns-in_err-write-in-AssignMoved-clause-gives c = λ around base is.
    let store = c.args.store.now in
    let table = store.types.now in
    let a = scalar_in table c.args.first in
    let b = scalar_in table c.args.second in
    let stop = c.in_err-write-in-AssignMoved.field-0.0 in
    gives-handed around store c.write-in-AssignMoved.new.self base (scalar_in table) (value_of_both around (value_in table c.args.value.now) a b) stop c.from_residual-in_err-write-in-AssignMoved.result c.from_residual-in_err-write-in-AssignMoved.ensures.1
    (subst (λ v. CallGives around store c.write-in-AssignMoved.new.self base (scalar_in table) (value_of_both around (value_in table v) a b) (Err stop)) (sym c.in-AssignMoved.is)
    (let fits : FitsSigned w128 c.integer.result = record { sfits = c.integer.type_inv } in let number = to_z-of_z fits ∙ c.integer.ensures table in move-then around store c.write-in-AssignMoved.new.self base table c.in-AssignMoved.place a c.place-object.result (c.place-object.ensures.means table) c.in-AssignMoved.is_minus (integer_of b) _ c.in_ok-old-in-AssignMoved.old number c.in_ok-new-in-AssignMoved.new (Err stop) (c.in_ok-old-in-AssignMoved.ensures.gives around base) (c.in_ok-new-in-AssignMoved.ensures.gives around base)
    (write-stopped around store c.write-in-AssignMoved.new.self base table c.in-AssignMoved.place a c.place-object.result (c.place-object.ensures.means table) (Unit {0}) c.in_ok-new-in-AssignMoved.new (scalar_in table c.in_ok-new-in-AssignMoved.new) stop refl (c.in_err-write-in-AssignMoved.ensures.gives around base))))

pub returns-in_ok-write-in-AssignArithmetic-clause-gives : goal.returns-in_ok-write-in-AssignArithmetic-clause-gives
returns-in_ok-write-in-AssignArithmetic-clause-gives c = λ around base is.
    let store = c.args.store.now in
    let table = store.types.now in
    let a = scalar_in table c.args.first in
    let b = scalar_in table c.args.second in
    subst (λ v. CallGives around store c.write-in-AssignArithmetic.new.self base (scalar_in table) (value_of_both around (value_in table v) a b) (Ok c.converted-new.result)) (sym c.in-AssignArithmetic.is)
    (operator-then around store c.write-in-AssignArithmetic.new.self base table c.in-AssignArithmetic.place a c.place-object.result (c.place-object.ensures.means table) c.in-AssignArithmetic.op c.in-AssignArithmetic.int_type c.in-AssignArithmetic.object_type b c.in_ok-old-in-AssignArithmetic.old c.converted-old.result (c.converted-old.ensures.means table) c.in_ok-new-in-AssignArithmetic.new (Ok c.converted-new.result) (c.in_ok-old-in-AssignArithmetic.ensures.gives around base) (c.in_ok-new-in-AssignArithmetic.ensures.gives around store base)
    (written around store c.write-in-AssignArithmetic.new.self base table c.in-AssignArithmetic.place a c.place-object.result (c.place-object.ensures.means table) {D = Unit {0}} c.converted-new.result tt (converted c.in-AssignArithmetic.object_type (scalar_in table c.in_ok-new-in-AssignArithmetic.new)) (c.converted-new.ensures.means table) (c.in_ok-write-in-AssignArithmetic.ensures.gives around base)))

pub returns-in_ok-write-in-AssignMoved-clause-gives : goal.returns-in_ok-write-in-AssignMoved-clause-gives
returns-in_ok-write-in-AssignMoved-clause-gives c = λ around base is.
    let store = c.args.store.now in
    let table = store.types.now in
    let a = scalar_in table c.args.first in
    let b = scalar_in table c.args.second in
    subst (λ v. CallGives around store c.write-in-AssignMoved.new.self base (scalar_in table) (value_of_both around (value_in table v) a b) (Ok c.in_ok-new-in-AssignMoved.new)) (sym c.in-AssignMoved.is)
    (let fits : FitsSigned w128 c.integer.result = record { sfits = c.integer.type_inv } in let number = to_z-of_z fits ∙ c.integer.ensures table in move-then around store c.write-in-AssignMoved.new.self base table c.in-AssignMoved.place a c.place-object.result (c.place-object.ensures.means table) c.in-AssignMoved.is_minus (integer_of b) _ c.in_ok-old-in-AssignMoved.old number c.in_ok-new-in-AssignMoved.new (Ok c.in_ok-new-in-AssignMoved.new) (c.in_ok-old-in-AssignMoved.ensures.gives around base) (c.in_ok-new-in-AssignMoved.ensures.gives around base)
    (written around store c.write-in-AssignMoved.new.self base table c.in-AssignMoved.place a c.place-object.result (c.place-object.ensures.means table) {D = Unit {0}} c.in_ok-new-in-AssignMoved.new tt (scalar_in table c.in_ok-new-in-AssignMoved.new) refl (c.in_ok-write-in-AssignMoved.ensures.gives around base)))

pub returns-in_ok-write-in-AssignMoved-clause-stands : goal.returns-in_ok-write-in-AssignMoved-clause-stands
returns-in_ok-write-in-AssignMoved-clause-stands c = c.in_ok-new-in-AssignMoved.ensures.stands (c.in_ok-old-in-AssignMoved.ensures.stands c.requires.store.around c.requires.store.base c.requires.store.state c.requires.store.at)
