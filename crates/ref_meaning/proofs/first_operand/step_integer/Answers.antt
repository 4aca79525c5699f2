use Rattle.std.proofs.Common.{Ok, Err}
use Rattle.ref_semantics.specs.Parts.{step_integer}
use Rattle.ref_meaning.specs.RefStore.Views.{place_in, scalar_in}
use Rattle.ref_meaning.proofs.Both.{gives-handed}
use Rattle.ref_meaning.proofs.Stepping.{writes-comes, writes-stops, integer-gives, integer-stops, integer-unread}
use Rattle.ref_meaning.proofs.first_operand.step_integer.Goals as goal

pub returns-in_err-old-clause-gives : goal.returns-in_err-old-clause-gives
returns-in_err-old-clause-gives c = λ around base.
    let store = c.args.store.now in
    let table = store.types.now in
    let stop = c.in_err-old.field-0.0 in
    gives-handed around store store base (scalar_in table) (step_integer around c.args.stepping c.args.here c.args.int_type (place_in table c.args.place)) stop c.from_residual.result c.from_residual.ensures.1
    (integer-unread around base store store c.args.stepping c.args.here c.args.place c.args.int_type stop (c.in_err-old.ensures.gives around base))

pub returns-in_err-sum-clause-gives : goal.returns-in_err-sum-clause-gives
returns-in_err-sum-clause-gives c = λ around base.
    let store = c.args.store.now in
    let table = store.types.now in
    let stop = c.in_err-sum.field-0.0 in
    gives-handed around store store base (scalar_in table) (step_integer around c.args.stepping c.args.here c.args.int_type (place_in table c.args.place)) stop c.from_residual-in_err-sum.result c.from_residual-in_err-sum.ensures.1
    (integer-stops around base store store c.args.stepping c.args.here c.args.place c.args.int_type c.operator.result c.common-working.result c.in_ok-old.old c.converted-left.result c.operator.ensures c.common-working.ensures.value (c.converted-left.ensures.means table) stop (c.in_ok-old.ensures.gives around base) (c.in_err-sum.ensures.gives around store base))

pub write-requires-clause-value : goal.write-requires-clause-value
write-requires-clause-value c = c.converted-new.ensures.stands c.args.store.now.types.now

pub returns-in_err-write-clause-gives : goal.returns-in_err-write-clause-gives
returns-in_err-write-clause-gives c = λ around base.
    let store = c.args.store.now in
    let table = store.types.now in
    let stop = c.in_err-write.field-0.0 in
    gives-handed around store c.write.new.self base (scalar_in table) (step_integer around c.args.stepping c.args.here c.args.int_type (place_in table c.args.place)) stop c.from_residual-in_err-write.result c.from_residual-in_err-write.ensures.1
    (integer-gives around base store c.write.new.self c.args.stepping c.args.here c.args.place c.args.int_type c.operator.result c.common-working.result c.in_ok-old.old c.converted-left.result c.operator.ensures c.common-working.ensures.value (c.converted-left.ensures.means table)
    c.in_ok-sum.sum c.converted-new.result (Err stop) (c.converted-new.ensures.means table) (c.in_ok-old.ensures.gives around base) (c.in_ok-sum.ensures.gives around store base)
    (writes-stops around base store c.write.new.self c.args.stepping c.args.here c.args.place (λ (done : Unit {0}). scalar_in table c.converted-new.result) c.in_ok-old.old c.converted-new.result stop (c.in_err-write.ensures.gives around base)))

pub returns-clause-gives : goal.returns-clause-gives
returns-clause-gives c = λ around base.
    let store = c.args.store.now in
    let table = store.types.now in
    integer-gives around base store c.write.new.self c.args.stepping c.args.here c.args.place c.args.int_type c.operator.result c.common-working.result c.in_ok-old.old c.converted-left.result c.operator.ensures c.common-working.ensures.value (c.converted-left.ensures.means table)
    c.in_ok-sum.sum c.converted-new.result (Ok c.stepped.result) (c.converted-new.ensures.means table) (c.in_ok-old.ensures.gives around base) (c.in_ok-sum.ensures.gives around store base)
    (writes-comes around base store c.write.new.self c.args.stepping c.args.here c.args.place c.in_ok-old.old c.converted-new.result c.stepped.result (c.stepped.ensures.means table) (c.in_ok-write.ensures.gives around base))

pub returns-clause-stands : goal.returns-clause-stands
returns-clause-stands c =
    let store = c.args.store.now in
    let table = store.types.now in
    c.stepped.ensures.stands table (c.in_ok-old.ensures.stands c.requires.store.around c.requires.store.base c.requires.store.state c.requires.store.at) (c.converted-new.ensures.stands table)
