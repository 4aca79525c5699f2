use Rattle.std.proofs.Common.{if◌then◌else◌, Ok, Err, neg_ℤ, pos}
use Rattle.ref_semantics.specs.Parts.{step_pointer}
use Rattle.ref_meaning.specs.RefStore.Views.{place_in, scalar_in}
use Rattle.ref_meaning.proofs.Both.{gives-handed}
use Rattle.ref_meaning.proofs.Stepping.{writes-comes, writes-stops, pointer-gives, pointer-stops, pointer-unread}
use Rattle.ref_meaning.proofs.first_operand.step_pointer.Goals as goal

pub returns-in_err-old-clause-gives : goal.returns-in_err-old-clause-gives
returns-in_err-old-clause-gives c = λ around base.
    let store = c.args.store.now in
    let table = store.types.now in
    let stop = c.in_err-old.field-0.0 in
    gives-handed around store store base (scalar_in table) (step_pointer around c.args.stepping c.args.here (place_in table c.args.place)) stop c.from_residual.result c.from_residual.ensures.1
    (pointer-unread around base store store c.args.stepping c.args.here c.args.place stop (c.in_err-old.ensures.gives around base))

pub returns-in_err-new-clause-gives : goal.returns-in_err-new-clause-gives
returns-in_err-new-clause-gives c = λ around base.
    let store = c.args.store.now in
    let table = store.types.now in
    let stop = c.in_err-new.field-0.0 in
    gives-handed around store store base (scalar_in table) (step_pointer around c.args.stepping c.args.here (place_in table c.args.place)) stop c.from_residual-in_err-new.result c.from_residual-in_err-new.ensures.1
    (pointer-stops around base store store c.args.stepping c.args.here c.args.place c.in_ok-old.old (if c.is_minus.result then neg_ℤ (pos 1) else pos 1) c.is_minus.ensures stop (c.in_ok-old.ensures.gives around base) (c.in_err-new.ensures.gives around base))

pub write-requires-clause-value : goal.write-requires-clause-value
write-requires-clause-value c = c.in_ok-new.ensures.stands (c.in_ok-old.ensures.stands c.requires.store.around c.requires.store.base c.requires.store.state c.requires.store.at)

pub returns-in_err-write-clause-gives : goal.returns-in_err-write-clause-gives
returns-in_err-write-clause-gives c = λ around base.
    let store = c.args.store.now in
    let table = store.types.now in
    let stop = c.in_err-write.field-0.0 in
    gives-handed around store c.write.new.self base (scalar_in table) (step_pointer around c.args.stepping c.args.here (place_in table c.args.place)) stop c.from_residual-in_err-write.result c.from_residual-in_err-write.ensures.1
    (pointer-gives around base store c.write.new.self c.args.stepping c.args.here c.args.place c.in_ok-old.old (if c.is_minus.result then neg_ℤ (pos 1) else pos 1) c.is_minus.ensures
    c.in_ok-new.new (Err stop) (c.in_ok-old.ensures.gives around base) (c.in_ok-new.ensures.gives around base)
    (writes-stops around base store c.write.new.self c.args.stepping c.args.here c.args.place (λ (done : Unit {0}). scalar_in table c.in_ok-new.new) c.in_ok-old.old c.in_ok-new.new stop (c.in_err-write.ensures.gives around base)))

pub returns-clause-gives : goal.returns-clause-gives
returns-clause-gives c = λ around base.
    let store = c.args.store.now in
    let table = store.types.now in
    pointer-gives around base store c.write.new.self c.args.stepping c.args.here c.args.place c.in_ok-old.old (if c.is_minus.result then neg_ℤ (pos 1) else pos 1) c.is_minus.ensures
    c.in_ok-new.new (Ok c.stepped.result) (c.in_ok-old.ensures.gives around base) (c.in_ok-new.ensures.gives around base)
    (writes-comes around base store c.write.new.self c.args.stepping c.args.here c.args.place c.in_ok-old.old c.in_ok-new.new c.stepped.result (c.stepped.ensures.means table) (c.in_ok-write.ensures.gives around base))

pub returns-clause-stands : goal.returns-clause-stands
returns-clause-stands c =
    let store = c.args.store.now in
    let table = store.types.now in
    c.stepped.ensures.stands table (c.in_ok-old.ensures.stands c.requires.store.around c.requires.store.base c.requires.store.state c.requires.store.at) (c.in_ok-new.ensures.stands (c.in_ok-old.ensures.stands c.requires.store.around c.requires.store.base c.requires.store.state c.requires.store.at))
