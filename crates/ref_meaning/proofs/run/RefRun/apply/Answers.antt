use Rattle.std.proofs.Common.{◌≡◌, Err, length, arith, sym, ap, subst, ◌∙◌}
use Rattle.std.specs.Vec.{vec_len}
use Rattle.ref_semantics.specs.Store.{Eval, give}
use Rattle.ref_semantics.specs.Library.{library}
use Rattle.ref_semantics.specs.Steps as steps
use Rattle.ref_semantics.specs.Steps.{Config, ScalarGiven}
use Rattle.ref_meaning.specs.Views.{table_of, around_run, functions_of, operands_of, newest, config_in}
use Rattle.ref_meaning.specs.Holding.{IsCall}
use Rattle.ref_meaning.specs.Doing.{acting}
use Rattle.ref_meaning.specs.Moving.{Moves, Acts}
use Rattle.ref_meaning.proofs.Acting.{moves-acts, moves-holds, no-read, no-write}
use Rattle.ref_meaning.proofs.Applying.{apply-acting, library-next, error-is, apply-there, apply-call, no-call, halts-acts, given-holds, given-arrives, ok-holds, ok-acts}
use Rattle.ref_meaning.proofs.run.RefRun.apply.Goals as goal

-- ---- a function of the program

pub returns-in-Call-clause-holds : goal.returns-in-Call-clause-holds
returns-in-Call-clause-holds g c =
    let old = c.args.self.now in
    moves-holds old c.call.new.self _ c.call.result c.requires.holds c.call.ensures.moves

pub returns-in-Call-clause-acts : goal.returns-in-Call-clause-acts
returns-in-Call-clause-acts g c =
    let old = c.args.self.now in
    moves-acts old c.call.new.self (acting old) c.call.result (g.I.Source.left c.args.input.now) (g.O.Sink.written c.args.out.now)
    (subst (λ (eval : Eval Config). Moves old c.call.new.self eval c.call.result) (sym (apply-acting old c.args.call c.args.function c.args.count c.in-Value.expression _ c.requires.control c.in-Value.is c.in-Call.is)) c.call.ensures.moves)

pub returns-in-Call-clause-reads : goal.returns-in-Call-clause-reads
returns-in-Call-clause-reads g c = λ e. no-read c.args.self.now c.call.new.self _ c.call.result c.call.ensures.moves e

pub returns-in-Call-clause-writes : goal.returns-in-Call-clause-writes
returns-in-Call-clause-writes g c = λ e. no-write c.args.self.now c.call.new.self _ c.call.result c.call.ensures.moves e

-- ---- a function of the library

pub returns-in_err-value-in-LibraryCall-clause-reads : goal.returns-in_err-value-in-LibraryCall-clause-reads
returns-in_err-value-in-LibraryCall-clause-reads g c = λ e.
    let old = c.args.self.now in
    library-next old c.args.call c.args.function c.args.count c.in-Value.expression _ _ c.requires.control c.in-Value.is c.in-LibraryCall.is
    (c.in_err-value-in-LibraryCall.ensures.reads (ap Err (error-is c.from_residual.result c.in_err-value-in-LibraryCall.field-0.0 _ c.from_residual.ensures.1 e)))

pub returns-in_err-value-in-LibraryCall-clause-writes : goal.returns-in_err-value-in-LibraryCall-clause-writes
returns-in_err-value-in-LibraryCall-clause-writes g c = λ e.
    let old = c.args.self.now in
    library-next old c.args.call c.args.function c.args.count c.in-Value.expression _ _ c.requires.control c.in-Value.is c.in-LibraryCall.is
    (c.in_err-value-in-LibraryCall.ensures.writes (ap Err (error-is c.from_residual.result c.in_err-value-in-LibraryCall.field-0.0 _ c.from_residual.ensures.1 e)))

pub returns-in_err-value-in-LibraryCall-clause-acts : goal.returns-in_err-value-in-LibraryCall-clause-acts
returns-in_err-value-in-LibraryCall-clause-acts g c =
    let old = c.args.self.now in
    let new = c.call_library.new.self in
    let is_left = g.I.Source.left c.args.input.now in
    let told = g.O.Sink.written c.args.out.now in
    let is_left' = g.I.Source.left c.call_library.new.input in
    let told' = g.O.Sink.written c.call_library.new.out in
    subst (λ (eval : Eval Config). Acts old new eval c.from_residual.result is_left told is_left' told') (sym (apply-acting old c.args.call c.args.function c.args.count c.in-Value.expression _ c.requires.control c.in-Value.is c.in-LibraryCall.is))
    (halts-acts old new (library (around_run old) c.in-LibraryCall.function c.in-LibraryCall.place (newest (table_of old) c.args.count (operands_of old))) (λ a. give (steps.came (around_run old) (functions_of old) (ScalarGiven a) (config_in old)))
    c.in_err-value-in-LibraryCall.field-0.0 c.from_residual.result is_left told is_left' told' c.from_residual.ensures.1 c.requires.holds c.in_err-value-in-LibraryCall.ensures.stored c.in_err-value-in-LibraryCall.ensures.evaluates)

pub returns-in_ok-value-in-LibraryCall-clause-holds : goal.returns-in_ok-value-in-LibraryCall-clause-holds
returns-in_ok-value-in-LibraryCall-clause-holds g c =
    let old = c.args.self.now in
    let there = apply-there old c.args.call c.args.function c.args.count c.requires.control c.requires.holds in
    let told = c.in_ok-value-in-LibraryCall.ensures in
    let long : vec_len old.operands ≡ length old.operands.items = omega (arith, c.well_formed) in
    let all = c.len.ensures ∙ (ap vec_len told.stored.operands ∙ long) in
    ok-holds c.came_to.new.self c.came_to.result
    (given-holds old c.call_library.new.self c.came_to.new.self c.args.call c.args.function c.args.count c.in_ok-value-in-LibraryCall.value c.truncate.new.self
    c.requires.holds c.requires.control there told.stands told.stored c.len.result all c.truncate.ensures.items c.came_to.ensures.becomes told.remains)

pub returns-in_ok-value-in-LibraryCall-clause-acts : goal.returns-in_ok-value-in-LibraryCall-clause-acts
returns-in_ok-value-in-LibraryCall-clause-acts g c =
    let old = c.args.self.now in
    let mid = c.call_library.new.self in
    let new = c.came_to.new.self in
    let there = apply-there old c.args.call c.args.function c.args.count c.requires.control c.requires.holds in
    let ensured = c.in_ok-value-in-LibraryCall.ensures in
    let long : vec_len old.operands ≡ length old.operands.items = omega (arith, c.well_formed) in
    let all = c.len.ensures ∙ (ap vec_len ensured.stored.operands ∙ long) in
    let is_left = g.I.Source.left c.args.input.now in
    let told = g.O.Sink.written c.args.out.now in
    let is_left' = g.I.Source.left c.call_library.new.input in
    let told' = g.O.Sink.written c.call_library.new.out in
    let value = c.in_ok-value-in-LibraryCall.value in
    let held = given-holds old mid new c.args.call c.args.function c.args.count value c.truncate.new.self c.requires.holds c.requires.control there ensured.stands ensured.stored c.len.result all c.truncate.ensures.items c.came_to.ensures.becomes ensured.remains in
    subst (λ (eval : Eval Config). Acts old new eval c.came_to.result is_left told is_left' told') (sym (apply-acting old c.args.call c.args.function c.args.count c.in-Value.expression _ c.requires.control c.in-Value.is c.in-LibraryCall.is))
    (ok-acts old new _ c.came_to.result is_left told is_left' told' c.came_to.ensures.ok (λ base input state at so.
    given-arrives old mid new c.args.call c.args.function c.args.count value c.truncate.new.self c.requires.holds c.requires.control there ensured.stands ensured.stored c.len.result all c.truncate.ensures.items c.came_to.ensures.becomes
    (library (around_run old) c.in-LibraryCall.function c.in-LibraryCall.place (newest (table_of old) c.args.count (operands_of old))) base input state is_left' told' held (ensured.evaluates base input state at so)))

-- ---- what is no call

pub returns-in_default-expression : goal.returns-in_default-expression
returns-in_default-expression g c =
    absurd (no-call c.in-Value.expression (subst IsCall c.in-Value.is (apply-call c.args.self.now c.args.call c.args.function c.args.count c.requires.control c.requires.holds)) c.in_default-expression.not-Call c.in_default-expression.not-LibraryCall)
