use Rattle.std.proofs.Common.{sym, ap, subst, ◌∙◌}
use Rattle.ref_semantics.specs.Pointers.{truth}
use Rattle.ref_semantics.specs.Store.{give}
use Rattle.ref_semantics.specs.Meaning.{is_true}
use Rattle.ref_semantics.specs.Steps as steps
use Rattle.ref_semantics.specs.Steps.{ScalarGiven, WayGiven}
use Rattle.ref_meaning.specs.RefStore.Views.{scalar_in}
use Rattle.ref_meaning.specs.declared.control.Given.TheVariants as G
use Rattle.ref_meaning.specs.declared.control.Stage.TheVariants as S
use Rattle.ref_meaning.specs.Views.{around_run, functions_of, config_in, table_of, part_in, given_in}
use Rattle.ref_meaning.specs.Holding.{Fits, StageStands, AwaitsAt}
use Rattle.ref_meaning.specs.Doing.{IsInnermost, innermost, popped, taking}
use Rattle.ref_meaning.specs.Moving.{Moves, Arrives}
use Rattle.ref_meaning.proofs.Moves.{ok-moves}
use Rattle.ref_meaning.proofs.Firsts.{second-given, second-stops, done-arrives}
use Rattle.ref_meaning.proofs.Handing.{taking-first, of-statement}
use Rattle.ref_meaning.proofs.run.RefRun.hand_on.Goals as goal

-- ---- the first operand

pub give_first-requires-clause-waits : goal.give_first-requires-clause-waits
give_first-requires-clause-waits c = subst (Fits c.args.node) c.in-First.is c.requires.fits

pub give_first-requires-clause-placed : goal.give_first-requires-clause-placed
give_first-requires-clause-placed c = λ placed. c.scalar.ensures.finds (table_of c.args.self.now) (c.requires.placed (subst (AwaitsAt c.args.node) (sym c.in-First.is) placed))

pub give_first-requires-clause-first : goal.give_first-requires-clause-first
give_first-requires-clause-first c = c.scalar.ensures.stands (table_of c.args.self.now) c.requires.given

pub give_first-requires-clause-innermost : goal.give_first-requires-clause-innermost
give_first-requires-clause-innermost c = subst (IsInnermost c.args.self.now c.args.top (part_in (table_of c.args.self.now) c.args.node)) c.in-First.is c.requires.innermost

pub returns-in-First-clause-moves : goal.returns-in-First-clause-moves
returns-in-First-clause-moves c =
    let old = c.args.self.now in
    let table = old.store.types.now in
    let part = part_in table c.args.node in
    let given = given_in table c.args.given in
    subst (λ s. Moves old c.give_first.new.self (taking old (innermost old part s) given) c.give_first.result) (sym c.in-First.is)
    (subst (λ eval. Moves old c.give_first.new.self eval c.give_first.result) (sym (taking-first old part given (scalar_in table c.scalar.result) (c.scalar.ensures.means table))) c.give_first.ensures.moves)

-- ---- the second one

pub after_second-requires-clause-store : goal.after_second-requires-clause-store
after_second-requires-clause-store c = record { around = around_run c.args.self.now; base = c.args.self.now.base; state = c.requires.holds.state; at = c.requires.holds.at }

pub after_second-requires-clause-first : goal.after_second-requires-clause-first
after_second-requires-clause-first c = subst (StageStands (table_of c.args.self.now)) c.in-Second.is c.requires.stage

pub after_second-requires-clause-second : goal.after_second-requires-clause-second
after_second-requires-clause-second c = c.scalar-in-Second.ensures.stands (table_of c.args.self.now) c.requires.given

pub returns-in_err-value-in-Second-clause-moves : goal.returns-in_err-value-in-Second-clause-moves
returns-in_err-value-in-Second-clause-moves c =
    let old = c.args.self.now in
    let table = old.store.types.now in
    let given = given_in table c.args.given in
    subst (λ s. Moves old (record old { store = c.after_second.new.store }) (taking old (innermost old (part_in table c.args.node) s) given) c.from_residual.result) (sym c.in-Second.is)
    (second-stops old c.after_second.new.store c.args.node c.in-Second.first c.scalar-in-Second.result given _ c.from_residual.result c.from_residual.ensures.1 c.requires.holds c.after_second.ensures.types c.after_second.ensures.locals
    (c.scalar-in-Second.ensures.means table) (c.in_err-value-in-Second.ensures.gives (around_run old) old.base))

pub returns-in_ok-value-in-Second-clause-moves : goal.returns-in_ok-value-in-Second-clause-moves
returns-in_ok-value-in-Second-clause-moves c =
    let old = c.args.self.now in
    let table = old.store.types.now in
    let given = given_in table c.args.given in
    let waits = subst (IsInnermost old c.args.top (part_in table c.args.node)) c.in-Second.is c.requires.innermost in
    subst (λ s. Moves old c.done.new.self (taking old (innermost old (part_in table c.args.node) s) given) c.done.result) (sym c.in-Second.is)
    (ok-moves old c.done.new.self _ c.done.result c.done.ensures.ok
    (second-given old c.done.new.self c.after_second.new.store c.args.top c.args.node c.in-Second.first c.scalar-in-Second.result c.in_ok-value-in-Second.value given c.requires.holds c.requires.free
    c.after_second.ensures.types c.after_second.ensures.locals waits (c.scalar-in-Second.ensures.means table) c.in_ok-value-in-Second.ensures.stands c.in_ok-value-in-Second.ensures.finds (c.in_ok-value-in-Second.ensures.gives (around_run old) old.base)
    (c.done.ensures.becomes (record { node = waits.node; stage = S.Second c.in-Second.first }) waits.others waits.stack)))

-- ---- the right operand of `&&` or `||`

pub returns-in-Right-clause-moves : goal.returns-in-Right-clause-moves
returns-in-Right-clause-moves c =
    let old = c.args.self.now in
    let table = old.store.types.now in
    let given = given_in table c.args.given in
    let waits = subst (IsInnermost old c.args.top (part_in table c.args.node)) c.in-Right.is c.requires.innermost in
    let is = c.truth.ensures.means table ∙ ap truth (c.is_true.ensures table ∙ ap is_true (c.scalar-in-Right.ensures.means table)) in
    subst (λ s. Moves old c.done-in-Right.new.self (taking old (innermost old (part_in table c.args.node) s) given) c.done-in-Right.result) (sym c.in-Right.is)
    (ok-moves old c.done-in-Right.new.self _ c.done-in-Right.result c.done-in-Right.ensures.ok (λ state at.
    subst (λ a. Arrives c.done-in-Right.new.self (give (steps.came (around_run old) (functions_of old) (ScalarGiven a) (popped (config_in old)))) state) is
    (done-arrives old c.done-in-Right.new.self c.args.top (part_in table c.args.node) S.Right (G.Scalar c.truth.result) c.requires.holds c.requires.free tt waits (λ finds. finds) (c.truth.ensures.stands table)
    (c.done-in-Right.ensures.becomes (record { node = waits.node; stage = S.Right }) waits.others waits.stack) state at)))

-- ---- calls

pub give_argument-requires-clause-function : goal.give_argument-requires-clause-function
give_argument-requires-clause-function c = subst (StageStands (table_of c.args.self.now)) c.in-Argument.is c.requires.stage

pub give_argument-requires-clause-argument : goal.give_argument-requires-clause-argument
give_argument-requires-clause-argument c = c.scalar-in-Argument.ensures.stands (table_of c.args.self.now) c.requires.given

pub give_argument-requires-clause-call : goal.give_argument-requires-clause-call
give_argument-requires-clause-call c = subst (Fits c.args.node) c.in-Argument.is c.requires.fits

pub give_argument-requires-clause-innermost : goal.give_argument-requires-clause-innermost
give_argument-requires-clause-innermost c = subst (IsInnermost c.args.self.now c.args.top (part_in (table_of c.args.self.now) c.args.node)) c.in-Argument.is c.requires.innermost

pub returns-in-Argument-clause-moves : goal.returns-in-Argument-clause-moves
returns-in-Argument-clause-moves c =
    let old = c.args.self.now in
    let table = old.store.types.now in
    let part = part_in table c.args.node in
    subst (λ s. Moves old c.give_argument.new.self (taking old (innermost old part s) (given_in table c.args.given)) c.give_argument.result) (sym c.in-Argument.is)
    (subst (λ a. Moves old c.give_argument.new.self (taking old (innermost old part (S.Argument c.in-Argument.function c.in-Argument.count)) (ScalarGiven a)) c.give_argument.result) (c.scalar-in-Argument.ensures.means table) c.give_argument.ensures.moves)

pub give_call-requires-clause-body : goal.give_call-requires-clause-body
give_call-requires-clause-body c = subst (Fits c.args.node) c.in-Call.is c.requires.fits

pub give_call-requires-clause-way : goal.give_call-requires-clause-way
give_call-requires-clause-way c = c.way.ensures.stands (table_of c.args.self.now) c.requires.given

pub give_call-requires-clause-innermost : goal.give_call-requires-clause-innermost
give_call-requires-clause-innermost c = (c.args.top, subst (IsInnermost c.args.self.now c.args.top (part_in (table_of c.args.self.now) c.args.node)) c.in-Call.is c.requires.innermost)

pub returns-in-Call-clause-moves : goal.returns-in-Call-clause-moves
returns-in-Call-clause-moves c =
    let old = c.args.self.now in
    let table = old.store.types.now in
    let part = part_in table c.args.node in
    subst (λ s. Moves old c.give_call.new.self (taking old (innermost old part s) (given_in table c.args.given)) c.give_call.result) (sym c.in-Call.is)
    (subst (λ w. Moves old c.give_call.new.self (taking old (innermost old part (S.Call c.in-Call.is_used c.in-Call.place c.in-Call.base)) (WayGiven w)) c.give_call.result) (c.way.ensures.means table) c.give_call.ensures.moves)

-- ---- statements

pub give_statement-requires-clause-stage : goal.give_statement-requires-clause-stage
give_statement-requires-clause-stage c = of-statement c.args.stage c.in_default.not-First c.in_default.not-Second c.in_default.not-Right c.in_default.not-Argument c.in_default.not-Call
