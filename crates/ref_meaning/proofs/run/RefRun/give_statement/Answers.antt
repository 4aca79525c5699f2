use Rattle.std.proofs.Common.{sym, ap, subst, ◌∙◌}
use Rattle.ref_semantics.specs.Steps.{WayGiven}
use Rattle.ref_meaning.specs.declared.control.Stage.TheVariants as S
use Rattle.ref_meaning.specs.Views.{config_in, around_run, functions_of, table_of, part_in, given_in, at_item, behind_body}
use Rattle.ref_meaning.specs.Doing.{IsInnermost, innermost, taking, popped}
use Rattle.ref_meaning.specs.Moving.{Moves, halt_of}
use Rattle.ref_meaning.proofs.Advancing.{hold-moves, hold-stops, halt-moves, leave-moves, item-way, turn-way, no-other}
use Rattle.ref_meaning.proofs.run.RefRun.give_statement.Goals as goal

pub write-requires-clause-value : goal.write-requires-clause-value
write-requires-clause-value c = c.scalar.ensures.stands (table_of c.args.self.now) c.requires.given

pub returns-in_err-write-in-Local-clause-moves : goal.returns-in_err-write-in-Local-clause-moves
returns-in_err-write-in-Local-clause-moves c =
    let old = c.args.self.now in
    let table = table_of old in
    let part = part_in table c.args.node in
    subst (λ s. Moves old (record old { store = c.write.new.self }) (taking old (innermost old part s) (given_in table c.args.given)) c.from_residual.result) (sym c.in-Local.is)
    (halt-moves old (record old { store = c.write.new.self }) _ c.from_residual.result (halt_of c.in_err-write-in-Local.field-0.0) c.from_residual.ensures.1
    (hold-stops old c.write.new.self part c.in-Local.place c.args.given c.scalar.result c.in_err-write-in-Local.field-0.0 (c.scalar.ensures.means table) c.requires.holds c.write.ensures.types c.write.ensures.locals
    (c.in_err-write-in-Local.ensures.gives (around_run old) old.base)))

pub returns-in_ok-write-in-Local-clause-moves : goal.returns-in_ok-write-in-Local-clause-moves
returns-in_ok-write-in-Local-clause-moves c =
    let old = c.args.self.now in
    let table = table_of old in
    let part = part_in table c.args.node in
    let waits = subst (IsInnermost old c.args.top part) c.in-Local.is c.requires.innermost in
    subst (λ s. Moves old c.done.new.self (taking old (innermost old part s) (given_in table c.args.given)) c.done.result) (sym c.in-Local.is)
    (hold-moves old c.done.new.self c.write.new.self c.args.top part c.in-Local.place c.args.given c.scalar.result waits c.done.result (c.scalar.ensures.means table) c.done.ensures.ok c.requires.holds c.requires.free
    c.write.ensures.types c.write.ensures.locals (c.in_ok-write-in-Local.ensures.gives (around_run old) old.base)
    (c.done.ensures.becomes (record { node = waits.node; stage = S.Local c.in-Local.place }) waits.others waits.stack))

pub returns-in-Scope-clause-moves : goal.returns-in-Scope-clause-moves
returns-in-Scope-clause-moves c =
    let old = c.args.self.now in
    let table = table_of old in
    let part = part_in table c.args.node in
    let waits = subst (IsInnermost old c.args.top part) c.in-Scope.is c.requires.innermost in
    subst (λ s. Moves old c.done-in-Scope.new.self (taking old (innermost old part s) (given_in table c.args.given)) c.done-in-Scope.result) (sym c.in-Scope.is)
    (leave-moves old c.done-in-Scope.new.self c.leave.new.self c.args.top part c.in-Scope.height c.args.given c.way.result waits c.done-in-Scope.result (c.way.ensures.means table) c.done-in-Scope.ensures.ok c.requires.holds c.requires.free
    (c.way.ensures.stands table c.requires.given) c.leave.ensures.types c.leave.ensures.locals c.leave.ensures.left
    (c.done-in-Scope.ensures.becomes (record { node = waits.node; stage = S.Scope c.in-Scope.height }) waits.others waits.stack))

pub next_item-requires-clause-way : goal.next_item-requires-clause-way
next_item-requires-clause-way c = c.way-in-Item.ensures.stands (table_of c.args.self.now) c.requires.given

pub returns-in-Item-clause-moves : goal.returns-in-Item-clause-moves
returns-in-Item-clause-moves c =
    let old = c.args.self.now in
    let table = table_of old in
    let part = part_in table c.args.node in
    subst (λ e. Moves old c.next_item.new.self e c.next_item.result)
    (sym (ap (λ s. taking old (innermost old part s) (given_in table c.args.given)) c.in-Item.is
    ∙ (item-way (around_run old) (functions_of old) part c.in-Item.number (given_in table c.args.given) (popped (config_in old))
    ∙ ap (λ w. taking old (at_item part c.in-Item.number) (WayGiven w)) (sym (c.way-in-Item.ensures.means table)))))
    c.next_item.ensures.moves

pub after_turn-requires-clause-way : goal.after_turn-requires-clause-way
after_turn-requires-clause-way c = c.way-in-Turn.ensures.stands (table_of c.args.self.now) c.requires.given

pub returns-in-Turn-clause-moves : goal.returns-in-Turn-clause-moves
returns-in-Turn-clause-moves c =
    let old = c.args.self.now in
    let table = table_of old in
    let part = part_in table c.args.node in
    subst (λ e. Moves old c.after_turn.new.self e c.after_turn.result)
    (sym (ap (λ s. taking old (innermost old part s) (given_in table c.args.given)) c.in-Turn.is
    ∙ (turn-way (around_run old) (functions_of old) part (given_in table c.args.given) (popped (config_in old))
    ∙ ap (λ w. taking old (behind_body part) (WayGiven w)) (sym (c.way-in-Turn.ensures.means table)))))
    c.after_turn.ensures.moves

pub returns-in_default-clause-moves : goal.returns-in_default-clause-moves
returns-in_default-clause-moves c =
    absurd (no-other c.args.stage c.requires.stage c.in_default.not-Local c.in_default.not-Scope c.in_default.not-Item c.in_default.not-Begin c.in_default.not-Step c.in_default.not-Turn)
