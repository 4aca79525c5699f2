use Rattle.std.proofs.Common.{ap, subst, ◌∙◌}
use Rattle.ref_meaning.specs.declared.control.Stage.TheVariants as S
use Rattle.ref_meaning.specs.declared.first_operand.Next as memory_next
use Rattle.ref_meaning.specs.declared.first_operand.Next.TheVariants as X
use Rattle.ref_meaning.specs.Views.{around_run, table_of}
use Rattle.ref_meaning.specs.Doing.{NextStands, NextFinds}
use Rattle.ref_meaning.proofs.Moves.{ok-moves, becomes-then}
use Rattle.ref_meaning.proofs.Firsts.{Found, first-given, first-second, first-right, first-whole, first-stops}
use Rattle.ref_meaning.proofs.run.RefRun.give_operand.Goals as goal

pub after_first-requires-clause-store : goal.after_first-requires-clause-store
after_first-requires-clause-store c = record { around = around_run c.args.self.now; base = c.args.self.now.base; state = c.requires.holds.state; at = c.requires.holds.at }

pub returns-in_err-next-clause-moves : goal.returns-in_err-next-clause-moves
returns-in_err-next-clause-moves c =
    let old = c.args.self.now in
    first-stops old c.after_first.new.store c.args.node c.args.first _ c.from_residual.result c.from_residual.ensures.1 c.requires.holds c.after_first.ensures.types c.after_first.ensures.locals c.requires.operand
    (c.in_err-next.ensures.gives (around_run old) old.base)

pub returns-in-Given-clause-moves : goal.returns-in-Given-clause-moves
returns-in-Given-clause-moves c =
    let old = c.args.self.now in
    let found = subst (λ (n : memory_next.Next). Found old c.after_first.new.store c.args.node c.args.first n) c.in-Given.is
    (record { types = c.after_first.ensures.types; locals = c.after_first.ensures.locals; comes = c.in_ok-next.ensures.gives (around_run old) old.base }) in
    let stands = subst (NextStands (table_of old)) c.in-Given.is c.in_ok-next.ensures.stands in
    let waits = c.requires.innermost in
    ok-moves old c.done.new.self _ c.done.result c.done.ensures.ok
    (first-given old c.done.new.self c.after_first.new.store c.args.top c.args.node c.args.first c.in-Given.value c.requires.holds c.requires.free found waits c.requires.operand stands (λ first. subst (NextFinds (table_of old) c.args.node) c.in-Given.is (c.in_ok-next.ensures.finds first))
    (c.done.ensures.becomes (record { node = waits.node; stage = S.First }) waits.others waits.stack))

pub returns-in-Second-clause-moves : goal.returns-in-Second-clause-moves
returns-in-Second-clause-moves c =
    let old = c.args.self.now in
    let is = c.in-Enter.is ∙ ap (X.Enter c.in-Enter.part) c.in-Second.is in
    let found = subst (λ (n : memory_next.Next). Found old c.after_first.new.store c.args.node c.args.first n) is
    (record { types = c.after_first.ensures.types; locals = c.after_first.ensures.locals; comes = c.in_ok-next.ensures.gives (around_run old) old.base }) in
    let stands = subst (NextStands (table_of old)) is c.in_ok-next.ensures.stands in
    let waits = c.requires.innermost in
    ok-moves old c.enter.new.self _ c.enter.result c.enter.ensures.ok
    (first-second old c.enter.new.self c.after_first.new.store c.args.top c.args.node c.in-Enter.part c.args.first c.requires.holds c.requires.free found waits c.requires.operand c.requires.node c.requires.waits c.requires.first stands (λ first. subst (NextFinds (table_of old) c.args.node) is (c.in_ok-next.ensures.finds first))
    (becomes-then _ c.at_stage.new.self c.enter.new.self _ _ _ (c.at_stage.ensures (record { node = waits.node; stage = S.First }) waits.others waits.stack) c.enter.ensures.becomes))

pub returns-in-Right-clause-moves : goal.returns-in-Right-clause-moves
returns-in-Right-clause-moves c =
    let old = c.args.self.now in
    let is = c.in-Enter.is ∙ ap (X.Enter c.in-Enter.part) c.in-Right.is in
    let found = subst (λ (n : memory_next.Next). Found old c.after_first.new.store c.args.node c.args.first n) is
    (record { types = c.after_first.ensures.types; locals = c.after_first.ensures.locals; comes = c.in_ok-next.ensures.gives (around_run old) old.base }) in
    let stands = subst (NextStands (table_of old)) is c.in_ok-next.ensures.stands in
    let waits = c.requires.innermost in
    ok-moves old c.enter-in-Right.new.self _ c.enter-in-Right.result c.enter-in-Right.ensures.ok
    (first-right old c.enter-in-Right.new.self c.after_first.new.store c.args.top c.args.node c.in-Enter.part c.args.first c.requires.holds c.requires.free found waits c.requires.operand c.requires.node stands (λ first. subst (NextFinds (table_of old) c.args.node) is (c.in_ok-next.ensures.finds first))
    (becomes-then _ c.at_stage-in-Right.new.self c.enter-in-Right.new.self _ _ _ (c.at_stage-in-Right.ensures (record { node = waits.node; stage = S.First }) waits.others waits.stack) c.enter-in-Right.ensures.becomes))

pub returns-in-Whole-clause-moves : goal.returns-in-Whole-clause-moves
returns-in-Whole-clause-moves c =
    let old = c.args.self.now in
    let is = c.in-Enter.is ∙ ap (X.Enter c.in-Enter.part) c.in-Whole.is in
    let found = subst (λ (n : memory_next.Next). Found old c.after_first.new.store c.args.node c.args.first n) is
    (record { types = c.after_first.ensures.types; locals = c.after_first.ensures.locals; comes = c.in_ok-next.ensures.gives (around_run old) old.base }) in
    let stands = subst (NextStands (table_of old)) is c.in_ok-next.ensures.stands in
    let waits = c.requires.innermost in
    ok-moves old c.enter-in-Whole.new.self _ c.enter-in-Whole.result c.enter-in-Whole.ensures.ok
    (first-whole old c.enter-in-Whole.new.self c.after_first.new.store c.args.top c.args.node c.in-Enter.part c.args.first c.requires.holds c.requires.free found waits c.requires.operand stands (λ first. subst (NextFinds (table_of old) c.args.node) is (c.in_ok-next.ensures.finds first))
    (becomes-then _ c.let_go.new.self c.enter-in-Whole.new.self _ _ _ (c.let_go.ensures (record { node = waits.node; stage = S.First }) waits.others waits.stack) c.enter-in-Whole.ensures.becomes))
