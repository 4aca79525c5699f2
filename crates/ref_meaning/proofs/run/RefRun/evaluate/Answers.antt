use Rattle.std.proofs.Common.{true, false, Result, Ok, refl, ap, subst, ◌∙◌}
use Rattle.ref_meaning.specs.declared.control.Task.TheVariants as K
use Rattle.ref_meaning.specs.declared.entry.Entry.TheVariants as E
use Rattle.ref_meaning.specs.declared.run.Halt.{Halt}
use Rattle.ref_meaning.specs.Doing.{EntryStands, EntryFinds, EntersObject}
use Rattle.ref_meaning.proofs.Moves.{ok-moves, memory-moves}
use Rattle.ref_meaning.proofs.Entering.{evaluates, gives-value, finds-place, enters-other, awaits-other, names-call}
use Rattle.ref_meaning.proofs.run.RefRun.evaluate.Goals as goal

pub returns-in-Give-clause-moves : goal.returns-in-Give-clause-moves
returns-in-Give-clause-moves c =
    let old = c.args.self.now in
    let table = old.store.types.now in
    evaluates old c.came_to.new.self c.args.node c.beginning.result (E.Give c.in-Give.value) c.came_to.result (c.beginning.ensures.means table c.requires.node) c.in-Give.is
    (ok-moves old c.came_to.new.self _ c.came_to.result c.came_to.ensures.ok
    (gives-value old c.came_to.new.self c.in-Give.value c.requires.holds c.requires.free (λ awaits. subst (EntryFinds table c.args.node) c.in-Give.is (c.beginning.ensures.finds table c.requires.node (c.requires.finds awaits))) (subst (EntryStands table c.args.node) c.in-Give.is (c.beginning.ensures.stands table c.requires.node)) c.came_to.ensures.becomes))

pub returns-in-Local-clause-moves : goal.returns-in-Local-clause-moves
returns-in-Local-clause-moves c =
    let old = c.args.self.now in
    let table = old.store.types.now in
    evaluates old c.came_to-in-Local.new.self c.args.node c.beginning.result (E.Local c.in-Local.number) c.came_to-in-Local.result (c.beginning.ensures.means table c.requires.node) c.in-Local.is
    (ok-moves old c.came_to-in-Local.new.self _ c.came_to-in-Local.result c.came_to-in-Local.ensures.ok
    (finds-place old c.came_to-in-Local.new.self c.local-place.result _ c.requires.holds c.requires.free (c.local-place.ensures.element _) (c.local-place.ensures.stands _) (c.local-place.ensures.gives _) c.came_to-in-Local.ensures.becomes))

pub returns-in-Named-clause-moves : goal.returns-in-Named-clause-moves
returns-in-Named-clause-moves c =
    let old = c.args.self.now in
    let table = old.store.types.now in
    evaluates old c.came_to-in-Named.new.self c.args.node c.beginning.result (E.Named c.in-Named.name) c.came_to-in-Named.result (c.beginning.ensures.means table c.requires.node) c.in-Named.is
    (ok-moves old c.came_to-in-Named.new.self _ c.came_to-in-Named.result c.came_to-in-Named.ensures.ok
    (finds-place old c.came_to-in-Named.new.self c.named-place.result _ c.requires.holds c.requires.free (c.named-place.ensures.element _ old.base) (c.named-place.ensures.stands _ old.base) (c.named-place.ensures.gives _ old.base) c.came_to-in-Named.ensures.becomes))

pub returns-then-waits-clause-moves : goal.returns-then-waits-clause-moves
returns-then-waits-clause-moves c =
    let old = c.args.self.now in
    let table = old.store.types.now in
    let stands = subst (EntryStands table c.args.node) c.in-Enter.is (c.beginning.ensures.stands table c.requires.node) in
    evaluates old c.wait.new.self c.args.node c.beginning.result (E.Enter c.in-Enter.part true) c.wait.result (c.beginning.ensures.means table c.requires.node) (c.in-Enter.is ∙ ap (E.Enter c.in-Enter.part) c.if-waits.true)
    (memory-moves old c.wait.new.self _ _ _ c.wait.result c.wait.ensures.waits c.wait.ensures.same c.wait.ensures.only c.requires.holds
    (awaits-other old c.wait.new.self c.args.node c.in-Enter.part c.requires.holds c.requires.free
    (λ placed. subst EntersObject (c.in-Enter.is ∙ ap (E.Enter c.in-Enter.part) c.if-waits.true) (c.beginning.ensures.placed placed))
    (λ awaits. subst (EntryFinds table c.args.node) (c.in-Enter.is ∙ ap (E.Enter c.in-Enter.part) c.if-waits.true) (c.beginning.ensures.finds table c.requires.node (c.requires.finds awaits)))
    c.requires.node c.requires.expression stands.0 stands.1))

pub returns-else-waits-clause-moves : goal.returns-else-waits-clause-moves
returns-else-waits-clause-moves c =
    let old = c.args.self.now in
    let table = old.store.types.now in
    let stands = subst (EntryStands table c.args.node) c.in-Enter.is (c.beginning.ensures.stands table c.requires.node) in
    evaluates old c.enter.new.self c.args.node c.beginning.result (E.Enter c.in-Enter.part false) c.enter.result (c.beginning.ensures.means table c.requires.node) (c.in-Enter.is ∙ ap (E.Enter c.in-Enter.part) c.if-waits.false)
    (ok-moves old c.enter.new.self _ c.enter.result c.enter.ensures.ok (enters-other old c.enter.new.self c.in-Enter.part c.requires.holds c.requires.free
    (λ awaits. subst (EntryFinds table c.args.node) (c.in-Enter.is ∙ ap (E.Enter c.in-Enter.part) c.if-waits.false) (c.beginning.ensures.finds table c.requires.node (c.requires.finds awaits))) stands.0 stands.1 c.enter.ensures.becomes))

pub returns-in-Library-clause-moves : goal.returns-in-Library-clause-moves
returns-in-Library-clause-moves c =
    let old = c.args.self.now in
    let table = old.store.types.now in
    let stands = subst (EntryStands table c.args.node) c.in-Library.is (c.beginning.ensures.stands table c.requires.node) in
    let new = record old { control = record { node = c.args.node; task = K.Library c.in-Library.groups } } in
    let done : Result (Unit {0}) Halt = Ok tt in
    evaluates old new c.args.node c.beginning.result (E.Library c.in-Library.groups) done (c.beginning.ensures.means table c.requires.node) c.in-Library.is
    (names-call old new c.args.node c.in-Library.groups c.requires.holds c.requires.free
    (λ awaits. subst (EntryFinds table c.args.node) c.in-Library.is (c.beginning.ensures.finds table c.requires.node (c.requires.finds awaits))) c.requires.node stands
    (record { kept = record { program = refl; functions = refl; main = refl; spent = refl }; store = refl; operands = refl; base = refl; depth = refl; control = refl; stack = refl }))
