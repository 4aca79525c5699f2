use Rattle.std.proofs.Common.{◌≡◌, suc, length, take, reverse, refl, sym, subst, arith}
use Rattle.ref_meaning.specs.Views.{part_in}
use Rattle.ref_meaning.specs.Holding.{TaskFinds, Awaits}
use Rattle.ref_meaning.specs.Doing.{TakesNone, IsInnermost}
use Rattle.ref_meaning.specs.Moving.{Moves}
use Rattle.ref_meaning.proofs.Placing.{newest-first}
use Rattle.ref_meaning.proofs.Firsts.{acting-takes}
use Rattle.ref_meaning.proofs.run.RefRun.give.Goals as goal

pub hand_on-requires-clause-placed : goal.hand_on-requires-clause-placed
hand_on-requires-clause-placed c =
    let old = c.args.self.now in
    let top = c.in-Some.top in
    let frame = c.index.result.now in
    let number : suc top ≡ length old.frames.items = omega (arith, c.len.ensures, c.in-Some.ensures.0, c.in-Some.ensures.1) in
    λ awaits. subst (TaskFinds old.store.types.now old.control.node) c.requires.task
    (c.requires.holds.found.0 (subst Awaits (sym (newest-first old.frames.items top frame number c.index.ensures)) awaits))

pub returns-clause-moves : goal.returns-clause-moves
returns-clause-moves c =
    let old = c.args.self.now in
    let top = c.in-Some.top in
    let frame = c.index.result.now in
    let part = part_in old.store.types.now frame.node in
    let number : suc top ≡ length old.frames.items = omega (arith, c.len.ensures, c.in-Some.ensures.0, c.in-Some.ensures.1) in
    let waits : IsInnermost old top part frame.stage = record {
      node = frame.node;
      others = reverse (take top old.frames.items);
      is = refl;
      stack = newest-first old.frames.items top frame number c.index.ensures;
      number = number;
    } in
    subst (λ eval. Moves old c.hand_on.new.self eval c.hand_on.result) (sym (acting-takes old top part frame.stage c.args.given c.requires.task (subst TakesNone (sym c.requires.task) tt) waits)) c.hand_on.ensures.moves
