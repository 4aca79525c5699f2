use Rattle.std.proofs.Common.{IsSome, true≢false, sym, subst, arith}
use Rattle.ref_meaning.proofs.Leaving.{none_left, one_left, all_left}
use Rattle.ref_meaning.proofs.store.Store.leave.Goals as goal

pub loop-self-init : goal.loop-self-init
loop-self-init c = none_left c.args.height c.args.self.now

pub loop-self-preserved-in-Some : goal.loop-self-preserved-in-Some
loop-self-preserved-in-Some c =
    let had = c.loop-self.self in
    one_left c.args.height c.args.self.now had (record had { objects = c.swap_remove.new.self; locals = c.pop.new.self }) c.in-Some.number (omega (arith, c.len.ensures)) c.in-Some.ensures.items c.swap_remove.ensures.updates.0
    c.loop-self.invariant

pub loop-self-preserved-in-Some-2 : goal.loop-self-preserved-in-Some-2
loop-self-preserved-in-Some-2 c =
    let had = c.loop-self.self in
    one_left c.args.height c.args.self.now had (record had { objects = c.swap_remove.new.self; locals = c.pop.new.self }) c.in-Some.number (omega (arith, c.len.ensures)) c.in-Some.ensures.items c.swap_remove.ensures.updates.0
    c.loop-self.invariant

pub loop-self-preserved-in-Some-3 : goal.loop-self-preserved-in-Some-3
loop-self-preserved-in-Some-3 c =
    let had = c.loop-self.self in
    one_left c.args.height c.args.self.now had (record had { objects = c.swap_remove.new.self; locals = c.pop.new.self }) c.in-Some.number (omega (arith, c.len.ensures)) c.in-Some.ensures.items c.swap_remove.ensures.updates.0
    c.loop-self.invariant

pub loop-self-preserved : goal.loop-self-preserved
loop-self-preserved c = absurd (true≢false (sym (subst IsSome c.in_default.is (c.pop.ensures.variant.1 (omega (arith, c.len.ensures))))))

pub returns-clause-left : goal.returns-clause-left
returns-clause-left c = λ around base state within at.
    all_left around c.loop-self.self base c.args.height state within (omega (arith, c.len.ensures)) (c.loop-self.invariant.still around base state within at)

pub returns-clause-types : goal.returns-clause-types
returns-clause-types c = c.loop-self.invariant.types

pub returns-clause-locals : goal.returns-clause-locals
returns-clause-locals c = c.loop-self.invariant.front
