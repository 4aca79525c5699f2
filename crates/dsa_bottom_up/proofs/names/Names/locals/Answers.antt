use Rattle.std.proofs.Common.{drop, arith}
use Rattle.std.proofs.lemmas.List.{drop_all}
use Rattle.dsa_bottom_up.proofs.Arms.{next_left}
use Rattle.dsa_bottom_up.proofs.Scoping.{locals_first, locals_next, locals_end}
use Rattle.dsa_bottom_up.proofs.names.Names.locals.Goals as goal

pub loop-local-init : goal.loop-local-init
loop-local-init c = locals_first c.args.types.now c.args.self.now _ c.args.locals.now

pub loop-local-preserved : goal.loop-local-preserved
loop-local-preserved c =
    let locals = c.args.locals.now in
    locals_next c.args.types.now c.args.self.now _ c.loop-local.scope.items _ c.loop-local.count c.in_ok-one.one c.in_ok-count.count (drop c.loop-local.local-index locals) _ locals c.local-item.result
    (next_left locals c.loop-local.local-index c.local-item.result (omega arith) c.local-item.is) c.in_ok-one.ensures.scope c.in_ok-one.ensures.count (c.in_ok-count.ensures {u = tt}) c.loop-local.invariant

pub returns-clause-count : goal.returns-clause-count
returns-clause-count c =
    let locals = c.args.locals.now in
    (locals_end c.args.types.now c.args.self.now _ c.loop-local.scope.items c.loop-local.count (drop c.loop-local.local-index locals) locals (drop_all c.loop-local.local-index locals (omega arith)) c.loop-local.invariant).1

pub returns-clause-scope : goal.returns-clause-scope
returns-clause-scope c =
    let locals = c.args.locals.now in
    (locals_end c.args.types.now c.args.self.now _ c.loop-local.scope.items c.loop-local.count (drop c.loop-local.local-index locals) locals (drop_all c.loop-local.local-index locals (omega arith)) c.loop-local.invariant).0
