use Rattle.std.proofs.Common.{◌+◌, map, drop, subst, arith}
use Rattle.std.proofs.lemmas.List.{drop_all}
use Rattle.c_typed.specs.StatementViews.{local_in}
use Rattle.tac_build.proofs.MarkedTrees.{next_left}
use Rattle.tac_build.proofs.Opening.{LeftLocals, locals_first, locals_more, locals_end}
use Rattle.tac_build.proofs.addressed.Search.locals.Goals as goal

pub loop-local-init : goal.loop-local-init
loop-local-init c = λ w table. locals_first c.args.self.now (map (local_in table) c.args.locals.now) w

pub loop-local-preserved : goal.loop-local-preserved
loop-local-preserved c = λ w table.
    let all = c.args.locals.now in
    let next = next_left all c.loop-local.local-index c.local-item.result (omega arith) c.local-item.is in
    locals_more c.args.self.now c.loop-local.self c.local.new.self (local_in table c.local-item.result) (map (local_in table) (drop (c.loop-local.local-index + 1) all)) (map (local_in table) all)
    (subst (λ left. LeftLocals c.args.self.now c.loop-local.self (map (local_in table) left) (map (local_in table) all)) next (c.loop-local.invariant w table))
    (c.in_ok-local.ensures {u = tt} table)

pub returns : goal.returns
returns c = λ table.
    let all = c.args.locals.now in
    locals_end c.args.self.now c.loop-local.self (map (local_in table) all)
    (λ w. subst (λ left. LeftLocals c.args.self.now c.loop-local.self (map (local_in table) left) (map (local_in table) all)) (drop_all c.loop-local.local-index all (omega arith)) (c.loop-local.invariant w table))
