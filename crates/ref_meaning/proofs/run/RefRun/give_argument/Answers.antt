use Rattle.std.proofs.Common.{◌+◌}
use Rattle.ref_meaning.proofs.Moves.{ok-moves}
use Rattle.ref_meaning.proofs.Arguments.{argument-given, goes-kept}
use Rattle.ref_meaning.proofs.run.RefRun.give_argument.Goals as goal

pub returns-in-Ok-clause-moves : goal.returns-in-Ok-clause-moves
returns-in-Ok-clause-moves c =
    let old = c.args.self.now in
    let r = c.requires in
    let goes = c.next_argument.ensures.goes _ r.innermost.others r.innermost.stack in
    ok-moves old c.next_argument.new.self _ c.next_argument.result c.next_argument.ensures.ok
    (argument-given old c.next_argument.new.self c.args.top c.args.call c.args.function c.args.count c.args.argument c.push.new.self r.holds r.free r.node r.function r.argument r.call r.innermost c.in-Ok.ensures.items goes)

pub returns-in-Ok-clause-kept : goal.returns-in-Ok-clause-kept
returns-in-Ok-clause-kept c =
    let old = c.args.self.now in
    let r = c.requires in
    goes-kept old c.next_argument.new.self c.push.new.self c.args.call c.args.function (c.args.count + 1) r.innermost.others (c.next_argument.ensures.goes _ r.innermost.others r.innermost.stack)
