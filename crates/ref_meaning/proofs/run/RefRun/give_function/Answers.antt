use Rattle.ref_meaning.proofs.Moves.{ok-moves}
use Rattle.ref_meaning.proofs.Arguments.{function-given, goes-kept}
use Rattle.ref_meaning.proofs.run.RefRun.give_function.Goals as goal

pub returns-clause-moves : goal.returns-clause-moves
returns-clause-moves c =
    let old = c.args.self.now in
    let r = c.requires in
    let goes = c.next_argument.ensures.goes _ r.innermost.others r.innermost.stack in
    ok-moves old c.next_argument.new.self _ c.next_argument.result c.next_argument.ensures.ok
    (function-given old c.next_argument.new.self c.args.top c.args.call c.args.function r.holds r.free r.node r.function r.call r.innermost goes)

pub returns-clause-kept : goal.returns-clause-kept
returns-clause-kept c =
    let old = c.args.self.now in
    let r = c.requires in
    goes-kept old c.next_argument.new.self old.operands c.args.call c.args.function 0 r.innermost.others (c.next_argument.ensures.goes _ r.innermost.others r.innermost.stack)
