use Rattle.std.proofs.Common.{map, arith}
use Rattle.std.specs.Prelude.{slice_index}
use Rattle.pool_ir.specs.Views.{action_of, function_of}
use Rattle.stack_code.proofs.ActionJumps.{jumped_over, some_left}
use Rattle.stack_code.proofs.ways.push_way_at_zero.Goals as goal

pub returns : goal.returns
returns c =
    let found = c.actions_between-actions.result.now in
    jumped_over (slice_index c.args.places.now) (function_of c.args.function.now) c.args.from c.args.to c.args.front c.len-begin.result c.len.result (map action_of found) c.args.code.now.items c.push.new.self.items c.push_actions.new.code.items c.push-2.new.self.items
    (some_left action_of found c.is_empty.result c.is_empty.ensures c.if-is_empty.false) c.actions_between-actions.ensures (omega arith) c.in_ok-push.ensures.items c.in_ok-push_actions.ensures c.in_ok-push-2.ensures.items (omega arith)
