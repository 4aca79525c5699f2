use Rattle.std.proofs.Common.{◌+◌, ◌%◌, [], ◌∷◌, ◌++◌}
use Rattle.pool_isa.specs.Number.{number_bytes}
use Rattle.pool_isa.proofs.Numbers.{pushed_more, pushed_last, kept_append}
use Rattle.pool_isa.proofs.number.push_digits.Goals as goal

pub loop-rest-preserved : goal.loop-rest-preserved
loop-rest-preserved c = record {
  spelled = pushed_more c.loop-rest.code.items c.push.new.self.items (c.args.code.now.items ++ number_bytes c.args.number) c.loop-rest.rest c.in_ok-push.ensures.items c.loop-rest-test.true c.loop-rest.invariant.spelled;
  kept = kept_append c.args.code.now.items c.loop-rest.code.items c.push.new.self.items ((128 + c.loop-rest.rest % 128) ∷ []) c.in_ok-push.ensures.items c.loop-rest.invariant.kept;
}

pub returns-clause-ok : goal.returns-clause-ok
returns-clause-ok c = pushed_last c.loop-rest.code.items c.push-2.new.self.items (c.args.code.now.items ++ number_bytes c.args.number) c.loop-rest.rest c.in_ok-push-2.ensures.items c.loop-rest-test.false c.loop-rest.invariant.spelled
