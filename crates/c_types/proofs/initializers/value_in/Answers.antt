use Rattle.std.proofs.Common.{◌≡◌, length, arith}
use Rattle.c_types.proofs.LiteralFirsts.{not_text-many}
use Rattle.c_types.proofs.initializers.value_in.Goals as goal

pub returns-then-inits-ne1-clause-none : goal.returns-then-inits-ne1-clause-none
returns-then-inits-ne1-clause-none c = not_text-many c.args.inits.now (λ (e : length c.args.inits.now ≡ 1). omega arith)
