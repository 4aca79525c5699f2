use Rattle.std.proofs.Common.{◌≡◌, suc, ◌-◌, ◌<◌, length, get_or, arith}
use Rattle.c_typed.proofs.Grown.{stays}
use Rattle.c_types_expressions.proofs.Deriving.{type_there, list-next}
use Rattle.c_types_expressions.proofs.derived.list_of.Goals as goal

pub parameter-requires-clause-first : goal.parameter-requires-clause-first
parameter-requires-clause-first c =
    let lt : c.loop-index.index - 1 < length c.args.types.now = omega arith in
    (stays c.args.checker.now.table c.loop-index.checker.table c.loop-index.invariant.finds.grows (get_or c.args.types.now (c.loop-index.index - 1) (record { 0 = 0 }))
    (type_there c.args.checker.now.table c.args.types.now (c.loop-index.index - 1) (record { 0 = 0 }) lt c.requires)).0

pub loop-index-preserved : goal.loop-index-preserved
loop-index-preserved c =
    let lt : c.loop-index.index - 1 < length c.args.types.now = omega arith in
    let next : suc (c.loop-index.index - 1) ≡ c.loop-index.index = omega arith in
    record {
      within = omega arith;
      finds = list-next c.args.types.now (c.loop-index.index - 1) c.loop-index.index (record { 0 = 0 }) c.loop-index.list c.in_ok-list-2.list next lt c.requires c.loop-index.invariant.finds c.in_ok-list-2.ensures.made;
    }
