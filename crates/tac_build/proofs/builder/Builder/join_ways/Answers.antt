use Rattle.std.proofs.Common.{◌≡◌, Some, length, sym, ap, ◌∙◌, subst}
use Rattle.c_typed.specs.Table.{Interned}
use Rattle.tac_ir.specs.declared.op.Op.TheVariants as M
use Rattle.tac_ir.specs.Code as C
use Rattle.tac_build.specs.Spots.{Spot}
use Rattle.tac_build.specs.Code.{JoinsWith}
use Rattle.tac_build.specs.Building.{lowered_in, joined_in, spot_of, Lowers, MeetsWay}
use Rattle.tac_build.proofs.Points.{if_ok, on_ok, on_but, fills_but}
use Rattle.tac_build.proofs.builder.Builder.join_ways.Goals as goal

pub returns-clause-code : goal.returns-clause-code
returns-clause-code c =
    if_ok (λ lowered. (table : Interned) → lowered_in table lowered ≡ joined_in table c.args.way.joined)
    (Lowers (λ table. MeetsWay (joined_in table c.args.way.joined) (lowered_in table c.args.other) c.args.way.end.0) c.args.self.now c.fill_jump.new.self) c.joined_value.result
    (λ lowered is table points fills.
    let still = c.in_ok-join_with.ensures.grows.stands c.args.way.end.0 M.Reserved c.requires.reserved in
    let before = fills_but table c.join_with.new.self c.fill_jump.new.self c.args.way.end.0 points still c.fill_jump.ensures.grows fills in
    let same = sym (c.fill_jump.ensures.spot table) in
    let place : length c.join_with.new.self.points.items ≡ length c.fill_jump.new.self.points.items = ap (λ (spot : Spot). spot.at) same in (
      subst (λ spot. JoinsWith points (joined_in table c.args.way.joined) (lowered_in table c.args.other) (spot_of table c.args.self.now) spot) same (c.in_ok-join_with.ensures.code table points before),
      c.fill_jump.ensures.code table points fills ∙ (λ i. Some (C.Jump (place i))),
      is table,
    ))
    c.joined_value.ensures

pub returns-clause-grows : goal.returns-clause-grows
returns-clause-grows c = on_ok c.joined_value.result (on_but c.args.self.now c.join_with.new.self c.fill_jump.new.self c.args.way.end.0 c.in_ok-join_with.ensures.grows c.fill_jump.ensures.grows)
