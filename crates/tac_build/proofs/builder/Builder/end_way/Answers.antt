use Rattle.std.proofs.Common.{◌≡◌, suc, Some, length, ap, ◌∙◌, arith}
use Rattle.std.proofs.lemmas.Option.{slice_get_within}
use Rattle.tac_ir.specs.declared.op.Op.TheVariants as M
use Rattle.tac_ir.specs.Code as C
use Rattle.tac_ir.specs.Views.{tree_of}
use Rattle.tac_build.specs.Spots.{Spot}
use Rattle.tac_build.specs.Building.{spot_of}
use Rattle.tac_build.proofs.Points.{fills_but, fills_grown}
use Rattle.tac_build.proofs.builder.Builder.end_way.Goals as goal

pub returns-clause-code : goal.returns-clause-code
returns-clause-code c = λ table points fills.
    let still = c.in_ok-end.ensures.grows.stands c.args.test.0 M.Reserved (c.in_ok-joined.ensures.grows.stands c.args.test.0 M.Reserved c.requires.reserved) in
    let fills_reserved = fills_but table c.reserve.new.self c.fill_test.new.self c.args.test.0 points still c.fill_test.ensures.grows fills in
    let fills_joined = fills_grown table c.join.new.self c.reserve.new.self points c.in_ok-end.ensures.grows fills_reserved in
    let here = c.in_ok-end.ensures.spot table in
    let place : length c.reserve.new.self.points.items ≡ suc (length c.join.new.self.points.items) = ap (λ (spot : Spot). spot.at) here in (
      spot_of table c.join.new.self,
      c.in_ok-joined.ensures.code table points fills_joined,
      c.in_ok-end.ensures.at,
      c.fill_test.ensures.spot table ∙ here,
      c.fill_test.ensures.code table points fills ∙ (λ i. Some (C.Branch c.args.condition.int_type (tree_of c.args.condition.tree.value) (suc c.args.test.0) (place i))),
    )

pub returns-clause-reserved : goal.returns-clause-reserved
returns-clause-reserved c =
    let at = c.in_ok-end.ensures.at in
    let within = slice_get_within c.args.self.now.points.items c.args.test.0 M.Reserved c.requires.reserved in
    let longer = c.in_ok-joined.ensures.grows.longer in
    c.fill_test.ensures.grows.stands c.in_ok-end.end.0 M.Reserved (λ (e : c.in_ok-end.end.0 ≡ c.args.test.0). absurd (omega (arith, e, at, within, longer))) c.in_ok-end.ensures.reserved
