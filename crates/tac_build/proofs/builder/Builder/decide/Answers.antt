use Rattle.std.proofs.Common.{◌≡◌, Some, ◌∙◌, arith}
use Rattle.std.proofs.lemmas.Option.{slice_get_within}
use Rattle.c_num.specs.declared.IntType.TheVariants as I
use Rattle.tac_ir.specs.declared.op.Op.TheVariants as M
use Rattle.tac_ir.specs.Code as C
use Rattle.c_typed.specs.Table.{Interned}
use Rattle.tac_build.specs.Spots.{AsInteger}
use Rattle.tac_build.specs.Building.{lowered_in, Lowers, Decides}
use Rattle.tac_build.proofs.Points.{if_ok, on_ok, decides, grows_on, on_but, but_on, but_beyond}
use Rattle.tac_build.proofs.builder.Builder.decide.Goals as goal

pub fill_jump-requires : goal.fill_jump-requires
fill_jump-requires c =
    let at = c.in_ok-jump.ensures.at in
    let within = slice_get_within c.args.self.now.points.items c.args.test.0 M.Reserved c.requires in
    let longer = c.in_ok-assign_truth.ensures.grows.longer in
    c.in_ok-append.ensures.grows.stands c.in_ok-jump.jump.0 M.Reserved
    (c.fill_decision.ensures.grows.stands c.in_ok-jump.jump.0 M.Reserved (λ (e : c.in_ok-jump.jump.0 ≡ c.args.test.0). absurd (omega (arith, e, at, within, longer))) c.in_ok-jump.ensures.reserved)

pub returns-clause-code : goal.returns-clause-code
returns-clause-code c =
    let at = c.in_ok-jump.ensures.at in
    let within = slice_get_within c.args.self.now.points.items c.args.test.0 M.Reserved c.requires in
    let longer = c.in_ok-assign_truth.ensures.grows.longer in
    let reserved = c.in_ok-append.ensures.grows.stands c.in_ok-jump.jump.0 M.Reserved
    (c.fill_decision.ensures.grows.stands c.in_ok-jump.jump.0 M.Reserved (λ (e : c.in_ok-jump.jump.0 ≡ c.args.test.0). absurd (omega (arith, e, at, within, longer))) c.in_ok-jump.ensures.reserved) in
    if_ok (λ lowered. (table : Interned) → lowered_in table lowered ≡ AsInteger I.Int (C.Held c.args.to)) (Lowers (λ table. Decides c.args.is_and c.args.to c.args.test.0 c.args.left c.args.right) c.args.self.now c.fill_jump.new.self) c.held.result
    (λ lowered held. decides c.args.self.now c.assign_truth.new.self c.reserve.new.self c.fill_decision.new.self c.append.new.self c.fill_jump.new.self
    c.args.is_and c.args.to c.args.test.0 c.in_ok-jump.jump.0 c.args.left c.args.right lowered c.requires
    c.in_ok-assign_truth.ensures.code c.in_ok-assign_truth.ensures.grows at c.in_ok-jump.ensures.reserved c.in_ok-jump.ensures.spot c.in_ok-jump.ensures.grows
    c.fill_decision.ensures.code c.fill_decision.ensures.spot c.fill_decision.ensures.grows
    (λ table points fills. let found = c.in_ok-append.ensures.code table points fills in (found.0 ∙ (λ i. Some (C.Assign c.args.to (c.decided-tree.ensures i))), found.1))
    c.in_ok-append.ensures.grows reserved
    c.fill_jump.ensures.code c.fill_jump.ensures.spot c.fill_jump.ensures.grows held)
    c.held.ensures

pub returns-clause-grows : goal.returns-clause-grows
returns-clause-grows c =
    let at = c.in_ok-jump.ensures.at in
    let longer = c.in_ok-assign_truth.ensures.grows.longer in
    let first = grows_on c.args.self.now c.assign_truth.new.self c.reserve.new.self c.in_ok-assign_truth.ensures.grows c.in_ok-jump.ensures.grows in
    let second = on_but c.args.self.now c.reserve.new.self c.fill_decision.new.self c.args.test.0 first c.fill_decision.ensures.grows in
    let third = but_on c.args.self.now c.fill_decision.new.self c.append.new.self c.args.test.0 second c.in_ok-append.ensures.grows in
    on_ok c.held.result (but_beyond c.args.self.now c.append.new.self c.fill_jump.new.self c.args.test.0 c.in_ok-jump.jump.0 (omega (arith, at, longer)) third c.fill_jump.ensures.grows)
