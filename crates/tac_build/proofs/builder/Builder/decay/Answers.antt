use Rattle.std.proofs.Common.{sym, ◌∙◌}
use Rattle.tac_build.specs.Building.{points_in, spot_of}
use Rattle.tac_build.specs.Spots.{expression}
use Rattle.tac_build.proofs.Points.{if_ok, fills_same}
use Rattle.tac_build.proofs.Everywhere.{holds_pointer}
use Rattle.tac_build.proofs.HeldTypes.{decays_address}
use Rattle.tac_build.proofs.builder.Builder.decay.Goals as goal

pub returns-then-is_address : goal.returns-then-is_address
returns-then-is_address c = record {
  code = if_ok _ _ c.address.result
      (λ lowered code. decays_address c.args.types.now c.args.mode c.args.array c.in_ok-first.first c.args.self.now c.address.new.self lowered (sym c.is_address.ensures ∙ c.if-is_address.true) c.in_default.not-Row c.in_ok-first.ensures code)
      c.address.ensures.code;
  holds = if_ok _ _ c.address.result
      (λ lowered code. holds_pointer lowered c.in_ok-first.first.c_type (λ any. expression (spot_of any c.args.self.now))
      (λ any. (code any (points_in any c.address.new.self) (fills_same (points_in any c.address.new.self))).2) c.args.types.now c.in_ok-first.ensures.0)
      c.address.ensures.code;
  grows = c.address.ensures.grows;
  adds = c.address.ensures.adds;
}
