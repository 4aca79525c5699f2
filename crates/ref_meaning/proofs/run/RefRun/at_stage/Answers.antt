use Rattle.std.proofs.Common.{refl}
use Rattle.ref_meaning.proofs.Placing.{set-newest}
use Rattle.ref_meaning.proofs.run.RefRun.at_stage.Goals as goal

pub returns : goal.returns
returns c = λ first others stack. record {
  kept = record { program = refl; functions = refl; main = refl; spent = refl };
  store = refl;
  operands = refl;
  base = refl;
  depth = refl;
  control = refl;
  stack = set-newest c.args.self.now.frames.items c.args.top (record { node = c.args.node; stage = c.args.stage }) first others c.requires stack;
}
