use Rattle.std.proofs.Common.{List, subst}
use Rattle.tac_ir.specs.declared.program.Function.{Function}
use Rattle.pool_rewrite.specs.Places.{TellsSignatures}
use Rattle.pool_rewrite.proofs.program.find.Goals as goal

pub returns : goal.returns
returns c =
    let tac = c.args.tac.now in
    record {
      literals = c.requires.literals;
      statics = c.in_ok-statics.ensures;
      signatures = subst (λ (functions : List Function). TellsSignatures tac.types functions c.in_ok-signatures.signatures) c.as_slice.ensures.value c.in_ok-signatures.ensures;
    }
