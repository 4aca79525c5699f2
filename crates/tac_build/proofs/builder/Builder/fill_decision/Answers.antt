use Rattle.std.proofs.Common.{Some, ◌∙◌, if◌then◌else◌}
use Rattle.tac_ir.specs.declared.op.Op.TheVariants as M
use Rattle.tac_ir.specs.Code as C
use Rattle.tac_ir.specs.Views.{tree_of}
use Rattle.tac_build.proofs.builder.Builder.fill_decision.Goals as goal

pub returns-clause-code : goal.returns-clause-code
returns-clause-code c = λ table points fills.
    let branched = c.decision.ensures.code table ∙ (λ i. C.Branch c.args.left.int_type (tree_of c.args.left.tree.value) (if c.args.is_and then c.behind.ensures i else c.here-short.ensures i) (if c.args.is_and then c.here-short.ensures i else c.behind.ensures i)) in
    c.fill.ensures.code table points fills ∙ (λ i. Some (branched i))
