use Rattle.std.proofs.Common.{Some, ◌∙◌}
use Rattle.tac_ir.specs.declared.op.Op.TheVariants as M
use Rattle.tac_ir.specs.Code as C
use Rattle.tac_ir.specs.Views.{tree_of}
use Rattle.tac_build.proofs.builder.Builder.fill_test.Goals as goal

pub returns-clause-code : goal.returns-clause-code
returns-clause-code c = λ table points fills.
    let branched = c.branch-condition.ensures.code table ∙ (λ i. C.Branch c.args.condition.int_type (tree_of c.args.condition.tree.value) (c.behind.ensures i) (c.here-here.ensures i)) in
    c.fill.ensures.code table points fills ∙ (λ i. Some (branched i))
