use Rattle.std.proofs.Common.{◌∙◌, sym}
use Rattle.ref_meaning.specs.Views.{table_of, operands_of, newest}
use Rattle.ref_meaning.proofs.Provided.{several-only, length-newest}
use Rattle.ref_meaning.proofs.run.RefRun.only_argument.Goals as goal

pub returns-else-count-eq1-clause-is : goal.returns-else-count-eq1-clause-is
returns-else-count-eq1-clause-is c =
    let table = table_of c.args.self.now in
    let operands = operands_of c.args.self.now in
    several-only (newest table c.args.count operands) (λ one. c.if-count-eq1.false (sym (length-newest table c.args.count operands c.requires.there) ∙ one))
