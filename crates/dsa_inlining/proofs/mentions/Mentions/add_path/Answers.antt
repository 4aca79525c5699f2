use Rattle.std.proofs.Common.{sym, ap}
use Rattle.tac_ir.specs.Views.{base_in, op_in}
use Rattle.dsa_local.specs.Mentioned.{path_begins, op_begins}
use Rattle.dsa_inlining.specs.Tallies.{begins}
use Rattle.dsa_inlining.proofs.GroupCounts.Adding.{adds_same}
use Rattle.dsa_inlining.proofs.mentions.Mentions.add_path.Goals as goal

pub returns-in-Some : goal.returns-in-Some
returns-in-Some c = λ table.
    adds_same (λ name. begins name (base_in table c.in-Some.path.now.base)) (λ name. op_begins (begins name) (op_in table c.args.op.now)) c.args.self.now c.add_base.new.self
    (λ name. ap (path_begins (begins name)) (sym (c.in-Some.ensures table))) (c.add_base.ensures table)
