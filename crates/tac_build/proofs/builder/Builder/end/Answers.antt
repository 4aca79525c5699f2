use Rattle.std.proofs.Common.{Some, None, sym, ◌∙◌}
use Rattle.std.specs.Prelude.{pos}
use Rattle.tac_ir.specs.declared.op.Op.TheVariants as M
use Rattle.tac_ir.specs.declared.op.Operand.TheVariants as P
use Rattle.tac_ir.specs.declared.tree.Tree.TheVariants as T
use Rattle.tac_build.specs.ProgramCode.{end_of}
use Rattle.tac_build.proofs.Points.{emits_as}
use Rattle.tac_build.proofs.FirstStores.{end_main, end_other}
use Rattle.tac_build.proofs.builder.Builder.end.Goals as goal

pub returns-then-is_main-clause-code : goal.returns-then-is_main-clause-code
returns-then-is_main-clause-code c = emits_as c.args.self.now c.append.new.self (M.Return (Some (P.Integer (T.Constant (pos 0))))) (λ table. end_of c.args.name.now)
    (λ table. end_main c.args.name.now (sym c.is_main.ensures ∙ c.if-is_main.true)) c.append.result c.append.ensures.code

pub returns-else-is_main-clause-code : goal.returns-else-is_main-clause-code
returns-else-is_main-clause-code c = emits_as c.args.self.now c.append-else-is_main.new.self (M.Return None) (λ table. end_of c.args.name.now)
    (λ table. end_other c.args.name.now (sym c.is_main.ensures ∙ c.if-is_main.false)) c.append-else-is_main.result c.append-else-is_main.ensures.code
