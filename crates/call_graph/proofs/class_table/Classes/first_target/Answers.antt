use Rattle.std.proofs.Common.{Some, sym, subst}
use Rattle.tac_ir.specs.declared.op.Callee.{Callee}
use Rattle.tac_ir.specs.declared.register.Register.TheVariants as R
use Rattle.tac_ir.specs.Views.{tac_of, callee_in}
use Rattle.call_graph.specs.TargetLists.{IsFirstTarget}
use Rattle.call_graph.proofs.TargetFacts.{known_first, through_first}
use Rattle.call_graph.proofs.class_table.Classes.first_target.Goals as goal

pub returns-in-Function : goal.returns-in-Function
returns-in-Function c = λ known.
    let tac = c.args.tac.now in
    subst (λ (callee : Callee). IsFirstTarget (tac_of tac) (callee_in tac.types callee) (Some c.in-Function.function.0)) (sym c.in-Function.is) (known_first (tac_of tac) c.in-Function.function.0)

pub returns-in-Through : goal.returns-in-Through
returns-in-Through c = λ known.
    let tac = c.args.tac.now in
    subst (λ (callee : Callee). IsFirstTarget (tac_of tac) (callee_in tac.types callee) c.first_of.result) (sym c.in-Through.is) (through_first tac c.args.self.now known c.in-Through.c_type (R.Temporary 0) c.first_of.result c.first_of.ensures)
