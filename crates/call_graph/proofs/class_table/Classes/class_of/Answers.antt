use Rattle.std.proofs.Common.{None, refl, sym, subst}
use Rattle.tac_ir.specs.declared.op.Callee.{Callee}
use Rattle.tac_ir.specs.declared.register.Register.TheVariants as R
use Rattle.tac_ir.specs.Views.{tac_of, callee_in}
use Rattle.call_graph.specs.TargetLists.{IsClassOf}
use Rattle.call_graph.proofs.TargetFacts.{through_first}
use Rattle.call_graph.proofs.class_table.Classes.class_of.Goals as goal

pub returns-in-Function : goal.returns-in-Function
returns-in-Function c = λ known.
    let tac = c.args.tac.now in
    subst (λ (callee : Callee). IsClassOf (tac_of tac) (callee_in tac.types callee) None) (sym c.in-Function.is) refl

pub returns-in-Through : goal.returns-in-Through
returns-in-Through c = λ known.
    let tac = c.args.tac.now in
    subst (λ (callee : Callee). IsClassOf (tac_of tac) (callee_in tac.types callee) c.first_of.result) (sym c.in-Through.is) (through_first tac c.args.self.now known c.in-Through.c_type (R.Temporary 0) c.first_of.result c.first_of.ensures)
