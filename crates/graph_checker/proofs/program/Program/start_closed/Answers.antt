use Rattle.std.proofs.Common.{map, None, sym, subst}
use Rattle.std.proofs.lemmas.Result.{IfOk-weaker}
use Rattle.tac_ir.specs.States.{InStart}
use Rattle.tac_ir.specs.Views.{tac_of, op_in}
use Rattle.graph_checker.specs.Programs.{family_of}
use Rattle.graph_checker.specs.Fits.{AllFit}
use Rattle.graph_checker.proofs.CodeJudged.{start_judged}
use Rattle.graph_checker.proofs.GroupsFit.{start_fits, calls_within}
use Rattle.graph_checker.proofs.program.Program.start_closed.Goals as goal

pub code_closed-requires-clause-fit : goal.code_closed-requires-clause-fit
code_closed-requires-clause-fit c =
    let tac = c.args.self.tac.now in
    subst (λ g. AllFit c.args.self g (map (op_in tac.types) tac.start.points.items)) (sym c.start.ensures.group) (start_fits c.args.self c.requires.program)

pub returns : goal.returns
returns c =
    let program = c.args.self in
    let start = (tac_of program.tac.now).start in
    let within = calls_within program c.requires.program None InStart start (start_fits program c.requires.program) in
    IfOk-weaker c.code_closed.result _ _ (λ closed judged. start_judged (family_of program) start within closed (judged c.start.ensures)) c.code_closed.ensures
