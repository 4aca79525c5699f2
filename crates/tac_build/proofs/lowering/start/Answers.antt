use Rattle.std.proofs.Common.{List, [], ◌∷◌, ◌++◌, map, ap, ◌∙◌}
use Rattle.tac_ir.specs.declared.op.Op as memory_op
use Rattle.tac_ir.specs.declared.op.Op.TheVariants as M
use Rattle.tac_ir.specs.declared.op.Callee.TheVariants as K
use Rattle.tac_ir.specs.declared.tree.Tree.TheVariants as T
use Rattle.tac_ir.specs.declared.register.Register.TheVariants as R
use Rattle.tac_ir.specs.Code as C
use Rattle.tac_ir.specs.Views.{op_in}
use Rattle.tac_build.proofs.lowering.start.Goals as goal

pub returns-clause-points : goal.returns-clause-points
returns-clause-points c = λ table.
    let call : memory_op.Op = M.Call 0 (K.Function c.args.main) c.new.result in
    let exit : memory_op.Op = M.Exit (T.Held (R.Call 0)) in
    let points = c.in_ok-push-2.ensures.items ∙ ap (λ (items : List memory_op.Op). items ++ exit ∷ []) (c.in_ok-push.ensures.items ∙ ap (λ (items : List memory_op.Op). items ++ call ∷ []) c.new-points.ensures.items) in
    ap (map (op_in table)) points ∙ ap (λ arguments. C.Call 0 (C.Known c.args.main.0) arguments ∷ C.Exit (C.Held (R.Call 0)) ∷ []) c.new.ensures.items
