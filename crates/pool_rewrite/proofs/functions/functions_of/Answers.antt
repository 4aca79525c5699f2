use Rattle.std.proofs.Common.{◌≡◌, ◌++◌, List, [], map, drop, sym, ap, ◌∙◌}
use Rattle.std.proofs.lemmas.List.{append-nil}
use Rattle.tac_ir.specs.Views.{tac_of, function_in}
use Rattle.pool_ir.specs.Code.{Function}
use Rattle.pool_ir.specs.Views as V
use Rattle.pool_rewrite.specs.Views.{function_plan_of}
use Rattle.pool_rewrite.specs.Rewriting as R
use Rattle.pool_rewrite.proofs.MappedLists.{fit_at, functions_further, functions_past, plans_past}
use Rattle.pool_rewrite.proofs.functions.functions_of.Goals.{then-loop-number-test+else-number-functions, else-loop-number-test}
use Rattle.pool_rewrite.proofs.functions.functions_of.Goals as goal

pub function_of-requires : goal.function_of-requires
function_of-requires c = record {
  fits = fit_at c.args.tac.now.types c.args.plans.now c.args.functions.now c.loop-number.number c.index-plans-number.result c.index-functions-number.result c.requires.fit c.loop-number-test.true c.if-number-functions.true
      c.index-plans-number.is c.index-functions-number.is;
  found = c.requires.found;
}

pub loop-number-preserved : goal.loop-number-preserved
loop-number-preserved c =
    let tac = c.args.tac.now in
    functions_further (tac_of tac) tac.types c.args.plans.now c.args.functions.now c.loop-number.number c.index-plans-number.result c.index-functions-number.result c.loop-number.made.items c.push.new.self.items c.in_ok-function_of.field-0
    (R.functions_of (tac_of tac) (map function_plan_of c.args.plans.now) (map (function_in tac.types) c.args.functions.now))
    c.loop-number-test.true c.if-number-functions.true c.index-plans-number.is c.index-functions-number.is c.in_ok-push.ensures.items c.in_ok-function_of.ensures c.loop-number.invariant

pub returns : goal.returns
returns c =
    let tac = c.args.tac.now in
    let plans = c.args.plans.now in
    let functions = c.args.functions.now in
    let n = c.loop-number.number in
    let made = map V.function_of c.loop-number.made.items in
    let past : R.functions_of (tac_of tac) (map function_plan_of (drop n plans)) (map (function_in tac.types) (drop n functions)) ≡ [] = elim c.loop-number-test.branch [
      | then-loop-number-test+else-number-functions w ↦ functions_past (tac_of tac) tac.types plans functions n w.if-number-functions.false
      | else-loop-number-test w ↦ plans_past (tac_of tac) tac.types plans functions n w.loop-number-test.false
    ] in
    sym (append-nil made) ∙ (ap (λ (others : List Function). made ++ others) (sym past) ∙ c.loop-number.invariant)
