use Rattle.std.proofs.Common.{◌≡◌, ◌-◌, drop, sym, ap, subst, ◌∙◌, arith}
use Rattle.call_graph.specs.TakenLists.{NumbersFunctions}
use Rattle.call_graph.proofs.NameNumbers.{functions_none, functions_down}
use Rattle.call_graph.proofs.names.function_numbers.Goals as goal

pub loop-number-init : goal.loop-number-init
loop-number-init c = record {
  within = omega arith;
  has = functions_none c.new-numbers.result c.args.functions.now c.new-numbers.ensures.empty;
}

pub bounds-functions-number : goal.bounds-functions-number
bounds-functions-number c = omega (arith, c.loop-number.invariant.within, c.loop-number-test.true)

pub loop-number-preserved : goal.loop-number-preserved
loop-number-preserved c = record {
  within = omega (arith, c.loop-number.invariant.within);
  has = functions_down c.loop-number.numbers c.insert.new.self c.in_ok-name.name (c.loop-number.number - 1) c.index-functions-number.result c.args.functions.now
      (omega (arith, c.loop-number.invariant.within, c.loop-number-test.true)) c.index-functions-number.is c.in_ok-insert.ensures.entries (c.in_ok-name.ensures.items ∙ (c.as_slice.ensures ∙ sym (ap (λ function. function.name) c.index-functions-number.is)))
      c.loop-number.number (omega (arith, c.loop-number-test.true)) c.loop-number.invariant.has;
}

pub returns : goal.returns
returns c =
    let none : c.loop-number.number ≡ 0 = omega (arith, c.loop-number-test.false) in
    subst (λ n. NumbersFunctions c.loop-number.numbers n (drop n c.args.functions.now)) none c.loop-number.invariant.has
