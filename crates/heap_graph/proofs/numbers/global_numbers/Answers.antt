use Rattle.std.proofs.Common.{◌≡◌, ◌-◌, drop, sym, ap, subst, ◌∙◌, arith}
use Rattle.heap_graph.specs.Numbers.{NumbersGlobals}
use Rattle.heap_graph.proofs.NameNumbers.{globals_none, globals_down}
use Rattle.heap_graph.proofs.numbers.global_numbers.Goals as goal

pub loop-number-init : goal.loop-number-init
loop-number-init c = record {
  within = omega arith;
  has = globals_none c.new-numbers.result c.args.globals.now c.new-numbers.ensures.empty;
}

pub bounds-globals-number : goal.bounds-globals-number
bounds-globals-number c = omega (arith, c.loop-number.invariant.within, c.loop-number-test.true)

pub loop-number-preserved : goal.loop-number-preserved
loop-number-preserved c = record {
  within = omega (arith, c.loop-number.invariant.within);
  has = globals_down c.loop-number.numbers c.insert.new.self c.in_ok-name.name (c.loop-number.number - 1) c.index-globals-number.result c.args.globals.now
      (omega (arith, c.loop-number.invariant.within, c.loop-number-test.true)) c.index-globals-number.is c.in_ok-insert.ensures.entries (c.in_ok-name.ensures.items ∙ (c.as_slice.ensures ∙ sym (ap (λ global. global.name) c.index-globals-number.is)))
      c.loop-number.number (omega (arith, c.loop-number-test.true)) c.loop-number.invariant.has;
}

pub returns : goal.returns
returns c =
    let none : c.loop-number.number ≡ 0 = omega (arith, c.loop-number-test.false) in
    subst (λ n. NumbersGlobals c.loop-number.numbers n (drop n c.args.globals.now)) none c.loop-number.invariant.has
