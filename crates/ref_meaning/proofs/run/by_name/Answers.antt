use Rattle.std.proofs.Common.{◌≡◌, ◌-◌, drop, sym, ap, subst, ◌∙◌, arith}
use Rattle.ref_meaning.specs.Numbers.{HasNumbers}
use Rattle.ref_meaning.proofs.Numbering.{numbers-none, numbers-down}
use Rattle.ref_meaning.proofs.run.by_name.Goals as goal

pub loop-number-init : goal.loop-number-init
loop-number-init c = record {
  within = omega arith;
  has = numbers-none c.new-numbers.result c.args.functions.now c.new-numbers.ensures.empty;
}

pub bounds-functions-number : goal.bounds-functions-number
bounds-functions-number c = omega (arith, c.loop-number.invariant.within, c.loop-number-test.true)

pub loop-number-preserved : goal.loop-number-preserved
loop-number-preserved c = record {
  within = omega (arith, c.loop-number.invariant.within);
  has = numbers-down c.loop-number.numbers c.insert.new.self c.as_slice.result (c.loop-number.number - 1) c.index-functions-number.result c.args.functions.now
      (omega (arith, c.loop-number.invariant.within, c.loop-number-test.true)) c.index-functions-number.is c.in_ok-insert.ensures.entries (c.as_slice.ensures ∙ sym (ap (λ f. f.name) c.index-functions-number.is))
      c.loop-number.number (omega (arith, c.loop-number-test.true)) c.loop-number.invariant.has;
}

pub returns : goal.returns
returns c =
    let none : c.loop-number.number ≡ 0 = omega (arith, c.loop-number-test.false) in
    subst (λ n. HasNumbers c.loop-number.numbers n (drop n c.args.functions.now)) none c.loop-number.invariant.has
