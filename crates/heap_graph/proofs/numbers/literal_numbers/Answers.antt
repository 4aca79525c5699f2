use Rattle.std.proofs.Common.{◌≡◌, ◌-◌, drop, sym, ap, subst, ◌∙◌, arith}
use Rattle.indexmap.specs.IndexMap.{insert_entry}
use Rattle.c_typed.specs.Places.{is_same_place}
use Rattle.c_typed.specs.declared.definition.LiteralDef.{LiteralDef}
use Rattle.heap_graph.specs.Numbers.{NumbersLiterals}
use Rattle.heap_graph.proofs.NameNumbers.{literals_none, literals_down}
use Rattle.heap_graph.proofs.numbers.literal_numbers.Goals as goal

pub loop-number-init : goal.loop-number-init
loop-number-init c = record {
  within = omega arith;
  has = literals_none c.new-numbers.result c.args.literals.now c.new-numbers.ensures.empty;
}

pub bounds-literals-number : goal.bounds-literals-number
bounds-literals-number c = omega (arith, c.loop-number.invariant.within, c.loop-number-test.true)

pub loop-number-preserved : goal.loop-number-preserved
loop-number-preserved c = record {
  within = omega (arith, c.loop-number.invariant.within);
  has = literals_down c.loop-number.numbers c.insert.new.self (c.loop-number.number - 1) c.index-literals-number.result c.args.literals.now
      (omega (arith, c.loop-number.invariant.within, c.loop-number-test.true)) c.index-literals-number.is
      (c.in_ok-insert.ensures.entries ∙ ap (λ (literal : LiteralDef). insert_entry is_same_place c.loop-number.numbers.entries literal.place (c.loop-number.number - 1)) (sym c.index-literals-number.is))
      c.loop-number.number (omega (arith, c.loop-number-test.true)) c.loop-number.invariant.has;
}

pub returns : goal.returns
returns c =
    let none : c.loop-number.number ≡ 0 = omega (arith, c.loop-number-test.false) in
    subst (λ n. NumbersLiterals c.loop-number.numbers n (drop n c.args.literals.now)) none c.loop-number.invariant.has
