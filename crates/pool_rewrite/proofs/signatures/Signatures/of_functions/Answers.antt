use Rattle.std.proofs.Common.{◌≡◌, ◌-◌, drop, length, refl, sym, subst, arith}
use Rattle.c_typed.specs.Table.{IsNumberOf, type_in}
use Rattle.tac_ir.specs.declared.program.Function.{Function}
use Rattle.pool_rewrite.specs.Places.{NumbersTypes}
use Rattle.pool_rewrite.proofs.SignatureNumbers.{types_none, types_down, types_told}
use Rattle.pool_rewrite.proofs.signatures.Signatures.of_functions.Goals as goal

pub loop-number-init : goal.loop-number-init
loop-number-init c = record {
  within = omega arith;
  has = types_none c.args.types.now c.new-firsts.result c.args.functions.now c.new-firsts.ensures.empty;
}

pub bounds-functions-number : goal.bounds-functions-number
bounds-functions-number c = omega (arith, c.loop-number.invariant.within, c.loop-number-test.true)

pub loop-number-preserved : goal.loop-number-preserved
loop-number-preserved c = record {
  within = omega (arith, c.loop-number.invariant.within);
  has = types_down c.args.types.now c.loop-number.firsts c.insert.new.self (c.loop-number.number - 1) c.index-functions-number.result c.args.functions.now c.number_of.result
      (subst (λ (function : Function). IsNumberOf c.args.types.now (type_in c.args.types.now function.c_type) c.number_of.result) (sym c.index-functions-number.is) c.number_of.ensures)
      (omega (arith, c.loop-number.invariant.within, c.loop-number-test.true)) c.index-functions-number.is c.in_ok-insert.ensures.entries
      c.loop-number.number (omega (arith, c.loop-number-test.true)) c.loop-number.invariant.has;
}

pub returns : goal.returns
returns c =
    let functions = c.args.functions.now in
    let first_left : c.loop-number.number ≡ 0 = omega (arith, c.loop-number-test.false) in
    let has = subst (λ n. NumbersTypes c.args.types.now c.loop-number.firsts n (drop n functions)) first_left c.loop-number.invariant.has in
    types_told c.args.types.now functions (record { firsts = c.loop-number.firsts; count = length functions }) has refl
