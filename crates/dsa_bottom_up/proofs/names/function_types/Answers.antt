use Rattle.std.proofs.Common.{◌≡◌, ◌-◌, drop, refl, subst, ◌∙◌, arith}
use Rattle.dsa_bottom_up.specs.Counts.{FunctionTypes}
use Rattle.dsa_bottom_up.proofs.NamedTypes.{functions_none, functions_down}
use Rattle.dsa_bottom_up.proofs.names.function_types.Goals as goal

pub loop-number-init : goal.loop-number-init
loop-number-init c = record {
  within = omega arith;
  has = functions_none c.new-types.result c.args.functions.now c.new-types.ensures.empty;
}

pub bounds-functions-number : goal.bounds-functions-number
bounds-functions-number c = omega (arith, c.loop-number.invariant.within, c.loop-number-test.true)

pub loop-number-preserved : goal.loop-number-preserved
loop-number-preserved c = record {
  within = omega (arith, c.loop-number.invariant.within);
  has = functions_down c.loop-number.types c.insert.new.self c.in_ok-name.name (c.loop-number.number - 1) c.index-functions-number.result c.index-functions-number.result.c_type c.args.functions.now
      (omega (arith, c.loop-number.invariant.within, c.loop-number-test.true)) c.index-functions-number.is refl c.in_ok-insert.ensures.entries (c.in_ok-name.ensures.items ∙ c.as_slice.ensures)
      c.loop-number.number (omega (arith, c.loop-number-test.true)) c.loop-number.invariant.has;
}

pub returns : goal.returns
returns c =
    let none : c.loop-number.number ≡ 0 = omega (arith, c.loop-number-test.false) in
    subst (λ n. FunctionTypes c.loop-number.types (drop n c.args.functions.now)) none c.loop-number.invariant.has
