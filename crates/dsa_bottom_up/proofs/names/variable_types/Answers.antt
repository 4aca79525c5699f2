use Rattle.std.proofs.Common.{◌≡◌, ◌-◌, drop, refl, subst, ◌∙◌, arith}
use Rattle.dsa_bottom_up.specs.Counts.{VariableTypes}
use Rattle.dsa_bottom_up.proofs.NamedTypes.{variables_none, variables_down}
use Rattle.dsa_bottom_up.proofs.names.variable_types.Goals as goal

pub loop-number-init : goal.loop-number-init
loop-number-init c = record {
  within = omega arith;
  has = variables_none c.new-types.result c.args.globals.now c.new-types.ensures.empty;
}

pub bounds-globals-number : goal.bounds-globals-number
bounds-globals-number c = omega (arith, c.loop-number.invariant.within, c.loop-number-test.true)

pub loop-number-preserved : goal.loop-number-preserved
loop-number-preserved c = record {
  within = omega (arith, c.loop-number.invariant.within);
  has = variables_down c.loop-number.types c.insert.new.self c.in_ok-name.name (c.loop-number.number - 1) c.index-globals-number.result c.index-globals-number.result.c_type c.args.globals.now
      (omega (arith, c.loop-number.invariant.within, c.loop-number-test.true)) c.index-globals-number.is refl c.in_ok-insert.ensures.entries (c.in_ok-name.ensures.items ∙ c.as_slice.ensures)
      c.loop-number.number (omega (arith, c.loop-number-test.true)) c.loop-number.invariant.has;
}

pub returns : goal.returns
returns c =
    let none : c.loop-number.number ≡ 0 = omega (arith, c.loop-number-test.false) in
    subst (λ n. VariableTypes c.loop-number.types (drop n c.args.globals.now)) none c.loop-number.invariant.has
