use Rattle.std.proofs.Common.{◌≡◌, ap₂, ◌∙◌, FitsSigned, to_z-of_z, rules}
use Rattle.std.specs.Int.{w128}
use Rattle.c_num.specs.Conversion.{convert_to}
use Rattle.c_num.specs.Arith.{wrapped_right, exact}
use Rattle.c_num.proofs.Outcomes.{wrapped-outcome, wrapped_value, wrapped_right-operand, wrapped_right-amount}
use Rattle.c_num.proofs.arith.wrap_binary.Goals as goal
use Rattle.c_num.proofs.arith.wrap_binary.Goals.{After-wrapped_right-right}

right_is : (c : After-wrapped_right-right) → c.wrapped_right-right.result ≡ wrapped_right c.args.op c.args.t c.args.b
right_is c =
    let fits_b : FitsSigned w128 c.args.b = search rules in
    simp to_z-of_z at c.wrapped_right-right.ensures

pub unreduced-requires-clause-right : goal.unreduced-requires-clause-right
unreduced-requires-clause-right c =
    let fits : FitsSigned w128 c.wrapped_right-right.result = search rules in
    rw (to_z-of_z, right_is c) (wrapped_right-operand c.args.op c.args.t c.args.b)

pub unreduced-requires-clause-amount : goal.unreduced-requires-clause-amount
unreduced-requires-clause-amount c =
    let fits : FitsSigned w128 c.wrapped_right-right.result = search rules in
    rw (to_z-of_z, right_is c) (wrapped_right-amount c.args.op c.args.t c.args.b)

pub returns-clause-value : goal.returns-clause-value
returns-clause-value c =
    let fits_a : FitsSigned w128 c.args.a = search rules in
    let fits_l : FitsSigned w128 c.convert-left.result = search rules in
    let fits_r : FitsSigned w128 c.wrapped_right-right.result = search rules in
    let fits_u : FitsSigned w128 c.unreduced.result = search rules in
    let fits : FitsSigned w128 c.convert.result = search rules in
    let converted : c.convert.result ≡ convert_to c.args.t c.unreduced.result = simp to_z-of_z at c.convert.ensures.value in
    let unreduced : convert_to c.args.t c.unreduced.result ≡ convert_to c.args.t (exact c.args.op c.args.t c.convert-left.result c.wrapped_right-right.result) = simp to_z-of_z at c.unreduced.ensures in
    let left : c.convert-left.result ≡ convert_to c.args.t c.args.a = simp to_z-of_z at c.convert-left.ensures.value in
    let right = right_is (goal.at.returns-clause-value c).After-wrapped_right-right in
    rw to_z-of_z (converted ∙ unreduced ∙ ap₂ (λ x y. convert_to c.args.t (exact c.args.op c.args.t x y)) left right ∙ wrapped_value c.args.op c.args.t c.args.a c.args.b)

pub returns-clause-defined : goal.returns-clause-defined
returns-clause-defined c v w = rw (returns-clause-value c) (wrapped-outcome c.args.op c.args.t c.args.a c.args.b v w)
