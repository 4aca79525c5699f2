use Rattle.c_syntax.specs.Views.{expr_tree}
use Rattle.c_types_state.specs.Finding.{ExprStands, expr_in}
use Rattle.c_types_expressions.proofs.Giving.{stands-now}
use Rattle.c_types.proofs.Valued.{passes-constant, passes-no_constant}
use Rattle.c_types.proofs.values.constant_of.Goals as goal

pub as_integer-requires : goal.as_integer-requires
as_integer-requires c = stands-now ExprStands expr_in c.in_ok-part.ensures.finds

pub returns-in-Some : goal.returns-in-Some
returns-in-Some c =
    passes-constant (expr_tree c.args.tree.now) c.place_of-place.result c.place_of-place.ensures c.in_ok-part.ensures
    _ c.in-Some.operand c.in-Some.is c.in_ok-operand.ensures c.constant_value.ensures

pub returns-in-None : goal.returns-in-None
returns-in-None c =
    passes-no_constant (expr_tree c.args.tree.now) c.place_of-place.result c.place_of-place.ensures c.in_ok-part.ensures
    _ c.in-None.is c.in_ok-operand.ensures
