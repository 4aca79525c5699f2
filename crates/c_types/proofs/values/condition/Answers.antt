use Rattle.c_syntax.specs.Views.{expr_tree}
use Rattle.c_types_state.specs.Finding.{ExprStands, expr_in}
use Rattle.c_types_expressions.proofs.Giving.{stands-now}
use Rattle.c_types.proofs.Valued.{makes-condition, makes-no_condition}
use Rattle.c_types.proofs.values.condition.Goals as goal

pub as_condition-requires : goal.as_condition-requires
as_condition-requires c = stands-now ExprStands expr_in c.in_ok-part.ensures.finds

pub returns-in-Some : goal.returns-in-Some
returns-in-Some c =
    makes-condition (expr_tree c.args.tree.now) c.place_of-place.result c.place_of-place.ensures c.in_ok-part.ensures
    c.in_ok-condition.field-0 c.in-Some.condition c.in-Some.is c.in_ok-condition.ensures

pub returns-in_ok-new-in-None : goal.returns-in_ok-new-in-None
returns-in_ok-new-in-None c =
    makes-no_condition (expr_tree c.args.tree.now) c.place_of-place.result c.place_of-place.ensures c.in_ok-part.ensures
    c.in_ok-condition.field-0 c.in-None.is c.in_ok-new-in-None.ensures.ok c.in_ok-condition.ensures
