use Rattle.c_syntax.specs.Views.{expr_tree}
use Rattle.c_types.proofs.Returning.{makes-no_integer}
use Rattle.c_types.proofs.values.switched.Goals as goal

pub returns : goal.returns
returns c =
    makes-no_integer (expr_tree c.args.tree.now) c.place_of-place.result c.place_of-place.ensures
    c.in_ok-operand.field-0 c.in-Some.operand c.shape.result c.in-Some.is c.in_ok-operand.ensures c.shape.ensures c.in_default-shape.not-Integer c.note.ensures
