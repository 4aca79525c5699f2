use Rattle.c_types_expressions.proofs.pointers.indexed.Goals as goal

pub element-requires-clause-address : goal.element-requires-clause-address
element-requires-clause-address c = c.moved-address.ensures.stands c.args.checker.now.table c.requires.right.2

pub element-requires-2-clause-address : goal.element-requires-2-clause-address
element-requires-2-clause-address c = c.moved-address-2.ensures.stands c.args.checker.now.table c.requires.left.2
