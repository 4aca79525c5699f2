use Rattle.c_types_expressions.proofs.binary.difference.Goals as goal

-- src/binary.rt:237:19
pub moved_pointer-requires-clause-address : goal.moved_pointer-requires-clause-address
moved_pointer-requires-clause-address c = c.moved-address.ensures.stands c.args.checker.now.table c.requires.left.2
