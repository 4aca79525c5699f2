use Rattle.std.proofs.Common.{◌≡◌, ◌++◌, map}
use Rattle.c_typed.specs.declared.statement.BlockItem.TheVariants as B
use Rattle.c_types.proofs.declarations.block_declaration.Given as goal

abbrev pub invariant-loop-local : goal.invariant-loop-local
invariant-loop-local l = l.made.items ++ map B.Local l.local-iterator.rest.items ≡ l.initial.made.items ++ map B.Local l.initial.local-iterator.rest.items
