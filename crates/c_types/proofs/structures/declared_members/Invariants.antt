use Rattle.std.proofs.Common.{◌≡◌, map, drop}
use Rattle.c_syntax.specs.Views.{declarator_tree}
use Rattle.c_typed.specs.Table.{Grows, type_in}
use Rattle.c_types_state.specs.Finding.{each_in}
use Rattle.c_types_state.specs.NameTables.{scope_of}
use Rattle.c_types.specs.Outside.{defs_in, AreHeld}
use Rattle.c_types.proofs.DeclaredMembers.{Declared}
use Rattle.c_types.proofs.structures.declared_members.Given as goal

-- What is covered of the declarators that are left is covered of all.
abbrev pub invariant-loop-declarator : goal.invariant-loop-declarator
invariant-loop-declarator l = record {
  scope : scope_of l.pass.checker ≡ scope_of l.fn.pass.checker;
  grows : Grows l.fn.pass.checker.table l.pass.checker.table;
  held : AreHeld l.pass.checker.table l.members;
  declared : Declared l.fn.pass l.tree.simple.place (each_in type_in l.fn.pass.checker.table l.fn.base) (map declarator_tree l.tree.declarators.items) (defs_in l.fn.pass.checker.table l.fn.members) (map declarator_tree (drop l.declarator-index l.tree.declarators.items)) (defs_in l.pass.checker.table l.members) l.pass;
}
