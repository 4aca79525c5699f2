use Rattle.std.proofs.Common.{◌≡◌, map, drop}
use Rattle.c_syntax.specs.Views.{member_tree}
use Rattle.c_types_state.specs.NameTables.{scope_of}
use Rattle.c_types.specs.Outside.{defs_in, AreHeld}
use Rattle.c_types.proofs.DeclaredMembers.{Listed}
use Rattle.c_types.proofs.structures.all_members.Given as goal

-- What is covered of the declarations that are left is covered of all.
abbrev pub invariant-loop-tree : goal.invariant-loop-tree
invariant-loop-tree l = record {
  scope : scope_of l.pass.checker ≡ scope_of l.fn.pass.checker;
  held : AreHeld l.pass.checker.table l.members;
  listed : Listed l.fn.pass (map member_tree l.trees) (map member_tree (drop l.tree-index l.trees)) (defs_in l.pass.checker.table l.members) l.pass;
}
