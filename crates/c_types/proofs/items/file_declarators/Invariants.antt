use Rattle.std.proofs.Common.{drop, map}
use Rattle.c_syntax.specs.Views.{init_declarator_tree}
use Rattle.c_typed.specs.Table.{type_in}
use Rattle.c_types_state.specs.Finding.{each_in}
use Rattle.c_types.proofs.OutsideMade.{FilesFar, FilesKept}
use Rattle.c_types.proofs.items.file_declarators.Given as goal

-- What is covered and defined of the declarators that are left is covered and defined of all.
abbrev pub invariant-loop-tree : goal.invariant-loop-tree
invariant-loop-tree l =
    record {
      far : FilesFar (each_in type_in l.fn.pass.checker.table l.base) l.base (map init_declarator_tree l.trees) l.fn.pass l.fn.defined (map init_declarator_tree (drop l.tree-index l.trees)) l.pass l.defined;
      kept : FilesKept (each_in type_in l.fn.pass.checker.table l.base) (map init_declarator_tree l.trees) l.fn.pass l.fn.values.items (map init_declarator_tree (drop l.tree-index l.trees)) l.pass l.values.items;
    }
