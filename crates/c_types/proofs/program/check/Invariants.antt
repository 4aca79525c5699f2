use Rattle.std.proofs.Common.{map, drop}
use Rattle.c_syntax.specs.Views.{program_tree, item_tree}
use Rattle.c_types.proofs.ProgramRead.{Reading, Keeping}
use Rattle.c_types.proofs.program.check.Given as goal

-- What was found and kept of the items so far is, with that of those that are left, what is found and kept of all.
abbrev pub invariant-loop-tree : goal.invariant-loop-tree
invariant-loop-tree l =
    record {
      reading : Reading (program_tree l.program) (map item_tree (drop l.tree-index l.tree-items)) l.pass l.defined;
      keeping : Keeping (program_tree l.program) (map item_tree (drop l.tree-index l.tree-items)) l.pass l.first_values.items;
    }
