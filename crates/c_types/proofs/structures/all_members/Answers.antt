use Rattle.std.proofs.Common.{◌+◌, map, drop, refl}
use Rattle.c_syntax.specs.Views.{member_tree}
use Rattle.c_types_state.specs.NameTables.{scope_of}
use Rattle.c_types.specs.Outside.{defs_in}
use Rattle.c_types.proofs.DeclaredMembers.{trees-next, trees-end, held-none, defs-none, held-stays, listed-start, listed-step, listed-more, listed-end}
use Rattle.c_types.proofs.structures.all_members.Goals as goal

pub loop-tree-init : goal.loop-tree-init
loop-tree-init c =
    let s = c.args.pass.now in
    let members = c.new-members.result in
    record {
      scope = refl;
      held = held-none s.checker.table members c.new-members.ensures.names c.new-members.ensures.members;
      listed = listed-start s (map member_tree c.args.trees.now) (defs_in s.checker.table members) (defs-none s.checker.table members c.new-members.ensures.members);
    }

pub declared_members-requires-clause-held : goal.declared_members-requires-clause-held
declared_members-requires-clause-held c = held-stays c.loop-tree.pass.checker.table c.words_type.new.checker.table c.in_ok-base.ensures.grows c.loop-tree.members c.loop-tree.invariant.held

pub loop-tree-preserved : goal.loop-tree-preserved
loop-tree-preserved c =
    let s = c.args.pass.now in
    let scope = scope_of s.checker in
    let trees = c.args.trees.now in
    let index = c.loop-tree.tree-index in
    let now = c.loop-tree.pass in
    let next = c.declared_members.new.pass in
    let before = c.loop-tree.members in
    let after = c.declared_members.new.members in
    let so_far = c.loop-tree.invariant in
    let one = member_tree c.tree-item.result in
    let found = c.in_ok-declared_members.ensures in
    let step = listed-step {now = now} {next = next} {t = c.words_type.new.checker} scope one c.in_ok-base.base before after so_far.scope so_far.held c.in_ok-base.ensures found.covers found.members in
    record {
      scope = step.0.scope;
      held = found.held;
      listed = listed-more s (map member_tree trees) (map member_tree (drop index trees)) (map member_tree (drop (index + 1) trees)) (defs_in now.checker.table before) (defs_in next.checker.table after) now next one
          (trees-next member_tree trees trees refl index c.tree-item.result c.loop-tree-test.true c.tree-item.is) step.0 step.1 so_far.listed;
    }

pub returns : goal.returns
returns c =
    let s = c.args.pass.now in
    let trees = c.args.trees.now in
    let index = c.loop-tree.tree-index in
    let so_far = c.loop-tree.invariant in
    let all = listed-end s (map member_tree trees) (map member_tree (drop index trees)) (defs_in c.loop-tree.pass.checker.table c.loop-tree.members) c.loop-tree.pass
    (trees-end member_tree trees trees refl index c.loop-tree-test.false) so_far.scope so_far.listed in
    record { covers = all.0; made = (so_far.held.complete, all.1) }
