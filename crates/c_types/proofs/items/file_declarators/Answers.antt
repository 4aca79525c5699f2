use Rattle.std.proofs.Common.{◌+◌, ◌∷◌, map, drop, sym, ap, ◌∙◌}
use Rattle.std.proofs.lemmas.List.{drop_more}
use Rattle.std.proofs.Math.ListN.{drop_of_length-le}
use Rattle.c_syntax.specs.declared.declaration.InitDeclarator.{InitDeclarator}
use Rattle.c_syntax.specs.Views.{init_declarator_tree}
use Rattle.c_typed.specs.Table.{type_in}
use Rattle.c_types_state.specs.Finding.{each_in}
use Rattle.c_types_state.specs.NameTables.{scope_of}
use Rattle.c_types.specs.InitialValues.{declarators_values}
use Rattle.c_types.proofs.KeptValues.{kept-none}
use Rattle.c_types.proofs.OutsideMade.{files-start, files-more, files-covers, files-defines, kept-declarator, kept-declarators}
use Rattle.c_types.proofs.items.file_declarators.Goals as goal

pub loop-tree-init : goal.loop-tree-init
loop-tree-init c =
    let s = c.args.pass.now in
    let all = map init_declarator_tree c.args.trees.now in
    record {
      far = files-start c.args.base all s c.args.defined.now c.requires;
      kept = λ place. kept-none (declarators_values (scope_of s.checker) place (each_in type_in s.checker.table c.args.base) all) s.checker.table c.args.values.now.items;
    }

pub loop-tree-preserved : goal.loop-tree-preserved
loop-tree-preserved c =
    let trees = c.args.trees.now in
    let index = c.loop-tree.tree-index in
    let one = c.tree-item.result in
    let left = map init_declarator_tree (drop index trees) in
    let rest = map init_declarator_tree (drop (index + 1) trees) in
    let more = ap (map init_declarator_tree) (drop_more trees index one c.loop-tree-test.true) ∙ ap (λ (x : InitDeclarator). init_declarator_tree x ∷ rest) (sym c.tree-item.is) in
    let s = c.args.pass.now in
    let own = c.in_ok-file_declarator.ensures in
    let far = c.loop-tree.invariant in
    record {
      far = files-more left rest (init_declarator_tree one) more own.covers own.defined far.far;
      kept = kept-declarator (each_in type_in s.checker.table c.args.base) c.args.base (map init_declarator_tree trees) s c.loop-tree.pass c.file_declarator.new.pass left rest (init_declarator_tree one) more far.far.known own.covers own.values far.kept;
    }

pub returns-clause-covers : goal.returns-clause-covers
returns-clause-covers c =
    let trees = c.args.trees.now in
    let index = c.loop-tree.tree-index in
    files-covers (map init_declarator_tree (drop index trees)) (ap (map init_declarator_tree) (drop_of_length-le trees c.loop-tree-test.false)) c.loop-tree.invariant.far

pub returns-clause-defined : goal.returns-clause-defined
returns-clause-defined c =
    let trees = c.args.trees.now in
    let index = c.loop-tree.tree-index in
    files-defines (map init_declarator_tree (drop index trees)) (ap (map init_declarator_tree) (drop_of_length-le trees c.loop-tree-test.false)) c.loop-tree.invariant.far

pub returns-clause-values : goal.returns-clause-values
returns-clause-values c =
    let trees = c.args.trees.now in
    let index = c.loop-tree.tree-index in
    let s = c.args.pass.now in
    kept-declarators (each_in type_in s.checker.table c.args.base) (map init_declarator_tree trees) s c.loop-tree.pass (map init_declarator_tree (drop index trees)) (ap (map init_declarator_tree) (drop_of_length-le trees c.loop-tree-test.false)) c.loop-tree.invariant.kept
