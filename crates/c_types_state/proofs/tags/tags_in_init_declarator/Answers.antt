use Rattle.std.proofs.Common.{◌++◌, ap, option_map}
use Rattle.std.proofs.lemmas.Result.{on_ok_weaker}
use Rattle.c_syntax.specs.Views.{declarator_tree, init_tree}
use Rattle.c_rules.specs.Programs.{tags_in_declarator, tags_in_first, tags_in_init}
use Rattle.c_types_state.proofs.Listing.{two_parts, declarator_tags}
use Rattle.c_types_state.proofs.tags.tags_in_init_declarator.Goals as goal

pub returns-in-Some : goal.returns-in-Some
returns-in-Some c =
    let declarator = tags_in_declarator (declarator_tree c.args.tree.now.declarator) in
    on_ok_weaker c.tags_in_init.result
    (two_parts (declarator_tags c.args.tree.now) declarator (tags_in_init (init_tree c.in-Some.init)) _ _ _
    (ap (λ init. declarator ++ tags_in_first (option_map init_tree init)) c.in-Some.is) c.in_ok-tags_in_declarator.ensures)
    c.tags_in_init.ensures
