use Rattle.std.proofs.Common.{refl, sym, ap, ◌∙◌, arith}
use Rattle.c_syntax.specs.Trees.{InitTree}
use Rattle.c_syntax.specs.Views.{init_tree}
use Rattle.c_syntax.proofs.SyntaxRows.{init_tree-list}
use Rattle.c_rules.specs.Programs.{tags_in_init}
use Rattle.c_types_state.specs.Lists.{with_tags}
use Rattle.c_types_state.proofs.Listing.{left-more, left-end, of_inits, inits-more}
use Rattle.c_types_state.proofs.tags.+tags_in_init.Goals as goal

pub loop-init-preserved : goal.loop-init-preserved
loop-init-preserved t c =
    left-more of_inits (λ a. with_tags (tags_in_init (init_tree a))) inits-more c.as_slice-init-items.result.now c.loop-init.init-index c.init-item.result (omega arith) (sym c.init-item.is) c.loop-init.invariant c.in_ok-tags_in_init-in-List.ensures

pub returns-after-loop-init : goal.returns-after-loop-init
returns-after-loop-init t c =
    left-end of_inits (λ a. with_tags (tags_in_init (init_tree a))) (λ s. refl) c.as_slice-init-items.result.now c.loop-init.init-index (omega arith) c.loop-init.invariant
    ∙ ap (λ inits. of_inits inits c.args.checker.now) c.as_slice-init-items.ensures.value
    ∙ ap (λ (tree : InitTree). with_tags (tags_in_init tree) c.args.checker.now) (sym (ap init_tree c.in-List.is ∙ init_tree-list c.in-List.place c.in-List.inits))
