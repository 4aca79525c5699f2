use Rattle.std.proofs.Common.{refl, sym, ap, ◌∙◌, arith, map}
use Rattle.c_syntax.specs.Views.{declarator_tree, words_tree}
use Rattle.c_rules.specs.Programs.{tag_of, tags_in_declarator, tags_in_each}
use Rattle.c_types_state.specs.Lists.{with_tags}
use Rattle.c_types_state.proofs.Listing.{tags-then, left-more, left-end, of_each, each-more}
use Rattle.c_types_state.proofs.tags.tags_in_member.Goals as goal

pub loop-declarator-preserved : goal.loop-declarator-preserved
loop-declarator-preserved c =
    left-more of_each (λ a. with_tags (tags_in_declarator (declarator_tree a))) each-more c.as_slice-declarator-items.result.now c.loop-declarator.declarator-index c.declarator-item.result (omega arith) (sym c.declarator-item.is) c.loop-declarator.invariant c.in_ok-tags_in_declarator.ensures

pub returns : goal.returns
returns c =
    tags-then (tag_of (words_tree c.args.member.now.simple).words) (tags_in_each (map declarator_tree c.args.member.now.declarators.items)) _ _ _ c.in_ok-tag_of.ensures
    (left-end of_each (λ a. with_tags (tags_in_declarator (declarator_tree a))) (λ s. refl) c.as_slice-declarator-items.result.now c.loop-declarator.declarator-index (omega arith) c.loop-declarator.invariant
    ∙ ap (λ items. of_each items c.tag_of.new.checker) c.as_slice-declarator-items.ensures.value)
