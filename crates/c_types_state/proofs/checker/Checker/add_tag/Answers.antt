use Rattle.std.proofs.Common.{true, false, List, sym, ap, ◌∙◌}
use Rattle.c_syntax.specs.Trees.{NameTree}
use Rattle.c_syntax.specs.Views.{name_tree}
use Rattle.c_rules.specs.Programs.{has_tag}
use Rattle.c_types_state.specs.NameTables.{State, with_tag}
use Rattle.c_types_state.specs.Checkers.{tags_of, state_of}
use Rattle.c_types_state.proofs.Named.{has_from, tags_with, tag_there, tags_set}
use Rattle.c_types_state.proofs.checker.Checker.add_tag.Goals as goal

pub returns-in_ok-insert-clause-done : goal.returns-in_ok-insert-clause-done
returns-in_ok-insert-clause-done c =
    let had = c.self.inside in
    let state = state_of had.types had.tags.entries had.completed.keys had.defined.keys had.file.entries had.locals had.least in
    let tag = name_tree c.args.tag.now in
    let new = has_from had.tags.entries c.as_slice-bytes.result.now tag.bytes c.as_slice-bytes.ensures c.get.result c.get.ensures.value false c.if-is_none.ensures in
    let added = ap tags_of c.in_ok-insert.ensures.entries ∙ tags_with had.tags c.in_ok-from_slice.field-0 tag (c.in_ok-from_slice.ensures.items ∙ c.as_slice-bytes.ensures) new in
    ap (λ (tags : List NameTree). tags_set state tags) added ∙ ap (λ (s : State). tags_set s (with_tag s.tags tag)) c.self.view_is

pub returns-else-is_none-clause-done : goal.returns-else-is_none-clause-done
returns-else-is_none-clause-done c =
    let now = c.args.self.now in
    let tag = name_tree c.args.tag.now in
    let there = has_from c.self.inside.tags.entries c.as_slice-bytes.result.now tag.bytes c.as_slice-bytes.ensures c.get.result c.get.ensures.value true c.if-is_none.ensures in
    ap (λ (tags : List NameTree). tags_set now tags) (tag_there now.tags tag (ap (λ (s : State). has_tag s.tags tag.bytes) (sym c.self.view_is) ∙ there))
