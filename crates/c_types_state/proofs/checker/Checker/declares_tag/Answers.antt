use Rattle.std.proofs.Common.{not, Option, ap, ◌∙◌}
use Rattle.run_theory.specs.declared.place.Pos.{Pos}
use Rattle.c_syntax.specs.Views.{name_tree}
use Rattle.c_rules.specs.Names.{declares_tag}
use Rattle.c_types_state.specs.NameTables.{State}
use Rattle.c_types_state.proofs.Named.{is_declared, declared_by}
use Rattle.c_types_state.proofs.checker.Checker.declares_tag.Goals as goal

pub returns-in-Some : goal.returns-in-Some
returns-in-Some c =
    let tag = name_tree c.args.tag.now in
    ap not c.is_before.ensures
    ∙ ap (λ (found : Option Pos). is_declared found tag) c.in-Some.ensures.value
    ∙ declared_by tag c.self.inside.tags.entries c.as_slice.result.now c.as_slice.ensures
    ∙ ap (λ (s : State). declares_tag s.tags tag) c.self.view_is

pub returns-in-None : goal.returns-in-None
returns-in-None c =
    let tag = name_tree c.args.tag.now in
    ap (λ (found : Option Pos). is_declared found tag) c.in-None.ensures.value
    ∙ declared_by tag c.self.inside.tags.entries c.as_slice.result.now c.as_slice.ensures
    ∙ ap (λ (s : State). declares_tag s.tags tag) c.self.view_is
