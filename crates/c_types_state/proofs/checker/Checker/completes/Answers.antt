use Rattle.std.proofs.Common.{ap, ◌∙◌}
use Rattle.c_typed.specs.Table.{tag_in}
use Rattle.c_typed.specs.Names.{contains}
use Rattle.c_types_state.specs.NameTables.{State}
use Rattle.c_types_state.specs.Checkers.{names_of}
use Rattle.c_types_state.proofs.Named.{contains_names}
use Rattle.c_types_state.proofs.checker.Checker.completes.Goals as goal

pub returns : goal.returns
returns c =
    let keys = c.self.inside.completed.keys in
    c.contains.ensures
    ∙ contains_names c.tag.result.now keys
    ∙ ap (contains (names_of keys)) c.tag.ensures
    ∙ ap (λ (s : State). contains s.completed (tag_in s.table c.args.id)) c.self.view_is
