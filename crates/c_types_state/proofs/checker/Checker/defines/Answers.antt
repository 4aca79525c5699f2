use Rattle.std.proofs.Common.{ap, ◌∙◌}
use Rattle.c_typed.specs.Names.{contains}
use Rattle.c_types_state.specs.NameTables.{State}
use Rattle.c_types_state.proofs.Named.{contains_names}
use Rattle.c_types_state.proofs.checker.Checker.defines.Goals as goal

pub returns : goal.returns
returns c =
    c.contains.ensures
    ∙ contains_names c.args.name.now c.self.inside.defined.keys
    ∙ ap (λ (s : State). contains s.defined c.args.name.now) c.self.view_is
