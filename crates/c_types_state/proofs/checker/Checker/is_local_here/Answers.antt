use Rattle.std.proofs.Common.{ap, ◌∙◌}
use Rattle.c_rules.specs.Names.{is_local_here}
use Rattle.c_types_state.specs.NameTables.{State, scope_of}
use Rattle.c_types_state.proofs.Named.{local_here}
use Rattle.c_types_state.proofs.checker.Checker.is_local_here.Goals as goal

pub returns : goal.returns
returns c =
    let had = c.self.inside in
    c.is_declared_in_block.ensures
    ∙ local_here had.types c.args.name.now had.locals.inner
    ∙ ap (λ (s : State). is_local_here (scope_of s) c.args.name.now) c.self.view_is
