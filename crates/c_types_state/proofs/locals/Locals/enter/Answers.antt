use Rattle.std.proofs.Common.{rules, [], ◌∙◌, ap}
use Rattle.c_types_state.specs.NameTables.{LocalTable, all_locals}
use Rattle.c_types_state.proofs.LocalTables.{table_of-all}
use Rattle.c_types_state.proofs.locals.Locals.enter.Goals as goal

pub returns-clause-scope : goal.returns-clause-scope
returns-clause-scope c =
    table_of-all c.self.inside.locals.items c.self.inside.outer c.len-self-inside.result (search rules)
    ∙ ap (λ (t : LocalTable). record { inner = []; outer = all_locals t }) c.self.view_is
