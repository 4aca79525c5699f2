use Rattle.std.proofs.Common.{◌∙◌, ap, sym}
use Rattle.c_types_state.specs.NameTables.{all_locals, local_number}
use Rattle.c_types_state.proofs.LocalTables.{all_locals-table_of}
use Rattle.c_types_state.proofs.locals.Locals.number.Goals as goal

pub returns : goal.returns
returns c =
    let all = all_locals-table_of c.self.inside.locals.items c.self.inside.outer in
    c.copied.ensures ∙ c.get.ensures.value ∙ c.self.invariant.meaning c.args.name.now
    ∙ ap (λ es. local_number es c.args.name.now) (sym all ∙ ap all_locals c.self.view_is)
