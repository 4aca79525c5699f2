use Rattle.std.proofs.Common.{◌≡◌, ◌∙◌, ap, sym, length, Some}
use Rattle.c_types_state.specs.NameTables.{LocalTable}
use Rattle.c_types_state.proofs.LocalTables.{is_from, is_from-local_number, length-outer}
use Rattle.c_types_state.proofs.locals.Locals.is_declared_in_block.Goals as goal

pub returns-in-Some : goal.returns-in-Some
returns-in-Some c =
    let table = c.args.self.now in
    let outer : c.self.inside.outer ≡ length table.outer =
    sym (length-outer c.self.inside.locals.items c.self.inside.outer c.self.invariant.within) ∙ ap (λ (t : LocalTable). length t.outer) c.self.view_is in
    ap (λ n. is_from n (Some c.in-Some.number)) outer
    ∙ ap (is_from (length table.outer)) (sym c.in-Some.is ∙ c.number.ensures)
    ∙ is_from-local_number table.inner table.outer c.args.name.now

pub returns-in-None : goal.returns-in-None
returns-in-None c =
    let table = c.args.self.now in
    ap (is_from (length table.outer)) (sym c.in-None.is ∙ c.number.ensures) ∙ is_from-local_number table.inner table.outer c.args.name.now
