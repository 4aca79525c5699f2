use Rattle.std.proofs.Common.{rules, ◌≡◌, ◌<◌, ◌∙◌, ap, sym, length, reverse, get_or}
use Rattle.std.proofs.lemmas.List.{length-map, length-reverse, reverse-reverse}
use Rattle.c_types_state.specs.declared.locals.Local.{Local}
use Rattle.c_types_state.specs.NameTables.{all_locals, local_number, local_type}
use Rattle.c_types_state.specs.LocalTables.{entry_of, entries_of}
use Rattle.c_types_state.proofs.LocalTables.{all_locals-table_of, number_below, local_type-none, local_type-read}
use Rattle.c_types_state.proofs.locals.Locals.c_type.Goals as goal

pub returns-in_err-number : goal.returns-in_err-number
returns-in_err-number c =
    c.from_residual.ensures ∙ sym (local_type-none (all_locals c.args.self.now) c.args.name.now (sym c.number.ensures ∙ c.in_err-number.was))

pub index-requires : goal.index-requires
index-requires c =
    let locals = c.self.inside.locals.items in
    let all = sym (ap all_locals c.self.view_is) ∙ all_locals-table_of locals c.self.inside.outer in
    let number = ap (λ es. local_number es c.args.name.now) (sym all) ∙ sym c.number.ensures ∙ c.in_ok-number.was in
    let below : c.in_ok-number.number < length (entries_of (reverse locals)) = number_below (entries_of (reverse locals)) c.args.name.now c.in_ok-number.number number in
    let long : length (entries_of (reverse locals)) ≡ length locals = length-map (reverse locals) entry_of ∙ length-reverse locals in
    search rules

pub returns : goal.returns
returns c =
    let locals = c.self.inside.locals.items in
    let all = sym (ap all_locals c.self.view_is) ∙ all_locals-table_of locals c.self.inside.outer in
    let number = ap (λ es. local_number es c.args.name.now) (sym all) ∙ sym c.number.ensures ∙ c.in_ok-number.was in
    ap (λ (l : Local). l.c_type) c.index.ensures
    ∙ ap (λ ls. (get_or ls c.in_ok-number.number c.index.result.now).c_type) (sym (reverse-reverse locals))
    ∙ sym (local_type-read (reverse locals) c.args.name.now c.in_ok-number.number c.index.result.now number)
    ∙ ap (λ es. local_type es c.args.name.now) (sym all)
