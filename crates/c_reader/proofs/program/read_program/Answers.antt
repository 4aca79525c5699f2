use Rattle.std.proofs.Common.{arith, refl, sym, ◌∙◌}
use Rattle.std.proofs.lemmas.Result.{err_from_is_err_and}
use Rattle.c_grammar.specs.Table as tables
use Rattle.c_grammar.specs.Forms as forms
use Rattle.c_reader.specs.Shapes as shapes
use Rattle.c_reader.proofs.Reaching as Rows
use Rattle.c_reader.proofs.SameItems as same
use Rattle.std.proofs.Common.{◌||◌}
use Rattle.c_grammar.specs.Kinds as kinds
use Rattle.c_grammar.specs.declared.kind.Kind.TheVariants as K
use Rattle.c_grammar.specs.Chooses as chooses
use Rattle.c_reader.proofs.program.read_program.Goals as goal

pub returns-in_err-first_kind : goal.returns-in_err-first_kind
returns-in_err-first_kind c =
    let p = err_from_is_err_and c.from_residual.result c.from_residual.ensures.1 in
    rw (p.1, p.2) (Rows.empty_fails _ _ _ _ c.in_err-first_kind.ensures.none c.in_err-first_kind.ensures.misfit)

pub returns-then-not-begins_program : goal.returns-then-not-begins_program
returns-then-not-begins_program c =
    Rows.none_fails _ _ c.in_ok-first_kind.ensures.found (Rows.tells_none forms.WholeProgram (kinds.is c.in_ok-first_kind.field-0 K.End || chooses.begins_item c.in_ok-first_kind.field-0) (sym c.begins_program.ensures ∙ c.if-not-begins_program.true) (λ next. refl)) c.first_place.ensures

pub returns-in_err-items : goal.returns-in_err-items
returns-in_err-items c =
    let r0 = Rows.begin {below = c.args.room} record { kind = _; begins = c.in_ok-first_kind.ensures.found; tells = Rows.tells_if forms.WholeProgram tables.Never (kinds.is c.in_ok-first_kind.field-0 K.End || chooses.begins_item c.in_ok-first_kind.field-0) (sym c.begins_program.ensures ∙ c.if-not-begins_program.false) (λ next. refl); fits = omega arith; down = omega arith; ends = record { ends = λ own kind. refl } } in
    let p = err_from_is_err_and c.from_residual-in_err-items.result c.from_residual-in_err-items.ensures.1 in
    rw (p.1, p.2) (Rows.part_at _ r0 c.in_err-items.ensures)

pub returns-in_err-end : goal.returns-in_err-end
returns-in_err-end c =
    let r0 = Rows.begin {below = c.args.room} record { kind = _; begins = c.in_ok-first_kind.ensures.found; tells = Rows.tells_if forms.WholeProgram tables.Never (kinds.is c.in_ok-first_kind.field-0 K.End || chooses.begins_item c.in_ok-first_kind.field-0) (sym c.begins_program.ensures ∙ c.if-not-begins_program.false) (λ next. refl); fits = omega arith; down = omega arith; ends = record { ends = λ own kind. refl } } in
    let r1 = Rows.found r0 c.in_ok-items.ensures in
    let p = err_from_is_err_and c.from_residual-in_err-end.result c.from_residual-in_err-end.ensures.1 in
    rw (p.1, p.2) (Rows.unfit_at _ r1 c.in_err-end.ensures.none c.in_err-end.ensures.misfit)

pub returns : goal.returns
returns c =
    let r0 = Rows.begin {below = c.args.room} record { kind = _; begins = c.in_ok-first_kind.ensures.found; tells = Rows.tells_if forms.WholeProgram tables.Never (kinds.is c.in_ok-first_kind.field-0 K.End || chooses.begins_item c.in_ok-first_kind.field-0) (sym c.begins_program.ensures ∙ c.if-not-begins_program.false) (λ next. refl); fits = omega arith; down = omega arith; ends = record { ends = λ own kind. refl } } in
    let r1 = Rows.found r0 c.in_ok-items.ensures in
    let r2 = Rows.token r1 c.in_ok-end.ensures.found in
    Rows.finish shapes.program_of _ r2 (Rows.same_two same.made_program c.in_ok-items.ensures.shape c.in_ok-end.ensures.found.stands)
