use Rattle.std.proofs.Common.{refl, ◌∙◌}
use Rattle.std.proofs.lemmas.Result.{err_from_is_err_and}
use Rattle.c_reader.specs.Shapes as shapes
use Rattle.c_reader.proofs.Reaching as Rows
use Rattle.c_reader.proofs.ItemRows as steps
use Rattle.c_reader.proofs.WordRows as words
use Rattle.std.proofs.Common.{true}
use Rattle.c_reader.proofs.item.read_struct_base.Goals as goal

pub returns-in_err-word-clause-gives : goal.returns-in_err-word-clause-gives
returns-in_err-word-clause-gives c =
    let p = err_from_is_err_and c.from_residual.result c.from_residual.ensures.1 in
    rw (p.1, p.2) (words.no_tag true _ c.args.room _ c.requires c.in_err-word.ensures.none c.in_err-word.ensures.misfit)

pub returns-in_err-name-clause-gives : goal.returns-in_err-name-clause-gives
returns-in_err-name-clause-gives c =
    let r0 = Rows.begin (steps.struct_row c.args.room c.in_ok-word.ensures.found) in
    let r1 = Rows.token r0 c.in_ok-word.ensures.found in
    let p = err_from_is_err_and c.from_residual-in_err-name.result c.from_residual-in_err-name.ensures.1 in
    rw (p.1, p.2) (steps.no_name_at _ r1 c.in_err-name.ensures.gives)

pub returns-in_err-base-clause-gives : goal.returns-in_err-base-clause-gives
returns-in_err-base-clause-gives c =
    let r0 = Rows.begin (steps.struct_row c.args.room c.in_ok-word.ensures.found) in
    let r1 = Rows.token r0 c.in_ok-word.ensures.found in
    let r2 = steps.name r1 c.in_ok-name.ensures.gives in
    let p = err_from_is_err_and c.from_residual-in_err-base.result c.from_residual-in_err-base.ensures.1 in
    rw (p.1, p.2) (Rows.part_at _ r2 c.in_err-base.ensures.gives)

pub returns-in_err-first_kind-clause-gives : goal.returns-in_err-first_kind-clause-gives
returns-in_err-first_kind-clause-gives c =
    let r0 = Rows.begin (steps.struct_row c.args.room c.in_ok-word.ensures.found) in
    let r1 = Rows.token r0 c.in_ok-word.ensures.found in
    let r2 = steps.name r1 c.in_ok-name.ensures.gives in
    let r3 = Rows.found r2 c.in_ok-base.ensures.gives in
    let p = err_from_is_err_and c.from_residual-in_err-first_kind.result c.from_residual-in_err-first_kind.ensures.1 in
    rw (p.1, p.2) (Rows.part_at _ r3 (words.words_cut c.args.room _ (c.pass_words.ensures.passes true c.args.room) c.in_err-first_kind.ensures.none c.in_err-first_kind.ensures.misfit))

pub returns-clause-gives : goal.returns-clause-gives
returns-clause-gives c =
    let r0 = Rows.begin (steps.struct_row c.args.room c.in_ok-word.ensures.found) in
    let r1 = Rows.token r0 c.in_ok-word.ensures.found in
    let r2 = steps.name r1 c.in_ok-name.ensures.gives in
    let r3 = Rows.found r2 c.in_ok-base.ensures.gives in
    let r4 = Rows.found r3 (steps.words_behind c.args.place (c.pass_words.ensures.passes true c.args.room) c.pass_words.ensures.ends c.in_ok-first_kind.ensures.found) in
    let s0 = steps.struct_is c.args.place c.args.place c.in_ok-name.ensures.gives.leaf c.in_ok-base.ensures.gives.parse _ refl c.in_ok-name.ensures.gives.is_name in
    Rows.finish (shapes.base_from c.args.place) _ r4 (s0 ∙ c.in_ok-base.ensures.gives.shape)
