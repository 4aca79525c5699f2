use Rattle.std.proofs.Common.{ap, sym, ◌∙◌}
use Rattle.std.proofs.lemmas.Result.{err_from_is_err_and}
use Rattle.c_grammar.specs.Table as tables
use Rattle.c_grammar.specs.Forms as forms
use Rattle.c_grammar.specs.Leaves.{leaves_of}
use Rattle.c_syntax.specs.Views as views
use Rattle.c_reader.specs.Shapes as shapes
use Rattle.c_reader.proofs.Reaching as Rows
use Rattle.c_reader.proofs.ItemRows as steps
use Rattle.c_reader.proofs.item.read_struct_item.Goals as goal

pub returns-in_err-word-clause-gives : goal.returns-in_err-word-clause-gives
returns-in_err-word-clause-gives c =
    let r0 = Rows.start (forms.symbols_of forms.ItemStruct) c.args.room (leaves_of c.args.tokens.now) in
    let p = err_from_is_err_and c.from_residual.result c.from_residual.ensures.1 in
    rw (p.1, p.2) (Rows.unfit_at _ r0 c.in_err-word.ensures.none c.in_err-word.ensures.misfit)

pub returns-in_err-name-clause-gives : goal.returns-in_err-name-clause-gives
returns-in_err-name-clause-gives c =
    let r0 = Rows.start (forms.symbols_of forms.ItemStruct) c.args.room (leaves_of c.args.tokens.now) in
    let r1 = Rows.token r0 c.in_ok-word.ensures.found in
    let p = err_from_is_err_and c.from_residual-in_err-name.result c.from_residual-in_err-name.ensures.1 in
    rw (p.1, p.2) (steps.no_name_at _ r1 c.in_err-name.ensures.gives)

pub returns-in_err-base-clause-gives : goal.returns-in_err-base-clause-gives
returns-in_err-base-clause-gives c =
    let r0 = Rows.start (forms.symbols_of forms.ItemStruct) c.args.room (leaves_of c.args.tokens.now) in
    let r1 = Rows.token r0 c.in_ok-word.ensures.found in
    let r2 = steps.name r1 c.in_ok-name.ensures.gives in
    let p = err_from_is_err_and c.from_residual-in_err-base.result c.from_residual-in_err-base.ensures.1 in
    rw (p.1, p.2) (Rows.part_at _ r2 c.in_err-base.ensures.gives)

pub returns-clause-gives : goal.returns-clause-gives
returns-clause-gives c =
    let r0 = Rows.start (forms.symbols_of forms.ItemStruct) c.args.room (leaves_of c.args.tokens.now) in
    let r1 = Rows.token r0 c.in_ok-word.ensures.found in
    let r2 = steps.name r1 c.in_ok-name.ensures.gives in
    let r3 = Rows.found r2 c.in_ok-base.ensures.gives in
    let s0 = steps.struct_is _ _ c.in_ok-name.ensures.gives.leaf c.in_ok-base.ensures.gives.parse _ c.in_ok-word.ensures.found.stands c.in_ok-name.ensures.gives.is_name in
    steps.part_through (λ parts. shapes.item_of (tables.Node forms.ItemStruct parts)) (shapes.tail_of (views.base_tree c.in_ok-boxed.boxed.value)) views.item_tree _ r3 (λ parse. ap (λ b. shapes.tail_of b parse) (s0 ∙ c.in_ok-base.ensures.gives.shape ∙ ap views.base_tree (sym c.in_ok-boxed.ensures.ok))) c.read_struct_tail.ensures.gives
