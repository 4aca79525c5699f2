use Rattle.std.proofs.Common.{ap, sym, ◌∙◌}
use Rattle.std.proofs.lemmas.Result.{err_from_is_err_and}
use Rattle.c_grammar.specs.Table as tables
use Rattle.c_grammar.specs.Forms as forms
use Rattle.c_grammar.specs.Leaves.{leaves_of}
use Rattle.c_syntax.specs.Views as views
use Rattle.c_reader.specs.Shapes as shapes
use Rattle.c_reader.proofs.Reaching as Rows
use Rattle.c_reader.proofs.ItemRows as steps
use Rattle.c_reader.proofs.item.read_typed_item.Goals as goal

pub returns-in_err-word-clause-gives : goal.returns-in_err-word-clause-gives
returns-in_err-word-clause-gives c =
    let r0 = Rows.start (forms.symbols_of (forms.ItemTyped c.args.kind c.args.words)) c.args.room (leaves_of c.args.tokens.now) in
    let p = err_from_is_err_and c.from_residual.result c.from_residual.ensures.1 in
    rw (p.1, p.2) (Rows.unfit_at _ r0 c.in_err-word.ensures.none c.in_err-word.ensures.misfit)

pub returns-in_err-base-clause-gives : goal.returns-in_err-base-clause-gives
returns-in_err-base-clause-gives c =
    let r0 = Rows.start (forms.symbols_of (forms.ItemTyped c.args.kind c.args.words)) c.args.room (leaves_of c.args.tokens.now) in
    let r1 = Rows.token r0 c.in_ok-word.ensures.found in
    let p = err_from_is_err_and c.from_residual-in_err-base.result c.from_residual-in_err-base.ensures.1 in
    rw (p.1, p.2) (Rows.part_at _ r1 c.in_err-base.ensures.gives)

pub returns-clause-gives : goal.returns-clause-gives
returns-clause-gives c =
    let r0 = Rows.start (forms.symbols_of (forms.ItemTyped c.args.kind c.args.words)) c.args.room (leaves_of c.args.tokens.now) in
    let r1 = Rows.token r0 c.in_ok-word.ensures.found in
    let r2 = Rows.found r1 c.in_ok-base.ensures.gives in
    let s0 = ap (λ place. shapes.base_from place c.in_ok-base.ensures.gives.parse) c.in_ok-word.ensures.found.stands ∙ c.in_ok-base.ensures.gives.shape ∙ ap views.base_tree (sym c.in_ok-boxed.ensures.ok) in
    steps.part_through (λ parts. shapes.item_of (tables.Node (forms.ItemTyped c.args.kind c.args.words) parts)) (shapes.declared_of (views.base_tree c.in_ok-boxed.boxed.value)) views.item_tree _ r2 (λ parse. ap (λ b. shapes.declared_of b parse) s0) c.read_declared.ensures.gives
