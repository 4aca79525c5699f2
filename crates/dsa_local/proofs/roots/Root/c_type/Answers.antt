use Rattle.std.proofs.Common.{◌≡◌, Some, None, option_copied, sym, ap, ◌∙◌}
use Rattle.std.specs.Prelude.{slice_get}
use Rattle.tac_ir.specs.States.{InStart}
use Rattle.tac_ir.specs.Views.{tac_of}
use Rattle.heap_graph.specs.Points.{base_part}
use Rattle.graph_unification.proofs.FoundStatics.{got, no_global, no_literal, literal_known}
use Rattle.dsa_local.specs.Roots.{base_at}
use Rattle.dsa_local.proofs.roots.Root.c_type.Goals as goal

pub returns-in-None : goal.returns-in-None
returns-in-None c = λ graph.
    let tac = c.args.tac.now in
    let globals = tac.globals.items in
    let n = c.in-Global.global.0 in
    let none : slice_get globals n ≡ None
    = ap (λ items. slice_get items n) (sym c.deref.ensures.value) ∙ (got c.deref.result.now n c.get.result c.get.ensures.lookup ∙ ap option_copied c.in-None.is) in
    no_global tac.types globals n none ∙ sym (ap (λ root. (base_part (tac_of tac) graph InStart (base_at root)).c_type) c.in-Global.is)

pub returns-in-Some-get : goal.returns-in-Some-get
returns-in-Some-get c = λ graph.
    let tac = c.args.tac.now in
    let literals = tac.literals.items in
    let n = c.in-Literal.literal.0 in
    let there : slice_get literals n ≡ Some c.in-Some-get.definition.now
    = ap (λ items. slice_get items n) (sym c.deref-in-Literal.ensures.value) ∙ (got c.deref-in-Literal.result.now n c.get-in-Literal.result c.get-in-Literal.ensures.lookup ∙ ap option_copied c.in-Some-get.is) in
    literal_known tac.types literals n c.in-Some-get.definition.now c.requires there ∙ sym (ap (λ root. (base_part (tac_of tac) graph InStart (base_at root)).c_type) c.in-Literal.is)

pub returns-in-None-get : goal.returns-in-None-get
returns-in-None-get c = λ graph.
    let tac = c.args.tac.now in
    let literals = tac.literals.items in
    let n = c.in-Literal.literal.0 in
    let none : slice_get literals n ≡ None
    = ap (λ items. slice_get items n) (sym c.deref-in-Literal.ensures.value) ∙ (got c.deref-in-Literal.result.now n c.get-in-Literal.result c.get-in-Literal.ensures.lookup ∙ ap option_copied c.in-None-get.is) in
    no_literal tac.types literals n none ∙ sym (ap (λ root. (base_part (tac_of tac) graph InStart (base_at root)).c_type) c.in-Literal.is)
