use Rattle.std.proofs.Common.{◌≡◌, Some, None, option_copied, sym, ap, ◌∙◌}
use Rattle.std.specs.Prelude.{slice_get}
use Rattle.graph_unification.specs.Memory.{graph_in}
use Rattle.graph_unification.proofs.FoundStatics.{got}
use Rattle.dsa_local.proofs.Found.{global_slot, on_ok_global, no_global}
use Rattle.dsa_local.proofs.mentioned.mention_global.Goals as goal

pub add_global-requires-clause-slot : goal.add_global-requires-clause-slot
add_global-requires-clause-slot c =
    let n = c.args.global.0 in
    let there : slice_get c.args.tac.now.globals.items n ≡ Some c.in-Some.definition.now
    = ap (λ items. slice_get items n) (sym c.deref.ensures.value) ∙ (got c.deref.result.now n c.get.result c.get.ensures.lookup ∙ ap option_copied c.in-Some.is) in
    global_slot c.args.tac.now n c.in-Some.definition.now there c.requires.code

pub returns-in-Some-clause-adds : goal.returns-in-Some-clause-adds
returns-in-Some-clause-adds c =
    let n = c.args.global.0 in
    let there : slice_get c.args.tac.now.globals.items n ≡ Some c.in-Some.definition.now
    = ap (λ items. slice_get items n) (sym c.deref.ensures.value) ∙ (got c.deref.result.now n c.get.result c.get.ensures.lookup ∙ ap option_copied c.in-Some.is) in
    on_ok_global c.args.tac.now n c.in-Some.definition.now there c.add_global.result (graph_in c.args.tac.now.types c.args.graph.now) (graph_in c.args.tac.now.types c.add_global.new.graph) c.add_global.ensures.adds

pub returns-in-None-clause-adds : goal.returns-in-None-clause-adds
returns-in-None-clause-adds c =
    let n = c.args.global.0 in
    let none : slice_get c.args.tac.now.globals.items n ≡ None
    = ap (λ items. slice_get items n) (sym c.deref.ensures.value) ∙ (got c.deref.result.now n c.get.result c.get.ensures.lookup ∙ ap option_copied c.in-None.is) in
    no_global c.args.tac.now n none (graph_in c.args.tac.now.types c.args.graph.now)
