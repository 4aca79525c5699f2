use Rattle.std.proofs.Common.{◌≡◌, ◌+◌, ◌<◌, length, get_or, sym, ap, subst, ◌∙◌}
use Rattle.std.proofs.lemmas.List.{length_push}
use Rattle.c_typed.specs.DefinitionViews.{program_of}
use Rattle.ref_meaning.specs.Firsts.{AreFirsts}
use Rattle.ref_meaning.proofs.FirstObjects.{global_fits, firsts_push}
use Rattle.ref_meaning.proofs.store.Store.first_values.Goals as goal

pub first_elements-requires-clause-fits : goal.first_elements-requires-clause-fits
first_elements-requires-clause-fits c =
    let globals = c.args.program.now.globals.items in
    let n = c.loop-global.global-index in
    let global = c.global-item.result in
    let items = c.deref-global-items.ensures.value in
    let within : n < length globals = subst (λ l. n < length l) items c.loop-global-test.true in
    let at : global ≡ get_or globals n global = c.global-item.is ∙ ap (λ l. get_or l n global) items in
    global_fits (program_of c.args.program.now) c.args.program.now.types globals n global c.requires.fit within at

pub loop-global-preserved : goal.loop-global-preserved
loop-global-preserved c =
    let globals = c.args.program.now.globals.items in
    let global = c.global-item.result in
    let items = c.deref-global-items.ensures.value in
    let made = c.loop-global.firsts.items in
    let last = c.in_ok-elements.elements in
    let program = program_of c.args.program.now in
    let table = c.args.self.now.types.now in
    let pushed = c.in_ok-push.ensures.items in
    let count = c.loop-global.invariant.length in
    let within : length made < length globals = subst (λ k. k < length globals) (sym count) (subst (λ l. c.loop-global.global-index < length l) items c.loop-global-test.true) in
    let at : global ≡ get_or globals (length made) global = c.global-item.is ∙ λ i. get_or (items i) (sym count i) global in
    record {
      length = ap length pushed ∙ (length_push made last ∙ ap (λ k. k + 1) count);
      firsts = subst (AreFirsts program table globals) (sym pushed) (firsts_push program table globals made global last within at c.in_ok-elements.ensures c.loop-global.invariant.firsts);
    }
