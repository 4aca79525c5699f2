use Rattle.std.proofs.Common.{◌<◌, length, None, sym, ap, ◌∙◌, subst}
use Rattle.std.specs.Prelude.{IsSome}
use Rattle.std.proofs.lemmas.List.{get_or_read}
use Rattle.run_theory.specs.Words.{word_at}
use Rattle.slab_space.specs.Runs.{owner_at}
use Rattle.slab_space.specs.Slots.{slot_bytes}
use Rattle.slab_space.specs.Space.{Space}
use Rattle.slab_space.proofs.Spaces.{held_reached, word_at-slab}
use Rattle.slab_space.proofs.space.SlabSpace.read.Goals as goal

pub returns-clause-word : goal.returns-clause-word
returns-clause-word c =
    let s = c.self.inside in let slots = s.slots.items in let slab = c.args.slab in
    let held = subst (λ (v : Space). IsSome (owner_at v.owners slab)) (sym c.self.view_is) c.requires.held in
    let reached : slab < length slots = held_reached slots s.limit slab held in
    let slot = sym (get_or_read slots slab c.index.result.now reached c.index.ensures None) ∙ c.in-Some.is in
    rw (← c.self.view_is)
    (c.read.ensures.word ∙ ap (λ t. word_at (slot_bytes t) c.args.off c.args.width) (sym slot) ∙ sym (word_at-slab slots s.limit slab reached c.args.off c.args.width c.requires.inside))
