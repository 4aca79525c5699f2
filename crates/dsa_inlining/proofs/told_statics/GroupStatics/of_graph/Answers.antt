use Rattle.std.proofs.Common.{ℕ, Contains, refl, subst}
use Rattle.dsa_inlining.specs.GroupStatics.Groups.{IsBase}
use Rattle.dsa_inlining.specs.Own.{AreOwn}
use Rattle.dsa_inlining.proofs.OwnNames.{told_next}
use Rattle.dsa_inlining.proofs.told_statics.GroupStatics.of_graph.Goals as goal

pub returns : goal.returns
returns c = λ table graphs same have self bases.
    let graph = c.args.graph.now in
    let kept = c.in_ok-bases.bases in
    let are : (base : ℕ) → Contains kept.items base → IsBase table graphs graph base = λ base among. bases base (c.in_ok-bases.ensures base among) in
    let own = c.in_ok-own.ensures table graphs have (λ base among. are base (subst (λ l. Contains l base) c.deref.ensures.value among)) in
    told_next table graphs c.args.all.now have graph kept.items are self (record { bases = kept; own = c.in_ok-own.own; representatives = c.in_ok-representatives.representatives; told = c.saturating_add-told.result }) refl
    (subst (λ l. AreOwn table graphs graph l c.in_ok-own.own) c.deref.ensures.value own) (c.in_ok-representatives.ensures table)
