use Rattle.std.proofs.Common.{◌<◌, length, refl, sym, ap, subst, ◌∙◌, arith}
use Rattle.std.specs.Prelude.{slice_get}
use Rattle.std.proofs.lemmas.Option.{slice_get_read}
use Rattle.dsa_inlining.specs.declared.tally.Tally.{Tally}
use Rattle.dsa_inlining.specs.Tallies.{Adds, any_of, own_names}
use Rattle.dsa_inlining.proofs.GroupCounts.ToldGroups.{graph_there, counted_told}
use Rattle.dsa_inlining.proofs.tally.Tally.add_told.Goals as goal

pub returns : goal.returns
returns c =
    let group = c.in-Some.group.now in
    let graphs = c.args.before.graphs.now in
    let numbers = c.deref.result.now in
    let old = c.args.self.now in
    let new : Tally = record { count = old.count; mentions = c.add_groups.new.self; told = c.tell_group.new.told } in
    let of
    = ap (λ items. slice_get items c.args.called) (sym c.deref.ensures.value)
    ∙ slice_get_read numbers (length numbers) c.args.called group refl c.in-Some.ensures.lookup.3.0 c.in-Some.ensures.lookup.1 in
    let adds = subst (λ groups. Adds (any_of (own_names c.args.before.statics.now) groups) old.mentions c.add_groups.new.self) c.as_slice.ensures.value c.add_groups.ensures in
    let within : group < length graphs = omega (arith, c.if-group-before.false) in
    let found = graph_there graphs group within in
    counted_told c.args.before c.requires group c.in_ok-added.added.items old new c.in_ok-added.ensures adds found.0 found.1 c.args.called of refl
