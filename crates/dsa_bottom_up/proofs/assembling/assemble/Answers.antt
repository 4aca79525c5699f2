use Rattle.std.proofs.Common.{◌≡◌, length, sym, ap, subst, ◌∙◌}
use Rattle.tac_ir.specs.Views.{tac_of}
use Rattle.c_typed.specs.Table.{structs_in}
use Rattle.graph_unification.specs.Memory.{graph_in}
use Rattle.graph_unification.specs.Leading.{Leads}
use Rattle.dsa_inlining.specs.CallCopies.Telling.{OnlyAsked}
use Rattle.dsa_local.specs.Rounds.{owners_of, Settled, AreFit}
use Rattle.dsa_local.specs.Growing.{OnlyArrays}
use Rattle.dsa_local.specs.Sizes.{SizesTold, AsksOwner}
use Rattle.dsa_local.proofs.Fitted.{all_fit}
use Rattle.dsa_inlining.specs.Before.{graphs_before}
use Rattle.dsa_inlining.specs.Asking.{AsksCall}
use Rattle.dsa_inlining.specs.Crossings.{owners_in, EachStands, AllCopiesTold}
use Rattle.dsa_inlining.proofs.Keeping.{stands_each}
use Rattle.dsa_bottom_up.specs.Assembling.{TellEach}
use Rattle.dsa_bottom_up.proofs.Leading.{settled_leads}
use Rattle.dsa_bottom_up.proofs.FrozenBases.{bases_kept, bases_frozen}
use Rattle.dsa_bottom_up.proofs.Crossed.{crossing_sized, goes_all, assembled}
use Rattle.dsa_bottom_up.proofs.assembling.assemble.Goals as goal

pub settle-requires-clause-fit : goal.settle-requires-clause-fit
settle-requires-clause-fit c =
    let tac = c.args.before.tac.now in
    let owners = owners_in c.args.owners.now in
    let graph = graph_in tac.types c.cross_all.new.graph in
    subst (AreFit tac graph) (sym c.deref.ensures.value)
    (all_fit tac c.requires.known.code graph owners c.in_ok-joined.ensures.told c.requires.known.literals c.args.local.scopes.items c.requires.owned c.requires.scopes)

pub tell_sizes-requires-clause-settled : goal.tell_sizes-requires-clause-settled
tell_sizes-requires-clause-settled c =
    let tac = c.args.before.tac.now in
    subst (λ scopes. Settled (tac_of tac) (owners_of scopes) (graph_in tac.types c.settle.new.graph)) (c.deref.ensures.value ∙ sym c.deref-2.ensures.value) c.in_ok-settle.ensures.settled

pub tell_all-requires-clause-stand : goal.tell_all-requires-clause-stand
tell_all-requires-clause-stand c =
    let show = graph_in c.args.before.tac.now.types in
    let before = graphs_before c.args.before in
    let all = c.in_ok-joined.joined.crossings.items in
    let first = c.in_ok-joined.ensures in
    let next = c.in_ok-settle.ensures in
    let sized = c.tell_sizes.ensures in
    let its = crossing_sized before c.requires.known.code.made c.args.group c.args.owners.now all (show c.args.local.graph) (show c.cross_all.new.graph) (show c.settle.new.graph) (show c.tell_sizes.new.graph)
    c.requires.graph.sound first.graph.sound next.graph.sound sized.graph.sound first.goes next.goes sized.goes c.requires.joined first.told first.crossed next.leads.names sized.grows.names in
    subst (λ l. EachStands before l (show c.tell_sizes.new.graph)) (sym c.deref-3.ensures.value) (stands_each before c.args.group c.args.owners.now all (show c.tell_sizes.new.graph) its.crossed)

pub function_graphs-requires : goal.function_graphs-requires
function_graphs-requires c =
    let kept = c.in_ok-frozen.ensures c.args.before.tac.now.types c.tell_all.ensures.graph in
    record { size = ap length c.deref-4.ensures.value ∙ (c.in_ok-joined.ensures.crossed.size ∙ sym kept.size) }

pub returns-clause-assembled : goal.returns-clause-assembled
returns-clause-assembled c =
    let tac = c.args.before.tac.now in
    let show = graph_in tac.types in
    let before = graphs_before c.args.before in
    let made = c.requires.known.code.made in
    let group = c.args.group in
    let owners = c.args.owners.now in
    let all = c.in_ok-joined.joined.crossings.items in
    let first = c.in_ok-joined.ensures in
    let next = c.in_ok-settle.ensures in
    let sized = c.tell_sizes.ensures in
    let last = c.tell_all.ensures in
    let begun = show c.args.local.graph in
    let crossed = show c.cross_all.new.graph in
    let settled = show c.settle.new.graph in
    let grown = show c.tell_sizes.new.graph in
    let done = show c.tell_all.new.graph in
    let frozen = c.in_ok-frozen.field-0 in
    let functions = c.in_ok-functions.functions.items in
    let same : owners_of c.deref-2.result.now ≡ owners_in owners = ap owners_of c.deref-2.ensures.value ∙ c.requires.owned in
    let scoped : owners_of c.deref.result.now ≡ owners_in owners = ap owners_of c.deref.ensures.value ∙ c.requires.owned in
    let its = crossing_sized before made group owners all begun crossed settled grown c.requires.graph.sound first.graph.sound next.graph.sound sized.graph.sound first.goes next.goes sized.goes c.requires.joined
    first.told first.crossed next.leads.names sized.grows.names in
    assembled before made group owners all begun settled grown done frozen functions c.requires.reached
    (goes_all before made group owners begun crossed settled grown done c.requires.graph.sound first.goes next.goes sized.goes last.goes) its first.apart
    (settled_leads before group owners all begun crossed settled first.leads (subst (λ os. Leads (structs_in tac.types) crossed settled (Settled (tac_of tac) os)) scoped next.leads)) sized.grows
    (subst (λ os. OnlyArrays (AsksOwner (tac_of tac) os settled) settled grown) same sized.arrays) (subst (λ l. OnlyAsked (AsksCall before l grown) grown done) c.deref-3.ensures.value last.only)
    last.graph.sound last.goes last.arrays
    (subst (λ os. Settled (tac_of tac) os grown) same sized.settled) (subst (λ os. SizesTold (tac_of tac) os grown) same sized.told)
    (subst (λ l. AllCopiesTold before l done) c.deref-3.ensures.value last.told) (c.in_ok-frozen.ensures tac.types last.graph)
    (subst (λ l. TellEach done frozen.names.items l functions) c.deref-4.ensures.value (c.in_ok-functions.ensures tac.types last.graph))

pub returns-clause-bases : goal.returns-clause-bases
returns-clause-bases c =
    let tac = c.args.before.tac.now in
    let show = graph_in tac.types in
    let before = graphs_before c.args.before in
    let made = c.requires.known.code.made in
    let bases = c.in_ok-joined.joined.bases.items in
    let first = c.in_ok-joined.ensures in
    let next = c.in_ok-settle.ensures in
    let sized = c.tell_sizes.ensures in
    let last = c.tell_all.ensures in
    let crossed = show c.cross_all.new.graph in
    let settled = show c.settle.new.graph in
    let grown = show c.tell_sizes.new.graph in
    let done = show c.tell_all.new.graph in
    let kept = bases_kept before bases made in
    bases_frozen before bases c.args.owners.now done c.in_ok-frozen.field-0
    (c.in_ok-frozen.ensures tac.types last.graph)
    (kept grown done sized.graph.sound last.goes (kept settled grown next.graph.sound sized.goes (kept crossed settled first.graph.sound next.goes first.bases)))
