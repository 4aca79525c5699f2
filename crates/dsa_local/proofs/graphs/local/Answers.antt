use Rattle.std.proofs.Common.{◌≡◌, sym, ap, subst, ◌∙◌}
use Rattle.tac_ir.specs.Views.{tac_of}
use Rattle.graph_unification.specs.Memory.{graph_in}
use Rattle.call_graph.specs.GroupViews.{groups_of}
use Rattle.dsa_local.specs.Rounds.{owners_of, Settled, AreFit}
use Rattle.dsa_local.specs.Local.{owners_at, is_of}
use Rattle.dsa_local.proofs.Keeping.{joined_kept, copies_kept}
use Rattle.dsa_local.proofs.Fitted.{all_fit}
use Rattle.dsa_local.proofs.graphs.local.Goals as goal

pub settle-requires-clause-fit : goal.settle-requires-clause-fit
settle-requires-clause-fit c =
    let tac = c.args.tac.now in
    let owners = owners_at (groups_of c.args.groups.now) c.args.number in
    let its = c.in_ok-graph.ensures in
    let scopes = c.in_ok-graph.field-0.scopes.items in
    let graph = graph_in tac.types c.in_ok-graph.field-0.graph in
    subst (AreFit tac graph) (sym c.deref.ensures.value) (all_fit tac c.requires.code graph owners its.joined.told c.requires.literals scopes its.owners its.scopes)

pub returns-clause-local : goal.returns-clause-local
returns-clause-local c =
    let tac = c.args.tac.now in
    let owners = owners_at (groups_of c.args.groups.now) c.args.number in
    let its = c.in_ok-graph.ensures in
    let done = c.in_ok-settle.ensures in
    let graph = graph_in tac.types c.in_ok-graph.field-0.graph in
    let next = graph_in tac.types c.settle.new.graph in
    let same : owners_of c.deref.result.now ≡ owners = ap owners_of c.deref.ensures.value ∙ its.owners in
    record {
      joined = joined_kept (tac_of tac) c.requires.code.made owners (is_of c.args.groups.now c.args.number) graph next its.graph.sound done.goes (λ name own. done.leads.names name) its.joined;
      settled = subst (λ os. Settled (tac_of tac) os next) same done.settled;
      copies = copies_kept graph next done.leads.names its.copies;
    }
