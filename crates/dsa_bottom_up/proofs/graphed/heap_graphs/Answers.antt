use Rattle.std.proofs.Common.{◌≡◌, Err, sym, ap, subst}
use Rattle.std.specs.Prelude.{IsErrAnd}
use Rattle.dsa_bottom_up.specs.declared.program.GraphErr.TheVariants as E
use Rattle.call_graph.specs.GroupViews.{groups_of}
use Rattle.dsa_bottom_up.specs.CodeGraphs.Made.{graphs_in}
use Rattle.dsa_bottom_up.proofs.Sources.{calls, grouped, graphed, overgrown}
use Rattle.dsa_bottom_up.proofs.graphed.heap_graphs.Goals as goal

pub groups-requires : goal.groups-requires
groups-requires c = calls c.requires.0 c.requires.1 c.args.tac.now c.args.counts.now c.requires.2

pub bottom_up-requires : goal.bottom_up-requires
bottom_up-requires c = record { grouped = grouped c.requires.0 c.requires.1 c.args.tac.now c.args.counts.now c.requires.2 c.in_ok-groups.groups c.in_ok-groups.ensures.groups c.in_ok-groups.ensures.of }

pub returns-in_err-graphs-clause-refused : goal.returns-in_err-graphs-clause-refused
returns-in_err-graphs-clause-refused c = λ program first source count is.
    let error = c.in_err-graphs.field-0.0 in
    let same : E.TooMany count ≡ error = subst (λ r. IsErrAnd r (λ e. e ≡ error)) is c.from_residual-in_err-graphs.ensures.1 in
    overgrown program first c.args.tac.now c.args.counts.now source (groups_of c.in_ok-groups.groups) count c.in_ok-groups.ensures.groups
    (λ start. c.in_err-graphs.ensures.refused start count (ap Err (sym same)))

pub returns-clause-graphs : goal.returns-clause-graphs
returns-clause-graphs c = λ program first source.
    let graphs = graphs_in c.args.tac.now (record { groups = c.in_ok-groups.groups; graphs = c.in_ok-graphs.graphs }) in
    let told = c.in_ok-graphs.ensures in
    graphed program first c.args.tac.now c.args.counts.now source (groups_of c.in_ok-groups.groups) graphs c.in_ok-groups.ensures.groups told.closed told.smallest told.least_below told.least told.few told.few_first

pub returns-clause-grouped : goal.returns-clause-grouped
returns-clause-grouped c = grouped c.requires.0 c.requires.1 c.args.tac.now c.args.counts.now c.requires.2 c.in_ok-groups.groups c.in_ok-groups.ensures.groups c.in_ok-groups.ensures.of
