use Rattle.std.proofs.Common.{subst}
use Rattle.heap_graph.specs.Graphs.{OfGlobal, OfLiteral}
use Rattle.heap_graph.specs.Frozen.{bare}
use Rattle.graph_unification.proofs.NamedSteps.{on_ok}
use Rattle.dsa_inlining.proofs.Carried.{copies_kept}
use Rattle.dsa_inlining.specs.Joins.{Joins}
use Rattle.dsa_inlining.specs.OuterCalls.Listed.{ListedCome}
use Rattle.dsa_inlining.specs.Shown.{code_of, shown, callee_of, copies_of}
use Rattle.dsa_inlining.proofs.Listing.{statics_joined}
use Rattle.dsa_inlining.proofs.crossed.join_statics.Goals as goal

pub join_listed_literals-requires-clause-copied : goal.join_listed_literals-requires-clause-copied
join_listed_literals-requires-clause-copied c =
    let own = c.args.crossed in
    copies_kept (code_of own).structs c.requires.known.code.made (shown own c.args.graph.now) (shown own c.join_listed_globals.new.graph) (bare own.tac.now.types own.callee.now) (copies_of own)
    c.requires.graph.sound c.in_ok-join_listed_globals.ensures.joins.goes c.requires.copied

pub returns-clause-copied : goal.returns-clause-copied
returns-clause-copied c =
    let own = c.args.crossed in
    let structs = (code_of own).structs in
    let made = c.requires.known.code.made in
    let nodes = bare own.tac.now.types own.callee.now in
    let two = shown own c.join_listed_globals.new.graph in
    on_ok c.join_listed_literals.result c.join_listed_literals.ensures.joins
    (λ joins. copies_kept structs made two (shown own c.join_listed_literals.new.graph) nodes (copies_of own) c.in_ok-join_listed_globals.ensures.graph.sound joins.goes
    (copies_kept structs made (shown own c.args.graph.now) two nodes (copies_of own) c.requires.graph.sound c.in_ok-join_listed_globals.ensures.joins.goes c.requires.copied))

pub returns-clause-joins : goal.returns-clause-joins
returns-clause-joins c =
    let own = c.args.crossed in
    let tac = code_of own in
    let one = shown own c.args.graph.now in
    let two = shown own c.join_listed_globals.new.graph in
    let three = shown own c.join_listed_literals.new.graph in
    let globals = subst (λ numbers. Joins tac (callee_of own) (ListedCome (callee_of own) (copies_of own) OfGlobal numbers) one two) c.as_slice.ensures.value c.in_ok-join_listed_globals.ensures.joins in
    on_ok c.join_listed_literals.result c.join_listed_literals.ensures.joins
    (λ joins. let literals = subst (λ numbers. Joins tac (callee_of own) (ListedCome (callee_of own) (copies_of own) OfLiteral numbers) two three) c.as_slice-2.ensures.value joins in
    statics_joined tac c.requires.known.code.made (callee_of own) (copies_of own) c.args.statics.now one two three c.requires.graph.sound c.in_ok-join_listed_globals.ensures.graph.sound globals literals)
