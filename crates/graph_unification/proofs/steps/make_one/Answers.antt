use Rattle.c_typed.specs.Table.{structs_in}
use Rattle.heap_graph.specs.Memory.{target_of}
use Rattle.heap_graph.specs.Merging.{AreOne}
use Rattle.graph_unification.specs.Memory.{graph_in}
use Rattle.graph_unification.proofs.LeastGraphs.{least_same}
use Rattle.graph_unification.proofs.Named.{names_with}
use Rattle.graph_unification.proofs.Seen.{same_target, are_one}
use Rattle.graph_unification.proofs.steps.make_one.Goals as goal

pub returns-then-a-b-2-clause-least : goal.returns-then-a-b-2-clause-least
returns-then-a-b-2-clause-least c =
    let table = c.args.types.now in
    let graph = graph_in table c.args.graph.now in
    let a = target_of c.args.a in
    let b = target_of c.args.b in
    least_same (structs_in table) c.requires.made graph c.requires.graph.sound (AreOne a b) (are_one graph a b (same_target a b c.if-a-b.true c.if-a-b-2.true))

pub returns-clause-names : goal.returns-clause-names
returns-clause-names c =
    let table = c.args.types.now in
    let old = graph_in table c.args.graph.now in
    let new = graph_in table c.merge.new.self in
    let asked = AreOne (target_of c.args.a) (target_of c.args.b) in
    names_with (structs_in table) old new asked c.requires.graph.sound c.in_ok-merge.ensures.graph.sound c.in_ok-merge.ensures.least (λ targets. c.in_ok-merge.ensures.least.holds)
