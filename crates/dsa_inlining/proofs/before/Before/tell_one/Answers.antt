use Rattle.std.proofs.Common.{sym, subst}
use Rattle.graph_unification.specs.Memory.{graph_in}
use Rattle.heap_graph.specs.Frozen.{bare}
use Rattle.heap_graph.specs.declared.frozen.FrozenGraph.{FrozenGraph}
use Rattle.dsa_inlining.specs.Copied.{numbers_in}
use Rattle.dsa_inlining.specs.CallCopies.Telling.{CopiesTold, AsksCopy, OnlyAsked}
use Rattle.dsa_inlining.proofs.before.Before.tell_one.Goals as goal

pub returns-clause-told : goal.returns-clause-told
returns-clause-told c = λ reached.
    let table = c.args.self.tac.now.types in
    subst (λ (callee : FrozenGraph). CopiesTold (graph_in table c.tell_copies.new.graph) (bare table callee) (numbers_in c.args.copies.now)) (sym (c.graph_of-callee.ensures reached)) c.tell_copies.ensures.told

pub returns-clause-only : goal.returns-clause-only
returns-clause-only c = λ reached.
    let table = c.args.self.tac.now.types in
    let old = graph_in table c.args.graph.now in
    subst (λ (callee : FrozenGraph). OnlyAsked (AsksCopy old (bare table callee) (numbers_in c.args.copies.now)) old (graph_in table c.tell_copies.new.graph)) (sym (c.graph_of-callee.ensures reached))
    c.tell_copies.ensures.only
