use Rattle.std.proofs.Common.{sym, ◌∙◌, true≢false}
use Rattle.heap_graph.specs.Closed.{crossing}
use Rattle.heap_graph.specs.Frozen.{static_in}
use Rattle.graph_checker.proofs.Crossings.{makes_embedding, embedding_marked, embedding_kept}
use Rattle.graph_checker.proofs.embeddings.embedding_closed.Goals as goal

pub returns-then-only_marked : goal.returns-then-only_marked
returns-then-only_marked c = λ family owner site number shows called same told within.
    let table = c.args.caller.types.now in
    let graph = c.args.called.now in
    let marks = c.args.escaping.now in
    let embedding = static_in c.args.embedding.now in
    let kept = c.are_kept.ensures family owner (family.graphs.embedding (crossing family owner site number)) shows same in (
      λ is. makes_embedding table family owner site number graph called marks embedding same told within (c.only_marked.ensures.0 c.if-only_marked.true) (kept.0 is),
      λ is. kept.1 (embedding_kept table family owner site number graph called marks embedding told is),
    )

pub returns-else-only_marked : goal.returns-else-only_marked
returns-else-only_marked c = λ family owner site number shows called same told within. (
  λ is. absurd (true≢false (sym is ∙ c.if-only_marked.false)),
  λ is. c.only_marked.ensures.1 (embedding_marked c.args.caller.types.now family owner site number c.args.called.now called c.args.escaping.now (static_in c.args.embedding.now) same told within is),
)
