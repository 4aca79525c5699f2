use Rattle.std.proofs.Common.{false, ◌+◌, length, refl, sym, ap, subst, ◌∙◌, arith}
use Rattle.std.proofs.lemmas.Bool.{false≢true}
use Rattle.std.proofs.lemmas.List.{length-replicate}
use Rattle.std.proofs.lemmas.Option.{slice_get_read}
use Rattle.heap_graph.specs.declared.marks.NodeMarks.{NodeMarks}
use Rattle.heap_graph.specs.Marks.{Adds, IsMentionedBy}
use Rattle.heap_graph.specs.Edges.{AreReached}
use Rattle.dsa_inlining.specs.Complete.{AreEscaping}
use Rattle.dsa_inlining.proofs.OwnersListed.{some_owner, none_owner, ok_maps}
use Rattle.dsa_inlining.proofs.OutsideNodes.{IsOutsideFirst, outside_none, outside_more, outside_same, escaping_function, escaping_start}
use Rattle.dsa_inlining.proofs.complete.escaping_one.Goals.{then-is_some, else-is_some, then-has_function, else-has_function}
use Rattle.dsa_inlining.proofs.complete.escaping_one.Goals as goal

pub loop-index-init : goal.loop-index-init
loop-index-init c = outside_none c.args.owners.now c.args.names.now c.in_ok-starts.starts

pub loop-index-preserved : goal.loop-index-preserved
loop-index-preserved c =
    let owners = c.args.owners.now in
    let names = c.args.names.now in
    let at = c.loop-index.index in
    elim c.if-is_some.branch [
      | then-is_some w ↦
          let function = some_owner owners at c.loop-index-test.true (sym c.is_some.ensures ∙ w.if-is_some.true) in
          subst (λ (starts : NodeMarks). Adds c.in_ok-starts.starts starts (IsOutsideFirst owners names (at + 1))) (sym w.starts-is)
          (outside_more owners names c.in_ok-starts.starts c.loop-index.starts w.add_outside.new.self at function.0 w.index-names-index.result function.1
          (slice_get_read names (length names) at w.index-names-index.result refl (omega (arith, c.requires, c.loop-index-test.true)) w.index-names-index.is) c.loop-index.invariant w.add_outside.ensures)
      | else-is_some w ↦
          subst (λ (starts : NodeMarks). Adds c.in_ok-starts.starts starts (IsOutsideFirst owners names (at + 1))) (sym w.starts-is)
          (outside_same owners names c.in_ok-starts.starts c.loop-index.starts at (none_owner owners at c.loop-index-test.true (sym c.is_some.ensures ∙ w.if-is_some.false)) c.loop-index.invariant)
    ]

pub reached-requires : goal.reached-requires
reached-requires c =
    let begun = c.loop-index.invariant.size ∙ (ap length c.in_ok-starts.ensures ∙ length-replicate (length c.args.graph.now.nodes.items) false) in
    elim c.if-has_function.branch [
      | then-has_function w ↦ ap (λ (starts : NodeMarks). length starts.marks.items) w.starts-is ∙ (w.add_statics.ensures.size ∙ begun)
      | else-has_function w ↦ ap (λ (starts : NodeMarks). length starts.marks.items) w.starts-is ∙ begun
    ]

pub returns : goal.returns
returns c =
    let graph = c.args.graph.now in
    let owners = c.args.owners.now in
    let names = c.args.names.now in
    let starts = c.if-has_function.starts in
    elim c.if-has_function.branch [
      | then-has_function w ↦
          ok_maps c.reached.result (AreReached graph.nodes.items starts) (AreEscaping graph owners names)
          (λ marks. escaping_function owners names graph c.in_ok-starts.starts c.loop-index.starts c.loop-index.index c.in_ok-starts.ensures c.loop-index-test.false c.loop-index.invariant starts marks
          (c.has_function.ensures.0 w.if-has_function.true)
          (subst (λ (s : NodeMarks). Adds c.loop-index.starts s (IsMentionedBy graph)) (sym w.starts-is) w.add_statics.ensures)) c.reached.ensures
      | else-has_function w ↦
          ok_maps c.reached.result (AreReached graph.nodes.items starts) (AreEscaping graph owners names)
          (λ marks reached. escaping_start owners names graph c.in_ok-starts.starts c.loop-index.starts c.loop-index.index c.in_ok-starts.ensures c.loop-index-test.false c.loop-index.invariant marks
          (λ has. false≢true (sym w.if-has_function.false ∙ c.has_function.ensures.1 has)) (subst (λ (s : NodeMarks). AreReached graph.nodes.items s marks) w.starts-is reached)) c.reached.ensures
    ]
