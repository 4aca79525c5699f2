use Rattle.std.proofs.Common.{◌≡◌, ◌∷◌, [], ◌++◌, length, map, take, set, refl, ap, ◌∙◌, arith}
use Rattle.std.specs.Prelude.{vec_items}
use Rattle.std.proofs.lemmas.Option.{slice_get_read}
use Rattle.call_graph.specs.declared.components.Mark.TheVariants.{Open}
use Rattle.call_graph.proofs.Lasts.{take_long}
use Rattle.call_graph.proofs.Places.{map_at}
use Rattle.call_graph.proofs.components.Search.open.Goals as goal

pub returns : goal.returns
returns c =
    let old = c.args.self.now in
    let edges = c.args.edges.now in
    let row = c.index-edges-node.result in
    let place : c.len-place.result ≡ length old.members.items = c.len-place.ensures ∙ old.members.ok.0 in
    let all : take c.loop-next.next-index c.as_slice-next-items.result.now ≡ row.items =
    take_long c.loop-next.next-index c.as_slice-next-items.result.now (omega (arith, c.loop-next-test.false)) ∙ c.as_slice-next-items.ensures.value in
    record {
      targets = row.items;
      row = map_at vec_items edges c.args.node row (slice_get_read edges (length edges) c.args.node row refl c.requires.node c.index-edges-node.is);
      marks = c.loop-next.invariant.marks ∙ ap (λ n. set old.marks.items c.args.node (Open n)) place;
      members = c.loop-next.invariant.members ∙ c.in_ok-push.ensures.items;
      starts = c.loop-next.invariant.starts ∙ (c.in_ok-push-2.ensures.items ∙ ap (λ n. old.starts.items ++ n ∷ []) place);
      waiting = c.loop-next.invariant.waiting ∙ (λ i. old.waiting.items ++ map (λ next. (place i, next)) (all i));
      count = c.loop-next.invariant.count;
    }
