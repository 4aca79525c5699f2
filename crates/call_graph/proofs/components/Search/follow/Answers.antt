use Rattle.std.proofs.Common.{length, Some, refl, ap, ◌∙◌, arith}
use Rattle.std.specs.Prelude.{map, vec_items}
use Rattle.std.proofs.lemmas.List.{length-map}
use Rattle.std.proofs.lemmas.Option.{slice_get_read}
use Rattle.std.proofs.lemmas.Result.{on_ok_weaker}
use Rattle.call_graph.proofs.Lasts.{rest_before}
use Rattle.call_graph.proofs.SearchCloses.{own_wait}
use Rattle.call_graph.proofs.SearchAdvances.{follows_open, follows_merge, follows_done}
use Rattle.call_graph.proofs.components.Search.follow.Goals as goal

pub index-requires : goal.index-requires
index-requires c =
    let old = c.args.self.now in
    let edges = map vec_items c.args.edges.now in
    let source = c.requires.kept.known.waiting c.args.place c.args.node (own_wait edges old c.requires.kept c.args.place c.args.node c.requires.edge) in
    omega (arith, c.requires.inside source.0 c.args.node source.2, c.requires.kept.marks, old.marks.ok.0)

pub open-requires-clause-node : goal.open-requires-clause-node
open-requires-clause-node c =
    let edges = map vec_items c.args.edges.now in
    let source = c.requires.kept.known.waiting c.args.place c.args.node (own_wait edges c.args.self.now c.requires.kept c.args.place c.args.node c.requires.edge) in
    omega (arith, c.requires.inside source.0 c.args.node source.2, length-map c.args.edges.now vec_items)

pub returns-in-Unseen : goal.returns-in-Unseen
returns-in-Unseen c =
    let old = c.args.self.now in
    let edges = map vec_items c.args.edges.now in
    let mid = record old { waiting = c.pop.new.self } in
    let known = c.requires in
    let source = known.kept.known.waiting c.args.place c.args.node (own_wait edges old known.kept c.args.place c.args.node known.edge) in
    let inside = known.inside source.0 c.args.node source.2 in
    let rest = rest_before old.waiting.items c.pop.new.self.items old.waiting.len (c.args.place, c.args.node) known.edge old.waiting.ok.0 c.pop.ensures.rest in
    let is = slice_get_read old.marks.items (length old.marks.items) c.args.node c.index.result.now refl (omega (arith, inside, known.kept.marks)) c.index.ensures in
    on_ok_weaker c.open.result
    (follows_open edges old known.kept c.args.start known.start c.args.place c.args.node known.edge known.here mid c.open.new.self refl refl refl rest refl (is ∙ ap Some c.in-Unseen.is) inside)
    c.open.ensures

pub returns-in-Open : goal.returns-in-Open
returns-in-Open c =
    let old = c.args.self.now in
    let edges = map vec_items c.args.edges.now in
    let mid = record old { waiting = c.pop.new.self } in
    let known = c.requires in
    let source = known.kept.known.waiting c.args.place c.args.node (own_wait edges old known.kept c.args.place c.args.node known.edge) in
    let inside = known.inside source.0 c.args.node source.2 in
    let rest = rest_before old.waiting.items c.pop.new.self.items old.waiting.len (c.args.place, c.args.node) known.edge old.waiting.ok.0 c.pop.ensures.rest in
    let is = slice_get_read old.marks.items (length old.marks.items) c.args.node c.index.result.now refl (omega (arith, inside, known.kept.marks)) c.index.ensures in
    follows_merge edges old known.kept c.args.start known.start c.args.place c.args.node known.edge known.here mid c.merge.new.self refl refl refl rest refl c.in-Open.at (is ∙ ap Some c.in-Open.is) c.merge.ensures

pub returns-in-Done : goal.returns-in-Done
returns-in-Done c =
    let old = c.args.self.now in
    let edges = map vec_items c.args.edges.now in
    let mid = record old { waiting = c.pop.new.self } in
    let known = c.requires in
    let source = known.kept.known.waiting c.args.place c.args.node (own_wait edges old known.kept c.args.place c.args.node known.edge) in
    let inside = known.inside source.0 c.args.node source.2 in
    let rest = rest_before old.waiting.items c.pop.new.self.items old.waiting.len (c.args.place, c.args.node) known.edge old.waiting.ok.0 c.pop.ensures.rest in
    let is = slice_get_read old.marks.items (length old.marks.items) c.args.node c.index.result.now refl (omega (arith, inside, known.kept.marks)) c.index.ensures in
    follows_done edges old known.kept c.args.start known.start c.args.place c.args.node known.edge known.here mid mid refl refl refl rest refl c.in-Done.field-0 (is ∙ ap Some c.in-Done.is)
