use Rattle.std.proofs.Common.{◌≡◌, ◌-◌, length, None, Some, sym, ap, ◌∙◌, arith}
use Rattle.std.specs.Prelude.{slice_get, map, vec_items}
use Rattle.std.proofs.lemmas.List.{length-map}
use Rattle.call_graph.specs.declared.components.Mark.TheVariants.{Unseen}
use Rattle.call_graph.proofs.Lasts.{none_empty}
use Rattle.call_graph.proofs.SearchEnds.{root_opens}
use Rattle.call_graph.proofs.components.Search.search_unseen.Goals as goal

pub loop-start-init : goal.loop-start-init
loop-start-init c =
    let old = c.args.self.now in
    let edges = map vec_items c.args.edges.now in
    let is : slice_get old.marks.items c.args.root ≡ Some Unseen = c.requires.unseen in
    let opened = root_opens edges old c.requires.kept c.requires.ended c.args.root c.open.new.self (omega (arith, c.requires.root, length-map c.args.edges.now vec_items)) is c.in_ok-open.ensures in
    record { keeps = opened.0; seen = opened.1; root_seen = opened.2 }

pub step-requires-clause-kept : goal.step-requires-clause-kept
step-requires-clause-kept c = c.loop-start.invariant.keeps

pub loop-start-preserved : goal.loop-start-preserved
loop-start-preserved c = record {
  keeps = c.in_ok-step.ensures.keeps;
  seen = λ node is. c.loop-start.invariant.seen node (c.in_ok-step.ensures.seen node is);
  root_seen = λ is. c.loop-start.invariant.root_seen (c.in_ok-step.ensures.seen c.args.root is);
}

pub returns : goal.returns
returns c =
    let starts = c.loop-start.self.starts.items in
    let none : slice_get starts (length starts - 1) ≡ None = ap (λ l. slice_get l (length l - 1)) (sym c.deref.ensures.value) ∙ (sym c.last.ensures.value ∙ (sym c.copied.ensures ∙ c.in_default.is)) in
    record {
      keeps = c.loop-start.invariant.keeps;
      ended = none_empty starts none;
      seen = c.loop-start.invariant.seen;
      root_seen = c.loop-start.invariant.root_seen;
    }
