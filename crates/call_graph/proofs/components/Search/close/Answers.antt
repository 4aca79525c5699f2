use Rattle.std.proofs.Common.{rules, ◌-◌, ◌<◌, ◌≤◌, length, take, inl, inr, refl, sym, ap, ◌∙◌, arith}
use Rattle.call_graph.proofs.Lasts.{take_long}
use Rattle.call_graph.proofs.Closing.{unfinished, fewer, still_marked, still_front, still_closed, closed_members, closed_marks}
use Rattle.call_graph.proofs.components.Search.close.Goals as goal

pub loop-self-init : goal.loop-self-init
loop-self-init c =
    let old = c.args.self.now in
    record {
      marked = c.requires;
      members = sym (take_long (length old.members.items) old.members.items (omega arith));
      enough = inr refl;
      size = refl;
      marks = unfinished old.members.items old.marks.items (length old.members.items) old.count c.requires (omega arith);
      starts = refl;
      waiting = refl;
      count = refl;
    }

pub loop-self-preserved : goal.loop-self-preserved
loop-self-preserved c =
    let old = c.args.self.now in
    let mid = c.loop-self.self in
    let new = c.finish_last.new.self in
    let known = c.loop-self.invariant in
    let long : c.args.start < length mid.members.items = omega (arith, c.loop-self-test.true, c.len.ensures, mid.members.ok.0) in
    record {
      marked = still_marked mid new known.marked (omega (arith, long)) c.finish_last.ensures;
      members = still_front mid new known.marked (omega (arith, long)) c.finish_last.ensures old.members.items known.members;
      enough = inl (omega (arith, long, fewer mid new known.marked (omega (arith, long)) c.finish_last.ensures));
      size = c.finish_last.ensures.size ∙ known.size;
      marks = still_closed mid new known.marked (omega (arith, long)) c.finish_last.ensures old.marks.items old.count known.count known.marks;
      starts = c.finish_last.ensures.starts ∙ known.starts;
      waiting = c.finish_last.ensures.waiting ∙ known.waiting;
      count = c.finish_last.ensures.count ∙ known.count;
    }

pub returns : goal.returns
returns c =
    let old = c.args.self.now in
    let mid = c.loop-self.self in
    let known = c.loop-self.invariant in
    let low : length mid.members.items ≤ c.args.start = omega (arith, c.loop-self-test.false, c.len.ensures, mid.members.ok.0) in
    record {
      members = closed_members old.members.items old.marks.items mid.members.items mid.marks.items c.args.start old.count c.requires known.members known.enough known.marks low;
      size = known.size;
      marks = closed_marks old.members.items old.marks.items mid.members.items mid.marks.items c.args.start old.count c.requires known.members known.enough known.marks low;
      starts = c.pop.ensures.rest ∙ (ap (λ n. take (n - 1) mid.starts.items) mid.starts.ok.0 ∙ ap (λ l. take (length l - 1) l) known.starts);
      waiting = known.waiting;
      count = search (rules, arith);
    }
