use Rattle.std.proofs.Common.{◌-◌, take, refl, ap, ◌∙◌, arith, length-set}
use Rattle.call_graph.specs.declared.components.Mark.TheVariants.{Done}
use Rattle.call_graph.proofs.Closing.{own_inside, finished}
use Rattle.call_graph.proofs.components.Search.finish_last.Goals as goal

pub index_mut-requires : goal.index_mut-requires
index_mut-requires c =
    let old = c.args.self.now in
    omega (arith, own_inside old.members.items c.pop.new.self.items old.marks.items c.in-Some.node c.requires.marked c.in-Some.ensures.items, old.marks.ok.0)

pub returns-in-Some : goal.returns-in-Some
returns-in-Some c =
    let old = c.args.self.now in
    record {
      members = c.pop.ensures.rest ∙ ap (λ n. take (n - 1) old.members.items) old.members.ok.0;
      size = length-set old.marks.items c.in-Some.node (Done old.count);
      marks = finished old.members.items c.pop.new.self.items old.marks.items c.in-Some.node c.requires.marked c.in-Some.ensures.items old.count;
      starts = refl;
      waiting = refl;
      count = refl;
    }
