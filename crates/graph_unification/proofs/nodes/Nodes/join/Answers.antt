use Rattle.std.proofs.Common.{Vec, Global, slice_set, sym, ap, subst, ◌∙◌, rules, arith}
use Rattle.std.proofs.lemmas.Option.{slice_get_within}
use Rattle.heap_graph.specs.declared.graph.Target as memory_target
use Rattle.graph_unification.specs.Cells.{moved_cell, changed_all}
use Rattle.graph_unification.specs.Memory.{held}
use Rattle.graph_unification.specs.Turns.{edges_of_held, WithGain}
use Rattle.graph_unification.proofs.Indexed.{item_there, not_gone, part_goes, within_set}
use Rattle.graph_unification.proofs.nodes.Nodes.join.Goals as goal

pub index_mut-requires : goal.index_mut-requires
index_mut-requires c =
    let lt = slice_get_within c.args.self.now.list.items c.args.part _ c.requires.part.1 in
    let len = c.args.self.now.list.ok.0 in
    omega (arith, lt, len)

pub gain-requires : goal.gain-requires
gain-requires c = within_set c.args.self.now.list.items c.args.part c.args.whole c.replace.new.dest c.requires.whole.0 c.requires.whole.1

pub returns-in_err-gain-in-Some-clause-joins : goal.returns-in_err-gain-in-Some-clause-joins
returns-in_err-gain-in-Some-clause-joins c = search rules

pub returns-in_err-gain-in-Some-clause-edges : goal.returns-in_err-gain-in-Some-clause-edges
returns-in_err-gain-in-Some-clause-edges c = search rules

pub returns-in_ok-gain-in-Some-clause-joins : goal.returns-in_ok-gain-in-Some-clause-joins
returns-in_ok-gain-in-Some-clause-joins c =
    let lt = slice_get_within c.args.self.now.list.items c.args.part _ c.requires.part.1 in
    let goes = part_goes c.args.self.now.list.items c.args.part c.index_mut.result.now c.replace.new.dest c.in-Some.gone lt c.index_mut.ensures.value (sym c.replace.ensures.value ∙ c.in-Some.is) c.replace.ensures.after in
    record {
      inner = c.in-Some.gone;
      outer = c.requires.whole.0;
      whole_is = c.requires.whole.1;
      middle = slice_set c.args.self.now.list.items c.args.part c.replace.new.dest;
      goes = goes;
      gains = subst (λ numbers. WithGain (slice_set c.args.self.now.list.items c.args.part c.replace.new.dest) c.gain.new.self.list.items c.args.whole c.in-Some.gone.flags numbers c.requires.whole.0) c.deref-in-Some.ensures.value
          (c.in_ok-gain-in-Some.ensures.list c.requires.whole.0 (goes.others c.args.whole (λ e. c.requires.differ (sym e)) ∙ c.requires.whole.1));
      cells =
          ap (λ (v : Vec memory_target.Target Global). v.items) c.in_ok-gain-in-Some.ensures.cells ∙ c.rename.ensures
          ∙ ap (λ numbers. changed_all (moved_cell c.args.part c.args.whole c.args.distance) numbers c.args.self.now.cells.items) c.deref.ensures.value;
    }

pub returns-in_ok-gain-in-Some-clause-edges : goal.returns-in_ok-gain-in-Some-clause-edges
returns-in_ok-gain-in-Some-clause-edges c =
    let lt = slice_get_within c.args.self.now.list.items c.args.part _ c.requires.part.1 in
    sym (ap (λ o. edges_of_held (held o)) (item_there c.args.self.now.list.items c.args.part c.index_mut.result.now lt c.index_mut.ensures.value)
    ∙ ap edges_of_held (sym c.replace.ensures.value ∙ c.in-Some.is))

pub returns-in-None-clause-joins : goal.returns-in-None-clause-joins
returns-in-None-clause-joins c =
    let lt = slice_get_within c.args.self.now.list.items c.args.part _ c.requires.part.1 in
    absurd (not_gone c.args.self.now.list.items c.args.part c.index_mut.result.now c.requires.part.0 lt c.index_mut.ensures.value (sym c.replace.ensures.value ∙ c.in-None.is) c.requires.part.1)

pub returns-in-None-clause-edges : goal.returns-in-None-clause-edges
returns-in-None-clause-edges c =
    let lt = slice_get_within c.args.self.now.list.items c.args.part _ c.requires.part.1 in
    absurd (not_gone c.args.self.now.list.items c.args.part c.index_mut.result.now c.requires.part.0 lt c.index_mut.ensures.value (sym c.replace.ensures.value ∙ c.in-None.is) c.requires.part.1)
