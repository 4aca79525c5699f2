use Rattle.std.proofs.Common.{◌≡◌, [], ◌∷◌, length, ap, ◌∙◌, length-append, arith}
use Rattle.heap_graph.specs.Graphs.{OfRegister}
use Rattle.graph_unification.specs.Memory.{owner_of, graph_in}
use Rattle.heap_graph.specs.Frozen.{flat}
use Rattle.graph_unification.specs.Freezing.{certain_name, numbered}
use Rattle.graph_unification.proofs.ToldLists.{each_pushed}
use Rattle.graph_unification.proofs.ToldNames.{told_below}
use Rattle.graph_unification.proofs.name_targets.register_targets.Goals as goal

pub loop-number-preserved : goal.loop-number-preserved
loop-number-preserved c = record {
  long = omega (arith, ap length c.in_ok-push.ensures.items, length-append c.loop-number.targets.items (c.certain_target.result ∷ []));
  told = λ table fine.
      let graph = graph_in table c.args.graph.now in
      each_pushed (λ n o. flat o ≡ certain_name graph (OfRegister (owner_of c.args.function) (numbered c.args.kind n))) c.loop-number.targets.items c.push.new.self.items c.certain_target.result c.loop-number.number c.in_ok-push.ensures.items c.loop-number.invariant.long
      (c.loop-number.invariant.told table fine) (c.certain_target.ensures table fine ∙ ap (λ r. certain_name graph (OfRegister (owner_of c.args.function) r)) c.register-register.ensures);
}

pub returns : goal.returns
returns c = λ table fine.
    let graph = graph_in table c.args.graph.now in
    told_below (λ n. certain_name graph (OfRegister (owner_of c.args.function) (numbered c.args.kind n))) c.loop-number.targets.items c.args.count c.loop-number.number c.loop-number.invariant.long (omega arith) (c.loop-number.invariant.told table fine)
