use Rattle.std.proofs.Common.{◌∙◌, ap}
use Rattle.graph_unification.specs.Memory.{graph_in}
use Rattle.graph_unification.specs.Freezing.{certain_name, static_name}
use Rattle.graph_unification.proofs.ToldNames.{next_number, next_without}
use Rattle.graph_unification.proofs.static_targets.static_targets.Goals as goal
use Rattle.graph_unification.proofs.static_targets.static_targets.Goals.{in-Some+in-Ok, in-None}

pub loop-number-preserved : goal.loop-number-preserved
loop-number-preserved c = λ table fine. elim c.match-certain_target.branch [
  | in-Some+in-Ok w ↦
      let graph = graph_in table c.args.graph.now in
      rw w.targets-is (next_number (λ number. certain_name graph (static_name c.args.kind number)) c.args.numbers.now c.loop-number.number-index c.loop-number.targets c.loop-number-test.true (c.loop-number.invariant table fine) w.insert.new.self w.in-Some.target
      (w.in-Some.ensures table fine ∙ ap (certain_name graph) c.name.ensures) w.in-Ok.ensures.updates)
  | in-None w ↦
      let graph = graph_in table c.args.graph.now in
      rw w.targets-is (next_without (λ number. certain_name graph (static_name c.args.kind number)) c.args.numbers.now c.loop-number.number-index c.loop-number.targets c.loop-number-test.true (c.loop-number.invariant table fine)
      (w.in-None.ensures table fine ∙ ap (certain_name graph) c.name.ensures))
]
