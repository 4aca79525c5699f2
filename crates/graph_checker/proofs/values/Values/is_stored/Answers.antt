use Rattle.std.proofs.Common.{◌≡◌, true, sym, ap, ◌∙◌}
use Rattle.std.specs.Prelude.{◌&&◌}
use Rattle.heap_graph.specs.Closed.{in_start}
use Rattle.heap_graph.specs.Targets.{has_target, at_target}
use Rattle.heap_graph.specs.Frozen.{optional_target}
use Rattle.graph_checker.specs.Values.{family_of}
use Rattle.graph_checker.proofs.values.Values.is_stored.Goals as goal

pub returns-then-has_target : goal.returns-then-has_target
returns-then-has_target c =
    let own = c.args.self.now in
    let target = optional_target c.args.global.target in
    let there : has_target target ≡ true = sym c.has_target.ensures ∙ c.if-has_target.true in
    c.is_modified.ensures own.tac.now.types ∙ sym (ap (λ b. b && at_target (in_start (family_of own)) target (λ node shift. node.flags.modified)) there)
