use Rattle.std.proofs.Common.{ap, sym, ◌∙◌}
use Rattle.std.specs.Prelude.{option_map}
use Rattle.heap_graph.specs.Memory.{target_of}
use Rattle.graph_unification.specs.Memory.{name_of}
use Rattle.graph_memory_bench.proofs.join.Goals as goal

pub merge-requires-clause-first : goal.merge-requires-clause-first
merge-requires-clause-first c =
    c.requires.graph.sound.names (name_of c.args.a) (target_of c.in-Some.one) (sym (c.target.ensures c.args.types.now c.requires.graph) ∙ ap (option_map target_of) c.in-Some.is)

pub merge-requires-clause-second : goal.merge-requires-clause-second
merge-requires-clause-second c =
    c.requires.graph.sound.names (name_of c.args.b) (target_of c.in-Some-target.other) (sym (c.target-2.ensures c.args.types.now c.requires.graph) ∙ ap (option_map target_of) c.in-Some-target.is)
