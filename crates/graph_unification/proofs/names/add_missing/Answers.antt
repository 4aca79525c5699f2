use Rattle.std.proofs.Common.{refl, sym, ap, ◌∙◌}
use Rattle.std.specs.Prelude.{option_map}
use Rattle.heap_graph.specs.Memory.{target_of}
use Rattle.graph_unification.specs.Adding.{Had}
use Rattle.graph_unification.proofs.Missing.{ok_added}
use Rattle.graph_unification.proofs.names.add_missing.Goals as goal

pub add_name-requires-clause-graph : goal.add_name-requires-clause-graph
add_name-requires-clause-graph c = c.requires.graph

pub add_name-requires-clause-stands : goal.add_name-requires-clause-stands
add_name-requires-clause-stands c = c.requires.stands

pub add_name-requires-clause-slot : goal.add_name-requires-clause-slot
add_name-requires-clause-slot c = c.requires.slot

pub add_name-requires-clause-none : goal.add_name-requires-clause-none
add_name-requires-clause-none c = sym (c.target.ensures c.args.types.now c.requires.graph) ∙ ap (option_map target_of) c.in-None.is

pub returns-in-Some-clause-graph : goal.returns-in-Some-clause-graph
returns-in-Some-clause-graph c = c.requires.graph

pub returns-in-Some-clause-adds : goal.returns-in-Some-clause-adds
returns-in-Some-clause-adds c =
    Had (target_of c.in-Some.field-0) (sym (c.target.ensures c.args.types.now c.requires.graph) ∙ ap (option_map target_of) c.in-Some.is) refl

pub returns-in-None-clause-graph : goal.returns-in-None-clause-graph
returns-in-None-clause-graph c = c.add_name.ensures.graph

pub returns-in-None-clause-adds : goal.returns-in-None-clause-adds
returns-in-None-clause-adds c = ok_added c.add_name.result _ _ _ _ c.add_name.ensures.adds
