use Rattle.std.proofs.Common.{List, subst}
use Rattle.c_typed.specs.declared.typed.Value.{Value}
use Rattle.c_typed.specs.Views.{values_in}
use Rattle.c_typed.specs.DefinitionViews.{program_of}
use Rattle.dsa_bottom_up.specs.Graphed.{AreCounts}
use Rattle.poolcc.specs.Lowered.{first_of}
use Rattle.poolcc.proofs.compilation.analyse.Goals as goal

pub returns-in-Ok-heap_graphs-clause-graphs : goal.returns-in-Ok-heap_graphs-clause-graphs
returns-in-Ok-heap_graphs-clause-graphs c =
    let typed = c.args.typed in
    let known = c.requires.compilable in
    let counted = subst (λ (values : List Value). AreCounts (program_of typed.program) (values_in typed.program.types values) c.in-Ok.counts) c.as_slice.ensures.value c.in-Ok.ensures in
    c.in-Ok-heap_graphs.ensures.graphs (program_of typed.program) (first_of typed) (record {
      code = c.in-Ok-lower.ensures.code;
      literals = c.in-Ok-lower.ensures.literals;
      well_typed = known.well_typed;
      storable = known.storable;
      few_slots = known.few_slots;
      counted = counted;
    })
