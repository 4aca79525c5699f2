use Rattle.std.proofs.Common.{ap, ◌∙◌}
use Rattle.c_typed.specs.Types.{CType}
use Rattle.c_typed.specs.Table.{structs_in, type_in}
use Rattle.heap_graph.specs.Targets.{slots_before}
use Rattle.heap_graph.proofs.Shapes.{slots_found}
use Rattle.heap_graph.proofs.types.slots_before.Goals as goal

pub returns-clause-is : goal.returns-clause-is
returns-clause-is c =
    let structs = structs_in c.args.types.now in
    c.slot_of.ensures ∙ (slots_found structs (type_in c.args.types.now c.number_of.result) c.args.number ∙ ap (λ (t : CType). slots_before structs t c.args.number) c.number_of.ensures.means)
