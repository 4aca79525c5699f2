use Rattle.std.proofs.Common.{sym, ap, ◌∙◌}
use Rattle.c_typed.specs.Table.{structs_in}
use Rattle.heap_graph.specs.Memory.{element_in}
use Rattle.heap_graph.specs.Targets.{element_kept}
use Rattle.heap_graph.proofs.elements.element_kept.Goals as goal

pub returns-in-OfType : goal.returns-in-OfType
returns-in-OfType c =
    let table = c.args.types.now in
    λ flags edges. c.holds_part.ensures flags edges
    ∙ sym (ap (λ old. element_kept (structs_in table) (element_in table old) (record { element = element_in table c.args.new; flags = flags; edges = edges }) c.args.shift) c.in-OfType.is)
