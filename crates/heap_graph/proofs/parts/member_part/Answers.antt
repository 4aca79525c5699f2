use Rattle.std.proofs.Common.{ap, ◌∙◌}
use Rattle.heap_graph.specs.Targets.{shifted}
use Rattle.heap_graph.specs.Frozen.{bare}
use Rattle.heap_graph.specs.Reached.{optional_reached}
use Rattle.heap_graph.proofs.parts.member_part.Goals as goal

pub returns-clause-is : goal.returns-clause-is
returns-clause-is c =
    let table = c.args.types.now in
    let target = c.shifted.ensures.at table ∙ ap (λ slots. shifted (bare table c.args.graph.now) slots (optional_reached c.args.part.target)) c.slots_before-slots.ensures.is in
    λ i. record { target = target i; c_type = c.type_of_member.ensures i }
