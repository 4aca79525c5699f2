use Rattle.std.proofs.Common.{◌≡◌, sym, ap, ◌∙◌}
use Rattle.c_typed.specs.Table.{structs_in, type_in}
use Rattle.heap_graph.specs.Memory.{flags_of}
use Rattle.heap_graph.specs.Parts.{slots_of}
use Rattle.heap_graph.specs.Frozen.{edges_of}
use Rattle.graph_checker.proofs.Filled.{slotless_array}
use Rattle.graph_checker.proofs.held.holds_complete.Goals as goal

pub holds_slotless-requires-clause-array : goal.holds_slotless-requires-clause-array
holds_slotless-requires-clause-array c =
    let structs = structs_in c.args.types.now in
    let none : slots_of structs (type_in c.args.types.now c.args.told) ≡ 0
    = sym (c.slots_of.ensures ∙ ap (slots_of structs) c.number_of.ensures.means) ∙ c.if-slots_of-eq0.true in
    slotless_array structs c.requires.filled (type_in c.args.types.now c.args.told) c.requires.complete none

pub returns-then-slots_of-eq0 : goal.returns-then-slots_of-eq0
returns-then-slots_of-eq0 c = c.holds_slotless.ensures (flags_of c.args.node.now.flags) (edges_of c.args.node.now.edges.items)

pub returns-else-slots_of-eq0 : goal.returns-else-slots_of-eq0
returns-else-slots_of-eq0 c = c.holds_part.ensures (flags_of c.args.node.now.flags) (edges_of c.args.node.now.edges.items)
