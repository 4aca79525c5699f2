use Rattle.std.proofs.Common.{◌≡◌, false, sym, ◌∙◌}
use Rattle.c_typed.specs.Table.{structs_in, type_in}
use Rattle.heap_graph.specs.Targets.{is_array}
use Rattle.graph_checker.proofs.Filled.{not_in_others}
use Rattle.graph_checker.proofs.slotless.has_slotless.Goals as goal

pub returns : goal.returns
returns c =
    let types = c.args.types.now in
    let plain : is_array (type_in types c.loop-array.whole) ≡ false = cc in
    sym (sym c.loop-array.invariant
    ∙ not_in_others (structs_in types) c.requires.made c.requires.filled (type_in types c.loop-array.whole) c.args.slot (type_in types c.args.array) c.requires.array c.requires.none plain)
