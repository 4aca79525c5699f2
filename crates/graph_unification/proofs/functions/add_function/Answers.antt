use Rattle.std.proofs.Common.{List, map, subst, sym}
use Rattle.std.specs.Prelude.{OnOk}
use Rattle.c_typed.specs.Table.{structs_in, type_in}
use Rattle.tac_ir.specs.declared.program.LocalObject.{LocalObject}
use Rattle.tac_ir.specs.Views.{object_in, function_in}
use Rattle.graph_unification.specs.Memory.{owner_of, graph_in}
use Rattle.graph_unification.specs.GraphNames.First.{ObjectsHaveSlots, AddsObjects}
use Rattle.graph_unification.proofs.WholeFunction.{on_ok_added}
use Rattle.graph_unification.proofs.functions.add_function.Goals as goal

pub add_objects-requires-clause-slots : goal.add_objects-requires-clause-slots
add_objects-requires-clause-slots c =
    subst (λ (objects : List LocalObject). ObjectsHaveSlots (structs_in c.args.types.now) (map (λ (object : LocalObject). type_in c.args.types.now object.c_type) objects)) (sym c.deref.ensures.value) c.requires.slots

pub returns-clause-adds : goal.returns-clause-adds
returns-clause-adds c =
    let table = c.args.types.now in
    on_ok_added c.add_objects.result (owner_of c.args.owner) (function_in table c.args.function.now) (graph_in table c.args.graph.now) (graph_in table c.add_parameters.new.graph)
    (graph_in table c.add_numbered.new.graph) (graph_in table c.add_numbered-2.new.graph) (graph_in table c.add_numbered-3.new.graph) (graph_in table c.add_numbered-4.new.graph)
    (graph_in table c.add_pointer.new.graph) (graph_in table c.add_objects.new.graph)
    c.in_ok-add_parameters.ensures.adds c.in_ok-add_numbered.ensures.adds c.in_ok-add_numbered-2.ensures.adds c.in_ok-add_numbered-3.ensures.adds c.in_ok-add_numbered-4.ensures.adds
    c.in_ok-add_pointer.ensures.adds
    (subst (λ (objects : List LocalObject). OnOk c.add_objects.result (AddsObjects (graph_in table c.add_pointer.new.graph) (graph_in table c.add_objects.new.graph) (owner_of c.args.owner) (map (object_in table) objects)))
    c.deref.ensures.value c.add_objects.ensures.adds)
