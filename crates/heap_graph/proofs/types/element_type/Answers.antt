use Rattle.std.proofs.Common.{refl}
use Rattle.c_typed.specs.Table.{type_in}
use Rattle.heap_graph.specs.Targets.{element_type}
use Rattle.heap_graph.proofs.Shapes.{void_for}
use Rattle.heap_graph.proofs.types.element_type.Goals as goal

pub returns-in-Void : goal.returns-in-Void
returns-in-Void c = void_for element_type c.args.types.now (type_in c.args.types.now c.args.c_type) c.number_of.result _ c.number_of.ensures c.in-Void.ensures refl

pub returns-in-Integer : goal.returns-in-Integer
returns-in-Integer c = void_for element_type c.args.types.now (type_in c.args.types.now c.args.c_type) c.number_of.result _ c.number_of.ensures c.in-Integer.ensures refl

pub returns-in-Pointer : goal.returns-in-Pointer
returns-in-Pointer c = void_for element_type c.args.types.now (type_in c.args.types.now c.args.c_type) c.number_of.result _ c.number_of.ensures c.in-Pointer.ensures refl

pub returns-in-Struct : goal.returns-in-Struct
returns-in-Struct c = void_for element_type c.args.types.now (type_in c.args.types.now c.args.c_type) c.number_of.result _ c.number_of.ensures c.in-Struct.ensures refl

pub returns-in-Function : goal.returns-in-Function
returns-in-Function c = void_for element_type c.args.types.now (type_in c.args.types.now c.args.c_type) c.number_of.result _ c.number_of.ensures c.in-Function.ensures refl
