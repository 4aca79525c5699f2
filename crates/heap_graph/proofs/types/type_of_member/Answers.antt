use Rattle.std.proofs.Common.{refl}
use Rattle.std.specs.Prelude.{slice_get}
use Rattle.c_typed.specs.Types.{CType, Struct}
use Rattle.c_typed.specs.Table.{structs_in, type_in, tag_in, members_of}
use Rattle.heap_graph.specs.Targets.{type_of_member}
use Rattle.heap_graph.proofs.Shapes.{void_for, no_member, no_type}
use Rattle.heap_graph.proofs.types.type_of_member.Goals as goal

pub returns-in-Void : goal.returns-in-Void
returns-in-Void c =
    void_for (λ (t : CType). type_of_member (structs_in c.args.types.now) t c.args.number) c.args.types.now (type_in c.args.types.now c.args.c_type) c.number_of.result _
    c.number_of.ensures c.in-Void.ensures refl

pub returns-in-Integer : goal.returns-in-Integer
returns-in-Integer c =
    void_for (λ (t : CType). type_of_member (structs_in c.args.types.now) t c.args.number) c.args.types.now (type_in c.args.types.now c.args.c_type) c.number_of.result _
    c.number_of.ensures c.in-Integer.ensures refl

pub returns-in-Pointer : goal.returns-in-Pointer
returns-in-Pointer c =
    void_for (λ (t : CType). type_of_member (structs_in c.args.types.now) t c.args.number) c.args.types.now (type_in c.args.types.now c.args.c_type) c.number_of.result _
    c.number_of.ensures c.in-Pointer.ensures refl

pub returns-in-Array : goal.returns-in-Array
returns-in-Array c =
    void_for (λ (t : CType). type_of_member (structs_in c.args.types.now) t c.args.number) c.args.types.now (type_in c.args.types.now c.args.c_type) c.number_of.result _
    c.number_of.ensures c.in-Array.ensures refl

pub returns-in-Function : goal.returns-in-Function
returns-in-Function c =
    void_for (λ (t : CType). type_of_member (structs_in c.args.types.now) t c.args.number) c.args.types.now (type_in c.args.types.now c.args.c_type) c.number_of.result _
    c.number_of.ensures c.in-Function.ensures refl

pub returns-in-None : goal.returns-in-None
returns-in-None c =
    let table = c.args.types.now in
    let members = members_of (structs_in table) (Struct (tag_in table c.in-Struct.id)) in
    void_for (λ (t : CType). type_of_member (structs_in table) t c.args.number) table (type_in table c.args.c_type) c.number_of.result _ c.number_of.ensures c.in-Struct.ensures
    (no_member table (slice_get members c.args.number) c.in-None.ensures)

pub returns-in-Some-None : goal.returns-in-Some-None
returns-in-Some-None c =
    let table = c.args.types.now in
    let members = members_of (structs_in table) (Struct (tag_in table c.in-Struct.id)) in
    void_for (λ (t : CType). type_of_member (structs_in table) t c.args.number) table (type_in table c.args.c_type) c.number_of.result _ c.number_of.ensures c.in-Struct.ensures
    (no_type table (slice_get members c.args.number) (rw c.in-Some-None.field-0-is at c.in-Some-None.ensures))
