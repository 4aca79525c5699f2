use Rattle.std.proofs.Common.{subst, sym, refl}
use Rattle.c_typed.specs.Types.{Void, Integer, Pointer, Struct, Function}
use Rattle.c_typed.specs.Extents.{IsSmall}
use Rattle.c_typed.specs.Table.{structs_in, type_in, types_in, tag_in}
use Rattle.c_typed.proofs.Sizes.{small_layout}
use Rattle.c_typed.proofs.Reading.{sized_unless_array}
use Rattle.c_typed.proofs.type_table.TypeTable.extent.Goals as goal

pub returns-in-Array-clause-small : goal.returns-in-Array-clause-small
returns-in-Array-clause-small c = subst IsSmall (sym c.array_extent.ensures.layout) (small_layout (structs_in c.args.self.now) (type_in c.args.self.now c.args.t))

pub returns-in-Struct-clause-small : goal.returns-in-Struct-clause-small
returns-in-Struct-clause-small c = subst IsSmall (sym c.struct_extent.ensures.layout) (small_layout (structs_in c.args.self.now) (Struct (tag_in c.args.self.now c.in-Struct.id)))

pub returns-in-Void-clause-sized : goal.returns-in-Void-clause-sized
returns-in-Void-clause-sized c = sized_unless_array (structs_in c.args.self.now) (type_in c.args.self.now c.args.t) Void c.in-Void.ensures.means refl

pub returns-in-Integer-clause-sized : goal.returns-in-Integer-clause-sized
returns-in-Integer-clause-sized c = sized_unless_array (structs_in c.args.self.now) (type_in c.args.self.now c.args.t) (Integer c.in-Integer.int_type) c.in-Integer.ensures.means refl

pub returns-in-Pointer-clause-sized : goal.returns-in-Pointer-clause-sized
returns-in-Pointer-clause-sized c = sized_unless_array (structs_in c.args.self.now) (type_in c.args.self.now c.args.t) (Pointer (type_in c.args.self.now c.in-Pointer.field-0)) c.in-Pointer.ensures.means refl

pub returns-in-Struct-clause-sized : goal.returns-in-Struct-clause-sized
returns-in-Struct-clause-sized c = sized_unless_array (structs_in c.args.self.now) (type_in c.args.self.now c.args.t) (Struct (tag_in c.args.self.now c.in-Struct.id)) c.in-Struct.ensures.means refl

pub returns-in-Function-clause-sized : goal.returns-in-Function-clause-sized
returns-in-Function-clause-sized c = sized_unless_array (structs_in c.args.self.now) (type_in c.args.self.now c.args.t) (Function (type_in c.args.self.now c.in-Function.result) (types_in c.args.self.now c.in-Function.parameters)) c.in-Function.ensures.means refl
