-- The typed trees that those in memory stand for, in a table of types.
use Rattle.std.specs.Prelude.{◌≡◌, List, [], ◌∷◌}
use Rattle.c_typed.specs.Types.{literal_type}
use Rattle.c_typed.specs.declared.typed.Value as memory_value
use Rattle.c_typed.specs.declared.typed.Value.TheVariants as V
use Rattle.c_typed.specs.declared.typed.Object as memory_object
use Rattle.c_typed.specs.declared.typed.Object.TheVariants as O
use Rattle.c_typed.specs.declared.typed.Designator as memory_designator
use Rattle.c_typed.specs.declared.typed.Designator.TheVariants as D
use Rattle.c_typed.specs.Typed
use Rattle.c_typed.specs.Table.{Interned, Stands, type_in}

abbrev mutual
  pub value_in : Interned → memory_value.Value → Typed.Value
  value_in table (V.Constant int_type value) = Typed.Constant int_type value
  value_in table V.NullPointer = Typed.NullPointer
  value_in table (V.Grouped' p inner) = Typed.Grouped (value_in table inner)
  value_in table (V.Read' place p object) = Typed.Read place (object_in table object)
  value_in table (V.Decay' place p object) = Typed.Decay place (object_in table object)
  value_in table (V.FunctionValue' p function) = Typed.FunctionValue (designator_in table function)
  value_in table (V.Converted' int_type p value) = Typed.Converted int_type (value_in table value)
  value_in table (V.Repointed' place target p value) = Typed.Repointed place (type_in table target) (value_in table value)
  value_in table (V.MadeNull' target p value) = Typed.MadeNull (type_in table target) (value_in table value)
  value_in table (V.Tested' place p value) = Typed.Tested place (value_in table value)
  value_in table (V.Plus' p operand) = Typed.Plus (value_in table operand)
  value_in table (V.Minus' place int_type p operand) = Typed.Minus place int_type (value_in table operand)
  value_in table (V.Complement' int_type p operand) = Typed.Complement int_type (value_in table operand)
  value_in table (V.Not' p operand) = Typed.Not (value_in table operand)
  value_in table (V.Arithmetic' op place int_type p left q right) = Typed.Arithmetic op place int_type (value_in table left) (value_in table right)
  value_in table (V.Compare' relation p left q right) = Typed.Compare relation (value_in table left) (value_in table right)
  value_in table (V.ComparePointers' relation place p left q right) = Typed.ComparePointers relation place (value_in table left) (value_in table right)
  value_in table (V.PointerPlus' place p pointer q number) = Typed.PointerPlus place (value_in table pointer) (value_in table number)
  value_in table (V.NumberPlus' place p number q pointer) = Typed.NumberPlus place (value_in table number) (value_in table pointer)
  value_in table (V.PointerMinus' place p pointer q number) = Typed.PointerMinus place (value_in table pointer) (value_in table number)
  value_in table (V.PointerDifference' place p left q right) = Typed.PointerDifference place (value_in table left) (value_in table right)
  value_in table (V.And' p left q right) = Typed.And (value_in table left) (value_in table right)
  value_in table (V.Or' p left q right) = Typed.Or (value_in table left) (value_in table right)
  value_in table (V.Conditional' p condition q taken r otherwise) = Typed.Conditional (value_in table condition) (value_in table taken) (value_in table otherwise)
  value_in table (V.AddressOf' place p object) = Typed.AddressOf place (object_in table object)
  value_in table (V.AddressOfFunction' p function) = Typed.AddressOfFunction (designator_in table function)
  value_in table (V.Cast' p value) = Typed.Cast (value_in table value)
  value_in table (V.CastVoid' p value) = Typed.CastVoid (value_in table value)
  value_in table (V.Assign' place p object q value) = Typed.Assign place (object_in table object) (value_in table value)
  value_in table (V.AssignArithmetic' op place object_type int_type p object q value) = Typed.AssignArithmetic op place object_type int_type (object_in table object) (value_in table value)
  value_in table (V.AssignMoved' is_minus place p object q number) = Typed.AssignMoved is_minus place (object_in table object) (value_in table number)
  value_in table (V.StepInteger' stepping place int_type p object) = Typed.StepInteger stepping place int_type (object_in table object)
  value_in table (V.StepPointer' stepping place p object) = Typed.StepPointer stepping place (object_in table object)
  value_in table (V.Call' is_used place p function c_type shape arguments) = Typed.Call is_used place (designator_in table function) (type_in table c_type) (row_in table arguments)
  value_in table (V.LibraryCall' function groups place shape arguments) = Typed.LibraryCall function groups place (row_in table arguments)

  pub object_in : Interned → memory_object.Object → Typed.Object
  object_in table (O.Local number) = Typed.Local number
  object_in table (O.Global name) = Typed.Global name
  object_in table (O.Literal place bytes c_type) = Typed.Literal place bytes
  object_in table (O.Grouped' place p inner) = Typed.GroupedObject place (object_in table inner)
  object_in table (O.Pointed' place p pointer) = Typed.Pointed place (value_in table pointer)
  object_in table (O.Element' place p pointer q number) = Typed.Element place (value_in table pointer) (value_in table number)
  object_in table (O.ElementOf' place p number q pointer) = Typed.ElementOf place (value_in table number) (value_in table pointer)
  object_in table (O.MemberOf' place p object number) = Typed.MemberOf place (object_in table object) number
  object_in table (O.PointedMember' place p pointer number) = Typed.PointedMember place (value_in table pointer) number

  pub designator_in : Interned → memory_designator.Designator → Typed.Designator
  designator_in table (D.Named name) = Typed.Function name
  designator_in table (D.Grouped' p inner) = Typed.GroupedFunction (designator_in table inner)
  designator_in table (D.Pointed' place p pointer) = Typed.PointedFunction place (value_in table pointer)
  designator_in table (D.ThroughPointer' place p pointer) = Typed.ThroughPointer place (value_in table pointer)

  pub row_in : Interned → {shape : _} → memory_value.Row_of-Value shape → Typed.Values
  row_in table memory_value.end_of-Value = Typed.NoValues
  row_in table (memory_value.more_of-Value first others) = Typed.MoreValues (value_in table first) (row_in table others)

-- a vector's items
abbrev pub values_in : Interned → List memory_value.Value → Typed.Values
values_in table [] = Typed.NoValues
values_in table (first ∷ others) = Typed.MoreValues (value_in table first) (values_in table others)

-- each of the types in a tree stands for one
abbrev mutual
  pub ValueStands : Interned → memory_value.Value → Type 0
  ValueStands table (V.Constant int_type value) = Unit {0}
  ValueStands table V.NullPointer = Unit {0}
  ValueStands table (V.Grouped' p inner) = ValueStands table inner
  ValueStands table (V.Read' place p object) = ObjectStands table object
  ValueStands table (V.Decay' place p object) = ObjectStands table object
  ValueStands table (V.FunctionValue' p function) = DesignatorStands table function
  ValueStands table (V.Converted' int_type p value) = ValueStands table value
  ValueStands table (V.Repointed' place target p value) = Stands table target × ValueStands table value
  ValueStands table (V.MadeNull' target p value) = Stands table target × ValueStands table value
  ValueStands table (V.Tested' place p value) = ValueStands table value
  ValueStands table (V.Plus' p operand) = ValueStands table operand
  ValueStands table (V.Minus' place int_type p operand) = ValueStands table operand
  ValueStands table (V.Complement' int_type p operand) = ValueStands table operand
  ValueStands table (V.Not' p operand) = ValueStands table operand
  ValueStands table (V.Arithmetic' op place int_type p left q right) = ValueStands table left × ValueStands table right
  ValueStands table (V.Compare' relation p left q right) = ValueStands table left × ValueStands table right
  ValueStands table (V.ComparePointers' relation place p left q right) = ValueStands table left × ValueStands table right
  ValueStands table (V.PointerPlus' place p pointer q number) = ValueStands table pointer × ValueStands table number
  ValueStands table (V.NumberPlus' place p number q pointer) = ValueStands table number × ValueStands table pointer
  ValueStands table (V.PointerMinus' place p pointer q number) = ValueStands table pointer × ValueStands table number
  ValueStands table (V.PointerDifference' place p left q right) = ValueStands table left × ValueStands table right
  ValueStands table (V.And' p left q right) = ValueStands table left × ValueStands table right
  ValueStands table (V.Or' p left q right) = ValueStands table left × ValueStands table right
  ValueStands table (V.Conditional' p condition q taken r otherwise) = ValueStands table condition × ValueStands table taken × ValueStands table otherwise
  ValueStands table (V.AddressOf' place p object) = ObjectStands table object
  ValueStands table (V.AddressOfFunction' p function) = DesignatorStands table function
  ValueStands table (V.Cast' p value) = ValueStands table value
  ValueStands table (V.CastVoid' p value) = ValueStands table value
  ValueStands table (V.Assign' place p object q value) = ObjectStands table object × ValueStands table value
  ValueStands table (V.AssignArithmetic' op place object_type int_type p object q value) = ObjectStands table object × ValueStands table value
  ValueStands table (V.AssignMoved' is_minus place p object q number) = ObjectStands table object × ValueStands table number
  ValueStands table (V.StepInteger' stepping place int_type p object) = ObjectStands table object
  ValueStands table (V.StepPointer' stepping place p object) = ObjectStands table object
  ValueStands table (V.Call' is_used place p function c_type shape arguments) = DesignatorStands table function × Stands table c_type × RowStands table arguments
  ValueStands table (V.LibraryCall' function groups place shape arguments) = RowStands table arguments

  pub ObjectStands : Interned → memory_object.Object → Type 0
  ObjectStands table (O.Local number) = Unit {0}
  ObjectStands table (O.Global name) = Unit {0}
  ObjectStands table (O.Literal place bytes c_type) = Stands table c_type × (type_in table c_type ≡ literal_type bytes)
  ObjectStands table (O.Grouped' place p inner) = ObjectStands table inner
  ObjectStands table (O.Pointed' place p pointer) = ValueStands table pointer
  ObjectStands table (O.Element' place p pointer q number) = ValueStands table pointer × ValueStands table number
  ObjectStands table (O.ElementOf' place p number q pointer) = ValueStands table number × ValueStands table pointer
  ObjectStands table (O.MemberOf' place p object number) = ObjectStands table object
  ObjectStands table (O.PointedMember' place p pointer number) = ValueStands table pointer

  pub DesignatorStands : Interned → memory_designator.Designator → Type 0
  DesignatorStands table (D.Named name) = Unit {0}
  DesignatorStands table (D.Grouped' p inner) = DesignatorStands table inner
  DesignatorStands table (D.Pointed' place p pointer) = ValueStands table pointer
  DesignatorStands table (D.ThroughPointer' place p pointer) = ValueStands table pointer

  pub RowStands : Interned → {shape : _} → memory_value.Row_of-Value shape → Type 0
  RowStands table memory_value.end_of-Value = Unit {0}
  RowStands table (memory_value.more_of-Value first others) = ValueStands table first × RowStands table others

abbrev pub ValuesStand : Interned → List memory_value.Value → Type 0
ValuesStand table [] = Unit {0}
ValuesStand table (first ∷ others) = ValueStands table first × ValuesStand table others
