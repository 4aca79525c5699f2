-- Parts of a program that are entered, what each begins with, and what it does with its operands.
use Rattle.std.specs.Prelude.{ℕ, Bool, true, false, not, if◌then◌else◌, pos, neg_ℤ, ◌-ℤ◌}
use Rattle.run_theory.specs.declared.place.Pos.{Pos}
use Rattle.c_num.specs.declared.IntType.{IntType}
use Rattle.c_num.specs.declared.IntType.TheVariants as I
use Rattle.c_num.specs.declared.BinOp.TheVariants as B
use Rattle.c_num.specs.Types.{common_of}
use Rattle.c_num.specs.Arith.{compare_of}
use Rattle.c_typed.specs.Types.{literal_type}
use Rattle.c_typed.specs.Typed as T
use Rattle.c_typed.specs.Typed.{Value, Object, Designator, Stmt, FunctionDef}
use Rattle.c_typed.specs.declared.typed.Stepping.{Stepping}
use Rattle.ref_semantics.specs.Values.{Name, GlobalObject, LiteralObject, Place, Scalar, IntegerValue, NullValue, FunctionValue, PointerValue, object_place, place_of, integer_of}
use Rattle.ref_semantics.specs.Store.{TypeEnvironment, Eval, ◌>>=◌, give, member_at, decayed}
use Rattle.ref_semantics.specs.Pointers.{truth, accessed, added, element, repointed, tested, compared_pointers, difference, read, write}
use Rattle.ref_semantics.specs.Meaning.{is_true, arithmetic, converted, step_operator, step_amount, step_result}

-- an expression for its value, for its object, for the address of that or for its function, a statement, or a function's body
pub data Part : Type 0 where
  ValuePart : (v : Value) → Part
  ObjectPart : (object : Object) → Part
  AddressPart : (object : Object) → Part
  FunctionPart : (function : Designator) → Part
  StmtPart : (s : Stmt) → Part
  BodyPart : (function : FunctionDef) → Part

-- whether a unit is spent as it is entered: nodes that stand for none of the text take none
abbrev pub spends : Part → Bool
spends (ValuePart (T.Read place object)) = false
spends (ValuePart (T.Decay place object)) = false
spends (ValuePart (T.FunctionValue function)) = false
spends (ValuePart (T.Converted int_type operand)) = false
spends (ValuePart (T.Repointed place target operand)) = false
spends (ValuePart (T.MadeNull target operand)) = false
spends (ValuePart (T.Tested place operand)) = false
spends (FunctionPart (T.ThroughPointer place pointer)) = false
spends _ = true

-- ---- what evaluation of an expression begins with

pub data Entry : Type 0 where
  -- it is this value
  Gives : (a : Scalar) → Entry
  -- it is a local, by its number
  FindsLocal : (number : ℕ) → Entry
  -- it is this object
  Finds : (name : Name) → Entry
  -- it enters another, and comes to what that comes to
  Becomes : (part : Part) → Entry
  -- it enters another, and waits for that
  Awaits : (part : Part) → Entry
  -- it is a call of a library function, whose name stands in so many parentheses
  CallsLibrary : (groups : ℕ) → Entry

abbrev pub value_entry : Value → Entry
value_entry (T.Constant int_type z) = Gives (IntegerValue z)
value_entry T.NullPointer = Gives NullValue
value_entry (T.Grouped inner) = Becomes (ValuePart inner)
value_entry (T.Read place object) = Awaits (ObjectPart object)
value_entry (T.Decay place object) = Awaits (ObjectPart object)
value_entry (T.FunctionValue function) = Becomes (FunctionPart function)
value_entry (T.Converted int_type operand) = Awaits (ValuePart operand)
value_entry (T.Repointed place target operand) = Awaits (ValuePart operand)
value_entry (T.MadeNull target operand) = Awaits (ValuePart operand)
value_entry (T.Tested place operand) = Awaits (ValuePart operand)
value_entry (T.Plus operand) = Becomes (ValuePart operand)
value_entry (T.Minus place int_type operand) = Awaits (ValuePart operand)
value_entry (T.Complement int_type operand) = Awaits (ValuePart operand)
value_entry (T.Not operand) = Awaits (ValuePart operand)
value_entry (T.Arithmetic op place int_type left right) = Awaits (ValuePart left)
value_entry (T.Compare relation left right) = Awaits (ValuePart left)
value_entry (T.ComparePointers relation place left right) = Awaits (ValuePart left)
value_entry (T.PointerPlus place pointer number) = Awaits (ValuePart pointer)
value_entry (T.NumberPlus place number pointer) = Awaits (ValuePart number)
value_entry (T.PointerMinus place pointer number) = Awaits (ValuePart pointer)
value_entry (T.PointerDifference place left right) = Awaits (ValuePart left)
value_entry (T.And left right) = Awaits (ValuePart left)
value_entry (T.Or left right) = Awaits (ValuePart left)
value_entry (T.Conditional condition taken otherwise) = Awaits (ValuePart condition)
value_entry (T.AddressOf place object) = Becomes (AddressPart object)
value_entry (T.AddressOfFunction function) = Becomes (FunctionPart function)
value_entry (T.Cast operand) = Becomes (ValuePart operand)
value_entry (T.CastVoid operand) = Becomes (ValuePart operand)
value_entry (T.Assign place object operand) = Awaits (ObjectPart object)
value_entry (T.AssignArithmetic op place object_type int_type object operand) = Awaits (ObjectPart object)
value_entry (T.AssignMoved is_minus place object number) = Awaits (ObjectPart object)
value_entry (T.StepInteger stepping place int_type object) = Awaits (ObjectPart object)
value_entry (T.StepPointer stepping place object) = Awaits (ObjectPart object)
value_entry (T.Call is_used place function c_type arguments) = Awaits (FunctionPart function)
value_entry (T.LibraryCall function groups place arguments) = CallsLibrary groups

abbrev pub object_entry : Object → Entry
object_entry (T.Local number) = FindsLocal number
object_entry (T.Global name) = Finds (GlobalObject name)
object_entry (T.Literal place bytes) = Gives (PointerValue (object_place (LiteralObject place) (literal_type bytes)))
object_entry (T.GroupedObject place inner) = Becomes (ObjectPart inner)
object_entry (T.Pointed place pointer) = Awaits (ValuePart pointer)
object_entry (T.Element place pointer number) = Awaits (ValuePart pointer)
object_entry (T.ElementOf place number pointer) = Awaits (ValuePart number)
object_entry (T.MemberOf place object number) = Awaits (ObjectPart object)
object_entry (T.PointedMember place pointer number) = Awaits (ValuePart pointer)

-- `&*p` is p (C17 6.5.3.2 paragraph 3)
abbrev pub address_entry : Object → Entry
address_entry (T.GroupedObject place inner) = Becomes (AddressPart inner)
address_entry (T.Pointed place pointer) = Becomes (ValuePart pointer)
address_entry object = object_entry object

abbrev pub designator_entry : Designator → Entry
designator_entry (T.Function name) = Gives (FunctionValue name)
designator_entry (T.GroupedFunction inner) = Becomes (FunctionPart inner)
designator_entry (T.PointedFunction place pointer) = Becomes (ValuePart pointer)
designator_entry (T.ThroughPointer place pointer) = Becomes (ValuePart pointer)

-- that of an expression; statements and bodies begin otherwise
abbrev pub entry_of : Part → Entry
entry_of (ValuePart v) = value_entry v
entry_of (ObjectPart object) = object_entry object
entry_of (AddressPart object) = address_entry object
entry_of (FunctionPart function) = designator_entry function
entry_of _ = Gives NullValue

-- ---- what an expression does once its first operand is known

-- what an expression is to one that enters it: the second operand, the right operand of `&&` or `||`, or all that the other comes to
pub data Role : Type 0 where
  AsSecond : Role
  AsRight : Role
  AsWhole : Role

pub data Next : Type 0 where
  Comes : (a : Scalar) → Next
  Enters : (v : Value) (role : Role) → Next

abbrev pub comes : Eval Scalar → Eval Next
comes eval = eval >>= λ a. give (Comes a)

-- `++` and `--` at a place (C17 6.5.2.4, 6.5.3.1)
abbrev pub step_integer : TypeEnvironment → Stepping → Pos → IntType → Place → Eval Scalar
step_integer around stepping here int_type place =
    read around here place >>= λ old. arithmetic (step_operator stepping) (common_of int_type I.Int) here (converted (common_of int_type I.Int) old) (IntegerValue (pos 1)) >>= λ c.
    write around here place (converted int_type c) >>= λ new. give (step_result stepping old new)

abbrev pub step_pointer : TypeEnvironment → Stepping → Pos → Place → Eval Scalar
step_pointer around stepping here place =
    read around here place >>= λ old. added here old (step_amount stepping) >>= λ c. write around here place c >>= λ new. give (step_result stepping old new)

abbrev pub value_next : TypeEnvironment → Value → Scalar → Eval Next
value_next around (T.Read place object) a = comes (read around place (place_of a))
value_next around (T.Decay place object) a = give (Comes (PointerValue (decayed around (place_of a))))
value_next around (T.Converted int_type operand) a = give (Comes (converted int_type a))
value_next around (T.Repointed place target operand) a = comes (repointed around place target a)
value_next around (T.MadeNull target operand) a = give (Comes NullValue)
value_next around (T.Tested place operand) a = comes (tested place a)
value_next around (T.Minus place int_type operand) a = comes (arithmetic B.Sub int_type place (IntegerValue (pos 0)) a)
value_next around (T.Complement int_type operand) a = give (Comes (converted int_type (IntegerValue (neg_ℤ (integer_of a) -ℤ pos 1))))
value_next around (T.Not operand) a = give (Comes (truth (not (is_true a))))
value_next around (T.Arithmetic op place int_type left right) a = give (Enters right AsSecond)
value_next around (T.Compare relation left right) a = give (Enters right AsSecond)
value_next around (T.ComparePointers relation place left right) a = give (Enters right AsSecond)
value_next around (T.PointerPlus place pointer number) a = give (Enters number AsSecond)
value_next around (T.NumberPlus place number pointer) a = give (Enters pointer AsSecond)
value_next around (T.PointerMinus place pointer number) a = give (Enters number AsSecond)
value_next around (T.PointerDifference place left right) a = give (Enters right AsSecond)
value_next around (T.And left right) a = give (if is_true a then Enters right AsRight else Comes (truth false))
value_next around (T.Or left right) a = give (if is_true a then Comes (truth true) else Enters right AsRight)
value_next around (T.Conditional condition taken otherwise) a = give (Enters (if is_true a then taken else otherwise) AsWhole)
value_next around (T.Assign place object operand) a = give (Enters operand AsSecond)
value_next around (T.AssignArithmetic op place object_type int_type object operand) a = give (Enters operand AsSecond)
value_next around (T.AssignMoved is_minus place object number) a = give (Enters number AsSecond)
value_next around (T.StepInteger stepping place int_type object) a = comes (step_integer around stepping place int_type (place_of a))
value_next around (T.StepPointer stepping place object) a = comes (step_pointer around stepping place (place_of a))
value_next around _ a = give (Comes a)

-- that of an expression for its object, or for the address of that
abbrev pub object_next : TypeEnvironment → Object → Scalar → Eval Next
object_next around (T.Pointed place pointer) a = accessed place a >>= λ p. give (Comes (PointerValue p))
object_next around (T.Element place pointer number) a = give (Enters number AsSecond)
object_next around (T.ElementOf place number pointer) a = give (Enters pointer AsSecond)
object_next around (T.MemberOf place object number) a = give (Comes (PointerValue (member_at around (place_of a) number)))
object_next around (T.PointedMember place pointer number) a = accessed place a >>= λ p. give (Comes (PointerValue (member_at around p number)))
object_next around _ a = give (Comes a)

abbrev pub next_of : TypeEnvironment → Part → Scalar → Eval Next
next_of around (ValuePart v) a = value_next around v a
next_of around (ObjectPart object) a = object_next around object a
next_of around (AddressPart object) a = object_next around object a
next_of around _ a = give (Comes a)

-- ---- and once both operands are known

abbrev pub value_of_both : TypeEnvironment → Value → Scalar → Scalar → Eval Scalar
value_of_both around (T.Arithmetic op place int_type left right) a b = arithmetic op int_type place a b
value_of_both around (T.Compare relation left right) a b = give (truth (compare_of relation (integer_of a) (integer_of b)))
value_of_both around (T.ComparePointers relation place left right) a b = compared_pointers around relation place a b
value_of_both around (T.PointerPlus place pointer number) a b = added place a (integer_of b)
value_of_both around (T.NumberPlus place number pointer) a b = added place b (integer_of a)
value_of_both around (T.PointerMinus place pointer number) a b = added place a (neg_ℤ (integer_of b))
value_of_both around (T.PointerDifference place left right) a b = difference place a b
value_of_both around (T.Assign place object operand) a b = write around place (place_of a) b
value_of_both around (T.AssignArithmetic op place object_type int_type object operand) a b =
    read around place (place_of a) >>= λ old. arithmetic op int_type place (converted int_type old) b >>= λ c. write around place (place_of a) (converted object_type c)
value_of_both around (T.AssignMoved is_minus place object number) a b =
    read around place (place_of a) >>= λ old. added place old (if is_minus then neg_ℤ (integer_of b) else integer_of b) >>= λ c. write around place (place_of a) c
value_of_both around _ a b = give b

abbrev pub object_of_both : Object → Scalar → Scalar → Eval Scalar
object_of_both (T.Element place pointer number) a b = element place a (integer_of b) >>= λ p. give (PointerValue p)
object_of_both (T.ElementOf place number pointer) a b = element place b (integer_of a) >>= λ p. give (PointerValue p)
object_of_both _ a b = give b

abbrev pub address_of_both : Object → Scalar → Scalar → Eval Scalar
address_of_both (T.Element place pointer number) a b = added place a (integer_of b)
address_of_both (T.ElementOf place number pointer) a b = added place b (integer_of a)
address_of_both _ a b = give b

abbrev pub both_of : TypeEnvironment → Part → Scalar → Scalar → Eval Scalar
both_of around (ValuePart v) a b = value_of_both around v a b
both_of around (ObjectPart object) a b = object_of_both object a b
both_of around (AddressPart object) a b = address_of_both object a b
both_of around _ a b = give b
