-- What an expression means: what it is tick with, and then what it does with its operands.
use Rattle.std.proofs.Common.{ℕ, Bool, true, false, if◌then◌else◌, pos, neg_ℤ}
use Rattle.c_num.specs.declared.BinOp.TheVariants as B
use Rattle.c_typed.specs.Types.{literal_type}
use Rattle.c_typed.specs.Typed as T
use Rattle.c_typed.specs.Typed.{Value, Object, Designator}
use Rattle.ref_semantics.specs.Values.{GlobalObject, LiteralObject, Place, Scalar, IntegerValue, NullValue, PointerValue, object_place, integer_of}
use Rattle.ref_semantics.specs.Store.{TypeEnvironment, Eval, ◌>>=◌, give, tick, ticks, member_at, decayed}
use Rattle.ref_semantics.specs.Pointers.{truth, accessed, added, element, repointed, tested, read, write}
use Rattle.ref_semantics.specs.Library.{library}
use Rattle.ref_semantics.specs.Meaning.{Calls, is_true, arithmetic, converted, value, values, find, address, designated, named, local_place}
use Rattle.ref_semantics.specs.Parts.{Part, ValuePart, ObjectPart, AddressPart, FunctionPart, StmtPart, BodyPart, spends, Entry, Gives, FindsLocal, Finds, Becomes, Awaits, CallsLibrary, value_entry, object_entry, address_entry, designator_entry, entry_of, AsSecond, AsRight, AsWhole, Next, Comes, Enters, comes, next_of, both_of, step_integer, step_pointer}
use Rattle.ref_semantics.proofs.Binding.{Same, same_self, same_then, same_back, then_behind, then_same, then_give, entered_then, entered_inner}

module _ (around : TypeEnvironment) (calls : Calls) where
  -- an expression's value
  abbrev pub meant : Part → Eval Scalar
  meant (ValuePart v) = value around calls v
  meant (ObjectPart object) = find around calls object >>= λ p. give (PointerValue p)
  meant (AddressPart object) = address around calls object
  meant (FunctionPart function) = designated around calls function
  meant _ = give NullValue

  abbrev pub meant_next : Part → Scalar → Next → Eval Scalar
  meant_next part a (Comes b) = give b
  meant_next part a (Enters v AsSecond) = value around calls v >>= λ b. both_of around part a b
  meant_next part a (Enters v AsRight) = value around calls v >>= λ b. give (truth (is_true b))
  meant_next part a (Enters v AsWhole) = value around calls v

  -- what it does with its first operand
  abbrev pub meant_with : Part → Scalar → Eval Scalar
  meant_with (ValuePart (T.Call is_used place function c_type arguments)) f = values around calls arguments >>= λ given. calls place is_used c_type f given
  meant_with part a = next_of around part a >>= meant_next part a

  abbrev pub meant_library : Part → ℕ → Eval Scalar
  meant_library (ValuePart (T.LibraryCall function groups' place arguments)) groups = ticks groups (tick (values around calls arguments >>= λ given. library around function place given))
  meant_library part groups = give NullValue

  abbrev pub meant_entry : Part → Entry → Eval Scalar
  meant_entry part (Gives a) = give a
  meant_entry part (FindsLocal number) = local_place number >>= λ p. give (PointerValue p)
  meant_entry part (Finds name) = named name >>= λ p. give (PointerValue p)
  meant_entry part (Becomes other) = meant other
  meant_entry part (Awaits other) = meant other >>= meant_with part
  meant_entry part (CallsLibrary groups) = meant_library part groups

  abbrev pub meant_whole : Part → Eval Scalar
  meant_whole part = if spends part then tick (meant_entry part (entry_of part)) else meant_entry part (entry_of part)

  -- ---- operands

  found : (object : Object) (next : Place → Eval Scalar) (part : Part) → ((p : Place) → Same (next p) (meant_with part (PointerValue p))) →
      Same (find around calls object >>= next) ((find around calls object >>= λ p. give (PointerValue p)) >>= meant_with part)
  found object next part each = same_then (then_same (find around calls object) each) (same_back (then_behind (find around calls object) (λ p. give (PointerValue p)) (meant_with part) (λ p. same_self)))

  came_to : (eval : Eval Scalar) (part : Part) (a : Scalar) → Same eval (comes eval >>= meant_next part a)
  came_to eval part a = same_then (then_give eval) (same_back (then_behind eval (λ b. give (Comes b)) (meant_next part a) (λ b. same_self)))

  logical : (part : Part) (a : Scalar) (one other : Next) (is_first : Bool) → Same (if is_first then meant_next part a one else meant_next part a other) (meant_next part a (if is_first then one else other))
  logical part a one other true = same_self
  logical part a one other false = same_self

  chosen_value : (part : Part) (a : Scalar) (taken otherwise : Value) (is_first : Bool) → Same (if is_first then value around calls taken else value around calls otherwise) (meant_next part a (Enters (if is_first then taken else otherwise) AsWhole))
  chosen_value part a taken otherwise true = same_self
  chosen_value part a taken otherwise false = same_self

  -- ---- values

  pub value_means : (v : Value) → Same (value around calls v) (meant_whole (ValuePart v))
  value_means (T.Read place object) = found object (λ p. read around place p) (ValuePart (T.Read place object)) (λ p. came_to (read around place p) (ValuePart (T.Read place object)) (PointerValue p))
  value_means (T.Decay place object) = found object (λ p. give (PointerValue (decayed around p))) (ValuePart (T.Decay place object)) (λ p. same_self)
  value_means (T.Repointed place target operand) = then_same (value around calls operand) (λ a. came_to (repointed around place target a) (ValuePart (T.Repointed place target operand)) a)
  value_means (T.Tested place operand) = then_same (value around calls operand) (λ a. came_to (tested place a) (ValuePart (T.Tested place operand)) a)
  value_means (T.Minus place int_type operand) = entered_inner (then_same (value around calls operand) (λ a. came_to (arithmetic B.Sub int_type place (IntegerValue (pos 0)) a) (ValuePart (T.Minus place int_type operand)) a))
  value_means (T.And left right) = entered_inner (then_same (value around calls left) (λ a. logical (ValuePart (T.And left right)) a (Enters right AsRight) (Comes (truth false)) (is_true a)))
  value_means (T.Or left right) = entered_inner (then_same (value around calls left) (λ a. logical (ValuePart (T.Or left right)) a (Comes (truth true)) (Enters right AsRight) (is_true a)))
  value_means (T.Conditional condition taken otherwise) = entered_inner (then_same (value around calls condition) (λ a. chosen_value (ValuePart (T.Conditional condition taken otherwise)) a taken otherwise (is_true a)))
  value_means (T.Assign place object operand) = entered_inner (found object (λ p. value around calls operand >>= λ a. write around place p a) (ValuePart (T.Assign place object operand)) (λ p. same_self))
  value_means (T.AssignArithmetic op place object_type int_type object operand) =
      entered_inner (found object (λ p. value around calls operand >>= λ b. read around place p >>= λ a. arithmetic op int_type place (converted int_type a) b >>= λ c. write around place p (converted object_type c))
      (ValuePart (T.AssignArithmetic op place object_type int_type object operand)) (λ p. same_self))
  value_means (T.AssignMoved is_minus place object number) =
      entered_inner (found object (λ p. value around calls number >>= λ n. read around place p >>= λ a. added place a (if is_minus then neg_ℤ (integer_of n) else integer_of n) >>= λ c. write around place p c)
      (ValuePart (T.AssignMoved is_minus place object number)) (λ p. same_self))
  value_means (T.StepInteger stepping place int_type object) =
      entered_inner (found object (λ p. step_integer around stepping place int_type p) (ValuePart (T.StepInteger stepping place int_type object))
      (λ p. came_to (step_integer around stepping place int_type p) (ValuePart (T.StepInteger stepping place int_type object)) (PointerValue p)))
  value_means (T.StepPointer stepping place object) =
      entered_inner (found object (λ p. step_pointer around stepping place p) (ValuePart (T.StepPointer stepping place object))
      (λ p. came_to (step_pointer around stepping place p) (ValuePart (T.StepPointer stepping place object)) (PointerValue p)))
  value_means _ = same_self

  -- ---- objects

  object_of : (eval : Eval Place) (part : Part) (a : Scalar) → Same (eval >>= λ p. give (PointerValue p)) ((eval >>= λ p. give (Comes (PointerValue p))) >>= meant_next part a)
  object_of eval part a = same_back (then_behind eval (λ p. give (Comes (PointerValue p))) (meant_next part a) (λ p. same_self))

  member_of : (eval : Eval Place) (member : Place → Place) (part : Part) (a : Scalar) →
      Same ((eval >>= λ p. give (member p)) >>= λ p. give (PointerValue p)) ((eval >>= λ p. give (Comes (PointerValue (member p)))) >>= meant_next part a)
  member_of eval member part a =
      same_then (then_behind eval (λ p. give (member p)) (λ p. give (PointerValue p)) (λ p. same_self)) (same_back (then_behind eval (λ p. give (Comes (PointerValue (member p)))) (meant_next part a) (λ p. same_self)))

  entered_object : (operand : Eval Scalar) (next : Scalar → Eval Place) (part : Part) → ((a : Scalar) → Same (next a >>= λ p. give (PointerValue p)) (meant_with part a)) →
      Same (tick (operand >>= next) >>= λ p. give (PointerValue p)) (tick (operand >>= meant_with part))
  entered_object operand next part each = entered_then (operand >>= next) (λ p. give (PointerValue p)) (then_behind operand next (λ p. give (PointerValue p)) each)

  pub object_means : (object : Object) → Same (meant (ObjectPart object)) (meant_whole (ObjectPart object))
  object_means (T.Local number) = entered_then (local_place number) (λ p. give (PointerValue p)) same_self
  object_means (T.Global name) = entered_then (named (GlobalObject name)) (λ p. give (PointerValue p)) same_self
  object_means (T.Literal place bytes) = entered_then (give (object_place (LiteralObject place) (literal_type bytes))) (λ p. give (PointerValue p)) same_self
  object_means (T.GroupedObject place inner) = entered_then (find around calls inner) (λ p. give (PointerValue p)) same_self
  object_means (T.Pointed place pointer) = entered_object (value around calls pointer) (λ p. accessed place p) (ObjectPart (T.Pointed place pointer)) (λ a. object_of (accessed place a) (ObjectPart (T.Pointed place pointer)) a)
  object_means (T.Element place pointer number) =
      entered_object (value around calls pointer) (λ p. value around calls number >>= λ n. element place p (integer_of n)) (ObjectPart (T.Element place pointer number))
      (λ p. then_behind (value around calls number) (λ n. element place p (integer_of n)) (λ q. give (PointerValue q)) (λ n. same_self))
  object_means (T.ElementOf place number pointer) =
      entered_object (value around calls number) (λ n. value around calls pointer >>= λ p. element place p (integer_of n)) (ObjectPart (T.ElementOf place number pointer))
      (λ n. then_behind (value around calls pointer) (λ p. element place p (integer_of n)) (λ q. give (PointerValue q)) (λ p. same_self))
  object_means (T.MemberOf place object number) =
      entered_then (find around calls object >>= λ p. give (member_at around p number)) (λ p. give (PointerValue p))
      (same_then (then_behind (find around calls object) (λ p. give (member_at around p number)) (λ p. give (PointerValue p)) (λ p. same_self))
      (found object (λ p. give (PointerValue (member_at around p number))) (ObjectPart (T.MemberOf place object number)) (λ p. same_self)))
  object_means (T.PointedMember place pointer number) =
      entered_object (value around calls pointer) (λ a. accessed place a >>= λ p. give (member_at around p number)) (ObjectPart (T.PointedMember place pointer number))
      (λ a. member_of (accessed place a) (λ p. member_at around p number) (ObjectPart (T.PointedMember place pointer number)) a)

  pub address_means : (object : Object) → Same (address around calls object) (meant_whole (AddressPart object))
  address_means (T.Local number) = entered_then (local_place number) (λ p. give (PointerValue p)) same_self
  address_means (T.MemberOf place object number) = entered_inner (found object (λ p. give (PointerValue (member_at around p number))) (AddressPart (T.MemberOf place object number)) (λ p. same_self))
  address_means (T.PointedMember place pointer number) =
      entered_inner (then_same (value around calls pointer) (λ a.
      same_back (then_behind (accessed place a) (λ p. give (Comes (PointerValue (member_at around p number)))) (meant_next (AddressPart (T.PointedMember place pointer number)) a) (λ p. same_self))))
  address_means _ = same_self

  pub designator_means : (function : Designator) → Same (designated around calls function) (meant_whole (FunctionPart function))
  designator_means (T.Function name) = same_self
  designator_means _ = same_self

  -- ---- all of them

  -- an expression, that is no statement and no body
  abbrev pub Expression : Part → Type 0
  Expression (StmtPart s) = ⊥
  Expression (BodyPart function) = ⊥
  Expression _ = Unit {0}

  pub part_means : (part : Part) → Expression part → Same (meant part) (meant_whole part)
  part_means (ValuePart v) h = value_means v
  part_means (ObjectPart object) h = object_means object
  part_means (AddressPart object) h = address_means object
  part_means (FunctionPart function) h = designator_means function
  part_means (StmtPart s) h = absurd h
  part_means (BodyPart function) h = absurd h

  -- what is tick by an expression is one
  abbrev pub Fits : Entry → Type 0
  Fits (Becomes part) = Expression part
  Fits (Awaits part) = Expression part
  Fits _ = Unit {0}

  value_fits : (v : Value) → Fits (value_entry v)
  value_fits (T.Constant int_type z) = tt
  value_fits _ = tt

  object_fits : (object : Object) → Fits (object_entry object)
  object_fits (T.Local number) = tt
  object_fits _ = tt

  address_fits : (object : Object) → Fits (address_entry object)
  address_fits (T.Local number) = tt
  address_fits _ = tt

  designator_fits : (function : Designator) → Fits (designator_entry function)
  designator_fits (T.Function name) = tt
  designator_fits _ = tt

  pub entry_fits : (part : Part) → Fits (entry_of part)
  entry_fits (ValuePart v) = value_fits v
  entry_fits (ObjectPart object) = object_fits object
  entry_fits (AddressPart object) = address_fits object
  entry_fits (FunctionPart function) = designator_fits function
  entry_fits _ = tt
