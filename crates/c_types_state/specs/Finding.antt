-- What stands in memory for what is known, and what a checker finds.
use Rattle.std.specs.Prelude.{◌≡◌, List, [], ◌∷◌, Option, Some, None, if◌then◌else◌}
use Rattle.c_typed.specs.declared.c_type.CType as number
use Rattle.c_typed.specs.declared.c_type.Parameters as numbers
use Rattle.c_typed.specs.Types.{CType, CTypes}
use Rattle.c_typed.specs.Table.{Interned, Stands, type_in, ListStands, types_in, Grows}
use Rattle.c_typed.specs.Views.{value_in, object_in, designator_in, ValueStands, ObjectStands, DesignatorStands}
use Rattle.c_rules.specs.declared.violation.Violation.{Violation}
use Rattle.c_types_state.specs.declared.known.TypedExpr as memory_typed
use Rattle.c_types_state.specs.declared.known.TypedExpr.TheVariants as E
use Rattle.c_typed.specs.DefinitionViews.{static_of}
use Rattle.c_types_state.specs.declared.known.Address as memory_address
use Rattle.c_types_state.specs.declared.known.Address.TheVariants as A
use Rattle.c_types_state.specs.declared.known.Known as memory_known
use Rattle.c_types_state.specs.declared.known.Condition as memory_condition
use Rattle.c_types_state.specs.NameTables.{State, scope_of}
use Rattle.c_rules.specs.Known.{Checked, Known, TypedExpr, OfValue, OfObject, OfFunction, OfLibrary, Address, NoAddress, Outside, NullAddress, FunctionAddress, Element, comes_first}
use Rattle.c_rules.specs.Operators.{Condition}

-- ---- what stands for what is known

abbrev pub typed_in : Interned → memory_typed.TypedExpr → TypedExpr
typed_in table (E.Value value) = OfValue (value_in table value.value)
typed_in table (E.Object object) = OfObject (object_in table object.value)
typed_in table (E.Function function) = OfFunction (designator_in table function.value)
typed_in table (E.Library function groups) = OfLibrary function groups

abbrev pub address_in : Interned → memory_address.Address → Address
address_in table A.Unknown = NoAddress
address_in table A.Outside = Outside
address_in table A.Null = NullAddress
address_in table (A.Function name) = FunctionAddress name
address_in table (A.Element root parts c_type count index) = Element (static_of root) parts.items (type_in table c_type) count index

abbrev pub expr_in : Interned → memory_known.Known → Known
expr_in table known =
    record {
      c_type = type_in table known.c_type;
      typed = typed_in table known.typed;
      constness = known.constness;
      is_null = known.is_null;
      address = address_in table known.address;
    }

abbrev pub condition_in : Interned → memory_condition.Condition → Condition
condition_in table condition = record { test = value_in table condition.test.value; constness = condition.constness }

-- each of the types in it stands for one
abbrev pub TypedStands : Interned → memory_typed.TypedExpr → Type 0
TypedStands table (E.Value value) = ValueStands table value.value
TypedStands table (E.Object object) = ObjectStands table object.value
TypedStands table (E.Function function) = DesignatorStands table function.value
TypedStands table (E.Library function groups) = Unit {0}

abbrev pub AddressStands : Interned → memory_address.Address → Type 0
AddressStands table (A.Element root parts c_type count index) = Stands table c_type
AddressStands table _ = Unit {0}

abbrev pub ExprStands : Interned → memory_known.Known → Type 0
ExprStands table known = Stands table known.c_type × TypedStands table known.typed × AddressStands table known.address

-- these stand for those
abbrev pub IsExpr : Interned → memory_known.Known → Known → Type 0
IsExpr table expr known = ExprStands table expr × (expr_in table expr ≡ known)

abbrev pub IsType : Interned → number.CType → CType → Type 0
IsType table t c_type = Stands table t × (type_in table t ≡ c_type)

abbrev pub IsTypes : Interned → numbers.Parameters → CTypes → Type 0
IsTypes table ps c_types = ListStands table ps × (types_in table ps ≡ c_types)

abbrev pub IsCondition : Interned → memory_condition.Condition → Condition → Type 0
IsCondition table condition known = ValueStands table condition.test.value × (condition_in table condition ≡ known)

abbrev pub AllStand : {B : Type 0} → (Interned → B → Type 0) → Interned → Option B → Type 0
AllStand Stand table None = Unit {0}
AllStand Stand table (Some b) = Stand table b

abbrev pub each_in : {A B : Type 0} → (Interned → B → A) → Interned → Option B → Option A
each_in view table None = None
each_in view table (Some b) = Some (view table b)

-- ---- violations

-- the least of a violation and those before
abbrev pub lesser : Option Violation → Violation → Option Violation
lesser None violation = Some violation
lesser (Some least) violation = if comes_first least violation then Some least else Some violation

abbrev pub noted : Option Violation → List Violation → Option Violation
noted least [] = least
noted least (violation ∷ violations) = noted (lesser least violation) violations

-- ---- what it finds

abbrev pub IsOption : {A B : Type 0} → (B → A → Type 0) → Option B → Option A → Type 0
IsOption Is (Some b) (Some a) = Is b a
IsOption Is None None = Unit {0}
IsOption Is _ _ = ⊥

-- It has found what a part violates and what is known of it. The table may have grown; the scope stays.
pub record Finds {A B : Type 0} (Is : Interned → B → A → Type 0) (checked : Checked A) (old new : State) (result : Option B) : Type 0 where
  pub grows : Grows old.table new.table
  pub scope : scope_of new ≡ scope_of old
  pub least : new.least ≡ noted old.least checked.found
  pub known : IsOption (Is new.table) result checked.known
