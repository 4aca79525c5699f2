-- What stands in memory for something, and stays while a table grows.
use Rattle.std.specs.Prelude.{◌≡◌, List}
use Rattle.c_typed.specs.declared.typed.Value as memory_value
use Rattle.c_typed.specs.declared.typed.Object as memory_object
use Rattle.c_typed.specs.Typed as typed
use Rattle.c_typed.specs.Table.{Interned, Grows}
use Rattle.c_typed.specs.Views.{value_in, object_in, values_in, ValueStands, ObjectStands, ValuesStand}

abbrev pub Stays : {A B : Type 0} → (Interned → B → A → Type 0) → Type 0
Stays {A} {B} Is = (old new : Interned) → Grows old new → (b : B) (a : A) → Is old b a → Is new b a

abbrev pub IsValue : Interned → memory_value.Value → typed.Value → Type 0
IsValue table v value = ValueStands table v × (value_in table v ≡ value)

abbrev pub IsObject : Interned → memory_object.Object → typed.Object → Type 0
IsObject table o object = ObjectStands table o × (object_in table o ≡ object)

abbrev pub IsValues : Interned → List memory_value.Value → typed.Values → Type 0
IsValues table vs values = ValuesStand table vs × (values_in table vs ≡ values)

-- what has no type stands for itself
abbrev pub IsSame : {A : Type 0} → Interned → A → A → Type 0
IsSame table b a = b ≡ a

-- what is seen in a table, where it stands there
abbrev pub IsSeen : {A B : Type 0} → (Interned → B → Type 0) → (Interned → B → A) → Interned → B → A → Type 0
IsSeen Stand view table b a = Stand table b × (view table b ≡ a)
