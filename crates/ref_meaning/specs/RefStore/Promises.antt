-- What calls on a store promise.
use Rattle.std.specs.Prelude.{◌≡◌, ℕ, Option, Result}
use Rattle.c_typed.specs.Types.{CType}
use Rattle.c_typed.specs.Table.{Interned, structs_in, type_in}
use Rattle.c_typed.specs.declared.c_type.CType as number
use Rattle.ref_semantics.specs.Values as meaning
use Rattle.ref_semantics.specs.Store.{TypeEnvironment, State, Eval}
use Rattle.ref_meaning.specs.declared.store.Store.{Store}
use Rattle.ref_meaning.specs.declared.value.Place as memory_place
use Rattle.ref_meaning.specs.declared.value.Scalar as memory_scalar
use Rattle.ref_meaning.specs.declared.value.Stop.{Stop}
use Rattle.ref_meaning.specs.declared.object.Content as memory_content
use Rattle.ref_meaning.specs.RefStore.Views.{place_in, scalar_in}
use Rattle.ref_meaning.specs.RefStore.Holding.{At, ContentIs, CallGives}

-- the place, the value and the type that those in memory stand for
abbrev pub place_seen : Store → memory_place.Place → meaning.Place
place_seen store place = place_in store.types.now place

abbrev pub value_seen : Store → memory_scalar.Scalar → meaning.Scalar
value_seen store value = scalar_in store.types.now value

abbrev pub type_seen : Store → number.CType → CType
type_seen store c_type = type_in store.types.now c_type

-- in each state that a store stands for
abbrev pub InEach : Store → (TypeEnvironment → State → Type 0) → Type 0
InEach store fact = (around : TypeEnvironment) (base : ℕ) (state : State) → At around store base state → fact around state

-- in each environment with the structures of a table
abbrev pub ForTypes : Interned → (TypeEnvironment → Type 0) → Type 0
ForTypes table fact = (around : TypeEnvironment) → around.structs ≡ structs_in table → fact around

-- for each content that an object in memory stands for
abbrev pub ForContent : Interned → Option memory_content.Content → (meaning.Content → Type 0) → Type 0
ForContent table object fact = (content : meaning.Content) → ContentIs table object content → fact content

-- a call gives the value, or the place, that a rule comes to in each state, with what that leaves
abbrev pub GivesScalar : Store → Store → (TypeEnvironment → Eval meaning.Scalar) → Result memory_scalar.Scalar Stop → Type 0
GivesScalar old new rule result = (around : TypeEnvironment) (base : ℕ) → CallGives around old new base (scalar_in old.types.now) (rule around) result

abbrev pub GivesPlace : Store → Store → (TypeEnvironment → Eval meaning.Place) → Result memory_place.Place Stop → Type 0
GivesPlace old new rule result = (around : TypeEnvironment) (base : ℕ) → CallGives around old new base (place_in old.types.now) (rule around) result
