-- What a store in memory holds, and what a call on it does.
use Rattle.std.specs.Prelude.{◌≡◌, ℕ, List, Option, Some, None, Result, Ok, Err, nat_eq, reverse, drop, bytes_eq, ◌⊎◌, ◌-◌, ◌^◌, ℤ, pos, ◌+ℤ◌, ◌≤ℤ◌}
use Rattle.std.specs.List.{list_any}
use Rattle.indexmap.specs.IndexMap.{IndexMap, get, get_by}
use Rattle.run_theory.specs.declared.ends.UbKind.{UbKind}
use Rattle.run_theory.specs.declared.place.Pos.{Pos}
use Rattle.run_theory.specs.Runs.{output_of}
use Rattle.c_typed.specs.Table.{Interned, type_in, structs_in}
use Rattle.c_typed.specs.Names.{contains}
use Rattle.ref_semantics.specs.Values.{Content, Dead, Raw, Elements, Scalar}
use Rattle.ref_semantics.specs.Store.{TypeEnvironment, State, Then, Eval, ◌>>=◌, undefined}
use Rattle.ref_semantics.specs.Meaning.{Completion, new_local, stored_first}
use Rattle.c_typed.specs.Types.{CType}
use Rattle.ref_meaning.specs.declared.value.Name as memory_name
use Rattle.ref_meaning.specs.declared.value.Scalar as memory_scalar
use Rattle.ref_meaning.specs.declared.value.Stop.{Stop}
use Rattle.ref_meaning.specs.declared.value.Stop.TheVariants as T
use Rattle.ref_meaning.specs.declared.object.Content as memory_content
use Rattle.ref_meaning.specs.declared.object.Content.TheVariants as C
use Rattle.ref_meaning.specs.declared.object.Elements as memory_elements
use Rattle.ref_meaning.specs.declared.store.Store.{Store}
use Rattle.ref_meaning.specs.Fitting.{ElementsStand}
use Rattle.ref_meaning.specs.RefStore.Views.{name_of, same_memory, scalar_in, ScalarStands}

-- ---- objects

-- what stands for a scalar that may be there
abbrev pub HeldIs : Interned → Option memory_scalar.Scalar → Option Scalar → Type 0
HeldIs table None held = held ≡ None
HeldIs table (Some value) held = (held ≡ Some (scalar_in table value)) × ScalarStands table value

abbrev pub AllHeld : {S : Type 0} → Interned → IndexMap ℕ memory_scalar.Scalar S → (ℕ → Option Scalar) → Type 0
AllHeld table memory held = (offset : ℕ) → HeldIs table (get nat_eq memory offset) (held offset)

-- the same elements, but for their scalars
pub record IsUndisturbed (old new : memory_elements.Elements) : Type 0 where
  pub is_static : new.is_static ≡ old.is_static
  pub c_type : new.c_type ≡ old.c_type
  pub count : new.count ≡ old.count

-- what an object that may be there holds
pub data ContentIs (table : Interned) : Option memory_content.Content → Content → Type 0 where
  dead : ContentIs table None Dead
  raw : (size : ℕ) → ContentIs table (Some (C.Raw size)) (Raw size)
  elements : (elements : memory_elements.Elements) (held : ℕ → Option Scalar) → ElementsStand table elements.c_type elements.count → AllHeld table elements.held held
      → ContentIs table (Some (C.Elements elements)) (Elements elements.is_static (type_in table elements.c_type) elements.count held)

-- ---- stores

-- A store in memory stands for a state, while a function runs in front of whose locals so many others stand.
pub record At (around : TypeEnvironment) (store : Store) (base : ℕ) (state : State) : Type 0 where
  pub structs : around.structs ≡ structs_in store.types.now
  pub completed : (tag : List ℕ) → contains around.completed tag ≡ list_any (λ key. bytes_eq tag key.now) store.completed.keys
  pub objects : (name : memory_name.Name) → ContentIs store.types.now (get_by (same_memory name) store.objects) (state.objects (name_of name))
  pub locals : state.locals ≡ reverse (drop base store.locals.items)
  pub next_local : state.next_local ≡ store.next_local
  pub next_heap : state.next_heap ≡ store.next_heap

-- a store that stands for some state
pub record IsStore (store : Store) : Type 0 where
  pub around : TypeEnvironment
  pub base : ℕ
  pub state : State
  pub at : At around store base state

-- with so many units and this input left
abbrev pub left : ℕ → List ℕ → State → State
left units input state = record state { units = units; input = input }

-- From a state an evaluation comes to a value and to a state, whatever units and input are left.
abbrev pub EvaluatesTo : {A : Type 0} → Eval A → State → A → State → Type 0
EvaluatesTo eval state value after = (units : ℕ) (input : List ℕ) → eval (left units input state) ≡ Then value (left units input after)

-- it is undefined, with nothing written
pub record IsUndefined {A : Type 0} (eval : Eval A) (state : State) (kind : UbKind) (place : Pos) : Type 0 where
  pub there : State
  pub is : (units : ℕ) (input : List ℕ) → eval (left units input state) ≡ undefined kind place (left units input there)
  pub quiet : output_of there.trace ≡ output_of state.trace

-- what an evaluation comes to, with nothing written
pub record Comes {A : Type 0} (around : TypeEnvironment) (new : Store) (base : ℕ) (eval : Eval A) (state : State) (value : A) : Type 0 where
  pub after : State
  pub does : EvaluatesTo eval state value after
  pub at : At around new base after
  pub quiet : output_of after.trace ≡ output_of state.trace

-- A call on a store does what the evaluation does: it gives what that comes to, or says that it is undefined. Where memory runs
-- out, the store stands for what it stood for.
abbrev pub CallGives : {A B : Type 0} → TypeEnvironment → Store → Store → ℕ → (B → A) → Eval A → Result B Stop → Type 0
CallGives around old new base view eval (Ok value) = (state : State) → At around old base state → Comes around new base eval state (view value)
CallGives around old new base view eval (Err (T.Undefined kind place)) = (state : State) → At around old base state → IsUndefined eval state kind place
CallGives around old new base view eval (Err T.OutOfMemory) = (state : State) → At around old base state → At around new base state

-- An index z elements further, or past every row where it is greater than any number of 128 bits.
abbrev pub IsMoved : ℕ → ℤ → ℤ → Type 0
IsMoved index z moved = (moved ≡ (pos index +ℤ z)) ⊎ ((moved ≡ pos (2 ^ 127 - 1)) × (moved ≤ℤ (pos index +ℤ z)))

-- a local begins to live, with a value
abbrev pub new_local_of : TypeEnvironment → CType → Scalar → Eval Completion
new_local_of around c_type value = new_local c_type >>= λ place. stored_first around place (Some value)
