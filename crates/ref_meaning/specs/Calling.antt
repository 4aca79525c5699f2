-- What is known of calls and their arguments.
use Rattle.std.specs.Prelude.{◌≡◌, ℕ, Bool, true, false, List, [], ◌∷◌, Option, Some, None, Result, Ok, Err}
use Rattle.c_typed.specs.declared.typed.Value as memory_value
use Rattle.c_typed.specs.declared.typed.Value.TheVariants as V
use Rattle.c_typed.specs.Typed as T
use Rattle.c_typed.specs.Typed.{Values}
use Rattle.c_typed.specs.Table.{Interned}
use Rattle.c_typed.specs.Views.{value_in}
use Rattle.ref_semantics.specs.Values.{Scalar}
use Rattle.ref_semantics.specs.Store.{State, Eval, Then, halt}
use Rattle.run_theory.specs.Runs.{Final}
use Rattle.ref_meaning.specs.declared.value.Scalar as memory_scalar
use Rattle.ref_meaning.specs.RefStore.Holding.{At, left}
use Rattle.ref_meaning.specs.RefStore.Views.{scalar_in}
use Rattle.ref_meaning.specs.declared.control.Node as memory_node
use Rattle.ref_meaning.specs.declared.control.Node.TheVariants as N
use Rattle.ref_meaning.specs.declared.control.Stage.TheVariants as S
use Rattle.ref_meaning.specs.declared.control.Task.TheVariants as K
use Rattle.ref_meaning.specs.declared.control.Frame as memory_frame
use Rattle.ref_meaning.specs.declared.run.RefRun.{RefRun}
use Rattle.ref_meaning.specs.declared.run.Halt.{Halt}
use Rattle.ref_meaning.specs.declared.run.Halt.TheVariants as H
use Rattle.ref_meaning.specs.Views.{part_in, value_of, arguments_of, arguments_from, table_of, around_run, final_of}
use Rattle.ref_meaning.specs.Holding.{NodeStands}
use Rattle.ref_meaning.specs.Moving.{IsKept, Becomes, IsTold}

-- a call of a function of the program
abbrev pub is_own_call : memory_value.Value → Bool
is_own_call (V.Call' is_used place p function c_type shape arguments) = true
is_own_call _ = false

-- the first of these arguments, where there is one
abbrev pub IsArgument : Interned → Values → Option memory_node.Node → Type 0
IsArgument table T.NoValues None = Unit {0}
IsArgument table (T.MoreValues first others) (Some (N.Value v)) = value_in table v.now ≡ first
IsArgument table _ _ = ⊥

abbrev pub OptionalNode : Interned → Option memory_node.Node → Type 0
OptionalNode table None = Unit {0}
OptionalNode table (Some node) = NodeStands table node

-- the arguments of a call from a number on
abbrev pub arguments_in : Interned → memory_node.Node → ℕ → Values
arguments_in table call number = arguments_from number (arguments_of (value_of (part_in table call)))

-- a call goes on, with an argument or with all of them
abbrev pub Goes : RefRun → RefRun → memory_node.Node → memory_scalar.Scalar → ℕ → List memory_frame.Frame → Option memory_node.Node → Type 0
Goes old new call function count others (Some next) = Becomes old new (record { node = next; task = K.Enter }) (record { node = call; stage = S.Argument function count } ∷ others)
Goes old new call function count others None = Becomes old new (record { node = call; task = K.Apply function count }) others

pub record GoesOn (old new : RefRun) (call : memory_node.Node) (function : memory_scalar.Scalar) (count : ℕ) (others : List memory_frame.Frame) : Type 0 where
  pub next : Option memory_node.Node
  pub is : IsArgument (table_of old) (arguments_in (table_of old) call count) next
  pub stands : OptionalNode (table_of old) next
  pub goes : Goes old new call function count others next

-- ---- what a call evaluates in the library, with input and output

-- the only one of the arguments
abbrev pub only_of : List Scalar → Option Scalar
only_of (a ∷ []) = Some a
only_of _ = None

pub record ComesTold (old new : RefRun) (eval : Eval Scalar) (base input : List ℕ) (state : State) (value : Scalar) (is_left written : Option (List ℕ)) : Type 0 where
  pub after : State
  pub rest : List ℕ
  pub does : (units : ℕ) → eval (left units input state) ≡ Then value (left units rest after)
  pub at : At (around_run old) new.store old.base after
  pub told : IsTold base rest after is_left written

pub record IsOverLibrary (eval : Eval Scalar) (base input : List ℕ) (state : State) (final : Final) (is_left written : Option (List ℕ)) : Type 0 where
  pub there : State
  pub rest : List ℕ
  pub is : (units : ℕ) → eval (left units input state) ≡ halt final (left units rest there)
  pub told : IsTold base rest there is_left written

pub record StaysLibrary (old new : RefRun) (is_left written left' written' : Option (List ℕ)) : Type 0 where
  pub at : (state : State) → At (around_run old) old.store old.base state → At (around_run old) new.store old.base state
  pub unread : left' ≡ is_left
  pub unwritten : written' ≡ written

-- A call of the library does what an evaluation does with what is told of input and output.
abbrev pub Evaluates : RefRun → RefRun → Eval Scalar → Result memory_scalar.Scalar Halt → Option (List ℕ) → Option (List ℕ) → Option (List ℕ) → Option (List ℕ) → Type 0
Evaluates old new eval (Ok value) is_left written left' written' =
    (base input : List ℕ) (state : State) → At (around_run old) old.store old.base state → IsTold base input state is_left written → ComesTold old new eval base input state (scalar_in (table_of old) value) left' written'
Evaluates old new eval (Err (H.Final final)) is_left written left' written' =
    (base input : List ℕ) (state : State) → At (around_run old) old.store old.base state → IsTold base input state is_left written → IsOverLibrary eval base input state (final_of final) left' written'
Evaluates old new eval (Err _) is_left written left' written' = StaysLibrary old new is_left written left' written'

-- the store stands for some state, where it did before
abbrev pub Remains : RefRun → RefRun → Type 0
Remains old new = (state : State) → At (around_run old) old.store old.base state → (after : State) × At (around_run old) new.store old.base after

-- all but the store's objects stays
pub record IsStored (old new : RefRun) : Type 0 where
  pub kept : IsKept old new
  pub types : new.store.types ≡ old.store.types
  pub locals : new.store.locals ≡ old.store.locals
  pub operands : new.operands ≡ old.operands
  pub frames : new.frames ≡ old.frames
  pub base : new.base ≡ old.base
  pub depth : new.depth ≡ old.depth
  pub control : new.control ≡ old.control
