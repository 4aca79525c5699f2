-- What a part of a step does to a run.
use Rattle.std.specs.Prelude.{◌≡◌, ℕ, ◌%◌, List, [], ◌∷◌, Result, Ok, Err, ◌++◌, Option, Some, ℤ, pos, neg_ℤ}
use Rattle.run_theory.specs.Runs.{Final, output_of}
use Rattle.ref_semantics.specs.Store.{State, Eval, Then, halt}
use Rattle.ref_semantics.specs.Steps.{Config}
use Rattle.ref_meaning.specs.RefStore.Holding.{At, left, EvaluatesTo}
use Rattle.ref_meaning.specs.declared.value.Stop.{Stop}
use Rattle.ref_meaning.specs.declared.value.Stop.TheVariants as T
use Rattle.ref_meaning.specs.declared.control.Control.{Control}
use Rattle.ref_meaning.specs.declared.control.Final.TheVariants as F
use Rattle.ref_meaning.specs.declared.control.Frame as memory_frame
use Rattle.ref_meaning.specs.declared.run.RefRun.{RefRun}
use Rattle.ref_meaning.specs.declared.run.Halt.{Halt}
use Rattle.ref_meaning.specs.declared.run.Halt.TheVariants as H
use Rattle.ref_meaning.specs.Views.{config_in, around_run, stack_of, final_of}
use Rattle.ref_meaning.specs.Holding.{IsConsistent}

abbrev pub halt_of : Stop → Halt
halt_of (T.Undefined kind place) = H.Final (F.Undefined kind place)
halt_of T.OutOfMemory = H.OutOfMemory

-- the program, its functions and the units that are spent stay
pub record IsKept (old new : RefRun) : Type 0 where
  pub program : new.program ≡ old.program
  pub functions : new.functions ≡ old.functions
  pub main : new.main ≡ old.main
  pub spent : new.spent ≡ old.spent

-- The same run, but for what is done next and what waits.
pub record Becomes (old new : RefRun) (next : Control) (frames : List memory_frame.Frame) : Type 0 where
  pub kept : IsKept old new
  pub store : new.store ≡ old.store
  pub operands : new.operands ≡ old.operands
  pub base : new.base ≡ old.base
  pub depth : new.depth ≡ old.depth
  pub control : new.control ≡ next
  pub stack : stack_of new ≡ frames

-- nothing has changed
abbrev pub IsSame : RefRun → RefRun → Type 0
IsSame old new = Becomes old new old.control (stack_of old)

-- From a state an evaluation is halt, with nothing written.
pub record IsOver {A : Type 0} (eval : Eval A) (state : State) (final : Final) : Type 0 where
  pub there : State
  pub is : (units : ℕ) (input : List ℕ) → eval (left units input state) ≡ halt final (left units input there)
  pub quiet : output_of there.trace ≡ output_of state.trace

-- a run comes to where an evaluation comes to, with nothing read or written
pub record Arrives (new : RefRun) (eval : Eval Config) (state : State) : Type 0 where
  pub after : State
  pub does : EvaluatesTo eval state (config_in new) after
  pub at : At (around_run new) new.store new.base after
  pub quiet : output_of after.trace ≡ output_of state.trace
  pub holds : IsConsistent new

-- what stands where memory ran out
pub record Stays (old new : RefRun) : Type 0 where
  pub same : config_in new ≡ config_in old
  pub at : (state : State) → At (around_run old) old.store old.base state → At (around_run new) new.store new.base state
  pub holds : IsConsistent new

-- A part of a step, that neither reads nor writes, does what an evaluation does; where memory runs out, nothing is done.
abbrev pub Moves : {A : Type 0} → RefRun → RefRun → Eval Config → Result A Halt → Type 0
Moves old new eval (Ok done) = (state : State) → At (around_run old) old.store old.base state → Arrives new eval state
Moves old new eval (Err (H.Final final)) = (state : State) → At (around_run old) old.store old.base state → IsOver eval state (final_of final)
Moves old new eval (Err H.OutOfMemory) = Stays old new
Moves old new eval (Err H.ReadFault) = ⊥
Moves old new eval (Err H.WriteFault) = ⊥

-- ---- with input and output

-- what `getchar` gives, and what it leaves
abbrev pub IsNext : List ℕ → ℤ → Option (List ℕ) → Type 0
IsNext [] value is_left = (value ≡ neg_ℤ (pos 1)) × (is_left ≡ Some [])
IsNext (byte ∷ rest) value is_left = (value ≡ pos (byte % 256)) × (is_left ≡ Some rest)

-- what is left of the input and what is written, where they are told
abbrev pub IsTold : List ℕ → List ℕ → State → Option (List ℕ) → Option (List ℕ) → Type 0
IsTold base input state is_left written = (is_left ≡ Some input) × (written ≡ Some (base ++ output_of state.trace))

pub record ArrivesTold (new : RefRun) (eval : Eval Config) (base input : List ℕ) (state : State) (is_left written : Option (List ℕ)) : Type 0 where
  pub after : State
  pub rest : List ℕ
  pub does : (units : ℕ) → eval (left units input state) ≡ Then (config_in new) (left units rest after)
  pub at : At (around_run new) new.store new.base after
  pub told : IsTold base rest after is_left written
  pub holds : IsConsistent new

pub record IsOverTold (eval : Eval Config) (base input : List ℕ) (state : State) (final : Final) (is_left written : Option (List ℕ)) : Type 0 where
  pub there : State
  pub rest : List ℕ
  pub is : (units : ℕ) → eval (left units input state) ≡ halt final (left units rest there)
  pub told : IsTold base rest there is_left written

pub record StaysTold (old new : RefRun) (is_left written left' written' : Option (List ℕ)) : Type 0 where
  pub stays : Stays old new
  pub unread : left' ≡ is_left
  pub unwritten : written' ≡ written

-- A step does what an evaluation does with what is told of input and output.
abbrev pub Acts : {A : Type 0} → RefRun → RefRun → Eval Config → Result A Halt → Option (List ℕ) → Option (List ℕ) → Option (List ℕ) → Option (List ℕ) → Type 0
Acts old new eval (Ok done) is_left written left' written' =
    (base input : List ℕ) (state : State) → At (around_run old) old.store old.base state → IsTold base input state is_left written → ArrivesTold new eval base input state left' written'
Acts old new eval (Err (H.Final final)) is_left written left' written' =
    (base input : List ℕ) (state : State) → At (around_run old) old.store old.base state → IsTold base input state is_left written → IsOverTold eval base input state (final_of final) left' written'
Acts old new eval (Err _) is_left written left' written' = StaysTold old new is_left written left' written'
