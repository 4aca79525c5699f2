-- One step of three-address code, and of its code with pools: what is known before it, and what it has to come to.
use Rattle.std.proofs.Common.{◌≡◌, ℕ, List, length}
use Rattle.std.specs.Prelude.{slice_get, Some}
use Rattle.run_theory.specs.Runs.{Final, HeapExhausted, Move, To, Halt, IsProgramEnd, IsWrong, Refused}
use Rattle.slab_space.specs.declared.kind.PoolKind.{PoolKind}
use Rattle.slab_space.specs.Pool.{IsKind}
use Rattle.tac_ir.specs.declared.register.Register.{Register}
use Rattle.tac_ir.specs.States as T
use Rattle.tac_ir.specs.Meaning.{execute}
use Rattle.tac_ir.specs.Code as O
use Rattle.tac_ir.specs.Code.{Callee, Tac}
use Rattle.tac_ir.proofs.Activations.{IsStacked}
use Rattle.pool_ir.specs.Code as C
use Rattle.pool_ir.specs.Code.{Op}
use Rattle.pool_ir.specs.States as P
use Rattle.pool_ir.specs.Meaning as M
use Rattle.pool_rewrite.specs.Plan.{Plan}
use Rattle.pool_rewrite.specs.Rewriting.{op_of}
use Rattle.pool_simulation.specs.Placed.{Placed, BasesStand}
use Rattle.pool_simulation.specs.Comparing.{pool_events}
use Rattle.pool_simulation.specs.InStep.{plan_for, frame_for, memory_in, Fits, InStep}
use Rattle.pool_simulation.specs.Serving.{code_of, StandsAt, passed_for, SamePools, Effect, entered, PoolStep, Serving}

-- the point of the code with pools for one of a function's points
abbrev pub op_for : Tac → Plan → T.Owner → O.Op → Op
op_for tac plan owner op = op_of tac (plan_for plan owner) (T.objects_of (T.function_of tac owner)) (frame_for tac plan owner) op

-- What is known before a step. The last two follow from the others.
pub record Ready (tac : Tac) (plan : Plan) (slabs : ℕ) (state : T.State) (machine : P.State) : Type 0 where
  pub fits : Fits tac plan
  pub planned : length plan.functions ≡ length tac.functions
  pub kinds : (number : ℕ) (kind : PoolKind) → slice_get plan.kinds number ≡ Some kind → IsKind kind
  pub stacked : IsStacked tac state
  pub in_step : InStep tac plan slabs state machine
  pub serving : Serving tac plan slabs state machine
  pub placed : Placed tac.structs (memory_in tac plan state machine) state.objects
  pub bases : BasesStand tac (T.objects_of (T.function_of tac state.running.owner)) (frame_for tac plan state.running.owner) state.running.number state.objects (memory_in tac plan state machine) machine.running.start

-- What a point and its code with pools come to, before the actions on an edge or at entry are done: states in step, from which both go to one
-- point; a part of the cost paid; a function entered; the same end; an end at which the heap refused the next event; or anything, where the
-- first is lost.
pub data Does (tac : Tac) (plan : Plan) (slabs : ℕ) (state : T.State) (machine : P.State) : Move T.State → Move P.State → Type 0 where
  goes : (at : ℕ) (next : T.State) (later : P.State) → InStep tac plan slabs next later → Effect tac plan state machine later
      → Does tac plan slabs state machine (T.go_to at next) (P.go_to (code_of tac plan) at later)
  pays : (next : T.State) (later : P.State) → InStep tac plan slabs next later → SamePools machine later → Does tac plan slabs state machine (To next) (To later)
  enters : (site number : ℕ) (callee : Callee) (arguments : List Register) (function : C.Function) (words : List ℕ) (next : T.State) → StandsAt tac state (O.Call site callee arguments)
      → slice_get (code_of tac plan).functions number ≡ Some function → InStep tac plan slabs next (entered site number function words (passed_for plan state machine site) machine)
      → Does tac plan slabs state machine (To next) (M.enter (code_of tac plan) site number function words (passed_for plan state machine site) machine)
  ends : (final : Final) (last : T.State) (later : P.State) → P.same later.trace ≡ last.trace → IsProgramEnd final → Does tac plan slabs state machine (Halt final last) (Halt final later)
  wrong : (final : Final) (last : T.State) (does : Move P.State) → IsWrong final → Does tac plan slabs state machine (Halt final last) does
  refused : (next : T.State) (later : P.State) → Refused (pool_events slabs) HeapExhausted later.trace next.trace → Does tac plan slabs state machine (To next) (Halt HeapExhausted later)

-- what is to be shown of each kind of point
abbrev pub PointDoes : Tac → Plan → ℕ → T.State → P.State → O.Op → Type 0
PointDoes tac plan slabs state machine op =
    Does tac plan slabs state machine (execute tac (T.around_of tac state.running) op state) (M.execute (code_of tac plan) (op_for tac plan state.running.owner op) machine)

-- what whole steps come to
pub data StepDoes (tac : Tac) (plan : Plan) (slabs : ℕ) (state : T.State) (machine : P.State) : Move T.State → Move P.State → Type 0 where
  to_next : (next : T.State) (later : P.State) → InStep tac plan slabs next later → PoolStep tac plan slabs state machine later → StepDoes tac plan slabs state machine (To next) (To later)
  to_end : (final : Final) (last : T.State) (later : P.State) → P.same later.trace ≡ last.trace → IsProgramEnd final → StepDoes tac plan slabs state machine (Halt final last) (Halt final later)
  to_wrong : (final : Final) (last : T.State) (does : Move P.State) → IsWrong final → StepDoes tac plan slabs state machine (Halt final last) does
  to_refusal : (next : T.State) (later : P.State) → Refused (pool_events slabs) HeapExhausted later.trace next.trace → StepDoes tac plan slabs state machine (To next) (Halt HeapExhausted later)
