-- What each step of three-address code keeps: what happened before stays in front of the trace, and no end is one at a limit.
use Rattle.std.proofs.Common.{ℕ, zero, suc, Bool, true, false, List, [], ◌∷◌, ◌++◌, Option, Some, None}
use Rattle.std.specs.Prelude.{if◌then◌else◌, neg_ℤ, slice_get}
use Rattle.run_theory.specs.Runs.{Final, IsResourceEnd, IsPrefix, Move, To, Halt}
use Rattle.run_theory.proofs.Traces.{prefix_refl, prefix_trans, prefix_append}
use Rattle.c_num.specs.declared.IntType.TheVariants as I
use Rattle.c_num.specs.Types.{is_value}
use Rattle.c_typed.specs.Types.{CType}
use Rattle.tac_ir.specs.declared.register.Register.{Register}
use Rattle.tac_ir.specs.Values.{OfHeap, OfGlobal, OfLiteral, OfActivation, Value, Number, NoAddress, Code, Address}
use Rattle.tac_ir.specs.Events.{TacEvent}
use Rattle.tac_ir.specs.Trees.{computes, is_zero}
use Rattle.tac_ir.specs.Objects.{Surroundings, fits, Reached, leads}
use Rattle.tac_ir.specs.Pointers.{is_alive, moved_pointer, difference, compared, repoint}
use Rattle.tac_ir.specs.States.{Activation, State, lost, go_to, write, emit, given, unless_lost}
use Rattle.tac_ir.specs.Calls.{all_held, call, called, natural_of, leave, allocate, free}
use Rattle.tac_ir.specs.Meaning.{value_of, looked_at, truth_value, load, store, address, execute, pay, act_at, act}
use Rattle.tac_ir.specs.Code.{Function, Op, Tac}
use Rattle.tac_ir.specs.Code as O

pub data Keeps (before : List TacEvent) : Move State → Type 0 where
  goes_on : (state : State) → IsPrefix before state.trace → Keeps before (To state)
  halts : (final : Final) (state : State) → IsPrefix before state.trace → (IsResourceEnd final → ⊥) → Keeps before (Halt final state)

module _ (before : List TacEvent) where
  more : (state : State) (events : List TacEvent) → IsPrefix before state.trace → IsPrefix before (state.trace ++ events)
  more state events kept = prefix_trans before state.trace (state.trace ++ events) kept (prefix_append state.trace events)

  of_lost : (state : State) → IsPrefix before state.trace → Keeps before (lost state)
  of_lost state kept = halts _ state kept (λ r. r)

  of_go_to : (at : ℕ) (state : State) → IsPrefix before state.trace → Keeps before (go_to at state)
  of_go_to at state kept = goes_on _ (more state _ kept)

  of_given : {A : Type 0} (found : Option A) (state : State) (next : A → Move State) → IsPrefix before state.trace → ((a : A) → Keeps before (next a)) → Keeps before (given found state next)
  of_given None state next kept then_kept = of_lost state kept
  of_given (Some a) state next kept then_kept = then_kept a

  of_unless : (holds : Bool) (state : State) (next : Move State) → IsPrefix before state.trace → Keeps before next → Keeps before (unless_lost holds state next)
  of_unless true state next kept then_kept = then_kept
  of_unless false state next kept then_kept = of_lost state kept

  of_choice : (test : Bool) (first second : Move State) → Keeps before first → Keeps before second → Keeps before (if test then first else second)
  of_choice true first second a b = a
  of_choice false first second a b = b

  of_write : (register : Register) (value : Value) (state : State) → IsPrefix before state.trace → Keeps before (write register value state)
  of_write register value state kept = goes_on _ (more state _ kept)

  of_looked_at : (register : Register) (state : State) (next : Value → Move State) → IsPrefix before state.trace → ((value : Value) → Keeps before (next value)) → Keeps before (looked_at register state next)
  of_looked_at register state next kept then_kept = of_given (state.running.registers register) state _ kept (λ value. of_unless (is_alive state.objects value) state (next value) kept (then_kept value))

  of_repoint : (around : Surroundings) (target : CType) (to : Register) (value : Value) (state : State) → IsPrefix before state.trace → Keeps before (repoint around target to value state)
  of_repoint around target to (Address object offset) state kept = of_given _ state _ kept (λ content. goes_on _ (more state _ kept))
  of_repoint around target to (Number z) state kept = goes_on _ (more state _ kept)
  of_repoint around target to NoAddress state kept = goes_on _ (more state _ kept)
  of_repoint around target to (Code function) state kept = goes_on _ (more state _ kept)

  of_load : (around : Surroundings) (to : Register) (c_type : CType) (state : State) (reached : Reached) → IsPrefix before state.trace → Keeps before (load around to c_type state reached)
  of_load around to c_type state reached kept = of_unless _ state _ kept (of_given _ state _ kept (λ value. of_unless (fits c_type value) state _ kept (of_write to value (emit _ state) (more state _ kept))))

  of_store : (around : Surroundings) (c_type : CType) (value : Value) (state : State) (reached : Reached) → IsPrefix before state.trace → Keeps before (store around c_type value state reached)
  of_store around c_type value state reached kept = of_unless _ state _ kept (goes_on _ (more (emit _ state) _ (more state _ kept)))

  of_address : (around : Surroundings) (to : Register) (state : State) (reached : Reached) → IsPrefix before state.trace → Keeps before (address around to state reached)
  of_address around to state reached kept = of_unless _ state _ kept (goes_on _ (more state _ kept))

  of_allocate : (site size : ℕ) (state : State) → IsPrefix before state.trace → Keeps before (allocate site size state)
  of_allocate site zero state kept = goes_on _ (more state _ kept)
  of_allocate site (suc size) state kept = goes_on _ (more (emit _ state) _ (more state _ kept))

  of_free : (site : ℕ) (value : Value) (state : State) → IsPrefix before state.trace → Keeps before (free site value state)
  of_free site NoAddress state kept = goes_on _ (more state _ kept)
  of_free site (Address (OfHeap number) zero) state kept = of_unless _ state _ kept (goes_on _ (more (emit _ state) _ (more state _ kept)))
  of_free site (Address (OfHeap number) (suc offset)) state kept = of_lost state kept
  of_free site (Address (OfGlobal number) offset) state kept = of_lost state kept
  of_free site (Address (OfLiteral number) offset) state kept = of_lost state kept
  of_free site (Address (OfActivation activation local) offset) state kept = of_lost state kept
  of_free site (Number z) state kept = of_lost state kept
  of_free site (Code function) state kept = of_lost state kept

  of_call : (around : Surroundings) (site number : ℕ) (function : Option Function) (values : List Value) (state : State) → IsPrefix before state.trace → Keeps before (call around site number function values state)
  of_call around site number None values state kept = of_lost state kept
  of_call around site number (Some function) values state kept = of_unless _ state _ kept (of_choice _ _ _ (goes_on _ (more state _ kept)) (halts _ state kept (λ r. r)))

  of_leave : (callers : List (ℕ × Activation)) (value : Option Value) (state : State) → IsPrefix before state.trace → Keeps before (leave value (record state { callers = callers }))
  of_leave [] value state kept = of_lost (record state { callers = [] }) kept
  of_leave ((site, caller) ∷ callers) value state kept = goes_on _ (more (emit _ state) _ (more state _ kept))

  of_execute : (tac : Tac) (around : Surroundings) (op : Op) (state : State) → IsPrefix before state.trace → Keeps before (execute tac around op state)
  of_execute tac around O.Reserved state kept = of_lost state kept
  of_execute tac around (O.Jump to) state kept = goes_on _ (more state _ kept)
  of_execute tac around (O.Branch int_type condition holds fails) state kept =
      of_given (computes state.running.registers condition) state _ kept (λ z. of_unless (is_value int_type z) state _ kept (of_choice (is_zero z) _ _ (of_go_to fails state kept) (of_go_to holds state kept)))
  of_execute tac around (O.Assign to tree) state kept = of_given _ state _ kept (λ z. goes_on _ (more state _ kept))
  of_execute tac around (O.Null to) state kept = goes_on _ (more state _ kept)
  of_execute tac around (O.FunctionAddress to function) state kept = of_given _ state _ kept (λ known. goes_on _ (more state _ kept))
  of_execute tac around (O.Copy to from) state kept = of_given _ state _ kept (λ value. goes_on _ (more state _ kept))
  of_execute tac around (O.Test to pointer) state kept = of_looked_at pointer state _ kept (λ value. goes_on _ (more state _ kept))
  of_execute tac around (O.Move to pointer element is_minus number) state kept =
      of_looked_at pointer state _ kept (λ value. of_given (computes state.running.registers number) state _ kept (λ z.
      of_given (moved_pointer around state.objects element (if is_minus then neg_ℤ z else z) value) state _ kept (λ further. of_write to further state kept)))
  of_execute tac around (O.Difference to element left right) state kept =
      of_given (state.running.registers left) state _ kept (λ a. of_given (state.running.registers right) state _ kept (λ b.
      of_given (difference around state.objects element a b) state _ kept (λ value. of_write to value state kept)))
  of_execute tac around (O.ComparePointers to relation left right) state kept =
      of_looked_at left state _ kept (λ a. of_looked_at right state _ kept (λ b. of_given (truth_value (compared around state.objects relation a b)) state _ kept (λ value. of_write to value state kept)))
  of_execute tac around (O.Repoint to target from) state kept = of_looked_at from state _ kept (λ value. of_repoint around target to value state kept)
  of_execute tac around (O.AddressOf to path) state kept = of_given _ state _ kept (λ reached. of_address around to state reached kept)
  of_execute tac around (O.Load to scalar path) state kept = of_given _ state _ kept (λ reached. of_load around to scalar state reached kept)
  of_execute tac around (O.Store path scalar value) state kept =
      of_given (value_of state.running.registers value) state _ kept (λ stored. of_given (leads around state.running.registers path) state _ kept (λ reached. of_store around scalar stored state reached kept))
  of_execute tac around (O.Allocate site size) state kept =
      of_given (computes state.running.registers size) state _ kept (λ z. of_unless (is_value I.ULong z) state _ kept (of_allocate site (natural_of z) state kept))
  of_execute tac around (O.Free site pointer) state kept = of_given _ state _ kept (λ value. of_free site value state kept)
  of_execute tac around (O.Call site callee arguments) state kept =
      of_given (called tac around state.running.registers callee) state _ kept (λ number. of_given (all_held state.running.registers arguments) state _ kept (λ values.
      of_call around site number (slice_get tac.functions number) values state kept))
  of_execute tac around (O.GetChar site) state kept = goes_on _ (more state _ kept)
  of_execute tac around (O.PutChar site value) state kept = of_given _ state _ kept (λ z. goes_on _ (more (emit _ state) _ (more state _ kept)))
  of_execute tac around (O.Exit status) state kept = of_given _ state _ kept (λ z. halts _ state kept (λ r. r))
  of_execute tac around (O.Return None) state kept = of_leave state.callers None state kept
  of_execute tac around (O.Return (Some operand)) state kept = of_given _ state _ kept (λ value. of_leave state.callers (Some value) state kept)

  of_pay : (cost : ℕ) (state : State) (done : Move State) → IsPrefix before state.trace → Keeps before done → Keeps before (pay cost state done)
  of_pay cost state done kept then_kept = of_choice _ _ done (goes_on _ kept) then_kept

  of_act_at : (tac : Tac) (op : Option Op) (state : State) → IsPrefix before state.trace → Keeps before (act_at tac op state)
  of_act_at tac None state kept = of_lost state kept
  of_act_at tac (Some op) state kept = of_pay _ state _ kept (of_execute tac _ op state kept)

pub step_keeps : (tac : Tac) (state : State) → Keeps state.trace (act tac state)
step_keeps tac state = of_act_at state.trace tac _ state (prefix_refl state.trace)
