-- A point is done once its cost is paid: what it does then is what it would do at once.
use Rattle.std.proofs.Common.{◌≡◌, ℕ, zero, suc, ◌+◌, ◌<◌, ◌≤◌, Bool, true, false, List, [], ◌∷◌, Option, Some, None, ap, sym, ◌∙◌, refl, subst, arith}
use Rattle.std.specs.Prelude.{if◌then◌else◌, neg_ℤ, slice_get}
use Rattle.std.proofs.lemmas.Bool.{lt-ltb, le-ltb}
use Rattle.run_theory.specs.Runs.{Final, Move, To, Halt, Leads, here, onward}
use Rattle.run_theory.proofs.Machines.{leads_more}
use Rattle.c_num.specs.declared.IntType.TheVariants as I
use Rattle.c_num.specs.Types.{is_value}
use Rattle.c_typed.specs.Types.{CType}
use Rattle.tac_ir.specs.declared.register.Register.{Register}
use Rattle.tac_ir.specs.Values.{OfHeap, OfGlobal, OfLiteral, OfActivation, Value, Number, NoAddress, Code, Address}
use Rattle.tac_ir.specs.Trees.{computes, is_zero}
use Rattle.tac_ir.specs.Objects.{Surroundings, Reached, leads, fits, stands_at, held_at, is_place, is_there}
use Rattle.tac_ir.specs.Pointers.{is_alive, moved_pointer, difference, compared, typed_content, repoint}
use Rattle.tac_ir.specs.States.{Activation, State, function_of, points_of, around_of, lost, go_to, given, unless_lost}
use Rattle.tac_ir.specs.Calls.{all_held, call, called, natural_of, leave, allocate, free}
use Rattle.tac_ir.specs.Costs.{more_cost}
use Rattle.tac_ir.specs.Meaning.{value_of, looked_at, truth_value, load, store, address, execute, pay, act_at, act}
use Rattle.tac_ir.specs.Code.{Function, Op, Tac}
use Rattle.tac_ir.specs.Code as O

-- so much of the cost of the point is paid
abbrev pub with_paid : ℕ → State → State
with_paid paid state = record state { paid = paid }

module _ (paid : ℕ) where
  -- The same is done whatever is paid; a point that is gone on to isn't paid for yet, and an end keeps what is paid.
  pub data Alike : Move State → Move State → Type 0 where
    goes_on : (state : State) → state.paid ≡ 0 → Alike (To state) (To state)
    halts : (final : Final) (state : State) → Alike (Halt final state) (Halt final (with_paid paid state))

  of_lost : (state : State) → Alike (lost state) (lost (with_paid paid state))
  of_lost state = halts _ state

  of_go_to : (at : ℕ) (state : State) → Alike (go_to at state) (go_to at (with_paid paid state))
  of_go_to at state = goes_on _ refl

  of_given : {A : Type 0} (found : Option A) (state : State) (next next' : A → Move State) → ((a : A) → Alike (next a) (next' a)) → Alike (given found state next) (given found (with_paid paid state) next')
  of_given None state next next' alike = of_lost state
  of_given (Some a) state next next' alike = alike a

  of_unless : (holds : Bool) (state : State) (next next' : Move State) → Alike next next' → Alike (unless_lost holds state next) (unless_lost holds (with_paid paid state) next')
  of_unless true state next next' alike = alike
  of_unless false state next next' alike = of_lost state

  of_choice : (test : Bool) (first first' second second' : Move State) → Alike first first' → Alike second second' → Alike (if test then first else second) (if test then first' else second')
  of_choice true first first' second second' a b = a
  of_choice false first first' second second' a b = b

  of_looked_at : (register : Register) (state : State) (next next' : Value → Move State) → ((value : Value) → Alike (next value) (next' value)) → Alike (looked_at register state next) (looked_at register (with_paid paid state) next')
  of_looked_at register state next next' alike = of_given (state.running.registers register) state _ _ (λ value. of_unless (is_alive state.objects value) state (next value) (next' value) (alike value))

  of_repoint : (around : Surroundings) (target : CType) (to : Register) (value : Value) (state : State) → Alike (repoint around target to value state) (repoint around target to value (with_paid paid state))
  of_repoint around target to (Address object offset) state = of_given (typed_content around target (state.objects object)) state _ _ (λ content. goes_on _ refl)
  of_repoint around target to (Number z) state = goes_on _ refl
  of_repoint around target to NoAddress state = goes_on _ refl
  of_repoint around target to (Code function) state = goes_on _ refl

  of_load : (around : Surroundings) (to : Register) (c_type : CType) (state : State) (reached : Reached) → Alike (load around to c_type state reached) (load around to c_type (with_paid paid state) reached)
  of_load around to c_type state reached =
      of_unless (stands_at around.structs c_type reached.inner.offset (state.objects reached.object)) state _ _
      (of_given (held_at reached.inner.offset (state.objects reached.object)) state _ _ (λ value. of_unless (fits c_type value) state _ _ (goes_on _ refl)))

  of_store : (around : Surroundings) (c_type : CType) (value : Value) (state : State) (reached : Reached) → Alike (store around c_type value state reached) (store around c_type value (with_paid paid state) reached)
  of_store around c_type value state reached = of_unless (stands_at around.structs c_type reached.inner.offset (state.objects reached.object)) state _ _ (goes_on _ refl)

  of_address : (around : Surroundings) (to : Register) (state : State) (reached : Reached) → Alike (address around to state reached) (address around to (with_paid paid state) reached)
  of_address around to state reached = of_unless (is_place around.structs state.objects reached.object reached.inner.offset) state _ _ (goes_on _ refl)

  of_allocate : (site size : ℕ) (state : State) → Alike (allocate site size state) (allocate site size (with_paid paid state))
  of_allocate site zero state = goes_on _ refl
  of_allocate site (suc size) state = goes_on _ refl

  of_free : (site : ℕ) (value : Value) (state : State) → Alike (free site value state) (free site value (with_paid paid state))
  of_free site NoAddress state = goes_on _ refl
  of_free site (Address (OfHeap number) zero) state = of_unless (is_there (state.objects (OfHeap number))) state _ _ (goes_on _ refl)
  of_free site (Address (OfHeap number) (suc offset)) state = of_lost state
  of_free site (Address (OfGlobal number) offset) state = of_lost state
  of_free site (Address (OfLiteral number) offset) state = of_lost state
  of_free site (Address (OfActivation activation local) offset) state = of_lost state
  of_free site (Number z) state = of_lost state
  of_free site (Code function) state = of_lost state

  of_call : (around : Surroundings) (site number : ℕ) (function : Option Function) (values : List Value) (state : State) → Alike (call around site number function values state) (call around site number function values (with_paid paid state))
  of_call around site number None values state = of_lost state
  of_call around site number (Some function) values state = of_unless _ state _ _ (of_choice _ _ _ _ _ (goes_on _ refl) (halts _ state))

  of_leave : (callers : List (ℕ × Activation)) (value : Option Value) (state : State) → Alike (leave value (record state { callers = callers })) (leave value (record state { callers = callers; paid = paid }))
  of_leave [] value state = of_lost (record state { callers = [] })
  of_leave ((site, caller) ∷ callers) value state = goes_on _ refl

  of_execute : (tac : Tac) (around : Surroundings) (op : Op) (state : State) → Alike (execute tac around op state) (execute tac around op (with_paid paid state))
  of_execute tac around O.Reserved state = of_lost state
  of_execute tac around (O.Jump to) state = goes_on _ refl
  of_execute tac around (O.Branch int_type condition holds fails) state =
      of_given (computes state.running.registers condition) state _ _ (λ z. of_unless (is_value int_type z) state _ _ (of_choice (is_zero z) _ _ _ _ (of_go_to fails state) (of_go_to holds state)))
  of_execute tac around (O.Assign to tree) state = of_given (computes state.running.registers tree) state _ _ (λ z. goes_on _ refl)
  of_execute tac around (O.Null to) state = goes_on _ refl
  of_execute tac around (O.FunctionAddress to function) state = of_given (slice_get tac.functions function) state _ _ (λ known. goes_on _ refl)
  of_execute tac around (O.Copy to from) state = of_given (state.running.registers from) state _ _ (λ value. goes_on _ refl)
  of_execute tac around (O.Test to pointer) state = of_looked_at pointer state _ _ (λ value. goes_on _ refl)
  of_execute tac around (O.Move to pointer element is_minus number) state =
      of_looked_at pointer state _ _ (λ value. of_given (computes state.running.registers number) state _ _ (λ z.
      of_given (moved_pointer around state.objects element (if is_minus then neg_ℤ z else z) value) state _ _ (λ further. goes_on _ refl)))
  of_execute tac around (O.Difference to element left right) state =
      of_given (state.running.registers left) state _ _ (λ a. of_given (state.running.registers right) state _ _ (λ b.
      of_given (difference around state.objects element a b) state _ _ (λ value. goes_on _ refl)))
  of_execute tac around (O.ComparePointers to relation left right) state =
      of_looked_at left state _ _ (λ a. of_looked_at right state _ _ (λ b. of_given (truth_value (compared around state.objects relation a b)) state _ _ (λ value. goes_on _ refl)))
  of_execute tac around (O.Repoint to target from) state = of_looked_at from state _ _ (λ value. of_repoint around target to value state)
  of_execute tac around (O.AddressOf to path) state = of_given (leads around state.running.registers path) state _ _ (λ reached. of_address around to state reached)
  of_execute tac around (O.Load to scalar path) state = of_given (leads around state.running.registers path) state _ _ (λ reached. of_load around to scalar state reached)
  of_execute tac around (O.Store path scalar value) state =
      of_given (value_of state.running.registers value) state _ _ (λ stored. of_given (leads around state.running.registers path) state _ _ (λ reached. of_store around scalar stored state reached))
  of_execute tac around (O.Allocate site size) state = of_given (computes state.running.registers size) state _ _ (λ z. of_unless (is_value I.ULong z) state _ _ (of_allocate site (natural_of z) state))
  of_execute tac around (O.Free site pointer) state = of_given (state.running.registers pointer) state _ _ (λ value. of_free site value state)
  of_execute tac around (O.Call site callee arguments) state =
      of_given (called tac around state.running.registers callee) state _ _ (λ number. of_given (all_held state.running.registers arguments) state _ _ (λ values.
      of_call around site number (slice_get tac.functions number) values state))
  of_execute tac around (O.GetChar site) state = goes_on _ refl
  of_execute tac around (O.PutChar site value) state = of_given (computes state.running.registers value) state _ _ (λ z. goes_on _ refl)
  of_execute tac around (O.Exit status) state = of_given (computes state.running.registers status) state _ _ (λ z. halts _ state)
  of_execute tac around (O.Return None) state = of_leave state.callers None state
  of_execute tac around (O.Return (Some operand)) state = of_given (value_of state.running.registers operand) state _ _ (λ value. of_leave state.callers (Some value) state)

  to_same : (move move' : Move State) (next : State) → Alike move move' → move ≡ To next → (next.paid ≡ 0) × (move' ≡ To next)
  to_same move move' next (goes_on state unpaid) e = (cc, e)
  to_same move move' next (halts final state) e = absurd (cc)

  halt_same : (move move' : Move State) (final : Final) (last : State) → Alike move move' → move ≡ Halt final last → move' ≡ Halt final (with_paid paid last)
  halt_same move move' final last (goes_on state unpaid) e = absurd (cc)
  halt_same move move' final last (halts final' state) e = cc

module _ (tac : Tac) (op : Op) (state : State) (stands : slice_get (points_of (function_of tac state.running.owner)) state.running.at ≡ Some op) where
  at_point : (paid : ℕ) → act tac (with_paid paid state) ≡ pay (more_cost op) (with_paid paid state) (execute tac (around_of tac state.running) op (with_paid paid state))
  at_point paid = ap (λ found. act_at tac found (with_paid paid state)) stands

  pays_more : (paid : ℕ) → paid < more_cost op → act tac (with_paid paid state) ≡ To (with_paid (suc paid) state)
  pays_more paid less = at_point paid ∙ rw (lt-ltb paid (more_cost op) less) refl

  -- so many steps only pay
  pays : (n paid total : ℕ) → paid + n ≡ total → total ≤ more_cost op → Leads (act tac) (with_paid paid state) n (with_paid total state)
  pays zero paid total sum most = let same : paid ≡ total = omega arith in subst (λ t. Leads (act tac) (with_paid paid state) 0 (with_paid t state)) same (here _)
  pays (suc n) paid total sum most = onward _ (with_paid (suc paid) state) _ n (pays_more paid (omega arith)) (pays n (suc paid) total (omega arith) most)

  -- all of the cost is paid
  paid_up : act tac (with_paid (more_cost op) state) ≡ execute tac (around_of tac state.running) op (with_paid (more_cost op) state)
  paid_up = at_point (more_cost op) ∙ rw (le-ltb (more_cost op) (more_cost op) (omega arith)) refl

  module _ (unpaid : state.paid ≡ 0) where
    pub paying : Leads (act tac) state (more_cost op) (with_paid (more_cost op) state)
    paying = subst (λ paid. Leads (act tac) (with_paid paid state) (more_cost op) (with_paid (more_cost op) state)) (sym unpaid) (pays (more_cost op) 0 (more_cost op) (omega arith) (omega arith))

    -- the way to the next point
    pub paid_for : (next : State) → execute tac (around_of tac state.running) op state ≡ To next → Leads (act tac) state (more_cost op + 1) next
    paid_for next e =
        let does = to_same (more_cost op) _ _ next (of_execute (more_cost op) tac (around_of tac state.running) op state) e in
        let leads = leads_more (act tac) state _ next (more_cost op) paying (paid_up ∙ does.1) in
        subst (λ n. Leads (act tac) state n next) (omega arith) leads

    -- the last step of a run that ends at the point
    pub paid_to_halt : (final : Final) (last : State) → execute tac (around_of tac state.running) op state ≡ Halt final last → act tac (with_paid (more_cost op) state) ≡ Halt final (with_paid (more_cost op) last)
    paid_to_halt final last e = paid_up ∙ halt_same (more_cost op) _ _ final last (of_execute (more_cost op) tac (around_of tac state.running) op state) e

-- nothing is paid yet for the next point
pub unpaid_next : (tac : Tac) (around : Surroundings) (op : Op) (state next : State) → execute tac around op state ≡ To next → next.paid ≡ 0
unpaid_next tac around op state next e = (to_same 0 _ _ next (of_execute 0 tac around op state) e).0
