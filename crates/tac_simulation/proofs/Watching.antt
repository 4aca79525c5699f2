-- While a function that is called runs, what lasts where older activations' objects keep their types holds.
--
-- The function's activation is the one that runs, or waits under those with later numbers; or it is over, and no later one has its number.
use Rattle.std.proofs.Common.{◌≡◌, ℕ, zero, suc, ◌<◌, ◌≤◌, Bool, true, false, List, [], ◌∷◌, length, Option, Some, None, ap, sym, ◌∙◌, refl, subst, arith}
use Rattle.std.specs.Prelude.{if◌then◌else◌, neg_ℤ, slice_get}
use Rattle.run_theory.specs.Runs.{Final, Move, To, Halt, Leads, here, onward}
use Rattle.c_num.specs.declared.IntType.TheVariants as I
use Rattle.c_num.specs.Types.{is_value}
use Rattle.c_typed.specs.Types.{CType}
use Rattle.tac_ir.specs.declared.register.Register.{Register}
use Rattle.tac_ir.specs.Values.{OfHeap, OfGlobal, OfLiteral, OfActivation, Object, Value, Number, NoAddress, Code, Address, Content, Absent, Untyped, Typed, Objects, with_content}
use Rattle.tac_ir.specs.Trees.{computes, is_zero}
use Rattle.tac_ir.specs.Objects.{Surroundings, Reached, leads, holding, fits, stands_at, held_at, is_place, is_there}
use Rattle.tac_ir.specs.Pointers.{is_alive, moved_pointer, difference, compared, typed_content, repoint}
use Rattle.tac_ir.specs.States.{Activation, State, around_of, lost, given, unless_lost}
use Rattle.tac_ir.specs.Calls.{opened, closed, all_held, call, called, natural_of, leave, allocate, free}
use Rattle.tac_ir.specs.Meaning.{value_of, looked_at, truth_value, load, store, address, execute, act_at, act}
use Rattle.tac_ir.specs.Code.{Function, Op, Tac}
use Rattle.tac_ir.specs.Code as O
use Rattle.tac_ir.proofs.Activations.{KeepsBelow, content_keeps, opened_keeps, closed_keeps}

module _ (base : List (ℕ × Activation)) (own : ℕ) (Holds : Objects → Type 0) (lasts : (bound : ℕ) (objects objects' : Objects) → own ≤ bound → KeepsBelow bound objects objects' → Holds objects → Holds objects') where
  -- which activation runs, and which wait for it
  pub data Watched (objects : Objects) : ℕ → List (ℕ × Activation) → Type 0 where
    runs : (number : ℕ) (callers : List (ℕ × Activation)) → number ≡ own → callers ≡ base → Holds objects → Watched objects number callers
    over : (number : ℕ) (callers : List (ℕ × Activation)) → length callers < length base → Watched objects number callers
    deeper : (number : ℕ) (site : ℕ) (caller : Activation) (callers : List (ℕ × Activation)) → own < number → Watched objects caller.number callers → Watched objects number ((site, caller) ∷ callers)

  abbrev pub IsWatched : State → Type 0
  IsWatched state = (own < state.next_activation) × Watched state.objects state.running.number state.callers

  kept : (objects objects' : Objects) → (Holds objects → Holds objects') → (number : ℕ) (callers : List (ℕ × Activation)) → Watched objects number callers → Watched objects' number callers
  kept objects objects' keeps number callers (runs _ _ same at holds) = runs number callers same at (keeps holds)
  kept objects objects' keeps number callers (over _ _ fewer) = over number callers fewer
  kept objects objects' keeps number _ (deeper _ site caller callers later watched) = deeper number site caller callers later (kept objects objects' keeps caller.number callers watched)

  -- ---- steps

  data Keeps : Move State → Type 0 where
    goes_on : (state : State) → IsWatched state → Keeps (To state)
    halts : (final : Final) (state : State) → Keeps (Halt final state)

  -- with an object's content changed
  stays : (object : Object) (content : Content) (state : State)
      → ((c_type : CType) (held : ℕ → Option Value) → state.objects object ≡ Typed c_type 1 held → (held' : ℕ → Option Value) × (content ≡ Typed c_type 1 held'))
      → IsWatched state → IsWatched (record state { objects = with_content object content state.objects })
  stays object content state keeps watched =
      (watched.0, kept state.objects (with_content object content state.objects) (lasts own state.objects (with_content object content state.objects) (omega arith) (content_keeps own object content state.objects keeps)) state.running.number state.callers watched.1)

  heap_stays : (number : ℕ) (content : Content) (state : State) → IsWatched state → IsWatched (record state { objects = with_content (OfHeap number) content state.objects })
  heap_stays number content state watched = (
    watched.0,
    kept state.objects (with_content (OfHeap number) content state.objects)
        (lasts own state.objects (with_content (OfHeap number) content state.objects) (omega arith) (λ activation local c_type held less is. (held, is))) state.running.number state.callers watched.1,
  )

  of_lost : (state : State) → Keeps (lost state)
  of_lost state = halts _ state

  of_given : {A : Type 0} (found : Option A) (state : State) (next : A → Move State) → ((a : A) → found ≡ Some a → Keeps (next a)) → Keeps (given found state next)
  of_given None state next then_kept = of_lost state
  of_given (Some a) state next then_kept = then_kept a refl

  of_unless : (holds : Bool) (state : State) (next : Move State) → Keeps next → Keeps (unless_lost holds state next)
  of_unless true state next then_kept = then_kept
  of_unless false state next then_kept = of_lost state

  of_choice : (test : Bool) (first second : Move State) → Keeps first → Keeps second → Keeps (if test then first else second)
  of_choice true first second a b = a
  of_choice false first second a b = b

  of_looked_at : (register : Register) (state : State) (next : Value → Move State) → ((value : Value) → Keeps (next value)) → Keeps (looked_at register state next)
  of_looked_at register state next then_kept = of_given (state.running.registers register) state _ (λ value is. of_unless (is_alive state.objects value) state (next value) (then_kept value))

  typed_keeps : (around : Surroundings) (target : CType) (content content' : Content) → typed_content around target content ≡ Some content' → (c_type : CType) (held : ℕ → Option Value) → content ≡ Typed c_type 1 held
      → (held' : ℕ → Option Value) × (content' ≡ Typed c_type 1 held')
  typed_keeps around target content content' given_it c_type held is = let same : Some content' ≡ Some (Typed c_type 1 held) = sym given_it ∙ ap (typed_content around target) is in (held, cc)

  of_repoint : (around : Surroundings) (target : CType) (to : Register) (value : Value) (state : State) → IsWatched state → Keeps (repoint around target to value state)
  of_repoint around target to (Address object offset) state watched =
      of_given (typed_content around target (state.objects object)) state _ (λ content is. goes_on _ (stays object content state (typed_keeps around target (state.objects object) content is) watched))
  of_repoint around target to (Number z) state watched = goes_on _ watched
  of_repoint around target to NoAddress state watched = goes_on _ watched
  of_repoint around target to (Code function) state watched = goes_on _ watched

  of_load : (around : Surroundings) (to : Register) (own_type : CType) (state : State) (reached : Reached) → IsWatched state → Keeps (load around to own_type state reached)
  of_load around to own_type state reached watched =
      of_unless (stands_at around.structs own_type reached.inner.offset (state.objects reached.object)) state _
      (of_given (held_at reached.inner.offset (state.objects reached.object)) state _ (λ value is. of_unless (fits own_type value) state _ (goes_on _ watched)))

  of_store : (around : Surroundings) (own_type : CType) (value : Value) (state : State) (reached : Reached) → IsWatched state → Keeps (store around own_type value state reached)
  of_store around own_type value state reached watched =
      of_unless (stands_at around.structs own_type reached.inner.offset (state.objects reached.object)) state _
      (goes_on _ (stays reached.object (holding reached.inner.offset value (state.objects reached.object)) state (λ t held is. (_, ap (holding reached.inner.offset value) is)) watched))

  of_address : (around : Surroundings) (to : Register) (state : State) (reached : Reached) → IsWatched state → Keeps (address around to state reached)
  of_address around to state reached watched = of_unless (is_place around.structs state.objects reached.object reached.inner.offset) state _ (goes_on _ watched)

  of_allocate : (site size : ℕ) (state : State) → IsWatched state → Keeps (allocate site size state)
  of_allocate site zero state watched = goes_on _ watched
  of_allocate site (suc size) state watched = goes_on _ (heap_stays state.next_heap (Untyped (suc size)) state watched)

  of_free : (site : ℕ) (value : Value) (state : State) → IsWatched state → Keeps (free site value state)
  of_free site NoAddress state watched = goes_on _ watched
  of_free site (Address (OfHeap number) zero) state watched = of_unless (is_there (state.objects (OfHeap number))) state _ (goes_on _ (heap_stays number Absent state watched))
  of_free site (Address (OfHeap number) (suc offset)) state watched = of_lost state
  of_free site (Address (OfGlobal number) offset) state watched = of_lost state
  of_free site (Address (OfLiteral number) offset) state watched = of_lost state
  of_free site (Address (OfActivation activation local) offset) state watched = of_lost state
  of_free site (Number z) state watched = of_lost state
  of_free site (Code function) state watched = of_lost state

  -- a later activation has a later number
  of_call : (around : Surroundings) (site number : ℕ) (function : Option Function) (values : List Value) (state : State) → IsWatched state → Keeps (call around site number function values state)
  of_call around site number None values state watched = of_lost state
  of_call around site number (Some function) values state watched = of_unless _ state _ (of_choice _ _ _ (goes_on _ (omega (arith, later), entered)) (halts _ state))
    where
      later : own < state.next_activation
      later = watched.0

      objects : Objects
      objects = opened around state.next_activation function.objects state.objects

      entered : Watched objects state.next_activation ((site, state.running) ∷ state.callers)
      entered = deeper state.next_activation site state.running state.callers later
          (kept state.objects objects (lasts state.next_activation state.objects objects (omega (arith, later)) (opened_keeps around state.next_activation function.objects state.objects)) state.running.number state.callers watched.1)

  -- one that is over is over for good
  left : (site : ℕ) (caller : Activation) (callers : List (ℕ × Activation)) (objects : Objects) (number : ℕ) → Watched objects number ((site, caller) ∷ callers) → Watched (closed number objects) caller.number callers
  left site caller callers objects number (runs _ _ same at holds) = let many = ap length at in over caller.number callers (omega (arith, many))
  left site caller callers objects number (over _ _ fewer) = over caller.number callers (omega (arith, fewer))
  left site caller callers objects number (deeper _ _ _ _ later watched) =
      kept objects (closed number objects) (lasts number objects (closed number objects) (omega (arith, later)) (closed_keeps number objects)) caller.number callers watched

  of_leave : (callers : List (ℕ × Activation)) (value : Option Value) (state : State) → IsWatched (record state { callers = callers }) → Keeps (leave value (record state { callers = callers }))
  of_leave [] value state watched = of_lost (record state { callers = [] })
  of_leave ((site, caller) ∷ callers) value state watched = goes_on _ (watched.0, left site caller callers state.objects state.running.number watched.1)

  of_execute : (tac : Tac) (around : Surroundings) (op : Op) (state : State) → IsWatched state → Keeps (execute tac around op state)
  of_execute tac around O.Reserved state watched = of_lost state
  of_execute tac around (O.Jump to) state watched = goes_on _ watched
  of_execute tac around (O.Branch int_type condition holds fails) state watched =
      of_given (computes state.running.registers condition) state _ (λ z is. of_unless (is_value int_type z) state _ (of_choice (is_zero z) _ _ (goes_on _ watched) (goes_on _ watched)))
  of_execute tac around (O.Assign to tree) state watched = of_given (computes state.running.registers tree) state _ (λ z is. goes_on _ watched)
  of_execute tac around (O.Null to) state watched = goes_on _ watched
  of_execute tac around (O.FunctionAddress to function) state watched = of_given (slice_get tac.functions function) state _ (λ known is. goes_on _ watched)
  of_execute tac around (O.Copy to from) state watched = of_given (state.running.registers from) state _ (λ value is. goes_on _ watched)
  of_execute tac around (O.Test to pointer) state watched = of_looked_at pointer state _ (λ value. goes_on _ watched)
  of_execute tac around (O.Move to pointer element is_minus number) state watched =
      of_looked_at pointer state _ (λ value. of_given (computes state.running.registers number) state _ (λ z is.
      of_given (moved_pointer around state.objects element (if is_minus then neg_ℤ z else z) value) state _ (λ further is. goes_on _ watched)))
  of_execute tac around (O.Difference to element left right) state watched =
      of_given (state.running.registers left) state _ (λ a is. of_given (state.running.registers right) state _ (λ b is.
      of_given (difference around state.objects element a b) state _ (λ value is. goes_on _ watched)))
  of_execute tac around (O.ComparePointers to relation left right) state watched =
      of_looked_at left state _ (λ a. of_looked_at right state _ (λ b. of_given (truth_value (compared around state.objects relation a b)) state _ (λ value is. goes_on _ watched)))
  of_execute tac around (O.Repoint to target from) state watched = of_looked_at from state _ (λ value. of_repoint around target to value state watched)
  of_execute tac around (O.AddressOf to path) state watched = of_given (leads around state.running.registers path) state _ (λ reached is. of_address around to state reached watched)
  of_execute tac around (O.Load to scalar path) state watched = of_given (leads around state.running.registers path) state _ (λ reached is. of_load around to scalar state reached watched)
  of_execute tac around (O.Store path scalar value) state watched =
      of_given (value_of state.running.registers value) state _ (λ stored is. of_given (leads around state.running.registers path) state _ (λ reached is. of_store around scalar stored state reached watched))
  of_execute tac around (O.Allocate site size) state watched = of_given (computes state.running.registers size) state _ (λ z is. of_unless (is_value I.ULong z) state _ (of_allocate site (natural_of z) state watched))
  of_execute tac around (O.Free site pointer) state watched = of_given (state.running.registers pointer) state _ (λ value is. of_free site value state watched)
  of_execute tac around (O.Call site callee arguments) state watched =
      of_given (called tac around state.running.registers callee) state _ (λ number is. of_given (all_held state.running.registers arguments) state _ (λ values is.
      of_call around site number (slice_get tac.functions number) values state watched))
  of_execute tac around (O.GetChar site) state watched = goes_on _ watched
  of_execute tac around (O.PutChar site value) state watched = of_given (computes state.running.registers value) state _ (λ z is. goes_on _ watched)
  of_execute tac around (O.Exit status) state watched = of_given (computes state.running.registers status) state _ (λ z is. halts _ state)
  of_execute tac around (O.Return None) state watched = of_leave state.callers None state watched
  of_execute tac around (O.Return (Some operand)) state watched = of_given (value_of state.running.registers operand) state _ (λ value is. of_leave state.callers (Some value) state watched)

  of_act_at : (tac : Tac) (op : Option Op) (state : State) → IsWatched state → Keeps (act_at tac op state)
  of_act_at tac None state watched = of_lost state
  of_act_at tac (Some op) state watched = of_choice _ _ _ (goes_on _ watched) (of_execute tac (around_of tac state.running) op state watched)

  next_of : (move : Move State) (next : State) → Keeps move → move ≡ To next → IsWatched next
  next_of move next (goes_on state watched) e = let same : state ≡ next = cc in subst IsWatched same watched
  next_of move next (halts final state) e = absurd (cc)

  pub watched_steps : (tac : Tac) (from to : State) (k : ℕ) → Leads (act tac) from k to → IsWatched from → IsWatched to
  watched_steps tac from to k (here _) watched = watched
  watched_steps tac from to k (onward _ next _ n step leads) watched = watched_steps tac next to n leads (next_of (act tac from) next (of_act_at tac _ from watched) step)

  -- while the function's activation runs, the object has its type
  pub still_holds : (objects : Objects) (number : ℕ) (callers : List (ℕ × Activation)) → number ≡ own → callers ≡ base → Watched objects number callers → Holds objects
  still_holds objects number callers same at (runs _ _ _ _ holds) = holds
  still_holds objects number callers same at (over _ _ fewer) = let many = ap length at in absurd (omega (arith, fewer, many))
  still_holds objects number callers same at (deeper _ _ _ _ later _) = absurd (omega (arith, later, same))
