-- What is there of the heap after a step of three-address code was there before, or is the allocation that has the next number.
use Rattle.std.proofs.Common.{◌≡◌, ℕ, zero, suc, ◌⊎◌, inl, inr, Bool, true, false, List, [], ◌∷◌, Option, Some, None, refl, sym, ap, subst, ◌∙◌, eqb-true}
use Rattle.std.specs.Prelude.{◌==◌, if◌then◌else◌, neg_ℤ, slice_get}
use Rattle.std.proofs.lemmas.Bool.{false≢true}
use Rattle.run_theory.specs.Runs.{Final, Move, To, Halt}
use Rattle.c_num.specs.declared.IntType.TheVariants as I
use Rattle.c_num.specs.Types.{is_value}
use Rattle.c_typed.specs.Types.{CType}
use Rattle.tac_ir.specs.declared.register.Register.{Register}
use Rattle.tac_ir.specs.Values.{Object, OfHeap, OfGlobal, OfLiteral, OfActivation, same_object, Value, Number, NoAddress, Code, Address, Content, Absent, Untyped, Typed, Objects, with_content}
use Rattle.tac_ir.specs.Trees.{computes, is_zero}
use Rattle.tac_ir.specs.Objects.{Surroundings, Reached, leads, fits, holding, stands_at, held_at, is_place, is_there}
use Rattle.tac_ir.specs.Pointers.{is_alive, moved_pointer, difference, compared, typed_content, repoint}
use Rattle.tac_ir.specs.States.{Activation, State, around_of, lost, given, unless_lost}
use Rattle.tac_ir.specs.Calls.{opened, all_held, call, called, natural_of, leave, allocate, free}
use Rattle.tac_ir.specs.Meaning.{value_of, looked_at, truth_value, load, store, address, execute, act_at, act}
use Rattle.tac_ir.specs.Code.{LocalObject, Function, Op, Tac}
use Rattle.tac_ir.specs.Code as O

-- ---- what objects become

-- it was there, or has this number
abbrev pub WasOrIs : ℕ → Objects → Objects → Type 0
WasOrIs new before after = (number : ℕ) → is_there (after (OfHeap number)) ≡ true → (is_there (before (OfHeap number)) ≡ true) ⊎ (number ≡ new)

-- an object that is there gets another content
changed : (new : ℕ) (before : Objects) (object : Object) (content : Content) → (is_there content ≡ true → is_there (before object) ≡ true) → WasOrIs new before (with_content object content before)
changed new before object content was number there = by (same_object object (OfHeap number)) refl there
  where
    same_heap : (object : Object) (number : ℕ) → same_object object (OfHeap number) ≡ true → object ≡ OfHeap number
    same_heap (OfHeap other) number same = ap OfHeap (eqb-true other number same)
    same_heap (OfGlobal other) number same = absurd (false≢true same)
    same_heap (OfLiteral other) number same = absurd (false≢true same)
    same_heap (OfActivation activation local) number same = absurd (false≢true same)

    by : (b : Bool) → same_object object (OfHeap number) ≡ b → is_there (if b then content else before (OfHeap number)) ≡ true → (is_there (before (OfHeap number)) ≡ true) ⊎ (number ≡ new)
    by true same there = inl (subst (λ (o : Object). is_there (before o) ≡ true) (same_heap object number same) (was there))
    by false other there = inl there

holding_there : (offset : ℕ) (value : Value) (content : Content) → is_there (holding offset value content) ≡ true → is_there content ≡ true
holding_there offset value Absent there = there
holding_there offset value (Untyped size) there = refl
holding_there offset value (Typed c_type count held) there = refl

typed_there : (around : Surroundings) (target : CType) (content typed : Content) → typed_content around target content ≡ Some typed → is_there typed ≡ true → is_there content ≡ true
typed_there around target Absent typed e there = let same : Absent ≡ typed = cc in ap is_there same ∙ there
typed_there around target (Untyped size) typed e there = refl
typed_there around target (Typed c_type count held) typed e there = refl

made_there : (before : Objects) (new : ℕ) (content : Content) → WasOrIs new before (with_content (OfHeap new) content before)
made_there before new content number there = by (new == number) refl there
  where
    by : (b : Bool) → (new == number) ≡ b → is_there (if b then content else before (OfHeap number)) ≡ true → (is_there (before (OfHeap number)) ≡ true) ⊎ (number ≡ new)
    by true same there = inr (sym (eqb-true new number same))
    by false other there = inl there

opened_there : (around : Surroundings) (activation : ℕ) (own : List LocalObject) (objects : Objects) (number : ℕ) → opened around activation own objects (OfHeap number) ≡ objects (OfHeap number)
opened_there around activation [] objects number = refl
opened_there around activation (first ∷ others) objects number = opened_there around activation others objects number

-- ---- steps

data Keeps (before : State) : Move State → Type 0 where
  goes_on : (next : State) → WasOrIs before.next_heap before.objects next.objects → Keeps before (To next)
  halts : (final : Final) (last : State) → Keeps before (Halt final last)

module _ (tac : Tac) (state : State) where
  same : WasOrIs state.next_heap state.objects state.objects
  same number there = inl there

  of_lost : Keeps state (lost state)
  of_lost = halts _ state

  of_given : {A : Type 0} (found : Option A) (next : A → Move State) → ((a : A) → found ≡ Some a → Keeps state (next a)) → Keeps state (given found state next)
  of_given None next then_kept = of_lost
  of_given (Some a) next then_kept = then_kept a refl

  of_unless : (holds : Bool) (next : Move State) → Keeps state next → Keeps state (unless_lost holds state next)
  of_unless true next then_kept = then_kept
  of_unless false next then_kept = of_lost

  of_choice : (test : Bool) (first second : Move State) → Keeps state first → Keeps state second → Keeps state (if test then first else second)
  of_choice true first second a b = a
  of_choice false first second a b = b

  of_looked_at : (register : Register) (next : Value → Move State) → ((value : Value) → Keeps state (next value)) → Keeps state (looked_at register state next)
  of_looked_at register next then_kept = of_given (state.running.registers register) _ (λ value is. of_unless (is_alive state.objects value) (next value) (then_kept value))

  of_repoint : (around : Surroundings) (target : CType) (to : Register) (value : Value) → Keeps state (repoint around target to value state)
  of_repoint around target to (Address object offset) =
      of_given (typed_content around target (state.objects object)) _
      (λ content is. goes_on _ (changed state.next_heap state.objects object content (typed_there around target (state.objects object) content is)))
  of_repoint around target to (Number z) = goes_on _ same
  of_repoint around target to NoAddress = goes_on _ same
  of_repoint around target to (Code function) = goes_on _ same

  of_load : (around : Surroundings) (to : Register) (c_type : CType) (reached : Reached) → Keeps state (load around to c_type state reached)
  of_load around to c_type reached =
      of_unless (stands_at around.structs c_type reached.inner.offset (state.objects reached.object)) _
      (of_given (held_at reached.inner.offset (state.objects reached.object)) _ (λ value is. of_unless (fits c_type value) _ (goes_on _ same)))

  of_store : (around : Surroundings) (c_type : CType) (value : Value) (reached : Reached) → Keeps state (store around c_type value state reached)
  of_store around c_type value reached =
      of_unless (stands_at around.structs c_type reached.inner.offset (state.objects reached.object)) _
      (goes_on _ (changed state.next_heap state.objects reached.object (holding reached.inner.offset value (state.objects reached.object))
      (holding_there reached.inner.offset value (state.objects reached.object))))

  of_address : (around : Surroundings) (to : Register) (reached : Reached) → Keeps state (address around to state reached)
  of_address around to reached = of_unless (is_place around.structs state.objects reached.object reached.inner.offset) _ (goes_on _ same)

  of_allocate : (site size : ℕ) → Keeps state (allocate site size state)
  of_allocate site zero = goes_on _ same
  of_allocate site (suc size) = goes_on _ (made_there state.objects state.next_heap (Untyped (suc size)))

  of_free : (site : ℕ) (value : Value) → Keeps state (free site value state)
  of_free site NoAddress = goes_on _ same
  of_free site (Address (OfHeap number) zero) =
      of_unless (is_there (state.objects (OfHeap number))) _ (goes_on _ (changed state.next_heap state.objects (OfHeap number) Absent (λ there. absurd (false≢true there))))
  of_free site (Address (OfHeap number) (suc offset)) = of_lost
  of_free site (Address (OfGlobal number) offset) = of_lost
  of_free site (Address (OfLiteral number) offset) = of_lost
  of_free site (Address (OfActivation activation local) offset) = of_lost
  of_free site (Number z) = of_lost
  of_free site (Code function) = of_lost

  of_call : (around : Surroundings) (site number : ℕ) (function : Option Function) (values : List Value) → Keeps state (call around site number function values state)
  of_call around site number None values = of_lost
  of_call around site number (Some function) values =
      of_unless _ _
      (of_choice _ _ _ (goes_on _ (λ number there. inl (ap is_there (sym (opened_there around state.next_activation function.objects state.objects number)) ∙ there))) (halts _ state))

of_leave : (callers : List (ℕ × Activation)) (value : Option Value) (state : State) → Keeps (record state { callers = callers }) (leave value (record state { callers = callers }))
of_leave [] value state = halts _ (record state { callers = [] })
of_leave ((site, caller) ∷ callers) value state = goes_on _ (λ number there. inl there)

module _ (tac : Tac) (state : State) where
  of_execute : (around : Surroundings) (op : Op) → Keeps state (execute tac around op state)
  of_execute around O.Reserved = of_lost tac state
  of_execute around (O.Jump to) = goes_on _ (same tac state)
  of_execute around (O.Branch int_type condition holds fails) =
      of_given tac state (computes state.running.registers condition) _ (λ z is. of_unless tac state (is_value int_type z) _ (of_choice tac state (is_zero z) _ _ (goes_on _ (same tac state)) (goes_on _ (same tac state))))
  of_execute around (O.Assign to tree) = of_given tac state (computes state.running.registers tree) _ (λ z is. goes_on _ (same tac state))
  of_execute around (O.Null to) = goes_on _ (same tac state)
  of_execute around (O.FunctionAddress to function) = of_given tac state (slice_get tac.functions function) _ (λ known is. goes_on _ (same tac state))
  of_execute around (O.Copy to from) = of_given tac state (state.running.registers from) _ (λ value is. goes_on _ (same tac state))
  of_execute around (O.Test to pointer) = of_looked_at tac state pointer _ (λ value. goes_on _ (same tac state))
  of_execute around (O.Move to pointer element is_minus number) =
      of_looked_at tac state pointer _ (λ value. of_given tac state (computes state.running.registers number) _ (λ z is.
      of_given tac state (moved_pointer around state.objects element (if is_minus then neg_ℤ z else z) value) _ (λ further is. goes_on _ (same tac state))))
  of_execute around (O.Difference to element left right) =
      of_given tac state (state.running.registers left) _ (λ a is. of_given tac state (state.running.registers right) _ (λ b is.
      of_given tac state (difference around state.objects element a b) _ (λ value is. goes_on _ (same tac state))))
  of_execute around (O.ComparePointers to relation left right) =
      of_looked_at tac state left _ (λ a. of_looked_at tac state right _ (λ b.
      of_given tac state (truth_value (compared around state.objects relation a b)) _ (λ value is. goes_on _ (same tac state))))
  of_execute around (O.Repoint to target from) = of_looked_at tac state from _ (λ value. of_repoint tac state around target to value)
  of_execute around (O.AddressOf to path) = of_given tac state (leads around state.running.registers path) _ (λ reached is. of_address tac state around to reached)
  of_execute around (O.Load to scalar path) = of_given tac state (leads around state.running.registers path) _ (λ reached is. of_load tac state around to scalar reached)
  of_execute around (O.Store path scalar value) =
      of_given tac state (value_of state.running.registers value) _ (λ stored is.
      of_given tac state (leads around state.running.registers path) _ (λ reached is. of_store tac state around scalar stored reached))
  of_execute around (O.Allocate site size) =
      of_given tac state (computes state.running.registers size) _ (λ z is. of_unless tac state (is_value I.ULong z) _ (of_allocate tac state site (natural_of z)))
  of_execute around (O.Free site pointer) = of_given tac state (state.running.registers pointer) _ (λ value is. of_free tac state site value)
  of_execute around (O.Call site callee arguments) =
      of_given tac state (called tac around state.running.registers callee) _ (λ number is. of_given tac state (all_held state.running.registers arguments) _ (λ values is.
      of_call tac state around site number (slice_get tac.functions number) values))
  of_execute around (O.GetChar site) = goes_on _ (same tac state)
  of_execute around (O.PutChar site value) = of_given tac state (computes state.running.registers value) _ (λ z is. goes_on _ (same tac state))
  of_execute around (O.Exit status) = of_given tac state (computes state.running.registers status) _ (λ z is. halts _ state)
  of_execute around (O.Return None) = of_leave state.callers None state
  of_execute around (O.Return (Some operand)) = of_given tac state (value_of state.running.registers operand) _ (λ value is. of_leave state.callers (Some value) state)

  of_act_at : (op : Option Op) → Keeps state (act_at tac op state)
  of_act_at None = of_lost tac state
  of_act_at (Some op) = of_choice tac state _ _ _ (goes_on _ (same tac state)) (of_execute (around_of tac state.running) op)

next_of : (state : State) (move : Move State) (next : State) → Keeps state move → move ≡ To next → WasOrIs state.next_heap state.objects next.objects
next_of state move next (goes_on reached kept) e = let same : reached ≡ next = cc in subst (λ (s : State). WasOrIs state.next_heap state.objects s.objects) same kept
next_of state move next (halts final last) e = absurd (cc)

-- what is there of the heap was there, or is the next allocation
pub was_or_is : (tac : Tac) (state next : State) → act tac state ≡ To next → WasOrIs state.next_heap state.objects next.objects
was_or_is tac state next e = next_of state (act tac state) next (of_act_at tac state _) e
