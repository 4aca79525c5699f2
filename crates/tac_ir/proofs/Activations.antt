-- Each activation that runs or waits has its objects, with their types, at every point of a run.
use Rattle.std.proofs.Common.{◌≡◌, ℕ, zero, suc, ◌<◌, ◌≤◌, ◌==◌, Bool, true, false, ◌&&◌, List, [], ◌∷◌, Option, Some, None, ap, sym, ◌∙◌, refl, subst, arith, eqb-true, eq-eqb, ne_eqb}
use Rattle.std.specs.Prelude.{if◌then◌else◌, neg_ℤ, slice_get}
use Rattle.std.proofs.lemmas.Bool.{false≢true, true≢false, and_parts}
use Rattle.std.proofs.lemmas.Option.{same_Some}
use Rattle.run_theory.specs.Runs.{Final, Move, To, Halt, Leads, here, onward}
use Rattle.c_num.specs.declared.IntType.TheVariants as I
use Rattle.c_num.specs.Types.{is_value}
use Rattle.c_typed.specs.Types.{CType}
use Rattle.tac_ir.specs.declared.register.Local.{Local}
use Rattle.tac_ir.specs.declared.register.Local.TheVariants as L
use Rattle.tac_ir.specs.declared.register.Register.{Register}
use Rattle.tac_ir.specs.Values.{Object, OfHeap, OfGlobal, OfLiteral, OfActivation, same_local, same_object, Value, Number, NoAddress, Code, Address, Content, Absent, Untyped, Typed, Objects, with_content}
use Rattle.tac_ir.specs.Layouts.{Inner}
use Rattle.tac_ir.specs.Trees.{computes, is_zero}
use Rattle.tac_ir.specs.Objects.{Surroundings, Reached, leads, whole, own_type, fits, holding, stands_at, held_at, is_place, is_there}
use Rattle.tac_ir.specs.Pointers.{is_alive, moved_pointer, difference, compared, typed_content, repoint}
use Rattle.tac_ir.specs.States.{Activation, State, function_of, objects_of, around_of, lost, go_to, write, given, unless_lost}
use Rattle.tac_ir.specs.Calls.{opened, closed, all_held, call, called, natural_of, leave, allocate, free}
use Rattle.tac_ir.specs.Meaning.{value_of, looked_at, truth_value, load, store, address, execute, pay, act_at, act}
use Rattle.tac_ir.specs.First.{initial}
use Rattle.tac_ir.specs.Code.{LocalObject, Function, Op, Tac}
use Rattle.tac_ir.specs.Code as O

-- ---- what holds at every point

-- an activation's objects are there, each with its type
abbrev pub HasObjects : Tac → Activation → Objects → Type 0
HasObjects tac activation objects =
    (local : Local) (inner : Inner) → own_type (objects_of (function_of tac activation.owner)) local ≡ Some inner → (held : ℕ → Option Value) × (objects (OfActivation activation.number local) ≡ Typed inner.c_type 1 held)

-- those that wait have their objects, and their numbers fall from below a number on
abbrev pub AreStacked : Tac → ℕ → List (ℕ × Activation) → Objects → Type 0
AreStacked tac above [] objects = Unit
AreStacked tac above (waiting ∷ callers) objects = (waiting.1.number < above) × HasObjects tac waiting.1 objects × AreStacked tac waiting.1.number callers objects

-- the activation that runs and those that wait have their objects, and their numbers fall from below that of the next one on
abbrev pub IsStacked : Tac → State → Type 0
IsStacked tac state = (state.running.number < state.next_activation) × HasObjects tac state.running state.objects × AreStacked tac state.running.number state.callers state.objects

-- ---- objects that keep their types

-- the objects of activations with numbers below a bound keep their types
abbrev pub KeepsBelow : ℕ → Objects → Objects → Type 0
KeepsBelow bound objects objects' =
    (activation : ℕ) (local : Local) (c_type : CType) (held : ℕ → Option Value) → activation < bound → objects (OfActivation activation local) ≡ Typed c_type 1 held
    → (held' : ℕ → Option Value) × (objects' (OfActivation activation local) ≡ Typed c_type 1 held')

module _ (tac : Tac) (bound : ℕ) (objects objects' : Objects) (keeps : KeepsBelow bound objects objects') where
  pub has_kept : (activation : Activation) → activation.number < bound → HasObjects tac activation objects → HasObjects tac activation objects'
  has_kept activation less has local inner typed =
      let was = has local inner typed in
      keeps activation.number local inner.c_type was.0 less was.1

  pub stack_kept : (above : ℕ) (callers : List (ℕ × Activation)) → above ≤ bound → AreStacked tac above callers objects → AreStacked tac above callers objects'
  stack_kept above [] most are = tt
  stack_kept above (waiting ∷ callers) most are =
      (are.0, has_kept waiting.1 (omega (arith, are.0, most)) are.1, stack_kept waiting.1.number callers (omega (arith, are.0, most)) are.2)

-- ---- what changes objects

same_local-true : (a b : Local) → same_local a b ≡ true → a ≡ b
same_local-true (L.Parameter a) (L.Parameter b) h = ap L.Parameter (eqb-true a b h)
same_local-true (L.Variable a) (L.Variable b) h = ap L.Variable (eqb-true a b h)
same_local-true _ _ h = absurd (false≢true h)

same_own : (object : Object) (activation : ℕ) (local : Local) → same_object object (OfActivation activation local) ≡ true → object ≡ OfActivation activation local
same_own (OfActivation a x) activation local h =
    let parts = and_parts _ (same_local x local) h in
    ap (λ n. OfActivation n x) (eqb-true a activation parts.0) ∙ ap (OfActivation activation) (same_local-true x local parts.1)
same_own (OfHeap number) activation local h = absurd (false≢true h)
same_own (OfGlobal number) activation local h = absurd (false≢true h)
same_own (OfLiteral number) activation local h = absurd (false≢true h)

-- an object gets a content that keeps its type, where it has one
pub content_keeps : (bound : ℕ) (object : Object) (content : Content) (objects : Objects)
    → ((c_type : CType) (held : ℕ → Option Value) → objects object ≡ Typed c_type 1 held → (held' : ℕ → Option Value) × (content ≡ Typed c_type 1 held')) → KeepsBelow bound objects (with_content object content objects)
content_keeps bound object content objects keeps activation local c_type held less is = by (same_object object (OfActivation activation local)) refl
  where
    by : (b : Bool) → same_object object (OfActivation activation local) ≡ b → (held' : ℕ → Option Value) × ((if b then content else objects (OfActivation activation local)) ≡ Typed c_type 1 held')
    by true e = keeps c_type held (ap objects (same_own object activation local e) ∙ is)
    by false e = (held, is)

-- a store keeps the type of an object
holding_keeps : (offset : ℕ) (value : Value) (content : Content) (c_type : CType) (held : ℕ → Option Value) → content ≡ Typed c_type 1 held → (held' : ℕ → Option Value) × (holding offset value content ≡ Typed c_type 1 held')
holding_keeps offset value content c_type held is = (_, ap (holding offset value) is)

-- an object that has a type keeps it
typed_keeps : (around : Surroundings) (target : CType) (content content' : Content) → typed_content around target content ≡ Some content' → (c_type : CType) (held : ℕ → Option Value) → content ≡ Typed c_type 1 held
    → (held' : ℕ → Option Value) × (content' ≡ Typed c_type 1 held')
typed_keeps around target content content' given_it c_type held is = (held, sym (same_Some (Typed c_type 1 held) content' (ap (typed_content around target) (sym is) ∙ given_it)))

-- a new activation has its objects
pub opened_has : (around : Surroundings) (activation : ℕ) (own : List LocalObject) (objects : Objects) (local : Local) (inner : Inner) → own_type own local ≡ Some inner
    → (held : ℕ → Option Value) × (opened around activation own objects (OfActivation activation local) ≡ Typed inner.c_type 1 held)
opened_has around activation [] objects local inner typed = absurd (cc)
opened_has around activation (first ∷ others) objects local inner typed =
    by (activation == activation) (eq-eqb activation activation refl) (same_local first.local local) typed (opened_has around activation others objects local inner)
  where
    by : (a : Bool) → a ≡ true → (b : Bool) → (if b then whole first.c_type else own_type others local) ≡ Some inner
        → (own_type others local ≡ Some inner → (held : ℕ → Option Value) × (opened around activation others objects (OfActivation activation local) ≡ Typed inner.c_type 1 held))
        → (held : ℕ → Option Value) × ((if a && b then Typed first.c_type 1 (λ offset. None) else opened around activation others objects (OfActivation activation local)) ≡ Typed inner.c_type 1 held)
    by true e true typed has = (λ offset. None, ap (λ (inner : Inner). Typed inner.c_type 1 (λ offset. None)) (same_Some (record { offset = 0; c_type = first.c_type }) inner typed))
    by true e false typed has = has typed
    by false e b typed has = absurd (false≢true e)

-- older activations' objects are left alone
opened_same : (around : Surroundings) (activation : ℕ) (own : List LocalObject) (objects : Objects) (older : ℕ) (local : Local) → older < activation
    → opened around activation own objects (OfActivation older local) ≡ objects (OfActivation older local)
opened_same around activation [] objects older local less = refl
opened_same around activation (first ∷ others) objects older local less =
    by (activation == older) (ne_eqb activation older (λ e. omega (arith, e, less))) (opened_same around activation others objects older local less)
  where
    by : (a : Bool) → a ≡ false → opened around activation others objects (OfActivation older local) ≡ objects (OfActivation older local)
        → (if a && same_local first.local local then Typed first.c_type 1 (λ offset. None) else opened around activation others objects (OfActivation older local)) ≡ objects (OfActivation older local)
    by true e same = absurd (true≢false e)
    by false e same = same

pub opened_keeps : (around : Surroundings) (activation : ℕ) (own : List LocalObject) (objects : Objects) → KeepsBelow activation objects (opened around activation own objects)
opened_keeps around activation own objects older local c_type held less is = (held, opened_same around activation own objects older local less ∙ is)

closed_same : (activation : ℕ) (objects : Objects) (older : ℕ) (local : Local) → older < activation → closed activation objects (OfActivation older local) ≡ objects (OfActivation older local)
closed_same activation objects older local less = by (older == activation) (ne_eqb older activation (λ e. omega (arith, e, less)))
  where
    by : (a : Bool) → a ≡ false → (if a then Absent else objects (OfActivation older local)) ≡ objects (OfActivation older local)
    by true e = absurd (true≢false e)
    by false e = refl

pub closed_keeps : (activation : ℕ) (objects : Objects) → KeepsBelow activation objects (closed activation objects)
closed_keeps activation objects older local c_type held less is = (held, closed_same activation objects older local less ∙ is)

-- ---- steps

pub data Keeps (tac : Tac) : Move State → Type 0 where
  goes_on : (state : State) → IsStacked tac state → Keeps tac (To state)
  halts : (final : Final) (state : State) → Keeps tac (Halt final state)

module _ (tac : Tac) where
  -- with an object's content changed
  stays : (object : Object) (content : Content) (state : State)
      → ((c_type : CType) (held : ℕ → Option Value) → state.objects object ≡ Typed c_type 1 held → (held' : ℕ → Option Value) × (content ≡ Typed c_type 1 held'))
      → IsStacked tac state → IsStacked tac (record state { objects = with_content object content state.objects })
  stays object content state keeps kept =
      let all = content_keeps state.next_activation object content state.objects keeps in (
        kept.0,
        has_kept tac state.next_activation state.objects (with_content object content state.objects) all state.running kept.0 kept.1,
        stack_kept tac state.next_activation state.objects (with_content object content state.objects) all state.running.number state.callers (omega (arith, kept.0)) kept.2,
      )

  -- an object of the heap is none of an activation
  heap_stays : (number : ℕ) (content : Content) (state : State) → IsStacked tac state → IsStacked tac (record state { objects = with_content (OfHeap number) content state.objects })
  heap_stays number content state kept =
      (kept.0, kept.1, stack_kept tac state.next_activation state.objects (with_content (OfHeap number) content state.objects) (λ activation local c_type held less is. (held, is)) state.running.number state.callers (omega (arith, kept.0)) kept.2)

  of_lost : (state : State) → Keeps tac (lost state)
  of_lost state = halts _ state

  of_go_to : (at : ℕ) (state : State) → IsStacked tac state → Keeps tac (go_to at state)
  of_go_to at state kept = goes_on _ kept

  of_given : {A : Type 0} (found : Option A) (state : State) (next : A → Move State) → ((a : A) → found ≡ Some a → Keeps tac (next a)) → Keeps tac (given found state next)
  of_given None state next then_kept = of_lost state
  of_given (Some a) state next then_kept = then_kept a refl

  of_unless : (holds : Bool) (state : State) (next : Move State) → Keeps tac next → Keeps tac (unless_lost holds state next)
  of_unless true state next then_kept = then_kept
  of_unless false state next then_kept = of_lost state

  of_choice : (test : Bool) (first second : Move State) → Keeps tac first → Keeps tac second → Keeps tac (if test then first else second)
  of_choice true first second a b = a
  of_choice false first second a b = b

  of_write : (register : Register) (value : Value) (state : State) → IsStacked tac state → Keeps tac (write register value state)
  of_write register value state kept = goes_on _ kept

  of_looked_at : (register : Register) (state : State) (next : Value → Move State) → ((value : Value) → Keeps tac (next value)) → Keeps tac (looked_at register state next)
  of_looked_at register state next then_kept = of_given (state.running.registers register) state _ (λ value is. of_unless (is_alive state.objects value) state (next value) (then_kept value))

  of_repoint : (around : Surroundings) (target : CType) (to : Register) (value : Value) (state : State) → IsStacked tac state → Keeps tac (repoint around target to value state)
  of_repoint around target to (Address object offset) state kept =
      of_given (typed_content around target (state.objects object)) state _ (λ content is. goes_on _ (stays object content state (typed_keeps around target (state.objects object) content is) kept))
  of_repoint around target to (Number z) state kept = goes_on _ kept
  of_repoint around target to NoAddress state kept = goes_on _ kept
  of_repoint around target to (Code function) state kept = goes_on _ kept

  of_load : (around : Surroundings) (to : Register) (c_type : CType) (state : State) (reached : Reached) → IsStacked tac state → Keeps tac (load around to c_type state reached)
  of_load around to c_type state reached kept =
      of_unless (stands_at around.structs c_type reached.inner.offset (state.objects reached.object)) state _
      (of_given (held_at reached.inner.offset (state.objects reached.object)) state _ (λ value is. of_unless (fits c_type value) state _ (goes_on _ kept)))

  of_store : (around : Surroundings) (c_type : CType) (value : Value) (state : State) (reached : Reached) → IsStacked tac state → Keeps tac (store around c_type value state reached)
  of_store around c_type value state reached kept =
      of_unless (stands_at around.structs c_type reached.inner.offset (state.objects reached.object)) state _
      (goes_on _ (stays reached.object (holding reached.inner.offset value (state.objects reached.object)) state (holding_keeps reached.inner.offset value (state.objects reached.object)) kept))

  of_address : (around : Surroundings) (to : Register) (state : State) (reached : Reached) → IsStacked tac state → Keeps tac (address around to state reached)
  of_address around to state reached kept = of_unless (is_place around.structs state.objects reached.object reached.inner.offset) state _ (goes_on _ kept)

  of_allocate : (site size : ℕ) (state : State) → IsStacked tac state → Keeps tac (allocate site size state)
  of_allocate site zero state kept = goes_on _ kept
  of_allocate site (suc size) state kept = goes_on _ (heap_stays state.next_heap (Untyped (suc size)) state kept)

  of_free : (site : ℕ) (value : Value) (state : State) → IsStacked tac state → Keeps tac (free site value state)
  of_free site NoAddress state kept = goes_on _ kept
  of_free site (Address (OfHeap number) zero) state kept = of_unless (is_there (state.objects (OfHeap number))) state _ (goes_on _ (heap_stays number Absent state kept))
  of_free site (Address (OfHeap number) (suc offset)) state kept = of_lost state
  of_free site (Address (OfGlobal number) offset) state kept = of_lost state
  of_free site (Address (OfLiteral number) offset) state kept = of_lost state
  of_free site (Address (OfActivation activation local) offset) state kept = of_lost state
  of_free site (Number z) state kept = of_lost state
  of_free site (Code function) state kept = of_lost state

  -- the called function's activation has the next number
  of_call : (around : Surroundings) (site number : ℕ) (function : Option Function) (values : List Value) (state : State) → slice_get tac.functions number ≡ function → IsStacked tac state
      → Keeps tac (call around site number function values state)
  of_call around site number None values state found kept = of_lost state
  of_call around site number (Some function) values state found kept = of_unless _ state _ (of_choice _ _ _ (goes_on _ (omega (arith), has, (kept.0, now, below))) (halts _ state))
    where
      objects : Objects
      objects = opened around state.next_activation function.objects state.objects

      keeps : KeepsBelow state.next_activation state.objects objects
      keeps = opened_keeps around state.next_activation function.objects state.objects

      has : (local : Local) (inner : Inner) → own_type (objects_of (slice_get tac.functions number)) local ≡ Some inner
          → (held : ℕ → Option Value) × (objects (OfActivation state.next_activation local) ≡ Typed inner.c_type 1 held)
      has local inner typed = opened_has around state.next_activation function.objects state.objects local inner (subst (λ f. own_type (objects_of f) local ≡ Some inner) found typed)

      now : HasObjects tac state.running objects
      now = has_kept tac state.next_activation state.objects objects keeps state.running kept.0 kept.1

      below : AreStacked tac state.running.number state.callers objects
      below = stack_kept tac state.next_activation state.objects objects keeps state.running.number state.callers (omega (arith, kept.0)) kept.2

  of_leave : (callers : List (ℕ × Activation)) (value : Option Value) (state : State) → IsStacked tac (record state { callers = callers }) → Keeps tac (leave value (record state { callers = callers }))
  of_leave [] value state kept = of_lost (record state { callers = [] })
  of_leave ((site, caller) ∷ callers) value state kept = goes_on _ (omega (arith, kept.0, kept.2.0), now, below)
    where
      objects : Objects
      objects = closed state.running.number state.objects

      keeps : KeepsBelow state.running.number state.objects objects
      keeps = closed_keeps state.running.number state.objects

      now : HasObjects tac caller objects
      now = has_kept tac state.running.number state.objects objects keeps caller kept.2.0 kept.2.1

      below : AreStacked tac caller.number callers objects
      below = stack_kept tac state.running.number state.objects objects keeps caller.number callers (omega (arith, kept.2.0)) kept.2.2

  of_execute : (around : Surroundings) (op : Op) (state : State) → IsStacked tac state → Keeps tac (execute tac around op state)
  of_execute around O.Reserved state kept = of_lost state
  of_execute around (O.Jump to) state kept = goes_on _ kept
  of_execute around (O.Branch int_type condition holds fails) state kept =
      of_given (computes state.running.registers condition) state _ (λ z is. of_unless (is_value int_type z) state _ (of_choice (is_zero z) _ _ (of_go_to fails state kept) (of_go_to holds state kept)))
  of_execute around (O.Assign to tree) state kept = of_given (computes state.running.registers tree) state _ (λ z is. goes_on _ kept)
  of_execute around (O.Null to) state kept = goes_on _ kept
  of_execute around (O.FunctionAddress to function) state kept = of_given (slice_get tac.functions function) state _ (λ known is. goes_on _ kept)
  of_execute around (O.Copy to from) state kept = of_given (state.running.registers from) state _ (λ value is. goes_on _ kept)
  of_execute around (O.Test to pointer) state kept = of_looked_at pointer state _ (λ value. goes_on _ kept)
  of_execute around (O.Move to pointer element is_minus number) state kept =
      of_looked_at pointer state _ (λ value. of_given (computes state.running.registers number) state _ (λ z is.
      of_given (moved_pointer around state.objects element (if is_minus then neg_ℤ z else z) value) state _ (λ further is. of_write to further state kept)))
  of_execute around (O.Difference to element left right) state kept =
      of_given (state.running.registers left) state _ (λ a is. of_given (state.running.registers right) state _ (λ b is.
      of_given (difference around state.objects element a b) state _ (λ value is. of_write to value state kept)))
  of_execute around (O.ComparePointers to relation left right) state kept =
      of_looked_at left state _ (λ a. of_looked_at right state _ (λ b. of_given (truth_value (compared around state.objects relation a b)) state _ (λ value is. of_write to value state kept)))
  of_execute around (O.Repoint to target from) state kept = of_looked_at from state _ (λ value. of_repoint around target to value state kept)
  of_execute around (O.AddressOf to path) state kept = of_given (leads around state.running.registers path) state _ (λ reached is. of_address around to state reached kept)
  of_execute around (O.Load to scalar path) state kept = of_given (leads around state.running.registers path) state _ (λ reached is. of_load around to scalar state reached kept)
  of_execute around (O.Store path scalar value) state kept =
      of_given (value_of state.running.registers value) state _ (λ stored is. of_given (leads around state.running.registers path) state _ (λ reached is. of_store around scalar stored state reached kept))
  of_execute around (O.Allocate site size) state kept = of_given (computes state.running.registers size) state _ (λ z is. of_unless (is_value I.ULong z) state _ (of_allocate site (natural_of z) state kept))
  of_execute around (O.Free site pointer) state kept = of_given (state.running.registers pointer) state _ (λ value is. of_free site value state kept)
  of_execute around (O.Call site callee arguments) state kept =
      of_given (called tac around state.running.registers callee) state _ (λ number is. of_given (all_held state.running.registers arguments) state _ (λ values is.
      of_call around site number (slice_get tac.functions number) values state refl kept))
  of_execute around (O.GetChar site) state kept = goes_on _ kept
  of_execute around (O.PutChar site value) state kept = of_given (computes state.running.registers value) state _ (λ z is. goes_on _ kept)
  of_execute around (O.Exit status) state kept = of_given (computes state.running.registers status) state _ (λ z is. halts _ state)
  of_execute around (O.Return None) state kept = of_leave state.callers None state kept
  of_execute around (O.Return (Some operand)) state kept = of_given (value_of state.running.registers operand) state _ (λ value is. of_leave state.callers (Some value) state kept)

  of_pay : (cost : ℕ) (state : State) (done : Move State) → IsStacked tac state → Keeps tac done → Keeps tac (pay cost state done)
  of_pay cost state done kept then_kept = of_choice _ _ done (goes_on _ kept) then_kept

  of_act_at : (op : Option Op) (state : State) → IsStacked tac state → Keeps tac (act_at tac op state)
  of_act_at None state kept = of_lost state
  of_act_at (Some op) state kept = of_pay _ state _ kept (of_execute (around_of tac state.running) op state kept)

  next_of : (move : Move State) (next : State) → Keeps tac move → move ≡ To next → IsStacked tac next
  next_of move next (goes_on state kept) e = let same : state ≡ next = cc in subst (IsStacked tac) same kept
  next_of move next (halts final state) e = absurd (cc)

pub stacked_next : (tac : Tac) (state next : State) → IsStacked tac state → act tac state ≡ To next → IsStacked tac next
stacked_next tac state next kept e = next_of tac (act tac state) next (of_act_at tac _ state kept) e

pub stacked_steps : (tac : Tac) (from to : State) (k : ℕ) → Leads (act tac) from k to → IsStacked tac from → IsStacked tac to
stacked_steps tac from to k (here _) kept = kept
stacked_steps tac from to k (onward _ next _ n step leads) kept = stacked_steps tac next to n leads (stacked_next tac from next kept step)

-- `start` has no objects
pub stacked_first : (tac : Tac) (input : List ℕ) → tac.start.objects ≡ [] → IsStacked tac (initial tac input)
stacked_first tac input none = (omega (arith), λ local inner typed. absurd (no_type local inner (subst (λ (own : List LocalObject). own_type own local ≡ Some inner) none typed)), tt)
  where
    no_type : (local : Local) (inner : Inner) → own_type [] local ≡ Some inner → ⊥
    no_type local inner e = cc
