-- A function's number stands in a register or an object only where the function's address is taken: each step keeps this.
use Rattle.std.proofs.Common.{◌≡◌, ℕ, zero, suc, ◌/◌, ◌%◌, ◌==◌, Bool, true, false, List, [], ◌∷◌, Option, Some, None, refl, subst, eq-eqb}
use Rattle.std.specs.Prelude.{if◌then◌else◌, neg_ℤ, slice_get, ℤ, pos, ◌*ℤ◌}
use Rattle.std.proofs.lemmas.Option.{none-some, same_Some}
use Rattle.run_theory.specs.Runs.{Final, Move, To, Halt}
use Rattle.c_num.specs.declared.IntType.TheVariants as I
use Rattle.c_num.specs.Types.{is_value}
use Rattle.c_typed.specs.Types.{CType}
use Rattle.tac_ir.specs.declared.register.Local.TheVariants as L
use Rattle.tac_ir.specs.declared.register.Register.{Register}
use Rattle.tac_ir.specs.declared.register.Register.TheVariants as Registers
use Rattle.tac_ir.specs.Values.{Object, OfHeap, OfGlobal, OfLiteral, OfActivation, same_object, Value, Number, NoAddress, Code, Address, Content, Absent, Untyped, Typed, Objects, with_content}
use Rattle.tac_ir.specs.Layouts.{size_of}
use Rattle.tac_ir.specs.Trees.{Registers, same_register, with_register, computes, is_zero}
use Rattle.tac_ir.specs.Objects.{Surroundings, Reached, leads, fits, offset_moved, holding, stands_at, held_at, is_place, is_there}
use Rattle.tac_ir.specs.Pointers.{is_alive, moved_pointer, difference, compared, gives_type, typed_content, repoint}
use Rattle.tac_ir.specs.States.{Activation, State, lost, go_to, given, unless_lost}
use Rattle.tac_ir.specs.Calls.{opened, closed, all_held, parameters_from, call, called, natural_of, leave, allocate, free}
use Rattle.tac_ir.specs.Meaning.{value_of, looked_at, truth_value, load, store, address, execute}
use Rattle.tac_ir.specs.Code.{LocalObject, Function, Op, Operand, IntegerOperand, PointerOperand, Tac}
use Rattle.tac_ir.specs.Code as O
use Rattle.tac_ir.specs.Targets.{takes, is_taken}

-- ---- what holds at every point

-- a function's number is that of one whose address is taken
abbrev pub IsTaken : Tac → Value → Type 0
IsTaken tac (Number z) = Unit
IsTaken tac NoAddress = Unit
IsTaken tac (Code function) = is_taken tac function ≡ true
IsTaken tac (Address object offset) = Unit

-- where there is a value
abbrev pub IfHeld : Tac → Option Value → Type 0
IfHeld tac None = Unit
IfHeld tac (Some value) = IsTaken tac value

abbrev pub AreTaken : Tac → List Value → Type 0
AreTaken tac [] = Unit
AreTaken tac (value ∷ values) = IsTaken tac value × AreTaken tac values

-- where there are values
abbrev pub IfAllHeld : Tac → Option (List Value) → Type 0
IfAllHeld tac None = Unit
IfAllHeld tac (Some values) = AreTaken tac values

-- of all that registers hold
abbrev pub InRegisters : Tac → Registers → Type 0
InRegisters tac registers = (register : Register) → IfHeld tac (registers register)

-- of all that an object holds
abbrev pub InContent : Tac → Content → Type 0
InContent tac content = (offset : ℕ) → IfHeld tac (held_at offset content)

abbrev pub InObjects : Tac → Objects → Type 0
InObjects tac objects = (object : Object) → InContent tac (objects object)

abbrev pub InCallers : Tac → List (ℕ × Activation) → Type 0
InCallers tac [] = Unit
InCallers tac (waiting ∷ callers) = InRegisters tac waiting.1.registers × InCallers tac callers

-- of all that the activation that runs, those that wait, and objects hold
abbrev pub InState : Tac → State → Type 0
InState tac state = InRegisters tac state.running.registers × InCallers tac state.callers × InObjects tac state.objects

-- what a step leads to
pub data Keeps (tac : Tac) : Move State → Type 0 where
  goes_on : (state : State) → InState tac state → Keeps tac (To state)
  halts : (final : Final) (state : State) → Keeps tac (Halt final state)

module _ (tac : Tac) where
  -- ---- what changes registers

  register_taken : (register : Register) (value : Option Value) (registers : Registers) → IfHeld tac value → InRegisters tac registers → InRegisters tac (with_register register value registers)
  register_taken register value registers new kept other = by (same_register register other)
    where
      by : (b : Bool) → IfHeld tac (if b then value else registers other)
      by true = new
      by false = kept other

  -- arguments are in the registers of the parameters
  parameters_taken : (number : ℕ) (values : List Value) → AreTaken tac values → InRegisters tac (parameters_from number values)
  parameters_taken number [] are = λ register. tt
  parameters_taken number (value ∷ values) are =
      register_taken (Registers.Local (L.Parameter number)) (Some value) (parameters_from (suc number) values) are.0 (parameters_taken (suc number) values are.1)

  -- a register gets a value
  written : (register : Register) (value : Value) (state : State) → IsTaken tac value → InState tac state
      → InState tac (record state { running = record state.running { registers = with_register register (Some value) state.running.registers } })
  written register value state new kept = (register_taken register (Some value) state.running.registers new kept.0, kept.1, kept.2)

  -- ---- what changes objects

  -- an object gets a content
  content_taken : (object : Object) (content : Content) (objects : Objects) → InContent tac content → InObjects tac objects → InObjects tac (with_content object content objects)
  content_taken object content objects new kept other = by (same_object object other)
    where
      by : (b : Bool) → InContent tac (if b then content else objects other)
      by true = new
      by false = kept other

  -- a value is stored
  holding_taken : (offset : ℕ) (value : Value) (content : Content) → IsTaken tac value → InContent tac content → InContent tac (holding offset value content)
  holding_taken offset value Absent new kept = kept
  holding_taken offset value (Untyped size) new kept = kept
  holding_taken offset value (Typed c_type count held) new kept = λ other. by other (offset == other)
    where
      by : (other : ℕ) (b : Bool) → IfHeld tac (if b then Some value else held other)
      by other true = new
      by other false = kept other

  -- an allocation gets a type
  typed_taken : (around : Surroundings) (target : CType) (content content' : Content) → typed_content around target content ≡ Some content' → InContent tac content → InContent tac content'
  typed_taken around target Absent content' is kept = subst (InContent tac) (same_Some Absent content' is) kept
  typed_taken around target (Untyped size) content' is kept =
      by (gives_type around target) (size % size_of around.structs target == 0) (size / size_of around.structs target) is
    where
      by : (b c : Bool) (count : ℕ) → (if b then (if c then Some (Typed target count (λ offset. None)) else None) else Some (Untyped size)) ≡ Some content' → InContent tac content'
      by true true count is = subst (InContent tac) (same_Some (Typed target count (λ offset. None)) content' is) (λ offset. tt)
      by true false count is = absurd (none-some content' is)
      by false c count is = subst (InContent tac) (same_Some (Untyped size) content' is) (λ offset. tt)
  typed_taken around target (Typed c_type count held) content' is kept = subst (InContent tac) (same_Some (Typed c_type count held) content' is) kept

  -- an activation begins and ends
  opened_taken : (around : Surroundings) (activation : ℕ) (own : List LocalObject) (objects : Objects) → InObjects tac objects → InObjects tac (opened around activation own objects)
  opened_taken around activation [] objects kept = kept
  opened_taken around activation (first ∷ others) objects kept =
      content_taken (OfActivation activation first.local) (Typed first.c_type 1 (λ offset. None)) (opened around activation others objects) (λ offset. tt) (opened_taken around activation others objects kept)

  closed_taken : (activation : ℕ) (objects : Objects) → InObjects tac objects → InObjects tac (closed activation objects)
  closed_taken activation objects kept (OfActivation number local) = by (number == activation)
    where
      by : (b : Bool) → InContent tac (if b then Absent else objects (OfActivation number local))
      by true = λ offset. tt
      by false = kept (OfActivation number local)
  closed_taken activation objects kept (OfHeap number) = kept (OfHeap number)
  closed_taken activation objects kept (OfGlobal number) = kept (OfGlobal number)
  closed_taken activation objects kept (OfLiteral number) = kept (OfLiteral number)

  -- ---- values that points compute

  -- what is read from registers
  operand_taken : (registers : Registers) (operand : Operand) → InRegisters tac registers → IfHeld tac (value_of registers operand)
  operand_taken registers (IntegerOperand tree) kept = by (computes registers tree) refl
    where
      by : (found : Option ℤ) → computes registers tree ≡ found → IfHeld tac (value_of registers (IntegerOperand tree))
      by None is = rw is tt
      by (Some z) is = rw is tt
  operand_taken registers (PointerOperand register) kept = kept register

  all_taken : (registers : Registers) (names : List Register) → InRegisters tac registers → IfAllHeld tac (all_held registers names)
  all_taken registers [] kept = tt
  all_taken registers (first ∷ others) kept = by (registers first) refl (kept first) (all_held registers others) refl (all_taken registers others kept)
    where
      by : (one : Option Value) → registers first ≡ one → IfHeld tac one → (more : Option (List Value)) → all_held registers others ≡ more → IfAllHeld tac more → IfAllHeld tac (all_held registers (first ∷ others))
      by None is new more are all = rw is tt
      by (Some value) is new None are all = rw is (rw are tt)
      by (Some value) is new (Some values) are all = rw is (rw are (new, all))

  address_or_none : (object : Object) (offset : ℕ) (b : Bool) → IfHeld tac (if b then Some (Address object offset) else None)
  address_or_none object offset true = tt
  address_or_none object offset false = tt

  number_or_none : (z : ℤ) (b : Bool) → IfHeld tac (if b then Some (Number z) else None)
  number_or_none z true = tt
  number_or_none z false = tt

  -- operators give no function
  moved_taken : (around : Surroundings) (objects : Objects) (element : CType) (z : ℤ) (value : Value) → IfHeld tac (moved_pointer around objects element z value)
  moved_taken around objects element z (Address object offset) = by (offset_moved offset (z *ℤ pos (size_of around.structs element))) refl
    where
      by : (found : Option ℕ) → offset_moved offset (z *ℤ pos (size_of around.structs element)) ≡ found → IfHeld tac (moved_pointer around objects element z (Address object offset))
      by None is = rw is tt
      by (Some further) is = rw is (address_or_none object further (is_place around.structs objects object further))
  moved_taken around objects element z (Number n) = tt
  moved_taken around objects element z NoAddress = tt
  moved_taken around objects element z (Code function) = tt

  difference_taken : (around : Surroundings) (objects : Objects) (element : CType) (a b : Value) → IfHeld tac (difference around objects element a b)
  difference_taken around objects element (Address a i) (Address b j) = number_or_none _ _
  difference_taken around objects element (Address a i) (Number n) = tt
  difference_taken around objects element (Address a i) NoAddress = tt
  difference_taken around objects element (Address a i) (Code function) = tt
  difference_taken around objects element (Number n) b = tt
  difference_taken around objects element NoAddress b = tt
  difference_taken around objects element (Code function) b = tt

  truth_taken : (test : Option Bool) → IfHeld tac (truth_value test)
  truth_taken None = tt
  truth_taken (Some test) = tt

  -- ---- steps

  pub of_lost : (state : State) → Keeps tac (lost state)
  of_lost state = halts _ state

  of_go_to : (at : ℕ) (state : State) → InState tac state → Keeps tac (go_to at state)
  of_go_to at state kept = goes_on _ kept

  of_given : {A : Type 0} (found : Option A) (state : State) (next : A → Move State) → ((a : A) → found ≡ Some a → Keeps tac (next a)) → Keeps tac (given found state next)
  of_given None state next then_kept = of_lost state
  of_given (Some a) state next then_kept = then_kept a refl

  -- a value of which this holds is given
  of_value : (found : Option Value) (state : State) (next : Value → Move State) → IfHeld tac found → ((value : Value) → IsTaken tac value → Keeps tac (next value)) → Keeps tac (given found state next)
  of_value None state next holds then_kept = of_lost state
  of_value (Some value) state next holds then_kept = then_kept value holds

  of_unless : (holds : Bool) (state : State) (next : Move State) → Keeps tac next → Keeps tac (unless_lost holds state next)
  of_unless true state next then_kept = then_kept
  of_unless false state next then_kept = of_lost state

  pub of_choice : (test : Bool) (first second : Move State) → Keeps tac first → Keeps tac second → Keeps tac (if test then first else second)
  of_choice true first second a b = a
  of_choice false first second a b = b

  of_looked_at : (register : Register) (state : State) (next : Value → Move State) → InState tac state → ((value : Value) → IsTaken tac value → Keeps tac (next value)) → Keeps tac (looked_at register state next)
  of_looked_at register state next kept then_kept =
      of_value (state.running.registers register) state _ (kept.0 register) (λ value holds. of_unless (is_alive state.objects value) state (next value) (then_kept value holds))

  of_repoint : (around : Surroundings) (target : CType) (to : Register) (value : Value) (state : State) → IsTaken tac value → InState tac state → Keeps tac (repoint around target to value state)
  of_repoint around target to (Address object offset) state holds kept =
      of_given (typed_content around target (state.objects object)) state _ (λ content is. goes_on _ (
        register_taken to (Some (Address object offset)) state.running.registers tt kept.0,
        kept.1,
        content_taken object content state.objects (typed_taken around target (state.objects object) content is (kept.2 object)) kept.2,
      ))
  of_repoint around target to (Number z) state holds kept = goes_on _ (written to (Number z) state holds kept)
  of_repoint around target to NoAddress state holds kept = goes_on _ (written to NoAddress state holds kept)
  of_repoint around target to (Code function) state holds kept = goes_on _ (written to (Code function) state holds kept)

  of_load : (around : Surroundings) (to : Register) (c_type : CType) (state : State) (reached : Reached) → InState tac state → Keeps tac (load around to c_type state reached)
  of_load around to c_type state reached kept =
      of_unless (stands_at around.structs c_type reached.inner.offset (state.objects reached.object)) state _
      (of_value (held_at reached.inner.offset (state.objects reached.object)) state _ (kept.2 reached.object reached.inner.offset)
      (λ value holds. of_unless (fits c_type value) state _ (goes_on _ (written to value state holds kept))))

  of_store : (around : Surroundings) (c_type : CType) (value : Value) (state : State) (reached : Reached) → IsTaken tac value → InState tac state → Keeps tac (store around c_type value state reached)
  of_store around c_type value state reached holds kept =
      of_unless (stands_at around.structs c_type reached.inner.offset (state.objects reached.object)) state _ (goes_on _ (
        kept.0,
        kept.1,
        content_taken reached.object (holding reached.inner.offset value (state.objects reached.object)) state.objects
            (holding_taken reached.inner.offset value (state.objects reached.object) holds (kept.2 reached.object)) kept.2,
      ))

  of_address : (around : Surroundings) (to : Register) (state : State) (reached : Reached) → InState tac state → Keeps tac (address around to state reached)
  of_address around to state reached kept =
      of_unless (is_place around.structs state.objects reached.object reached.inner.offset) state _ (goes_on _ (written to (Address reached.object reached.inner.offset) state tt kept))

  of_allocate : (site size : ℕ) (state : State) → InState tac state → Keeps tac (allocate site size state)
  of_allocate site zero state kept = goes_on _ (written (Registers.Call site) NoAddress state tt kept)
  of_allocate site (suc size) state kept = goes_on _ (
    register_taken (Registers.Call site) (Some (Address (OfHeap state.next_heap) 0)) state.running.registers tt kept.0,
    kept.1,
    content_taken (OfHeap state.next_heap) (Untyped (suc size)) state.objects (λ offset. tt) kept.2,
  )

  of_free : (site : ℕ) (value : Value) (state : State) → InState tac state → Keeps tac (free site value state)
  of_free site NoAddress state kept = goes_on _ kept
  of_free site (Address (OfHeap number) zero) state kept =
      of_unless (is_there (state.objects (OfHeap number))) state _ (goes_on _ (kept.0, kept.1, content_taken (OfHeap number) Absent state.objects (λ offset. tt) kept.2))
  of_free site (Address (OfHeap number) (suc offset)) state kept = of_lost state
  of_free site (Address (OfGlobal number) offset) state kept = of_lost state
  of_free site (Address (OfLiteral number) offset) state kept = of_lost state
  of_free site (Address (OfActivation activation local) offset) state kept = of_lost state
  of_free site (Number z) state kept = of_lost state
  of_free site (Code function) state kept = of_lost state

  of_call : (around : Surroundings) (site number : ℕ) (function : Option Function) (values : List Value) (state : State) → AreTaken tac values → InState tac state
      → Keeps tac (call around site number function values state)
  of_call around site number None values state are kept = of_lost state
  of_call around site number (Some function) values state are kept =
      of_unless _ state _ (of_choice _ _ _
      (goes_on _ (parameters_taken 0 values are, (kept.0, kept.1), opened_taken around state.next_activation function.objects state.objects kept.2))
      (halts _ state))

  of_leave : (callers : List (ℕ × Activation)) (value : Option Value) (state : State) → IfHeld tac value → InState tac (record state { callers = callers }) → Keeps tac (leave value (record state { callers = callers }))
  of_leave [] value state holds kept = of_lost (record state { callers = [] })
  of_leave ((site, caller) ∷ callers) value state holds kept =
      goes_on _ (register_taken (Registers.Call site) value caller.registers holds kept.1.0, kept.1.1, closed_taken state.running.number state.objects kept.2)

  -- a point whose functions are taken
  pub of_execute : (around : Surroundings) (op : Op) (state : State) → ((function : ℕ) → takes function op ≡ true → is_taken tac function ≡ true) → InState tac state → Keeps tac (execute tac around op state)
  of_execute around O.Reserved state taken kept = of_lost state
  of_execute around (O.Jump to) state taken kept = goes_on _ kept
  of_execute around (O.Branch int_type condition holds fails) state taken kept =
      of_given (computes state.running.registers condition) state _ (λ z is. of_unless (is_value int_type z) state _ (of_choice (is_zero z) _ _ (of_go_to fails state kept) (of_go_to holds state kept)))
  of_execute around (O.Assign to tree) state taken kept = of_given (computes state.running.registers tree) state _ (λ z is. goes_on _ (written to (Number z) state tt kept))
  of_execute around (O.Null to) state taken kept = goes_on _ (written to NoAddress state tt kept)
  of_execute around (O.FunctionAddress to function) state taken kept =
      of_given (slice_get tac.functions function) state _ (λ known is. goes_on _ (written to (Code function) state (taken function (eq-eqb function function refl)) kept))
  of_execute around (O.Copy to from) state taken kept = of_value (state.running.registers from) state _ (kept.0 from) (λ value holds. goes_on _ (written to value state holds kept))
  of_execute around (O.Test to pointer) state taken kept = of_looked_at pointer state _ kept (λ value holds. goes_on _ (written to (Number _) state tt kept))
  of_execute around (O.Move to pointer element is_minus number) state taken kept =
      of_looked_at pointer state _ kept (λ value holds. of_given (computes state.running.registers number) state _ (λ z is.
      of_value (moved_pointer around state.objects element (if is_minus then neg_ℤ z else z) value) state _ (moved_taken around state.objects element (if is_minus then neg_ℤ z else z) value)
      (λ further new. goes_on _ (written to further state new kept))))
  of_execute around (O.Difference to element left right) state taken kept =
      of_given (state.running.registers left) state _ (λ a is. of_given (state.running.registers right) state _ (λ b is.
      of_value (difference around state.objects element a b) state _ (difference_taken around state.objects element a b) (λ value new. goes_on _ (written to value state new kept))))
  of_execute around (O.ComparePointers to relation left right) state taken kept =
      of_looked_at left state _ kept (λ a holds. of_looked_at right state _ kept (λ b holds.
      of_value (truth_value (compared around state.objects relation a b)) state _ (truth_taken (compared around state.objects relation a b)) (λ value new. goes_on _ (written to value state new kept))))
  of_execute around (O.Repoint to target from) state taken kept = of_looked_at from state _ kept (λ value holds. of_repoint around target to value state holds kept)
  of_execute around (O.AddressOf to path) state taken kept = of_given (leads around state.running.registers path) state _ (λ reached is. of_address around to state reached kept)
  of_execute around (O.Load to scalar path) state taken kept = of_given (leads around state.running.registers path) state _ (λ reached is. of_load around to scalar state reached kept)
  of_execute around (O.Store path scalar value) state taken kept =
      of_value (value_of state.running.registers value) state _ (operand_taken state.running.registers value kept.0) (λ stored new.
      of_given (leads around state.running.registers path) state _ (λ reached is. of_store around scalar stored state reached new kept))
  of_execute around (O.Allocate site size) state taken kept = of_given (computes state.running.registers size) state _ (λ z is. of_unless (is_value I.ULong z) state _ (of_allocate site (natural_of z) state kept))
  of_execute around (O.Free site pointer) state taken kept = of_given (state.running.registers pointer) state _ (λ value is. of_free site value state kept)
  of_execute around (O.Call site callee arguments) state taken kept =
      of_given (called tac around state.running.registers callee) state _ (λ number is. of_given (all_held state.running.registers arguments) state _ (λ values all.
      of_call around site number (slice_get tac.functions number) values state (subst (IfAllHeld tac) all (all_taken state.running.registers arguments kept.0)) kept))
  of_execute around (O.GetChar site) state taken kept = goes_on _ (written (Registers.Call site) (Number _) state tt kept)
  of_execute around (O.PutChar site value) state taken kept = of_given (computes state.running.registers value) state _ (λ z is. goes_on _ (written (Registers.Call site) (Number _) state tt kept))
  of_execute around (O.Exit status) state taken kept = of_given (computes state.running.registers status) state _ (λ z is. halts _ state)
  of_execute around (O.Return None) state taken kept = of_leave state.callers None state tt kept
  of_execute around (O.Return (Some operand)) state taken kept =
      of_value (value_of state.running.registers operand) state _ (operand_taken state.running.registers operand kept.0) (λ value new. of_leave state.callers (Some value) state new kept)
