-- Points that write a value to a register: three-address code is lost, or both go on in step.
use Rattle.std.proofs.Common.{◌≡◌, ℕ, zero, suc, ◌%◌, ◌<◌, ◌≤◌, ◌==◌, Bool, true, false, not, ◌&&◌, if◌then◌else◌, List, [], ◌∷◌, length, map, reverse, Option, Some, None, ℤ, pos, neg_ℤ, ◌-ℤ◌, ◌*ℤ◌, inl, inr, refl, sym, ap, subst, ◌∙◌, arith, leb-true}
use Rattle.std.specs.Prelude.{nat_le, nat_lt, slice_get, int_div}
use Rattle.std.proofs.lemmas.Bool.{and_parts}
use Rattle.std.proofs.lemmas.Option.{slice_get_within}
use Rattle.std.proofs.lemmas.List.{length-reverse}
use Rattle.run_theory.specs.Runs.{Move}
use Rattle.c_num.specs.declared.IntType.TheVariants as I
use Rattle.c_num.specs.declared.BinOp.TheVariants as B
use Rattle.c_num.specs.declared.Relation.{Relation}
use Rattle.c_num.specs.Types.{is_value}
use Rattle.c_num.specs.Conversion.{bits_of}
use Rattle.c_typed.specs.Types.{CType}
use Rattle.tac_ir.specs.declared.register.Local.{Local}
use Rattle.tac_ir.specs.declared.register.Register.{Register}
use Rattle.tac_ir.specs.declared.register.Register.TheVariants as Registers
use Rattle.tac_ir.specs.Values as V
use Rattle.tac_ir.specs.Values.{OfHeap, OfGlobal, OfLiteral, OfActivation, same_object, Value, Number, NoAddress, Code, Address, Objects}
use Rattle.tac_ir.specs.Events.{Wrote}
use Rattle.tac_ir.specs.Layouts.{size_of}
use Rattle.tac_ir.specs.Objects.{Surroundings, offset_moved, is_there, extent_of, is_place, Reached, leads}
use Rattle.tac_ir.specs.Trees.{computes, truth}
use Rattle.tac_ir.specs.States as T
use Rattle.tac_ir.specs.States.{given, unless_lost}
use Rattle.tac_ir.specs.Pointers.{is_alive, is_null, moved_pointer, difference, compared}
use Rattle.tac_ir.specs.Calls.{next_char, after_next}
use Rattle.tac_ir.specs.Meaning.{looked_at, address, truth_value}
use Rattle.tac_ir.specs.Code.{Tree, Path, LocalObject, Tac}
use Rattle.tac_ir.specs.Code as O
use Rattle.tac_ir.proofs.Activations.{AreStacked, IsStacked}
use Rattle.pool_isa.specs.Machine.{input_word, binary_word, compared_word}
use Rattle.pool_ir.specs.Code.{FrameLayout}
use Rattle.pool_ir.specs.Words.{truth_word, word_in, moved_by, moved_back}
use Rattle.pool_ir.specs.States as P
use Rattle.pool_ir.specs.States.{Same}
use Rattle.pool_ir.specs.Memory.{path_address}
use Rattle.pool_ir.specs.Meaning as M
use Rattle.pool_rewrite.specs.Plan.{Plan}
use Rattle.pool_rewrite.specs.Rewriting.{path_of}
use Rattle.pool_rewrite.specs.Standing.{MemoryMap, PlaceStands, Stands}
use Rattle.pool_simulation.specs.Placed.{KeepsOffsets, IsInside}
use Rattle.pool_simulation.specs.InStep.{frame_for, address_in, memory_in, IsOld, IsOwned, InStep}
use Rattle.pool_simulation.proofs.NarrowWords.{narrow_stands}
use Rattle.pool_simulation.proofs.WordValues.{word_of-value, word-of_byte}
use Rattle.pool_simulation.proofs.TreeWords.{tree_word, tree_stands, byte_stands}
use Rattle.pool_simulation.proofs.PathWords.{path_leads}
use Rattle.pool_simulation.proofs.PointerWords.{test_stands, move_stands, move_inside, compare_stands, difference_stands, difference_inside}
use Rattle.pool_simulation.proofs.PointWords.{char_stands}
use Rattle.pool_simulation.specs.Serving.{code_of, nothing}
use Rattle.pool_simulation.proofs.Stepping.{Ready, Does, PointDoes}
use Rattle.pool_simulation.proofs.PlannedCode.{does_given, does_unless}
use Rattle.pool_simulation.proofs.InStepWords.{emits_in_step, takes_in_step, no_effect, write_does}

-- ---- where three-address code is lost

pub does_looked : (tac : Tac) (plan : Plan) (slabs : ℕ) (machine : P.State) (register : Register) (state : T.State) (next : Value → Move T.State) (does : Move P.State)
    → ((value : Value) → state.running.registers register ≡ Some value → is_alive state.objects value ≡ true → Does tac plan slabs state machine (next value) does) → Does tac plan slabs state machine (looked_at register state next) does
does_looked tac plan slabs machine register state next does then_does =
    does_given tac plan slabs machine (state.running.registers register) state (λ value. unless_lost (is_alive state.objects value) state (next value)) does (λ value is.
    does_unless tac plan slabs machine (is_alive state.objects value) state (next value) does (λ alive. then_does value is alive))

-- ---- what was made before

-- of an activation that waits
waiting_old : (tac : Tac) (callers : List (ℕ × T.Activation)) (bound : ℕ) (objects : Objects) (activation : ℕ) (local : Local) → AreStacked tac bound callers objects
    → IsOwned tac (map (λ (waiting : ℕ × T.Activation). waiting.1) callers) activation local → activation < bound
waiting_old tac [] bound objects activation local stacked owned = absurd owned
waiting_old tac (waiting ∷ callers) bound objects activation local stacked (inl own) = omega (arith, own.0, stacked.0)
waiting_old tac (waiting ∷ callers) bound objects activation local stacked (inr behind) =
    let less = waiting_old tac callers waiting.1.number objects activation local stacked.2 behind in omega (arith, less, stacked.0)

placed_old : (tac : Tac) (plan : Plan) (state : T.State) (machine : P.State) (number at : ℕ) → state.next_heap ≡ suc (length machine.placed) → address_in tac plan state machine (OfHeap number) ≡ Some at → number < state.next_heap
placed_old tac plan state machine zero at next is = absurd (cc)
placed_old tac plan state machine (suc number) at next is =
    let less = slice_get_within (reverse machine.placed) number at is in
    let long = length-reverse machine.placed in
    omega (arith, less, long, next)

-- what is there
pub there_old : (tac : Tac) (plan : Plan) (slabs : ℕ) (state : T.State) (machine : P.State) → IsStacked tac state → InStep tac plan slabs state machine → (object : V.Object) (offset : ℕ) → is_there (state.objects object) ≡ true
    → IsOld state (Address object offset)
there_old tac plan slabs state machine stacked step (OfHeap number) offset there = let own = step.allocations number there in placed_old tac plan state machine number own.address step.next own.is
there_old tac plan slabs state machine stacked step (OfGlobal number) offset there = tt
there_old tac plan slabs state machine stacked step (OfLiteral number) offset there = tt
there_old tac plan slabs state machine stacked step (OfActivation activation local) offset there = by (step.owned activation local there)
  where
    by : IsOwned tac (state.running ∷ map (λ (waiting : ℕ × T.Activation). waiting.1) state.callers) activation local → activation < state.next_activation
    by (inl own) = omega (arith, own.0, stacked.0)
    by (inr behind) = let less = waiting_old tac state.callers state.running.number state.objects activation local stacked.2 behind in omega (arith, less, stacked.0)

-- an offset counts for nothing
offset_old : (state : T.State) (object : V.Object) (offset other : ℕ) → IsOld state (Address object offset) → IsOld state (Address object other)
offset_old state (OfHeap number) offset other old = old
offset_old state (OfGlobal number) offset other old = old
offset_old state (OfLiteral number) offset other old = old
offset_old state (OfActivation activation local) offset other old = old

moved_old : (around : Surroundings) (objects : Objects) (state : T.State) (element : CType) (z : ℤ) (value moved : Value) → moved_pointer around objects element z value ≡ Some moved → IsOld state value → IsOld state moved
moved_old around objects state element z (Address object offset) moved e old = by (offset_moved offset (z *ℤ pos (size_of around.structs element))) e
  where
    found : Option ℕ → Option Value
    found None = None
    found (Some further) = if is_place around.structs objects object further then Some (Address object further) else None

    at : (further : ℕ) (b : Bool) → (if b then Some (Address object further) else None) ≡ Some moved → IsOld state moved
    at further true e = let same : Address object further ≡ moved = cc in subst (IsOld state) same (offset_old state object offset further old)
    at further false e = absurd (cc)

    by : (o : Option ℕ) → found o ≡ Some moved → IsOld state moved
    by None e = absurd (cc)
    by (Some further) e = at further (is_place around.structs objects object further) e
moved_old around objects state element z (Number n) moved e old = absurd (cc)
moved_old around objects state element z NoAddress moved e old = absurd (cc)
moved_old around objects state element z (Code function) moved e old = absurd (cc)

difference_old : (around : Surroundings) (objects : Objects) (state : T.State) (element : CType) (a b value : Value) → difference around objects element a b ≡ Some value → IsOld state value
difference_old around objects state element (Address a i) (Address b j) value e =
    by (same_object a b && (is_there (objects a) && (nat_lt 0 (size_of around.structs element) && is_value I.Long (int_div (pos i -ℤ pos j) (pos (size_of around.structs element)))))) e
  where
    by : (t : Bool) → (if t then Some (Number (int_div (pos i -ℤ pos j) (pos (size_of around.structs element)))) else None) ≡ Some value → IsOld state value
    by true e = let same : Number (int_div (pos i -ℤ pos j) (pos (size_of around.structs element))) ≡ value = cc in subst (IsOld state) same tt
    by false e = absurd (cc)
difference_old around objects state element (Address a i) (Number n) value e = absurd (cc)
difference_old around objects state element (Address a i) NoAddress value e = absurd (cc)
difference_old around objects state element (Address a i) (Code g) value e = absurd (cc)
difference_old around objects state element (Number n) b value e = absurd (cc)
difference_old around objects state element NoAddress b value e = absurd (cc)
difference_old around objects state element (Code f) b value e = absurd (cc)

truth_of : (test : Option Bool) (value : Value) → truth_value test ≡ Some value → (b : Bool) × (test ≡ Some b) × (Number (truth b) ≡ value)
truth_of None value e = absurd (cc)
truth_of (Some b) value e = (b, refl, cc)

-- ---- points

module _ (tac : Tac) (plan : Plan) (slabs : ℕ) (state : T.State) (machine : P.State) (ready : Ready tac plan slabs state machine) where
  abbrev memory : MemoryMap
  memory = memory_in tac plan state machine

  abbrev around : Surroundings
  around = T.around_of tac state.running

  abbrev own : List LocalObject
  own = T.objects_of (T.function_of tac state.running.owner)

  abbrev frame : FrameLayout
  frame = frame_for tac plan state.running.owner

  keeps : KeepsOffsets memory
  keeps object offset = refl

  writes : (to : Register) (value : Value) (word : ℕ) → Stands state.objects memory value word → IsInside tac.structs state.objects value → IsOld state value
      → Does tac plan slabs state machine (T.write to value state) (P.write (code_of tac plan) to word machine)
  writes to value word stands inside =
      write_does tac plan slabs state machine state machine (no_effect tac plan state machine) ready.in_step to value word
      (narrow_stands tac.structs state.objects memory keeps ready.placed value word stands inside) inside

  pub assign_does : (to : Register) (tree : Tree) → PointDoes tac plan slabs state machine (O.Assign to tree)
  assign_does to tree =
      let word = word_in machine.running.words tree in
      does_given tac plan slabs machine (computes state.running.registers tree) state (λ z. T.write to (Number z) state) (P.write (code_of tac plan) to word machine) (λ z is.
      writes to (Number z) word (tree_stands state.objects memory state.running.registers machine.running.words tree z ready.in_step.running.words is) tt tt)

  pub null_does : (to : Register) → PointDoes tac plan slabs state machine (O.Null to)
  null_does to = writes to NoAddress 0 refl tt tt

  pub function_does : (to : Register) (function : ℕ) → PointDoes tac plan slabs state machine (O.FunctionAddress to function)
  function_does to function =
      does_given tac plan slabs machine (slice_get tac.functions function) state (λ known. T.write to (Code function) state) (P.write (code_of tac plan) to (M.function_word function) machine) (λ known is.
      writes to (Code function) (M.function_word function) refl
      (let less = slice_get_within tac.functions function known is in let few = ready.fits.functions in omega (arith, less, few)) tt)

  pub copy_does : (to from : Register) → PointDoes tac plan slabs state machine (O.Copy to from)
  copy_does to from =
      does_given tac plan slabs machine (state.running.registers from) state (λ value. T.write to value state) (P.write (code_of tac plan) to (machine.running.words from) machine) (λ value is.
      writes to value (machine.running.words from) (ready.in_step.running.words from value is) (ready.in_step.running.inside from value is) (ready.in_step.running.old from value is))

  pub test_does : (to pointer : Register) → PointDoes tac plan slabs state machine (O.Test to pointer)
  test_does to pointer =
      let word = machine.running.words pointer in
      does_looked tac plan slabs machine pointer state (λ value. T.write to (Number (truth (not (is_null value)))) state) (P.write (code_of tac plan) to (truth_word (not (word == 0))) machine) (λ value is alive.
      writes to (Number (truth (not (is_null value)))) (truth_word (not (word == 0)))
      (test_stands around state.objects memory ready.placed keeps value word (ready.in_step.running.words pointer value is) alive) tt tt)

  pub move_does : (to pointer : Register) (element : CType) (is_minus : Bool) (number : Tree) → PointDoes tac plan slabs state machine (O.Move to pointer element is_minus number)
  move_does to pointer element is_minus number =
      let size = size_of tac.structs element in
      let place = machine.running.words pointer in
      let amount = word_in machine.running.words number in
      let word = if is_minus then moved_back place size amount else moved_by place size amount in
      does_looked tac plan slabs machine pointer state (λ value. given (computes state.running.registers number) state (λ z.
      given (moved_pointer around state.objects element (if is_minus then neg_ℤ z else z) value) state (λ further. T.write to further state))) (P.write (code_of tac plan) to word machine) (λ value is alive.
      does_given tac plan slabs machine (computes state.running.registers number) state (λ z.
      given (moved_pointer around state.objects element (if is_minus then neg_ℤ z else z) value) state (λ further. T.write to further state)) (P.write (code_of tac plan) to word machine) (λ z counted.
      does_given tac plan slabs machine (moved_pointer around state.objects element (if is_minus then neg_ℤ z else z) value) state (λ further. T.write to further state) (P.write (code_of tac plan) to word machine) (λ further moved.
      writes to further word
      (subst (λ n. Stands state.objects memory further (if is_minus then moved_back place size n else moved_by place size n))
      (sym (tree_word state.objects memory state.running.registers machine.running.words ready.in_step.running.words number z counted))
      (move_stands around state.objects memory ready.placed keeps element is_minus z value further place (ready.in_step.running.words pointer value is) moved))
      (move_inside around state.objects memory ready.placed keeps element (if is_minus then neg_ℤ z else z) value further moved)
      (moved_old around state.objects state element (if is_minus then neg_ℤ z else z) value further moved (ready.in_step.running.old pointer value is)))))

  pub difference_does : (to : Register) (element : CType) (left right : Register) → PointDoes tac plan slabs state machine (O.Difference to element left right)
  difference_does to element left right =
      let x = machine.running.words left in
      let y = machine.running.words right in
      let word = binary_word B.Div I.Long (binary_word B.Sub I.Long x y) (size_of tac.structs element) in
      does_given tac plan slabs machine (state.running.registers left) state (λ a. given (state.running.registers right) state (λ b.
      given (difference around state.objects element a b) state (λ value. T.write to value state))) (P.write (code_of tac plan) to word machine) (λ a is.
      does_given tac plan slabs machine (state.running.registers right) state (λ b.
      given (difference around state.objects element a b) state (λ value. T.write to value state)) (P.write (code_of tac plan) to word machine) (λ b is'.
      does_given tac plan slabs machine (difference around state.objects element a b) state (λ value. T.write to value state) (P.write (code_of tac plan) to word machine) (λ value found.
      writes to value word
      (difference_stands around state.objects memory ready.placed keeps element a b value x y (ready.in_step.running.words left a is) (ready.in_step.running.words right b is')
      (ready.in_step.running.inside left a is) (ready.in_step.running.inside right b is') found)
      (difference_inside around state.objects memory ready.placed keeps element a b value found) (difference_old around state.objects state element a b value found))))

  pub compare_does : (to : Register) (relation : Relation) (left right : Register) → PointDoes tac plan slabs state machine (O.ComparePointers to relation left right)
  compare_does to relation left right =
      let x = machine.running.words left in
      let y = machine.running.words right in
      let word = compared_word relation I.ULong x y in
      does_looked tac plan slabs machine left state (λ a. looked_at right state (λ b. given (truth_value (compared around state.objects relation a b)) state (λ value. T.write to value state)))
      (P.write (code_of tac plan) to word machine) (λ a is alive.
      does_looked tac plan slabs machine right state (λ b. given (truth_value (compared around state.objects relation a b)) state (λ value. T.write to value state)) (P.write (code_of tac plan) to word machine) (λ b is' alive'.
      does_given tac plan slabs machine (truth_value (compared around state.objects relation a b)) state (λ value. T.write to value state) (P.write (code_of tac plan) to word machine) (λ value found.
      let test = truth_of (compared around state.objects relation a b) value found in
      subst (λ v. Does tac plan slabs state machine (T.write to v state) (P.write (code_of tac plan) to word machine)) test.2
      (writes to (Number (truth test.0)) word
      (compare_stands around state.objects memory ready.placed keeps relation a b x y test.0 (ready.in_step.running.words left a is) (ready.in_step.running.words right b is') alive alive'
      (ready.in_step.running.inside left a is) (ready.in_step.running.inside right b is') test.1) tt tt))))

  -- ---- addresses

  -- the word of a path that leads to a place in an object that is there
  pub path_stands : (path : Path) (reached : Reached) → leads around state.running.registers path ≡ Some reached → is_there (state.objects reached.object) ≡ true
      → reached.inner.offset ≤ extent_of tac.structs (state.objects reached.object) → PlaceStands memory reached.object reached.inner.offset (path_address machine.running (path_of tac own frame path))
  path_stands path reached e there within =
      let led = path_leads tac own frame state.running.number state.objects memory state.running.registers machine.running keeps ready.in_step.running.words ready.bases path reached e there in
      let own_place = ready.placed.there reached.object there in
      let same : led.0 ≡ own_place.0 = cc (sym led.1 ∙ own_place.1) in
      let most = own_place.3 in
      (led.0, led.1, led.2.exact (omega (arith, most, within, same)))

  pub address_does : (to : Register) (path : Path) → PointDoes tac plan slabs state machine (O.AddressOf to path)
  address_does to path =
      let word = path_address machine.running (path_of tac own frame path) in
      does_given tac plan slabs machine (leads around state.running.registers path) state (address around to state) (P.write (code_of tac plan) to word machine) (λ reached e.
      does_unless tac plan slabs machine (is_place tac.structs state.objects reached.object reached.inner.offset) state (T.write to (Address reached.object reached.inner.offset) state)
      (P.write (code_of tac plan) to word machine) (λ place.
      let parts = and_parts (is_there (state.objects reached.object)) (nat_le reached.inner.offset (extent_of tac.structs (state.objects reached.object))) place in
      let within = leb-true reached.inner.offset (extent_of tac.structs (state.objects reached.object)) parts.1 in
      writes to (Address reached.object reached.inner.offset) word (λ there. path_stands path reached e there within) (λ there. within)
      (there_old tac plan slabs state machine ready.stacked ready.in_step reached.object reached.inner.offset parts.0)))

  -- ---- bytes

  pub get_char_does : (site : ℕ) → PointDoes tac plan slabs state machine (O.GetChar site)
  get_char_does site =
      let same = ready.in_step.input in
      write_does tac plan slabs state machine (record state { input = after_next state.input }) (record machine { input = after_next machine.input })
      (nothing _ (record { owner = refl; descriptors = refl; at = refl; callers = refl; pools = refl; placed = refl }))
      (takes_in_step tac plan slabs state machine ready.in_step (after_next state.input) (after_next machine.input) (ap after_next same)) (Registers.Call site) (Number (next_char state.input)) (input_word machine.input)
      (narrow_stands tac.structs state.objects memory keeps ready.placed (Number (next_char state.input)) (input_word machine.input) (ap input_word same ∙ char_stands state.objects memory state.input) tt) tt tt

  pub put_char_does : (site : ℕ) (tree : Tree) → PointDoes tac plan slabs state machine (O.PutChar site tree)
  put_char_does site tree =
      let byte = word_in machine.running.words tree % 256 in
      does_given tac plan slabs machine (computes state.running.registers tree) state (λ z. T.write (Registers.Call site) (Number (pos (bits_of I.UChar z))) (T.emit (Wrote (bits_of I.UChar z) ∷ []) state))
      (P.write (code_of tac plan) (Registers.Call site) byte (P.emit (Same (Wrote byte) ∷ []) machine)) (λ z is.
      let written : byte ≡ bits_of I.UChar z = byte_stands state.objects memory state.running.registers machine.running.words tree z ready.in_step.running.words is in
      write_does tac plan slabs state machine (T.emit (Wrote (bits_of I.UChar z) ∷ []) state) (P.emit (Same (Wrote byte) ∷ []) machine)
      (nothing _ (record { owner = refl; descriptors = refl; at = refl; callers = refl; pools = refl; placed = refl }))
      (emits_in_step tac plan slabs state machine ready.in_step (Wrote (bits_of I.UChar z) ∷ []) (Same (Wrote byte) ∷ []) (ap (λ b. Wrote b ∷ []) written) refl)
      (Registers.Call site) (Number (pos (bits_of I.UChar z))) byte
      (narrow_stands tac.structs state.objects memory keeps ready.placed (Number (pos (bits_of I.UChar z))) byte (written ∙ sym (word-of_byte z) ∙ sym (word_of-value (pos (bits_of I.UChar z)))) tt) tt tt)
