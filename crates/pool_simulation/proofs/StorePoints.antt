-- Stores: the code with pools stores the word of what is stored where it is stored, and tells of the same access.
use Rattle.std.proofs.Common.{◌≡◌, ℕ, ◌+◌, ℤ, List, map, Option, Some, None, refl, sym, ap, subst, ◌∙◌}
use Rattle.run_theory.specs.Runs.{Move, To}
use Rattle.c_typed.specs.Types.{CType}
use Rattle.tac_ir.specs.Values.{Value, Number}
use Rattle.tac_ir.specs.Events.{WroteTo}
use Rattle.tac_ir.specs.Objects.{stands_at, holding, Reached, leads}
use Rattle.tac_ir.specs.declared.register.Register.{Register}
use Rattle.tac_ir.specs.Trees.{Registers, computes}
use Rattle.tac_ir.specs.States as T
use Rattle.tac_ir.specs.States.{given, store_content}
use Rattle.tac_ir.specs.Meaning.{value_of, store, execute}
use Rattle.tac_ir.specs.Code as O
use Rattle.tac_ir.specs.Code.{Path, Operand, IntegerOperand, PointerOperand, Tac}
use Rattle.pool_ir.specs.Code.{Slot, PoolCode}
use Rattle.pool_ir.specs.Words.{operand_word}
use Rattle.pool_ir.specs.States as P
use Rattle.pool_ir.specs.States.{Same}
use Rattle.pool_ir.specs.Memory.{with_number, access, slot_size, slot_number, path_address}
use Rattle.pool_ir.specs.Meaning.{stores}
use Rattle.pool_rewrite.specs.Plan.{Plan}
use Rattle.pool_rewrite.specs.Rewriting.{slot_of, path_of}
use Rattle.pool_simulation.specs.Placed.{IsInside}
use Rattle.pool_simulation.specs.InStep.{plan_for, memory_in, frame_for, IsOld}
use Rattle.pool_simulation.specs.Serving.{code_of, word_stored}
use Rattle.pool_simulation.proofs.Stepping.{Ready, Does, PointDoes}
use Rattle.pool_simulation.proofs.LeavesApart.{stands_in}
use Rattle.pool_simulation.proofs.Ranges.{can_write}
use Rattle.pool_simulation.proofs.PointWords.{store_found}
use Rattle.pool_simulation.proofs.InStepWords.{emits_in_step, go_on_does}
use Rattle.pool_simulation.proofs.ObjectPlaces.{place}
use Rattle.pool_simulation.proofs.SlotWords.{slot_number-same, slot_some}
use Rattle.pool_simulation.proofs.StoredInStep.{stored_in_step}
use Rattle.pool_simulation.proofs.LoadPoints.{GoesOrLost, given_goes, unless_goes, where_goes, does_as, same_mapped, made_write, scalar_within}

-- ---- operands

-- the value of an operand is an integer, or is in a register
operand_has : (Q : Value → Type 0) (registers : Registers) → ((z : ℤ) → Q (Number z)) → ((register : Register) (held : Value) → registers register ≡ Some held → Q held)
    → (operand : Operand) (value : Value) → value_of registers operand ≡ Some value → Q value
operand_has Q registers numbers held (PointerOperand register) value e = held register value e
operand_has Q registers numbers held (IntegerOperand tree) value e = by (computes registers tree) e
  where
    integer : Option ℤ → Option Value
    integer None = None
    integer (Some z) = Some (Number z)

    by : (o : Option ℤ) → integer o ≡ Some value → Q value
    by None e = absurd (cc)
    by (Some z) e = let same : Number z ≡ value = cc in subst Q same (numbers z)

-- ---- stores

-- where a range can be written, the word is stored there
stores_is : (code : PoolCode) (slot : Slot) (address word : ℕ) (machine later : P.State) → with_number machine address (slot_size slot) (slot_number machine slot word) ≡ Some later
    → stores code slot address word machine ≡ P.go_on code (P.emit (access WroteTo machine address (slot_size slot)) later)
stores_is code slot address word machine later written = rw written refl

stores_as : (code : PoolCode) (scalar : CType) (here address word : ℕ) (machine later : P.State) (told : List P.PoolEvent) → here ≡ address → with_number machine address (slot_size (slot_of scalar)) word ≡ Some later
    → access WroteTo machine address (slot_size (slot_of scalar)) ≡ told → stores code (slot_of scalar) here word machine ≡ P.go_on code (P.emit told later)
stores_as code scalar here address word machine later told same written tells =
    ap (λ (n : ℕ). stores code (slot_of scalar) n word machine) same
    ∙ stores_is code (slot_of scalar) address word machine later (ap (λ (n : ℕ). with_number machine address (slot_size (slot_of scalar)) n) (slot_number-same machine scalar word) ∙ written)
    ∙ ap (λ (events : List P.PoolEvent). P.go_on code (P.emit events later)) tells

store_goes : (tac : Tac) (state : T.State) (path : Path) (scalar : CType) (operand : Operand) → GoesOrLost (execute tac (T.around_of tac state.running) (O.Store path scalar operand) state)
store_goes tac state path scalar operand =
    let around = T.around_of tac state.running in
    given_goes (value_of state.running.registers operand) state (λ (value : Value). given (leads around state.running.registers path) state (store around scalar value state)) (λ (value : Value).
    given_goes (leads around state.running.registers path) state (store around scalar value state) (λ (reached : Reached).
    unless_goes (stands_at tac.structs scalar reached.inner.offset (state.objects reached.object)) state
    (T.go_on (T.emit (T.access WroteTo reached.object) (store_content reached.object (holding reached.inner.offset value (state.objects reached.object)) state))) tt))

module _ (tac : Tac) (plan : Plan) (slabs : ℕ) (state : T.State) (machine : P.State) (ready : Ready tac plan slabs state machine) (path : Path) (scalar : CType) (operand : Operand) where
  abbrev own : List O.LocalObject
  own = T.objects_of (T.function_of tac state.running.owner)

  abbrev at_path : ℕ
  at_path = path_address machine.running (path_of tac own (frame_for tac plan state.running.owner) path)

  abbrev word : ℕ
  word = operand_word machine.running.words operand

  abbrev does : Move P.State
  does = stores (code_of tac plan) (slot_of scalar) at_path word machine

  went_on : (next : T.State) → execute tac (T.around_of tac state.running) (O.Store path scalar operand) state ≡ To next → Does tac plan slabs state machine (To next) does
  went_on next e =
      let step = ready.in_step in
      let found = store_found tac (plan_for plan state.running.owner) own (frame_for tac plan state.running.owner) state.running.number (memory_in tac plan state machine) (λ object offset. refl) (code_of tac plan) state next machine ready.placed
      step.running.words step.running.inside ready.bases path scalar operand e in
      let reached = found.0 in
      let value = found.1 in
      let at = stands_in tac.structs scalar reached.inner.offset (state.objects reached.object) found.3 in
      let lies = place tac plan slabs state machine ready.stacked step reached.object found.2.there in
      let size = slot_size (slot_of scalar) in
      let within = scalar_within tac plan slabs state machine ready.placed reached.object scalar reached.inner.offset at in
      let address = lies.address + reached.inner.offset in
      let read = lies.reads reached.inner.offset size (slot_some scalar) within in
      let written = can_write machine address size word read.0 read.1 in
      let later = written.0 in
      let told = lies.tells WroteTo reached.inner.offset size (slot_some scalar) within in
      let events = T.access WroteTo reached.object in
      let same_place : found.2.address ≡ lies.address = cc (sym found.2.address_is ∙ lies.is) in
      let here : at_path ≡ address = found.2.path_is ∙ ap (λ (n : ℕ). n + reached.inner.offset) same_place in
      let done = stores_as (code_of tac plan) scalar at_path address word machine later (map Same events) here written.1 told in
      let inside = operand_has (IsInside tac.structs state.objects) state.running.registers (λ z. tt) step.running.inside operand value found.4 in
      let old = operand_has (IsOld state) state.running.registers (λ z. tt) step.running.old operand value found.4 in
      let stored = stored_in_step tac plan slabs state machine later step ready.placed reached.object scalar reached.inner.offset lies.address word value lies.is at found.5 inside old written.1 in
      let next_state = store_content reached.object (holding reached.inner.offset value (state.objects reached.object)) state in
      let after = emits_in_step tac plan slabs next_state later stored events (map Same events) (same_mapped events) (made_write reached.object) in
      let effect = word_stored address size word later (P.emit (map Same events) later) written.1 (record { owner = refl; descriptors = refl; at = refl; callers = refl; pools = refl; placed = refl }) in
      let went = go_on_does tac plan slabs state machine (T.emit events next_state) (P.emit (map Same events) later) effect after in
      does_as tac plan slabs state machine (T.go_on (T.emit events next_state)) (To next) does (P.go_on (code_of tac plan) (P.emit (map Same events) later)) found.6 done went

  pub store_does : PointDoes tac plan slabs state machine (O.Store path scalar operand)
  store_does = where_goes tac plan slabs state machine (execute tac (T.around_of tac state.running) (O.Store path scalar operand) state) does (store_goes tac state path scalar operand) went_on
