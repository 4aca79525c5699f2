-- Loads: the code with pools loads a word that stands for what is loaded, and tells of the same access.
use Rattle.std.proofs.Common.{◌≡◌, ℕ, ◌+◌, ◌^◌, ◌≤◌, Bool, true, false, List, [], ◌∷◌, map, Option, Some, None, refl, sym, ap, subst, ◌∙◌}
use Rattle.std.specs.Prelude.{⊤}
use Rattle.run_theory.specs.Runs.{Move, To, Halt, IsWrong}
use Rattle.c_typed.specs.Types.{CType}
use Rattle.tac_ir.specs.declared.register.Register.{Register}
use Rattle.tac_ir.specs.Values as V
use Rattle.tac_ir.specs.Values.{OfHeap, OfGlobal, OfLiteral, OfActivation, Value}
use Rattle.tac_ir.specs.Events.{TacEvent, ReadFrom, WroteTo}
use Rattle.tac_ir.specs.Objects.{is_there, extent_of, fits, stands_at, held_at, Reached, leads}
use Rattle.tac_ir.specs.States as T
use Rattle.tac_ir.specs.States.{given, unless_lost}
use Rattle.tac_ir.specs.Meaning.{load, execute}
use Rattle.tac_ir.specs.Code as O
use Rattle.tac_ir.specs.Code.{Path, Tac}
use Rattle.pool_ir.specs.Code.{Slot, PoolCode}
use Rattle.pool_ir.specs.States as P
use Rattle.pool_ir.specs.States.{Same}
use Rattle.pool_ir.specs.Memory.{number_at, access, slot_size, slot_word, path_address}
use Rattle.pool_ir.specs.Meaning.{loads}
use Rattle.pool_rewrite.specs.Plan.{Plan}
use Rattle.pool_rewrite.specs.Rewriting.{slot_of, path_of}
use Rattle.pool_rewrite.specs.Standing.{Stands, ContentStands}
use Rattle.pool_simulation.specs.Placed.{Placed}
use Rattle.pool_simulation.specs.Comparing.{made_in}
use Rattle.pool_simulation.specs.InStep.{plan_for, address_in, memory_in, frame_for, InStep}
use Rattle.pool_simulation.specs.Serving.{code_of, nothing}
use Rattle.pool_simulation.proofs.Stepping.{Ready, Does, wrong, PointDoes}
use Rattle.pool_simulation.proofs.LeavesApart.{StandsIn, stands_in, leaf_within}
use Rattle.pool_simulation.proofs.PointWords.{load_found}
use Rattle.pool_simulation.proofs.InStepWords.{emits_in_step, write_does}
use Rattle.pool_simulation.proofs.ObjectPlaces.{place}
use Rattle.pool_simulation.proofs.NarrowWords.{narrow_stands}
use Rattle.pool_simulation.proofs.SlotWords.{slot_some}
use Rattle.pool_simulation.proofs.StoredInStep.{exact_there}

-- ---- points that go on or are lost

-- a move ends a run only where it is lost
abbrev pub GoesOrLost : Move T.State → Type 0
GoesOrLost (To next) = ⊤
GoesOrLost (Halt final last) = IsWrong final

pub given_goes : {A : Type 0} (found : Option A) (state : T.State) (next : A → Move T.State) → ((a : A) → GoesOrLost (next a)) → GoesOrLost (given found state next)
given_goes None state next all = tt
given_goes (Some a) state next all = all a

pub unless_goes : (holds : Bool) (state : T.State) (next : Move T.State) → GoesOrLost next → GoesOrLost (unless_lost holds state next)
unless_goes true state next all = all
unless_goes false state next all = tt

-- such a point has to be looked at only where it goes on
pub where_goes : (tac : Tac) (plan : Plan) (slabs : ℕ) (state : T.State) (machine : P.State) (move : Move T.State) (does : Move P.State) → GoesOrLost move → ((next : T.State) → move ≡ To next → Does tac plan slabs state machine (To next) does) → Does tac plan slabs state machine move does
where_goes tac plan slabs state machine (To next) does is goes_on = goes_on next refl
where_goes tac plan slabs state machine (Halt final last) does is goes_on = wrong final last does is

-- the same by other names
pub does_as : (tac : Tac) (plan : Plan) (slabs : ℕ) (state : T.State) (machine : P.State) (move other : Move T.State) (does done : Move P.State) → move ≡ other → does ≡ done → Does tac plan slabs state machine move done → Does tac plan slabs state machine other does
does_as tac plan slabs state machine move other does done same also went = subst (λ (m : Move T.State). Does tac plan slabs state machine m does) same (subst (Does tac plan slabs state machine move) (sym also) went)

-- ---- what is told of accesses

pub same_mapped : (events : List TacEvent) → P.same (map Same events) ≡ events
same_mapped [] = refl
same_mapped (event ∷ events) = ap (λ (rest : List TacEvent). event ∷ rest) (same_mapped events)

pub made_read : (object : V.Object) → made_in (T.access ReadFrom object) ≡ []
made_read (OfHeap number) = refl
made_read (OfGlobal number) = refl
made_read (OfLiteral number) = refl
made_read (OfActivation activation local) = refl

pub made_write : (object : V.Object) → made_in (T.access WroteTo object) ≡ []
made_write (OfHeap number) = refl
made_write (OfGlobal number) = refl
made_write (OfLiteral number) = refl
made_write (OfActivation activation local) = refl

-- ---- scalars in objects that are there

-- a scalar that stands in an object ends within it
pub scalar_within : (tac : Tac) (plan : Plan) (slabs : ℕ) (state : T.State) (machine : P.State) → Placed tac.structs (memory_in tac plan state machine) state.objects → (object : V.Object) (scalar : CType) (offset : ℕ)
    → StandsIn tac.structs scalar offset (state.objects object) → offset + slot_size (slot_of scalar) ≤ extent_of tac.structs (state.objects object)
scalar_within tac plan slabs state machine placed object scalar offset at =
    let there = placed.there object (ap is_there at.is) in
    let exact = exact_there tac at.c_type scalar at.count offset there.0 at.leaf (subst (λ (n : ℕ). there.0 + n ≤ 2 ^ 46) (ap (extent_of tac.structs) at.is) there.3) in
    subst (λ (n : ℕ). offset + slot_size (slot_of scalar) ≤ n) (sym (ap (extent_of tac.structs) at.is)) (leaf_within tac.structs at.c_type at.count offset scalar exact at.leaf)

-- what stands in the bytes of a scalar that an object holds
pub scalar_stands : (tac : Tac) (plan : Plan) (slabs : ℕ) (state : T.State) (machine : P.State) → InStep tac plan slabs state machine → (object : V.Object) (scalar : CType) (offset address : ℕ) (value : Value)
    → address_in tac plan state machine object ≡ Some address → StandsIn tac.structs scalar offset (state.objects object) → held_at offset (state.objects object) ≡ Some value → fits scalar value ≡ true
    → (number : ℕ) × (number_at machine (address + offset) (slot_size (slot_of scalar)) ≡ Some number) × Stands state.objects (memory_in tac plan state machine) value (slot_word machine (slot_of scalar) number)
scalar_stands tac plan slabs state machine in_step object scalar offset address value is at held fit =
    let stand = subst (ContentStands tac.structs state.objects (memory_in tac plan state machine) machine object) at.is (in_step.contents object) in
    stand offset scalar value at.leaf (ap (held_at offset) (sym at.is) ∙ held) fit address is

-- ---- loads

-- where a range is readable, it is loaded
pub loads_is : (code : PoolCode) (to : Register) (slot : Slot) (address number : ℕ) (machine : P.State) → number_at machine address (slot_size slot) ≡ Some number
    → loads code to slot address machine ≡ P.write code to (slot_word machine slot number) (P.emit (access ReadFrom machine address (slot_size slot)) machine)
loads_is code to slot address number machine read = rw read refl

load_goes : (tac : Tac) (state : T.State) (to : Register) (scalar : CType) (path : Path) → GoesOrLost (execute tac (T.around_of tac state.running) (O.Load to scalar path) state)
load_goes tac state to scalar path =
    let around = T.around_of tac state.running in
    given_goes (leads around state.running.registers path) state (load around to scalar state) (λ (reached : Reached).
    let content = state.objects reached.object in
    let after = T.emit (T.access ReadFrom reached.object) state in
    unless_goes (stands_at tac.structs scalar reached.inner.offset content) state
    (given (held_at reached.inner.offset content) state (λ value. unless_lost (fits scalar value) state (T.write to value after)))
    (given_goes (held_at reached.inner.offset content) state (λ value. unless_lost (fits scalar value) state (T.write to value after))
    (λ (value : Value). unless_goes (fits scalar value) state (T.write to value after) tt)))

module _ (tac : Tac) (plan : Plan) (slabs : ℕ) (state : T.State) (machine : P.State) (ready : Ready tac plan slabs state machine) (to : Register) (scalar : CType) (path : Path) where
  abbrev own : List O.LocalObject
  own = T.objects_of (T.function_of tac state.running.owner)

  abbrev at_path : ℕ
  at_path = path_address machine.running (path_of tac own (frame_for tac plan state.running.owner) path)

  abbrev does : Move P.State
  does = loads (code_of tac plan) to (slot_of scalar) at_path machine

  loaded : (next : T.State) → execute tac (T.around_of tac state.running) (O.Load to scalar path) state ≡ To next → Does tac plan slabs state machine (To next) does
  loaded next e =
      let step = ready.in_step in
      let found = load_found tac (plan_for plan state.running.owner) own (frame_for tac plan state.running.owner) state.running.number (memory_in tac plan state machine) (λ object offset. refl) (code_of tac plan) state next machine ready.placed
      step.running.words step.running.inside ready.bases to scalar path e in
      let reached = found.0 in
      let value = found.1 in
      let at = stands_in tac.structs scalar reached.inner.offset (state.objects reached.object) found.3 in
      let lies = place tac plan slabs state machine ready.stacked step reached.object found.2.there in
      let read = scalar_stands tac plan slabs state machine step reached.object scalar reached.inner.offset lies.address value lies.is at found.4 found.5 in
      let within = scalar_within tac plan slabs state machine ready.placed reached.object scalar reached.inner.offset at in
      let size = slot_size (slot_of scalar) in
      let told = lies.tells ReadFrom reached.inner.offset size (slot_some scalar) within in
      let events = T.access ReadFrom reached.object in
      let word = slot_word machine (slot_of scalar) read.0 in
      let same_place : found.2.address ≡ lies.address = cc (sym found.2.address_is ∙ lies.is) in
      let here : at_path ≡ lies.address + reached.inner.offset = found.2.path_is ∙ ap (λ (n : ℕ). n + reached.inner.offset) same_place in
      let done : does ≡ P.write (code_of tac plan) to word (P.emit (map Same events) machine) =
      ap (λ (n : ℕ). loads (code_of tac plan) to (slot_of scalar) n machine) here
      ∙ loads_is (code_of tac plan) to (slot_of scalar) (lies.address + reached.inner.offset) read.0 machine read.1
      ∙ ap (λ (happened : List P.PoolEvent). P.write (code_of tac plan) to word (P.emit happened machine)) told in
      let after = emits_in_step tac plan slabs state machine step events (map Same events) (same_mapped events) (made_read reached.object) in
      let wrote = write_does tac plan slabs state machine (T.emit events state) (P.emit (map Same events) machine)
      (nothing _ (record { owner = refl; descriptors = refl; at = refl; callers = refl; pools = refl; placed = refl })) after to value word
      (narrow_stands tac.structs state.objects (memory_in tac plan state machine) (λ object offset. refl) ready.placed value word read.2 (step.inside reached.object reached.inner.offset value found.4)) (step.inside reached.object reached.inner.offset value found.4)
      (step.old reached.object reached.inner.offset value found.4) in
      does_as tac plan slabs state machine (T.write to value (T.emit events state)) (To next) does (P.write (code_of tac plan) to word (P.emit (map Same events) machine)) found.6 done wrote

  pub load_does : PointDoes tac plan slabs state machine (O.Load to scalar path)
  load_does = where_goes tac plan slabs state machine (execute tac (T.around_of tac state.running) (O.Load to scalar path) state) does (load_goes tac state to scalar path) loaded
