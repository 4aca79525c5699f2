-- A return: both sides go on behind the call, with the value in its register, and without the objects and the frame of what ended.
use Rattle.std.proofs.Common.{◌≡◌, ℕ, zero, suc, ◌+◌, ◌%◌, ◌^◌, ◌<◌, ◌≤◌, inl, inr, ◌==◌, Bool, true, false, if◌then◌else◌, List, [], ◌∷◌, ◌++◌, map, Option, Some, None, ℤ, refl, sym, ap, subst, ◌∙◌, arith, eq-eqb, ne_eqb}
use Rattle.std.proofs.lemmas.Bool.{false≢true, true≢false}
use Rattle.std.proofs.lemmas.Option.{same_Some}
use Rattle.run_theory.specs.Runs.{To}
use Rattle.slab_space.specs.Needs.{needs}
use Rattle.tac_ir.specs.declared.register.Local.{Local}
use Rattle.tac_ir.specs.declared.register.Register.{Register}
use Rattle.tac_ir.specs.declared.register.Register.TheVariants as R
use Rattle.tac_ir.specs.Values as V
use Rattle.tac_ir.specs.Values.{OfHeap, OfGlobal, OfLiteral, OfActivation, Value, Number, NoAddress, Code, Address, Absent}
use Rattle.tac_ir.specs.Events.{Left}
use Rattle.tac_ir.specs.Objects.{is_there, extent_of, held_at}
use Rattle.tac_ir.specs.Trees.{Registers, computes, same_register, with_register}
use Rattle.tac_ir.specs.States as T
use Rattle.tac_ir.specs.States.{given}
use Rattle.tac_ir.specs.Calls as K
use Rattle.tac_ir.specs.Calls.{closed}
use Rattle.tac_ir.specs.Meaning.{value_of}
use Rattle.tac_ir.specs.Code as O
use Rattle.tac_ir.specs.Code.{Operand, IntegerOperand, PointerOperand, Tac}
use Rattle.tac_ir.proofs.Activations.{IsStacked}
use Rattle.pool_ir.specs.Words.{with_word, operand_word}
use Rattle.pool_ir.specs.States as P
use Rattle.pool_ir.specs.States.{Same}
use Rattle.pool_ir.specs.Memory.{number_at}
use Rattle.pool_ir.specs.Meaning as M
use Rattle.pool_rewrite.specs.Plan.{Plan}
use Rattle.pool_rewrite.specs.Standing.{Stands}
use Rattle.pool_simulation.specs.Regions.{Stacked, Regions}
use Rattle.pool_simulation.specs.Placed.{IsInside}
use Rattle.pool_simulation.specs.InStep.{running_in, address_in, memory_in, IsOld, ActivationStands, IsOwned, AllocationStands, Fits, InStep}
use Rattle.pool_simulation.specs.Serving.{code_of, StandsAt, actions_leaving, caller_runs}
use Rattle.pool_simulation.proofs.Stepping.{Ready, Does, wrong, PointDoes}
use Rattle.pool_simulation.proofs.TreeWords.{operand_stands}
use Rattle.pool_simulation.proofs.FrameRanges.{next_behind}
use Rattle.pool_simulation.proofs.NarrowWords.{narrow_stands}
use Rattle.pool_simulation.proofs.PushedFrames.{popped_number, frames_low, pushed_local, stays_apart}
use Rattle.pool_simulation.proofs.StayingObjects.{Stays, PlaceStays, held_before, old_stays, stands_stays, inside_stays, activation_stays, callers_stay, content_stays}
use Rattle.pool_simulation.proofs.PlannedCode.{does_given, same_more, made_more}
use Rattle.pool_simulation.proofs.InStepWords.{same_memory, go_on_does}
use Rattle.pool_simulation.proofs.Actions.{with_pools, acted_addresses, actions_done}

-- ---- the value

-- what holds of each value that registers hold, and of integers, holds of an operand's
operand_holds : (holds : Value → Type 0) (registers : Registers) (operand : Operand) (value : Value) → ((z : ℤ) → holds (Number z)) → ((register : Register) (value : Value) → registers register ≡ Some value → holds value)
    → value_of registers operand ≡ Some value → holds value
operand_holds holds registers (PointerOperand register) value of_integers all e = all register value e
operand_holds holds registers (IntegerOperand tree) value of_integers all e = by (computes registers tree) e
  where
    integer : Option ℤ → Option Value
    integer None = None
    integer (Some z) = Some (Number z)

    by : (found : Option ℤ) → integer found ≡ Some value → holds value
    by None e = absurd (cc)
    by (Some z) e = subst holds (same_Some (Number z) value e) (of_integers z)

-- ---- frames

popped_stacked : (running own : P.Activation) (others : List (ℕ × P.Activation)) → running.start ≡ own.start → Stacked own others → Stacked running others
popped_stacked running own [] start stacked = start ∙ stacked
popped_stacked running own (waiting ∷ others) start stacked = (start ∙ stacked.0, stacked.1)

-- ---- both sides go on behind the call

module _ (tac : Tac) (plan : Plan) (slabs : ℕ) (before : T.State) (machine_before : P.State) (site own_site : ℕ) (caller : T.Activation) (own : P.Activation) (callers : List (ℕ × T.Activation)) (others : List (ℕ × P.Activation)) where
  abbrev state : T.State
  state = record before { callers = (site, caller) ∷ callers }

  abbrev machine : P.State
  machine = record machine_before { callers = (own_site, own) ∷ others }

  module _ (fits : Fits tac plan) (stacked : IsStacked tac state) (step : InStep tac plan slabs state machine) (value : Option Value) (word : ℕ)
      (stand : (given : Value) → value ≡ Some given → Stands state.objects (memory_in tac plan state machine) given (word % 2 ^ 64)) (inside : (given : Value) → value ≡ Some given → IsInside tac.structs state.objects given)
      (old : (given : Value) → value ≡ Some given → IsOld state given) where
    abbrev next : T.State
    next = record before {
      running = record caller { registers = with_register (R.Call site) value caller.registers };
      callers = callers;
      objects = closed before.running.number before.objects;
      trace = before.trace ++ Left ∷ [];
    }

    abbrev later : P.State
    later = record machine_before {
      running = record own { words = with_word (R.Call own_site) word own.words };
      callers = others;
      trace = machine_before.trace ++ Same Left ∷ [];
    }

    -- where objects lie
    stays : (object : V.Object) → Stays tac plan state next machine later object
    stays (OfHeap zero) = λ there. (refl, refl)
    stays (OfHeap (suc number)) = λ there. (refl, refl)
    stays (OfGlobal number) = λ there. (refl, refl)
    stays (OfLiteral number) = λ there. (refl, refl)
    stays (OfActivation activation local) = λ there. by (activation == before.running.number) refl there
      where
        by : (b : Bool) → (activation == before.running.number) ≡ b → is_there (if b then Absent else before.objects (OfActivation activation local)) ≡ true
            → (next.objects (OfActivation activation local) ≡ state.objects (OfActivation activation local))
            × (address_in tac plan next later (OfActivation activation local) ≡ address_in tac plan state machine (OfActivation activation local))
        by true same there = absurd (false≢true there)
        by false apart there = (
          ap (λ b. if b then Absent else before.objects (OfActivation activation local)) apart,
          sym (pushed_local tac plan before.running machine_before.running (caller ∷ map (λ (waiting : ℕ × T.Activation). waiting.1) callers) (own ∷ map (λ (waiting : ℕ × P.Activation). waiting.1) others) activation local
              (ne_eqb before.running.number activation (λ e. true≢false (sym (eq-eqb activation before.running.number (sym e)) ∙ apart)))),
        )

    place_stays : (value : Value) → IsOld state value → PlaceStays tac plan state next machine later value
    place_stays (Address object offset) is_old = stays object
    place_stays (Number z) is_old = tt
    place_stays NoAddress is_old = tt
    place_stays (Code function) is_old = tt

    same_heap : state.next_heap ≤ next.next_heap
    same_heap = omega arith

    same_made : state.next_activation ≤ next.next_activation
    same_made = omega arith

    -- the caller, before it gets the value
    waited : ActivationStands tac plan next (memory_in tac plan next later) caller own
    waited = activation_stays tac plan state next machine later place_stays same_heap same_made caller own step.callers.1

    running : ActivationStands tac plan next (memory_in tac plan next later) next.running later.running
    running = record {
      owner = waited.owner;
      at = waited.at;
      kept = waited.kept;
      words = λ register held is. words_by register held (same_register (R.Call site) register) refl is;
      inside = λ register held is. inside_by register held (same_register (R.Call site) register) is;
      old = λ register held is. old_by register held (same_register (R.Call site) register) is;
      long = waited.long;
    }
      where
        words_by : (register : Register) (held : Value) (b : Bool) → same_register (R.Call site) register ≡ b → (if b then value else caller.registers register) ≡ Some held
            → Stands next.objects (memory_in tac plan next later) held (with_word (R.Call own_site) word own.words register)
        words_by register held true same is =
            subst (λ w. Stands next.objects (memory_in tac plan next later) held w)
            (sym (ap (λ b. if b then word % 2 ^ 64 else own.words register) (ap (λ n. same_register (R.Call n) register) step.callers.0 ∙ same)))
            (stands_stays tac plan state next machine later place_stays same_heap same_made held (word % 2 ^ 64) (old held is) (stand held is))
        words_by register held false same is =
            subst (λ w. Stands next.objects (memory_in tac plan next later) held w)
            (sym (ap (λ b. if b then word % 2 ^ 64 else own.words register) (ap (λ n. same_register (R.Call n) register) step.callers.0 ∙ same)))
            (waited.words register held is)

        inside_by : (register : Register) (held : Value) (b : Bool) → (if b then value else caller.registers register) ≡ Some held → IsInside tac.structs next.objects held
        inside_by register held true is = inside_stays tac plan state next machine later place_stays same_heap same_made held (old held is) (inside held is)
        inside_by register held false is = waited.inside register held is

        old_by : (register : Register) (held : Value) (b : Bool) → (if b then value else caller.registers register) ≡ Some held → IsOld next held
        old_by register held true is = old_stays tac plan state next machine later place_stays same_heap same_made held (old held is)
        old_by register held false is = waited.old register held is

    owned : (activation : ℕ) (local : Local) → is_there (next.objects (OfActivation activation local)) ≡ true → IsOwned tac (running_in next) activation local
    owned activation local there = by (activation == before.running.number) refl there
      where
        left_by : (activation == before.running.number) ≡ false → IsOwned tac (running_in state) activation local → IsOwned tac (running_in next) activation local
        left_by apart (inl here) = absurd (true≢false (sym (eq-eqb activation before.running.number (sym here.0)) ∙ apart))
        left_by apart (inr more) = more

        by : (b : Bool) → (activation == before.running.number) ≡ b → is_there (if b then Absent else before.objects (OfActivation activation local)) ≡ true → IsOwned tac (running_in next) activation local
        by true same there = absurd (false≢true there)
        by false apart there = left_by apart (step.owned activation local there)

    contents_reads : (object : V.Object) (address offset width number : ℕ) → is_there (next.objects object) ≡ true → address_in tac plan state machine object ≡ Some address → offset < extent_of tac.structs (state.objects object) → 1 ≤ width
        → number_at machine (address + offset) width ≡ Some number → number_at later (address + offset) width ≡ Some number
    contents_reads object address offset width number there is within some e =
        popped_number machine later own_site own refl refl refl refl refl refl (address + offset) width (stays_apart tac plan slabs state machine stacked step object address offset there is within) some ∙ e

    allocations : (number : ℕ) → is_there (next.objects (OfHeap number)) ≡ true → AllocationStands tac plan next later number
    allocations number there =
        let was = step.allocations number there in
        record {
          address = was.address;
          is = (stays (OfHeap number) there).1 ∙ was.is;
          object = was.object;
          lives = was.lives;
          begins = was.begins;
          long = was.long;
          told = was.told;
        }

    regions : Regions later
    regions = record {
      globals = step.regions.globals;
      frames = popped_stacked later.running own others refl step.regions.frames.1;
      below = omega (arith, next_behind own, step.regions.frames.0, step.regions.below);
      heap = step.regions.heap;
    }

    held : (object : V.Object) (offset : ℕ) (value : Value) → held_at offset (next.objects object) ≡ Some value → held_at offset (state.objects object) ≡ Some value
    held object offset value is = held_before tac plan state next machine later object offset value (stays object) is

    trace : P.same later.trace ≡ next.trace
    trace = same_more machine_before.trace Left ∙ ap (λ trace. trace ++ Left ∷ []) step.trace

    pub returned : InStep tac plan slabs next later
    unfolding regions
    returned = record {
      running = running;
      callers = callers_stay tac plan state next machine later place_stays same_heap same_made callers others step.callers.2;
      owned = owned;
      globals = step.globals;
      literals = step.literals;
      allocations = allocations;
      contents = λ object. content_stays tac plan state next machine later place_stays same_heap same_made object (stays object) (step.old object) (contents_reads object) (step.contents object);
      inside = λ object offset value is.
          let was = held object offset value is in
          inside_stays tac plan state next machine later place_stays same_heap same_made value (step.old object offset value was) (step.inside object offset value was);
      old = λ object offset value is. old_stays tac plan state next machine later place_stays same_heap same_made value (step.old object offset value (held object offset value is));
      regions = regions;
      low = frames_low tac plan next (memory_in tac plan next later) callers later.running others fits
          (callers_stay tac plan state next machine later place_stays same_heap same_made callers others step.callers.2) regions.frames;
      slabs_are = step.slabs_are;
      needed = step.needed ∙ ap needs (sym (made_more before.trace Left refl));
      statics = step.statics;
      next = step.next;
      input = step.input;
      trace = trace;
      paid = step.paid;
    }

-- ---- the point

-- what is given back, by what waits, once the actions at leaving are done
leaves_by : (tac : Tac) (plan : Plan) (slabs : ℕ) (operand : Option Operand) (origin : P.State) (before : T.State) (machine_before : P.State) (value : Option Value) (word : ℕ) (callers : List (ℕ × T.Activation))
    (others : List (ℕ × P.Activation)) → StandsAt tac (record before { callers = callers }) (O.Return operand) → Fits tac plan → IsStacked tac (record before { callers = callers })
    → InStep tac plan slabs (record before { callers = callers }) (record machine_before { callers = others })
    → P.acts (code_of tac plan) (actions_leaving tac plan origin) origin To ≡ To (record machine_before { callers = others })
    → ((given : Value) → value ≡ Some given
    → Stands before.objects (memory_in tac plan (record before { callers = callers }) (record machine_before { callers = others })) given (word % 2 ^ 64) × IsInside tac.structs before.objects given × IsOld before given)
    → Does tac plan slabs (record before { callers = callers }) origin (K.leave value (record before { callers = callers })) (M.back (code_of tac plan) word (record machine_before { callers = others }))
leaves_by tac plan slabs operand origin before machine_before value word [] others at fits stacked step acted good = wrong _ (record before { callers = [] }) _ tt
leaves_by tac plan slabs operand origin before machine_before value word (waiting ∷ callers) [] at fits stacked step acted good = absurd step.callers
leaves_by tac plan slabs operand origin before machine_before value word ((site, caller) ∷ callers) ((own_site, own) ∷ others) at fits stacked step acted good =
    let left : P.State = record machine_before { callers = (own_site, own) ∷ others } in
    let later : P.State = record machine_before { running = record own { words = with_word (R.Call own_site) word own.words }; callers = others; trace = machine_before.trace ++ Same Left ∷ [] } in
    let effect = caller_runs operand own_site own others left later at acted refl (record { owner = refl; descriptors = refl; at = refl; callers = refl; pools = refl; placed = refl }) in
    go_on_does tac plan slabs (record before { callers = (site, caller) ∷ callers }) origin _ later effect
    (returned tac plan slabs before machine_before site own_site caller own callers others fits stacked step value word (λ given is. (good given is).0) (λ given is. (good given is).1)
    (λ given is. (good given is).2))

module _ (tac : Tac) (plan : Plan) (slabs : ℕ) (state : T.State) (machine : P.State) (ready : Ready tac plan slabs state machine) (operand : Option Operand)
    (at : StandsAt tac state (O.Return operand)) where
  leave_does : (value : Option Value) (word : ℕ)
      → ((given : Value) → value ≡ Some given → Stands state.objects (memory_in tac plan state machine) given word × IsInside tac.structs state.objects given × IsOld state given)
      → Does tac plan slabs state machine (K.leave value state) (M.leave (code_of tac plan) word machine)
  leave_does value word good =
      let acted = actions_done tac plan slabs ready.kinds state ready.stacked (actions_leaving tac plan machine) machine ready.in_step (ready.serving.leaves operand at) in
      let left = with_pools acted.descriptors acted.pools acted.trace machine in
      let alike = same_memory tac plan state state machine left (acted_addresses tac plan state machine acted.descriptors acted.pools acted.trace) (λ object. refl) in
      subst (Does tac plan slabs state machine (K.leave value state)) (sym (acted.goes (M.back (code_of tac plan) word)))
      (leaves_by tac plan slabs operand machine state left value word state.callers machine.callers at ready.fits ready.stacked acted.in_step (acted.goes To)
      (λ given is. let one = good given is in (subst (λ memory. Stands state.objects memory given (word % 2 ^ 64)) (sym alike) (narrow_stands tac.structs state.objects (memory_in tac plan state machine) (λ object offset. refl) ready.placed given word one.0 one.1), one.1, one.2)))

  of_operand : (own : Operand) → Does tac plan slabs state machine (given (value_of state.running.registers own) state (λ value. K.leave (Some value) state))
      (M.leave (code_of tac plan) (operand_word machine.running.words own) machine)
  of_operand own =
      does_given tac plan slabs machine (value_of state.running.registers own) state (λ value. K.leave (Some value) state) (M.leave (code_of tac plan) (operand_word machine.running.words own) machine)
      (λ value is. leave_does (Some value) (operand_word machine.running.words own) (λ given same. good value given is (same_Some value given same)))
    where
      good : (value given : Value) → value_of state.running.registers own ≡ Some value → value ≡ given
          → Stands state.objects (memory_in tac plan state machine) given (operand_word machine.running.words own) × IsInside tac.structs state.objects given × IsOld state given
      good value given is same =
          let found : value_of state.running.registers own ≡ Some given = is ∙ ap Some same in (
            operand_stands state.objects (memory_in tac plan state machine) state.running.registers machine.running.words own given ready.in_step.running.words found,
            operand_holds (IsInside tac.structs state.objects) state.running.registers own given (λ z. tt) ready.in_step.running.inside found,
            operand_holds (IsOld state) state.running.registers own given (λ z. tt) ready.in_step.running.old found,
          )

  by_operand : (own : Option Operand) → PointDoes tac plan slabs state machine (O.Return own)
  by_operand None = leave_does None 0 (λ given is. absurd (none_given given is))
    where
      none_given : (given : Value) → None ≡ Some given → ⊥
      none_given given is = cc
  by_operand (Some own) = of_operand own

  pub return_does : PointDoes tac plan slabs state machine (O.Return operand)
  return_does = by_operand operand
