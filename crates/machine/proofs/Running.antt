-- A run, step by step.
use Rattle.std.proofs.Common.{◌≡◌, ℕ, suc, ◌+◌, ◌<◌, ◌^◌, Bool, if◌then◌else◌, List, [], ◌∷◌, ◌++◌, replicate, slice_get, map, Bor, Option, Some, None, refl, sym, ap, ◌∙◌, subst, arith}
use Rattle.std.specs.Option.{is_some, option_copied, option_map, MatchOption}
use Rattle.std.proofs.lemmas.Option.{slice_get-map}
use Rattle.run_theory.specs.Runs as runs
use Rattle.run_theory.specs.Runs.{Trace, output_of, Final, Move, To}
use Rattle.run_theory.specs.Moves.{then_move, moves}
use Rattle.image_form.specs.declared.image.Function.{Function}
use Rattle.image_form.specs.Form.{function_of}
use Rattle.pool_isa.specs.Machine.{Code, Activation, Heap, History, State, act, extra_of, first_heap, first_history, initial}
use Rattle.machine.specs.declared.ends.RunEnd.{RunEnd}
use Rattle.machine.specs.declared.ends.RunEnd.TheVariants as ends
use Rattle.machine.specs.declared.ends.Step.{Step}
use Rattle.machine.specs.declared.ends.Step.TheVariants.{On, Over}
use Rattle.machine.specs.Steps.{state_of, CallStack, activations_of, final_of, LeftAt, Halts, IsUndone, GoesOn, StepGives}
use Rattle.machine.specs.Run.{Ready, HaltsAt, BreaksOff, RunGives}
use Rattle.machine.proofs.Moves.{moves-suc, moves-more}

-- a step that goes on is no end
pub no_end : (result : Step) (end : RunEnd) → result ≡ On → result ≡ Over end → ⊥
no_end result end e f = absurd cc

-- a step comes to one end
pub same_end : (result : Step) (end other : RunEnd) → result ≡ Over end → result ≡ Over other → end ≡ other
same_end result end other e f = cc

-- what steps leave as it was
pub record Kept (old now : Ready) : Type 0 where
  pub code : now.code ≡ old.code
  pub limits : now.limits ≡ old.limits
  pub last : now.last ≡ old.last

pub same_ready : (old now : Ready) → Kept old now → now ≡ record old { activations = now.activations; heap = now.heap; spent = now.spent }
same_ready old now kept = λ i. record { code = kept.code i; limits = kept.limits i; activations = now.activations; heap = now.heap; spent = now.spent; last = kept.last i }

module _ (first old now : Ready) (same : now ≡ record old { activations = now.activations; heap = now.heap }) where
  pub spent_before : now.spent ≡ old.spent
  spent_before = ap (λ (m : Ready). m.spent) same

  pub still_kept : (spent : ℕ) → Kept first old → Kept first (record now { spent = spent })
  still_kept spent before = record { code = ap (λ (m : Ready). m.code) same ∙ before.code; limits = ap (λ (m : Ready). m.limits) same ∙ before.limits; last = ap (λ (m : Ready). m.last) same ∙ before.last }

module _ (first old now : Ready) (spent : ℕ) (same : now ≡ record old { activations = now.activations; spent = spent }) where
  pub kept_after : Kept first old → Kept first now
  kept_after before = record { code = ap (λ (m : Ready). m.code) same ∙ before.code; limits = ap (λ (m : Ready). m.limits) same ∙ before.limits; last = ap (λ (m : Ready). m.last) same ∙ before.last }

  pub heap_after : now.heap ≡ old.heap
  heap_after = ap (λ (m : Ready). m.heap) same

  pub spent_after : now.spent ≡ spent
  spent_after = ap (λ (m : Ready). m.spent) same

-- the extra bytes of `start`
pub first_extra : (extra : ℕ) (found : Option (Bor Function)) (functions : List Function) → option_copied found ≡ slice_get functions 0 → MatchOption found (extra ≡ 0) (λ start. extra ≡ start.now.extra) → extra ≡ extra_of (slice_get (map function_of functions) 0)
first_extra extra found functions is told = by found told ∙ ap (λ f. extra_of (option_map function_of f)) is ∙ ap extra_of (sym (slice_get-map function_of functions 0))
  where
    by : (f : Option (Bor Function)) → MatchOption f (extra ≡ 0) (λ start. extra ≡ start.now.extra) → extra ≡ extra_of (option_map function_of (option_copied f))
    by None e = e
    by (Some start) e = e

-- the first state
pub first_state : (code : Code) (slabs index extra : ℕ) (calls : CallStack) (heap : Heap) → calls ≡ record { innermost = record { function = 0; place = 0; operands = []; start = 2 ^ 40; bytes = replicate extra 0 }; callers = [] } → extra ≡ extra_of (slice_get code.functions 0)
    → heap ≡ first_heap code slabs index → (input : List ℕ) → initial code slabs index input ≡ state_of (activations_of calls) heap first_history input []
first_state code slabs index extra calls heap entered zeros heap_is input =
    let called = ap activations_of entered ∙ ap (λ n. record { function = 0; place = 0; operands = []; start = 2 ^ 40; bytes = replicate n 0 } ∷ []) zeros in
    λ i. record { activations = sym called i; heap = sym heap_is i; history = first_history; input = input; trace = [] }

module _ (code : Code) (state : State) (base : List ℕ) where
  -- after n steps the machine has these activations and this heap, and this is left and written
  abbrev pub Stands : ℕ → List Activation → Heap → Option (List ℕ) → Option (List ℕ) → Type 0
  Stands n activations heap left written = GoesOn (moves (act code) n state) base activations heap left written

  -- what a step from there did
  abbrev pub Steps : List Activation → Heap → Option (List ℕ) → Option (List ℕ) → Step → List Activation → Heap → Option (List ℕ) → Option (List ℕ) → Type 0
  Steps activations heap left written result activations' heap' left' written' =
      (history : History) (input : List ℕ) (trace : Trace) → left ≡ Some input → written ≡ Some (base ++ output_of trace)
      → StepGives (act code (state_of activations heap history input trace)) base (state_of activations heap history input trace) result activations' heap' left' written'

  pub stands_first : (n : ℕ) (left written : Option (List ℕ)) → n ≡ 0 → LeftAt base state left written → Stands n state.activations state.heap left written
  stands_first n left written none there = record { next = state; goes = ap (λ m. moves (act code) m state) none; frames = refl; heap_is = refl; left_at = there }

  module _ (n : ℕ) (activations : List Activation) (heap : Heap) (left written : Option (List ℕ)) (there : Stands n activations heap left written) where
    -- the step is one from the state that the run has come to
    gives_there : (result : Step) (activations' : List Activation) (heap' : Heap) (left' written' : Option (List ℕ)) → Steps activations heap left written result activations' heap' left' written'
        → StepGives (act code there.next) base there.next result activations' heap' left' written'
    gives_there result activations' heap' left' written' step =
        let next = there.next in
        let from = step next.history next.input next.trace there.left_at.0 there.left_at.1 in
        let framed = subst (λ (fs : List Activation). StepGives (act code (state_of fs heap next.history next.input next.trace)) base (state_of fs heap next.history next.input next.trace) result activations' heap' left' written') (sym there.frames) from in
        subst (λ (h : Heap). StepGives (act code (state_of next.activations h next.history next.input next.trace)) base (state_of next.activations h next.history next.input next.trace) result activations' heap' left' written') (sym there.heap_is) framed

    next_move : (move : Move State) → act code there.next ≡ move → moves (act code) (n + 1) state ≡ move
    next_move move e = ap (λ m. moves (act code) m state) (let f : n + 1 ≡ suc n = omega arith in f) ∙ moves-suc (act code) n state ∙ ap (then_move (act code)) there.goes ∙ e

    pub stands_next : (activations' : List Activation) (heap' : Heap) (left' written' : Option (List ℕ)) → Steps activations heap left written On activations' heap' left' written' → Stands (n + 1) activations' heap' left' written'
    stands_next activations' heap' left' written' step =
        let on = gives_there On activations' heap' left' written' step in
        record { next = on.next; goes = next_move (To on.next) on.goes; frames = on.frames; heap_is = on.heap_is; left_at = on.left_at }

    -- further steps have changed the activations alone
    pub stands_after : (m k : ℕ) (code' : Code) (activations' : List Activation) (heap' : Heap) → k ≡ n + m → code' ≡ code → heap' ≡ heap
        → ((history : History) (input : List ℕ) (trace : Trace) → moves (act code') m (state_of activations heap history input trace) ≡ To (state_of activations' heap history input trace)) → Stands k activations' heap' left written
    stands_after m k code' activations' heap' e same kept advances =
        let next = there.next in
        let after = state_of activations' heap next.history next.input next.trace in
        let coded = subst (λ (c : Code). moves (act c) m (state_of activations heap next.history next.input next.trace) ≡ To after) same (advances next.history next.input next.trace) in
        let framed = subst (λ (fs : List Activation). moves (act code) m (state_of fs heap next.history next.input next.trace) ≡ To after) (sym there.frames) coded in
        let stands = subst (λ (h : Heap). moves (act code) m (state_of next.activations h next.history next.input next.trace) ≡ To after) (sym there.heap_is) framed in
        record { next = after; goes = moves-more (act code) n m k state next (To after) e there.goes stands; frames = refl; heap_is = sym kept; left_at = there.left_at }

    module _ (steps made : ℕ) (lt : n < steps) where
      halts_at : (final : Final) (heap' : Heap) (left' written' : Option (List ℕ)) → made ≡ suc n → Halts (act code there.next) final base there.next heap' left' written' → HaltsAt code state base steps final made heap' left' written'
      halts_at final heap' left' written' e h =
          record { before = n; last = there.next; count = e; within = omega arith; comes = there.goes; halts = h.halts; heap_is = h.heap_is; left_at = h.left_at }

      abbrev breaks_off : (activations' : List Activation) (heap' : Heap) (left' written' : Option (List ℕ)) → made ≡ n → IsUndone base there.next activations' heap' left' written' → BreaksOff code state base steps made activations' heap' left' written'
      breaks_off activations' heap' left' written' e h = record {
        within = omega arith;
        comes = record { last = there.next; comes = ap (λ m. moves (act code) m state) e ∙ there.goes; frames = sym h.frames; heap_is = sym h.heap_is; left_at = h.left_at };
      }

      over : (end : RunEnd) (activations' : List Activation) (heap' : Heap) (left' written' : Option (List ℕ)) → made ≡ (if is_some (final_of end) then suc n else n) → StepGives (act code there.next) base there.next (Over end) activations' heap' left' written'
          → RunGives code state base steps end made activations' heap' left' written'
      over (ends.Ended status) acts heap' left' written' e h = halts_at (runs.Ended status) heap' left' written' e h
      over ends.Depth acts heap' left' written' e h = halts_at runs.DepthReached heap' left' written' e h
      over ends.HeapExhausted acts heap' left' written' e h = halts_at runs.HeapExhausted heap' left' written' e h
      over ends.IndexExhausted acts heap' left' written' e h = halts_at runs.IndexExhausted heap' left' written' e h
      over (ends.Trapped kind) acts heap' left' written' e h = halts_at (runs.Trapped kind) heap' left' written' e h
      over ends.StepsSpent acts heap' left' written' e h = absurd h
      over ends.ReadFault acts heap' left' written' e h = record { breaks_off = breaks_off acts heap' left' written' e h.1; reads = h.0 }
      over ends.WriteFault acts heap' left' written' e h = record { breaks_off = breaks_off acts heap' left' written' e h.1; writes = h.0 }
      over ends.OutOfMemory acts heap' left' written' e h = breaks_off acts heap' left' written' e h

      -- an end of the run is a step, too; what breaks it off is none
      pub gives_over : (end : RunEnd) (final : Bool) → final ≡ is_some (final_of end) → made ≡ (if final then suc n else n) → (activations' : List Activation) (heap' : Heap) (left' written' : Option (List ℕ)) → Steps activations heap left written (Over end) activations' heap' left' written'
          → RunGives code state base steps end made activations' heap' left' written'
      gives_over end final is count activations' heap' left' written' step =
          over end activations' heap' left' written' (count ∙ ap (λ b. if b then suc n else n) is) (gives_there (Over end) activations' heap' left' written' step)

    pub gives_spent : (made : ℕ) → made ≡ n → RunGives code state base n ends.StepsSpent made activations heap left written
    gives_spent made e = (e, record { last = there.next; comes = there.goes; frames = there.frames; heap_is = there.heap_is; left_at = there.left_at })

  -- the step's own clause, whatever it calls the code and where it led
  pub as_steps : (code' : Code) (activations : List Activation) (heap : Heap) (left written : Option (List ℕ)) (result result' : Step) (activations' : List Activation) (heap' : Heap) (left' written' : Option (List ℕ)) → code' ≡ code → result' ≡ result
      → ((history : History) (input base' : List ℕ) (trace : Trace) → left ≡ Some input → written ≡ Some (base' ++ output_of trace) → StepGives (act code' (state_of activations heap history input trace)) base' (state_of activations heap history input trace) result' activations' heap' left' written')
      → Steps activations heap left written result activations' heap' left' written'
  as_steps code' activations heap left written result result' activations' heap' left' written' e f clause history input trace there wrote =
      subst (λ r. StepGives (act code (state_of activations heap history input trace)) base (state_of activations heap history input trace) r activations' heap' left' written') f
      (subst (λ c. StepGives (act c (state_of activations heap history input trace)) base (state_of activations heap history input trace) result' activations' heap' left' written') e (clause history input base trace there wrote))
