-- States stay in step where registers, points, traces, input and what is paid change: a value and a word that stands for it are written, and
-- both go to one point.
use Rattle.std.proofs.Common.{◌≡◌, ℕ, zero, suc, ◌%◌, ◌^◌, ◌≤◌, Bool, true, false, if◌then◌else◌, List, [], ◌∷◌, ◌++◌, Option, Some, None, refl, sym, ap, subst, ◌∙◌, arith, append_assoc}
use Rattle.c_typed.specs.Types as Types
use Rattle.c_typed.specs.Types.{CType, Void, Integer, Pointer, Array, Struct}
use Rattle.c_typed.specs.Layouts.{StructDef}
use Rattle.slab_space.specs.Pools.{Pools}
use Rattle.slab_space.specs.Needs.{needs}
use Rattle.tac_ir.specs.declared.register.Register.{Register}
use Rattle.tac_ir.specs.Values as V
use Rattle.tac_ir.specs.Values.{OfHeap, OfGlobal, OfLiteral, OfActivation, Value, Number, NoAddress, Code, Address, Content, Absent, Untyped, Typed, Objects}
use Rattle.tac_ir.specs.Events.{TacEvent, Made, Crossed}
use Rattle.tac_ir.specs.Objects.{extent_of}
use Rattle.tac_ir.specs.Trees.{Registers, same_register, with_register}
use Rattle.tac_ir.specs.States as T
use Rattle.tac_ir.specs.Code.{Tac}
use Rattle.pool_ir.specs.Words.{Words, with_word}
use Rattle.pool_ir.specs.States as P
use Rattle.pool_ir.specs.States.{PoolEvent, Same}
use Rattle.pool_ir.specs.Memory.{frame_number, activations_of, number_at, slot_word}
use Rattle.pool_rewrite.specs.Plan.{Plan}
use Rattle.pool_rewrite.specs.Rewriting.{slot_of}
use Rattle.pool_rewrite.specs.Standing.{MemoryMap, Stands, WordsStand, ContentStands}
use Rattle.pool_simulation.specs.Regions.{Stacked, Regions}
use Rattle.pool_simulation.specs.Placed.{IsInside, AreInside}
use Rattle.pool_simulation.specs.Comparing.{made_in}
use Rattle.pool_simulation.specs.InStep.{address_in, memory_in, IsOld, ActivationStands, CallersStand, AllocationStands, InStep}
use Rattle.pool_simulation.proofs.Ranges.{number_by}
use Rattle.pool_simulation.proofs.LastingWords.{words_written, inside_written}
use Rattle.pool_simulation.specs.Serving.{code_of, SamePools, Effect, nothing, word_stored, object_placed, object_freed, caller_runs}
use Rattle.pool_simulation.proofs.Stepping.{Does, goes}
use Rattle.pool_simulation.proofs.PlannedCode.{same_more, made_more}

-- ---- traces

pub same_append : (trace events : List PoolEvent) → P.same (trace ++ events) ≡ P.same trace ++ P.same events
same_append [] events = refl
same_append (first ∷ trace) events = ap (λ (rest : List TacEvent). P.same_of first ++ rest) (same_append trace events) ∙ sym (append_assoc (P.same_of first) (P.same trace) (P.same events))

-- events that make no object of the heap
pub made_none : (trace events : List TacEvent) → made_in events ≡ [] → made_in (trace ++ events) ≡ made_in trace
made_none [] events none = none
made_none (Made site object size ∷ trace) events none = ap (λ (rest : List ℕ). size ∷ rest) (made_none trace events none)
made_none (first ∷ trace) events none = made_none trace events none

-- ---- what was made before

-- no number is given back
pub old_rises : (state next : T.State) → state.next_heap ≤ next.next_heap → state.next_activation ≤ next.next_activation → (value : Value) → IsOld state value → IsOld next value
old_rises state next heap activations (Address (OfHeap number) offset) old = omega (arith, heap, old)
old_rises state next heap activations (Address (OfActivation activation local) offset) old = omega (arith, activations, old)
old_rises state next heap activations (Address (OfGlobal number) offset) old = tt
old_rises state next heap activations (Address (OfLiteral number) offset) old = tt
old_rises state next heap activations (Number z) old = tt
old_rises state next heap activations NoAddress old = tt
old_rises state next heap activations (Code function) old = tt

pub old_written : (state : T.State) (registers : Registers) (to : Register) (value : Value) → ((register : Register) (held : Value) → registers register ≡ Some held → IsOld state held)
    → IsOld state value → (register : Register) (held : Value) → with_register to (Some value) registers register ≡ Some held → IsOld state held
old_written state registers to value all old register held is = by (same_register to register) is
  where
    by : (b : Bool) → (if b then Some value else registers register) ≡ Some held → IsOld state held
    by true is = let same : value ≡ held = cc in subst (IsOld state) same old
    by false is = all register held is

-- ---- activations that stand in other states

-- What stood for a value that was made before stands for it still.
pub record StillStands (tac : Tac) (state next : T.State) (memory memory' : MemoryMap) : Type 0 where
  pub words : (value : Value) (word : ℕ) → IsOld state value → Stands state.objects memory value word → Stands next.objects memory' value word
  pub inside : (value : Value) → IsOld state value → IsInside tac.structs state.objects value → IsInside tac.structs next.objects value
  pub old : (value : Value) → IsOld state value → IsOld next value

module _ (tac : Tac) (plan : Plan) (state next : T.State) (memory memory' : MemoryMap) (still : StillStands tac state next memory memory') where
  pub activation_still : (activation : T.Activation) (machine : P.Activation) → ActivationStands tac plan state memory activation machine → ActivationStands tac plan next memory' activation machine
  activation_still activation machine stands = record {
    owner = stands.owner;
    at = stands.at;
    kept = stands.kept;
    words = λ register value is. still.words value (machine.words register) (stands.old register value is) (stands.words register value is);
    inside = λ register value is. still.inside value (stands.old register value is) (stands.inside register value is);
    old = λ register value is. still.old value (stands.old register value is);
    long = stands.long;
  }

  pub callers_still : (callers : List (ℕ × T.Activation)) (others : List (ℕ × P.Activation)) → CallersStand tac plan state memory callers others → CallersStand tac plan next memory' callers others
  callers_still [] [] stand = stand
  callers_still [] (own ∷ others) stand = absurd stand
  callers_still (waiting ∷ callers) [] stand = absurd stand
  callers_still (waiting ∷ callers) (own ∷ others) stand = (stand.0, activation_still waiting.1 own.1 stand.1, callers_still callers others stand.2)

-- ---- memory that is read alike

-- how a scalar is read depends on no state
pub slot_word-same : (machine later : P.State) (c_type : CType) (number : ℕ) → slot_word later (slot_of c_type) number ≡ slot_word machine (slot_of c_type) number
slot_word-same machine later Void number = refl
slot_word-same machine later (Integer int_type) number = refl
slot_word-same machine later (Pointer target) number = refl
slot_word-same machine later (Array element count) number = refl
slot_word-same machine later (Struct tag) number = refl
slot_word-same machine later (Types.Function result parameters) number = refl

number_told : (machine : P.State) (address size : ℕ) → number_at machine address size ≡ number_by (frame_number (activations_of machine) address size) machine.globals machine.pools address size
number_told machine address size = by (frame_number (activations_of machine) address size) refl
  where
    by : (found : Option ℕ) → frame_number (activations_of machine) address size ≡ found
        → number_at machine address size ≡ number_by (frame_number (activations_of machine) address size) machine.globals machine.pools address size
    by None is = rw is refl
    by (Some number) is = rw is refl

pub number_alike : (machine later : P.State) → ((address size : ℕ) → frame_number (activations_of later) address size ≡ frame_number (activations_of machine) address size) → later.globals ≡ machine.globals
    → later.pools ≡ machine.pools → (address size : ℕ) → number_at later address size ≡ number_at machine address size
number_alike machine later frames globals pools address size =
    number_told later address size
    ∙ ap (λ (found : Option ℕ). number_by found later.globals later.pools address size) (frames address size)
    ∙ ap (λ (bytes : List ℕ). number_by (frame_number (activations_of machine) address size) bytes later.pools address size) globals
    ∙ ap (λ (heap : Pools). number_by (frame_number (activations_of machine) address size) machine.globals heap address size) pools
    ∙ sym (number_told machine address size)

pub content_alike : (structs : List StructDef) (objects : Objects) (tac : Tac) (plan : Plan) (state : T.State) (before machine later : P.State) → ((address size : ℕ) → number_at later address size ≡ number_at machine address size)
    → (object : V.Object) (content : Content) → ContentStands structs objects (memory_in tac plan state before) machine object content → ContentStands structs objects (memory_in tac plan state before) later object content
content_alike structs objects tac plan state before machine later numbers object Absent stands = tt
content_alike structs objects tac plan state before machine later numbers object (Untyped size) stands = tt
content_alike structs objects tac plan state before machine later numbers object (Typed c_type count held) stands = λ offset own value leaf is fit address at.
    let was = stands offset own value leaf is fit address at in
    (was.0, numbers _ _ ∙ was.1, subst (λ word. Stands objects (memory_in tac plan state before) value word) (sym (slot_word-same machine later own was.0)) was.2)

-- ---- frames that lie alike

pub stacked_alike : (running other : P.Activation) (callers : List (ℕ × P.Activation)) → other.start ≡ running.start → Stacked running callers → Stacked other callers
stacked_alike running other [] same stacked = same ∙ stacked
stacked_alike running other ((site, caller) ∷ callers) same stacked = (same ∙ stacked.0, stacked.1)

-- ---- maps of memory that are alike

pub same_memory : (tac : Tac) (plan : Plan) (state next : T.State) (machine later : P.State) → ((object : V.Object) → address_in tac plan next later object ≡ address_in tac plan state machine object)
    → ((object : V.Object) → extent_of tac.structs (next.objects object) ≡ extent_of tac.structs (state.objects object)) → memory_in tac plan next later ≡ memory_in tac plan state machine
same_memory tac plan state next machine later addresses extents = λ i. record {
  address = λ object. addresses object i;
  moved = λ object offset. offset;
  slot = λ object offset c_type. slot_of c_type;
  extent = λ object. extents object i;
}

-- ---- states that differ in registers, points, traces, input and what is paid

module _ (tac : Tac) (plan : Plan) (slabs : ℕ) (state : T.State) (machine : P.State) (step : InStep tac plan slabs state machine) where
  module _ (registers : Registers) (words : Words) (at at' : ℕ) (input input' : List ℕ) (trace : List TacEvent) (trace' : List PoolEvent) (paid paid' : ℕ) where
    abbrev next : T.State
    next = record state { running = record state.running { registers = registers; at = at }; input = input; trace = trace; paid = paid }

    abbrev later : P.State
    later = record machine { running = record machine.running { words = words; at = at' }; input = input'; trace = trace'; paid = paid' }

    addresses_alike : (object : V.Object) → address_in tac plan next later object ≡ address_in tac plan state machine object
    addresses_alike (OfHeap zero) = refl
    addresses_alike (OfHeap (suc number)) = refl
    addresses_alike (OfGlobal number) = refl
    addresses_alike (OfLiteral number) = refl
    addresses_alike (OfActivation activation local) = refl

    alike : memory_in tac plan next later ≡ memory_in tac plan state machine
    alike = same_memory tac plan state next machine later addresses_alike (λ object. refl)

    stays_old : (value : Value) → IsOld state value → IsOld next value
    stays_old = old_rises state next (omega arith) (omega arith)

    still : StillStands tac state next (memory_in tac plan state machine) (memory_in tac plan next later)
    still = record {
      words = λ value word old stands. subst (λ memory. Stands state.objects memory value word) (sym alike) stands;
      inside = λ value old inside. inside;
      old = stays_old;
    }

    allocation_alike : (number : ℕ) → AllocationStands tac plan state machine number → AllocationStands tac plan next later number
    allocation_alike number stands = record {
      address = stands.address;
      is = addresses_alike (OfHeap number) ∙ stands.is;
      object = stands.object;
      lives = stands.lives;
      begins = stands.begins;
      long = stands.long;
      told = stands.told;
    }

    abbrev regions_alike : Regions later
    regions_alike = record {
      globals = step.regions.globals;
      frames = stacked_alike machine.running later.running machine.callers refl step.regions.frames;
      below = step.regions.below;
      heap = step.regions.heap;
    }

    -- with words that stand for what registers hold, and traces that grew alike
    pub changed_in_step : WordsStand state.objects (memory_in tac plan state machine) registers words → AreInside tac.structs state.objects registers
        → ((register : Register) (value : Value) → registers register ≡ Some value → IsOld state value) → at' ≡ at → input' ≡ input → P.same trace' ≡ trace → made_in trace ≡ made_in state.trace → paid' ≡ paid
        → InStep tac plan slabs next later
    changed_in_step stand inside old same_at same_input same_trace same_made same_paid = record {
      running = record {
        owner = step.running.owner;
        at = same_at;
        kept = step.running.kept;
        words = subst (λ memory. WordsStand state.objects memory registers words) (sym alike) stand;
        inside = inside;
        old = λ register value is. stays_old value (old register value is);
        long = step.running.long;
      };
      callers = callers_still tac plan state next (memory_in tac plan state machine) (memory_in tac plan next later) still state.callers machine.callers step.callers;
      owned = step.owned;
      globals = step.globals;
      literals = step.literals;
      allocations = λ number there. allocation_alike number (step.allocations number there);
      contents = λ object. subst (λ memory. ContentStands tac.structs state.objects memory later object (state.objects object)) (sym alike)
          (content_alike tac.structs state.objects tac plan state machine machine later (number_alike machine later (λ address size. refl) refl refl) object (state.objects object) (step.contents object));
      inside = step.inside;
      old = λ object offset value is. stays_old value (step.old object offset value is);
      regions = regions_alike;
      low = step.low;
      slabs_are = step.slabs_are;
      needed = step.needed ∙ ap needs (sym same_made);
      statics = step.statics;
      next = step.next;
      input = same_input;
      trace = same_trace;
      paid = same_paid;
    }

  -- ---- with other traces, or other input

  pub emits_in_step : (events : List TacEvent) (events' : List PoolEvent) → P.same events' ≡ events → made_in events ≡ [] → InStep tac plan slabs (T.emit events state) (P.emit events' machine)
  emits_in_step events events' same none =
      changed_in_step state.running.registers machine.running.words state.running.at machine.running.at state.input machine.input (state.trace ++ events) (machine.trace ++ events') state.paid machine.paid
      step.running.words step.running.inside step.running.old step.running.at step.input
      (same_append machine.trace events' ∙ ap (λ (front : List TacEvent). front ++ P.same events') step.trace ∙ ap (λ (rest : List TacEvent). state.trace ++ rest) same)
      (made_none state.trace events none) step.paid

  pub takes_in_step : (input input' : List ℕ) → input' ≡ input → InStep tac plan slabs (record state { input = input }) (record machine { input = input' })
  takes_in_step input input' same =
      changed_in_step state.running.registers machine.running.words state.running.at machine.running.at input input' state.trace machine.trace state.paid machine.paid step.running.words step.running.inside
      step.running.old step.running.at same step.trace refl step.paid

  pub pays_in_step : (paid paid' : ℕ) → paid' ≡ paid → InStep tac plan slabs (record state { paid = paid }) (record machine { paid = paid' })
  pays_in_step paid paid' same =
      changed_in_step state.running.registers machine.running.words state.running.at machine.running.at state.input machine.input state.trace machine.trace paid paid' step.running.words step.running.inside
      step.running.old step.running.at step.input step.trace refl same

  -- ---- a register is written

  -- before the point behind is reached
  pub register_in_step : (to : Register) (value : Value) (word : ℕ) → Stands state.objects (memory_in tac plan state machine) value (word % 2 ^ 64) → IsInside tac.structs state.objects value → IsOld state value
      → InStep tac plan slabs (record state { running = record state.running { registers = with_register to (Some value) state.running.registers } })
      (record machine { running = record machine.running { words = with_word to word machine.running.words } })
  register_in_step to value word stands inside old =
      changed_in_step (with_register to (Some value) state.running.registers) (with_word to word machine.running.words) state.running.at machine.running.at state.input machine.input state.trace machine.trace state.paid
      machine.paid (words_written state.objects (memory_in tac plan state machine) state.running.registers machine.running.words to value word step.running.words stands)
      (inside_written tac.structs state.objects state.running.registers to value step.running.inside inside) (old_written state state.running.registers to value step.running.old old) step.running.at step.input
      step.trace refl step.paid

  -- ---- both go to one point

  pub goes_in_step : (at : ℕ) → InStep tac plan slabs (record state { running = record state.running { at = at }; trace = state.trace ++ Crossed state.running.at at ∷ []; paid = 0 })
      (record machine { running = record machine.running { at = at }; trace = machine.trace ++ Same (Crossed machine.running.at at) ∷ []; paid = 0 })
  goes_in_step at =
      changed_in_step state.running.registers machine.running.words at at state.input machine.input (state.trace ++ Crossed state.running.at at ∷ []) (machine.trace ++ Same (Crossed machine.running.at at) ∷ []) 0 0
      step.running.words step.running.inside step.running.old refl step.input
      (same_more machine.trace (Crossed machine.running.at at) ∙ ap (λ (front : List TacEvent). front ++ Crossed machine.running.at at ∷ []) step.trace
      ∙ ap (λ (from : ℕ). state.trace ++ Crossed from at ∷ []) step.running.at)
      (made_more state.trace (Crossed state.running.at at) refl) refl

-- ---- what points come to

same_pools : (machine : P.State) → SamePools machine machine
same_pools machine = record { owner = refl; descriptors = refl; at = refl; callers = refl; pools = refl; placed = refl }

pub joined_pools : (machine between after : P.State) → SamePools machine between → SamePools between after → SamePools machine after
joined_pools machine between after first more = record {
  owner = more.owner ∙ first.owner;
  descriptors = more.descriptors ∙ first.descriptors;
  at = more.at ∙ first.at;
  callers = more.callers ∙ first.callers;
  pools = more.pools ∙ first.pools;
  placed = more.placed ∙ first.placed;
}

pub joined_effect : (tac : Tac) (plan : Plan) (state : T.State) (machine between later : P.State) → Effect tac plan state machine between → SamePools between later → Effect tac plan state machine later
joined_effect tac plan state machine between later (nothing _ same) more = nothing later (joined_pools machine between later same more)
joined_effect tac plan state machine between later (word_stored address size word stored _ is same) more = word_stored address size word stored later is (joined_pools stored between later same more)
joined_effect tac plan state machine between later (object_placed site size bytes address pools _ at some takes is same) more =
    object_placed site size bytes address pools later at some takes is (joined_pools (record machine { pools = pools; placed = address ∷ machine.placed }) between later same more)
joined_effect tac plan state machine between later (object_freed site pointer number address pools _ at held start is same) more =
    object_freed site pointer number address pools later at held start is (joined_pools (record machine { pools = pools }) between later same more)
joined_effect tac plan state machine between later (caller_runs value site caller callers left _ at acted waits same) more =
    caller_runs value site caller callers left later at acted waits (joined_pools (record left { running = caller; callers = callers }) between later same more)

-- nothing is done with pools
pub no_effect : (tac : Tac) (plan : Plan) (state : T.State) (machine : P.State) → Effect tac plan state machine machine
no_effect tac plan state machine = nothing machine (same_pools machine)

module _ (tac : Tac) (plan : Plan) (slabs : ℕ) (before : T.State) (machine_before : P.State) (state : T.State) (machine : P.State) (effect : Effect tac plan before machine_before machine)
    (step : InStep tac plan slabs state machine) where
  pub go_to_does : (at : ℕ) → Does tac plan slabs before machine_before (T.go_to at state) (P.go_to (code_of tac plan) at machine)
  go_to_does at = goes at state machine step effect

  pub go_on_does : Does tac plan slabs before machine_before (T.go_on state) (P.go_on (code_of tac plan) machine)
  go_on_does =
      subst (λ (at : ℕ). Does tac plan slabs before machine_before (T.go_on state) (P.go_to (code_of tac plan) (suc at) machine)) (sym step.running.at) (go_to_does (suc state.running.at))

-- a value and a word that stands for it, modulo 2 ^ 64, are written
pub write_does : (tac : Tac) (plan : Plan) (slabs : ℕ) (before : T.State) (machine_before : P.State) (state : T.State) (machine : P.State) → Effect tac plan before machine_before machine
    → InStep tac plan slabs state machine → (to : Register) (value : Value) (word : ℕ) → Stands state.objects (memory_in tac plan state machine) value (word % 2 ^ 64) → IsInside tac.structs state.objects value
    → IsOld state value → Does tac plan slabs before machine_before (T.write to value state) (P.write (code_of tac plan) to word machine)
write_does tac plan slabs before machine_before state machine effect step to value word stands inside old =
    let later : P.State = record machine { running = record machine.running { words = with_word to word machine.running.words } } in
    let same : SamePools machine later = record { owner = refl; descriptors = refl; at = refl; callers = refl; pools = refl; placed = refl } in
    go_on_does tac plan slabs before machine_before (record state { running = record state.running { registers = with_register to (Some value) state.running.registers } }) later
    (joined_effect tac plan before machine_before machine later effect same) (register_in_step tac plan slabs state machine step to value word stands inside old)
