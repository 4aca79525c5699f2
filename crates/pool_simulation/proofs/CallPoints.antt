-- A call: both sides enter the same function, or end at the greatest depth.
use Rattle.std.proofs.Common.{◌≡◌, ℕ, zero, suc, ◌+◌, ◌*◌, ◌/◌, ◌%◌, ◌^◌, ◌<◌, ◌≤◌, ◌⊎◌, inl, inr, ◌==◌, Bool, true, false, ◌&&◌, if◌then◌else◌, List, [], ◌∷◌, ◌++◌, length, map, Option, Some, None, refl, sym, ap, subst, ◌∙◌, arith, eqb-true, eq-eqb, ne_eqb, ltb-true}
use Rattle.std.specs.Prelude.{slice_get, nat_lt}
use Rattle.std.proofs.lemmas.Bool.{false≢true}
use Rattle.std.proofs.lemmas.List.{length-replicate, length-map}
use Rattle.std.proofs.lemmas.Option.{same_Some}
use Rattle.run_theory.specs.Runs.{DepthReached, Move, To, Halt}
use Rattle.c_typed.specs.Types.{CType, same_type}
use Rattle.c_typed.specs.Layouts.{StructDef}
use Rattle.slab_space.specs.Needs.{needs}
use Rattle.tac_ir.specs.declared.register.Local.{Local}
use Rattle.tac_ir.specs.declared.register.Local.TheVariants as L
use Rattle.tac_ir.specs.declared.register.Register.{Register}
use Rattle.tac_ir.specs.declared.register.Register.TheVariants as R
use Rattle.tac_ir.specs.Values as V
use Rattle.tac_ir.specs.Values.{OfHeap, OfGlobal, OfLiteral, OfActivation, same_local, same_object, Value, Number, NoAddress, Code, Address, Typed, Objects}
use Rattle.tac_ir.specs.Events.{Entered}
use Rattle.tac_ir.specs.Layouts.{Inner}
use Rattle.tac_ir.specs.Objects.{Surroundings, is_there, extent_of, held_at, whole, own_type}
use Rattle.tac_ir.specs.Trees.{Registers, same_register}
use Rattle.tac_ir.specs.States as T
use Rattle.tac_ir.specs.States.{InFunction}
use Rattle.tac_ir.specs.Calls as K
use Rattle.tac_ir.specs.Calls.{opened, all_held, greatest_depth, has_type}
use Rattle.tac_ir.specs.Code as O
use Rattle.tac_ir.specs.Code.{Callee, Known, Through, LocalObject, Function, Tac}
use Rattle.tac_ir.proofs.Activations.{IsStacked}
use Rattle.pool_ir.specs.Code as C
use Rattle.pool_ir.specs.Code.{FrameLayout}
use Rattle.pool_ir.specs.Frames.{objects_start}
use Rattle.pool_ir.specs.Words.{Words}
use Rattle.pool_ir.specs.States as P
use Rattle.pool_ir.specs.Meaning as M
use Rattle.pool_ir.specs.Memory.{activations_of}
use Rattle.pool_rewrite.specs.Plan.{Plan}
use Rattle.pool_rewrite.specs.Rewriting.{function_of, signature_of, callee_of}
use Rattle.pool_rewrite.specs.Standing.{MemoryMap, Stands, WordsStand, ContentStands}
use Rattle.pool_simulation.specs.Regions.{Regions, frame_end}
use Rattle.pool_simulation.specs.Placed.{KeepsOffsets, Placed, IsInside}
use Rattle.pool_simulation.specs.InStep.{plan_for, frame_for, running_in, address_in, memory_in, IsOld, ActivationStands, CallersStand, IsOwned, IsOf, AllocationStands, greatest_frame, Fits, InStep}
use Rattle.pool_simulation.specs.Serving.{code_of, StandsAt, passed_for, entered}
use Rattle.pool_simulation.proofs.Stepping.{op_for, Ready, Does, enters, ends, wrong, PointDoes}
use Rattle.pool_simulation.proofs.PointWords.{named_stands, AllStand, none, more, arguments_stand}
use Rattle.pool_simulation.proofs.NarrowWords.{narrow_stands}
use Rattle.pool_simulation.proofs.PushedFrames.{number_frame, pushed_number, pushed_local, owned_made}
use Rattle.pool_simulation.proofs.StayingObjects.{nothing_stands, held_there, Stays, PlaceStays, old_stays, stands_stays, inside_stays, activation_stays, callers_stay, content_stays}
use Rattle.pool_simulation.proofs.PlannedCode.{function_at, does_given, does_unless, same_more, made_more}
use Rattle.pool_simulation.proofs.PlannedCalls.{same_signature, of_signature_is, call_is}

-- ---- the objects of a new activation

-- it is none of this activation
abbrev NotOf : ℕ → V.Object → Type 0
NotOf new (OfActivation activation local) = (new == activation) ≡ false
NotOf new object = Unit {0}

opened_other : (around : Surroundings) (new : ℕ) (own : List LocalObject) (objects : Objects) (object : V.Object) → NotOf new object → opened around new own objects object ≡ objects object
opened_other around new [] objects object apart = refl
opened_other around new (first ∷ others) objects (OfHeap number) apart = opened_other around new others objects (OfHeap number) tt
opened_other around new (first ∷ others) objects (OfGlobal number) apart = opened_other around new others objects (OfGlobal number) tt
opened_other around new (first ∷ others) objects (OfLiteral number) apart = opened_other around new others objects (OfLiteral number) tt
opened_other around new (first ∷ others) objects (OfActivation activation local) apart =
    ap (λ b. if b && same_local first.local local then Typed first.c_type 1 (λ offset. None) else opened around new others objects (OfActivation activation local)) apart
    ∙ opened_other around new others objects (OfActivation activation local) apart

-- what is there of the new activation is one of its locals, or was there
opened_there : (around : Surroundings) (new : ℕ) (own : List LocalObject) (objects : Objects) (local : Local) → is_there (opened around new own objects (OfActivation new local)) ≡ true
    → ((inner : Inner) × (own_type own local ≡ Some inner)) ⊎ (is_there (objects (OfActivation new local)) ≡ true)
opened_there around new [] objects local there = inr there
opened_there around new (first ∷ others) objects local there =
    by (new == new) (same_local first.local local) (eq-eqb new new refl) there (opened_there around new others objects local)
  where
    by : (a b : Bool) → a ≡ true → is_there (if a && b then Typed first.c_type 1 (λ offset. None) else opened around new others objects (OfActivation new local)) ≡ true
        → (is_there (opened around new others objects (OfActivation new local)) ≡ true → ((inner : Inner) × (own_type others local ≡ Some inner)) ⊎ (is_there (objects (OfActivation new local)) ≡ true))
        → ((inner : Inner) × ((if b then whole first.c_type else own_type others local) ≡ Some inner)) ⊎ (is_there (objects (OfActivation new local)) ≡ true)
    by true true e there rest = inl (record { offset = 0; c_type = first.c_type }, refl)
    by true false e there rest = rest there
    by false b e there rest = absurd (false≢true e)

-- what is held was held before
opened_held : (around : Surroundings) (new : ℕ) (own : List LocalObject) (objects : Objects) (object : V.Object) (offset : ℕ) (value : Value) → held_at offset (opened around new own objects object) ≡ Some value
    → held_at offset (objects object) ≡ Some value
opened_held around new [] objects object offset value is = is
opened_held around new (first ∷ others) objects object offset value is = by (same_object (OfActivation new first.local) object) is (opened_held around new others objects object offset value)
  where
    by : (b : Bool) → held_at offset (if b then Typed first.c_type 1 (λ offset. None) else opened around new others objects object) ≡ Some value
        → (held_at offset (opened around new others objects object) ≡ Some value → held_at offset (objects object) ≡ Some value) → held_at offset (objects object) ≡ Some value
    by true is rest = absurd (cc)
    by false is rest = rest is

-- ---- parameters

-- what holds of each
abbrev Each : (Value → Type 0) → List Value → Type 0
Each holds [] = Unit {0}
Each holds (value ∷ values) = holds value × Each holds values

-- the words of arguments stand for them modulo 2 ^ 64, one by one
abbrev AllNarrow : Objects → MemoryMap → List Value → List ℕ → Type 0
AllNarrow objects memory [] words = Unit {0}
AllNarrow objects memory (value ∷ values) [] = ⊥
AllNarrow objects memory (value ∷ values) (word ∷ words) = Stands objects memory value (word % 2 ^ 64) × AllNarrow objects memory values words

all_narrow : (structs : List StructDef) (objects : Objects) (memory : MemoryMap) → KeepsOffsets memory → Placed structs memory objects → (values : List Value) (words : List ℕ) → AllStand objects memory values words
    → Each (IsInside structs objects) values → AllNarrow objects memory values words
all_narrow structs objects memory keeps placed _ _ none inside = tt
all_narrow structs objects memory keeps placed _ _ (more first word values words stands rest) inside =
    (narrow_stands structs objects memory keeps placed first word stands inside.0, all_narrow structs objects memory keeps placed values words rest inside.1)

-- as many
all_long : (objects : Objects) (memory : MemoryMap) (values : List Value) (words : List ℕ) → AllStand objects memory values words → length words ≡ length values
all_long objects memory _ _ none = refl
all_long objects memory _ _ (more first word values words stands rest) = ap suc (all_long objects memory values words rest)

-- the words of arguments stand in the registers of parameters
parameters_stand : (objects : Objects) (memory : MemoryMap) (number : ℕ) (values : List Value) (words : List ℕ) → AllNarrow objects memory values words
    → WordsStand objects memory (K.parameters_from number values) (M.parameters_from number words)
parameters_stand objects memory number [] words stand register value is = absurd (cc)
parameters_stand objects memory number (first ∷ values) [] stand register value is = absurd stand
parameters_stand objects memory number (first ∷ values) (word ∷ words) stand register value is =
    by (same_register (R.Local (L.Parameter number)) register) is (parameters_stand objects memory (suc number) values words stand.1 register value)
  where
    by : (b : Bool) → (if b then Some first else K.parameters_from (suc number) values register) ≡ Some value
        → (K.parameters_from (suc number) values register ≡ Some value → Stands objects memory value (M.parameters_from (suc number) words register))
        → Stands objects memory value (if b then word % 2 ^ 64 else M.parameters_from (suc number) words register)
    by true is others = subst (λ v. Stands objects memory v (word % 2 ^ 64)) (same_Some first value is) stand.0
    by false is others = others is

held_each : (holds : Value → Type 0) (registers : Registers) (arguments : List Register) (values : List Value) → ((register : Register) (value : Value) → registers register ≡ Some value → holds value)
    → all_held registers arguments ≡ Some values → Each holds values
held_each holds registers [] values all e = subst (Each holds) (same_Some [] values e) tt
held_each holds registers (first ∷ others) values all e = by (registers first) (all_held registers others) refl e (λ rest is. held_each holds registers others rest all is)
  where
    both : Option Value → Option (List Value) → Option (List Value)
    both (Some value) (Some values) = Some (value ∷ values)
    both _ _ = None

    by : (held : Option Value) (rest : Option (List Value)) → registers first ≡ held → both held rest ≡ Some values → ((found : List Value) → rest ≡ Some found → Each holds found) → Each holds values
    by (Some value) (Some found) is e each = subst (Each holds) (same_Some (value ∷ found) values e) (all first value is, each found refl)
    by (Some value) None is e each = absurd (cc)
    by None rest is e each = absurd (cc)

parameters_each : (holds : Value → Type 0) (number : ℕ) (values : List Value) → Each holds values → (register : Register) (value : Value) → K.parameters_from number values register ≡ Some value → holds value
parameters_each holds number [] each register value is = absurd (cc)
parameters_each holds number (first ∷ values) each register value is =
    by (same_register (R.Local (L.Parameter number)) register) is (parameters_each holds (suc number) values each.1 register value)
  where
    by : (b : Bool) → (if b then Some first else K.parameters_from (suc number) values register) ≡ Some value → (K.parameters_from (suc number) values register ≡ Some value → holds value) → holds value
    by true is others = subst holds (same_Some first value is) each.0
    by false is others = others is

-- ---- the function that is called

-- a function of the type is there
typed_function : (tac : Tac) (around : Surroundings) (c_type : CType) (found : Option Function) → has_type c_type around found ≡ true → (function : Function) × (found ≡ Some function) × (same_type (function.c_type) c_type ≡ true)
typed_function tac around c_type None is = absurd (false≢true is)
typed_function tac around c_type (Some function) is = (function, refl, is)

called_same : (tac : Tac) (plan : Plan) (planned : length plan.functions ≡ length tac.functions) (around : Surroundings) (objects : Objects) (memory : MemoryMap) (registers : Registers) (words : Words) (callee : Callee) (number : ℕ) → WordsStand objects memory registers words
    → K.called tac around registers callee ≡ Some number → M.called (code_of tac plan) words (callee_of tac callee) ≡ Some number
called_same tac plan planned around objects memory registers words (Known function) number stand is = is
called_same tac plan planned around objects memory registers words (Through pointer c_type) number stand is = by (registers pointer) refl is
  where
    named : Option Value → Option ℕ
    named (Some (Code number)) = if has_type c_type around (slice_get tac.functions number) then Some number else None
    named _ = None

    typed : (other : ℕ) → registers pointer ≡ Some (Code other) → (b : Bool) → has_type c_type around (slice_get tac.functions other) ≡ b → (if b then Some other else None) ≡ Some number
        → M.of_signature (code_of tac plan) (signature_of tac c_type) (M.named_by (words pointer)) ≡ Some number
    typed other held true is e =
        let function = typed_function tac around c_type (slice_get tac.functions other) is in
        let word : words pointer ≡ M.function_word other = stand pointer (Code other) held in
        ap (λ n. M.of_signature (code_of tac plan) (signature_of tac c_type) (M.named_by n)) word
        ∙ ap (M.of_signature (code_of tac plan) (signature_of tac c_type)) (named_stands other)
        ∙ of_signature_is (code_of tac plan) (signature_of tac c_type) other (function_of tac (plan_for plan (InFunction other)) function.0) (function_at tac plan planned other function.0 function.1)
        (same_signature tac (plan_for plan (InFunction other)) function.0 c_type function.2)
        ∙ e
    typed other held false is e = absurd (cc)

    by : (held : Option Value) → registers pointer ≡ held → named held ≡ Some number → M.of_signature (code_of tac plan) (signature_of tac c_type) (M.named_by (words pointer)) ≡ Some number
    by (Some (Code other)) held e = typed other held (has_type c_type around (slice_get tac.functions other)) refl e
    by (Some (Number z)) held e = absurd (cc)
    by (Some NoAddress) held e = absurd (cc)
    by (Some (Address object offset)) held e = absurd (cc)
    by None held e = absurd (cc)

-- ---- both sides enter

depth_is : greatest_depth ≡ 10000
unfolding greatest_depth
depth_is = refl

pub callers_long : (tac : Tac) (plan : Plan) (state : T.State) (memory : MemoryMap) (callers : List (ℕ × T.Activation)) (others : List (ℕ × P.Activation)) → CallersStand tac plan state memory callers others → length others ≡ length callers
callers_long tac plan state memory [] [] stand = refl
callers_long tac plan state memory [] (own ∷ others) stand = absurd stand
callers_long tac plan state memory (waiting ∷ callers) [] stand = absurd stand
callers_long tac plan state memory (waiting ∷ callers) (own ∷ others) stand = ap suc (callers_long tac plan state memory callers others stand.2)

-- a frame more has its room
room_behind : (start long count size : ℕ) → start ≤ 2 ^ 40 + count * greatest_frame → long ≤ greatest_frame → size ≤ greatest_frame → count < 10000
    → (start + (long + 15) / 16 * 16 ≤ 2 ^ 40 + suc count * greatest_frame) × (start + (long + 15) / 16 * 16 + size ≤ 2 ^ 44)
room_behind start long count size low most most' few = (omega (arith, low, most), omega (arith, low, most, most', few))

module _ (tac : Tac) (plan : Plan) (slabs : ℕ) (state : T.State) (machine : P.State) (fits : Fits tac plan) (stacked : IsStacked tac state) (step : InStep tac plan slabs state machine)
    (site number : ℕ) (function : Function) (values : List Value) (words : List ℕ) (found : slice_get tac.functions number ≡ Some function) (less : length machine.callers < 10000)
    (stand : AllNarrow state.objects (memory_in tac plan state machine) values words) (old : Each (IsOld state) values) (inside : Each (IsInside tac.structs state.objects) values) where
  abbrev new : ℕ
  new = state.next_activation

  abbrev around : Surroundings
  around = T.around_of tac state.running

  abbrev next : T.State
  next = K.enter around site number function values state

  abbrev own : C.Function
  own = function_of tac (plan_for plan (InFunction number)) function

  abbrev later : P.State
  later = entered site number own words (passed_for plan state machine site) machine

  -- its frame
  size_is : own.frame.size ≡ (frame_for tac plan (InFunction number)).size
  size_is = sym (ap (λ (frame : FrameLayout). frame.size) (number_frame tac plan number function found))

  long : length later.running.bytes ≡ own.frame.size
  long = length-replicate {A = ℕ} own.frame.size 0

  kept_is : later.running.kept ≡ objects_start (frame_for tac plan (InFunction number))
  kept_is = sym (ap objects_start (number_frame tac plan number function found))

  room : (M.next_start machine.running ≤ 2 ^ 40 + suc (length machine.callers) * greatest_frame) × (M.next_start machine.running + own.frame.size ≤ 2 ^ 44)
  room = room_behind machine.running.start (length machine.running.bytes) (length machine.callers) own.frame.size step.low
      (omega (arith, step.running.long, fits.frames state.running.owner)) (omega (arith, size_is, fits.frames (InFunction number))) less

  below : frame_end later.running ≤ 2 ^ 44
  below = omega (arith, long, room.1)

  regions : Regions later
  regions = record { globals = step.regions.globals; frames = (refl, step.regions.frames); below = below; heap = step.regions.heap }

  -- where objects lie
  same_address : (object : V.Object) → NotOf new object → address_in tac plan next later object ≡ address_in tac plan state machine object
  same_address (OfHeap zero) apart = refl
  same_address (OfHeap (suc number)) apart = refl
  same_address (OfGlobal number) apart = refl
  same_address (OfLiteral number) apart = refl
  same_address (OfActivation activation local) apart = pushed_local tac plan next.running later.running (running_in state) (activations_of machine) activation local apart

  stays : (object : V.Object) → NotOf new object → Stays tac plan state next machine later object
  stays object apart = λ there. (opened_other around new function.objects state.objects object apart, same_address object apart)

  place_stays : (value : Value) → IsOld state value → PlaceStays tac plan state next machine later value
  place_stays (Address (OfHeap number) offset) is_old = stays (OfHeap number) tt
  place_stays (Address (OfGlobal number) offset) is_old = stays (OfGlobal number) tt
  place_stays (Address (OfLiteral number) offset) is_old = stays (OfLiteral number) tt
  place_stays (Address (OfActivation activation local) offset) is_old = stays (OfActivation activation local) (ne_eqb new activation (λ e. omega (arith, e, is_old)))
  place_stays (Number z) is_old = tt
  place_stays NoAddress is_old = tt
  place_stays (Code function) is_old = tt

  heap_more : state.next_heap ≤ next.next_heap
  heap_more = omega arith

  made_more_by : state.next_activation ≤ next.next_activation
  made_more_by = omega arith

  -- nothing was there of the new activation
  none_there : (local : Local) → is_there (state.objects (OfActivation new local)) ≡ true → ⊥
  none_there local there = omega (arith, owned_made tac state new local stacked (step.owned new local there))

  owned : (activation : ℕ) (local : Local) → is_there (next.objects (OfActivation activation local)) ≡ true → IsOwned tac (running_in next) activation local
  owned activation local there = by (new == activation) refl
    where
      local_by : new ≡ activation → ((inner : Inner) × (own_type function.objects local ≡ Some inner)) ⊎ (is_there (state.objects (OfActivation new local)) ≡ true) → IsOwned tac (running_in next) activation local
      local_by same (inl typed) = inl (same, (typed.0, subst (λ (f : Option Function). own_type (T.objects_of f) local ≡ Some typed.0) (sym found) typed.1))
      local_by same (inr was) = absurd (none_there local was)

      by : (b : Bool) → (new == activation) ≡ b → IsOwned tac (running_in next) activation local
      by true e =
          let same : new ≡ activation = eqb-true new activation e in
          local_by same (opened_there around new function.objects state.objects local (subst (λ n. is_there (next.objects (OfActivation n local)) ≡ true) (sym same) there))
      by false apart = inr (step.owned activation local (ap is_there (sym (opened_other around new function.objects state.objects (OfActivation activation local) apart)) ∙ there))

  held : (object : V.Object) (offset : ℕ) (value : Value) → held_at offset (next.objects object) ≡ Some value → held_at offset (state.objects object) ≡ Some value
  held object offset value is = opened_held around new function.objects state.objects object offset value is

  content_of : (object : V.Object) → NotOf new object → ContentStands tac.structs next.objects (memory_in tac plan next later) later object (next.objects object)
  content_of object apart = content_stays tac plan state next machine later place_stays heap_more made_more_by object (stays object apart) (step.old object)
      (λ address offset width number there is within some e. pushed_number machine later site refl refl refl refl below step.regions (address + offset) width number some e) (step.contents object)

  contents : (object : V.Object) → ContentStands tac.structs next.objects (memory_in tac plan next later) later object (next.objects object)
  contents (OfHeap number) = content_of (OfHeap number) tt
  contents (OfGlobal number) = content_of (OfGlobal number) tt
  contents (OfLiteral number) = content_of (OfLiteral number) tt
  contents (OfActivation activation local) = by (new == activation) refl
    where
      by : (b : Bool) → (new == activation) ≡ b → ContentStands tac.structs next.objects (memory_in tac plan next later) later (OfActivation activation local) (next.objects (OfActivation activation local))
      by true e = nothing_stands tac.structs next.objects (memory_in tac plan next later) later (OfActivation activation local) (next.objects (OfActivation activation local))
          (λ offset value is. none_there local (held_there (state.objects (OfActivation new local)) offset value
          (subst (λ n. held_at offset (state.objects (OfActivation n local)) ≡ Some value) (sym (eqb-true new activation e)) (held (OfActivation activation local) offset value is))))
      by false apart = content_of (OfActivation activation local) apart

  allocations : (number : ℕ) → is_there (next.objects (OfHeap number)) ≡ true → AllocationStands tac plan next later number
  allocations number there =
      let same = opened_other around new function.objects state.objects (OfHeap number) tt in
      let was = step.allocations number (ap is_there (sym same) ∙ there) in
      record {
        address = was.address;
        is = same_address (OfHeap number) tt ∙ was.is;
        object = was.object;
        lives = was.lives;
        begins = was.begins;
        long = subst (λ content. extent_of tac.structs content ≤ length was.object.bytes) (sym same) was.long;
        told = was.told;
      }

  running : ActivationStands tac plan next (memory_in tac plan next later) next.running later.running
  running = record {
    owner = refl;
    at = refl;
    kept = kept_is;
    words = λ register value is.
        stands_stays tac plan state next machine later place_stays heap_more made_more_by value (M.parameters_from 0 words register) (parameters_each (IsOld state) 0 values old register value is)
        (parameters_stand state.objects (memory_in tac plan state machine) 0 values words stand register value is);
    inside = λ register value is.
        inside_stays tac plan state next machine later place_stays heap_more made_more_by value (parameters_each (IsOld state) 0 values old register value is)
        (parameters_each (IsInside tac.structs state.objects) 0 values inside register value is);
    old = λ register value is. old_stays tac plan state next machine later place_stays heap_more made_more_by value (parameters_each (IsOld state) 0 values old register value is);
    long = long ∙ size_is;
  }

  pub entered_in_step : InStep tac plan slabs next later
  unfolding regions
  entered_in_step = record {
    running = running;
    callers = (
      refl,
      activation_stays tac plan state next machine later place_stays heap_more made_more_by state.running machine.running step.running,
      callers_stay tac plan state next machine later place_stays heap_more made_more_by state.callers machine.callers step.callers,
    );
    owned = owned;
    globals = λ number. subst (IsOf _) (sym (opened_other around new function.objects state.objects (OfGlobal number) tt)) (step.globals number);
    literals = λ number. subst (IsOf _) (sym (opened_other around new function.objects state.objects (OfLiteral number) tt)) (step.literals number);
    allocations = allocations;
    contents = contents;
    inside = λ object offset value is.
        let was = held object offset value is in
        inside_stays tac plan state next machine later place_stays heap_more made_more_by value (step.old object offset value was) (step.inside object offset value was);
    old = λ object offset value is. old_stays tac plan state next machine later place_stays heap_more made_more_by value (step.old object offset value (held object offset value is));
    regions = regions;
    low = room.0;
    slabs_are = step.slabs_are;
    needed = step.needed ∙ ap needs (sym (made_more state.trace (Entered site number) refl));
    statics = step.statics;
    next = step.next;
    input = step.input;
    trace = same_more machine.trace (Entered site number) ∙ ap (λ trace. trace ++ Entered site number ∷ []) step.trace;
    paid = refl;
  }

-- ---- the point

module _ (tac : Tac) (plan : Plan) (slabs : ℕ) (state : T.State) (machine : P.State) (ready : Ready tac plan slabs state machine) (site : ℕ) (callee : Callee) (arguments : List Register)
    (at : StandsAt tac state (O.Call site callee arguments)) where
  abbrev surroundings : Surroundings
  surroundings = T.around_of tac state.running

  abbrev given_words : List ℕ
  given_words = map machine.running.words arguments

  abbrev given_pools : List ℕ
  given_pools = passed_for plan state machine site

  abbrev own_of : ℕ → Function → C.Function
  own_of number function = function_of tac (plan_for plan (InFunction number)) function

  stand : (values : List Value) → all_held state.running.registers arguments ≡ Some values → AllStand state.objects (memory_in tac plan state machine) values given_words
  stand values held = arguments_stand state.objects (memory_in tac plan state machine) state.running.registers machine.running.words arguments values ready.in_step.running.words held

  -- what the code with pools does
  machine_does : (number : ℕ) (function : Function) (values : List Value) → all_held state.running.registers arguments ≡ Some values → length values ≡ function.parameters
      → slice_get tac.functions number ≡ Some function → K.called tac surroundings state.running.registers callee ≡ Some number
      → M.execute (code_of tac plan) (op_for tac plan state.running.owner (O.Call site callee arguments)) machine
      ≡ (if nat_lt (length machine.callers) greatest_depth then M.enter (code_of tac plan) site number (own_of number function) given_words given_pools machine else Halt DepthReached machine)
  machine_does number function values held enough found called =
      let same = called_same tac plan ready.planned surroundings state.objects (memory_in tac plan state machine) state.running.registers machine.running.words callee number ready.in_step.running.words called in
      ap (λ (number : Option ℕ). M.call (code_of tac plan) site number given_words given_pools machine) same
      ∙ call_is (code_of tac plan) site number (own_of number function) given_words given_pools machine (function_at tac plan ready.planned number function found)
      (all_long state.objects (memory_in tac plan state machine) values given_words (stand values held) ∙ enough)
      (length-map ((plan_for plan state.running.owner).passes site) (M.pool_of machine)
      ∙ ready.serving.passes site number callee arguments (own_of number function) at called (function_at tac plan ready.planned number function found))

  depth : (number : ℕ) (function : Function) (values : List Value) → slice_get tac.functions number ≡ Some function → all_held state.running.registers arguments ≡ Some values
      → (b : Bool) → nat_lt (length state.callers) greatest_depth ≡ b
      → Does tac plan slabs state machine (if b then To (K.enter surroundings site number function values state) else Halt DepthReached state)
      (if b then M.enter (code_of tac plan) site number (own_of number function) given_words given_pools machine else Halt DepthReached machine)
  depth number function values found held true less =
      enters site number callee arguments (own_of number function) given_words (K.enter surroundings site number function values state) at (function_at tac plan ready.planned number function found)
      (entered_in_step tac plan slabs state machine ready.fits ready.stacked ready.in_step site number function values given_words found
      (omega (arith, callers_long tac plan state (memory_in tac plan state machine) state.callers machine.callers ready.in_step.callers, depth_is, ltb-true (length state.callers) greatest_depth less))
      (all_narrow tac.structs state.objects (memory_in tac plan state machine) (λ object offset. refl) ready.placed values given_words (stand values held)
      (held_each (IsInside tac.structs state.objects) state.running.registers arguments values ready.in_step.running.inside held))
      (held_each (IsOld state) state.running.registers arguments values ready.in_step.running.old held)
      (held_each (IsInside tac.structs state.objects) state.running.registers arguments values ready.in_step.running.inside held))
  depth number function values found held false deep = ends DepthReached state machine ready.in_step.trace tt

  pub call_does : PointDoes tac plan slabs state machine (O.Call site callee arguments)
  call_does =
      does_given tac plan slabs machine (K.called tac surroundings state.running.registers callee) state
      (λ number. T.given (all_held state.running.registers arguments) state (λ values. K.call surroundings site number (slice_get tac.functions number) values state)) does
      (λ number called. does_given tac plan slabs machine (all_held state.running.registers arguments) state (λ values. K.call surroundings site number (slice_get tac.functions number) values state) does
      (λ values held. by number values (slice_get tac.functions number) refl called held))
    where
      does : Move P.State
      does = M.execute (code_of tac plan) (op_for tac plan state.running.owner (O.Call site callee arguments)) machine

      same_depth : nat_lt (length machine.callers) greatest_depth ≡ nat_lt (length state.callers) greatest_depth
      same_depth = ap (λ n. nat_lt n greatest_depth) (callers_long tac plan state (memory_in tac plan state machine) state.callers machine.callers ready.in_step.callers)

      by : (number : ℕ) (values : List Value) (found : Option Function) → slice_get tac.functions number ≡ found → K.called tac surroundings state.running.registers callee ≡ Some number
          → all_held state.running.registers arguments ≡ Some values → Does tac plan slabs state machine (K.call surroundings site number found values state) does
      by number values None found called held = wrong _ state does tt
      by number values (Some function) found called held =
          does_unless tac plan slabs machine (length values == function.parameters) state
          (if nat_lt (length state.callers) greatest_depth then To (K.enter surroundings site number function values state) else Halt DepthReached state) does
          (λ enough. subst (Does tac plan slabs state machine (if nat_lt (length state.callers) greatest_depth then To (K.enter surroundings site number function values state) else Halt DepthReached state))
          (sym (machine_does number function values held (eqb-true (length values) function.parameters enough) found called
          ∙ ap (λ b. if b then M.enter (code_of tac plan) site number (own_of number function) given_words given_pools machine else Halt DepthReached machine) same_depth))
          (depth number function values found held (nat_lt (length state.callers) greatest_depth) refl))
