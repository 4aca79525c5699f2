-- A point at which a pointer is converted: the word stays, while an allocation may get a type; it holds nothing yet then.
use Rattle.std.proofs.Common.{◌≡◌, ℕ, zero, suc, ◌/◌, ◌%◌, ◌^◌, ◌≤◌, ◌⊎◌, inl, inr, ◌==◌, Bool, true, false, if◌then◌else◌, List, length, Option, Some, None, refl, sym, ap, subst, ◌∙◌}
use Rattle.std.specs.Prelude.{slice_get, option_map}
use Rattle.c_typed.specs.Types.{CType, literal_type}
use Rattle.c_typed.specs.Layouts.{StructDef}
use Rattle.c_typed.specs.Typed.{GlobalDef, LiteralDef}
use Rattle.tac_ir.specs.declared.register.Register.{Register}
use Rattle.tac_ir.specs.Values as V
use Rattle.tac_ir.specs.Values.{OfHeap, OfGlobal, OfLiteral, OfActivation, same_object, Value, Number, NoAddress, Code, Address, Content, Absent, Untyped, Typed, Objects, with_content}
use Rattle.tac_ir.specs.Layouts.{size_of}
use Rattle.tac_ir.specs.Objects.{Surroundings, extent_of, held_at}
use Rattle.tac_ir.specs.States as T
use Rattle.tac_ir.specs.States.{store_content}
use Rattle.tac_ir.specs.Pointers.{gives_type, typed_content, repoint}
use Rattle.tac_ir.specs.Code.{Tac}
use Rattle.tac_ir.specs.Code as O
use Rattle.pool_ir.specs.States as P
use Rattle.pool_rewrite.specs.Plan.{Plan}
use Rattle.pool_rewrite.specs.Standing.{MemoryMap, Stands, ContentStands}
use Rattle.pool_simulation.specs.Placed.{IsInside, Lasts}
use Rattle.pool_simulation.specs.InStep.{address_in, memory_in, IsOld, IsOf, AllocationStands, InStep}
use Rattle.pool_simulation.proofs.SameObjects.{same_object-true}
use Rattle.pool_simulation.proofs.LastingWords.{typed_lasts, lasts_typed, stands_lasts, inside_lasts, hold_typed}
use Rattle.pool_simulation.specs.Serving.{code_of}
use Rattle.pool_simulation.proofs.Stepping.{Ready, Does, PointDoes}
use Rattle.pool_simulation.proofs.PlannedCode.{does_given}
use Rattle.pool_simulation.proofs.NarrowWords.{narrow_stands}
use Rattle.pool_simulation.proofs.InStepWords.{StillStands, activation_still, callers_still, same_memory, no_effect, write_does}
use Rattle.pool_simulation.proofs.RegisterPoints.{does_looked}

-- ---- what gets a type

-- it is as it was, or holds nothing
typed_cases : (around : Surroundings) (target : CType) (content typed : Content) → typed_content around target content ≡ Some typed
    → (content ≡ typed) ⊎ ((size : ℕ) × (count : ℕ) × (content ≡ Untyped size) × (Typed target count (λ offset. None) ≡ typed))
typed_cases around target Absent typed e = inl (cc)
typed_cases around target (Typed c_type count held) typed e = inl (cc)
typed_cases around target (Untyped size) typed e = by (gives_type around target) (size % size_of around.structs target == 0) e
  where
    by : (b b' : Bool) → (if b then (if b' then Some (Typed target (size / size_of around.structs target) (λ offset. None)) else None) else Some (Untyped size)) ≡ Some typed
        → (Untyped size ≡ typed) ⊎ ((own : ℕ) × (count : ℕ) × (Untyped size ≡ Untyped own) × (Typed target count (λ offset. None) ≡ typed))
    by true true e = inr (size, size / size_of around.structs target, refl, (cc))
    by true false e = absurd (cc)
    by false b' e = inl (cc)

-- what it holds it held
typed_held : (around : Surroundings) (target : CType) (content typed : Content) → typed_content around target content ≡ Some typed → (offset : ℕ) (value : Value) → held_at offset typed ≡ Some value → held_at offset content ≡ Some value
typed_held around target content typed e offset value is = by (typed_cases around target content typed e)
  where
    by : (content ≡ typed) ⊎ ((size : ℕ) × (count : ℕ) × (content ≡ Untyped size) × (Typed target count (λ offset. None) ≡ typed)) → held_at offset content ≡ Some value
    by (inl same) = ap (held_at offset) same ∙ is
    by (inr fresh) = let none : held_at offset typed ≡ None = ap (held_at offset) (sym fresh.3) in absurd (cc)

-- a static object has its type
typed_of : (around : Surroundings) (target : CType) (own : Option CType) (content typed : Content) → typed_content around target content ≡ Some typed → IsOf own content → IsOf own typed
typed_of around target None content typed e is = (typed_lasts around target content typed e).0 ∙ is
typed_of around target (Some c_type) content typed e is = by (typed_cases around target content typed e)
  where
    by : (content ≡ typed) ⊎ ((size : ℕ) × (count : ℕ) × (content ≡ Untyped size) × (Typed target count (λ offset. None) ≡ typed)) → (held : ℕ → Option Value) × (typed ≡ Typed c_type 1 held)
    by (inl same) = (is.0, sym same ∙ is.1)
    by (inr fresh) = let other : Untyped fresh.0 ≡ Typed c_type 1 is.0 = sym fresh.2 ∙ is.1 in absurd (cc)

-- what stood in memory while objects last
content_lasts : (structs : List StructDef) (before after : Objects) → Lasts structs before after → (memory : MemoryMap) (machine : P.State) (object : V.Object) (content : Content)
    → ContentStands structs before memory machine object content → ContentStands structs after memory machine object content
content_lasts structs before after lasts memory machine object Absent stands = tt
content_lasts structs before after lasts memory machine object (Untyped size) stands = tt
content_lasts structs before after lasts memory machine object (Typed c_type count held) stands = λ offset own value leaf is fit address at.
    let was = stands offset own value leaf is fit address at in
    (was.0, was.1, stands_lasts structs before after lasts memory value _ was.2)

-- ---- in step with it

module _ (tac : Tac) (plan : Plan) (slabs : ℕ) (state : T.State) (machine : P.State) (step : InStep tac plan slabs state machine) (target : CType) (object : V.Object) (typed : Content)
    (e : typed_content (T.around_of tac state.running) target (state.objects object) ≡ Some typed) where
  abbrev around : Surroundings
  around = T.around_of tac state.running

  abbrev objects : Objects
  objects = with_content object typed state.objects

  abbrev next : T.State
  next = store_content object typed state

  pub retyped_lasts : Lasts tac.structs state.objects objects
  retyped_lasts = lasts_typed around state.objects target object typed e

  -- each object was of the kind that it is
  extent_by : (other : V.Object) (b : Bool) → same_object object other ≡ b → extent_of tac.structs (if b then typed else state.objects other) ≡ extent_of tac.structs (state.objects other)
  extent_by other true same =
      (typed_lasts around target (state.objects object) typed e).1 ∙ ap (λ o. extent_of tac.structs (state.objects o)) (same_object-true object other same)
  extent_by other false same = refl

  held_by : (other : V.Object) (offset : ℕ) (value : Value) (b : Bool) → same_object object other ≡ b → held_at offset (if b then typed else state.objects other) ≡ Some value → held_at offset (state.objects other) ≡ Some value
  held_by other offset value true same is =
      subst (λ o. held_at offset (state.objects o) ≡ Some value) (same_object-true object other same) (typed_held around target (state.objects object) typed e offset value is)
  held_by other offset value false same is = is

  of_by : (own : Option CType) (other : V.Object) (b : Bool) → same_object object other ≡ b → IsOf own (state.objects other) → IsOf own (if b then typed else state.objects other)
  of_by own other true same is =
      typed_of around target own (state.objects object) typed e (subst (λ o. IsOf own (state.objects o)) (sym (same_object-true object other same)) is)
  of_by own other false same is = is

  content_by : (memory : MemoryMap) (other : V.Object) (b : Bool) → same_object object other ≡ b → ContentStands tac.structs state.objects memory machine other (state.objects other)
      → ContentStands tac.structs objects memory machine other (if b then typed else state.objects other)
  content_by memory other false same stands = content_lasts tac.structs state.objects objects retyped_lasts memory machine other (state.objects other) stands
  content_by memory other true same stands = by (typed_cases around target (state.objects object) typed e)
    where
      was : ContentStands tac.structs state.objects memory machine other (state.objects object)
      was = subst (λ o. ContentStands tac.structs state.objects memory machine other (state.objects o)) (sym (same_object-true object other same)) stands

      by : (state.objects object ≡ typed) ⊎ ((size : ℕ) × (count : ℕ) × (state.objects object ≡ Untyped size) × (Typed target count (λ offset. None) ≡ typed)) → ContentStands tac.structs objects memory machine other typed
      by (inl alike) = content_lasts tac.structs state.objects objects retyped_lasts memory machine other typed (subst (ContentStands tac.structs state.objects memory machine other) alike was)
      by (inr fresh) =
          subst (ContentStands tac.structs objects memory machine other) fresh.3
          (λ offset own value leaf is fit address at. absurd (cc))

  addresses_alike : (other : V.Object) → address_in tac plan next machine other ≡ address_in tac plan state machine other
  addresses_alike (OfHeap zero) = refl
  addresses_alike (OfHeap (suc number)) = refl
  addresses_alike (OfGlobal number) = refl
  addresses_alike (OfLiteral number) = refl
  addresses_alike (OfActivation activation local) = refl

  alike : memory_in tac plan next machine ≡ memory_in tac plan state machine
  alike = same_memory tac plan state next machine machine addresses_alike (λ other. extent_by other (same_object object other) refl)

  pub stays_old : (value : Value) → IsOld state value → IsOld (store_content object typed state) value
  stays_old (Address (OfHeap number) offset) old = old
  stays_old (Address (OfGlobal number) offset) old = old
  stays_old (Address (OfLiteral number) offset) old = old
  stays_old (Address (OfActivation activation local) offset) old = old
  stays_old (Number z) old = old
  stays_old NoAddress old = old
  stays_old (Code function) old = old

  still : StillStands tac state next (memory_in tac plan state machine) (memory_in tac plan next machine)
  still = record {
    words = λ value word old stands. subst (λ memory. Stands objects memory value word) (sym alike) (stands_lasts tac.structs state.objects objects retyped_lasts (memory_in tac plan state machine) value word stands);
    inside = λ value old inside. inside_lasts tac.structs state.objects objects retyped_lasts value inside;
    old = stays_old;
  }

  allocation_alike : (number : ℕ) → AllocationStands tac plan state machine number → AllocationStands tac plan next machine number
  allocation_alike number stands = record {
    address = stands.address;
    is = addresses_alike (OfHeap number) ∙ stands.is;
    object = stands.object;
    lives = stands.lives;
    begins = stands.begins;
    long = subst (λ n. n ≤ length stands.object.bytes) (sym (extent_by (OfHeap number) (same_object object (OfHeap number)) refl)) stands.long;
    told = stands.told;
  }

  pub retyped_in_step : InStep tac plan slabs (store_content object typed state) machine
  retyped_in_step = record {
    running = activation_still tac plan state next (memory_in tac plan state machine) (memory_in tac plan next machine) still state.running machine.running step.running;
    callers = callers_still tac plan state next (memory_in tac plan state machine) (memory_in tac plan next machine) still state.callers machine.callers step.callers;
    owned = λ activation local there. step.owned activation local (retyped_lasts.there (OfActivation activation local) there);
    globals = λ number. of_by (option_map (λ (global : GlobalDef). global.c_type) (slice_get tac.globals number)) (OfGlobal number) (same_object object (OfGlobal number)) refl (step.globals number);
    literals = λ number. of_by (option_map (λ (literal : LiteralDef). literal_type literal.bytes) (slice_get tac.literals number)) (OfLiteral number) (same_object object (OfLiteral number)) refl (step.literals number);
    allocations = λ number there. allocation_alike number (step.allocations number (retyped_lasts.there (OfHeap number) there));
    contents = λ other. subst (λ memory. ContentStands tac.structs objects memory machine other (objects other)) (sym alike)
        (content_by (memory_in tac plan state machine) other (same_object object other) refl (step.contents other));
    inside = hold_typed around state.objects target object typed e step.inside;
    old = λ other offset value is. stays_old value (step.old other offset value (held_by other offset value (same_object object other) refl is));
    regions = step.regions;
    low = step.low;
    slabs_are = step.slabs_are;
    needed = step.needed;
    statics = step.statics;
    next = step.next;
    input = step.input;
    trace = step.trace;
    paid = step.paid;
  }

  -- what stood for a value stands for it still
  pub retyped_stands : (value : Value) (word : ℕ) → Stands state.objects (memory_in tac plan state machine) value word → Stands objects (memory_in tac plan (store_content object typed state) machine) value word
  retyped_stands value word stands =
      subst (λ memory. Stands objects memory value word) (sym alike) (stands_lasts tac.structs state.objects objects retyped_lasts (memory_in tac plan state machine) value word stands)

-- ---- the point

module _ (tac : Tac) (plan : Plan) (slabs : ℕ) (state : T.State) (machine : P.State) (ready : Ready tac plan slabs state machine) where
  abbrev here : Surroundings
  here = T.around_of tac state.running

  repoint_by : (to : Register) (target : CType) (word : ℕ) (value : Value) → Stands state.objects (memory_in tac plan state machine) value word → IsInside tac.structs state.objects value → IsOld state value
      → Does tac plan slabs state machine (repoint here target to value state) (P.write (code_of tac plan) to word machine)
  repoint_by to target word (Address object offset) stands inside old =
      does_given tac plan slabs machine (typed_content here target (state.objects object)) state (λ content. T.write to (Address object offset) (store_content object content state)) (P.write (code_of tac plan) to word machine) (λ content e.
      write_does tac plan slabs state machine (store_content object content state) machine (no_effect tac plan state machine) (retyped_in_step tac plan slabs state machine ready.in_step target object content e) to (Address object offset) word
      (retyped_stands tac plan slabs state machine ready.in_step target object content e (Address object offset) (word % 2 ^ 64) (narrow_stands tac.structs state.objects (memory_in tac plan state machine) (λ other at. refl) ready.placed (Address object offset) word stands inside))
      (inside_lasts tac.structs state.objects (with_content object content state.objects) (retyped_lasts tac plan slabs state machine ready.in_step target object content e) (Address object offset) inside)
      (stays_old tac plan slabs state machine ready.in_step target object content e (Address object offset) old))
  repoint_by to target word (Number z) stands inside old = write_does tac plan slabs state machine state machine (no_effect tac plan state machine) ready.in_step to (Number z) word
      (narrow_stands tac.structs state.objects (memory_in tac plan state machine) (λ object offset. refl) ready.placed (Number z) word stands inside) inside old
  repoint_by to target word NoAddress stands inside old = write_does tac plan slabs state machine state machine (no_effect tac plan state machine) ready.in_step to NoAddress word
      (narrow_stands tac.structs state.objects (memory_in tac plan state machine) (λ object offset. refl) ready.placed NoAddress word stands inside) inside old
  repoint_by to target word (Code function) stands inside old = write_does tac plan slabs state machine state machine (no_effect tac plan state machine) ready.in_step to (Code function) word
      (narrow_stands tac.structs state.objects (memory_in tac plan state machine) (λ object offset. refl) ready.placed (Code function) word stands inside) inside old

  pub repoint_does : (to : Register) (target : CType) (from : Register) → PointDoes tac plan slabs state machine (O.Repoint to target from)
  repoint_does to target from =
      let word = machine.running.words from in
      does_looked tac plan slabs machine from state (λ value. repoint here target to value state) (P.write (code_of tac plan) to word machine) (λ value is alive.
      repoint_by to target word value (ready.in_step.running.words from value is) (ready.in_step.running.inside from value is) (ready.in_step.running.old from value is))
