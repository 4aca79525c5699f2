-- Where each object that is there lies, that every range in it can be read, and what is told of an access to it; any two objects lie apart.
use Rattle.std.proofs.Common.{◌≡◌, ℕ, ◌+◌, ◌-◌, ◌*◌, ◌^◌, ◌<◌, ◌≤◌, ◌⊎◌, ◌≢◌, true, List, [], ◌∷◌, length, map, slice_get, Option, Some, None, refl, sym, ap, subst, ◌∙◌, inl, inr, arith}
use Rattle.std.specs.Prelude.{⊤, zero, suc, option_map}
use Rattle.std.proofs.lemmas.Bool.{false≢true, cases_lt}
use Rattle.std.proofs.lemmas.Option.{same_Some}
use Rattle.run_theory.specs.Words.{word_at}
use Rattle.slab_space.specs.Pool.{Object}
use Rattle.slab_space.specs.Pools.{Pools, object_at}
use Rattle.c_typed.specs.Types.{CType, literal_type}
use Rattle.c_typed.specs.Layouts.{StructDef}
use Rattle.c_typed.specs.Typed.{GlobalDef, LiteralDef}
use Rattle.tac_ir.specs.declared.register.Local.{Local}
use Rattle.tac_ir.specs.Values as V
use Rattle.tac_ir.specs.Values.{OfHeap, OfGlobal, OfLiteral, OfActivation, Value, Content, Typed}
use Rattle.tac_ir.specs.Layouts.{Inner, size_of}
use Rattle.tac_ir.specs.Objects.{is_there, extent_of, own_type}
use Rattle.tac_ir.specs.Events.{TacEvent}
use Rattle.tac_ir.specs.States as T
use Rattle.tac_ir.specs.Code.{Tac}
use Rattle.tac_ir.proofs.Activations.{IsStacked}
use Rattle.pool_isa.specs.Machine.{globals_start, number_of}
use Rattle.pool_ir.specs.States.{Activation, State, Same, same}
use Rattle.pool_ir.specs.Memory as M
use Rattle.pool_ir.specs.Memory.{activations_of, number_at}
use Rattle.pool_rewrite.specs.Plan.{Plan}
use Rattle.pool_rewrite.specs.Placing.{global_offset, literal_offset, offset_of_local}
use Rattle.pool_simulation.specs.Regions.{AreApart, frame_end, SoundHeap}
use Rattle.pool_simulation.specs.InStep.{frame_for, running_in, address_in, memory_in, ActivationStands, IsOf, AllocationStands, InStep}
use Rattle.pool_simulation.proofs.FrameRanges.{frames_start}
use Rattle.pool_simulation.proofs.Ranges.{number_by, number_is}
use Rattle.pool_simulation.proofs.Readable.{globals_read, object_reads}
use Rattle.pool_simulation.proofs.Allocations.{live_inside, live_apart, live_found, found_lives, access_tells, access_none}
use Rattle.pool_simulation.proofs.Placed.{global_within, literal_within}
use Rattle.pool_simulation.proofs.StackDepths.{all_below, all_behind, deeper_before, frame_reads, paired, has_at, address_at, OwnedAt, owned_at, local_within, local_behind, frame_apart}

-- ---- ranges below the heap

-- no object of the heap begins there
pub below_heap : (pools : Pools) (address size : ℕ) → SoundHeap pools → address < 2 ^ 44 → object_at pools address size ≡ None
below_heap pools address size heap low = by (object_at pools address size) refl
  where
    by : (found : Option Object) → object_at pools address size ≡ found → found ≡ None
    by None is = refl
    by (Some o) is = let lives = found_lives pools o address size is in absurd (omega (arith, low, (live_inside pools o heap lives.0).1, lives.1))

pub one_extent : (structs : List StructDef) (content : Content) (c_type : CType) (held : ℕ → Option Value) → content ≡ Typed c_type 1 held → extent_of structs content ≡ size_of structs c_type
one_extent structs content c_type held is = ap (extent_of structs) is ∙ once (size_of structs c_type)
  where
    once : (size : ℕ) → 1 * size ≡ size
    once size = omega arith

-- ---- places

-- so many bytes behind the beginning of its frame
abbrev pub place_in : Tac → Plan → T.Activation → Local → ℕ
place_in tac plan owner local = offset_of_local (frame_for tac plan owner.owner).objects local

-- a local that is there: its activation, at a depth, and where in the frame it lies
pub record LocalPlace (tac : Tac) (plan : Plan) (state : T.State) (machine : State) (activation : ℕ) (local : Local) : Type 0 where
  pub depth : ℕ
  pub owner : T.Activation
  pub own : Activation
  pub owner_there : slice_get (running_in state) depth ≡ Some owner
  pub own_there : slice_get (activations_of machine) depth ≡ Some own
  pub number : owner.number ≡ activation
  pub stands : ActivationStands tac plan state (memory_in tac plan state machine) owner own
  pub inner : Inner
  pub typed : own_type (T.objects_of (T.function_of tac owner.owner)) local ≡ Some inner
  pub held : ℕ → Option Value
  pub content : state.objects (OfActivation activation local) ≡ Typed inner.c_type 1 held
  pub is : address_in tac plan state machine (OfActivation activation local) ≡ Some (own.start + place_in tac plan owner local)
  pub within : place_in tac plan owner local + extent_of tac.structs (state.objects (OfActivation activation local)) ≤ length own.bytes
  pub behind : own.kept ≤ place_in tac plan owner local
  pub low : 2 ^ 40 ≤ own.start
  pub below : frame_end own ≤ frame_end machine.running
  pub high : frame_end own ≤ 2 ^ 44

-- a global or literal that is there
pub record StaticPlace (tac : Tac) (plan : Plan) (state : T.State) (machine : State) (object : V.Object) : Type 0 where
  pub offset : ℕ
  pub c_type : CType
  pub held : ℕ → Option Value
  pub content : state.objects object ≡ Typed c_type 1 held
  pub is : address_in tac plan state machine object ≡ Some (globals_start + offset)
  pub within : offset + extent_of tac.structs (state.objects object) ≤ length machine.globals
  pub high : globals_start + length machine.globals ≤ 2 ^ 40

-- an allocation that is there
pub record HeapPlace (tac : Tac) (plan : Plan) (state : T.State) (machine : State) (number : ℕ) : Type 0 where
  pub stands : AllocationStands tac plan state machine number
  pub low : 2 ^ 44 ≤ stands.address
  pub within : stands.address + extent_of tac.structs (state.objects (OfHeap number)) ≤ stands.object.start + length stands.object.bytes
  pub high : stands.object.start + length stands.object.bytes ≤ 2 ^ 45
  pub found : (offset size : ℕ) → 1 ≤ size → offset + size ≤ extent_of tac.structs (state.objects (OfHeap number)) → object_at machine.pools (stands.address + offset) size ≡ Some stands.object

-- any object that is there
pub record Place (tac : Tac) (plan : Plan) (state : T.State) (machine : State) (object : V.Object) : Type 0 where
  pub address : ℕ
  pub is : address_in tac plan state machine object ≡ Some address
  pub low : globals_start ≤ address
  pub high : address + extent_of tac.structs (state.objects object) ≤ 2 ^ 45
  pub reads : (offset size : ℕ) → 1 ≤ size → offset + size ≤ extent_of tac.structs (state.objects object) → (number : ℕ) × (number_at machine (address + offset) size ≡ Some number)
  pub tells : (event : ℕ → TacEvent) (offset size : ℕ) → 1 ≤ size → offset + size ≤ extent_of tac.structs (state.objects object)
      → M.access event machine (address + offset) size ≡ map Same (T.access event object)

-- an object that is none of the activation with this number
abbrev pub OfOther : ℕ → V.Object → Type 0
OfOther number (OfActivation activation local) = activation ≢ number
OfOther number object = ⊤

-- a global or literal has its own type
pub record GlobalHeld (tac : Tac) (state : T.State) (number : ℕ) : Type 0 where
  pub global : GlobalDef
  pub there : slice_get tac.globals number ≡ Some global
  pub held : ℕ → Option Value
  pub content : state.objects (OfGlobal number) ≡ Typed global.c_type 1 held

pub record LiteralHeld (tac : Tac) (state : T.State) (number : ℕ) : Type 0 where
  pub literal : LiteralDef
  pub there : slice_get tac.literals number ≡ Some literal
  pub held : ℕ → Option Value
  pub content : state.objects (OfLiteral number) ≡ Typed (literal_type literal.bytes) 1 held

-- ---- ranges

-- parts of one frame, or of the globals, lie apart as in it
pub moved_apart : (start other_start left right right' size size' extent extent' : ℕ) → start ≡ other_start → right' ≡ right → extent ≡ size → extent' ≡ size' → AreApart left size right size'
    → AreApart (start + left) extent (other_start + right') extent'
moved_apart start other_start left right right' size size' extent extent' e e1 e2 e3 (inl le) = inl (omega (arith, e, e1, e2, e3, le))
moved_apart start other_start left right right' size size' extent extent' e e1 e2 e3 (inr le) = inr (omega (arith, e, e1, e2, e3, le))

-- parts of what lies apart
pub parts_apart : (address extent offset size other other_extent other_offset other_size : ℕ) → AreApart address extent other other_extent → offset + size ≤ extent → other_offset + other_size ≤ other_extent
    → AreApart (address + offset) size (other + other_offset) other_size
parts_apart address extent offset size other other_extent other_offset other_size (inl before) le le' = inl (omega (arith, before, le))
parts_apart address extent offset size other other_extent other_offset other_size (inr behind) le le' = inr (omega (arith, behind, le'))

narrower : (start other size size' extent extent' : ℕ) → extent ≤ size → extent' ≤ size' → AreApart start size other size' → AreApart start extent other extent'
narrower start other size size' extent extent' le le' (inl before) = inl (omega (arith, le, before))
narrower start other size size' extent extent' le le' (inr behind) = inr (omega (arith, le', behind))

deeper_end : (start place size long other other_place other_size other_long : ℕ) → other + other_long ≤ start → other_place + other_size ≤ other_long → other + other_place + other_size ≤ start + place
deeper_end start place size long other other_place other_size other_long le le' = omega (arith, le, le')

both_ways : (a b : ℕ) → a ≤ b → b ≤ a → a ≡ b
both_ways a b le le' = omega arith

module _ (tac : Tac) (plan : Plan) (slabs : ℕ) (state : T.State) (machine : State) (stacked : IsStacked tac state) (in_step : InStep tac plan slabs state machine) where
  abbrev extent : V.Object → ℕ
  extent object = extent_of tac.structs (state.objects object)

  -- ---- locals

  pub local_place : (activation : ℕ) (local : Local) → is_there (state.objects (OfActivation activation local)) ≡ true → LocalPlace tac plan state machine activation local
  local_place activation local there = by (owned_at tac (running_in state) activation local (in_step.owned activation local there))
    where
      ends : (place extent size long frame : ℕ) → place + size ≤ frame → long ≡ frame → extent ≡ size → place + extent ≤ long
      ends place extent size long frame le e e' = omega (arith, le, e, e')

      by : OwnedAt tac (running_in state) activation local → LocalPlace tac plan state machine activation local
      by at =
          let pair = paired tac plan state (memory_in tac plan state machine) state.running state.callers machine.running machine.callers at.depth at.owner in_step.running in_step.callers at.there in
          let has = has_at tac plan state.objects state.running state.callers at.depth at.owner stacked.1 stacked.2 at.there local at.has.0 at.has.1 in
          let content : state.objects (OfActivation activation local) ≡ Typed at.has.0.c_type 1 has.0 = ap (λ (n : ℕ). state.objects (OfActivation n local)) (sym at.number) ∙ has.1 in
          let below = all_below machine.running machine.callers at.depth pair.own in_step.regions.frames pair.there in
          record {
            depth = at.depth;
            owner = at.owner;
            own = pair.own;
            owner_there = at.there;
            own_there = pair.there;
            number = at.number;
            stands = pair.stands;
            inner = at.has.0;
            typed = at.has.1;
            held = has.0;
            content = content;
            is = subst (λ (n : ℕ). address_in tac plan state machine (OfActivation n local) ≡ Some (pair.own.start + place_in tac plan at.owner local)) at.number
                (address_at tac plan state.objects state.running state.callers machine.running machine.callers at.depth at.owner pair.own local stacked.2 at.there pair.there);
            within = ends (place_in tac plan at.owner local) (extent (OfActivation activation local)) (size_of tac.structs at.has.0.c_type) (length pair.own.bytes) (frame_for tac plan at.owner.owner).size
                (local_within tac plan at.owner.owner local at.has.0 at.has.1) pair.stands.long (one_extent tac.structs (state.objects (OfActivation activation local)) at.has.0.c_type has.0 content);
            behind = subst (λ (n : ℕ). n ≤ place_in tac plan at.owner local) (sym pair.stands.kept) (local_behind tac plan at.owner.owner local at.has.0 at.has.1);
            low = all_behind machine.running machine.callers at.depth pair.own in_step.regions.frames pair.there;
            below = below;
            high = omega (arith, below, in_step.regions.below);
          }

  pub local_reads : (activation : ℕ) (local : Local) (at : LocalPlace tac plan state machine activation local) (offset size : ℕ) → 1 ≤ size → offset + size ≤ extent (OfActivation activation local)
      → number_at machine (at.own.start + place_in tac plan at.owner local + offset) size ≡ Some (word_at at.own.bytes (at.own.start + place_in tac plan at.owner local + offset - at.own.start) size)
  local_reads activation local at offset size some le =
      let address = at.own.start + place_in tac plan at.owner local + offset in
      number_is machine address size
      ∙ ap (λ f. number_by f machine.globals machine.pools address size)
      (frame_reads machine.running machine.callers at.depth at.own address size in_step.regions.frames at.own_there (begins at.own.start at.own.kept (place_in tac plan at.owner local) offset at.behind)
      (ends at.own.start (place_in tac plan at.owner local) offset size (extent (OfActivation activation local)) (length at.own.bytes) le at.within) some)
    where
      begins : (start kept place offset : ℕ) → kept ≤ place → start + kept ≤ start + place + offset
      begins start kept place offset le = omega (arith, le)

      ends : (start place offset size extent long : ℕ) → offset + size ≤ extent → place + extent ≤ long → start + place + offset + size ≤ start + long
      ends start place offset size extent long le le' = omega (arith, le, le')

  pub locals_lie_apart : (activation : ℕ) (local : Local) (another : ℕ) (other : Local) (at : LocalPlace tac plan state machine activation local) (to : LocalPlace tac plan state machine another other)
      → (OfActivation activation local ≡ OfActivation another other)
      ⊎ AreApart (at.own.start + place_in tac plan at.owner local) (extent (OfActivation activation local)) (to.own.start + place_in tac plan to.owner other) (extent (OfActivation another other))
  locals_lie_apart activation local another other at to = by (cases_lt at.depth to.depth) (cases_lt to.depth at.depth)
    where
      one_frame : at.owner ≡ to.owner → at.own ≡ to.own
          → (local ≡ other) ⊎ AreApart (place_in tac plan at.owner local) (size_of tac.structs at.inner.c_type) (place_in tac plan at.owner other) (size_of tac.structs to.inner.c_type)
          → (OfActivation activation local ≡ OfActivation another other)
          ⊎ AreApart (at.own.start + place_in tac plan at.owner local) (extent (OfActivation activation local)) (to.own.start + place_in tac plan to.owner other) (extent (OfActivation another other))
      one_frame same too (inl e) =
          let numbers : activation ≡ another = sym at.number ∙ ap (λ (a : T.Activation). a.number) same ∙ to.number in
          inl (λ i. OfActivation (numbers i) (e i))
      one_frame same too (inr apart) =
          inr (moved_apart at.own.start to.own.start (place_in tac plan at.owner local) (place_in tac plan at.owner other) (place_in tac plan to.owner other) (size_of tac.structs at.inner.c_type) (size_of tac.structs to.inner.c_type)
          (extent (OfActivation activation local)) (extent (OfActivation another other)) (ap (λ (a : Activation). a.start) too) (ap (λ (a : T.Activation). place_in tac plan a other) (sym same))
          (one_extent tac.structs (state.objects (OfActivation activation local)) at.inner.c_type at.held at.content) (one_extent tac.structs (state.objects (OfActivation another other)) to.inner.c_type to.held to.content) apart)

      at_one_depth : at.depth ≡ to.depth
          → (OfActivation activation local ≡ OfActivation another other)
          ⊎ AreApart (at.own.start + place_in tac plan at.owner local) (extent (OfActivation activation local)) (to.own.start + place_in tac plan to.owner other) (extent (OfActivation another other))
      at_one_depth e =
          let same : at.owner ≡ to.owner = same_Some at.owner to.owner (sym at.owner_there ∙ ap (slice_get (running_in state)) e ∙ to.owner_there) in
          let too : at.own ≡ to.own = same_Some at.own to.own (sym at.own_there ∙ ap (slice_get (activations_of machine)) e ∙ to.own_there) in
          one_frame same too (frame_apart tac plan at.owner.owner local other at.inner to.inner at.typed
          (subst (λ (a : T.Activation). own_type (T.objects_of (T.function_of tac a.owner)) other ≡ Some to.inner) (sym same) to.typed))

      by : (at.depth < to.depth) ⊎ (to.depth ≤ at.depth) → (to.depth < at.depth) ⊎ (at.depth ≤ to.depth)
          → (OfActivation activation local ≡ OfActivation another other)
          ⊎ AreApart (at.own.start + place_in tac plan at.owner local) (extent (OfActivation activation local)) (to.own.start + place_in tac plan to.owner other) (extent (OfActivation another other))
      by (inl deeper) order =
          inr (inr (deeper_end at.own.start (place_in tac plan at.owner local) (extent (OfActivation activation local)) (length at.own.bytes) to.own.start (place_in tac plan to.owner other) (extent (OfActivation another other))
          (length to.own.bytes) (deeper_before machine.running machine.callers at.depth to.depth at.own to.own in_step.regions.frames at.own_there to.own_there deeper) to.within))
      by (inr above) (inl deeper) =
          inr (inl (deeper_end to.own.start (place_in tac plan to.owner other) (extent (OfActivation another other)) (length to.own.bytes) at.own.start (place_in tac plan at.owner local) (extent (OfActivation activation local))
          (length at.own.bytes) (deeper_before machine.running machine.callers to.depth at.depth to.own at.own in_step.regions.frames to.own_there at.own_there deeper) at.within))
      by (inr above) (inr below) = at_one_depth (both_ways at.depth to.depth below above)

  -- ---- globals and literals

  pub global_held : (number : ℕ) → is_there (state.objects (OfGlobal number)) ≡ true → GlobalHeld tac state number
  global_held number there = by (slice_get tac.globals number) refl (in_step.globals number)
    where
      by : (found : Option GlobalDef) → slice_get tac.globals number ≡ found → IsOf (option_map (λ (global : GlobalDef). global.c_type) found) (state.objects (OfGlobal number)) → GlobalHeld tac state number
      by None e none = absurd (false≢true (sym none ∙ there))
      by (Some global) e is = record { global = global; there = e; held = is.0; content = is.1 }

  pub literal_held : (number : ℕ) → is_there (state.objects (OfLiteral number)) ≡ true → LiteralHeld tac state number
  literal_held number there = by (slice_get tac.literals number) refl (in_step.literals number)
    where
      by : (found : Option LiteralDef) → slice_get tac.literals number ≡ found → IsOf (option_map (λ (literal : LiteralDef). literal_type literal.bytes) found) (state.objects (OfLiteral number)) → LiteralHeld tac state number
      by None e none = absurd (false≢true (sym none ∙ there))
      by (Some literal) e is = record { literal = literal; there = e; held = is.0; content = is.1 }

  static_ends : (offset extent size long statics : ℕ) → offset + size ≤ statics → long ≡ statics → extent ≡ size → offset + extent ≤ long
  static_ends offset extent size long statics le e e' = omega (arith, le, e, e')

  pub global_place : (number : ℕ) → is_there (state.objects (OfGlobal number)) ≡ true → StaticPlace tac plan state machine (OfGlobal number)
  global_place number there =
      let at = global_held number there in
      record {
        offset = global_offset tac number;
        c_type = at.global.c_type;
        held = at.held;
        content = at.content;
        is = refl;
        within = static_ends (global_offset tac number) (extent (OfGlobal number)) (size_of tac.structs at.global.c_type) (length machine.globals) _ (global_within tac number at.global at.there) in_step.statics
            (one_extent tac.structs (state.objects (OfGlobal number)) at.global.c_type at.held at.content);
        high = in_step.regions.globals;
      }

  pub literal_place : (number : ℕ) → is_there (state.objects (OfLiteral number)) ≡ true → StaticPlace tac plan state machine (OfLiteral number)
  literal_place number there =
      let at = literal_held number there in
      record {
        offset = literal_offset tac number;
        c_type = literal_type at.literal.bytes;
        held = at.held;
        content = at.content;
        is = refl;
        within = static_ends (literal_offset tac number) (extent (OfLiteral number)) (size_of tac.structs (literal_type at.literal.bytes)) (length machine.globals) _ (literal_within tac number at.literal at.there) in_step.statics
            (one_extent tac.structs (state.objects (OfLiteral number)) (literal_type at.literal.bytes) at.held at.content);
        high = in_step.regions.globals;
      }

  pub static_reads : (object : V.Object) (at : StaticPlace tac plan state machine object) (offset size : ℕ) → 1 ≤ size → offset + size ≤ extent object
      → number_at machine (globals_start + at.offset + offset) size ≡ Some (word_at machine.globals (globals_start + at.offset + offset - globals_start) size)
  static_reads object at offset size some le =
      globals_read machine (globals_start + at.offset + offset) size in_step.regions (omega arith) (ends at.offset offset size (extent object) (length machine.globals) le at.within) some
    where
      ends : (place offset size extent long : ℕ) → offset + size ≤ extent → place + extent ≤ long → globals_start + place + offset + size ≤ globals_start + long
      ends place offset size extent long le le' = omega (arith, le, le')

  -- ---- allocations

  pub heap_place : (number : ℕ) → is_there (state.objects (OfHeap number)) ≡ true → HeapPlace tac plan state machine number
  heap_place number there = by (in_step.allocations number there)
    where
      by : AllocationStands tac plan state machine number → HeapPlace tac plan state machine number
      by stands =
          let inside = live_inside machine.pools stands.object in_step.regions.heap stands.lives in
          record {
            stands = stands;
            low = omega (arith, inside.1, stands.begins);
            within = omega (arith, stands.begins, stands.long);
            high = inside.2;
            found = λ offset size some le.
                live_found machine.pools stands.object (stands.address + offset) size in_step.regions.heap stands.lives (omega (arith, stands.begins)) (omega (arith, stands.begins, stands.long, le)) some;
          }

  pub heap_reads : (number : ℕ) (at : HeapPlace tac plan state machine number) (offset size : ℕ) → 1 ≤ size → offset + size ≤ extent (OfHeap number)
      → number_at machine (at.stands.address + offset) size ≡ Some (word_at at.stands.object.bytes (at.stands.address + offset - at.stands.object.start) size)
  heap_reads number at offset size some le =
      object_reads machine at.stands.object (at.stands.address + offset) size in_step.regions at.stands.lives (omega (arith, at.stands.begins)) (omega (arith, at.stands.begins, at.stands.long, le)) some

  pub allocations_lie_apart : (number other : ℕ) (at : HeapPlace tac plan state machine number) (to : HeapPlace tac plan state machine other)
      → (OfHeap number ≡ OfHeap other) ⊎ AreApart at.stands.address (extent (OfHeap number)) to.stands.address (extent (OfHeap other))
  allocations_lie_apart number other at to = by (live_apart machine.pools at.stands.object to.stands.object in_step.regions.heap at.stands.lives to.stands.lives)
    where
      by : (at.stands.object ≡ to.stands.object) ⊎ AreApart at.stands.object.start (length at.stands.object.bytes) to.stands.object.start (length to.stands.object.bytes)
          → (OfHeap number ≡ OfHeap other) ⊎ AreApart at.stands.address (extent (OfHeap number)) to.stands.address (extent (OfHeap other))
      by (inl same) =
          let place : at.stands.address ≡ to.stands.address = sym at.stands.begins ∙ ap (λ (o : Object). o.start) same ∙ to.stands.begins in
          inl (ap OfHeap (sym at.stands.told ∙ ap (number_of machine.placed) place ∙ to.stands.told))
      by (inr apart) =
          inr (narrower at.stands.address to.stands.address (length at.stands.object.bytes) (length to.stands.object.bytes) (extent (OfHeap number)) (extent (OfHeap other)) at.stands.long to.stands.long
          (subst (λ (start : ℕ). AreApart start (length at.stands.object.bytes) to.stands.address (length to.stands.object.bytes)) at.stands.begins
          (subst (λ (start : ℕ). AreApart at.stands.object.start (length at.stands.object.bytes) start (length to.stands.object.bytes)) to.stands.begins apart)))

  -- ---- all objects

  pub local_whole : (activation : ℕ) (local : Local) → LocalPlace tac plan state machine activation local → Place tac plan state machine (OfActivation activation local)
  local_whole activation local at = record {
    address = at.own.start + place_in tac plan at.owner local;
    is = at.is;
    low = omega (arith, at.low);
    high = omega (arith, at.within, at.high);
    reads = λ offset size some le. (word_at at.own.bytes (at.own.start + place_in tac plan at.owner local + offset - at.own.start) size, local_reads activation local at offset size some le);
    tells = λ event offset size some le.
        access_none event machine (at.own.start + place_in tac plan at.owner local + offset) size
        (below_heap machine.pools (at.own.start + place_in tac plan at.owner local + offset) size in_step.regions.heap
        (ends at.own.start (place_in tac plan at.owner local) offset size (extent (OfActivation activation local)) (length at.own.bytes) some le at.within at.high));
  }
    where
      ends : (start place offset size extent long : ℕ) → 1 ≤ size → offset + size ≤ extent → place + extent ≤ long → start + long ≤ 2 ^ 44 → start + place + offset < 2 ^ 44
      ends start place offset size extent long some le le' high = omega (arith, some, le, le', high)

  pub static_whole : (object : V.Object) → ((event : ℕ → TacEvent) → T.access event object ≡ []) → StaticPlace tac plan state machine object → Place tac plan state machine object
  static_whole object silent at = record {
    address = globals_start + at.offset;
    is = at.is;
    low = omega arith;
    high = omega (arith, at.within, at.high);
    reads = λ offset size some le. (word_at machine.globals (globals_start + at.offset + offset - globals_start) size, static_reads object at offset size some le);
    tells = λ event offset size some le.
        access_none event machine (globals_start + at.offset + offset) size
        (below_heap machine.pools (globals_start + at.offset + offset) size in_step.regions.heap (ends at.offset offset size (extent object) (length machine.globals) le at.within at.high))
        ∙ sym (ap (map Same) (silent event));
  }
    where
      ends : (place offset size extent long : ℕ) → offset + size ≤ extent → place + extent ≤ long → globals_start + long ≤ 2 ^ 40 → globals_start + place + offset < 2 ^ 44
      ends place offset size extent long le le' high = omega (arith, le, le', high)

  pub heap_whole : (number : ℕ) → HeapPlace tac plan state machine number → Place tac plan state machine (OfHeap number)
  heap_whole number at = record {
    address = at.stands.address;
    is = at.stands.is;
    low = omega (arith, at.low);
    high = omega (arith, at.within, at.high);
    reads = λ offset size some le. (word_at at.stands.object.bytes (at.stands.address + offset - at.stands.object.start) size, heap_reads number at offset size some le);
    tells = λ event offset size some le.
        access_tells event machine (at.stands.address + offset) size number at.stands.object (at.found offset size some le) (ap (number_of machine.placed) at.stands.begins ∙ at.stands.told);
  }

  pub place : (object : V.Object) → is_there (state.objects object) ≡ true → Place tac plan state machine object
  place (OfHeap number) there = heap_whole number (heap_place number there)
  place (OfGlobal number) there = static_whole (OfGlobal number) (λ event. refl) (global_place number there)
  place (OfLiteral number) there = static_whole (OfLiteral number) (λ event. refl) (literal_place number there)
  place (OfActivation activation local) there = local_whole activation local (local_place activation local there)

  -- what is told of an access is the same
  pub same_access : (object : V.Object) (at : Place tac plan state machine object) (event : ℕ → TacEvent) (offset size : ℕ) → 1 ≤ size → offset + size ≤ extent object
      → same (M.access event machine (at.address + offset) size) ≡ T.access event object
  same_access object at event offset size some le = ap same (at.tells event offset size some le) ∙ told (T.access event object)
    where
      told : (events : List TacEvent) → same (map Same events) ≡ events
      told [] = refl
      told (first ∷ others) = ap (λ (events : List TacEvent). first ∷ events) (told others)

  -- ---- the frame of what runs

  -- what is no local of what runs lies apart from its frame
  pub apart_from_running : (object : V.Object) (address offset size : ℕ) → is_there (state.objects object) ≡ true → OfOther state.running.number object → address_in tac plan state machine object ≡ Some address
      → offset + size ≤ extent object → AreApart (address + offset) size machine.running.start (length machine.running.bytes)
  apart_from_running (OfHeap number) address offset size there differs e le =
      let at = heap_place number there in let same = same_Some at.stands.address address (sym at.stands.is ∙ e) in inr (omega (arith, at.low, same, in_step.regions.below))
  apart_from_running (OfGlobal number) address offset size there differs e le =
      let at = global_place number there in let same = same_Some (globals_start + at.offset) address (sym at.is ∙ e) in
      inl (omega (arith, at.within, at.high, same, le, frames_start machine.running machine.callers in_step.regions.frames))
  apart_from_running (OfLiteral number) address offset size there differs e le =
      let at = literal_place number there in let same = same_Some (globals_start + at.offset) address (sym at.is ∙ e) in
      inl (omega (arith, at.within, at.high, same, le, frames_start machine.running machine.callers in_step.regions.frames))
  apart_from_running (OfActivation activation local) address offset size there differs e le = by at at.depth refl
    where
      at : LocalPlace tac plan state machine activation local
      at = local_place activation local there

      ends : (start place offset size extent long address next : ℕ) → offset + size ≤ extent → place + extent ≤ long → start + long ≤ next → start + place ≡ address → address + offset + size ≤ next
      ends start place offset size extent long address next le le' le'' e = omega (arith, le, le', le'', e)

      by : (at : LocalPlace tac plan state machine activation local) (depth : ℕ) → at.depth ≡ depth → AreApart (address + offset) size machine.running.start (length machine.running.bytes)
      by at zero is =
          let same : state.running ≡ at.owner = same_Some state.running at.owner (sym (ap (slice_get (running_in state)) is) ∙ at.owner_there) in
          absurd (differs (sym at.number ∙ sym (ap (λ (a : T.Activation). a.number) same)))
      by at (suc depth) is =
          let before = deeper_before machine.running machine.callers 0 at.depth machine.running at.own in_step.regions.frames refl at.own_there (omega (arith, is)) in
          inl (ends at.own.start (place_in tac plan at.owner local) offset size (extent (OfActivation activation local)) (length at.own.bytes) address machine.running.start le at.within before
          (same_Some (at.own.start + place_in tac plan at.owner local) address (sym at.is ∙ e)))
