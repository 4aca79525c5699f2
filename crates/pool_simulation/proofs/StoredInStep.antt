-- A scalar is stored: states that were in step are so with the value in its object, and with its word in memory.
use Rattle.std.proofs.Common.{◌≡◌, ℕ, zero, suc, ◌+◌, ◌*◌, ◌%◌, ◌^◌, ◌<◌, ◌≤◌, ◌==◌, ◌⊎◌, inl, inr, Bool, true, false, if◌then◌else◌, List, [], ◌∷◌, length, map, reverse, slice_get, eq-eqb, Option, Some, None, refl, sym, ap, subst, ◌∙◌, eqb-true, arith}
use Rattle.std.specs.Prelude.{option_map}
use Rattle.std.proofs.lemmas.Bool.{false≢true}
use Rattle.std.proofs.lemmas.Option.{same_Some}
use Rattle.c_typed.specs.Types.{CType, literal_type}
use Rattle.c_typed.specs.Layouts.{layouts}
use Rattle.c_typed.specs.Typed.{GlobalDef, LiteralDef}
use Rattle.slab_space.specs.Pool.{Object}
use Rattle.slab_space.specs.Pools.{Pools, store_step, objects}
use Rattle.slab_space.specs.Needs.{HavePlaced, after_store}
use Rattle.tac_ir.specs.Values as V
use Rattle.tac_ir.specs.Values.{OfHeap, OfGlobal, OfLiteral, OfActivation, same_object, Value, Content, Absent, Untyped, Typed, Objects, with_held}
use Rattle.tac_ir.specs.Layouts.{size_of, leaf_at, leaves_in, leaves_by_tag}
use Rattle.tac_ir.specs.Objects.{is_there, extent_of, fits, held_at, holding}
use Rattle.tac_ir.specs.States as T
use Rattle.tac_ir.specs.States.{store_content}
use Rattle.tac_ir.specs.Code.{Tac}
use Rattle.pool_isa.specs.Machine.{number_of}
use Rattle.pool_ir.specs.States as P
use Rattle.pool_ir.specs.Memory.{number_at, with_number, slot_size, slot_word}
use Rattle.pool_rewrite.specs.Plan.{Plan}
use Rattle.pool_rewrite.specs.Rewriting.{slot_of}
use Rattle.pool_rewrite.specs.Standing.{MemoryMap, Stands, ContentStands}
use Rattle.pool_simulation.specs.Regions.{AreApart, IsIn, Lives, Regions}
use Rattle.pool_simulation.specs.Placed.{Placed, IsInside, Lasts}
use Rattle.pool_simulation.specs.InStep.{address_in, memory_in, IsOld, ActivationStands, CallersStand, IsOf, AllocationStands, InStep}
use Rattle.pool_simulation.proofs.SameObjects.{same_object-true, same_object-refl}
use Rattle.pool_simulation.proofs.LastingWords.{lasts_holding, stands_lasts, hold_holding}
use Rattle.pool_simulation.proofs.LiveCells.{long_written}
use Rattle.pool_simulation.proofs.SoundPools.{writing}
use Rattle.pool_simulation.proofs.PoolObjects.{with_written, store_is, objects_written}
use Rattle.pool_simulation.proofs.Ranges.{Wrote, wrote, wrote_regions}
use Rattle.pool_simulation.specs.ExactTypes.{IsExact}
use Rattle.pool_simulation.proofs.LeavesApart.{at_element, leaf_within, leaves_apart, StandsIn}
use Rattle.pool_simulation.proofs.InStepWords.{old_rises, slot_word-same, same_memory}
use Rattle.pool_simulation.proofs.SlotWords.{slot_reads}
use Rattle.pool_simulation.proofs.KeptActivations.{activation_kept, callers_kept, locals_same, callers_same}

-- ---- what a write makes of the pools

in_written : (address width word : ℕ) (o : Object) (os : List Object) → IsIn o os → IsIn (writing address width word o) (map (writing address width word) os)
in_written address width word o [] is = absurd is
in_written address width word o (first ∷ os) (inl e) = inl (ap (writing address width word) e)
in_written address width word o (first ∷ os) (inr is) = inr (in_written address width word o os is)

module _ (machine later : P.State) (address size word : ℕ) (stored : with_number machine address size word ≡ Some later) where
  all : Wrote machine address size word later
  all = wrote machine address size word later stored

  -- an object that lives, lives where it did, with as many bytes
  pub still_lives : (o : Object) → Lives machine.pools o → (x : Object) × Lives later.pools x × (x.start ≡ o.start) × (length x.bytes ≡ length o.bytes)
  still_lives o lives = by all.pools
    where
      by : (later.pools ≡ machine.pools) ⊎ (store_step machine.pools address size word ≡ Some later.pools) → (x : Object) × Lives later.pools x × (x.start ≡ o.start) × (length x.bytes ≡ length o.bytes)
      by (inl same) = (o, subst (λ (p : Pools). Lives p o) (sym same) lives, refl, refl)
      by (inr done) =
          let new = writing address size word o in
          let lives_there : Lives (with_written address size word machine.pools) new =
          subst (IsIn new) (sym (objects_written address size word machine.pools.pools)) (in_written address size word o (objects machine.pools) lives) in
          (new, subst (λ (p : Pools). Lives p new) (sym (store_is address size word machine.pools later.pools done)) lives_there, refl, long_written address size word o)

  -- the same objects were placed, in as many slabs
  pub still_placed : (slabs : ℕ) (sizes : List ℕ) → HavePlaced slabs machine.pools sizes → HavePlaced slabs later.pools sizes
  still_placed slabs sizes placed = by all.pools
    where
      by : (later.pools ≡ machine.pools) ⊎ (store_step machine.pools address size word ≡ Some later.pools) → HavePlaced slabs later.pools sizes
      by (inl same) = subst (λ (p : Pools). HavePlaced slabs p sizes) (sym same) placed
      by (inr done) = after_store machine.pools later.pools sizes address size word placed done

  pub still_regions : (regions : Regions machine) → Regions later
  still_regions regions = wrote_regions machine later address size word regions stored

-- ---- what objects hold

-- a static object keeps its type
of_holding : (found : Option CType) (offset : ℕ) (value : Value) (content : Content) → IsOf found content → IsOf found (holding offset value content)
of_holding None offset value Absent is = is
of_holding None offset value (Untyped size) is = is
of_holding None offset value (Typed c_type count held) is = is
of_holding (Some c_type) offset value content is = (with_held offset value is.0, ap (holding offset value) is.1)

of_stored : (found : Option CType) (offset : ℕ) (value : Value) (content own : Content) (b : Bool) → (b ≡ true → content ≡ own) → IsOf found own → IsOf found (if b then holding offset value content else own)
of_stored found offset value content own true same is = of_holding found offset value content (subst (IsOf found) (sym (same refl)) is)
of_stored found offset value content own false same is = is

holding_extent : (tac : Tac) (offset : ℕ) (value : Value) (content : Content) → extent_of tac.structs (holding offset value content) ≡ extent_of tac.structs content
holding_extent tac offset value Absent = refl
holding_extent tac offset value (Untyped size) = refl
holding_extent tac offset value (Typed c_type count held) = refl

-- what is held after a store was stored, or was held before
held_stored : (held : ℕ → Option Value) (offset other : ℕ) (value found : Value) (b : Bool) → (if b then Some value else held other) ≡ Some found → (value ≡ found) ⊎ (held other ≡ Some found)
held_stored held offset other value found true is = inl (same_Some value found is)
held_stored held offset other value found false is = inr is

held_holding : (offset other : ℕ) (value found : Value) (content : Content) → held_at other (holding offset value content) ≡ Some found → (value ≡ found) ⊎ (held_at other content ≡ Some found)
held_holding offset other value found Absent is = inr is
held_holding offset other value found (Untyped size) is = inr is
held_holding offset other value found (Typed c_type count held) is = held_stored held offset other value found (offset == other) is

-- ---- ranges

element_small : (size count limit : ℕ) → 0 < count → count * size ≤ limit → size ≤ limit
element_small size zero limit some le = absurd (omega (arith, some))
element_small size (suc count) limit some le = omega (arith, le)

-- a type is told exactly where an object with a scalar of it lies in memory
pub exact_there : (tac : Tac) (c_type own : CType) (count offset address : ℕ) → leaf_at tac.structs c_type count offset ≡ Some own → address + count * size_of tac.structs c_type ≤ 2 ^ 46 → IsExact tac.structs c_type
exact_there tac c_type own count offset address leaf most =
    let element = at_element (size_of tac.structs c_type) count (leaves_in (layouts tac.structs) (leaves_by_tag tac.structs) c_type) offset own leaf in
    let small = element_small (size_of tac.structs c_type) count (2 ^ 46) (omega (arith, element.below)) (omega (arith, most)) in
    omega (arith, small)

-- parts of ranges that lie apart do so
parts_apart : (address size other width offset part other_offset other_part : ℕ) → offset + part ≤ size → other_offset + other_part ≤ width → AreApart address size other width
    → AreApart (address + offset) part (other + other_offset) other_part
parts_apart address size other width offset part other_offset other_part within other_within (inl before) = inl (omega (arith, within, before))
parts_apart address size other width offset part other_offset other_part within other_within (inr behind) = inr (omega (arith, other_within, behind))

behind_apart : (address offset part other_offset other_part : ℕ) → AreApart offset part other_offset other_part → AreApart (address + offset) part (address + other_offset) other_part
behind_apart address offset part other_offset other_part (inl before) = inl (omega (arith, before))
behind_apart address offset part other_offset other_part (inr behind) = inr (omega (arith, behind))

-- ---- a store

module _ (tac : Tac) (plan : Plan) (slabs : ℕ) (state : T.State) (machine later : P.State) (in_step : InStep tac plan slabs state machine) (placed : Placed tac.structs (memory_in tac plan state machine) state.objects)
    (object : V.Object) (scalar : CType) (offset address word : ℕ) (value : Value) (is : address_in tac plan state machine object ≡ Some address) (at : StandsIn tac.structs scalar offset (state.objects object))
    (stands : Stands state.objects (memory_in tac plan state machine) value word) (inside : IsInside tac.structs state.objects value) (old : IsOld state value)
    (stored : with_number machine (address + offset) (slot_size (slot_of scalar)) word ≡ Some later) where
  abbrev size : ℕ
  size = slot_size (slot_of scalar)

  abbrev new : Content
  new = holding offset value (state.objects object)

  abbrev next : T.State
  next = store_content object new state

  abbrev memory : MemoryMap
  memory = memory_in tac plan state machine

  all_done : Wrote machine (address + offset) size word later
  all_done = wrote machine (address + offset) size word later stored

  lasts : Lasts tac.structs state.objects next.objects
  lasts = lasts_holding tac.structs state.objects object offset value

  heap_same : state.next_heap ≤ next.next_heap
  heap_same = omega arith

  activations_same : state.next_activation ≤ next.next_activation
  activations_same = omega arith

  -- ---- memory

  address_after : (other : V.Object) → address_in tac plan next later other ≡ address_in tac plan state machine other
  address_after (OfHeap zero) = refl
  address_after (OfHeap (suc number)) = ap (λ (starts : List ℕ). slice_get (reverse starts) number) all_done.same.placed
  address_after (OfGlobal number) = refl
  address_after (OfLiteral number) = refl
  address_after (OfActivation activation local) =
      locals_same tac plan (state.running ∷ map (λ (waiting : ℕ × T.Activation). waiting.1) state.callers) machine.running later.running machine.callers later.callers activation local all_done.same.running all_done.same.callers

  extent_by : (other : V.Object) (b : Bool) → same_object object other ≡ b → extent_of tac.structs (if b then new else state.objects other) ≡ extent_of tac.structs (state.objects other)
  extent_by other true same = holding_extent tac offset value (state.objects object) ∙ ap (λ o. extent_of tac.structs (state.objects o)) (same_object-true object other same)
  extent_by other false same = refl

  extent_after : (other : V.Object) → extent_of tac.structs (next.objects other) ≡ extent_of tac.structs (state.objects other)
  extent_after other = extent_by other (same_object object other) refl

  memory_after : memory_in tac plan next later ≡ memory
  memory_after = same_memory tac plan state next machine later address_after extent_after

  -- ---- contents

  -- an object with a type that is there lies in memory, and its type is told exactly
  exact_in : (other : V.Object) (c_type own : CType) (count distance start : ℕ) (held : ℕ → Option Value) → state.objects other ≡ Typed c_type count held → leaf_at tac.structs c_type count distance ≡ Some own → IsExact tac.structs c_type
  exact_in other c_type own count distance start held content leaf =
      let place = placed.there other (ap is_there content) in
      exact_there tac c_type own count distance place.0 leaf (subst (λ (n : ℕ). place.0 + n ≤ 2 ^ 46) (ap (extent_of tac.structs) content) place.3)

  -- a scalar of the state before that lies apart from what was stored
  apart_stays : (other : V.Object) (own : CType) (distance start number : ℕ) (found : Value) → AreApart (address + offset) size (start + distance) (slot_size (slot_of own))
      → number_at machine (start + distance) (slot_size (slot_of own)) ≡ Some number → Stands state.objects memory found (slot_word machine (slot_of own) number)
      → (number : ℕ) × (number_at later (start + distance) (slot_size (slot_of own)) ≡ Some number) × Stands next.objects memory found (slot_word later (slot_of own) number)
  apart_stays other own distance start number found apart read stood = (
    number,
    all_done.apart (start + distance) (slot_size (slot_of own)) apart ∙ read,
    stands_lasts tac.structs state.objects next.objects lasts memory found (slot_word later (slot_of own) number)
        (subst (Stands state.objects memory found) (sym (slot_word-same machine later own number)) stood),
  )

  -- what was stored
  value_reads : fits scalar value ≡ true → (number : ℕ) × (number_at later (address + offset) size ≡ Some number) × Stands next.objects memory value (slot_word later (slot_of scalar) number)
  value_reads fit = (
    word % 2 ^ (8 * size),
    all_done.reads,
    stands_lasts tac.structs state.objects next.objects lasts memory value (slot_word later (slot_of scalar) (word % 2 ^ (8 * size)))
        (slot_reads tac.structs state.objects memory later scalar value word (λ other distance. refl) placed inside fit stands),
  )

  -- where a scalar of a state is told to stand
  abbrev ScalarStands : CType → Value → ℕ → ℕ → Type 0
  ScalarStands own found distance start = (number : ℕ) × (number_at later (start + distance) (slot_size (slot_of own)) ≡ Some number) × Stands next.objects memory found (slot_word later (slot_of own) number)

  own_by : (distance : ℕ) (own : CType) (found : Value) (b : Bool) → (offset == distance) ≡ b → leaf_at tac.structs at.c_type at.count distance ≡ Some own → (if b then Some value else at.held distance) ≡ Some found
      → fits own found ≡ true → ScalarStands own found distance address
  own_by distance own found true here leaf is_held fit =
      let there : offset ≡ distance = eqb-true offset distance here in
      let value_is : value ≡ found = same_Some value found is_held in
      let own_is : scalar ≡ own = same_Some scalar own (sym at.leaf ∙ ap (leaf_at tac.structs at.c_type at.count) there ∙ leaf) in
      subst (λ (d : ℕ). ScalarStands own found d address) there
      (subst (λ (v : Value). ScalarStands own v offset address) value_is
      (subst (λ (c : CType). ScalarStands c value offset address) own_is
      (value_reads (subst (λ (c : CType). fits c value ≡ true) (sym own_is) (subst (λ (v : Value). fits own v ≡ true) (sym value_is) fit)))))
  own_by distance own found false elsewhere leaf is_held fit =
      let before = subst (ContentStands tac.structs state.objects memory machine object) at.is (in_step.contents object) in
      let was = before distance own found leaf is_held fit address is in
      let exact = exact_in object at.c_type scalar at.count offset address at.held at.is at.leaf in
      apart_by (leaves_apart tac.structs at.c_type at.count offset distance scalar own exact at.leaf leaf) was
    where
      apart_by : (offset ≡ distance) ⊎ AreApart offset size distance (slot_size (slot_of own))
          → (number : ℕ) × (number_at machine (address + distance) (slot_size (slot_of own)) ≡ Some number) × Stands state.objects memory found (slot_word machine (slot_of own) number) → ScalarStands own found distance address
      apart_by (inl same) was = absurd (false≢true (sym elsewhere ∙ eq-eqb offset distance same))
      apart_by (inr apart) was = apart_stays object own distance address was.0 found (behind_apart address offset size distance (slot_size (slot_of own)) apart) was.1 was.2

  own_content : ContentStands tac.structs next.objects memory later object new
  own_content =
      subst (λ (content : Content). ContentStands tac.structs next.objects memory later object (holding offset value content)) (sym at.is)
      (λ distance own found leaf is_held fit start start_is.
      subst (ScalarStands own found distance) (same_Some address start (sym is ∙ start_is)) (own_by distance own found (offset == distance) refl leaf is_held fit))

  other_content : (other : V.Object) (content : Content) → same_object object other ≡ false → state.objects other ≡ content → ContentStands tac.structs next.objects memory later other content
  other_content other Absent differs content = tt
  other_content other (Untyped extent) differs content = tt
  other_content other (Typed c_type count held) differs content = λ distance own found leaf is_held fit start start_is.
      let before = subst (ContentStands tac.structs state.objects memory machine other) content (in_step.contents other) in
      let was = before distance own found leaf is_held fit start start_is in
      let own_exact = exact_in object at.c_type scalar at.count offset address at.held at.is at.leaf in
      let exact = exact_in other c_type own count distance start held content leaf in
      let within = leaf_within tac.structs at.c_type at.count offset scalar own_exact at.leaf in
      let other_within = leaf_within tac.structs c_type count distance own exact leaf in
      let apart = placed.apart object other address start (ap is_there at.is) (ap is_there content) is start_is in
      apart_by distance own found start (subst (λ (n : ℕ). offset + size ≤ n) (sym (ap (extent_of tac.structs) at.is)) within)
      (subst (λ (n : ℕ). distance + slot_size (slot_of own) ≤ n) (sym (ap (extent_of tac.structs) content)) other_within) apart was
    where
      apart_by : (distance : ℕ) (own : CType) (found : Value) (start : ℕ) → offset + size ≤ extent_of tac.structs (state.objects object) → distance + slot_size (slot_of own) ≤ extent_of tac.structs (state.objects other)
          → (object ≡ other) ⊎ AreApart address (extent_of tac.structs (state.objects object)) start (extent_of tac.structs (state.objects other))
          → (number : ℕ) × (number_at machine (start + distance) (slot_size (slot_of own)) ≡ Some number) × Stands state.objects memory found (slot_word machine (slot_of own) number) → ScalarStands own found distance start
      apart_by distance own found start within other_within (inl same) was = absurd (false≢true (sym differs ∙ ap (same_object object) (sym same) ∙ same_object-refl object))
      apart_by distance own found start within other_within (inr apart) was =
          apart_stays other own distance start was.0 found
          (parts_apart address (extent_of tac.structs (state.objects object)) start (extent_of tac.structs (state.objects other)) offset size distance (slot_size (slot_of own)) within other_within apart) was.1 was.2

  content_by : (other : V.Object) (b : Bool) → same_object object other ≡ b → ContentStands tac.structs next.objects memory later other (if b then new else state.objects other)
  content_by other true same = subst (λ o. ContentStands tac.structs next.objects memory later o new) (same_object-true object other same) own_content
  content_by other false differs = other_content other (state.objects other) differs refl

  -- ---- what else holds

  old_by : (other : V.Object) (distance : ℕ) (found : Value) (b : Bool) → held_at distance (if b then new else state.objects other) ≡ Some found → IsOld state found
  old_by other distance found true is_held = by (held_holding offset distance value found (state.objects object) is_held)
    where
      by : (value ≡ found) ⊎ (held_at distance (state.objects object) ≡ Some found) → IsOld state found
      by (inl same) = subst (IsOld state) same old
      by (inr was) = in_step.old object distance found was
  old_by other distance found false is_held = in_step.old other distance found is_held

  allocation_after : (number : ℕ) → AllocationStands tac plan state machine number → AllocationStands tac plan next later number
  allocation_after number stood =
      let lives = still_lives machine later (address + offset) size word stored stood.object stood.lives in
      record {
        address = stood.address;
        is = address_after (OfHeap number) ∙ stood.is;
        object = lives.0;
        lives = lives.1;
        begins = lives.2 ∙ stood.begins;
        long = long (extent_of tac.structs (next.objects (OfHeap number))) (extent_of tac.structs (state.objects (OfHeap number))) (length lives.0.bytes) (length stood.object.bytes) (extent_after (OfHeap number)) lives.3 stood.long;
        told = ap (λ (starts : List ℕ). number_of starts stood.address) all_done.same.placed ∙ stood.told;
      }
    where
      long : (after before bytes bytes_before : ℕ) → after ≡ before → bytes ≡ bytes_before → before ≤ bytes_before → after ≤ bytes
      long after before bytes bytes_before e e' le = omega (arith, e, e', le)

  -- the states after a store are in step
  pub stored_in_step : InStep tac plan slabs next later
  stored_in_step =
      let same = all_done.same in
      let regions = still_regions machine later (address + offset) size word stored in_step.regions in
      record {
        running = subst (λ (m : MemoryMap). ActivationStands tac plan next m state.running later.running) (sym memory_after)
            (activation_kept tac plan state next memory lasts heap_same activations_same state.running machine.running later.running same.running in_step.running);
        callers = subst (λ (m : MemoryMap). CallersStand tac plan next m state.callers later.callers) (sym memory_after)
            (callers_kept tac plan state next memory lasts heap_same activations_same state.callers machine.callers later.callers same.callers in_step.callers);
        owned = λ activation local there. in_step.owned activation local (lasts.there (OfActivation activation local) there);
        globals = λ number.
            of_stored (option_map (λ (global : GlobalDef). global.c_type) (slice_get tac.globals number)) offset value (state.objects object) (state.objects (OfGlobal number)) (same_object object (OfGlobal number)) (λ e. ap state.objects (same_object-true object (OfGlobal number) e)) (in_step.globals number);
        literals = λ number.
            of_stored (option_map (λ (literal : LiteralDef). literal_type literal.bytes) (slice_get tac.literals number)) offset value (state.objects object) (state.objects (OfLiteral number)) (same_object object (OfLiteral number)) (λ e. ap state.objects (same_object-true object (OfLiteral number) e)) (in_step.literals number);
        allocations = λ number there. allocation_after number (in_step.allocations number (lasts.there (OfHeap number) there));
        contents = λ other. subst (λ (m : MemoryMap). ContentStands tac.structs next.objects m later other (next.objects other)) (sym memory_after) (content_by other (same_object object other) refl);
        inside = hold_holding tac.structs state.objects object offset value in_step.inside inside;
        old = λ other distance found is_held. old_rises state next heap_same activations_same found (old_by other distance found (same_object object other) is_held);
        regions = record {
          globals = regions.globals;
          frames = regions.frames;
          below = regions.below;
          heap = record {
            slabs = in_step.regions.heap.slabs;
            sizes = in_step.regions.heap.sizes;
            few = in_step.regions.heap.few;
            placed = still_placed machine later (address + offset) size word stored in_step.regions.heap.slabs in_step.regions.heap.sizes in_step.regions.heap.placed;
            kinds = regions.heap.kinds;
          };
        };
        low = low later.running.start machine.running.start (length later.callers) (length machine.callers) same.running.start (callers_same machine.callers later.callers same.callers) in_step.low;
        slabs_are = in_step.slabs_are;
        needed = in_step.needed;
        statics = same.globals ∙ in_step.statics;
        next = in_step.next ∙ ap (λ (starts : List ℕ). suc (length starts)) (sym same.placed);
        input = same.input ∙ in_step.input;
        trace = ap P.same same.trace ∙ in_step.trace;
        paid = same.paid ∙ in_step.paid;
      }
    where
      low : (start before deep deep_before : ℕ) → start ≡ before → deep ≡ deep_before → before ≤ 2 ^ 40 + deep_before * 2 ^ 26 → start ≤ 2 ^ 40 + deep * 2 ^ 26
      low start before deep deep_before e e' le = omega (arith, e, e', le)
