-- Frames pushed and popped: outside of them memory reads what it read before, and the objects of activations that stay lie where they lay.
use Rattle.std.proofs.Common.{◌≡◌, ℕ, suc, ◌+◌, ◌-◌, ◌*◌, ◌/◌, ◌^◌, ◌<◌, ◌≤◌, ◌⊎◌, inl, inr, ◌==◌, Bool, true, false, if◌then◌else◌, List, [], ◌∷◌, length, map, Option, Some, None, refl, sym, ap, subst, ◌∙◌, arith, leb-true, eqb-true, eq-eqb, ne_eqb}
use Rattle.std.specs.Prelude.{nat_le, option_map, slice_get}
use Rattle.std.proofs.lemmas.Bool.{cases_lt, and_parts, false≢true, true≢false}
use Rattle.std.proofs.lemmas.Option.{same_Some}
use Rattle.run_theory.specs.Words.{word_at}
use Rattle.slab_space.specs.Pool as H
use Rattle.slab_space.specs.Pools.{object_at, load_step}
use Rattle.c_typed.specs.Types.{literal_type}
use Rattle.c_typed.specs.Typed.{GlobalDef, LiteralDef}
use Rattle.tac_ir.specs.declared.register.Local.{Local}
use Rattle.tac_ir.specs.Values as V
use Rattle.tac_ir.specs.Values.{OfHeap, OfGlobal, OfLiteral, OfActivation, Absent, Objects}
use Rattle.tac_ir.specs.Layouts.{size_of, Inner}
use Rattle.tac_ir.specs.Objects.{is_there, extent_of, own_type}
use Rattle.tac_ir.specs.States as T
use Rattle.tac_ir.specs.States.{Owner, InStart, InFunction}
use Rattle.tac_ir.specs.Calls.{closed}
use Rattle.tac_ir.specs.Code.{Function, Tac}
use Rattle.tac_ir.proofs.Activations.{IsStacked, AreStacked}
use Rattle.pool_isa.specs.Machine.{globals_start, in_globals}
use Rattle.pool_ir.specs.Code.{FrameLayout}
use Rattle.pool_ir.specs.States as P
use Rattle.pool_ir.specs.Memory.{covers, frame_number, activations_of, number_at}
use Rattle.pool_ir.specs.Meaning.{next_start}
use Rattle.pool_rewrite.specs.Plan.{Plan}
use Rattle.pool_rewrite.specs.Placing.{global_offset, literal_offset, offset_of_local, frame_of}
use Rattle.pool_rewrite.specs.Standing.{MemoryMap}
use Rattle.pool_simulation.specs.Regions.{frame_end, Stacked, Regions}
use Rattle.pool_simulation.specs.InStep.{plan_for, frame_for, running_in, local_address, address_in, CallersStand, IsOf, IsOwned, greatest_frame, Fits, InStep}
use Rattle.pool_simulation.proofs.FrameRanges.{not_before, not_behind, frames_start, next_behind, none_behind}
use Rattle.pool_simulation.proofs.Ranges.{number_by, number_is}
use Rattle.pool_simulation.proofs.Allocations.{live_inside, found_lives}
use Rattle.pool_simulation.proofs.PlannedCode.{frame_is}
use Rattle.pool_simulation.proofs.Placed.{global_within, literal_within, local_lies}

-- ---- what memory reads

not_first : (first : P.Activation) (others : List P.Activation) (address size : ℕ) → covers first address size ≡ false → frame_number (first ∷ others) address size ≡ frame_number others address size
not_first first others address size outside = ap (λ b. if b then Some (word_at first.bytes (address - first.start) size) else frame_number others address size) outside

-- what is readable ends where the running frame does, or before, or lies in the heap
readable_where : (state : P.State) (address size number : ℕ) → Regions state → number_at state address size ≡ Some number → (address + size ≤ frame_end state.running) ⊎ (2 ^ 44 ≤ address)
readable_where state address size number regions e =
    elim (cases_lt (frame_end state.running) (address + size)) [
      | inl high ↦ inr (by (in_globals state.globals address size) refl high
          (sym (number_is state address size ∙ ap (λ f. number_by f state.globals state.pools address size) (none_behind state.running state.callers address size regions.frames high)) ∙ e))
      | inr low ↦ inl low
    ]
  where
    found : (o : Option H.Object) → object_at state.pools address size ≡ o → option_map (λ (x : H.Object). word_at x.bytes (address - x.start) size) o ≡ Some number → 2 ^ 44 ≤ address
    found None is none = absurd cc
    found (Some o) is some = let lives = found_lives state.pools o address size is in omega (arith, (live_inside state.pools o regions.heap lives.0).1, lives.1)

    by : (b : Bool) → in_globals state.globals address size ≡ b → frame_end state.running < address + size
        → (if b then Some (word_at state.globals (address - globals_start) size) else load_step state.pools address size) ≡ Some number → 2 ^ 44 ≤ address
    by true here high some =
        let both = and_parts (nat_le globals_start address) (nat_le (address + size) (globals_start + length state.globals)) here in
        absurd (omega (arith, leb-true (address + size) (globals_start + length state.globals) both.1, regions.globals, frames_start state.running state.callers regions.frames, high))
    by false here high some = found (object_at state.pools address size) refl some

-- a frame pushed behind all others: what was readable stays
module _ (state later : P.State) (site : ℕ) (waiting : later.callers ≡ (site, state.running) ∷ state.callers) (globals : later.globals ≡ state.globals) (pools : later.pools ≡ state.pools)
    (start : later.running.start ≡ next_start state.running) (below : frame_end later.running ≤ 2 ^ 44) (regions : Regions state) where
  outside_new : (address width number : ℕ) → 1 ≤ width → number_at state address width ≡ Some number → covers later.running address width ≡ false
  outside_new address width number some e =
      elim (readable_where state address width number regions e) [
        | inl before ↦ not_before later.running address width (omega (arith, start, before, next_behind state.running, some))
        | inr behind ↦ not_behind later.running address width (omega (arith, below, behind, some))
      ]

  pub pushed_number : (address width number : ℕ) → 1 ≤ width → number_at state address width ≡ Some number → number_at later address width ≡ Some number
  pushed_number address width number some e =
      let frames = not_first later.running (map (λ (waiting : ℕ × P.Activation). waiting.1) later.callers) address width (outside_new address width number some e)
      ∙ ap (λ (cs : List (ℕ × P.Activation)). frame_number (map (λ (waiting : ℕ × P.Activation). waiting.1) cs) address width) waiting in
      number_is later address width ∙ (λ i. number_by (frames i) (globals i) (pools i) address width) ∙ sym (number_is state address width) ∙ e

-- the running frame popped: a range that begins outside of it reads as before
module _ (state later : P.State) (site : ℕ) (caller : P.Activation) (waiting : state.callers ≡ (site, caller) ∷ later.callers) (start : later.running.start ≡ caller.start) (kept : later.running.kept ≡ caller.kept) (bytes : later.running.bytes ≡ caller.bytes)
    (globals : later.globals ≡ state.globals) (pools : later.pools ≡ state.pools) where
  pub popped_number : (address width : ℕ) → (address < state.running.start) ⊎ (frame_end state.running ≤ address) → 1 ≤ width → number_at later address width ≡ number_at state address width
  popped_number address width apart some =
      let was = not_first state.running (map (λ (waiting : ℕ × P.Activation). waiting.1) state.callers) address width (outside apart)
      ∙ ap (λ (cs : List (ℕ × P.Activation)). frame_number (map (λ (waiting : ℕ × P.Activation). waiting.1) cs) address width) waiting in
      let frames = same_first ∙ sym was in
      number_is later address width ∙ (λ i. number_by (frames i) (globals i) (pools i) address width) ∙ sym (number_is state address width)
    where
      outside : (address < state.running.start) ⊎ (frame_end state.running ≤ address) → covers state.running address width ≡ false
      outside (inl before) = not_before state.running address width before
      outside (inr behind) = not_behind state.running address width (omega (arith, behind, some))

      same_first : frame_number (activations_of later) address width ≡ frame_number (caller ∷ map (λ (waiting : ℕ × P.Activation). waiting.1) later.callers) address width
      same_first = (λ i. frame_by (start i) (kept i) (bytes i))
        where
          frame_by : ℕ → ℕ → List ℕ → Option ℕ
          frame_by at words held = frame_number (record later.running { start = at; kept = words; bytes = held } ∷ map (λ (waiting : ℕ × P.Activation). waiting.1) later.callers) address width

-- ---- frames of activations

-- the frame of a function of the program
pub number_frame : (tac : Tac) (plan : Plan) (number : ℕ) (function : Function) → slice_get tac.functions number ≡ Some function → frame_for tac plan (InFunction number) ≡ frame_of tac.structs (plan_for plan (InFunction number)) function
number_frame tac plan number function is = frame_is tac plan (InFunction number) function is

-- a local lies in its frame
pub local_in_frame : (tac : Tac) (plan : Plan) (owner : Owner) (local : Local) (inner : Inner) → own_type (T.objects_of (T.function_of tac owner)) local ≡ Some inner
    → offset_of_local (frame_for tac plan owner).objects local + size_of tac.structs inner.c_type ≤ (frame_for tac plan owner).size
local_in_frame tac plan InStart local inner is = (local_lies tac.structs (plan_for plan InStart) tac.start local inner is).within
local_in_frame tac plan (InFunction number) local inner is = by (slice_get tac.functions number) refl is
  where
    by : (found : Option Function) → slice_get tac.functions number ≡ found → own_type (T.objects_of found) local ≡ Some inner
        → offset_of_local (frame_for tac plan (InFunction number)).objects local + size_of tac.structs inner.c_type ≤ (frame_for tac plan (InFunction number)).size
    by None e is = absurd (cc)
    by (Some function) e is =
        subst (λ (frame : FrameLayout). offset_of_local frame.objects local + size_of tac.structs inner.c_type ≤ frame.size) (sym (number_frame tac plan number function e))
        ((local_lies tac.structs (plan_for plan (InFunction number)) function local inner is).within)

-- the frames of waiting activations leave room
pub frames_low : (tac : Tac) (plan : Plan) (state : T.State) (memory : MemoryMap) (callers : List (ℕ × T.Activation)) (running : P.Activation) (others : List (ℕ × P.Activation)) → Fits tac plan → CallersStand tac plan state memory callers others
    → Stacked running others → running.start ≤ 2 ^ 40 + length others * greatest_frame
frames_low tac plan state memory [] running [] fits stand stacked = omega (arith, stacked)
frames_low tac plan state memory [] running (own ∷ others) fits stand stacked = absurd stand
frames_low tac plan state memory (waiting ∷ callers) running [] fits stand stacked = absurd stand
frames_low tac plan state memory (waiting ∷ callers) running ((site, own) ∷ others) fits stand stacked =
    let rest = frames_low tac plan state memory callers own others fits stand.2 stacked.1 in
    behind own.start (length own.bytes) (length others) running.start rest (omega (arith, stand.1.long, fits.frames waiting.1.owner)) stacked.0
  where
    behind : (start long count next : ℕ) → start ≤ 2 ^ 40 + count * greatest_frame → long ≤ greatest_frame → next ≡ start + (long + 15) / 16 * 16 → next ≤ 2 ^ 40 + suc count * greatest_frame
    behind start long count next low most e = omega (arith, low, most, e)

-- ---- where objects of activations lie

-- those of the activations before lie where they lay
pub pushed_local : (tac : Tac) (plan : Plan) (first : T.Activation) (own : P.Activation) (others : List T.Activation) (more : List P.Activation) (activation : ℕ) (local : Local) → (first.number == activation) ≡ false
    → local_address tac plan (first ∷ others) (own ∷ more) activation local ≡ local_address tac plan others more activation local
pushed_local tac plan first own others more activation local apart =
    ap (λ b. if b then Some (own.start + offset_of_local (frame_for tac plan first.owner).objects local) else local_address tac plan others more activation local) apart

-- those that wait have numbers below
pub owned_below : (tac : Tac) (objects : Objects) (above : ℕ) (callers : List (ℕ × T.Activation)) (activation : ℕ) (local : Local) → AreStacked tac above callers objects
    → IsOwned tac (map (λ (waiting : ℕ × T.Activation). waiting.1) callers) activation local → activation < above
owned_below tac objects above [] activation local are owned = absurd owned
owned_below tac objects above (waiting ∷ callers) activation local are (inl own) = omega (arith, are.0, own.0)
owned_below tac objects above (waiting ∷ callers) activation local are (inr more) = omega (arith, are.0, owned_below tac objects waiting.1.number callers activation local are.2 more)

-- what is owned was made before
pub owned_made : (tac : Tac) (state : T.State) (activation : ℕ) (local : Local) → IsStacked tac state → IsOwned tac (running_in state) activation local → activation < state.next_activation
owned_made tac state activation local stacked (inl own) = omega (arith, stacked.0, own.0)
owned_made tac state activation local stacked (inr more) = omega (arith, stacked.0, owned_below tac state.objects state.running.number state.callers activation local stacked.2 more)

-- an object of an activation that waits ends where the frame begins that runs, or before
pub waiting_lies : (tac : Tac) (plan : Plan) (state : T.State) (memory : MemoryMap) (objects : Objects) (activation : ℕ) (local : Local) (address above : ℕ) (callers : List (ℕ × T.Activation)) (running : P.Activation) (others : List (ℕ × P.Activation))
    → CallersStand tac plan state memory callers others → AreStacked tac above callers objects → Stacked running others → IsOwned tac (map (λ (waiting : ℕ × T.Activation). waiting.1) callers) activation local
    → local_address tac plan (map (λ (waiting : ℕ × T.Activation). waiting.1) callers) (map (λ (waiting : ℕ × P.Activation). waiting.1) others) activation local ≡ Some address
    → address + extent_of tac.structs (objects (OfActivation activation local)) ≤ running.start
waiting_lies tac plan state memory objects activation local address above [] running others stand are stacked owned is = absurd owned
waiting_lies tac plan state memory objects activation local address above (waiting ∷ callers) running [] stand are stacked owned is = absurd stand
waiting_lies tac plan state memory objects activation local address above (waiting ∷ callers) running ((site, own) ∷ others) stand are stacked owned is =
    by (waiting.1.number == activation) refl owned is (waiting_lies tac plan state memory objects activation local address waiting.1.number callers own others stand.2 are.2 stacked.1)
  where
    by : (b : Bool) → (waiting.1.number == activation) ≡ b → IsOwned tac (map (λ (waiting : ℕ × T.Activation). waiting.1) (waiting ∷ callers)) activation local
        → (if b then Some (own.start + offset_of_local (frame_for tac plan waiting.1.owner).objects local)
        else local_address tac plan (map (λ (waiting : ℕ × T.Activation). waiting.1) callers) (map (λ (waiting : ℕ × P.Activation). waiting.1) others) activation local) ≡ Some address
        → (IsOwned tac (map (λ (waiting : ℕ × T.Activation). waiting.1) callers) activation local
        → local_address tac plan (map (λ (waiting : ℕ × T.Activation). waiting.1) callers) (map (λ (waiting : ℕ × P.Activation). waiting.1) others) activation local ≡ Some address
        → address + extent_of tac.structs (objects (OfActivation activation local)) ≤ own.start)
        → address + extent_of tac.structs (objects (OfActivation activation local)) ≤ running.start
    by true same (inl here) is rest =
        let inner : Inner = here.1.0 in
        let place : own.start + offset_of_local (frame_for tac plan waiting.1.owner).objects local ≡ address = same_Some (own.start + offset_of_local (frame_for tac plan waiting.1.owner).objects local) address is in
        let content = are.1 local inner here.1.1 in
        let long : extent_of tac.structs (objects (OfActivation activation local)) ≡ 1 * size_of tac.structs inner.c_type =
        ap (λ n. extent_of tac.structs (objects (OfActivation n local))) (sym here.0) ∙ ap (extent_of tac.structs) content.1 in
        omega (arith, place, long, local_in_frame tac plan waiting.1.owner local inner here.1.1, stand.1.long, next_behind own, stacked.0)
    by true same (inr more) is rest = absurd (omega (arith, eqb-true waiting.1.number activation same, owned_below tac objects waiting.1.number callers activation local are.2 more))
    by false apart (inl here) is rest = absurd (true≢false (sym (eq-eqb waiting.1.number activation here.0) ∙ apart))
    by false apart (inr more) is rest = omega (arith, rest more is, next_behind own, stacked.0)

-- ---- what stays when the running activation ends

module _ (tac : Tac) (plan : Plan) (slabs : ℕ) (state : T.State) (machine : P.State) (stacked : IsStacked tac state) (step : InStep tac plan slabs state machine) where
  -- no byte of it is one of the frame that is popped
  pub stays_apart : (object : V.Object) (address offset : ℕ) → is_there (closed state.running.number state.objects object) ≡ true → address_in tac plan state machine object ≡ Some address
      → offset < extent_of tac.structs (state.objects object) → (address + offset < machine.running.start) ⊎ (frame_end machine.running ≤ address + offset)
  stays_apart (OfHeap number) address offset there is less =
      let own = step.allocations number there in
      let same : own.address ≡ address = same_Some own.address address (sym own.is ∙ is) in
      let inside = live_inside machine.pools own.object step.regions.heap own.lives in
      inr (omega (arith, same, own.begins, inside.1, step.regions.below))
  stays_apart (OfGlobal number) address offset there is less = by (slice_get tac.globals number) refl (step.globals number)
    where
      by : (found : Option GlobalDef) → slice_get tac.globals number ≡ found → IsOf (option_map (λ (global : GlobalDef). global.c_type) found) (state.objects (OfGlobal number))
          → (address + offset < machine.running.start) ⊎ (frame_end machine.running ≤ address + offset)
      by None e none = absurd (true≢false (sym there ∙ none))
      by (Some global) e typed =
          let place : globals_start + global_offset tac number ≡ address = same_Some (globals_start + global_offset tac number) address is in
          let long : extent_of tac.structs (state.objects (OfGlobal number)) ≡ 1 * size_of tac.structs global.c_type = ap (extent_of tac.structs) typed.1 in
          inl (omega (arith, place, long, less, global_within tac number global e, step.statics, step.regions.globals, frames_start machine.running machine.callers step.regions.frames))
  stays_apart (OfLiteral number) address offset there is less = by (slice_get tac.literals number) refl (step.literals number)
    where
      by : (found : Option LiteralDef) → slice_get tac.literals number ≡ found → IsOf (option_map (λ (literal : LiteralDef). literal_type literal.bytes) found) (state.objects (OfLiteral number))
          → (address + offset < machine.running.start) ⊎ (frame_end machine.running ≤ address + offset)
      by None e none = absurd (true≢false (sym there ∙ none))
      by (Some literal) e typed =
          let place : globals_start + literal_offset tac number ≡ address = same_Some (globals_start + literal_offset tac number) address is in
          let long : extent_of tac.structs (state.objects (OfLiteral number)) ≡ 1 * size_of tac.structs (literal_type literal.bytes) = ap (extent_of tac.structs) typed.1 in
          inl (omega (arith, place, long, less, literal_within tac number literal e, step.statics, step.regions.globals, frames_start machine.running machine.callers step.regions.frames))
  stays_apart (OfActivation activation local) address offset there is less = by (activation == state.running.number) refl there
    where
      owned_by : (activation == state.running.number) ≡ false → IsOwned tac (running_in state) activation local → (address + offset < machine.running.start) ⊎ (frame_end machine.running ≤ address + offset)
      owned_by apart (inl here) = absurd (true≢false (sym (eq-eqb activation state.running.number (sym here.0)) ∙ apart))
      owned_by apart (inr more) =
          let further = pushed_local tac plan state.running machine.running (map (λ (waiting : ℕ × T.Activation). waiting.1) state.callers) (map (λ (waiting : ℕ × P.Activation). waiting.1) machine.callers) activation local
          (ne_eqb state.running.number activation (λ e. true≢false (sym (eq-eqb activation state.running.number (sym e)) ∙ apart))) in
          let ends = waiting_lies tac plan state _ state.objects activation local address state.running.number state.callers machine.running machine.callers step.callers stacked.2 step.regions.frames more (sym further ∙ is) in
          inl (omega (arith, ends, less))

      by : (b : Bool) → (activation == state.running.number) ≡ b → is_there (if b then Absent else state.objects (OfActivation activation local)) ≡ true
          → (address + offset < machine.running.start) ⊎ (frame_end machine.running ≤ address + offset)
      by true same there = absurd (false≢true there)
      by false apart there = owned_by apart (step.owned activation local there)
