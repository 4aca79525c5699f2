-- Where memory is readable: frames, globals and live objects; and what frames entered and left, and pools that change, make of that.
use Rattle.std.proofs.Common.{◌≡◌, ℕ, suc, ◌+◌, ◌-◌, ◌*◌, ◌^◌, ◌<◌, ◌≤◌, ◌⊎◌, Bool, true, false, ◌&&◌, List, [], ◌∷◌, ◌++◌, Option, Some, None, length, map, replicate, refl, sym, ap, subst, ◌∙◌, inl, inr, arith, length-append, add-mul}
use Rattle.std.specs.Prelude.{nat_le, option_map, if◌then◌else◌}
use Rattle.std.specs.List.{AllByRecursion}
use Rattle.std.proofs.lemmas.Bool.{cases_lt, and_parts, and_from, and_right, leb-true, le-leb, lt-leb}
use Rattle.std.proofs.lemmas.List.{length-replicate}
use Rattle.run_theory.specs.Words.{word_at}
use Rattle.slab_space.specs.Pool.{Object}
use Rattle.slab_space.specs.Pools.{object_at, load_step}
use Rattle.slab_space.specs.Needs.{at_start}
use Rattle.pool_isa.specs.Machine.{globals_start, in_globals}
use Rattle.tac_ir.specs.declared.register.Register.TheVariants as R
use Rattle.tac_ir.specs.Calls.{greatest_depth}
use Rattle.tac_ir.specs.Events.{Entered, Left}
use Rattle.tac_ir.specs.States.{InFunction}
use Rattle.pool_ir.specs.Code.{Function, PoolCode}
use Rattle.pool_ir.specs.Frames.{objects_start}
use Rattle.pool_ir.specs.Words.{with_word}
use Rattle.pool_ir.specs.States.{Activation, State, Same}
use Rattle.pool_ir.specs.Memory.{covers, frame_number, activations_of, number_at}
use Rattle.pool_ir.specs.Meaning.{next_start, parameters_from, descriptors_from, initial}
use Rattle.pool_simulation.specs.Regions.{AreApart, frame_end, Stacked, IsIn, Lives, SoundHeap, Regions, SameFrames, EntersFrame, LeavesFrame}
use Rattle.pool_simulation.proofs.WrittenBytes.{zeros_read}
use Rattle.pool_simulation.proofs.FrameRanges.{covers_facts, covers_from, not_before, frames_from, frames_start, next_behind, none_before, none_behind}
use Rattle.pool_simulation.proofs.Ranges.{number_by, number_is}
use Rattle.pool_simulation.proofs.Allocations.{live_inside, live_loads, found_lives}

-- ---- frames

-- the frame of a caller ends before that of the running one
pub caller_below : (running : Activation) (callers : List (ℕ × Activation)) (site : ℕ) (caller : Activation) → Stacked running callers → IsIn (site, caller) callers → frame_end caller ≤ running.start
caller_below running [] site caller stacked is = absurd is
caller_below running ((next_site, next) ∷ callers) site caller stacked (inl e) =
    let same : caller ≡ next = ap (λ (p : ℕ × Activation). p.1) e in
    omega (arith, stacked.0, next_behind next, ap (λ (a : Activation). a.start) same, ap (λ (a : Activation). length a.bytes) same)
caller_below running ((next_site, next) ∷ callers) site caller stacked (inr is) = omega (arith, stacked.0, next_behind next, caller_below next callers site caller stacked.1 is)

-- all frames begin at 2 ^ 40 or behind it
pub caller_start : (running : Activation) (callers : List (ℕ × Activation)) (site : ℕ) (caller : Activation) → Stacked running callers → IsIn (site, caller) callers → 2 ^ 40 ≤ caller.start
caller_start running [] site caller stacked is = absurd is
caller_start running ((next_site, next) ∷ callers) site caller stacked (inl e) =
    let same : caller ≡ next = ap (λ (p : ℕ × Activation). p.1) e in omega (arith, frames_start next callers stacked.1, ap (λ (a : Activation). a.start) same)
caller_start running ((next_site, next) ∷ callers) site caller stacked (inr is) = caller_start next callers site caller stacked.1 is

-- where the frames end, by how many there are and the most bytes that one has
pub stack_room : (most : ℕ) (running : Activation) (callers : List (ℕ × Activation)) → Stacked running callers → length running.bytes ≤ most → AllByRecursion (λ (waiting : ℕ × Activation). length waiting.1.bytes ≤ most) callers
    → next_start running ≤ 2 ^ 40 + (length callers + 1) * (most + 16)
stack_room most running [] stacked small others = omega (arith, stacked, small)
stack_room most running ((site, caller) ∷ callers) stacked small others =
    let below = stack_room most caller callers stacked.1 others.0 others.1 in
    let more : (suc (length callers) + 1) * (most + 16) ≡ (length callers + 1) * (most + 16) + (most + 16) = ap (λ n. n * (most + 16)) (let same : suc (length callers) + 1 ≡ length callers + 1 + 1 = omega arith in same) ∙ add-mul (length callers + 1) 1 (most + 16) ∙ omega arith in
    omega (arith, below, more, stacked.0, small)

-- at the greatest depth there is room for frames of 2 ^ 30 bytes
pub call_room : (running : Activation) (callers : List (ℕ × Activation)) (size : ℕ) → Stacked running callers → length running.bytes ≤ 2 ^ 30 → AllByRecursion (λ (waiting : ℕ × Activation). length waiting.1.bytes ≤ 2 ^ 30) callers → length callers < greatest_depth → size ≤ 2 ^ 30
    → next_start running + size ≤ 2 ^ 44
unfolding greatest_depth
call_room running callers size stacked small others depth fits =
    let below = stack_room (2 ^ 30) running callers stacked small others in omega (arith, below, depth, fits)

first_frame : (first : Activation) (others : List Activation) (address size : ℕ) → first.start + first.kept ≤ address → address + size ≤ frame_end first → frame_number (first ∷ others) address size ≡ Some (word_at first.bytes (address - first.start) size)
first_frame first others address size low high =
    ap (λ b. if b then Some (word_at first.bytes (address - first.start) size) else frame_number others address size) (covers_from first address size low high)

not_first : (first : Activation) (others : List Activation) (address size : ℕ) → covers first address size ≡ false → frame_number (first ∷ others) address size ≡ frame_number others address size
not_first first others address size outside = ap (λ b. if b then Some (word_at first.bytes (address - first.start) size) else frame_number others address size) outside

waiting_frame : (running : Activation) (callers : List (ℕ × Activation)) (site : ℕ) (caller : Activation) (address size : ℕ) → Stacked running callers → IsIn (site, caller) callers → caller.start + caller.kept ≤ address → address + size ≤ frame_end caller → 1 ≤ size
    → frame_number (frames_from running callers) address size ≡ Some (word_at caller.bytes (address - caller.start) size)
waiting_frame running [] site caller address size stacked is low high some = absurd is
waiting_frame running ((next_site, next) ∷ callers) site caller address size stacked is low high some =
    not_first running (frames_from next callers) address size (not_before running address size (omega (arith, caller_below running ((next_site, next) ∷ callers) site caller stacked is, high, some)))
    ∙ by is (λ later. waiting_frame next callers site caller address size stacked.1 later low high some)
  where
    by : IsIn (site, caller) ((next_site, next) ∷ callers) → (IsIn (site, caller) callers → frame_number (frames_from next callers) address size ≡ Some (word_at caller.bytes (address - caller.start) size))
        → frame_number (frames_from next callers) address size ≡ Some (word_at caller.bytes (address - caller.start) size)
    by (inl e) later =
        let same : caller ≡ next = ap (λ (p : ℕ × Activation). p.1) e in
        subst (λ (a : Activation). frame_number (a ∷ map (λ (waiting : ℕ × Activation). waiting.1) callers) address size ≡ Some (word_at caller.bytes (address - caller.start) size)) same
        (first_frame caller (map (λ (waiting : ℕ × Activation). waiting.1) callers) address size low high)
    by (inr is) later = later is

-- ---- where memory is readable

by_frames : (state : State) (address size number : ℕ) → frame_number (activations_of state) address size ≡ Some number → number_at state address size ≡ Some number
by_frames state address size number e = number_is state address size ∙ ap (λ f. number_by f state.globals state.pools address size) e

behind_frames : (state : State) (address size : ℕ) → frame_number (activations_of state) address size ≡ None → number_at state address size ≡ number_by None state.globals state.pools address size
behind_frames state address size e = number_is state address size ∙ ap (λ f. number_by f state.globals state.pools address size) e

pub running_reads : (state : State) (address size : ℕ) → state.running.start + state.running.kept ≤ address → address + size ≤ frame_end state.running → number_at state address size ≡ Some (word_at state.running.bytes (address - state.running.start) size)
running_reads state address size low high =
    by_frames state address size (word_at state.running.bytes (address - state.running.start) size) (first_frame state.running (map (λ (waiting : ℕ × Activation). waiting.1) state.callers) address size low high)

pub caller_reads : (state : State) (site : ℕ) (caller : Activation) (address size : ℕ) → Regions state → IsIn (site, caller) state.callers → caller.start + caller.kept ≤ address → address + size ≤ frame_end caller → 1 ≤ size
    → number_at state address size ≡ Some (word_at caller.bytes (address - caller.start) size)
caller_reads state site caller address size regions is low high some =
    by_frames state address size (word_at caller.bytes (address - caller.start) size) (waiting_frame state.running state.callers site caller address size regions.frames is low high some)

pub globals_read : (state : State) (address size : ℕ) → Regions state → globals_start ≤ address → address + size ≤ globals_start + length state.globals → 1 ≤ size
    → number_at state address size ≡ Some (word_at state.globals (address - globals_start) size)
globals_read state address size regions low high some =
    behind_frames state address size (none_before state.running state.callers address size regions.frames (omega (arith, regions.globals, high, some)))
    ∙ ap (λ b. if b then Some (word_at state.globals (address - globals_start) size) else load_step state.pools address size)
    (and_from (nat_le globals_start address) (nat_le (address + size) (globals_start + length state.globals)) (le-leb globals_start address low) (le-leb (address + size) (globals_start + length state.globals) high))

-- from the heap's first byte on, memory is that of the pools
pub heap_number : (state : State) (address size : ℕ) → Regions state → 2 ^ 44 ≤ address → 1 ≤ size → number_at state address size ≡ load_step state.pools address size
heap_number state address size regions low some =
    behind_frames state address size (none_behind state.running state.callers address size regions.frames (omega (arith, regions.below, low, some)))
    ∙ ap (λ b. if b then Some (word_at state.globals (address - globals_start) size) else load_step state.pools address size)
    (and_right (nat_le globals_start address) (nat_le (address + size) (globals_start + length state.globals)) (lt-leb (address + size) (globals_start + length state.globals) (omega (arith, regions.globals, low))))

pub object_reads : (state : State) (o : Object) (address size : ℕ) → Regions state → Lives state.pools o → o.start ≤ address → address + size ≤ o.start + length o.bytes → 1 ≤ size
    → number_at state address size ≡ Some (word_at o.bytes (address - o.start) size)
object_reads state o address size regions lives low high some =
    let inside = live_inside state.pools o regions.heap lives in
    heap_number state address size regions (omega (arith, inside.1, low)) some ∙ live_loads state.pools o address size regions.heap lives low high some

-- what is readable ends where the running frame does, or before, or lies in the heap
pub readable_where : (state : State) (address size number : ℕ) → Regions state → number_at state address size ≡ Some number → (address + size ≤ frame_end state.running) ⊎ (2 ^ 44 ≤ address)
readable_where state address size number regions e =
    elim (cases_lt (frame_end state.running) (address + size)) [
      | inl high ↦ inr (by (in_globals state.globals address size) refl high (sym (behind_frames state address size (none_behind state.running state.callers address size regions.frames high)) ∙ e))
      | inr low ↦ inl low
    ]
  where
    found : (o : Option Object) → object_at state.pools address size ≡ o → option_map (λ (x : Object). word_at x.bytes (address - x.start) size) o ≡ Some number → 2 ^ 44 ≤ address
    found None is none = absurd cc
    found (Some o) is some = let lives = found_lives state.pools o address size is in omega (arith, (live_inside state.pools o regions.heap lives.0).1, lives.1)

    by : (b : Bool) → in_globals state.globals address size ≡ b → frame_end state.running < address + size → (if b then Some (word_at state.globals (address - globals_start) size) else load_step state.pools address size) ≡ Some number → 2 ^ 44 ≤ address
    by true here high some =
        let both = and_parts (nat_le globals_start address) (nat_le (address + size) (globals_start + length state.globals)) here in
        absurd (omega (arith, leb-true (address + size) (globals_start + length state.globals) both.1, regions.globals, frames_start state.running state.callers regions.frames, high))
    by false here high some = found (object_at state.pools address size) refl some

-- ---- states with the same frames

same_first : (later first : Activation) (others : List Activation) (address size : ℕ) → later.start ≡ first.start → later.kept ≡ first.kept → later.bytes ≡ first.bytes → frame_number (later ∷ others) address size ≡ frame_number (first ∷ others) address size
same_first later first others address size start kept bytes =
    (λ i. if nat_le (start i + kept i) address && nat_le (address + size) (start i + length (bytes i)) then Some (word_at (bytes i) (address - start i) size) else frame_number others address size)

stacked_start : (later running : Activation) (callers : List (ℕ × Activation)) → later.start ≡ running.start → Stacked running callers → Stacked later callers
stacked_start later running [] start stacked = start ∙ stacked
stacked_start later running ((site, caller) ∷ callers) start stacked = (start ∙ stacked.0, stacked.1)

frames_same : (state later : State) (address size : ℕ) → SameFrames state later → frame_number (activations_of later) address size ≡ frame_number (activations_of state) address size
frames_same state later address size same =
    same_first later.running state.running (map (λ (waiting : ℕ × Activation). waiting.1) later.callers) address size same.start same.kept same.bytes
    ∙ ap (λ (cs : List (ℕ × Activation)). frame_number (frames_from state.running cs) address size) same.callers

pub same_number : (state later : State) (address size : ℕ) → SameFrames state later → later.pools ≡ state.pools → number_at later address size ≡ number_at state address size
same_number state later address size same pools =
    let frames = frames_same state later address size same in let globals = same.globals in
    number_is later address size ∙ (λ i. number_by (frames i) (globals i) (pools i) address size) ∙ sym (number_is state address size)

-- where pools change, what they still load stays readable
pub kept_number : (state later : State) (address size number : ℕ) → SameFrames state later → (load_step state.pools address size ≡ Some number → load_step later.pools address size ≡ Some number) → number_at state address size ≡ Some number → number_at later address size ≡ Some number
kept_number state later address size number same loads e =
    let frames = frames_same state later address size same in let globals = same.globals in
    number_is later address size ∙ (λ i. number_by (frames i) (globals i) later.pools address size) ∙ by (frame_number (activations_of state) address size) (sym (number_is state address size) ∙ e)
  where
    by_globals : (b : Bool) → (if b then Some (word_at state.globals (address - globals_start) size) else load_step state.pools address size) ≡ Some number → (if b then Some (word_at state.globals (address - globals_start) size) else load_step later.pools address size) ≡ Some number
    by_globals true e = e
    by_globals false e = loads e

    by : (found : Option ℕ) → number_by found state.globals state.pools address size ≡ Some number → number_by found state.globals later.pools address size ≡ Some number
    by (Some other) e = e
    by None e = by_globals (in_globals state.globals address size) e

pub same_regions : (state later : State) → SameFrames state later → SoundHeap later.pools → Regions state → Regions later
same_regions state later same heap regions = record {
  globals = omega (arith, regions.globals, ap (λ (bs : List ℕ). length bs) same.globals);
  frames = subst (Stacked later.running) (sym same.callers) (stacked_start later.running state.running state.callers same.start regions.frames);
  below = omega (arith, regions.below, same.start, ap (λ (bs : List ℕ). length bs) same.bytes);
  heap = heap;
}

-- ---- a frame entered

module _ (state later : State) (site size : ℕ) (enters : EntersFrame state later site size) where
  long : length later.running.bytes ≡ size
  long = ap (λ (bs : List ℕ). length bs) enters.bytes ∙ length-replicate {A = ℕ} size 0

  outside_by : (address width : ℕ) (b : Bool) → covers later.running address width ≡ b → AreApart address width (next_start state.running) size → 1 ≤ width → b ≡ false
  outside_by address width true is (inl before) some = let both = covers_facts later.running address width is in absurd (omega (arith, both.0, enters.start, before, some))
  outside_by address width true is (inr behind) some = let both = covers_facts later.running address width is in absurd (omega (arith, both.1, enters.start, long, behind, some))
  outside_by address width false is apart some = refl

  -- what lies apart from the new frame stays
  pub entered_apart : (address width : ℕ) → AreApart address width (next_start state.running) size → 1 ≤ width → number_at later address width ≡ number_at state address width
  entered_apart address width apart some =
      let outside = outside_by address width (covers later.running address width) refl apart some in
      let frames = not_first later.running (map (λ (waiting : ℕ × Activation). waiting.1) later.callers) address width outside
      ∙ ap (λ (cs : List (ℕ × Activation)). frame_number (map (λ (waiting : ℕ × Activation). waiting.1) cs) address width) enters.callers in
      let globals = enters.globals in let pools = enters.pools in
      number_is later address width ∙ (λ i. number_by (frames i) (globals i) (pools i) address width) ∙ sym (number_is state address width)

  -- what was readable stays
  pub entered_keeps : (address width number : ℕ) → Regions state → next_start state.running + size ≤ 2 ^ 44 → 1 ≤ width → number_at state address width ≡ Some number → number_at later address width ≡ Some number
  entered_keeps address width number regions room some e = entered_apart address width (by (readable_where state address width number regions e)) some ∙ e
    where
      by : (address + width ≤ frame_end state.running) ⊎ (2 ^ 44 ≤ address) → AreApart address width (next_start state.running) size
      by (inl before) = inl (omega (arith, before, next_behind state.running))
      by (inr behind) = inr (omega (arith, behind, room))

  -- what is in the new frame reads as 0
  pub entered_zero : (address width : ℕ) → next_start state.running + later.running.kept ≤ address → address + width ≤ next_start state.running + size → number_at later address width ≡ Some 0
  entered_zero address width low high =
      running_reads later address width (omega (arith, enters.start, low)) (omega (arith, enters.start, long, high))
      ∙ ap (λ (bs : List ℕ). Some (word_at bs (address - later.running.start) width)) enters.bytes ∙ ap Some (zeros_read size (address - later.running.start) width)

  pub entered_regions : Regions state → next_start state.running + size ≤ 2 ^ 44 → Regions later
  entered_regions regions room = record {
    globals = omega (arith, regions.globals, ap (λ (bs : List ℕ). length bs) enters.globals);
    frames = subst (Stacked later.running) (sym enters.callers) (enters.start, regions.frames);
    below = omega (arith, enters.start, long, room);
    heap = subst SoundHeap (sym enters.pools) regions.heap;
  }

-- ---- a frame left

module _ (state later : State) (site : ℕ) (caller : Activation) (leaves : LeavesFrame state later site caller) where
  within_by : (address width : ℕ) (b : Bool) → covers state.running address width ≡ b → AreApart address width state.running.start (length state.running.bytes) → 1 ≤ width → b ≡ false
  within_by address width true is (inl before) some = let both = covers_facts state.running address width is in absurd (omega (arith, both.0, before, some))
  within_by address width true is (inr behind) some = let both = covers_facts state.running address width is in absurd (omega (arith, both.1, behind, some))
  within_by address width false is apart some = refl

  -- what lies apart from the frame that was left stays
  pub left_apart : (address width : ℕ) → AreApart address width state.running.start (length state.running.bytes) → 1 ≤ width → number_at later address width ≡ number_at state address width
  left_apart address width apart some =
      let outside = within_by address width (covers state.running address width) refl apart some in
      let was = not_first state.running (map (λ (waiting : ℕ × Activation). waiting.1) state.callers) address width outside
      ∙ ap (λ (cs : List (ℕ × Activation)). frame_number (map (λ (waiting : ℕ × Activation). waiting.1) cs) address width) leaves.waiting in
      let frames = same_first later.running caller (map (λ (waiting : ℕ × Activation). waiting.1) later.callers) address width leaves.start leaves.kept leaves.bytes ∙ sym was in
      let globals = leaves.globals in let pools = leaves.pools in
      number_is later address width ∙ (λ i. number_by (frames i) (globals i) (pools i) address width) ∙ sym (number_is state address width)

  pub left_regions : Regions state → Regions later
  left_regions regions =
      let stacked = subst (Stacked state.running) leaves.waiting regions.frames in
      record {
        globals = omega (arith, regions.globals, ap (λ (bs : List ℕ). length bs) leaves.globals);
        frames = stacked_start later.running caller later.callers leaves.start stacked.1;
        below = omega (arith, leaves.start, ap (λ (bs : List ℕ). length bs) leaves.bytes, stacked.0, next_behind caller, regions.below);
        heap = subst SoundHeap (sym leaves.pools) regions.heap;
      }

-- ---- calls and returns of code with pools

-- a call, before the pools of the function are made
pub call_enters : (site number : ℕ) (function : Function) (words pools : List ℕ) (state : State)
    → EntersFrame state (record state {
      running = record { owner = InFunction number; words = parameters_from 0 words; descriptors = descriptors_from pools; start = next_start state.running; kept = objects_start function.frame; bytes = replicate function.frame.size 0; at = 0 };
      callers = (site, state.running) ∷ state.callers;
      trace = state.trace ++ Same (Entered site number) ∷ [];
      paid = 0;
    }) site function.frame.size
call_enters site number function words pools state = record { start = refl; bytes = refl; callers = refl; globals = refl; pools = refl }

-- a return, before its caller goes on
pub return_leaves : (site word : ℕ) (caller : Activation) (callers : List (ℕ × Activation)) (state : State) → state.callers ≡ (site, caller) ∷ callers
    → LeavesFrame state (record state {
      running = record caller { words = with_word (R.Call site) word caller.words };
      callers = callers;
      trace = state.trace ++ Same Left ∷ [];
    }) site caller
return_leaves site word caller callers state waiting = record { waiting = waiting; start = refl; kept = refl; bytes = refl; globals = refl; pools = refl }

-- ---- at first

pub first_regions : (code : PoolCode) (slabs index : ℕ) (input : List ℕ) → slabs ≤ 2 ^ 32 → globals_start + length code.contents ≤ 2 ^ 40 → globals_start + code.globals ≤ 2 ^ 40 → 2 ^ 40 + code.start.frame.size ≤ 2 ^ 44 → Regions (initial code slabs index input)
first_regions code slabs index input few contents globals frame =
    let rest : List ℕ = replicate (code.globals - length code.contents) 0 in
    record {
      globals = omega (arith, contents, globals, length-append code.contents rest, length-replicate {A = ℕ} (code.globals - length code.contents) 0);
      frames = refl;
      below = omega (arith, frame, length-replicate {A = ℕ} code.start.frame.size 0);
      heap = record { slabs = slabs; sizes = []; few = few; placed = at_start index; kinds = tt };
    }
