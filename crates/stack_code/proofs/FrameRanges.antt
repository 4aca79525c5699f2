-- Ranges in the frames of activations: what one run finds or writes there, the other does, too.
use Rattle.std.proofs.Common.{◌≡◌, ℕ, suc, ◌+◌, ◌-◌, ◌*◌, ◌/◌, ◌^◌, ◌<◌, ◌≤◌, ◌⊎◌, inl, inr, Bool, true, false, List, [], ◌∷◌, Option, Some, None, length, take, drop, map, refl, sym, ap, ap₂, ◌∙◌, subst, arith}
use Rattle.std.specs.Prelude.{nat_le, if◌then◌else◌, option_map, slice_get}
use Rattle.std.proofs.lemmas.Bool.{and_parts, and_from, leb-true, le-leb, lt-leb, and_left, and_right}
use Rattle.byteorder.specs.Endian.{little_number}
use Rattle.pool_isa.specs.Machine as M
use Rattle.pool_isa.specs.Machine.{bytes_at, with_bytes_at, beneath}
use Rattle.tac_ir.specs.declared.register.Register.TheVariants as R
use Rattle.pool_ir.specs.Code.{Function, PoolCode}
use Rattle.pool_ir.specs.Code as O
use Rattle.pool_ir.specs.Frames.{word_of_register}
use Rattle.pool_ir.specs.States as P
use Rattle.pool_ir.specs.States.{function_of}
use Rattle.pool_ir.specs.Memory.{covers, frame_number, with_bytes, with_frame_bytes}
use Rattle.pool_ir.specs.Meaning.{next_start}
use Rattle.stack_code.specs.Emitting.{place_of, preparing}
use Rattle.stack_code.specs.Standing.{FrameStands, activation_at, place_in, CallerStands, CallersStand, Stacked}
use Rattle.stack_code.specs.Fitting.{FunctionFits, CodeFits}
use Rattle.stack_code.proofs.WrittenBytes.{over, length-over}
use Rattle.stack_code.proofs.FrameWrites.{object_written, object_read}

-- ---- one frame

covers_facts : (own : P.Activation) (address size : ℕ) → covers own address size ≡ true → (own.start + own.kept ≤ address) × (address + size ≤ own.start + length own.bytes)
covers_facts own address size e =
    let both = and_parts (nat_le (own.start + own.kept) address) (nat_le (address + size) (own.start + length own.bytes)) e in
    (leb-true (own.start + own.kept) address both.0, leb-true (address + size) (own.start + length own.bytes) both.1)

covers_from : (frame : M.Activation) (address size : ℕ) → frame.start ≤ address → address + size ≤ frame.start + length frame.bytes → M.covers frame address size ≡ true
covers_from frame address size low high =
    and_from (nat_le frame.start address) (nat_le (address + size) (frame.start + length frame.bytes)) (le-leb frame.start address low) (le-leb (address + size) (frame.start + length frame.bytes) high)

pub not_before : (frame : M.Activation) (address size : ℕ) → address < frame.start → M.covers frame address size ≡ false
not_before frame address size low = and_left (nat_le frame.start address) (nat_le (address + size) (frame.start + length frame.bytes)) (lt-leb frame.start address low)

pub not_behind : (frame : M.Activation) (address size : ℕ) → frame.start + length frame.bytes < address + size → M.covers frame address size ≡ false
not_behind frame address size high =
    and_right (nat_le frame.start address) (nat_le (address + size) (frame.start + length frame.bytes)) (lt-leb (address + size) (frame.start + length frame.bytes) high)

next_behind : (own : P.Activation) → own.start + length own.bytes ≤ next_start own
next_behind own = omega arith

waiting_frames : List (ℕ × P.Activation) → List P.Activation
waiting_frames callers = map (λ (waiting : ℕ × P.Activation). waiting.1) callers

-- an activation with the bytes of its frame on the machine
pub record Pair (most : ℕ) (own : P.Activation) (top : M.Activation) : Type 0 where
  pub function : Function
  pub fits : FunctionFits most function
  pub start : top.start ≡ own.start
  pub frame : FrameStands function own top.bytes

-- and those that wait
abbrev pub Pairs : ℕ → List (ℕ × P.Activation) → List M.Activation → Type 0
Pairs most [] [] = Unit {0}
Pairs most ((site, own) ∷ callers) (top ∷ others) = Pair most own top × Pairs most callers others
Pairs most _ _ = ⊥

pub pairs_of : (most : ℕ) (code : PoolCode) → CodeFits most code → (callers : List (ℕ × P.Activation)) (others : List M.Activation) → CallersStand code callers others → Pairs most callers others
pairs_of most code fits [] [] stand = tt
pairs_of most code fits [] (top ∷ others) stand = absurd stand
pairs_of most code fits (one ∷ callers) [] stand = absurd stand
pairs_of most code fits ((site, own) ∷ callers) (top ∷ others) stand =
    let first = stand.0 in (
      record {
        function = first.function;
        fits = fits.functions own.owner first.function first.is;
        start = ap (λ (a : M.Activation). a.start) first.activation;
        frame = subst (λ bytes. FrameStands first.function own bytes) (sym (ap (λ (a : M.Activation). a.bytes) first.activation)) first.frame;
      },
      pairs_of most code fits callers others stand.1,
    )

-- ---- all frames

-- the range lies in the frames, below the end of the running one
pub record Found (running : P.Activation) (frames : List M.Activation) (address size number : ℕ) : Type 0 where
  pub bytes : List ℕ
  pub is : bytes_at frames address size ≡ Some bytes
  pub number_is : little_number size bytes ≡ number
  pub below : address + size ≤ running.start + length running.bytes

module _ (most address size number : ℕ) (wide : 1 ≤ size) where
  found_here : (own : P.Activation) (top : M.Activation) (others : List M.Activation) → Pair most own top → covers own address size ≡ true
      → little_number size (take size (drop (address - own.start) own.bytes)) ≡ number → Found own (top ∷ others) address size number
  found_here own top others pair is e =
      let both = covers_facts own address size is in
      let same = object_read most pair.function pair.fits own top.bytes pair.frame (address - own.start) size (omega (arith, both.0)) in
      record {
        bytes = take size (drop (address - own.start) own.bytes);
        is =
            ap (λ b. if b then Some (take size (drop (address - top.start) top.bytes)) else bytes_at others address size)
            (covers_from top address size (omega (arith, both.0, pair.start)) (omega (arith, both.1, pair.start, pair.frame.as_long)))
            ∙ ap (λ n. Some (take size (drop (address - n) top.bytes))) pair.start ∙ ap Some same;
        number_is = e;
        below = both.1;
      }

  found_later : (own : P.Activation) (top : M.Activation) (site : ℕ) (caller : P.Activation) (callers : List (ℕ × P.Activation)) (first : M.Activation) (others : List M.Activation) → Pair most own top
      → Stacked own ((site, caller) ∷ callers) → Found caller (first ∷ others) address size number → Found own (top ∷ first ∷ others) address size number
  found_later own top site caller callers first others pair stacked rest =
      let low : address < top.start = omega (arith, rest.below, next_behind caller, stacked.0, pair.start, wide) in
      record {
        bytes = rest.bytes;
        is = ap (λ b. if b then Some (take size (drop (address - top.start) top.bytes)) else bytes_at (first ∷ others) address size) (not_before top address size low) ∙ rest.is;
        number_is = rest.number_is;
        below = omega (arith, rest.below, next_behind caller, stacked.0);
      }

  pub frames_find : (own : P.Activation) (callers : List (ℕ × P.Activation)) (top : M.Activation) (others : List M.Activation) → Pair most own top → Pairs most callers others → Stacked own callers
      → frame_number (own ∷ map (λ (waiting : ℕ × P.Activation). waiting.1) callers) address size ≡ Some number → Found own (top ∷ others) address size number
  frames_find own [] top others pair pairs stacked e = by (covers own address size) refl e
    where
      by : (b : Bool) → covers own address size ≡ b → (if b then Some (little_number size (take size (drop (address - own.start) own.bytes))) else None) ≡ Some number → Found own (top ∷ others) address size number
      by true is e = found_here own top others pair is (cc)
      by false is e = absurd (cc)
  frames_find own ((site, caller) ∷ callers) top [] pair pairs stacked e = absurd pairs
  frames_find own ((site, caller) ∷ callers) top (first ∷ others) pair pairs stacked e =
      by (covers own address size) refl e (λ is. found_later own top site caller callers first others pair stacked (frames_find caller callers first others pairs.0 pairs.1 stacked.1 is))
    where
      by : (b : Bool) → covers own address size ≡ b
          → (if b then Some (little_number size (take size (drop (address - own.start) own.bytes))) else frame_number (caller ∷ map (λ (waiting : ℕ × P.Activation). waiting.1) callers) address size) ≡ Some number
          → (frame_number (caller ∷ map (λ (waiting : ℕ × P.Activation). waiting.1) callers) address size ≡ Some number → Found own (top ∷ first ∷ others) address size number)
          → Found own (top ∷ first ∷ others) address size number
      by true is e later = found_here own top (first ∷ others) pair is (cc)
      by false is e later = later e

-- the first frame begins at 2 ^ 40
pub stacked_low : (own : P.Activation) (callers : List (ℕ × P.Activation)) → Stacked own callers → 2 ^ 40 ≤ own.start
stacked_low own [] stacked = omega (arith, stacked)
stacked_low own ((site, caller) ∷ callers) stacked = omega (arith, stacked.0, next_behind caller, stacked_low caller callers stacked.1)

-- a range outside of all frames
abbrev pub IsOutside : P.Activation → ℕ → ℕ → Type 0
IsOutside own address size = (address + size ≤ 2 ^ 40) ⊎ (own.start + length own.bytes < address + size)

outside_next : (own : P.Activation) (site : ℕ) (caller : P.Activation) (callers : List (ℕ × P.Activation)) (address size : ℕ) → Stacked own ((site, caller) ∷ callers) → IsOutside own address size → IsOutside caller address size
outside_next own site caller callers address size stacked (inl low) = inl low
outside_next own site caller callers address size stacked (inr high) = inr (omega (arith, high, next_behind caller, stacked.0))

not_in : (most : ℕ) (own : P.Activation) (callers : List (ℕ × P.Activation)) (top : M.Activation) (address size : ℕ) → 1 ≤ size → Pair most own top → Stacked own callers → IsOutside own address size → M.covers top address size ≡ false
not_in most own callers top address size wide pair stacked (inl low) = not_before top address size (omega (arith, low, wide, stacked_low own callers stacked, pair.start))
not_in most own callers top address size wide pair stacked (inr high) = not_behind top address size (omega (arith, high, pair.start, pair.frame.as_long))

-- is found in none
pub frames_miss : (most address size : ℕ) → 1 ≤ size → (own : P.Activation) (callers : List (ℕ × P.Activation)) (top : M.Activation) (others : List M.Activation) → Pair most own top → Pairs most callers others
    → Stacked own callers → IsOutside own address size → bytes_at (top ∷ others) address size ≡ None
frames_miss most address size wide own [] top [] pair pairs stacked outside =
    ap (λ b. if b then Some (take size (drop (address - top.start) top.bytes)) else None) (not_in most own [] top address size wide pair stacked outside)
frames_miss most address size wide own [] top (first ∷ others) pair pairs stacked outside = absurd pairs
frames_miss most address size wide own (one ∷ callers) top [] pair pairs stacked outside = absurd pairs
frames_miss most address size wide own ((site, caller) ∷ callers) top (first ∷ others) pair pairs stacked outside =
    ap (λ b. if b then Some (take size (drop (address - top.start) top.bytes)) else bytes_at (first ∷ others) address size) (not_in most own ((site, caller) ∷ callers) top address size wide pair stacked outside)
    ∙ frames_miss most address size wide caller callers first others pairs.0 pairs.1 stacked.1 (outside_next own site caller callers address size stacked outside)

-- and it is written in none
pub put_misses : (most address : ℕ) (new : List ℕ) → 1 ≤ length new → (own : P.Activation) (callers : List (ℕ × P.Activation)) (top : M.Activation) (others : List M.Activation) → Pair most own top → Pairs most callers others
    → Stacked own callers → IsOutside own address (length new) → with_bytes_at (top ∷ others) address new ≡ None
put_misses most address new wide own [] top [] pair pairs stacked outside =
    ap (λ b. if b then Some (record top { bytes = over top.bytes (address - top.start) new } ∷ []) else None) (not_in most own [] top address (length new) wide pair stacked outside)
put_misses most address new wide own [] top (first ∷ others) pair pairs stacked outside = absurd pairs
put_misses most address new wide own (one ∷ callers) top [] pair pairs stacked outside = absurd pairs
put_misses most address new wide own ((site, caller) ∷ callers) top (first ∷ others) pair pairs stacked outside =
    ap (λ b. if b then Some (record top { bytes = over top.bytes (address - top.start) new } ∷ first ∷ others) else beneath top (with_bytes_at (first ∷ others) address new))
    (not_in most own ((site, caller) ∷ callers) top address (length new) wide pair stacked outside)
    ∙ ap (beneath top) (put_misses most address new wide caller callers first others pairs.0 pairs.1 stacked.1 (outside_next own site caller callers address (length new) stacked outside))

-- ---- bytes written

pub stacked_as : (own : P.Activation) (callers : List (ℕ × P.Activation)) (after : P.Activation) → after.start ≡ own.start → Stacked own callers → Stacked after callers
stacked_as own [] after e stacked = e ∙ stacked
stacked_as own ((site, caller) ∷ callers) after e stacked = (e ∙ stacked.0, stacked.1)

-- an activation with other bytes in its frame
pub record SameBut (before after : P.Activation) : Type 0 where
  pub owner : after.owner ≡ before.owner
  pub words : after.words ≡ before.words
  pub descriptors : after.descriptors ≡ before.descriptors
  pub start : after.start ≡ before.start
  pub at : after.at ≡ before.at
  pub long : length after.bytes ≡ length before.bytes

pub record Put (code : PoolCode) (address : ℕ) (new : List ℕ) (own : P.Activation) (callers : List (ℕ × P.Activation)) (function : Function) (place : ℕ) (operands : List ℕ) (bytes : List ℕ) (others : List M.Activation)
    (found : P.Activation × List (ℕ × P.Activation)) : Type 0 where
  pub later : List ℕ
  pub more : List M.Activation
  pub is : with_bytes_at (activation_at own place operands bytes ∷ others) address new ≡ Some (activation_at found.0 place operands later ∷ more)
  pub frame : FrameStands function found.0 later
  pub waiting : CallersStand code found.1 more
  pub stacked : Stacked found.0 found.1
  pub same : SameBut own found.0
  pub depth : length found.1 ≡ length callers
  pub below : address + length new ≤ own.start + length own.bytes

itself : (own : P.Activation) → SameBut own own
itself own = record { owner = refl; words = refl; descriptors = refl; start = refl; at = refl; long = refl }

next_same : (before after : P.Activation) → SameBut before after → next_start after ≡ next_start before
next_same before after same = ap₂ (λ (start long : ℕ). start + (long + 15) / 16 * 16) same.start same.long

-- one that waits for a call, with other bytes
caller_same : (code : PoolCode) (site : ℕ) (own after : P.Activation) (caller : M.Activation) (bytes : List ℕ) (stands : CallerStands code site own caller) → SameBut own after
    → FrameStands stands.function after bytes
    → CallerStands code site after
    (activation_at after (place_of stands.function own.at + (length (preparing stands.function (O.Call site stands.callee stands.arguments stands.pools)) + 1)) (place_in stands.function own (R.Call site) ∷ []) bytes)
caller_same code site own after caller bytes stands same frame =
    let after_call = length (preparing stands.function (O.Call site stands.callee stands.arguments stands.pools)) + 1 in
    record {
      function = stands.function;
      callee = stands.callee;
      arguments = stands.arguments;
      pools = stands.pools;
      bytes = bytes;
      is = ap (function_of code) same.owner ∙ stands.is;
      waits = ap (slice_get stands.function.points) same.at ∙ stands.waits;
      activation =
          ap₂ (λ (at start : ℕ). activation_at after (place_of stands.function at + after_call) ((start + 8 * word_of_register stands.function (R.Call site)) ∷ []) bytes) (sym same.at) (sym same.start);
      frame = frame;
    }

module _ (code : PoolCode) (most : ℕ) (fits : CodeFits most code) (address : ℕ) (new : List ℕ) (wide : 1 ≤ length new) where
  put_here : (own : P.Activation) (callers : List (ℕ × P.Activation)) (function : Function) (place : ℕ) (operands : List ℕ) (bytes : List ℕ) (others : List M.Activation)
      → FunctionFits most function → FrameStands function own bytes → CallersStand code callers others → Stacked own callers → covers own address (length new) ≡ true
      → Put code address new own callers function place operands bytes others (with_bytes own address new, callers)
  put_here own callers function place operands bytes others own_fits frame waiting stacked is =
      let both = covers_facts own address (length new) is in
      let off = address - own.start in
      let long = length-over own.bytes new off (omega (arith, both.0, both.1)) in
      let same : SameBut own (with_bytes own address new) = record { owner = refl; words = refl; descriptors = refl; start = refl; at = refl; long = long } in
      record {
        later = over bytes off new;
        more = others;
        is =
            ap (λ b. if b then Some (activation_at own place operands (over bytes off new) ∷ others) else beneath (activation_at own place operands bytes) (with_bytes_at others address new))
            (covers_from (activation_at own place operands bytes) address (length new) (omega (arith, both.0)) (omega (arith, both.1, frame.as_long)));
        frame = object_written most function own_fits own bytes frame off new (omega (arith, both.0)) (omega (arith, both.0, both.1));
        waiting = waiting;
        stacked = stacked_as own callers (with_bytes own address new) refl stacked;
        same = same;
        depth = refl;
        below = both.1;
      }

  put_later : (own : P.Activation) (site : ℕ) (caller : P.Activation) (callers : List (ℕ × P.Activation)) (function : Function) (place : ℕ) (operands : List ℕ) (bytes : List ℕ) (first : M.Activation) (others : List M.Activation)
      → FrameStands function own bytes → (waits : CallerStands code site caller first) → Stacked own ((site, caller) ∷ callers) → (found : P.Activation × List (ℕ × P.Activation))
      → Put code address new caller callers waits.function (place_of waits.function caller.at + (length (preparing waits.function (O.Call site waits.callee waits.arguments waits.pools)) + 1)) (place_in waits.function caller (R.Call site) ∷ []) waits.bytes others found
      → Put code address new own ((site, caller) ∷ callers) function place operands bytes (first ∷ others) (own, (site, found.0) ∷ found.1)
  put_later own site caller callers function place operands bytes first others frame waits stacked found rest =
      let after_call = place_of waits.function caller.at + (length (preparing waits.function (O.Call site waits.callee waits.arguments waits.pools)) + 1) in
      let operand = place_in waits.function caller (R.Call site) ∷ [] in
      let low : address < own.start = omega (arith, rest.below, next_behind caller, stacked.0, wide) in
      record {
        later = bytes;
        more = activation_at found.0 after_call operand rest.later ∷ rest.more;
        is =
            ap (λ b. if b then Some (activation_at own place operands (over bytes (address - own.start) new) ∷ first ∷ others) else beneath (activation_at own place operands bytes) (with_bytes_at (first ∷ others) address new))
            (not_before (activation_at own place operands bytes) address (length new) low)
            ∙ ap (λ (a : M.Activation). beneath (activation_at own place operands bytes) (with_bytes_at (a ∷ others) address new)) waits.activation
            ∙ ap (beneath (activation_at own place operands bytes)) rest.is;
        frame = frame;
        waiting = (caller_same code site caller found.0 first rest.later waits rest.same rest.frame, rest.waiting);
        stacked = (stacked.0 ∙ sym (next_same caller found.0 rest.same), rest.stacked);
        same = itself own;
        depth = ap suc rest.depth;
        below = omega (arith, rest.below, next_behind caller, stacked.0);
      }

  pub frames_put : (own : P.Activation) (callers : List (ℕ × P.Activation)) (function : Function) (place : ℕ) (operands : List ℕ) (bytes : List ℕ) (others : List M.Activation)
      → FunctionFits most function → FrameStands function own bytes → CallersStand code callers others → Stacked own callers → (found : P.Activation × List (ℕ × P.Activation))
      → with_frame_bytes own callers address new ≡ Some found → Put code address new own callers function place operands bytes others found
  frames_put own [] function place operands bytes others own_fits frame waiting stacked found e = by (covers own address (length new)) refl e
    where
      by : (b : Bool) → covers own address (length new) ≡ b → (if b then Some (with_bytes own address new, []) else None) ≡ Some found → Put code address new own [] function place operands bytes others found
      by true is e = subst (λ f. Put code address new own [] function place operands bytes others f) (cc) (put_here own [] function place operands bytes others own_fits frame waiting stacked is)
      by false is e = absurd (cc)
  frames_put own ((site, caller) ∷ callers) function place operands bytes [] own_fits frame waiting stacked found e = absurd waiting
  frames_put own ((site, caller) ∷ callers) function place operands bytes (first ∷ others) own_fits frame waiting stacked found e =
      let waits = waiting.0 in
      let after_call = place_of waits.function caller.at + (length (preparing waits.function (O.Call site waits.callee waits.arguments waits.pools)) + 1) in
      let operand = place_in waits.function caller (R.Call site) ∷ [] in
      by (covers own address (length new)) refl e (λ f is.
      put_later own site caller callers function place operands bytes first others frame waits stacked f
      (frames_put caller callers waits.function after_call operand waits.bytes others (fits.functions caller.owner waits.function waits.is) waits.frame waiting.1 stacked.1 f is))
    where
      Goal : P.Activation × List (ℕ × P.Activation) → Type 0
      Goal f = Put code address new own ((site, caller) ∷ callers) function place operands bytes (first ∷ others) f

      inner : (x : Option (P.Activation × List (ℕ × P.Activation))) → with_frame_bytes caller callers address new ≡ x
          → option_map (λ (f : P.Activation × List (ℕ × P.Activation)). (own, (site, f.0) ∷ f.1)) x ≡ Some found
          → ((f : P.Activation × List (ℕ × P.Activation)) → with_frame_bytes caller callers address new ≡ Some f → Goal (own, (site, f.0) ∷ f.1)) → Goal found
      inner None is e deeper = absurd (cc)
      inner (Some f) is e deeper = subst Goal (cc) (deeper f is)

      by : (b : Bool) → covers own address (length new) ≡ b
          → (if b then Some (with_bytes own address new, (site, caller) ∷ callers) else option_map (λ (f : P.Activation × List (ℕ × P.Activation)). (own, (site, f.0) ∷ f.1)) (with_frame_bytes caller callers address new)) ≡ Some found
          → ((f : P.Activation × List (ℕ × P.Activation)) → with_frame_bytes caller callers address new ≡ Some f → Goal (own, (site, f.0) ∷ f.1)) → Goal found
      by true is e deeper = subst Goal (cc) (put_here own ((site, caller) ∷ callers) function place operands bytes (first ∷ others) own_fits frame waiting stacked is)
      by false is e deeper = inner (with_frame_bytes caller callers address new) refl e deeper
