-- Ranges in frames: bytes written in the first frame that has them, frames entered and left.
use Rattle.std.proofs.Common.{◌≡◌, ℕ, ◌+◌, ◌-◌, ◌*◌, ◌/◌, ◌^◌, ◌<◌, ◌≤◌, ◌⊎◌, Bool, true, false, ◌&&◌, List, [], ◌∷◌, Option, Some, None, length, map, refl, sym, ap, ◌∙◌, inl, inr, arith}
use Rattle.std.specs.Prelude.{nat_le, if◌then◌else◌, option_map}
use Rattle.std.proofs.lemmas.Bool.{and_parts, and_from, leb-true, le-leb, lt-leb, and_left, and_right}
use Rattle.run_theory.specs.Words.{word_at}
use Rattle.pool_ir.specs.States.{Activation}
use Rattle.pool_ir.specs.Memory.{covers, frame_number, with_bytes, with_frame_bytes}
use Rattle.pool_ir.specs.Meaning.{next_start}
use Rattle.pool_simulation.specs.Regions.{AreApart, frame_end, Stacked, SameActivation, SameCallers}
use Rattle.pool_simulation.proofs.WrittenBytes.{length-over, over_apart, over_reads}

pub if_same : {X : Type 0} (b : Bool) (x z y : X) → (b ≡ true → x ≡ z) → (if b then x else y) ≡ (if b then z else y)
if_same true x z y same = same refl
if_same false x z y same = refl

pub covers_facts : (a : Activation) (address size : ℕ) → covers a address size ≡ true → (a.start + a.kept ≤ address) × (address + size ≤ a.start + length a.bytes)
covers_facts a address size e =
    let both = and_parts (nat_le (a.start + a.kept) address) (nat_le (address + size) (a.start + length a.bytes)) e in
    (leb-true (a.start + a.kept) address both.0, leb-true (address + size) (a.start + length a.bytes) both.1)

pub covers_from : (a : Activation) (address size : ℕ) → a.start + a.kept ≤ address → address + size ≤ a.start + length a.bytes → covers a address size ≡ true
covers_from a address size low high =
    and_from (nat_le (a.start + a.kept) address) (nat_le (address + size) (a.start + length a.bytes)) (le-leb (a.start + a.kept) address low) (le-leb (address + size) (a.start + length a.bytes) high)

-- a range with a byte before the frame, or behind it
pub not_before : (a : Activation) (address size : ℕ) → address < a.start → covers a address size ≡ false
not_before a address size low = and_left (nat_le (a.start + a.kept) address) (nat_le (address + size) (a.start + length a.bytes)) (lt-leb (a.start + a.kept) address (omega (arith, low)))

pub not_behind : (a : Activation) (address size : ℕ) → a.start + length a.bytes < address + size → covers a address size ≡ false
not_behind a address size high = and_right (nat_le (a.start + a.kept) address) (nat_le (address + size) (a.start + length a.bytes)) (lt-leb (address + size) (a.start + length a.bytes) high)

abbrev pub frames_from : Activation → List (ℕ × Activation) → List Activation
frames_from running callers = running ∷ map (λ (waiting : ℕ × Activation). waiting.1) callers

-- ---- activations that differ in their bytes alone

pub covers_same : (a b : Activation) (address size : ℕ) → SameActivation a b → covers b address size ≡ covers a address size
covers_same a b address size same = let start = same.start in let kept = same.kept in let long = same.long in (λ i. nat_le (start i + kept i) address && nat_le (address + size) (start i + long i))

pub itself : (a : Activation) → SameActivation a a
itself a = record { owner = refl; words = refl; descriptors = refl; start = refl; kept = refl; at = refl; long = refl }

pub callers_themselves : (callers : List (ℕ × Activation)) → SameCallers callers callers
callers_themselves [] = tt
callers_themselves ((site, caller) ∷ callers) = (refl, itself caller, callers_themselves callers)

pub next_same : (a b : Activation) → SameActivation a b → next_start b ≡ next_start a
next_same a b same = let start = same.start in let long = same.long in (λ i. start i + (long i + 15) / 16 * 16)

pub stacked_same : (running after : Activation) (callers others : List (ℕ × Activation)) → SameActivation running after → SameCallers callers others → Stacked running callers → Stacked after others
stacked_same running after [] [] same rest stacked = same.start ∙ stacked
stacked_same running after [] (other ∷ others) same rest stacked = absurd rest
stacked_same running after ((site, caller) ∷ callers) [] same rest stacked = absurd rest
stacked_same running after ((site, caller) ∷ callers) ((site_after, other) ∷ others) same rest stacked =
    (same.start ∙ stacked.0 ∙ sym (next_same caller other rest.1), stacked_same caller other callers others rest.1 rest.2 stacked.1)

-- ---- bytes written in a frame

pub record FramesWritten (address : ℕ) (new : List ℕ) (before : Activation) (waiting : List (ℕ × Activation)) (after : Activation) (others : List (ℕ × Activation)) : Type 0 where
  pub running : SameActivation before after
  pub callers : SameCallers waiting others
  pub reads : frame_number (frames_from after others) address (length new) ≡ Some (word_at new 0 (length new))
  pub apart : (other width : ℕ) → AreApart address (length new) other width → frame_number (frames_from after others) other width ≡ frame_number (frames_from before waiting) other width

abbrev pub FramesTell : ℕ → List ℕ → Activation → List (ℕ × Activation) → Option (Activation × List (ℕ × Activation)) → Type 0
FramesTell address new running callers None = frame_number (frames_from running callers) address (length new) ≡ None
FramesTell address new running callers (Some found) = FramesWritten address new running callers found.0 found.1

module _ (address : ℕ) (new : List ℕ) where
  module _ (running : Activation) (callers : List (ℕ × Activation)) (is : covers running address (length new) ≡ true) where
    abbrev after : Activation
    after = with_bytes running address new

    abbrev off : ℕ
    off = address - running.start

    inside : off + length new ≤ length running.bytes
    inside = let both = covers_facts running address (length new) is in omega (arith, both.0, both.1)

    same_one : SameActivation running after
    same_one = record { owner = refl; words = refl; descriptors = refl; start = refl; kept = refl; at = refl; long = length-over running.bytes new off inside }

    still : (other width : ℕ) → AreApart address (length new) other width → covers running other width ≡ true → word_at after.bytes (other - running.start) width ≡ word_at running.bytes (other - running.start) width
    still other width apart there = over_apart running.bytes new off inside (other - running.start) width (moved apart)
      where
        moved : AreApart address (length new) other width → (off + length new ≤ other - running.start) ⊎ (other - running.start + width ≤ off)
        moved (inl behind) = let both = covers_facts running address (length new) is in inl (omega (arith, both.0, behind))
        moved (inr before) = let both = covers_facts running other width there in inr (omega (arith, both.0, before))

    first_written : FramesWritten address new running callers after callers
    first_written = record {
      running = same_one;
      callers = callers_themselves callers;
      reads =
          ap (λ b. if b then Some (word_at after.bytes off (length new)) else frame_number (map (λ (waiting : ℕ × Activation). waiting.1) callers) address (length new)) (covers_same running after address (length new) same_one ∙ is)
          ∙ ap Some (over_reads running.bytes new off inside);
      apart = λ other width apart.
          ap (λ b. if b then Some (word_at after.bytes (other - running.start) width) else frame_number (map (λ (waiting : ℕ × Activation). waiting.1) callers) other width) (covers_same running after other width same_one)
          ∙ if_same (covers running other width) (Some (word_at after.bytes (other - running.start) width)) (Some (word_at running.bytes (other - running.start) width)) (frame_number (map (λ (waiting : ℕ × Activation). waiting.1) callers) other width)
          (λ there. ap Some (still other width apart there));
    }

  behind : (running : Activation) (site : ℕ) (caller : Activation) (callers : List (ℕ × Activation)) → covers running address (length new) ≡ false → (found : Option (Activation × List (ℕ × Activation))) → FramesTell address new caller callers found
      → FramesTell address new running ((site, caller) ∷ callers) (option_map (λ (found : Activation × List (ℕ × Activation)). (running, (site, found.0) ∷ found.1)) found)
  behind running site caller callers is None none =
      ap (λ b. if b then Some (word_at running.bytes (address - running.start) (length new)) else frame_number (frames_from caller callers) address (length new)) is ∙ none
  behind running site caller callers is (Some found) rest = record {
    running = itself running;
    callers = (refl, rest.running, rest.callers);
    reads = ap (λ b. if b then Some (word_at running.bytes (address - running.start) (length new)) else frame_number (frames_from found.0 found.1) address (length new)) is ∙ rest.reads;
    apart = λ other width apart. ap (λ (n : Option ℕ). if covers running other width then Some (word_at running.bytes (other - running.start) width) else n) (rest.apart other width apart);
  }

  last_by : (running : Activation) (b : Bool) → covers running address (length new) ≡ b → FramesTell address new running [] (if b then Some (with_bytes running address new, []) else None)
  last_by running true is = first_written running [] is
  last_by running false is = ap (λ b. if b then Some (word_at running.bytes (address - running.start) (length new)) else None) is

  more_by : (running : Activation) (site : ℕ) (caller : Activation) (callers : List (ℕ × Activation)) (b : Bool) → covers running address (length new) ≡ b → FramesTell address new caller callers (with_frame_bytes caller callers address new)
      → FramesTell address new running ((site, caller) ∷ callers) (if b then Some (with_bytes running address new, (site, caller) ∷ callers) else option_map (λ (found : Activation × List (ℕ × Activation)). (running, (site, found.0) ∷ found.1)) (with_frame_bytes caller callers address new))
  more_by running site caller callers true is rest = first_written running ((site, caller) ∷ callers) is
  more_by running site caller callers false is rest = behind running site caller callers is (with_frame_bytes caller callers address new) rest

  pub frames_tell : (running : Activation) (callers : List (ℕ × Activation)) → FramesTell address new running callers (with_frame_bytes running callers address new)
  frames_tell running [] = last_by running (covers running address (length new)) refl
  frames_tell running ((site, caller) ∷ callers) = more_by running site caller callers (covers running address (length new)) refl (frames_tell caller callers)

-- ---- where frames lie

-- the frames begin at 2 ^ 40 or behind it
pub frames_start : (running : Activation) (callers : List (ℕ × Activation)) → Stacked running callers → 2 ^ 40 ≤ running.start
frames_start running [] stacked = omega (arith, stacked)
frames_start running ((site, caller) ∷ callers) stacked = omega (arith, stacked.0, frames_start caller callers stacked.1)

-- a frame ends where the next one begins, or before
pub next_behind : (a : Activation) → frame_end a ≤ next_start a
next_behind a = omega arith

-- a range that begins before 2 ^ 40, or ends behind the running one's frame, is in no frame
pub none_before : (running : Activation) (callers : List (ℕ × Activation)) (address size : ℕ) → Stacked running callers → address < 2 ^ 40 → frame_number (frames_from running callers) address size ≡ None
none_before running [] address size stacked low =
    ap (λ b. if b then Some (word_at running.bytes (address - running.start) size) else None) (not_before running address size (omega (arith, stacked, low)))
none_before running ((site, caller) ∷ callers) address size stacked low =
    ap (λ b. if b then Some (word_at running.bytes (address - running.start) size) else frame_number (frames_from caller callers) address size)
    (not_before running address size (omega (arith, frames_start running ((site, caller) ∷ callers) stacked, low)))
    ∙ none_before caller callers address size stacked.1 low

pub none_behind : (running : Activation) (callers : List (ℕ × Activation)) (address size : ℕ) → Stacked running callers → frame_end running < address + size → frame_number (frames_from running callers) address size ≡ None
none_behind running [] address size stacked high =
    ap (λ b. if b then Some (word_at running.bytes (address - running.start) size) else None) (not_behind running address size high)
none_behind running ((site, caller) ∷ callers) address size stacked high =
    ap (λ b. if b then Some (word_at running.bytes (address - running.start) size) else frame_number (frames_from caller callers) address size) (not_behind running address size high)
    ∙ none_behind caller callers address size stacked.1 (omega (arith, stacked.0, next_behind caller, high))
