-- Frames lie one after another, so that of all frames only the last one that begins at an address or before it can hold the bytes there.
use Rattle.std.proofs.Common.{◌≡◌, ℕ, ◌+◌, ◌-◌, ◌<◌, ◌≤◌, Bool, true, false, List, [], ◌∷◌, ◌++◌, Some, None, length, get_or, take, drop, set, reverse, refl, sym, ap, ◌∙◌, subst, arith}
use Rattle.std.specs.Bool.{if◌then◌else◌, MatchBool, OnFalse}
use Rattle.std.specs.Option.{option_map}
use Rattle.std.specs.List.{All}
use Rattle.std.specs.List.Sorted.{IsNonDecreasingBy}
use Rattle.std.proofs.lemmas.Bool.Decides.{nat_tests}
use Rattle.std.proofs.lemmas.List.{append_assoc, reverse-append, take-append-drop, get_or-drop, length-drop, get_or_push, length_push, set-get_or}
use Rattle.std.proofs.lemmas.List.Elements.{All-head, All-tail}
use Rattle.std.proofs.lemmas.List.Sorted.{IsNonDecreasingBy-short, IsNonDecreasingBy-push}
use Rattle.byteorder.specs.Endian.{little_number}
use Rattle.pool_isa.specs.Machine.{Activation, covers, spliced, beneath, bytes_at, with_bytes_at, next_start}
use Rattle.machine.specs.Promises.{frame_number}
use Rattle.machine.specs.Steps.{BeginUpTo, IsStacked, end_of}
use Rattle.machine.proofs.Frames.{behind, behind_none, behind-beneath, found_beyond, reverse-take_more, write_on, write_found, after_found, after_missed}

turned : (frame : Activation) (frames : List Activation) → reverse (frame ∷ frames) ≡ reverse frames ++ frame ∷ []
turned frame frames = reverse-append (frame ∷ []) frames

turned_before : (frame : Activation) (frames rest : List Activation) → reverse (frame ∷ frames) ++ rest ≡ reverse frames ++ frame ∷ rest
turned_before frame frames rest = ap (λ (fs : List Activation). fs ++ rest) (turned frame frames) ∙ append_assoc (reverse frames) (frame ∷ []) rest

-- ---- their starts ascend

start_last : (frames : List Activation) (start : ℕ) (d : Activation) → IsStacked frames → end_of frames ≤ start → 0 < length (reverse frames) → (get_or (reverse frames) (length (reverse frames) - 1) d).start ≤ start
start_last [] start d stacked above some = absurd (omega arith)
start_last (frame ∷ frames) start d stacked above some =
    let at : length (reverse frames ++ frame ∷ []) - 1 ≡ length (reverse frames) = omega (arith, length_push (reverse frames) frame) in
    let same : get_or (reverse (frame ∷ frames)) (length (reverse (frame ∷ frames)) - 1) d ≡ frame =
    ap (λ (fs : List Activation). get_or fs (length fs - 1) d) (turned frame frames)
    ∙ ap (λ n. get_or (reverse frames ++ frame ∷ []) n d) at ∙ get_or_push (reverse frames) frame d (length (reverse frames)) refl in
    omega (arith, ap (λ (f : Activation). f.start) same, above)

pub ascending : (frames : List Activation) → IsStacked frames → IsNonDecreasingBy (λ (f : Activation). f.start) (reverse frames)
ascending [] stacked = IsNonDecreasingBy-short (λ (f : Activation). f.start) [] (omega arith)
ascending (frame ∷ frames) stacked =
    subst (IsNonDecreasingBy (λ (f : Activation). f.start)) (sym (turned frame frames))
    (IsNonDecreasingBy-push (λ (f : Activation). f.start) (reverse frames) frame (ascending frames stacked.2) (λ d some. start_last frames frame.start d stacked.2 stacked.1 some))

stacked_behind : (passed frames : List Activation) → IsStacked (passed ++ frames) → IsStacked frames
stacked_behind [] frames stacked = stacked
stacked_behind (frame ∷ passed) frames stacked = stacked_behind passed frames stacked.2

-- ---- frames that can't hold the bytes

abbrev IsBehind : ℕ → Activation → Type 0
IsBehind address frame = address < frame.start

module _ (address size : ℕ) (some : 1 ≤ size) where
  too_low : (frame : Activation) → next_start frame ≤ address → covers frame address size ≡ false
  too_low frame le = grind (arith, nat_tests)

  too_high : (frame : Activation) → IsBehind address frame → covers frame address size ≡ false
  too_high frame lt = grind (arith, nat_tests)

  read_chosen : (frame : Activation) (frames : List Activation) (b : Bool) → covers frame address size ≡ b
      → bytes_at (frame ∷ frames) address size ≡ (if b then Some (take size (drop (address - frame.start) frame.bytes)) else bytes_at frames address size)
  read_chosen frame frames b e = ap (λ (t : Bool). if t then Some (take size (drop (address - frame.start) frame.bytes)) else bytes_at frames address size) e

  -- frames that all end at the address or before
  read_past : (frames : List Activation) → IsStacked frames → end_of frames ≤ address → bytes_at frames address size ≡ None
  read_past [] stacked le = refl
  read_past (frame ∷ frames) stacked le = read_chosen frame frames false (too_low frame le) ∙ read_past frames stacked.2 (omega (arith, stacked.1, le))

  -- frames that all begin behind the address
  read_over : (later frames : List Activation) → All (IsBehind address) later → bytes_at (reverse later ++ frames) address size ≡ bytes_at frames address size
  read_over [] frames high = refl
  read_over (frame ∷ later) frames high =
      ap (λ (fs : List Activation). bytes_at fs address size) (turned_before frame later frames)
      ∙ read_over later (frame ∷ frames) (All-tail (IsBehind address) frame later high)
      ∙ read_chosen frame frames false (too_high frame (All-head (IsBehind address) frame later high))

  -- the last frame that begins there or before
  pub read_last : (frame : Activation) (frames : List Activation) → IsStacked (frame ∷ frames) → frame.start ≤ address → option_map (little_number size) (bytes_at (frame ∷ frames) address size) ≡ frame_number frame address size
  read_last frame frames stacked le = by (covers frame address size) refl
    where
      by : (b : Bool) → covers frame address size ≡ b → option_map (little_number size) (bytes_at (frame ∷ frames) address size) ≡ frame_number frame address size
      by true e = ap (option_map (little_number size)) (read_chosen frame frames true e)
          ∙ sym (ap (λ (t : Bool). if t then Some (little_number size (take size (drop (address - frame.start) frame.bytes))) else None) e)
      by false e = ap (option_map (little_number size)) (read_chosen frame frames false e ∙ read_past frames stacked.2 (omega (arith, stacked.1, le)))
          ∙ sym (ap (λ (t : Bool). if t then Some (little_number size (take size (drop (address - frame.start) frame.bytes))) else None) e)

  module _ (new : List ℕ) (sized : length new ≡ size) where
    write_past : (frames : List Activation) → IsStacked frames → end_of frames ≤ address → with_bytes_at frames address new ≡ None
    write_past [] stacked le = refl
    write_past (frame ∷ frames) stacked le =
        found_beyond frame frames address size new sized (too_low frame le) ∙ ap (beneath frame) (write_past frames stacked.2 (omega (arith, stacked.1, le)))

    pub write_nowhere : (frame : Activation) (frames : List Activation) → IsStacked (frame ∷ frames) → frame.start ≤ address → covers frame address size ≡ false → with_bytes_at (frame ∷ frames) address new ≡ None
    write_nowhere frame frames stacked le missed =
        found_beyond frame frames address size new sized missed ∙ ap (beneath frame) (write_past frames stacked.2 (omega (arith, stacked.1, le)))

    write_over : (later frames : List Activation) → All (IsBehind address) later → with_bytes_at (reverse later ++ frames) address new ≡ behind (reverse later) (with_bytes_at frames address new)
    write_over [] frames high = behind_none (with_bytes_at frames address new)
    write_over (frame ∷ later) frames high =
        ap (λ (fs : List Activation). with_bytes_at fs address new) (turned_before frame later frames)
        ∙ write_over later (frame ∷ frames) (All-tail (IsBehind address) frame later high)
        ∙ ap (behind (reverse later)) (found_beyond frame frames address size new sized (too_high frame (All-head (IsBehind address) frame later high)))
        ∙ behind-beneath (reverse later) frame (with_bytes_at frames address new)
        ∙ ap (λ (fs : List Activation). behind fs (with_bytes_at frames address new)) (sym (turned frame later))

-- ---- frames that stand with the outermost one first, as many of which as are counted begin at the address or before

module _ (xs : List Activation) (address size count : ℕ) (some : 1 ≤ size) (stacked : IsStacked (reverse xs)) (within : count ≤ length xs) (point : BeginUpTo address xs count) where
  cut : reverse xs ≡ reverse (drop count xs) ++ reverse (take count xs)
  cut = ap reverse (sym (take-append-drop count xs)) ∙ reverse-append (take count xs) (drop count xs)

  high : All (IsBehind address) (drop count xs)
  high k d lt =
      let inside : count + k < length xs = omega (arith, lt, length-drop count xs) in
      omega (arith, ap (λ (f : Activation). f.start) (get_or-drop count xs k d), point.1 (count + k) d (omega arith) inside)

  read_front : bytes_at (reverse xs) address size ≡ bytes_at (reverse (take count xs)) address size
  read_front = ap (λ (fs : List Activation). bytes_at fs address size) cut ∙ read_over address size some (drop count xs) (reverse (take count xs)) high

  pub read_none : count ≡ 0 → bytes_at (reverse xs) address size ≡ None
  read_none e = read_front ∙ ap (λ n. bytes_at (reverse (take n xs)) address size) e

  write_front : (new : List ℕ) → length new ≡ size → with_bytes_at (reverse xs) address new ≡ behind (reverse (drop count xs)) (with_bytes_at (reverse (take count xs)) address new)
  write_front new sized = ap (λ (fs : List Activation). with_bytes_at fs address new) cut ∙ write_over address size some new sized (drop count xs) (reverse (take count xs)) high

  pub write_none : (new : List ℕ) → length new ≡ size → count ≡ 0 → with_bytes_at (reverse xs) address new ≡ None
  write_none new sized none = write_front new sized ∙ ap (λ n. behind (reverse (drop count xs)) (with_bytes_at (reverse (take n xs)) address new)) none

  module _ (k : ℕ) (x : Activation) (e : count ≡ k + 1) (is : x ≡ get_or xs k x) where
    lt : k < length xs
    lt = omega (arith, e, within)

    front : reverse (take count xs) ≡ x ∷ reverse (take k xs)
    front = reverse-take_more xs count k x e lt is

    stacked_front : IsStacked (x ∷ reverse (take k xs))
    stacked_front = subst IsStacked front (stacked_behind (reverse (drop count xs)) (reverse (take count xs)) (subst IsStacked cut stacked))

    begins : x.start ≤ address
    begins = omega (arith, ap (λ (f : Activation). f.start) is, point.0 k x (omega arith) (omega (arith, e)))

    pub read_found : option_map (little_number size) (bytes_at (reverse xs) address size) ≡ frame_number x address size
    read_found =
        ap (option_map (little_number size)) (read_front ∙ ap (λ (fs : List Activation). bytes_at fs address size) front)
        ∙ read_last address size some x (reverse (take k xs)) stacked_front begins

    module _ (new : List ℕ) (sized : length new ≡ size) where
      past : with_bytes_at (reverse (take k xs)) address new ≡ None
      past = write_past address size some new sized (reverse (take k xs)) stacked_front.2 (omega (arith, stacked_front.1, begins))

      pub written_last : (found : Bool) (after : Activation) → found ≡ covers x address size
          → after ≡ (if covers x address size then record x { bytes = spliced x.bytes (address - x.start) new } else x)
          → MatchBool found (with_bytes_at (reverse xs) address new ≡ Some (reverse (set xs k after))) (with_bytes_at (reverse xs) address new ≡ None)
      written_last true after covered tried =
          write_found xs count k address size x new sized e lt is (sym covered) (write_front new sized)
          ∙ ap (λ (f : Activation). Some (reverse (set xs k f))) (sym (after_found x x after address size new refl tried (sym covered)))
      written_last false after missed tried =
          write_on xs count k address size x new sized e lt is (sym missed) (write_front new sized) ∙ ap (behind (reverse (drop k xs))) past

      pub kept_last : (found : Bool) (after : Activation) → found ≡ covers x address size
          → after ≡ (if covers x address size then record x { bytes = spliced x.bytes (address - x.start) new } else x)
          → OnFalse found (set xs k after ≡ xs)
      kept_last true after covered tried = tt
      kept_last false after missed tried =
          ap (set xs k) (after_missed x x after address size new refl tried (sym missed) ∙ is) ∙ set-get_or xs k x
