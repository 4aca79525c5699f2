-- Looking for the frame that an access lies in, from the innermost outward.
use Rattle.std.proofs.Common.{◌≡◌, ℕ, suc, ◌+◌, ◌-◌, ◌*◌, ◌^◌, ◌<◌, ◌≤◌, ◌/◌, Bool, true, false, List, [], ◌∷◌, ◌++◌, Option, Some, None, length, get_or, take, drop, set, reverse, refl, sym, ap, ◌∙◌, subst, arith}
use Rattle.std.specs.Bool.{if◌then◌else◌, MatchBool, OnFalse}
use Rattle.std.proofs.lemmas.Bool.Decides.{nat_tests}
use Rattle.std.proofs.lemmas.Option.{none-some, same_Some}
use Rattle.std.proofs.lemmas.List.{append_assoc, reverse-append, take_more, drop_more, set_split}
use Rattle.pool_isa.specs.Machine.{Activation, covers, spliced, beneath, with_bytes_at, next_start}
use Rattle.machine.specs.Steps.{IsStacked, end_of}
use Rattle.machine.proofs.Lists.{length-spliced}

-- frames that were passed over, in front of what was found
abbrev pub behind : List Activation → Option (List Activation) → Option (List Activation)
behind passed None = None
behind passed (Some frames) = Some (passed ++ frames)

pub behind-beneath : (passed : List Activation) (frame : Activation) (found : Option (List Activation)) → behind passed (beneath frame found) ≡ behind (passed ++ frame ∷ []) found
behind-beneath passed frame None = refl
behind-beneath passed frame (Some frames) = ap Some (sym (append_assoc passed (frame ∷ []) frames))

pub behind_none : (found : Option (List Activation)) → found ≡ behind [] found
behind_none None = refl
behind_none (Some frames) = refl

-- the next frame of a list that is read from its end
pub reverse-take_more : (xs : List Activation) (i k : ℕ) (x : Activation) → i ≡ k + 1 → k < length xs → x ≡ get_or xs k x → reverse (take i xs) ≡ x ∷ reverse (take k xs)
reverse-take_more xs i k x e lt is = ap (λ n. reverse (take n xs)) e ∙ ap reverse (take_more xs k x lt ∙ ap (λ y. take k xs ++ y ∷ []) (sym is)) ∙ reverse-append (take k xs) (x ∷ [])

reverse-drop_more : (xs : List Activation) (i k : ℕ) (x : Activation) → i ≡ k + 1 → k < length xs → x ≡ get_or xs k x → reverse (drop k xs) ≡ reverse (drop i xs) ++ x ∷ []
reverse-drop_more xs i k x e lt is = ap reverse (drop_more xs k x lt ∙ ap (λ y. y ∷ drop (k + 1) xs) (sym is)) ∙ reverse-append (x ∷ []) (drop (k + 1) xs) ∙ ap (λ n. reverse (drop n xs) ++ x ∷ []) (sym e)

reverse-set : (xs : List Activation) (i k : ℕ) (x : Activation) → i ≡ k + 1 → k < length xs → reverse (set xs k x) ≡ reverse (drop i xs) ++ x ∷ reverse (take k xs)
reverse-set xs i k x e lt =
    let cut = ap reverse (set_split xs k x lt) ∙ reverse-append (take k xs) (x ∷ drop (suc k) xs) in
    let one = ap (λ r. r ++ reverse (take k xs)) (reverse-append (x ∷ []) (drop (suc k) xs)) ∙ append_assoc (reverse (drop (suc k) xs)) (x ∷ []) (reverse (take k xs)) in
    cut ∙ one ∙ ap (λ n. reverse (drop n xs) ++ x ∷ reverse (take k xs)) (let f : suc k ≡ i = omega arith in f)

-- one step of the search for a frame to write to
module _ (frame : Activation) (frames : List Activation) (address size : ℕ) (new : List ℕ) (sized : length new ≡ size) where
  found_here : covers frame address size ≡ true → with_bytes_at (frame ∷ frames) address new ≡ Some (record frame { bytes = spliced frame.bytes (address - frame.start) new } ∷ frames)
  found_here e = ap (λ b. if b then Some (record frame { bytes = spliced frame.bytes (address - frame.start) new } ∷ frames) else beneath frame (with_bytes_at frames address new)) (ap (covers frame address) sized ∙ e)

  pub found_beyond : covers frame address size ≡ false → with_bytes_at (frame ∷ frames) address new ≡ beneath frame (with_bytes_at frames address new)
  found_beyond e = ap (λ b. if b then Some (record frame { bytes = spliced frame.bytes (address - frame.start) new } ∷ frames) else beneath frame (with_bytes_at frames address new)) (ap (covers frame address) sized ∙ e)

module _ (xs : List Activation) (i k address size : ℕ) (x : Activation) (new : List ℕ) (sized : length new ≡ size) (e : i ≡ k + 1) (lt : k < length xs) (is : x ≡ get_or xs k x) where
  pub write_found : covers x address size ≡ true → with_bytes_at (reverse xs) address new ≡ behind (reverse (drop i xs)) (with_bytes_at (reverse (take i xs)) address new) → with_bytes_at (reverse xs) address new ≡ Some (reverse (set xs k (record x { bytes = spliced x.bytes (address - x.start) new })))
  write_found covered searched =
      let found = ap (λ fs. with_bytes_at fs address new) (reverse-take_more xs i k x e lt is) ∙ found_here x (reverse (take k xs)) address size new sized covered in
      searched ∙ ap (behind (reverse (drop i xs))) found ∙ ap Some (sym (reverse-set xs i k (record x { bytes = spliced x.bytes (address - x.start) new }) e lt))

  pub write_on : covers x address size ≡ false → with_bytes_at (reverse xs) address new ≡ behind (reverse (drop i xs)) (with_bytes_at (reverse (take i xs)) address new) → with_bytes_at (reverse xs) address new ≡ behind (reverse (drop k xs)) (with_bytes_at (reverse (take k xs)) address new)
  write_on missed searched =
      let passed = ap (λ fs. with_bytes_at fs address new) (reverse-take_more xs i k x e lt is) ∙ found_beyond x (reverse (take k xs)) address size new sized missed in
      searched ∙ ap (behind (reverse (drop i xs))) passed ∙ behind-beneath (reverse (drop i xs)) x (with_bytes_at (reverse (take k xs)) address new) ∙ ap (λ p. behind p (with_bytes_at (reverse (take k xs)) address new)) (sym (reverse-drop_more xs i k x e lt is))

-- what a frame that was tried is afterwards
module _ (x y after : Activation) (address size : ℕ) (new : List ℕ) (is : x ≡ y) (tried : after ≡ (if covers y address size then record y { bytes = spliced y.bytes (address - y.start) new } else y)) where
  tried_here : after ≡ (if covers x address size then record x { bytes = spliced x.bytes (address - x.start) new } else x)
  tried_here = tried ∙ ap (λ f. if covers f address size then record f { bytes = spliced f.bytes (address - f.start) new } else f) (sym is)

  pub after_found : covers x address size ≡ true → after ≡ record x { bytes = spliced x.bytes (address - x.start) new }
  after_found covered = tried_here ∙ ap (λ b. if b then record x { bytes = spliced x.bytes (address - x.start) new } else x) covered

  pub after_missed : covers x address size ≡ false → after ≡ y
  after_missed missed = tried_here ∙ ap (λ b. if b then record x { bytes = spliced x.bytes (address - x.start) new } else x) missed ∙ is

-- a write is tried in the innermost frame, and then outward
module _ (frame after : Activation) (frames : List Activation) (address size : ℕ) (new : List ℕ) (sized : length new ≡ size) (tried : after ≡ (if covers frame address size then record frame { bytes = spliced frame.bytes (address - frame.start) new } else frame)) where
  pub write_here : covers frame address size ≡ true → with_bytes_at (frame ∷ frames) address new ≡ Some (after ∷ frames)
  write_here covered = found_here frame frames address size new sized covered ∙ ap (λ f. Some (f ∷ frames)) (sym (after_found frame frame after address size new refl tried covered))

  pub write_outward : (found : Bool) (frames' : List Activation) → covers frame address size ≡ false → MatchBool found (with_bytes_at frames address new ≡ Some frames') (with_bytes_at frames address new ≡ None) → MatchBool found (with_bytes_at (frame ∷ frames) address new ≡ Some (after ∷ frames')) (with_bytes_at (frame ∷ frames) address new ≡ None)
  write_outward true frames' missed e = found_beyond frame frames address size new sized missed ∙ ap (beneath frame) e ∙ ap (λ f. Some (f ∷ frames')) (sym (after_missed frame frame after address size new refl tried missed))
  write_outward false frames' missed e = found_beyond frame frames address size new sized missed ∙ ap (beneath frame) e

-- a write keeps the lengths of frames
module _ (address : ℕ) (new : List ℕ) where
  next_start-spliced : (frame : Activation) → covers frame address (length new) ≡ true → next_start (record frame { bytes = spliced frame.bytes (address - frame.start) new }) ≡ next_start frame
  next_start-spliced frame covered =
      let le : address - frame.start + length new ≤ length frame.bytes = grind (arith, nat_tests) in
      ap (λ n. frame.start + (n + 15) / 16 * 16) (length-spliced frame.bytes new (address - frame.start) le)

  abbrev Keeps : List Activation → List Activation → Type 0
  Keeps frames after = (length after ≡ length frames) × (end_of after ≡ end_of frames) × IsStacked after

  keeps_front : (frame frame' : Activation) (frames frames' after : List Activation) → next_start frame ≤ 2 ^ 40 + 2 ^ 36 * (length frames + 1) → end_of frames ≤ frame.start
      → frame'.start ≡ frame.start → next_start frame' ≡ next_start frame → Keeps frames frames' → Some (frame' ∷ frames') ≡ Some after → Keeps (frame ∷ frames) after
  keeps_front frame frame' frames frames' after room above begins same kept e =
      subst (Keeps (frame ∷ frames)) (same_Some _ _ e) (ap suc kept.0, same, (omega (arith, room, same, kept.0), omega (arith, above, begins, kept.1), kept.2))

  keeps_behind : (frame : Activation) (frames after : List Activation) (found : Option (List Activation)) → next_start frame ≤ 2 ^ 40 + 2 ^ 36 * (length frames + 1) → end_of frames ≤ frame.start
      → ((frames' : List Activation) → found ≡ Some frames' → Keeps frames frames') → beneath frame found ≡ Some after → Keeps (frame ∷ frames) after
  keeps_behind frame frames after None room above inner e = absurd (none-some after e)
  keeps_behind frame frames after (Some frames') room above inner e = keeps_front frame frame frames frames' after room above refl refl (inner frames' refl) e

  pub stacked_written : (frames after : List Activation) → IsStacked frames → with_bytes_at frames address new ≡ Some after → Keeps frames after
  stacked_written [] after stacked e = absurd (none-some after e)
  stacked_written (frame ∷ frames) after stacked e = by_cover (covers frame address (length new)) refl (stacked_written frames)
    where
      by_cover : (b : Bool) → covers frame address (length new) ≡ b → ((frames' : List Activation) → IsStacked frames → with_bytes_at frames address new ≡ Some frames' → Keeps frames frames') → Keeps (frame ∷ frames) after
      by_cover true covered inner =
          keeps_front frame _ frames frames after stacked.0 stacked.1 refl (next_start-spliced frame covered) (refl, refl, stacked.2) (sym (found_here frame frames address (length new) new refl covered) ∙ e)
      by_cover false missed inner =
          keeps_behind frame frames after (with_bytes_at frames address new) stacked.0 stacked.1 (λ frames'. inner frames' stacked.2) (sym (found_beyond frame frames address (length new) new refl missed) ∙ e)

  pub stacked_tried : (found : Bool) (frames after : List Activation) → IsStacked frames → MatchBool found (with_bytes_at frames address new ≡ Some after) (with_bytes_at frames address new ≡ None) → OnFalse found (after ≡ frames) → IsStacked after
  stacked_tried true frames after stacked written kept = (stacked_written frames after stacked written).2
  stacked_tried false frames after stacked written kept = subst IsStacked (sym kept) stacked

pub on_false : {P Q : Type 0} (found : Bool) → (P → Q) → OnFalse found P → OnFalse found Q
on_false true f h = tt
on_false false f h = f h
