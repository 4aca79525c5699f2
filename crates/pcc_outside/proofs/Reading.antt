-- Reading bytes part by part.
use Rattle.std.proofs.Common.{◌≡◌, ℕ, ◌+◌, ◌<◌, ◌≤◌, subst, List, [], ◌++◌, length, take, drop, Some, refl, ap, sym, ◌∙◌, append_assoc, arith}
use Rattle.std.proofs.lemmas.List.{append-nil, take-append-drop, take_at, drop-drop, drop_at, length-take-le, length-append, nil_from_length}
use Rattle.pcc_outside.specs.Outside.{Takes, Told, Untold, Missing, Holds, Gives, IsWhole, IsLonger}

-- n bytes from the front of what is left were given, none only where nothing is left
pub Takes-front : (bytes left got : List ℕ) (taken n : ℕ) → drop taken bytes ≡ left → got ≡ take n left → n ≤ length left → (n ≡ 0 → length left ≡ 0) → Takes (Some left) got (Some (drop (taken + n) bytes))
Takes-front bytes left got taken n is_left given within end =
    (drop n left, sym (take-append-drop n left) ∙ ap (λ g. g ++ drop n left) (sym given), ap Some (sym (drop-drop n taken bytes) ∙ ap (drop n) is_left), λ none. nil_from_length left (end (sym (length-take-le n left within) ∙ ap length (sym given ∙ none))))

-- n bytes from a place of a file on were given, none only at or past its end
pub Gives-front : (bytes rest got : List ℕ) (at n : ℕ) → rest ≡ drop at bytes → got ≡ take n rest → n ≤ length rest → (n ≡ 0 → length rest ≡ 0) → Gives (Holds bytes) at got
Gives-front bytes rest got at n is_rest given within end =
    (drop n rest, sym is_rest ∙ (sym (take-append-drop n rest) ∙ ap (λ g. g ++ drop n rest) (sym given)), λ none. sym is_rest ∙ nil_from_length rest (end (sym (length-take-le n rest within) ∙ ap length (sym given ∙ none))))

-- the bytes are a front part of a file, where it is told
abbrev pub IsFront : Told → List ℕ → Type 0
IsFront Untold front = Unit {0}
IsFront Missing front = Unit {0}
IsFront (Holds bytes) front = (rest : List ℕ) × (bytes ≡ front ++ rest)

-- before any byte was read
pub IsFront-start : (file : Told) → IsFront file []
IsFront-start Untold = tt
IsFront-start Missing = tt
IsFront-start (Holds bytes) = (bytes, refl)

-- what stands behind a front part
rest_is : (bytes front rest : List ℕ) → bytes ≡ front ++ rest → drop (length front) bytes ≡ rest
rest_is bytes front rest e = rw e (drop_at front rest (length front) refl)

-- a front part and the bytes behind it are a front part
pub IsFront-more : (file : Told) (front got : List ℕ) → IsFront file front → Gives file (length front) got → IsFront file (front ++ got)
IsFront-more Untold front got h k = tt
IsFront-more Missing front got h k = tt
IsFront-more (Holds bytes) front got h k =
    (k.0, h.1 ∙ (ap (λ r. front ++ r) (sym (rest_is bytes front h.0 h.1) ∙ k.1) ∙ sym (append_assoc front got k.0)))

-- a front part with nothing behind it is the whole file
pub IsFront-whole : (file : Told) (front got : List ℕ) → got ≡ [] → IsFront file front → Gives file (length front) got → IsWhole file front
IsFront-whole Untold front got none h k = tt
IsFront-whole Missing front got none h k = k
IsFront-whole (Holds bytes) front got none h k =
    sym (append-nil front) ∙ (ap (λ r. front ++ r) (sym (k.2 none) ∙ rest_is bytes front h.0 h.1) ∙ sym h.1)

-- a file has more than all that was read of it
pub IsFront-longer : (file : Told) (front got : List ℕ) (limit : ℕ) → limit < length front + length got → IsFront file front → Gives file (length front) got → IsLonger file limit
IsFront-longer Untold front got limit more h k = tt
IsFront-longer Missing front got limit more h k = k
IsFront-longer (Holds bytes) front got limit more h k =
    let all : bytes ≡ front ++ (got ++ k.0) = h.1 ∙ ap (λ r. front ++ r) (sym (rest_is bytes front h.0 h.1) ∙ k.1) in
    rw all (omega (arith, length-append front (got ++ k.0), length-append got k.0))

-- what was given stands behind a front part of the file as it was told at first
pub Gives-behind : (file now : Told) (front got : List ℕ) (at : ℕ) → now ≡ file → at ≡ length front → Gives now at got → Gives file (length front) got
Gives-behind file now front got at same here h =
    subst (λ (t : Told). Gives t (length front) got) same (subst (λ (p : ℕ). Gives now p got) here h)

-- a buffer's items after a write of all of them, as a slice that is read again
pub written_is : (new items read : List ℕ) (len : ℕ) → length new ≡ len → read ≡ take len (new ++ drop (length new) items) → read ≡ new
written_is new items read len long e = e ∙ take_at new (drop (length new) items) len long
