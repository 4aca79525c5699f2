-- Writing a list of bytes part by part.
use Rattle.std.proofs.Common.{◌≡◌, ℕ, List, [], ◌++◌, take, drop, Option, Some, None, refl, ap, sym, append_assoc}
use Rattle.std.proofs.lemmas.List.{append-nil, take-append-drop}
use Rattle.pcc_outside.specs.Outside.{Adds}

-- nothing was added
pub Adds-nil : (old : Option (List ℕ)) → Adds old [] old
Adds-nil None = refl
Adds-nil (Some xs) = ap Some (sym (append-nil xs))

-- bytes that were added one list after the other were added as one
pub Adds-append : (old mid new : Option (List ℕ)) (xs ys : List ℕ) → Adds old xs mid → Adds mid ys new → Adds old (xs ++ ys) new
Adds-append None None new xs ys h k = k
Adds-append None (Some m) new xs ys h k = cc
Adds-append (Some o) None new xs ys h k = cc
Adds-append (Some o) (Some m) new xs ys h k = let e : m ≡ o ++ xs = cc in rw k (ap Some (rw e (append_assoc o xs ys)))

-- all the bytes before the rest were added
abbrev pub AddsBefore : Option (List ℕ) → List ℕ → List ℕ → Option (List ℕ) → Type 0
AddsBefore old bytes rest new = (done : List ℕ) × (bytes ≡ done ++ rest) × Adds old done new

-- n more of them were added
pub AddsBefore-more : (old mid new : Option (List ℕ)) (bytes rest : List ℕ) (n : ℕ) → AddsBefore old bytes rest mid → Adds mid (take n rest) new → AddsBefore old bytes (drop n rest) new
AddsBefore-more old mid new bytes rest n h k =
    (h.0 ++ take n rest, rw (append_assoc, take-append-drop) h.1, Adds-append old mid new h.0 (take n rest) h.2 k)
