-- Writing a text piece by piece.
use Rattle.std.proofs.Common.{refl, ◌≡◌, ℕ, ◌+◌, ◌<◌, ◌≤◌, List, [], ◌∷◌, ◌++◌, length, get_or, drop, Option, Result, Ok, Err, Bor, ap, sym, ◌∙◌, append_assoc, length-append, subst, arith}
use Rattle.std.proofs.lemmas.List.{drop_more, drop_all}
use Rattle.std.specs.Prelude.{IsErr, OnOk, OnErr}
use Rattle.pcc_outside.specs.Outside.{Rose, Adds, AddsPart}
use Rattle.pcc_outside.proofs.Writing.{AddsBefore, Adds-nil, Adds-append}
use Rattle.pcc_words.specs.Said.{Puts, line_of}

-- at first nothing was added
pub AddsBefore-start : (old : Option (List ℕ)) (bytes : List ℕ) → AddsBefore old bytes bytes old
AddsBefore-start old bytes = ([], refl, Adds-nil old)

-- one more piece was added
pub AddsBefore-piece : (old mid new : Option (List ℕ)) (text piece rest : List ℕ) → AddsBefore old text (piece ++ rest) mid → Adds mid piece new → AddsBefore old text rest new
AddsBefore-piece old mid new text piece rest h k = (h.0 ++ piece, rw append_assoc h.1, Adds-append old mid new h.0 piece h.2 k)

-- a part of one more piece was added
pub AddsPart-piece : (old mid new : Option (List ℕ)) (text piece rest : List ℕ) → AddsBefore old text (piece ++ rest) mid → AddsPart mid piece new → AddsPart old text new
AddsPart-piece old mid new text piece rest h k =
    (h.0 ++ k.0, k.1 ++ rest, h.1 ∙ (ap (λ p. h.0 ++ (p ++ rest)) k.2 ∙ simp append_assoc), omega (arith, length-append k.1 rest, k.3), Adds-append old mid new h.0 k.0 h.2 k.4)

-- the last piece was added
pub Adds-last : (old mid new : Option (List ℕ)) (text last : List ℕ) → AddsBefore old text last mid → Adds mid last new → Adds old text new
Adds-last old mid new text last h k = let e : h.0 ++ last ≡ text = sym h.1 in rw e at (Adds-append old mid new h.0 last h.2 k)

-- a part of the last piece was added
pub AddsPart-last : (old mid new : Option (List ℕ)) (text last : List ℕ) → AddsBefore old text last mid → AddsPart mid last new → AddsPart old text new
AddsPart-last old mid new text last h k =
    (h.0 ++ k.0, k.1, h.1 ∙ (ap (λ p. h.0 ++ p) k.2 ∙ simp append_assoc), k.3, Adds-append old mid new h.0 k.0 h.2 k.4)

-- a call failed in a piece
pub Puts-failed : {T E : Type 0} (result : Result T E) (old mid new : Option (List ℕ)) (text piece rest : List ℕ) (start before after : ℕ) → IsErr result → AddsBefore old text (piece ++ rest) mid → AddsPart mid piece new → before ≡ start → Rose before after → Puts result text old new start after
Puts-failed (Ok done) old mid new text piece rest start before after failed h k same rose = cc
Puts-failed (Err e) old mid new text piece rest start before after failed h k same rose = (AddsPart-piece old mid new text piece rest h k, subst (λ n. Rose n after) same rose)

-- the last call answers for the whole
pub Puts-last : {T E : Type 0} (result : Result T E) (old mid new : Option (List ℕ)) (text last : List ℕ) (start before after : ℕ) → AddsBefore old text last mid → before ≡ start → OnOk result (Adds mid last new) → OnErr result (AddsPart mid last new) → OnErr result (Rose before after) → OnOk result (after ≡ before) → Puts result text old new start after
Puts-last (Ok done) old mid new text last start before after h same all part rose faultless = (Adds-last old mid new text last h all, faultless ∙ same)
Puts-last (Err e) old mid new text last start before after h same all part rose faultless = (AddsPart-last old mid new text last h part, subst (λ n. Rose n after) same rose)

-- the last call puts the rest of the text
pub Puts-behind : {T E : Type 0} (result : Result T E) (old mid new : Option (List ℕ)) (text last : List ℕ) (start before after : ℕ) → AddsBefore old text last mid → before ≡ start → Puts result last mid new before after → Puts result text old new start after
Puts-behind (Ok done) old mid new text last start before after h same puts = (Adds-last old mid new text last h puts.0, puts.1 ∙ same)
Puts-behind (Err e) old mid new text last start before after h same puts = (AddsPart-last old mid new text last h puts.0, subst (λ n. Rose n after) same puts.1)

-- the piece at an index stands in front of what follows it
pub AddsBefore-at : (old new : Option (List ℕ)) (text : List ℕ) (pieces : List (Bor (List ℕ))) (i : ℕ) (d : Bor (List ℕ)) (piece : List ℕ) → i < length pieces → piece ≡ (get_or pieces i d).now → AddsBefore old text (line_of (drop i pieces)) new → AddsBefore old text (piece ++ line_of (drop (i + 1) pieces)) new
AddsBefore-at old new text pieces i d piece within is h =
    subst (λ (r : List ℕ). AddsBefore old text r new) (ap line_of (drop_more pieces i d within) ∙ ap (λ p. p ++ line_of (drop (i + 1) pieces)) (sym is)) h

-- behind the last piece the end of the line is left
pub AddsBefore-end : (old new : Option (List ℕ)) (text : List ℕ) (pieces : List (Bor (List ℕ))) (i : ℕ) → length pieces ≤ i → AddsBefore old text (line_of (drop i pieces)) new → AddsBefore old text (10 ∷ []) new
AddsBefore-end old new text pieces i end h = subst (λ (r : List ℕ). AddsBefore old text r new) (ap line_of (drop_all i pieces end)) h
