-- The first contents of globals: bytes, the last not 0.
use Rattle.std.proofs.Common.{◌≡◌, ℕ, zero, suc, ◌+◌, ◌-◌, ◌<◌, ◌≤◌, List, [], ◌∷◌, ◌++◌, length, get_or, take, drop, refl, sym, ap, subst, ◌∙◌, arith, append_assoc}
use Rattle.std.proofs.lemmas.List.{append-nil, length-append, length-take, length-drop, take-append-drop, drop-drop}
use Rattle.std.proofs.Math.Seq.{take-suc, take-length}
use Rattle.std.specs.Prelude.{Result, Ok, Err, Vec}
use Rattle.std.specs.declared.alloc.Global.{Global}
use Rattle.std.specs.List.{AllByRecursion}
use Rattle.pool_isa.specs.Number.{number_bytes}
use Rattle.pool_isa.specs.Ranges.{IsWithin}
use Rattle.pool_isa.specs.Spelling.{StandsAt, IsFault, IsFaultAt}
use Rattle.pool_isa.proofs.Faults.{stands_then}
use Rattle.pool_isa.proofs.Numbers.{same_number}
use Rattle.image_form.specs.declared.image.ImageErr.{ImageErr}
use Rattle.image_form.specs.Form.{contents_bytes, EndsNonzero, IsContents}
use Rattle.image_form.specs.Reading.{Spelled, Refuses, IsDecoded, IsContentsOf, contents_of}
use Rattle.image_form.proofs.Fields.{IsUnique, Then, refused_alike, refused_first, refused_behind}
use Rattle.image_form.proofs.Ranges.{unique_number}

abbrev IsByte : ℕ → Type 0
IsByte byte = byte < 256

all_bytes : (xs : List ℕ) → ((i : ℕ) → get_or xs i 0 < 256) → AllByRecursion IsByte xs
all_bytes [] each = tt
all_bytes (x ∷ xs) each = (each 0, all_bytes xs (λ i. each (suc i)))

all_front : (xs ys : List ℕ) → AllByRecursion IsByte (xs ++ ys) → AllByRecursion IsByte xs
all_front [] ys all = tt
all_front (x ∷ xs) ys all = (all.0, all_front xs ys all.1)

all_back : (xs ys : List ℕ) → AllByRecursion IsByte (xs ++ ys) → AllByRecursion IsByte ys
all_back [] ys all = all
all_back (x ∷ xs) ys all = all_back xs ys all.1

all_joined : (xs ys : List ℕ) → AllByRecursion IsByte xs → AllByRecursion IsByte ys → AllByRecursion IsByte (xs ++ ys)
all_joined [] ys all others = others
all_joined (x ∷ xs) ys all others = (all.0, all_joined xs ys all.1 others)

all_from : (bytes : List ℕ) (at : ℕ) → ((i : ℕ) → get_or bytes i 0 < 256) → AllByRecursion IsByte (drop at bytes)
all_from bytes at each = all_back (take at bytes) (drop at bytes) (subst (AllByRecursion IsByte) (sym (take-append-drop at bytes)) (all_bytes bytes each))

all_of_front : (xs : List ℕ) (n : ℕ) → AllByRecursion IsByte xs → AllByRecursion IsByte (take n xs)
all_of_front xs n all = all_front (take n xs) (drop n xs) (subst (AllByRecursion IsByte) (sym (take-append-drop n xs)) all)

-- the end of a list is that of its back
ends_joined : (xs : List ℕ) (y : ℕ) (ys : List ℕ) → EndsNonzero (y ∷ ys) → EndsNonzero (xs ++ y ∷ ys)
ends_joined [] y ys ends = ends
ends_joined (x ∷ []) y ys ends = ends
ends_joined (x ∷ z ∷ xs) y ys ends = ends_joined (z ∷ xs) y ys ends

ends_back : (xs : List ℕ) (y : ℕ) (ys : List ℕ) → EndsNonzero (xs ++ y ∷ ys) → EndsNonzero (y ∷ ys)
ends_back [] y ys ends = ends
ends_back (x ∷ []) y ys ends = ends
ends_back (x ∷ z ∷ xs) y ys ends = ends_back (z ∷ xs) y ys ends

ones : ℕ → List ℕ
ones zero = []
ones (suc n) = 1 ∷ ones n

length-ones : (n : ℕ) → length (ones n) ≡ n
unfolding ones
length-ones zero = refl
length-ones (suc n) = ap suc (length-ones n)

all_ones : (n : ℕ) → AllByRecursion IsByte (ones n)
unfolding ones
all_ones zero = tt
all_ones (suc n) = (omega arith, all_ones n)

ends_ones : (n : ℕ) → EndsNonzero (1 ∷ ones n)
unfolding ones
ends_ones zero = omega arith
ends_ones (suc n) = ends_ones n

-- the last of so many, behind those before it
last_apart : (xs : List ℕ) (n : ℕ) → n < length xs → take (suc n) xs ≡ take n xs ++ get_or xs n 0 ∷ []
last_apart xs n lt = take-suc xs n 0 lt

module _ (bytes : List ℕ) (at count : ℕ) (each : (i : ℕ) → get_or bytes i 0 < 256) (within : at ≤ length bytes) where
  -- fewer bytes than that
  pub too_short : length (drop at bytes) < count → IsFaultAt (Spelled (IsContentsOf count) (λ contents. contents)) bytes at (length bytes)
  too_short fewer =
      let xs : List ℕ = drop at bytes in
      let long : length xs ≡ length bytes - at = length-drop at bytes in
      let all : take (length bytes - at) xs ≡ xs = ap (λ n. take n xs) (sym long) ∙ take-length xs in
      let left : ℕ = count - length xs - 1 in
      let many : length (xs ++ 1 ∷ ones left) ≡ count = let l = length-append xs (1 ∷ ones left) in let o = length-ones left in omega arith in
      record {
        from = within;
        fault = record {
          within = omega arith;
          begun = (1, ones left, subst (λ t. Spelled (IsContentsOf count) (λ contents. contents) (t ++ 1 ∷ ones left)) (sym all) (xs ++ 1 ∷ ones left, (many, all_joined xs (1 ∷ ones left) (all_from bytes at each) (omega arith, all_ones left), ends_joined xs 1 (ones left) (ends_ones left)), refl));
          wrong = λ lt h. omega (arith, lt, long);
        };
      }

  -- the last of them is 0
  pub ends_zero : (last : ℕ) → suc last ≡ count → count ≤ length (drop at bytes) → get_or (drop at bytes) last 0 ≡ 0 → IsFaultAt (Spelled (IsContentsOf count) (λ contents. contents)) bytes at (at + last)
  ends_zero last is enough zero_last =
      let back : last ≡ at + last - at = omega arith in
      record {
        from = omega arith;
        fault = subst (IsFault (Spelled (IsContentsOf count) (λ contents. contents)) (drop at bytes)) back (record {
          within = omega arith;
          begun = (1, [], (take last xs ++ 1 ∷ [], (many, all_joined (take last xs) (1 ∷ []) (all_of_front xs last (all_from bytes at each)) (omega arith, tt), ends_joined (take last xs) 1 [] (omega arith)), refl));
          wrong = λ lt h. none h.0 h.1.0 h.1.1.0 h.1.1.2 h.1.2;
        });
      }
    where
      xs : List ℕ
      xs = drop at bytes

      many : length (take last (drop at bytes) ++ 1 ∷ []) ≡ count
      many = let l = length-append (take last (drop at bytes)) (1 ∷ []) in let t = length-take last (drop at bytes) in omega arith

      none : (rest contents : List ℕ) → length contents ≡ count → EndsNonzero contents → take (suc last) (drop at bytes) ++ rest ≡ contents → ⊥
      none [] contents long ends e =
          let cut : contents ≡ take last (drop at bytes) ++ 0 ∷ [] = sym e ∙ append-nil (take (suc last) (drop at bytes)) ∙ last_apart (drop at bytes) last (omega arith) ∙ ap (λ b. take last (drop at bytes) ++ b ∷ []) zero_last in
          let bad : 0 < 0 = ends_back (take last (drop at bytes)) 0 [] (subst EndsNonzero cut ends) in
          omega arith
      none (r ∷ rest) contents long ends e =
          let l = length-append (take (suc last) (drop at bytes)) (r ∷ rest) in let t = length-take (suc last) (drop at bytes) in let m = ap length e in omega arith

  pub contents_found : (found : List ℕ) → count ≤ length (drop at bytes) → ((last : ℕ) → suc last ≡ count → 0 < get_or (drop at bytes) last 0) → found ≡ take count (drop at bytes) → IsContentsOf count found × StandsAt bytes at (at + count) found
  contents_found found enough some e =
      subst (λ t. IsContentsOf count t × StandsAt bytes at (at + count) t) (sym e) (
        (long, all_of_front (drop at bytes) count (all_from bytes at each), ends count refl),
        record {
          parts = sym (take-append-drop count (drop at bytes)) ∙ ap (λ t. take count (drop at bytes) ++ t) (drop-drop count at bytes);
          end_is = let l = long in omega arith;
          within = let l = length-drop at bytes in omega arith;
        },
      )
    where
      long : length (take count (drop at bytes)) ≡ count
      long = let t = length-take count (drop at bytes) in omega arith

      ends : (n : ℕ) → n ≡ count → EndsNonzero (take n (drop at bytes))
      ends zero e = tt
      ends (suc last) e = subst EndsNonzero (sym (last_apart (drop at bytes) last (omega arith))) (ends_joined (take last (drop at bytes)) (get_or (drop at bytes) last 0) [] (some last e))

-- ---- with their number

pub unique_contents : (size : ℕ) → IsUnique (IsContents size) contents_bytes
unique_contents size a b x y p q e =
    let counts = same_number (length a) (length b) (a ++ x) (b ++ y) (sym (append_assoc (number_bytes (length a)) a x) ∙ e ∙ append_assoc (number_bytes (length b)) b y) in
    same_lists a b x y counts.0 counts.1
  where
    same_lists : (a b x y : List ℕ) → length a ≡ length b → a ++ x ≡ b ++ y → (a ≡ b) × (x ≡ y)
    same_lists [] [] x y many e = (refl, e)
    same_lists [] (b ∷ bs) x y many e = absurd (omega arith)
    same_lists (a ∷ more) [] x y many e = absurd (omega arith)
    same_lists (a ∷ more) (b ∷ bs) x y many e =
        let rest = same_lists more bs x y (omega arith) (cc) in
        let heads : a ≡ b = cc in
        (let r = rest.0 in cc, rest.1)

-- the number, and then so many bytes
abbrev pub CountThenBytes : ℕ → List ℕ → Type 0
CountThenBytes size bytes = Then (IsWithin 0 size) number_bytes (λ count rest. Spelled (IsContentsOf count) (λ contents. contents) rest) bytes

some_contents : (count : ℕ) → (bytes : List ℕ) × Spelled (IsContentsOf count) (λ contents. contents) bytes
unfolding ones
some_contents zero = ([], ([], (refl, tt, tt), refl))
some_contents (suc n) = (1 ∷ ones n, (1 ∷ ones n, (ap suc (length-ones n), all_ones (suc n), ends_ones n), refl))

module _ (size : ℕ) where
  contents_refused : (bytes : List ℕ) (at : ℕ) (fault : ImageErr) → Refuses (CountThenBytes size) bytes at fault → Refuses (Spelled (IsContents size) contents_bytes) bytes at fault
  contents_refused bytes at fault =
      refused_alike (CountThenBytes size) (Spelled (IsContents size) contents_bytes) bytes at fault
      (λ x is.
      let contents = is.4 in let many = contents.1.0 in let w = is.2.1 in
      (contents.0, (omega arith, contents.1.1, contents.1.2), is.3 ∙ ap (λ t. number_bytes is.0 ++ t) contents.2 ∙ ap (λ n. number_bytes n ++ contents.0) (sym many)))
      (λ x is.
      let most = is.1.0 in
      (length is.0, is.0, (omega arith, most), is.2, (is.0, (refl, is.1.1, is.1.2), refl)))

  pub content_count_wrong : (bytes : List ℕ) (at : ℕ) (fault : ImageErr) → Refuses (Spelled (IsWithin 0 size) number_bytes) bytes at fault → Refuses (Spelled (IsContents size) contents_bytes) bytes at fault
  content_count_wrong bytes at fault r =
      contents_refused bytes at fault (refused_first (IsWithin 0 size) number_bytes (unique_number 0 size) (λ count rest. Spelled (IsContentsOf count) (λ contents. contents) rest) bytes at fault (λ count is. some_contents count) r)

  pub counted_contents_answer : (bytes : List ℕ) (at mid count : ℕ) (result : Result (Vec ℕ Global × ℕ) ImageErr) → IsWithin 0 size count → StandsAt bytes at mid (number_bytes count) → IsDecoded (IsContentsOf count) (λ contents. contents) contents_of bytes mid result → IsDecoded (IsContents size) contents_bytes contents_of bytes at result
  counted_contents_answer bytes at mid count (Ok found) is stands finds =
      let contents = contents_of found.0 in let many = finds.0.0 in let w = is.1 in
      ((omega arith, finds.0.1, finds.0.2), subst (λ n. StandsAt bytes at found.1 (number_bytes n ++ contents)) (sym many) (stands_then bytes at mid found.1 (number_bytes count) contents stands finds.1))
  counted_contents_answer bytes at mid count (Err fault) is stands finds =
      contents_refused bytes at fault (refused_behind (IsWithin 0 size) number_bytes (unique_number 0 size) (λ count rest. Spelled (IsContentsOf count) (λ contents. contents) rest) bytes at mid count fault is stands finds)
