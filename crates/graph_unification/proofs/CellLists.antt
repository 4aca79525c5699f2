-- Lists of cells that were changed or got longer.
use Rattle.std.proofs.Common.{◌≡◌, ℕ, zero, suc, ◌+◌, ◌<◌, ◌≤◌, Bool, true, false, cond, eqb, List, [], ◌∷◌, ◌++◌, length, drop, get_or, Option, Some, None, refl, sym, ap, ◌∙◌, ◌⊎◌, inl, inr, arith}
use Rattle.std.specs.Prelude.{nat_lt, option_map, slice_get}
use Rattle.std.proofs.Math.ListN.{set}
use Rattle.std.proofs.Math.Seq.{drop-cons}
use Rattle.std.proofs.lemmas.Bool.{cases_eq, false≢true, cond-true, cond-false, eq-eqb, ne_eqb, ltb-true, ltb-false}
use Rattle.std.proofs.lemmas.Option.{none-some, same_Some, slice_get-get_or}
use Rattle.heap_graph.specs.declared.graph.Target as memory_target
use Rattle.graph_unification.specs.Cells.{changed_at, changed_all, has_number}

-- ---- numbers in lists

pub has_here : (numbers : List ℕ) (number : ℕ) → has_number (number ∷ numbers) number ≡ true
has_here numbers number = cond-true (eqb number number) true (has_number numbers number) (eq-eqb number number refl)

pub has_left : (numbers others : List ℕ) (number : ℕ) → has_number numbers number ≡ true → has_number (numbers ++ others) number ≡ true
has_left [] others number h = absurd (false≢true h)
has_left (n ∷ numbers) others number h = by (eqb n number) h (has_left numbers others number)
  where
    by : (b : Bool) → cond b true (has_number numbers number) ≡ true → (has_number numbers number ≡ true → has_number (numbers ++ others) number ≡ true) → cond b true (has_number (numbers ++ others) number) ≡ true
    by true h rest = refl
    by false h rest = rest h

pub has_right : (numbers others : List ℕ) (number : ℕ) → has_number others number ≡ true → has_number (numbers ++ others) number ≡ true
has_right [] others number h = h
has_right (n ∷ numbers) others number h = by (eqb n number) (has_right numbers others number h)
  where
    by : (b : Bool) → has_number (numbers ++ others) number ≡ true → cond b true (has_number (numbers ++ others) number) ≡ true
    by true rest = refl
    by false rest = rest

-- ---- cells that are changed

pub changed_same : (f : memory_target.Target → memory_target.Target) (n : ℕ) (cells : List memory_target.Target) → slice_get (changed_at f n cells) n ≡ option_map f (slice_get cells n)
changed_same f n [] = refl
changed_same f zero (t ∷ cells) = refl
changed_same f (suc n) (t ∷ cells) = changed_same f n cells

pub changed_other : (f : memory_target.Target → memory_target.Target) (n m : ℕ) (cells : List memory_target.Target) → (m ≡ n → ⊥) → slice_get (changed_at f n cells) m ≡ slice_get cells m
changed_other f n m [] differ = refl
changed_other f zero zero (t ∷ cells) differ = absurd (differ refl)
changed_other f zero (suc m) (t ∷ cells) differ = refl
changed_other f (suc n) zero (t ∷ cells) differ = refl
changed_other f (suc n) (suc m) (t ∷ cells) differ = changed_other f n m cells (λ e. differ (ap suc e))

-- each cell is changed that stands in the list or that the change leaves as it is
pub all_changed : (f : memory_target.Target → memory_target.Target) → ((t : memory_target.Target) → f (f t) ≡ f t) → (numbers : List ℕ) (cells : List memory_target.Target) (m : ℕ)
    → ((t : memory_target.Target) → slice_get cells m ≡ Some t → (has_number numbers m ≡ true) ⊎ (f t ≡ t)) → slice_get (changed_all f numbers cells) m ≡ option_map f (slice_get cells m)
all_changed f twice [] cells m reaches = by (slice_get cells m) refl
  where
    fixed : (t : memory_target.Target) → (has_number [] m ≡ true) ⊎ (f t ≡ t) → f t ≡ t
    fixed t (inl h) = absurd (false≢true h)
    fixed t (inr e) = e

    by : (o : Option memory_target.Target) → slice_get cells m ≡ o → o ≡ option_map f o
    by None e = refl
    by (Some t) e = ap Some (sym (fixed t (reaches t e)))
all_changed f twice (n ∷ numbers) cells m reaches = by (cases_eq m n) (all_changed f twice numbers (changed_at f n cells) m)
  where
    fixed : (o : Option memory_target.Target) (t : memory_target.Target) → option_map f o ≡ Some t → f t ≡ t
    fixed None t e = absurd (none-some t e)
    fixed (Some u) t e = ap f (sym (same_Some (f u) t e)) ∙ twice u ∙ same_Some (f u) t e

    both : (o : Option memory_target.Target) → option_map f (option_map f o) ≡ option_map f o
    both None = refl
    both (Some t) = ap Some (twice t)

    later : (t : memory_target.Target) → (m ≡ n → ⊥) → (has_number (n ∷ numbers) m ≡ true) ⊎ (f t ≡ t) → (has_number numbers m ≡ true) ⊎ (f t ≡ t)
    later t differ (inl h) = inl (sym (cond-false (eqb n m) true (has_number numbers m) (ne_eqb n m (λ e. differ (sym e)))) ∙ h)
    later t differ (inr e) = inr e

    by : (m ≡ n) ⊎ (m ≡ n → ⊥)
        → (((t : memory_target.Target) → slice_get (changed_at f n cells) m ≡ Some t → (has_number numbers m ≡ true) ⊎ (f t ≡ t)) → slice_get (changed_all f numbers (changed_at f n cells)) m ≡ option_map f (slice_get (changed_at f n cells) m))
        → slice_get (changed_all f numbers (changed_at f n cells)) m ≡ option_map f (slice_get cells m)
    by (inl same) rest =
        let at : slice_get (changed_at f n cells) m ≡ option_map f (slice_get cells m) =
        ap (slice_get (changed_at f n cells)) same ∙ changed_same f n cells ∙ ap (λ k. option_map f (slice_get cells k)) (sym same) in
        rest (λ t e. inr (fixed (slice_get cells m) t (sym at ∙ e))) ∙ ap (option_map f) at ∙ both (slice_get cells m)
    by (inr differ) rest =
        let at = changed_other f n m cells differ in
        rest (λ t e. later t differ (reaches t (sym at ∙ e))) ∙ ap (option_map f) at

-- ---- lists with one thing more

pub get_kept : {A : Type 0} (xs : List A) (x : A) (n : ℕ) (t : A) → slice_get xs n ≡ Some t → slice_get (xs ++ x ∷ []) n ≡ Some t
get_kept [] x n t e = absurd (none-some t e)
get_kept (y ∷ xs) x zero t e = e
get_kept (y ∷ xs) x (suc n) t e = get_kept xs x n t e

pub get_more : {A : Type 0} (xs : List A) (x : A) (n : ℕ) → (n ≡ length xs → ⊥) → slice_get (xs ++ x ∷ []) n ≡ slice_get xs n
get_more [] x zero other = absurd (other refl)
get_more [] x (suc n) other = refl
get_more (y ∷ xs) x zero other = refl
get_more (y ∷ xs) x (suc n) other = get_more xs x n (λ e. other (ap suc e))

pub get_last : {A : Type 0} (xs : List A) (x : A) → slice_get (xs ++ x ∷ []) (length xs) ≡ Some x
get_last [] x = refl
get_last (y ∷ xs) x = get_last xs x

pub get_past : {A : Type 0} (xs : List A) → slice_get xs (length xs) ≡ None
get_past [] = refl
get_past (y ∷ xs) = get_past xs

pub length_more : {A : Type 0} (xs : List A) (x : A) → length (xs ++ x ∷ []) ≡ suc (length xs)
length_more [] x = refl
length_more (y ∷ xs) x = ap suc (length_more xs x)

-- lists that have the same things at the same places are one
pub same_lists : {A : Type 0} (xs ys : List A) → length xs ≡ length ys → ((n : ℕ) → slice_get xs n ≡ slice_get ys n) → xs ≡ ys
same_lists [] [] same at = refl
same_lists [] (y ∷ ys) same at = absurd (none-some y (at 0))
same_lists (x ∷ xs) [] same at = absurd (none-some x (sym (at 0)))
same_lists (x ∷ xs) (y ∷ ys) same at =
    ap (λ z. z ∷ xs) (same_Some x y (at 0)) ∙ ap (λ zs. y ∷ zs) (same_lists xs ys (suc_same (length xs) (length ys) same) (λ n. at (suc n)))
  where
    suc_same : (a b : ℕ) → suc a ≡ suc b → a ≡ b
    suc_same a b e = omega (arith, e)

-- ---- how cells are changed in turn

pub changed_set : (f : memory_target.Target → memory_target.Target) (n : ℕ) (cells : List memory_target.Target) (t : memory_target.Target) → slice_get cells n ≡ Some t → set cells n (f t) ≡ changed_at f n cells
changed_set f n [] t e = absurd (none-some t e)
changed_set f zero (u ∷ cells) t e = ap (λ v. f v ∷ cells) (sym (same_Some u t e))
changed_set f (suc n) (u ∷ cells) t e = ap (λ rest. u ∷ rest) (changed_set f n cells t e)

pub changed_past : (f : memory_target.Target → memory_target.Target) (n : ℕ) (cells : List memory_target.Target) → length cells ≤ n → changed_at f n cells ≡ cells
changed_past f n [] over = refl
changed_past f zero (u ∷ cells) over = absurd (omega (arith, over))
changed_past f (suc n) (u ∷ cells) over = ap (λ rest. u ∷ rest) (changed_past f n cells (omega (arith, over)))

pub changed_next : (f : memory_target.Target → memory_target.Target) (numbers : List ℕ) (i d : ℕ) (cells : List memory_target.Target) → i < length numbers
    → changed_all f (drop i numbers) cells ≡ changed_all f (drop (i + 1) numbers) (changed_at f (get_or numbers i d) cells)
changed_next f numbers i d cells lt =
    let next : suc i ≡ i + 1 = omega arith in
    ap (λ l. changed_all f l cells) (drop-cons numbers i d lt) ∙ ap (λ k. changed_all f (get_or numbers i d ∷ drop k numbers) cells) next

pub changed_none : (f : memory_target.Target → memory_target.Target) (numbers : List ℕ) (i : ℕ) (cells : List memory_target.Target) → i ≡ length numbers → changed_all f (drop i numbers) cells ≡ cells
changed_none f numbers i cells all = ap (λ k. changed_all f (drop k numbers) cells) all ∙ ap (λ l. changed_all f l cells) (drop_all numbers)
  where
    drop_all : (ns : List ℕ) → drop (length ns) ns ≡ []
    drop_all [] = refl
    drop_all (n ∷ ns) = drop_all ns

-- an item that was read is there
pub read_item : {A : Type 0} (seen xs : List A) (n : ℕ) (x : A) → seen ≡ xs → nat_lt n (length seen) ≡ true → x ≡ get_or seen n x → slice_get xs n ≡ Some x
read_item seen xs n x same lt is = ap (λ l. slice_get l n) (sym same) ∙ slice_get-get_or seen n x (ltb-true n (length seen) lt) ∙ ap Some (sym is)

get_over : {A : Type 0} (xs : List A) (n : ℕ) → length xs ≤ n → slice_get xs n ≡ None
get_over [] n over = refl
get_over (x ∷ xs) zero over = absurd (omega (arith, over))
get_over (x ∷ xs) (suc n) over = get_over xs n (omega (arith, over))

pub read_past : {A : Type 0} (seen xs : List A) (n : ℕ) → seen ≡ xs → nat_lt n (length seen) ≡ false → slice_get xs n ≡ None
read_past seen xs n same over = ap (λ l. slice_get l n) (sym same) ∙ get_over seen n (ltb-false n (length seen) over)
