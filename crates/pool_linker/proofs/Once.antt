-- What one more kind adds where each kind stands once, and where a kind of the list stands then.
use Rattle.std.proofs.Common.{◌≡◌, ℕ, zero, suc, ◌+◌, ◌<◌, ◌≤◌, Bool, true, false, not, cond, if◌then◌else◌, ◌||◌, eqb, List, [], ◌∷◌, ◌++◌, map, filter, length, get_or, Some, refl, sym, ap, ◌∙◌, subst, arith}
use Rattle.std.specs.Prelude.{AllPairs, ◌≢◌, slice_get, slice_index, option_map}
use Rattle.std.specs.List.{AllByRecursion, IsDistinct, list_any}
use Rattle.std.proofs.lemmas.Bool.{true≢false, false≢true, eqb-true, eq-eqb, and_parts, and_from, or_left, or_right, false_from_ne_true, not_from_true, not_from_false, not-true, ne_eqb}
use Rattle.std.proofs.lemmas.List.{append-nil, map-append}
use Rattle.std.proofs.lemmas.List.Elements.{filter-append, filter_passes, All-filter, All-weaker, All-from_recursion, recursion_from_All}
use Rattle.std.proofs.lemmas.List.Filters.{length-filter_both}
use Rattle.std.proofs.lemmas.List.Folds.{position_or_len_push}
use Rattle.std.proofs.lemmas.Map.Keys.{IsDistinct-head, IsDistinct-tail, IsDistinct-cons, apart_from_distinct}
use Rattle.std.proofs.lemmas.Map.Views.{any-filter_same}
use Rattle.std.proofs.lemmas.Option.{none-some, same_Some, slice_get-map, slice_get_within, get_or_from_slice_get, slice_get-get_or}
use Rattle.indexmap.specs.IndexSet.{insert_key}
use Rattle.slab_space.specs.declared.kind.PoolKind.{PoolKind}
use Rattle.slab_space.specs.declared.kind.PoolKind.TheVariants.{Mixed, Homogeneous}
use Rattle.pool_linker.specs.Linking.{same_kind, once, number_in, numbers_of, KeepsKinds}

-- ---- the test

same_flag : (a b : Bool) → (if a then b else not b) ≡ true → a ≡ b
same_flag true true e = refl
same_flag true false e = absurd (false≢true e)
same_flag false true e = absurd (false≢true e)
same_flag false false e = refl

flag_same : (a : Bool) → (if a then a else not a) ≡ true
flag_same true = refl
flag_same false = refl

-- the test tells equal kinds
pub same_is : (a b : PoolKind) → same_kind a b ≡ true → a ≡ b
same_is Mixed Mixed e = refl
same_is Mixed (Homogeneous source cell indexed) e = absurd (false≢true e)
same_is (Homogeneous source cell indexed) Mixed e = absurd (false≢true e)
same_is (Homogeneous s c i) (Homogeneous t d j) e =
    let first = and_parts (eqb s t) _ e in
    let second = and_parts (eqb c d) _ first.1 in
    let sources = eqb-true s t first.0 in
    let cells = eqb-true c d second.0 in
    let flags = same_flag i j second.1 in
    λ k. Homogeneous (sources k) (cells k) (flags k)

same_itself : (a : PoolKind) → same_kind a a ≡ true
same_itself Mixed = refl
same_itself (Homogeneous s c i) = and_from (eqb s s) _ (eq-eqb s s refl) (and_from (eqb c c) _ (eq-eqb c c refl) (flag_same i))

pub same_from : (a b : PoolKind) → a ≡ b → same_kind a b ≡ true
same_from a b e = subst (λ c. same_kind a c ≡ true) e (same_itself a)

apart_flip : (a b : PoolKind) → same_kind a b ≡ false → same_kind b a ≡ false
apart_flip a b e = false_from_ne_true (same_kind b a) (λ s. true≢false (sym (same_from a b (sym (same_is b a s))) ∙ e))

-- ---- one more kind

insert-there : (ys : List PoolKind) (k : PoolKind) → list_any (same_kind k) ys ≡ true → insert_key same_kind ys k ≡ ys
insert-there ys k e = ap (λ b. if b then ys else ys ++ k ∷ []) e

insert-new : (ys : List PoolKind) (k : PoolKind) → list_any (same_kind k) ys ≡ false → insert_key same_kind ys k ≡ ys ++ k ∷ []
insert-new ys k e = ap (λ b. if b then ys else ys ++ k ∷ []) e

filter-one : (p : PoolKind → Bool) (ys : List PoolKind) (k : PoolKind) (b : Bool) → p k ≡ b → filter p (ys ++ k ∷ []) ≡ filter p ys ++ cond b (k ∷ []) []
filter-one p ys k b e = filter-append p ys (k ∷ []) ∙ ap (λ c. filter p ys ++ cond c (k ∷ []) []) e

filter-dropped : (p : PoolKind → Bool) (ys : List PoolKind) (k : PoolKind) → p k ≡ false → filter p (insert_key same_kind ys k) ≡ filter p ys
filter-dropped p ys k e = by (list_any (same_kind k) ys) refl
  where
    by : (b : Bool) → list_any (same_kind k) ys ≡ b → filter p (insert_key same_kind ys k) ≡ filter p ys
    by true there = ap (filter p) (insert-there ys k there)
    by false new = ap (filter p) (insert-new ys k new) ∙ filter-one p ys k false e ∙ append-nil (filter p ys)

filter-kept : (p : PoolKind → Bool) (ys : List PoolKind) (k : PoolKind) → p k ≡ true → list_any (same_kind k) (filter p ys) ≡ list_any (same_kind k) ys → filter p (insert_key same_kind ys k) ≡ insert_key same_kind (filter p ys) k
filter-kept p ys k e any = by (list_any (same_kind k) ys) refl
  where
    by : (b : Bool) → list_any (same_kind k) ys ≡ b → filter p (insert_key same_kind ys k) ≡ insert_key same_kind (filter p ys) k
    by true there = ap (filter p) (insert-there ys k there) ∙ sym (insert-there (filter p ys) k (any ∙ there))
    by false new = ap (filter p) (insert-new ys k new) ∙ filter-one p ys k true e ∙ sym (insert-new (filter p ys) k (any ∙ new))

insert-cons : (x : PoolKind) (ys : List PoolKind) (k : PoolKind) → same_kind k x ≡ false → x ∷ insert_key same_kind ys k ≡ insert_key same_kind (x ∷ ys) k
insert-cons x ys k e = by (list_any (same_kind k) ys) refl
  where
    by : (b : Bool) → list_any (same_kind k) ys ≡ b → x ∷ insert_key same_kind ys k ≡ insert_key same_kind (x ∷ ys) k
    by true there = ap (λ l. x ∷ l) (insert-there ys k there) ∙ sym (insert-there (x ∷ ys) k (or_right (same_kind k x) _ there))
    by false new = ap (λ l. x ∷ l) (insert-new ys k new) ∙ sym (insert-new (x ∷ ys) k (ap (λ b. b || list_any (same_kind k) ys) e ∙ new))

-- a filter that keeps what is the same as k finds k as the list does
any-others : (x k : PoolKind) (ys : List PoolKind) → same_kind k x ≡ false → list_any (same_kind k) (filter (λ other. not (same_kind x other)) ys) ≡ list_any (same_kind k) ys
any-others x k ys apart =
    any-filter_same (same_kind k) (λ other. not (same_kind x other)) true
    (λ y s. not_from_false (same_kind x y) (subst (λ z. same_kind x z ≡ false) (same_is k y s) (apart_flip k x apart))) ys

pub once-push : (ks : List PoolKind) (k : PoolKind) → once (ks ++ k ∷ []) ≡ insert_key same_kind (once ks) k
once-push [] k = refl
once-push (x ∷ xs) k = by (same_kind k x) refl (once-push xs k)
  where
    by : (b : Bool) → same_kind k x ≡ b → once (xs ++ k ∷ []) ≡ insert_key same_kind (once xs) k → once ((x ∷ xs) ++ k ∷ []) ≡ insert_key same_kind (once (x ∷ xs)) k
    by true s rest =
        ap (λ l. x ∷ filter (λ other. not (same_kind x other)) l) rest
        ∙ ap (λ l. x ∷ l) (filter-dropped (λ other. not (same_kind x other)) (once xs) k (not_from_true (same_kind x k) (same_from x k (sym (same_is k x s)))))
        ∙ sym (insert-there (once (x ∷ xs)) k (or_left (same_kind k x) _ s))
    by false apart rest =
        ap (λ l. x ∷ filter (λ other. not (same_kind x other)) l) rest
        ∙ ap (λ l. x ∷ l) (filter-kept (λ other. not (same_kind x other)) (once xs) k (not_from_false (same_kind x k) (apart_flip k x apart)) (any-others x k (once xs) apart))
        ∙ insert-cons x (filter (λ other. not (same_kind x other)) (once xs)) k apart

-- ---- where a kind stands

-- the kind of a passing test's first place
found : (ys : List PoolKind) (k : PoolKind) → list_any (same_kind k) ys ≡ true → slice_get ys (number_in ys k) ≡ Some k
found [] k e = absurd (false≢true e)
found (y ∷ ys) k e = by (same_kind k y) refl (found ys k)
  where
    by : (b : Bool) → same_kind k y ≡ b → (list_any (same_kind k) ys ≡ true → slice_get ys (number_in ys k) ≡ Some k) → slice_get (y ∷ ys) (number_in (y ∷ ys) k) ≡ Some k
    by true s rest =
        ap (λ b. slice_get (y ∷ ys) (cond (not b) (1 + number_in ys k) 0)) s ∙ ap Some (sym (same_is k y s))
    by false apart rest =
        let next : 1 + number_in ys k ≡ suc (number_in ys k) = omega arith in
        ap (λ b. slice_get (y ∷ ys) (cond (not b) (1 + number_in ys k) 0)) apart
        ∙ ap (slice_get (y ∷ ys)) next
        ∙ rest (sym (ap (λ b. b || list_any (same_kind k) ys) apart) ∙ e)

-- each kind of the list is among those that stand once
among : (ks : List PoolKind) (n : ℕ) (k : PoolKind) → slice_get ks n ≡ Some k → list_any (same_kind k) (once ks) ≡ true
among [] n k e = absurd (none-some k e)
among (x ∷ xs) zero k e = or_left (same_kind k x) _ (same_from k x (sym (same_Some x k e)))
among (x ∷ xs) (suc n) k e = by (same_kind k x) refl (among xs n k e)
  where
    by : (b : Bool) → same_kind k x ≡ b → list_any (same_kind k) (once xs) ≡ true → list_any (same_kind k) (once (x ∷ xs)) ≡ true
    by true s rest = or_left (same_kind k x) _ s
    by false apart rest = or_right (same_kind k x) _ (any-others x k (once xs) apart ∙ rest)

pub number_at : (ks : List PoolKind) (n : ℕ) (k : PoolKind) → slice_get ks n ≡ Some k → slice_index (numbers_of ks) n ≡ number_in (once ks) k
number_at ks n k e =
    get_or_from_slice_get (numbers_of ks) n (number_in (once ks) k) 0 (slice_get-map (number_in (once ks)) ks n ∙ ap (option_map (number_in (once ks))) e)

-- each new number names the kind that the old one named
pub once-keeps : (ks : List PoolKind) → KeepsKinds ks (once ks)
once-keeps ks n k e = ap (slice_get (once ks)) (number_at ks n k e) ∙ found (once ks) k (among ks n k e)

-- and is a number of the new list
pub number_within : (ks : List PoolKind) (n : ℕ) → n < length ks → slice_index (numbers_of ks) n < length (once ks)
number_within ks n lt =
    let k = get_or ks n Mixed in
    slice_get_within (once ks) (slice_index (numbers_of ks) n) k (once-keeps ks n k (slice_get-get_or ks n Mixed lt))

-- ---- the numbers, of one more kind

number-insert : (ys : List PoolKind) (k j : PoolKind) → list_any (same_kind j) ys ≡ true → number_in (insert_key same_kind ys k) j ≡ number_in ys j
number-insert ys k j there = by (list_any (same_kind k) ys) refl
  where
    by : (b : Bool) → list_any (same_kind k) ys ≡ b → number_in (insert_key same_kind ys k) j ≡ number_in ys j
    by true known = ap (λ l. number_in l j) (insert-there ys k known)
    by false new =
        let lt : number_in ys j < length ys = slice_get_within ys (number_in ys j) j (found ys j there) in
        ap (λ l. number_in l j) (insert-new ys k new)
        ∙ position_or_len_push (same_kind j) ys k
        ∙ ap (λ b. cond b (length ys + cond (same_kind j k) 0 1) (number_in ys j)) (ne_eqb (number_in ys j) (length ys) (λ e. absurd (omega (arith, e, lt))))

-- a kind that stands last has the number that was looked for before
number-itself : (ys : List PoolKind) (k : PoolKind) → number_in (insert_key same_kind ys k) k ≡ number_in ys k
number-itself ys k = by (list_any (same_kind k) ys) refl
  where
    at : (b : Bool) → eqb (number_in ys k) (length ys) ≡ b → cond b (length ys + 0) (number_in ys k) ≡ number_in ys k
    at true e = let same = eqb-true (number_in ys k) (length ys) e in omega (arith, same)
    at false e = refl

    by : (b : Bool) → list_any (same_kind k) ys ≡ b → number_in (insert_key same_kind ys k) k ≡ number_in ys k
    by true known = ap (λ l. number_in l k) (insert-there ys k known)
    by false new =
        ap (λ l. number_in l k) (insert-new ys k new)
        ∙ position_or_len_push (same_kind k) ys k
        ∙ ap (λ b. cond (eqb (number_in ys k) (length ys)) (length ys + cond b 0 1) (number_in ys k)) (same_itself k)
        ∙ at (eqb (number_in ys k) (length ys)) refl

map-same : (f g : PoolKind → ℕ) (ks : List PoolKind) → ((n : ℕ) (k : PoolKind) → slice_get ks n ≡ Some k → f k ≡ g k) → map f ks ≡ map g ks
map-same f g [] same = refl
map-same f g (k ∷ ks) same = λ i. same 0 k refl i ∷ map-same f g ks (λ n. same (suc n)) i

pub numbers-push : (ks : List PoolKind) (k : PoolKind) → numbers_of (ks ++ k ∷ []) ≡ numbers_of ks ++ number_in (once ks) k ∷ []
numbers-push ks k =
    let list = once-push ks k in
    map-append (number_in (once (ks ++ k ∷ []))) ks (k ∷ [])
    ∙ ap (λ l. l ++ number_in (once (ks ++ k ∷ [])) k ∷ []) (map-same (number_in (once (ks ++ k ∷ []))) (number_in (once ks)) ks (λ n j e. ap (λ l. number_in l j) list ∙ number-insert (once ks) k j (among ks n j e)))
    ∙ ap (λ m. numbers_of ks ++ m ∷ []) (ap (λ l. number_in l k) list ∙ number-itself (once ks) k)

-- ---- the new list

filter-all : (p : PoolKind → Bool) (P : PoolKind → Type 0) (ys : List PoolKind) → AllByRecursion P ys → AllByRecursion P (filter p ys)
filter-all p P ys h = recursion_from_All P (filter p ys) (All-filter p P ys (All-from_recursion P ys h))

pub once-all : (P : PoolKind → Type 0) (ks : List PoolKind) → AllByRecursion P ks → AllByRecursion P (once ks)
once-all P [] h = tt
once-all P (k ∷ ks) h = (h.0, filter-all (λ other. not (same_kind k other)) P (once ks) (once-all P ks h.1))

filter-short : (p : PoolKind → Bool) (ys : List PoolKind) → length (filter p ys) ≤ length ys
filter-short p ys = omega (arith, length-filter_both p (λ y. not (p y)) (λ y. refl) ys)

pub once-short : (ks : List PoolKind) → length (once ks) ≤ length ks
once-short [] = omega arith
once-short (k ∷ ks) = omega (arith, filter-short (λ other. not (same_kind k other)) (once ks), once-short ks)

filter-distinct : (p : PoolKind → Bool) (ys : List PoolKind) → IsDistinct same_kind ys → IsDistinct same_kind (filter p ys)
filter-distinct p [] h = h
filter-distinct p (y ∷ ys) h = by (p y) refl (filter-distinct p ys (IsDistinct-tail same_kind y ys h))
  where
    by : (b : Bool) → p y ≡ b → IsDistinct same_kind (filter p ys) → IsDistinct same_kind (filter p (y ∷ ys))
    by true e rest =
        subst (λ b. IsDistinct same_kind (cond b (y ∷ filter p ys) (filter p ys))) (sym e)
        (IsDistinct-cons same_kind y (filter p ys) (filter-all p (λ z. same_kind y z ≡ false) ys (IsDistinct-head same_kind y ys h)) rest)
    by false e rest = subst (λ b. IsDistinct same_kind (cond b (y ∷ filter p ys) (filter p ys))) (sym e) rest

once-distinct : (ks : List PoolKind) → IsDistinct same_kind (once ks)
unfolding IsDistinct
once-distinct [] = tt
once-distinct (k ∷ ks) =
    let others : PoolKind → Bool = λ other. not (same_kind k other) in
    let apart = All-weaker (λ y. others y ≡ true) (λ y. same_kind k y ≡ false) (λ y e. not-true (same_kind k y) e) (filter others (once ks)) (filter_passes others (once ks)) in
    (recursion_from_All (λ y. same_kind k y ≡ false) (filter others (once ks)) apart, filter-distinct others (once ks) (once-distinct ks))

-- no kind stands twice
pub once-apart : (ks : List PoolKind) → AllPairs (λ first later. first ≢ later) (once ks)
once-apart ks i j d lt within same =
    true≢false (sym (same_from (get_or (once ks) i d) (get_or (once ks) j d) same) ∙ apart_from_distinct same_kind (once ks) i j d (once-distinct ks) lt within)
