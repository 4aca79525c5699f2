-- The locals in scope, and the table that has them.
use Rattle.std.proofs.Common.{◌≡◌, ℕ, ◌+◌, ◌-◌, ◌<◌, ◌≤◌, Bool, true, false, cond, List, [], ◌∷◌, ◌++◌, length, reverse, take, drop, get_or, Option, Some, None, is_some, IsSome, refl, sym, ap, subst, ◌∙◌, arith, nat_le, if◌then◌else◌, Vec}
use Rattle.std.specs.Prelude.{bytes_eq}
use Rattle.std.specs.Map.{KeepsOthers}
use Rattle.std.proofs.lemmas.Bool.{false≢true, false_from_ne_true}
use Rattle.std.proofs.lemmas.Bool.Decides.{nat_tests}
use Rattle.std.proofs.lemmas.Option.{none-some, same_Some}
use Rattle.std.proofs.lemmas.List.{map-append, reverse-append, take-append-drop, length-append, length-map, length-reverse, length-take-le, length-drop, drop_all, take_all, take_at, drop_at, nil_from_length, get_or_append_left, get_or-append-add}
use Rattle.std.proofs.lemmas.Slice.Eq.{bytes_eq-Decides}
use Rattle.indexmap.specs.IndexMap.{IndexMap, UpdatesBy}
use Rattle.c_types_state.specs.declared.locals.Local.{Local}
use Rattle.c_types_state.specs.NameTables.{LocalEntry, all_locals, local_number, local_type, has_entry}
use Rattle.c_types_state.specs.LocalTables.{entry_of, entries_of, table_of, HaveHidden, number_in, IsTable}

-- ---- what a name means

-- all locals of a table are those that it was made of
pub all_locals-table_of : (locals : List Local) (outer : ℕ) → all_locals (table_of locals outer) ≡ entries_of (reverse locals)
all_locals-table_of locals outer =
    sym (map-append entry_of (reverse (drop outer locals)) (reverse (take outer locals)))
    ∙ ap entries_of (sym (reverse-append (take outer locals) (drop outer locals)) ∙ ap reverse (take-append-drop outer locals))

-- a number is below how many locals are in scope
pub number_below : (entries : List LocalEntry) (name : List ℕ) (n : ℕ) → local_number entries name ≡ Some n → n < length entries
number_below [] name n e = absurd (none-some n e)
number_below (newest ∷ entries) name n e = by (bytes_eq newest.name name) e (number_below entries name n)
  where
    by : (b : Bool) → (if b then Some (length entries) else local_number entries name) ≡ Some n
        → (local_number entries name ≡ Some n → n < length entries) → n < length (newest ∷ entries)
    by true e below = let same : length entries ≡ n = same_Some (length entries) n e in omega arith
    by false e below = let lt = below e in omega arith

-- the test of a number against how many locals were declared outside of the block
abbrev pub is_from : ℕ → Option ℕ → Bool
is_from outer None = false
is_from outer (Some n) = nat_le outer n

-- a name is declared in the block where the local that it means is
pub is_from-local_number : (block around : List LocalEntry) (name : List ℕ)
    → is_from (length around) (local_number (block ++ around) name) ≡ has_entry block name
is_from-local_number [] around name = by (local_number around name) (number_below around name)
  where
    by : (number : Option ℕ) → ((n : ℕ) → number ≡ Some n → n < length around) → is_from (length around) number ≡ false
    by None below = refl
    by (Some n) below = let lt = below n refl in grind (arith, nat_tests)
is_from-local_number (newest ∷ block) around name = by (bytes_eq newest.name name) (is_from-local_number block around name)
  where
    by : (b : Bool) → is_from (length around) (local_number (block ++ around) name) ≡ has_entry block name
        → is_from (length around) (if b then Some (length (block ++ around)) else local_number (block ++ around) name)
        ≡ (if b then true else has_entry block name)
    by true rest = let more = length-append block around in grind (arith, nat_tests)
    by false rest = rest

-- ---- the type of a local

-- a name that means no local has no type
pub local_type-none : (entries : List LocalEntry) (name : List ℕ) → local_number entries name ≡ None → local_type entries name ≡ None
local_type-none [] name e = refl
local_type-none (newest ∷ entries) name e = by (bytes_eq newest.name name) e (local_type-none entries name)
  where
    by : (b : Bool) → (if b then Some (length entries) else local_number entries name) ≡ None
        → (local_number entries name ≡ None → local_type entries name ≡ None)
        → (if b then newest.c_type else local_type entries name) ≡ None
    by true e rest = absurd (none-some (length entries) (sym e))
    by false e rest = rest e

reverse_first : (locals : List Local) (newest : Local) → reverse (newest ∷ locals) ≡ reverse locals ++ newest ∷ []
reverse_first locals newest = reverse-append (newest ∷ []) locals

-- the type of the local that a name means is that at its number
pub local_type-read : (locals : List Local) (name : List ℕ) (n : ℕ) (other : Local) → local_number (entries_of locals) name ≡ Some n
    → local_type (entries_of locals) name ≡ (get_or (reverse locals) n other).c_type
local_type-read [] name n other e = absurd (none-some n e)
local_type-read (newest ∷ locals) name n other e =
    by (bytes_eq newest.name.items name) e (local_type-read locals name n other)
    ∙ ap (λ ls. (get_or ls n other).c_type) (sym (reverse_first locals newest))
  where
    long : length (reverse locals) ≡ length (entries_of locals)
    long = length-reverse locals ∙ sym (length-map locals entry_of)

    by : (b : Bool) → (if b then Some (length (entries_of locals)) else local_number (entries_of locals) name) ≡ Some n
        → (local_number (entries_of locals) name ≡ Some n → local_type (entries_of locals) name ≡ (get_or (reverse locals) n other).c_type)
        → (if b then newest.c_type else local_type (entries_of locals) name) ≡ (get_or (reverse locals ++ newest ∷ []) n other).c_type
    by true e rest =
        let last : length (reverse locals) + 0 ≡ n = let same = same_Some (length (entries_of locals)) n e in omega (arith, long) in
        ap (λ (l : Local). l.c_type) (sym (get_or-append-add (reverse locals) (newest ∷ []) 0 other))
        ∙ ap (λ i. (get_or (reverse locals ++ newest ∷ []) i other).c_type) last
    by false e rest =
        let lt : n < length (reverse locals) = let below = number_below (entries_of locals) name n e in omega (arith, long) in
        rest e ∙ ap (λ (l : Local). l.c_type) (sym (get_or_append_left (reverse locals) (newest ∷ []) other n lt))

-- ---- a changed map

module _ {S Z : Type 0} (old new : IndexMap (Vec ℕ Z) ℕ S) (key : List ℕ) (number : Option ℕ) where
  others_stay : KeepsOthers (λ (a b : Vec ℕ Z). bytes_eq a.items b.items) (λ (k : Vec ℕ Z). bytes_eq key k.items) old.entries new.entries
      → (name : List ℕ) → bytes_eq key name ≡ false → number_in new name ≡ number_in old name
  unfolding KeepsOthers
  others_stay keeps name differ = keeps (λ (k : Vec ℕ Z). bytes_eq name k.items)
      (λ x y same. ap (λ n. bytes_eq n y.items) ((bytes_eq-Decides name x.items).0 same))
      (λ k same. false_from_ne_true (bytes_eq name k.items) (λ (also : bytes_eq name k.items ≡ true).
      false≢true (sym differ ∙ (bytes_eq-Decides key name).1 ((bytes_eq-Decides key k.items).0 same ∙ sym ((bytes_eq-Decides name k.items).0 also)))))

  -- a change at a key, seen by names
  pub number_updated : UpdatesBy (λ (a b : Vec ℕ Z). bytes_eq a.items b.items) (λ (k : Vec ℕ Z). bytes_eq key k.items) old new number
      → (name : List ℕ) → number_in new name ≡ cond (bytes_eq key name) number (number_in old name)
  number_updated updates name = by (bytes_eq key name) refl
    where
      by : (b : Bool) → bytes_eq key name ≡ b → number_in new name ≡ cond b number (number_in old name)
      by true same = ap (number_in new) (sym ((bytes_eq-Decides key name).0 same)) ∙ updates.1
      by false differ = others_stay updates.3 name differ

-- ---- one more local

reverse-push : (locals : List Local) (local : Local) → reverse (locals ++ local ∷ []) ≡ local ∷ reverse locals
reverse-push locals local = reverse-append locals (local ∷ [])

module _ {S Z : Type 0} (old new : IndexMap (Vec ℕ Z) ℕ S) (local : Local) (locals : List Local) (outer : ℕ) where
  -- the table with a newest local
  pub IsTable-declared : IsTable old locals outer → local.hidden ≡ number_in old local.name.items
      → ((name : List ℕ) → number_in new name ≡ cond (bytes_eq local.name.items name) (Some (length locals)) (number_in old name))
      → IsTable new (locals ++ local ∷ []) outer
  IsTable-declared table hides updates = record {
    meaning = λ name. rw reverse-push (updates name ∙ (λ i. cond (bytes_eq local.name.items name) (Some (count i)) (table.meaning name i)));
    hidden = rw reverse-push (hides ∙ table.meaning local.name.items, table.hidden);
    within = let h = table.within in omega (arith, length-append locals (local ∷ []));
  }
    where
      count : length locals ≡ length (entries_of (reverse locals))
      count = sym (length-map (reverse locals) entry_of ∙ length-reverse locals)

-- ---- blocks

-- the locals outside of the block
pub length-outer : (locals : List Local) (outer : ℕ) → outer ≤ length locals → length (table_of locals outer).outer ≡ outer
length-outer locals outer within =
    length-map (reverse (take outer locals)) entry_of ∙ length-reverse (take outer locals) ∙ length-take-le outer locals within

pub length-inner : (locals : List Local) (outer : ℕ) → length (table_of locals outer).inner ≡ length locals - outer
length-inner locals outer =
    length-map (reverse (drop outer locals)) entry_of ∙ length-reverse (drop outer locals) ∙ length-drop outer locals

-- where all locals were declared outside of the block, it has just begun
pub table_of-all : (locals : List Local) (outer all : ℕ) → all ≡ length locals
    → table_of locals all ≡ record { inner = []; outer = all_locals (table_of locals outer) }
table_of-all locals outer all e =
    let le : length locals ≤ all = omega arith in
    rw (drop_all all locals le, take_all all locals le, all_locals-table_of locals outer) refl

-- where locals are declared in the block, one of them is the newest, and the others are no fewer than those outside of it
block_has_newest : (locals left : List Local) (local : Local) (outer : ℕ) → locals ≡ left ++ local ∷ []
    → 0 < length (table_of locals outer).inner → outer ≤ length left
block_has_newest locals left local outer split some =
    omega (arith, some, length-inner locals outer, ap length split, length-append left (local ∷ []))

module _ {S Z : Type 0} (old new : IndexMap (Vec ℕ Z) ℕ S) (locals left : List Local) (local : Local) (outer : ℕ)
    (split : locals ≡ left ++ local ∷ []) where
  newest_first : reverse locals ≡ local ∷ reverse left
  newest_first = ap reverse split ∙ reverse-push left local

  -- the table without its newest local
  pub IsTable-forgotten : IsTable old locals outer → 0 < length (table_of locals outer).inner
      → ((name : List ℕ) → number_in new name ≡ cond (bytes_eq local.name.items name) local.hidden (number_in old name))
      → IsTable new left outer
  IsTable-forgotten table some updates = record {
    meaning = λ name. updates name ∙ by name (bytes_eq local.name.items name) (bytes_eq-Decides local.name.items name).0 (table.meaning name ∙ ap (λ ls. local_number (entries_of ls) name) newest_first);
    hidden = had.1;
    within = block_has_newest locals left local outer split some;
  }
    where
      had : HaveHidden (local ∷ reverse left)
      had = subst HaveHidden newest_first table.hidden

      by : (name : List ℕ) (b : Bool) → (b ≡ true → local.name.items ≡ name)
          → number_in old name ≡ cond b (Some (length (entries_of (reverse left)))) (local_number (entries_of (reverse left)) name)
          → cond b local.hidden (number_in old name) ≡ local_number (entries_of (reverse left)) name
      by name true same meaning = had.0 ∙ ap (local_number (entries_of (reverse left))) (same refl)
      by name false same meaning = meaning

  -- it had a local of that name
  pub IsTable-newest : IsTable old locals outer → IsSome (number_in old local.name.items)
  IsTable-newest table =
      ap is_some (table.meaning local.name.items ∙ ap (λ ls. local_number (entries_of ls) local.name.items) newest_first
      ∙ ap (λ b. if b then Some (length (entries_of (reverse left))) else local_number (entries_of (reverse left)) local.name.items) ((bytes_eq-Decides local.name.items local.name.items).1 refl))

-- two ways to divide a list into as long ends are one
same_ends : {A : Type 0} (xs ys us vs : List A) → xs ++ ys ≡ us ++ vs → length ys ≡ length vs → (xs ≡ us) × (ys ≡ vs)
same_ends xs ys us vs e long =
    let starts : length us ≡ length xs = omega (arith, ap length e, length-append xs ys, length-append us vs) in (
      sym (take_at xs ys (length xs) refl) ∙ ap (take (length xs)) e ∙ take_at us vs (length xs) starts,
      sym (drop_at xs ys (length xs) refl) ∙ ap (drop (length xs)) e ∙ drop_at us vs (length xs) starts,
    )

-- the table behind a block, where the locals that the block declared are forgotten
pub table_of-left : (locals : List Local) (outer left : ℕ) (block around : List LocalEntry) → length (table_of locals outer).inner ≡ 0
    → (table_of locals outer).outer ≡ block ++ around → length around ≡ left → table_of locals left ≡ record { inner = block; outer = around }
table_of-left locals outer left block around none entries count =
    let all : entries_of (reverse locals) ≡ block ++ around =
    sym (all_locals-table_of locals outer) ∙ ap (λ es. es ++ (table_of locals outer).outer) (nil_from_length _ none) ∙ entries in
    let fits : left ≤ length locals =
    omega (arith, ap length all, length-map (reverse locals) entry_of, length-reverse locals, length-append block around) in
    let parts = same_ends (table_of locals left).inner (table_of locals left).outer block around
    (all_locals-table_of locals left ∙ all) (length-outer locals left fits ∙ sym count) in
    λ i. record { inner = parts.0 i; outer = parts.1 i }
