-- Functions get their numbers, the last one first.
use Rattle.std.proofs.Common.{◌≡◌, ℕ, zero, suc, ◌<◌, Bool, true, false, cond, if◌then◌else◌, List, [], ◌∷◌, map, drop, length, get_or, Option, Some, None, option_map, bytes_eq, refl, sym, ap, subst, ◌∙◌, arith}
use Rattle.std.proofs.lemmas.List.{drop_all}
use Rattle.std.proofs.lemmas.Bool.{false≢true, false_from_ne_true}
use Rattle.std.proofs.lemmas.Slice.Eq.{bytes_eq-Decides}
use Rattle.std.specs.Borrow.{Bor}
use Rattle.std.specs.Map.{lookup}
use Rattle.indexmap.specs.IndexMap.{IndexMap, insert_entry}
use Rattle.c_typed.specs.declared.definition.FunctionDef as memory
use Rattle.c_typed.specs.Table.{Interned}
use Rattle.c_typed.specs.DefinitionViews.{function_in}
use Rattle.ref_semantics.specs.Meaning.{function_from}
use Rattle.ref_meaning.specs.Numbers.{number_from, HasNumbers}

-- ---- names

bytes-symm : (a b : List ℕ) → bytes_eq a b ≡ bytes_eq b a
bytes-symm a b = by (bytes_eq a b) refl
  where
    by : (t : Bool) → bytes_eq a b ≡ t → bytes_eq a b ≡ bytes_eq b a
    by true e = let same = (bytes_eq-Decides a b).0 e in e ∙ sym ((bytes_eq-Decides b a).1 (sym same))
    by false e = e ∙ sym (false_from_ne_true (bytes_eq b a) (λ h. false≢true (sym e ∙ (bytes_eq-Decides a b).1 (sym ((bytes_eq-Decides b a).0 h)))))

-- ---- a map

abbrev pub is-key : List ℕ → Bor (List ℕ) → Bool
is-key name key = bytes_eq name key.now

abbrev pub same-key : Bor (List ℕ) → Bor (List ℕ) → Bool
same-key a b = bytes_eq a.now b.now

-- where one name isn't another, a third isn't both
apart : (k other name : List ℕ) (x y : Option ℕ) (z : Option ℕ) → bytes_eq k other ≡ false
    → cond (bytes_eq name other) x (if bytes_eq k name then y else z) ≡ (if bytes_eq k name then y else cond (bytes_eq name other) x z)
apart k other name x y z differ = by (bytes_eq k name) refl
  where
    by : (t : Bool) → bytes_eq k name ≡ t → cond (bytes_eq name other) x (if t then y else z) ≡ (if t then y else cond (bytes_eq name other) x z)
    by true e = λ i. cond ((ap (λ n. bytes_eq n other) (sym ((bytes_eq-Decides k name).0 e)) ∙ differ) i) x y
    by false e = refl

found-inserted : (entries : List (Bor (List ℕ) × ℕ)) (k : Bor (List ℕ)) (v : ℕ) (name : List ℕ)
    → lookup (is-key name) (insert_entry same-key entries k v) ≡ (if bytes_eq k.now name then Some v else lookup (is-key name) entries)
found-inserted [] k v name = λ i. cond (bytes-symm name k.now i) (Some v) None
found-inserted (entry ∷ entries) k v name = by (same-key k entry.0) refl (found-inserted entries k v name)
  where
    inserted : Bool → List (Bor (List ℕ) × ℕ)
    inserted t = if t then (entry.0, v) ∷ entries else entry ∷ insert_entry same-key entries k v

    twice : (t s : Bool) → s ≡ t → cond t (Some v) (lookup (is-key name) entries) ≡ (if t then Some v else cond s (Some entry.1) (lookup (is-key name) entries))
    twice true s is = refl
    twice false s is = let back = sym is in λ i. cond (back i) (Some entry.1) (lookup (is-key name) entries)

    by : (t : Bool) → same-key k entry.0 ≡ t → lookup (is-key name) (insert_entry same-key entries k v) ≡ (if bytes_eq k.now name then Some v else lookup (is-key name) entries)
        → lookup (is-key name) (inserted (same-key k entry.0)) ≡ (if bytes_eq k.now name then Some v else cond (is-key name entry.0) (Some entry.1) (lookup (is-key name) entries))
    by true e behind =
        let same : k.now ≡ entry.0.now = (bytes_eq-Decides k.now entry.0.now).0 e in
        let test : is-key name entry.0 ≡ bytes_eq k.now name = ap (bytes_eq name) (sym same) ∙ bytes-symm name k.now in
        ap (λ t. lookup (is-key name) (inserted t)) e ∙ (ap (λ t. cond t (Some v) (lookup (is-key name) entries)) test ∙ twice (bytes_eq k.now name) (is-key name entry.0) test)
    by false e behind =
        ap (λ t. lookup (is-key name) (inserted t)) e ∙ (ap (cond (is-key name entry.0) (Some entry.1)) behind
        ∙ apart k.now entry.0.now name (Some entry.1) (Some v) (lookup (is-key name) entries) e)

-- one more function in front
pub numbers-before : {S : Type 0} (old new : IndexMap (Bor (List ℕ)) ℕ S) (key : Bor (List ℕ)) (number : ℕ) (function : memory.FunctionDef) (others : List memory.FunctionDef)
    → new.entries ≡ insert_entry same-key old.entries key number → key.now ≡ function.name → HasNumbers old (suc number) others → HasNumbers new number (function ∷ others)
numbers-before old new key number function others entries is has = λ name.
    ap (lookup (is-key name)) entries ∙ (found-inserted old.entries key number name
    ∙ (λ i. if bytes_eq (is i) name then Some number else has name i))

-- ---- the meaning

pub number-means : (table : Interned) (number : ℕ) (functions : List memory.FunctionDef) (name : List ℕ)
    → number_from number functions name ≡ option_map (λ found. found.0) (function_from number (map (function_in table) functions) name)
number-means table number [] name = refl
number-means table number (first ∷ others) name = by (bytes_eq first.name name) (number-means table (suc number) others name)
  where
    by : (t : Bool) → number_from (suc number) others name ≡ option_map (λ found. found.0) (function_from (suc number) (map (function_in table) others) name)
        → (if t then Some number else number_from (suc number) others name) ≡ option_map (λ found. found.0) (if t then Some (number, function_in table first) else function_from (suc number) (map (function_in table) others) name)
    by true e = refl
    by false e = e

-- ---- a turn of the loop

pub numbers-none : {S : Type 0} (numbers : IndexMap (Bor (List ℕ)) ℕ S) (functions : List memory.FunctionDef) → numbers.entries ≡ [] → HasNumbers numbers (length functions) (drop (length functions) functions)
numbers-none numbers functions empty = λ name.
    ap (lookup (is-key name)) empty ∙ sym (ap (λ others. number_from (length functions) others name) (drop_all (length functions) functions (omega arith)))

from-here : (functions : List memory.FunctionDef) (n : ℕ) (function : memory.FunctionDef) → n < length functions → function ≡ get_or functions n function → drop n functions ≡ function ∷ drop (suc n) functions
from-here [] n function lt is = absurd (omega (arith, lt))
from-here (first ∷ others) zero function lt is = λ i. (sym is) i ∷ others
from-here (first ∷ others) (suc n) function lt is = from-here others n function (omega (arith, lt)) is

pub numbers-down : {S : Type 0} (old new : IndexMap (Bor (List ℕ)) ℕ S) (key : Bor (List ℕ)) (n : ℕ) (function : memory.FunctionDef) (functions : List memory.FunctionDef)
    → n < length functions → function ≡ get_or functions n function → new.entries ≡ insert_entry same-key old.entries key n → key.now ≡ function.name
    → (m : ℕ) → m ≡ suc n → HasNumbers old m (drop m functions) → HasNumbers new n (drop n functions)
numbers-down old new key n function functions lt is entries name m next has =
    subst (HasNumbers new n) (sym (from-here functions n function lt is))
    (numbers-before old new key n function (drop (suc n) functions) entries name (subst (λ k. HasNumbers old k (drop k functions)) next has))
