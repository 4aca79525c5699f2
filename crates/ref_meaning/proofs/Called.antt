-- The function that is called by a name.
use Rattle.std.proofs.Common.{◌≡◌, ℕ, zero, suc, ◌+◌, Bool, true, false, if◌then◌else◌, List, [], ◌∷◌, map, slice_get, Option, Some, None, option_map, bytes_eq, refl, sym, ap, subst, ◌∙◌, arith}
use Rattle.std.proofs.lemmas.Option.{none-some, same_Some}
use Rattle.c_typed.specs.declared.definition.FunctionDef as memory_function
use Rattle.c_typed.specs.Typed.{FunctionDef}
use Rattle.c_typed.specs.Table.{Interned}
use Rattle.c_typed.specs.DefinitionViews.{function_in}
use Rattle.ref_meaning.specs.Trees.{FunctionFits, FunctionsFit}
use Rattle.ref_semantics.specs.Meaning.{function_from}

-- a function in memory, by the number that is found
pub record Found (table : Interned) (start : ℕ) (items : List memory_function.FunctionDef) (name : List ℕ) (n : ℕ) : Type 0 where
  pub at : ℕ
  pub item : memory_function.FunctionDef
  pub number : n ≡ start + at
  pub there : slice_get items at ≡ Some item
  pub is : function_from start (map (function_in table) items) name ≡ Some (n, function_in table item)

pub found-at : (table : Interned) (start : ℕ) (items : List memory_function.FunctionDef) (name : List ℕ) (n : ℕ) → option_map (λ found. found.0) (function_from start (map (function_in table) items) name) ≡ Some n
    → Found table start items name n
found-at table start [] name n e = absurd (none-some n e)
found-at table start (first ∷ others) name n e = by (found-at table (suc start) others name n) (bytes_eq first.name name) refl
  where
    rest : Option (ℕ × FunctionDef)
    rest = function_from (suc start) (map (function_in table) others) name

    chosen : Bool → Option (ℕ × FunctionDef)
    chosen t = if t then Some (start, function_in table first) else rest

    by : (option_map (λ found. found.0) rest ≡ Some n → Found table (suc start) others name n) → (t : Bool) → bytes_eq first.name name ≡ t → Found table start (first ∷ others) name n
    by behind true same =
        let number = same_Some start n (subst (λ t. option_map (λ found. found.0) (chosen t) ≡ Some n) same e) in
        record { at = 0; item = first; number = omega (arith, number); there = refl; is = ap chosen same ∙ ap (λ m. Some (m, function_in table first)) number }
    by behind false same =
        let later = behind (subst (λ t. option_map (λ found. found.0) (chosen t) ≡ Some n) same e) in
        record { at = suc later.at; item = later.item; number = omega (arith, later.number); there = later.there; is = ap chosen same ∙ later.is }

pub none-at : (found : Option (ℕ × FunctionDef)) → option_map (λ one. one.0) found ≡ None → found ≡ None
none-at None e = refl
none-at (Some one) e = absurd (none-some one.0 (sym e))

pub item-stands : (table : Interned) (items : List memory_function.FunctionDef) (at : ℕ) (item : memory_function.FunctionDef) → slice_get items at ≡ Some item → FunctionsFit table items → FunctionFits table item
item-stands table [] at item h stands = absurd (none-some item h)
item-stands table (first ∷ others) zero item h stands = subst (FunctionFits table) (same_Some first item h) stands.0
item-stands table (first ∷ others) (suc at) item h stands = item-stands table others at item h stands.1
