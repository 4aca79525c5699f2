-- Variables and functions get their types by name, the last one first, so that the first of a name has its type.
use Rattle.std.proofs.Common.{◌≡◌, ℕ, zero, suc, ◌<◌, Bool, true, false, cond, if◌then◌else◌, List, [], ◌∷◌, Vec, map, drop, length, get_or, Option, Some, None, option_map, bytes_eq, refl, sym, ap, ◌∙◌, arith}
use Rattle.std.proofs.lemmas.List.{drop_all}
use Rattle.std.proofs.lemmas.Bool.{false≢true, false_from_ne_true}
use Rattle.std.proofs.lemmas.Slice.Eq.{bytes_eq-Decides}
use Rattle.std.specs.Map.{lookup}
use Rattle.indexmap.specs.IndexMap.{IndexMap, insert_entry}
use Rattle.c_typed.specs.declared.c_type.CType as number
use Rattle.c_typed.specs.declared.definition.FunctionDef as memory_function
use Rattle.c_typed.specs.declared.definition.GlobalDef as memory_global
use Rattle.c_typed.specs.Table.{Interned, type_in}
use Rattle.c_typed.specs.DefinitionViews.{function_in, global_in}
use Rattle.c_typed.specs.Context.{global_type, function_type}
use Rattle.dsa_bottom_up.specs.Counts.{variable_number, function_number, VariableTypes, FunctionTypes}

-- ---- what a map has after an entry is inserted

module _ {K Q : Type 0} (of : K → Q) (same : Q → Q → Bool) (decides : (a b : Q) → (same a b ≡ true → a ≡ b) × (a ≡ b → same a b ≡ true)) where
  same-symm : (a b : Q) → same a b ≡ same b a
  same-symm a b = by (same a b) refl
    where
      by : (t : Bool) → same a b ≡ t → same a b ≡ same b a
      by true e = let equal = (decides a b).0 e in e ∙ sym ((decides b a).1 (sym equal))
      by false e = e ∙ sym (false_from_ne_true (same b a) (λ h. false≢true (sym e ∙ (decides a b).1 (sym ((decides b a).0 h)))))

  module _ {V : Type 0} where
    -- where one isn't another, a third isn't both
    apart : (k other q : Q) (x y : Option V) (z : Option V) → same k other ≡ false
        → cond (same q other) x (if same k q then y else z) ≡ (if same k q then y else cond (same q other) x z)
    apart k other q x y z differ = by (same k q) refl
      where
        by : (t : Bool) → same k q ≡ t → cond (same q other) x (if t then y else z) ≡ (if t then y else cond (same q other) x z)
        by true e = λ i. cond ((ap (λ n. same n other) (sym ((decides k q).0 e)) ∙ differ) i) x y
        by false e = refl

    found_inserted : (entries : List (K × V)) (k : K) (v : V) (q : Q)
        → lookup (λ key. same q (of key)) (insert_entry (λ a b. same (of a) (of b)) entries k v) ≡ (if same (of k) q then Some v else lookup (λ key. same q (of key)) entries)
    found_inserted [] k v q = λ i. cond (same-symm q (of k) i) (Some v) None
    found_inserted (entry ∷ entries) k v q = by (same (of k) (of entry.0)) refl (found_inserted entries k v q)
      where
        inserted : Bool → List (K × V)
        inserted t = if t then (entry.0, v) ∷ entries else entry ∷ insert_entry (λ a b. same (of a) (of b)) entries k v

        twice : (t s : Bool) → s ≡ t → cond t (Some v) (lookup (λ key. same q (of key)) entries) ≡ (if t then Some v else cond s (Some entry.1) (lookup (λ key. same q (of key)) entries))
        twice true s is = refl
        twice false s is = let back = sym is in λ i. cond (back i) (Some entry.1) (lookup (λ key. same q (of key)) entries)

        by : (t : Bool) → same (of k) (of entry.0) ≡ t → lookup (λ key. same q (of key)) (insert_entry (λ a b. same (of a) (of b)) entries k v) ≡ (if same (of k) q then Some v else lookup (λ key. same q (of key)) entries)
            → lookup (λ key. same q (of key)) (inserted (same (of k) (of entry.0))) ≡ (if same (of k) q then Some v else cond (same q (of entry.0)) (Some entry.1) (lookup (λ key. same q (of key)) entries))
        by true e behind =
            let equal : of k ≡ of entry.0 = (decides (of k) (of entry.0)).0 e in
            let test : same q (of entry.0) ≡ same (of k) q = ap (same q) (sym equal) ∙ same-symm q (of k) in
            ap (λ t. lookup (λ key. same q (of key)) (inserted t)) e ∙ (ap (λ t. cond t (Some v) (lookup (λ key. same q (of key)) entries)) test ∙ twice (same (of k) q) (same q (of entry.0)) test)
        by false e behind =
            ap (λ t. lookup (λ key. same q (of key)) (inserted t)) e ∙ (ap (cond (same q (of entry.0)) (Some entry.1)) behind
            ∙ apart (of k) (of entry.0) q (Some entry.1) (Some v) (lookup (λ key. same q (of key)) entries) e)

from_here : {A : Type 0} → (items : List A) (n : ℕ) (item : A) → n < length items → item ≡ get_or items n item → drop n items ≡ item ∷ drop (suc n) items
from_here [] n item lt is = absurd (omega (arith, lt))
from_here (first ∷ others) zero item lt is = λ i. (sym is) i ∷ others
from_here (first ∷ others) (suc n) item lt is = from_here others n item (omega (arith, lt)) is

-- ---- variables

pub variables_none : {A S : Type 0} → (types : IndexMap (Vec ℕ A) number.CType S) (globals : List memory_global.GlobalDef) → types.entries ≡ [] → VariableTypes types (drop (length globals) globals)
variables_none types globals empty = λ name.
    ap (lookup (λ key. bytes_eq name key.items)) empty ∙ sym (ap (λ others. variable_number others name) (drop_all (length globals) globals (omega arith)))

pub variables_down : {A S : Type 0} → (old new : IndexMap (Vec ℕ A) number.CType S) (key : Vec ℕ A) (n : ℕ) (global : memory_global.GlobalDef) (c_type : number.CType) (globals : List memory_global.GlobalDef)
    → n < length globals → global ≡ get_or globals n global → c_type ≡ global.c_type → new.entries ≡ insert_entry (λ a b. bytes_eq a.items b.items) old.entries key c_type → key.items ≡ global.name
    → (m : ℕ) → m ≡ suc n → VariableTypes old (drop m globals) → VariableTypes new (drop n globals)
variables_down old new key n global c_type globals lt is typed entries named m next has = λ name.
    let rest = has name ∙ ap (λ k. variable_number (drop k globals) name) next in
    ap (lookup (λ key. bytes_eq name key.items)) entries ∙ (found_inserted (λ key. key.items) bytes_eq bytes_eq-Decides old.entries key c_type name
    ∙ ((λ i. if bytes_eq (named i) name then Some (typed i) else rest i) ∙ sym (ap (λ others. variable_number others name) (from_here globals n global lt is))))

pub variables_typed : (table : Interned) (globals : List memory_global.GlobalDef) (name : List ℕ) → option_map (type_in table) (variable_number globals name) ≡ global_type (map (global_in table) globals) name
variables_typed table [] name = refl
variables_typed table (first ∷ others) name = by (bytes_eq first.name name) (variables_typed table others name)
  where
    by : (t : Bool) → option_map (type_in table) (variable_number others name) ≡ global_type (map (global_in table) others) name
        → option_map (type_in table) (if t then Some first.c_type else variable_number others name) ≡ (if t then Some (type_in table first.c_type) else global_type (map (global_in table) others) name)
    by true rest = refl
    by false rest = rest

-- ---- functions

pub functions_none : {A S : Type 0} → (types : IndexMap (Vec ℕ A) number.CType S) (functions : List memory_function.FunctionDef) → types.entries ≡ [] → FunctionTypes types (drop (length functions) functions)
functions_none types functions empty = λ name.
    ap (lookup (λ key. bytes_eq name key.items)) empty ∙ sym (ap (λ others. function_number others name) (drop_all (length functions) functions (omega arith)))

pub functions_down : {A S : Type 0} → (old new : IndexMap (Vec ℕ A) number.CType S) (key : Vec ℕ A) (n : ℕ) (function : memory_function.FunctionDef) (c_type : number.CType) (functions : List memory_function.FunctionDef)
    → n < length functions → function ≡ get_or functions n function → c_type ≡ function.c_type → new.entries ≡ insert_entry (λ a b. bytes_eq a.items b.items) old.entries key c_type → key.items ≡ function.name
    → (m : ℕ) → m ≡ suc n → FunctionTypes old (drop m functions) → FunctionTypes new (drop n functions)
functions_down old new key n function c_type functions lt is typed entries named m next has = λ name.
    let rest = has name ∙ ap (λ k. function_number (drop k functions) name) next in
    ap (lookup (λ key. bytes_eq name key.items)) entries ∙ (found_inserted (λ key. key.items) bytes_eq bytes_eq-Decides old.entries key c_type name
    ∙ ((λ i. if bytes_eq (named i) name then Some (typed i) else rest i) ∙ sym (ap (λ others. function_number others name) (from_here functions n function lt is))))

pub functions_typed : (table : Interned) (functions : List memory_function.FunctionDef) (name : List ℕ) → option_map (type_in table) (function_number functions name) ≡ function_type (map (function_in table) functions) name
functions_typed table [] name = refl
functions_typed table (first ∷ others) name = by (bytes_eq first.name name) (functions_typed table others name)
  where
    by : (t : Bool) → option_map (type_in table) (function_number others name) ≡ function_type (map (function_in table) others) name
        → option_map (type_in table) (if t then Some first.c_type else function_number others name) ≡ (if t then Some (type_in table first.c_type) else function_type (map (function_in table) others) name)
    by true rest = refl
    by false rest = rest
