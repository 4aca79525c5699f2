-- Functions, variables and literals get their numbers, the last one first, so that the first of a name has its number.
use Rattle.std.proofs.Common.{◌≡◌, ℕ, zero, suc, ◌+◌, ◌<◌, ◌==◌, ◌&&◌, Bool, true, false, cond, if◌then◌else◌, List, [], ◌∷◌, Vec, map, drop, length, get_or, slice_get, Option, Some, None, is_some, option_map, bytes_eq, refl, sym, ap, subst, ◌∙◌, arith}
use Rattle.std.proofs.lemmas.List.{drop_all}
use Rattle.std.proofs.lemmas.Bool.{false≢true, and_parts, eqb-true, eq-eqb, false_from_ne_true}
use Rattle.std.proofs.lemmas.Option.{none-some, same_Some, slice_get_within}
use Rattle.std.proofs.lemmas.Slice.Eq.{bytes_eq-Decides}
use Rattle.std.specs.Map.{lookup}
use Rattle.indexmap.specs.IndexMap.{IndexMap, insert_entry}
use Rattle.run_theory.specs.declared.place.Pos.{Pos}
use Rattle.c_typed.specs.declared.definition.FunctionDef as memory_function
use Rattle.c_typed.specs.declared.definition.GlobalDef as memory_global
use Rattle.c_typed.specs.declared.definition.LiteralDef as memory_literal
use Rattle.c_typed.specs.Places.{is_same_place}
use Rattle.c_typed.specs.Typed.{FunctionDef, GlobalDef}
use Rattle.c_typed.specs.Table.{Interned, Stands, type_in}
use Rattle.c_typed.specs.DefinitionViews.{function_in, global_in, literal_of, FunctionsStand, GlobalsStand}
use Rattle.tac_ir.specs.First.{named_global, placed_literal}
use Rattle.tac_build.specs.Code.{function_number, type_of_function}
use Rattle.tac_build.specs.Numbers.{NumbersFunctions, NumbersGlobals, NumbersLiterals}
use Rattle.tac_build.proofs.Points.{read_unmap}

-- ---- what a map has after an entry is inserted

module _ {K Q : Type 0} (of : K → Q) (same : Q → Q → Bool) (decides : (a b : Q) → (same a b ≡ true → a ≡ b) × (a ≡ b → same a b ≡ true)) where
  same-symm : (a b : Q) → same a b ≡ same b a
  same-symm a b = by (same a b) refl
    where
      by : (t : Bool) → same a b ≡ t → same a b ≡ same b a
      by true e = let equal = (decides a b).0 e in e ∙ sym ((decides b a).1 (sym equal))
      by false e = e ∙ sym (false_from_ne_true (same b a) (λ h. false≢true (sym e ∙ (decides a b).1 (sym ((decides b a).0 h)))))

  -- where one isn't another, a third isn't both
  apart : (k other q : Q) (x y : Option ℕ) (z : Option ℕ) → same k other ≡ false
      → cond (same q other) x (if same k q then y else z) ≡ (if same k q then y else cond (same q other) x z)
  apart k other q x y z differ = by (same k q) refl
    where
      by : (t : Bool) → same k q ≡ t → cond (same q other) x (if t then y else z) ≡ (if t then y else cond (same q other) x z)
      by true e = λ i. cond ((ap (λ n. same n other) (sym ((decides k q).0 e)) ∙ differ) i) x y
      by false e = refl

  found_inserted : (entries : List (K × ℕ)) (k : K) (v : ℕ) (q : Q)
      → lookup (λ key. same q (of key)) (insert_entry (λ a b. same (of a) (of b)) entries k v) ≡ (if same (of k) q then Some v else lookup (λ key. same q (of key)) entries)
  found_inserted [] k v q = λ i. cond (same-symm q (of k) i) (Some v) None
  found_inserted (entry ∷ entries) k v q = by (same (of k) (of entry.0)) refl (found_inserted entries k v q)
    where
      inserted : Bool → List (K × ℕ)
      inserted t = if t then (entry.0, v) ∷ entries else entry ∷ insert_entry (λ a b. same (of a) (of b)) entries k v

      twice : (t s : Bool) → s ≡ t → cond t (Some v) (lookup (λ key. same q (of key)) entries) ≡ (if t then Some v else cond s (Some entry.1) (lookup (λ key. same q (of key)) entries))
      twice true s is = refl
      twice false s is = let back = sym is in λ i. cond (back i) (Some entry.1) (lookup (λ key. same q (of key)) entries)

      by : (t : Bool) → same (of k) (of entry.0) ≡ t → lookup (λ key. same q (of key)) (insert_entry (λ a b. same (of a) (of b)) entries k v) ≡ (if same (of k) q then Some v else lookup (λ key. same q (of key)) entries)
          → lookup (λ key. same q (of key)) (inserted (same (of k) (of entry.0))) ≡ (if same (of k) q then Some v else cond (same q (of entry.0)) (Some entry.1) (lookup (λ key. same q (of key)) entries))
      by true e behind =
          let equal : of k ≡ of entry.0 = (decides (of k) (of entry.0)).0 e in
          let test : same q (of entry.0) ≡ same (of k) q = ap (same q) (sym equal) ∙ same-symm q (of k) in
          ap (λ t. lookup (λ key. same q (of key)) (inserted t)) e ∙ (ap (λ t. cond t (Some v) (lookup (λ key. same q (of key)) entries)) test ∙ twice (same (of k) q) (same q (of entry.0)) test)
      by false e behind =
          ap (λ t. lookup (λ key. same q (of key)) (inserted t)) e ∙ (ap (cond (same q (of entry.0)) (Some entry.1)) behind
          ∙ apart (of k) (of entry.0) q (Some entry.1) (Some v) (lookup (λ key. same q (of key)) entries) e)

-- ---- places

places_decide : (a b : Pos) → (is_same_place a b ≡ true → a ≡ b) × (a ≡ b → is_same_place a b ≡ true)
places_decide a b = (equal, λ e. subst (λ c. is_same_place a c ≡ true) e itself)
  where
    equal : is_same_place a b ≡ true → a ≡ b
    equal h =
        let parts = and_parts (a.line == b.line) (a.column == b.column) h in
        let line = eqb-true a.line b.line parts.0 in
        let column = eqb-true a.column b.column parts.1 in
        λ i. record { line = line i; column = column i }

    itself : is_same_place a a ≡ true
    itself = λ i. eq-eqb a.line a.line refl i && eq-eqb a.column a.column refl i

-- ---- the rest of a list

pub from_here : {A : Type 0} → (items : List A) (n : ℕ) (item : A) → n < length items → item ≡ get_or items n item → drop n items ≡ item ∷ drop (suc n) items
from_here [] n item lt is = absurd (omega (arith, lt))
from_here (first ∷ others) zero item lt is = λ i. (sym is) i ∷ others
from_here (first ∷ others) (suc n) item lt is = from_here others n item (omega (arith, lt)) is

first_of_some : {A B : Type 0} → (f : A → B) (t : Bool) (x : A) (z : Option A) → option_map f (if t then Some x else z) ≡ (if t then Some (f x) else option_map f z)
first_of_some f true x z = refl
first_of_some f false x z = refl

-- ---- functions

abbrev functions_from : Interned → ℕ → List memory_function.FunctionDef → List ℕ → Option ℕ
functions_from table number functions name = function_number number (map (function_in table) functions) name

pub functions_none : {A S : Type 0} → (numbers : IndexMap (Vec ℕ A) ℕ S) (functions : List memory_function.FunctionDef) → numbers.entries ≡ [] → NumbersFunctions numbers (length functions) (drop (length functions) functions)
functions_none numbers functions empty = λ table name.
    ap (lookup (λ key. bytes_eq name key.items)) empty ∙ sym (ap (λ others. functions_from table (length functions) others name) (drop_all (length functions) functions (omega arith)))

pub functions_down : {A S : Type 0} → (old new : IndexMap (Vec ℕ A) ℕ S) (key : Vec ℕ A) (n : ℕ) (function : memory_function.FunctionDef) (functions : List memory_function.FunctionDef)
    → n < length functions → function ≡ get_or functions n function → new.entries ≡ insert_entry (λ a b. bytes_eq a.items b.items) old.entries key n → key.items ≡ function.name
    → (m : ℕ) → m ≡ suc n → NumbersFunctions old m (drop m functions) → NumbersFunctions new n (drop n functions)
functions_down old new key n function functions lt is entries named m next has = λ table name.
    let rest = has table name ∙ ap (λ k. functions_from table k (drop k functions) name) next in
    ap (lookup (λ key. bytes_eq name key.items)) entries ∙ (found_inserted (λ key. key.items) bytes_eq bytes_eq-Decides old.entries key n name
    ∙ ((λ i. if bytes_eq (named i) name then Some n else rest i) ∙ sym (ap (λ others. functions_from table n others name) (from_here functions n function lt is))))

-- ---- variables

abbrev globals_from : Interned → ℕ → List memory_global.GlobalDef → List ℕ → Option ℕ
globals_from table number globals name = option_map (λ found. found.0) (named_global number (map (global_in table) globals) name)

pub globals_none : {A S : Type 0} → (numbers : IndexMap (Vec ℕ A) ℕ S) (globals : List memory_global.GlobalDef) → numbers.entries ≡ [] → NumbersGlobals numbers (length globals) (drop (length globals) globals)
globals_none numbers globals empty = λ table name.
    ap (lookup (λ key. bytes_eq name key.items)) empty ∙ sym (ap (λ others. globals_from table (length globals) others name) (drop_all (length globals) globals (omega arith)))

pub globals_down : {A S : Type 0} → (old new : IndexMap (Vec ℕ A) ℕ S) (key : Vec ℕ A) (n : ℕ) (global : memory_global.GlobalDef) (globals : List memory_global.GlobalDef)
    → n < length globals → global ≡ get_or globals n global → new.entries ≡ insert_entry (λ a b. bytes_eq a.items b.items) old.entries key n → key.items ≡ global.name
    → (m : ℕ) → m ≡ suc n → NumbersGlobals old m (drop m globals) → NumbersGlobals new n (drop n globals)
globals_down old new key n global globals lt is entries named m next has = λ table name.
    let rest = has table name ∙ ap (λ k. globals_from table k (drop k globals) name) next in
    let others = named_global (suc n) (map (global_in table) (drop (suc n) globals)) name in
    ap (lookup (λ key. bytes_eq name key.items)) entries ∙ (found_inserted (λ key. key.items) bytes_eq bytes_eq-Decides old.entries key n name
    ∙ ((λ i. if bytes_eq (named i) name then Some n else rest i)
    ∙ (sym (first_of_some (λ found. found.0) (bytes_eq global.name name) (n, global_in table global) others)
    ∙ sym (ap (λ others. globals_from table n others name) (from_here globals n global lt is)))))

-- ---- literals

abbrev literals_from : ℕ → List memory_literal.LiteralDef → Pos → Option ℕ
literals_from number literals place = option_map (λ found. found.0) (placed_literal number (map literal_of literals) place)

pub literals_none : {S : Type 0} → (numbers : IndexMap Pos ℕ S) (literals : List memory_literal.LiteralDef) → numbers.entries ≡ [] → NumbersLiterals numbers (length literals) (drop (length literals) literals)
literals_none numbers literals empty = λ place.
    ap (lookup (is_same_place place)) empty ∙ sym (ap (λ others. literals_from (length literals) others place) (drop_all (length literals) literals (omega arith)))

pub literals_down : {S : Type 0} → (old new : IndexMap Pos ℕ S) (n : ℕ) (literal : memory_literal.LiteralDef) (literals : List memory_literal.LiteralDef)
    → n < length literals → literal ≡ get_or literals n literal → new.entries ≡ insert_entry is_same_place old.entries literal.place n
    → (m : ℕ) → m ≡ suc n → NumbersLiterals old m (drop m literals) → NumbersLiterals new n (drop n literals)
literals_down old new n literal literals lt is entries m next has = λ place.
    let rest = has place ∙ ap (λ k. literals_from k (drop k literals) place) next in
    let others = placed_literal (suc n) (map literal_of (drop (suc n) literals)) place in
    ap (lookup (is_same_place place)) entries ∙ (found_inserted (λ (key : Pos). key) is_same_place places_decide old.entries literal.place n place
    ∙ ((λ i. if is_same_place literal.place place then Some n else rest i)
    ∙ (sym (first_of_some (λ found. found.0) (is_same_place literal.place place) (n, literal_of literal) others)
    ∙ sym (ap (λ others. literals_from n others place) (from_here literals n literal lt is)))))

-- ---- what a number leads to

-- the function that has a number
record NumberedFunction (functions : List FunctionDef) (name : List ℕ) (first number : ℕ) : Type 0 where
  at : ℕ
  function : FunctionDef
  is : number ≡ first + at
  there : slice_get functions at ≡ Some function
  typed : type_of_function functions name ≡ Some function.c_type

number_leads : (functions : List FunctionDef) (name : List ℕ) (first number : ℕ) → function_number first functions name ≡ Some number → NumberedFunction functions name first number
number_leads [] name first number is = absurd (none-some number is)
number_leads (function ∷ others) name first number is = by (bytes_eq function.name name) refl is (number_leads others name (suc first) number)
  where
    by : (t : Bool) → bytes_eq function.name name ≡ t → (if t then Some first else function_number (suc first) others name) ≡ Some number
        → (function_number (suc first) others name ≡ Some number → NumberedFunction others name (suc first) number) → NumberedFunction (function ∷ others) name first number
    by true e is behind = record { at = 0; function = function; is = omega (arith, same_Some first number is); there = refl; typed = ap (λ t. if t then Some function.c_type else type_of_function others name) e }
    by false e is behind =
        let rest = behind is in
        record { at = suc rest.at; function = rest.function; is = omega (arith, rest.is); there = rest.there; typed = ap (λ t. if t then Some function.c_type else type_of_function others name) e ∙ rest.typed }

-- the variable that has a number
global_leads : (globals : List GlobalDef) (name : List ℕ) (first : ℕ) (found : ℕ × GlobalDef) → named_global first globals name ≡ Some found → (at : ℕ) × (found.0 ≡ first + at) × (slice_get globals at ≡ Some found.1)
global_leads [] name first found is = absurd (none-some found is)
global_leads (global ∷ others) name first found is = by (bytes_eq global.name name) is (global_leads others name (suc first) found)
  where
    by : (t : Bool) → (if t then Some (first, global) else named_global (suc first) others name) ≡ Some found
        → (named_global (suc first) others name ≡ Some found → (at : ℕ) × (found.0 ≡ suc first + at) × (slice_get others at ≡ Some found.1)) → (at : ℕ) × (found.0 ≡ first + at) × (slice_get (global ∷ others) at ≡ Some found.1)
    by true is behind = let same = same_Some (first, global) found is in (0, omega (arith, ap (λ found. found.0) same), ap (λ found. Some found.1) same)
    by false is behind = let rest = behind is in (suc rest.0, omega (arith, rest.1), rest.2)

functions_stand : (table : Interned) (functions : List memory_function.FunctionDef) (at : ℕ) (function : memory_function.FunctionDef) → FunctionsStand table functions → slice_get functions at ≡ Some function → Stands table function.c_type
functions_stand table [] at function stand is = absurd (none-some function is)
functions_stand table (first ∷ others) zero function stand is = subst (λ function. Stands table function.c_type) (same_Some first function is) stand.0.0
functions_stand table (first ∷ others) (suc at) function stand is = functions_stand table others at function stand.1 is

globals_stand : (table : Interned) (globals : List memory_global.GlobalDef) (at : ℕ) (global : memory_global.GlobalDef) → GlobalsStand table globals → slice_get globals at ≡ Some global → Stands table global.c_type
globals_stand table [] at global stand is = absurd (none-some global is)
globals_stand table (first ∷ others) zero global stand is = subst (λ global. Stands table global.c_type) (same_Some first global is) stand.0
globals_stand table (first ∷ others) (suc at) global stand is = globals_stand table others at global stand.1 is

-- what is read where something stands
item_is : {A : Type 0} → (items : List A) (at : ℕ) (a b : A) → slice_get items at ≡ Some a → b ≡ get_or items at b → a ≡ b
item_is [] at a b is read = absurd (none-some a is)
item_is (first ∷ others) zero a b is read = sym (same_Some first a is) ∙ sym read
item_is (first ∷ others) (suc at) a b is read = item_is others at a b is read

pub function_within : (table : Interned) (functions : List memory_function.FunctionDef) (name : List ℕ) (number : ℕ) → function_number 0 (map (function_in table) functions) name ≡ Some number → number < length functions
function_within table functions name number is =
    let leads = number_leads (map (function_in table) functions) name 0 number is in
    let found = read_unmap (function_in table) functions leads.at leads.function leads.there in
    omega (arith, leads.is, slice_get_within functions leads.at found.0 found.1)

-- the type of the function that has a number
pub function_typed : (table : Interned) (functions : List memory_function.FunctionDef) (name : List ℕ) (number : ℕ) (function : memory_function.FunctionDef) → function_number 0 (map (function_in table) functions) name ≡ Some number
    → function ≡ get_or functions number function → FunctionsStand table functions → Stands table function.c_type × (type_of_function (map (function_in table) functions) name ≡ Some (type_in table function.c_type))
function_typed table functions name number function is read stand =
    let leads = number_leads (map (function_in table) functions) name 0 number is in
    let found = read_unmap (function_in table) functions leads.at leads.function leads.there in
    let at : number ≡ leads.at = omega (arith, leads.is) in
    let same : found.0 ≡ function = item_is functions leads.at found.0 function found.1 (read ∙ ap (λ at. get_or functions at function) at) in (
      subst (λ function. Stands table function.c_type) same (functions_stand table functions leads.at found.0 stand found.1),
      leads.typed ∙ ap (λ (function : FunctionDef). Some function.c_type) (sym found.2) ∙ ap (λ function. Some (type_in table function.c_type)) same,
    )

-- the variable that has a name
pub global_within : (table : Interned) (globals : List memory_global.GlobalDef) (name : List ℕ) (number : ℕ) → option_map (λ found. found.0) (named_global 0 (map (global_in table) globals) name) ≡ Some number → number < length globals
global_within table globals name number is = by (named_global 0 (map (global_in table) globals) name) refl is
  where
    by : (option : Option (ℕ × GlobalDef)) → named_global 0 (map (global_in table) globals) name ≡ option → option_map (λ found. found.0) option ≡ Some number → number < length globals
    by None e is = absurd (none-some number is)
    by (Some found) e is =
        let leads = global_leads (map (global_in table) globals) name 0 found e in
        let item = read_unmap (global_in table) globals leads.0 found.1 leads.2 in
        omega (arith, leads.1, same_Some found.0 number is, slice_get_within globals leads.0 item.0 item.1)

pub global_typed : (table : Interned) (globals : List memory_global.GlobalDef) (name : List ℕ) (number : ℕ) (global : memory_global.GlobalDef) → option_map (λ found. found.0) (named_global 0 (map (global_in table) globals) name) ≡ Some number
    → global ≡ get_or globals number global → GlobalsStand table globals
    → Stands table global.c_type × ((found : ℕ × GlobalDef) × (named_global 0 (map (global_in table) globals) name ≡ Some found) × (number ≡ found.0) × (type_in table global.c_type ≡ found.1.c_type))
global_typed table globals name number global is read stand = by (named_global 0 (map (global_in table) globals) name) refl is
  where
    by : (option : Option (ℕ × GlobalDef)) → named_global 0 (map (global_in table) globals) name ≡ option → option_map (λ found. found.0) option ≡ Some number
        → Stands table global.c_type × ((found : ℕ × GlobalDef) × (named_global 0 (map (global_in table) globals) name ≡ Some found) × (number ≡ found.0) × (type_in table global.c_type ≡ found.1.c_type))
    by None e is = absurd (none-some number is)
    by (Some found) e is =
        let leads = global_leads (map (global_in table) globals) name 0 found e in
        let item = read_unmap (global_in table) globals leads.0 found.1 leads.2 in
        let is_number = same_Some found.0 number is in
        let at : number ≡ leads.0 = omega (arith, leads.1, is_number) in
        let same : item.0 ≡ global = item_is globals leads.0 item.0 global item.1 (read ∙ ap (λ at. get_or globals at global) at) in (
          subst (λ global. Stands table global.c_type) same (globals_stand table globals leads.0 item.0 stand item.1),
          (found, e, sym is_number, ap (λ global. type_in table global.c_type) (sym same) ∙ ap (λ (global : GlobalDef). global.c_type) item.2),
        )

-- the literal that has a place
pub first_found : {A : Type 0} → (option : Option (ℕ × A)) (number : ℕ) → option_map (λ found. found.0) option ≡ Some number → (found : ℕ × A) × (option ≡ Some found) × (number ≡ found.0)
first_found None number is = absurd (none-some number is)
first_found (Some found) number is = (found, refl, sym (same_Some found.0 number is))

-- where there is one, there is a number
pub first_there : {A : Type 0} → (option : Option (ℕ × A)) → is_some option ≡ true → option_map (λ found. found.0) option ≡ None → ⊥
first_there None some is = false≢true some
first_there (Some found) some is = none-some found.0 (sym is)

pub there_not_none : {A : Type 0} → (option : Option A) → is_some option ≡ true → option ≡ None → ⊥
there_not_none None some is = false≢true some
there_not_none (Some found) some is = none-some found (sym is)
