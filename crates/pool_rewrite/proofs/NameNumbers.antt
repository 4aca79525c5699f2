-- Functions, variables and literals get their numbers, the last one first, so that the first of a name has its number.
use Rattle.std.proofs.Common.{◌≡◌, ℕ, suc, ◌<◌, ◌==◌, ◌&&◌, true, if◌then◌else◌, List, [], Vec, map, drop, length, get_or, Option, Some, option_map, bytes_eq, refl, sym, ap, subst, ◌∙◌, arith}
use Rattle.std.proofs.lemmas.List.{drop_all}
use Rattle.std.proofs.lemmas.Bool.{and_parts, eqb-true, eq-eqb}
use Rattle.std.proofs.lemmas.Slice.Eq.{bytes_eq-Decides}
use Rattle.std.specs.Map.{lookup}
use Rattle.indexmap.specs.IndexMap.{IndexMap, insert_entry}
use Rattle.run_theory.specs.declared.place.Pos.{Pos}
use Rattle.c_typed.specs.declared.definition.GlobalDef as memory_global
use Rattle.c_typed.specs.declared.definition.LiteralDef as memory_literal
use Rattle.c_typed.specs.Places.{is_same_place}
use Rattle.c_typed.specs.Table.{Interned}
use Rattle.c_typed.specs.DefinitionViews.{global_in, literal_of}
use Rattle.tac_ir.specs.declared.program.Function as memory_function
use Rattle.tac_ir.specs.Views.{function_in}
use Rattle.tac_ir.specs.First.{named_function, named_global, placed_literal}
use Rattle.pool_rewrite.specs.Names.{NumbersFunctions, NumbersGlobals, NumbersLiterals}
use Rattle.pool_rewrite.proofs.InsertedEntries.{found_inserted, from_here, first_of_some}

-- ---- places

places_decide : (a b : Pos) → (is_same_place a b ≡ true → a ≡ b) × (a ≡ b → is_same_place a b ≡ true)
places_decide a b = (equal, λ e. subst (λ c. is_same_place a c ≡ true) e itself)
  where
    equal : is_same_place a b ≡ true → a ≡ b
    equal h =
        let parts = and_parts (a.line == b.line) (a.column == b.column) h in
        let line = eqb-true a.line b.line parts.0 in
        let column = eqb-true a.column b.column parts.1 in
        λ i. record { line = line i; column = column i }

    itself : is_same_place a a ≡ true
    itself = λ i. eq-eqb a.line a.line refl i && eq-eqb a.column a.column refl i

-- ---- functions

abbrev functions_from : Interned → ℕ → List memory_function.Function → List ℕ → Option ℕ
functions_from table number functions name = named_function number (map (function_in table) functions) name

pub functions_none : {A S : Type 0} → (numbers : IndexMap (Vec ℕ A) ℕ S) (functions : List memory_function.Function) → numbers.entries ≡ [] → NumbersFunctions numbers (length functions) (drop (length functions) functions)
functions_none numbers functions empty = λ table name.
    ap (lookup (λ key. bytes_eq name key.items)) empty ∙ sym (ap (λ others. functions_from table (length functions) others name) (drop_all (length functions) functions (omega arith)))

pub functions_down : {A S : Type 0} → (old new : IndexMap (Vec ℕ A) ℕ S) (key : Vec ℕ A) (n : ℕ) (function : memory_function.Function) (functions : List memory_function.Function)
    → n < length functions → function ≡ get_or functions n function → new.entries ≡ insert_entry (λ a b. bytes_eq a.items b.items) old.entries key n → key.items ≡ function.name
    → (m : ℕ) → m ≡ suc n → NumbersFunctions old m (drop m functions) → NumbersFunctions new n (drop n functions)
functions_down old new key n function functions lt is entries named m next has = λ table name.
    let rest = has table name ∙ ap (λ k. functions_from table k (drop k functions) name) next in
    ap (lookup (λ key. bytes_eq name key.items)) entries ∙ (found_inserted (λ key. key.items) bytes_eq bytes_eq-Decides old.entries key n name
    ∙ ((λ i. if bytes_eq (named i) name then Some n else rest i) ∙ sym (ap (λ others. functions_from table n others name) (from_here functions n function lt is))))

-- ---- variables

abbrev globals_from : Interned → ℕ → List memory_global.GlobalDef → List ℕ → Option ℕ
globals_from table number globals name = option_map (λ found. found.0) (named_global number (map (global_in table) globals) name)

pub globals_none : {A S : Type 0} → (numbers : IndexMap (Vec ℕ A) ℕ S) (globals : List memory_global.GlobalDef) → numbers.entries ≡ [] → NumbersGlobals numbers (length globals) (drop (length globals) globals)
globals_none numbers globals empty = λ table name.
    ap (lookup (λ key. bytes_eq name key.items)) empty ∙ sym (ap (λ others. globals_from table (length globals) others name) (drop_all (length globals) globals (omega arith)))

pub globals_down : {A S : Type 0} → (old new : IndexMap (Vec ℕ A) ℕ S) (key : Vec ℕ A) (n : ℕ) (global : memory_global.GlobalDef) (globals : List memory_global.GlobalDef)
    → n < length globals → global ≡ get_or globals n global → new.entries ≡ insert_entry (λ a b. bytes_eq a.items b.items) old.entries key n → key.items ≡ global.name
    → (m : ℕ) → m ≡ suc n → NumbersGlobals old m (drop m globals) → NumbersGlobals new n (drop n globals)
globals_down old new key n global globals lt is entries named m next has = λ table name.
    let rest = has table name ∙ ap (λ k. globals_from table k (drop k globals) name) next in
    let others = named_global (suc n) (map (global_in table) (drop (suc n) globals)) name in
    ap (lookup (λ key. bytes_eq name key.items)) entries ∙ (found_inserted (λ key. key.items) bytes_eq bytes_eq-Decides old.entries key n name
    ∙ ((λ i. if bytes_eq (named i) name then Some n else rest i)
    ∙ (sym (first_of_some (λ found. found.0) (bytes_eq global.name name) (n, global_in table global) others)
    ∙ sym (ap (λ others. globals_from table n others name) (from_here globals n global lt is)))))

-- ---- literals

abbrev literals_from : ℕ → List memory_literal.LiteralDef → Pos → Option ℕ
literals_from number literals place = option_map (λ found. found.0) (placed_literal number (map literal_of literals) place)

pub literals_none : {S : Type 0} → (numbers : IndexMap Pos ℕ S) (literals : List memory_literal.LiteralDef) → numbers.entries ≡ [] → NumbersLiterals numbers (length literals) (drop (length literals) literals)
literals_none numbers literals empty = λ place.
    ap (lookup (is_same_place place)) empty ∙ sym (ap (λ others. literals_from (length literals) others place) (drop_all (length literals) literals (omega arith)))

pub literals_down : {S : Type 0} → (old new : IndexMap Pos ℕ S) (n : ℕ) (literal : memory_literal.LiteralDef) (literals : List memory_literal.LiteralDef)
    → n < length literals → literal ≡ get_or literals n literal → new.entries ≡ insert_entry is_same_place old.entries literal.place n
    → (m : ℕ) → m ≡ suc n → NumbersLiterals old m (drop m literals) → NumbersLiterals new n (drop n literals)
literals_down old new n literal literals lt is entries m next has = λ place.
    let rest = has place ∙ ap (λ k. literals_from k (drop k literals) place) next in
    let others = placed_literal (suc n) (map literal_of (drop (suc n) literals)) place in
    ap (lookup (is_same_place place)) entries ∙ (found_inserted (λ (key : Pos). key) is_same_place places_decide old.entries literal.place n place
    ∙ ((λ i. if is_same_place literal.place place then Some n else rest i)
    ∙ (sym (first_of_some (λ found. found.0) (is_same_place literal.place place) (n, literal_of literal) others)
    ∙ sym (ap (λ others. literals_from n others place) (from_here literals n literal lt is)))))
