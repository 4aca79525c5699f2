-- Functions get their numbers, the last one first, so that the first of a name has its number.
use Rattle.std.proofs.Common.{◌≡◌, ℕ, suc, ◌<◌, if◌then◌else◌, List, [], Vec, map, drop, length, get_or, Option, Some, bytes_eq, sym, ap, ◌∙◌, arith}
use Rattle.std.proofs.lemmas.List.{drop_all}
use Rattle.std.proofs.lemmas.Slice.Eq.{bytes_eq-Decides}
use Rattle.std.specs.Map.{lookup}
use Rattle.indexmap.specs.IndexMap.{IndexMap, insert_entry}
use Rattle.c_typed.specs.Table.{Interned}
use Rattle.tac_ir.specs.declared.program.Function as memory_function
use Rattle.tac_ir.specs.Views.{function_in}
use Rattle.tac_ir.specs.First.{named_function}
use Rattle.call_graph.specs.TakenLists.{NumbersFunctions}
use Rattle.call_graph.proofs.InsertedEntries.{found_inserted, from_here}

abbrev functions_from : Interned → ℕ → List memory_function.Function → List ℕ → Option ℕ
functions_from table number functions name = named_function number (map (function_in table) functions) name

pub functions_none : {A S : Type 0} → (numbers : IndexMap (Vec ℕ A) ℕ S) (functions : List memory_function.Function) → numbers.entries ≡ [] → NumbersFunctions numbers (length functions) (drop (length functions) functions)
functions_none numbers functions empty = λ table name.
    ap (lookup (λ key. bytes_eq name key.items)) empty ∙ sym (ap (λ others. functions_from table (length functions) others name) (drop_all (length functions) functions (omega arith)))

pub functions_down : {A S : Type 0} → (old new : IndexMap (Vec ℕ A) ℕ S) (key : Vec ℕ A) (n : ℕ) (function : memory_function.Function) (functions : List memory_function.Function)
    → n < length functions → function ≡ get_or functions n function → new.entries ≡ insert_entry (λ a b. bytes_eq a.items b.items) old.entries key n → key.items ≡ function.name
    → (m : ℕ) → m ≡ suc n → NumbersFunctions old m (drop m functions) → NumbersFunctions new n (drop n functions)
functions_down old new key n function functions lt is entries named m next has = λ table name.
    let rest = has table name ∙ ap (λ k. functions_from table k (drop k functions) name) next in
    ap (lookup (λ key. bytes_eq name key.items)) entries ∙ (found_inserted (λ key. key.items) bytes_eq bytes_eq-Decides old.entries key n name
    ∙ ((λ i. if bytes_eq (named i) name then Some n else rest i) ∙ sym (ap (λ others. functions_from table n others name) (from_here functions n function lt is))))
