-- The numbers of functions by their types, put in from the last to the first.
use Rattle.std.proofs.Common.{◌≡◌, ℕ, suc, ◌+◌, ◌<◌, ◌==◌, Bool, true, false, if◌then◌else◌, List, [], ◌∷◌, map, drop, length, get_or, Option, Some, unwrap_or, refl, sym, ap, subst, ◌∙◌, arith}
use Rattle.std.proofs.lemmas.List.{drop_all, length-map}
use Rattle.std.proofs.lemmas.Bool.{false≢true, eqb-true, eq-eqb}
use Rattle.std.specs.Map.{lookup}
use Rattle.indexmap.specs.IndexMap.{IndexMap, insert_entry}
use Rattle.c_typed.specs.declared.c_type.CType as number
use Rattle.c_typed.specs.Types.{CType, same_type}
use Rattle.c_typed.specs.Table.{Interned, Stands, type_in, IsNumberOf}
use Rattle.c_typed.proofs.Same.{same_type-refl, same_type-true}
use Rattle.tac_ir.specs.declared.program.Function as memory_function
use Rattle.tac_ir.specs.Code.{Function}
use Rattle.tac_ir.specs.Views.{function_in}
use Rattle.pool_rewrite.specs.Rewriting.{signature_from}
use Rattle.pool_rewrite.specs.declared.signatures.Signatures.{Signatures}
use Rattle.pool_rewrite.specs.Places.{first_of_type, NumbersTypes, TellsSignatures}
use Rattle.pool_rewrite.proofs.InsertedEntries.{found_inserted, from_here}

types_decide : (a b : number.CType) → ((a.0 == b.0) ≡ true → a ≡ b) × (a ≡ b → (a.0 == b.0) ≡ true)
types_decide a b = ((λ e i. record { 0 = eqb-true a.0 b.0 e i }), λ e. eq-eqb a.0 b.0 (ap (λ t. t.0) e))

-- the one number of a type is the number of what stands for the same type
pub same_by_number : (table : Interned) (c_type : CType) (own t : number.CType) → IsNumberOf table c_type own → Stands table t → (own.0 == t.0) ≡ same_type c_type (type_in table t)
same_by_number table c_type own t one stands = by (own.0 == t.0) (same_type c_type (type_in table t)) refl refl
  where
    by : (e s : Bool) → (own.0 == t.0) ≡ e → same_type c_type (type_in table t) ≡ s → (own.0 == t.0) ≡ same_type c_type (type_in table t)
    by true s e f =
        let means : type_in table t ≡ c_type = ap (type_in table) (sym ((types_decide own t).0 e)) ∙ one.means in
        e ∙ sym (subst (λ (other : CType). same_type c_type other ≡ true) (sym means) (same_type-refl c_type))
    by false true e f = absurd (false≢true (sym e ∙ (types_decide own t).1 (sym (one.only t stands (sym (same_type-true c_type (type_in table t) f))))))
    by false false e f = e ∙ sym f

-- the first of a type, or the number behind all
pub signature_or_count : (number : ℕ) (functions : List Function) (c_type : CType) → unwrap_or (first_of_type number functions c_type) (number + length functions) ≡ signature_from number functions c_type
signature_or_count number [] c_type = omega arith
signature_or_count number (first ∷ others) c_type = by (same_type first.c_type c_type) (ap (unwrap_or (first_of_type (suc number) others c_type)) (omega arith) ∙ signature_or_count (suc number) others c_type)
  where
    by : (t : Bool) → unwrap_or (first_of_type (suc number) others c_type) (number + suc (length others)) ≡ signature_from (suc number) others c_type
        → unwrap_or (if t then Some number else first_of_type (suc number) others c_type) (number + suc (length others)) ≡ (if t then number else signature_from (suc number) others c_type)
    by true e = refl
    by false e = e

-- ---- the map

abbrev types_from : Interned → ℕ → List memory_function.Function → number.CType → Option ℕ
types_from table number functions t = first_of_type number (map (function_in table) functions) (type_in table t)

pub types_none : {S : Type 0} → (table : Interned) (numbers : IndexMap number.CType ℕ S) (functions : List memory_function.Function) → numbers.entries ≡ [] → NumbersTypes table numbers (length functions) (drop (length functions) functions)
types_none table numbers functions empty = λ t stands.
    ap (lookup (λ (key : number.CType). t.0 == key.0)) empty ∙ sym (ap (λ others. types_from table (length functions) others t) (drop_all (length functions) functions (omega arith)))

pub types_down : {S : Type 0} → (table : Interned) (old new : IndexMap number.CType ℕ S) (n : ℕ) (function : memory_function.Function) (functions : List memory_function.Function) (own : number.CType)
    → IsNumberOf table (type_in table function.c_type) own → n < length functions → function ≡ get_or functions n function
    → new.entries ≡ insert_entry (λ (a b : number.CType). a.0 == b.0) old.entries own n
    → (m : ℕ) → m ≡ suc n → NumbersTypes table old m (drop m functions) → NumbersTypes table new n (drop n functions)
types_down table old new n function functions own one lt is entries m next has = λ t stands.
    let rest = has t stands ∙ ap (λ k. types_from table k (drop k functions) t) next in
    let same = same_by_number table (type_in table function.c_type) own t one stands in
    ap (lookup (λ (key : number.CType). t.0 == key.0)) entries ∙ (found_inserted (λ (key : number.CType). key) (λ (a b : number.CType). a.0 == b.0) types_decide old.entries own n t
    ∙ ((λ i. if same i then Some n else rest i) ∙ sym (ap (λ others. types_from table n others t) (from_here functions n function lt is))))

-- the numbers of all functions tell signatures
pub types_told : (table : Interned) (functions : List memory_function.Function) (signatures : Signatures) → NumbersTypes table signatures.firsts 0 functions → signatures.count ≡ length functions
    → TellsSignatures table functions signatures
types_told table functions signatures has count = λ t stands.
    (λ i. unwrap_or (has t stands i) (counted i)) ∙ signature_or_count 0 (map (function_in table) functions) (type_in table t)
  where
    counted : signatures.count ≡ 0 + length (map (function_in table) functions)
    counted = omega (arith, count, length-map functions (function_in table))
