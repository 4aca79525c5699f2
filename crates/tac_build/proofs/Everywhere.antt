-- A type is known by what its number stands for in all tables: where this is told for each table alike, the number is the same one.
use Rattle.std.proofs.Common.{◌≡◌, ℕ, zero, suc, ◌+◌, ◌<◌, eqb, List, [], ◌∷◌, length, refl, sym, ap, ◌∙◌, subst, arith, ◌⊎◌, inl, inr}
use Rattle.std.proofs.lemmas.Bool.{cases_eq, eq-eqb, ne_eqb, cond-true, cond-false}
use Rattle.c_num.specs.declared.IntType.{IntType}
use Rattle.c_typed.specs.declared.c_type.CType as number
use Rattle.c_typed.specs.declared.c_type.Derived.{Derived}
use Rattle.c_typed.specs.declared.c_type.Derived.TheVariants as D
use Rattle.c_typed.specs.Types.{CType, Void, Integer, Pointer}
use Rattle.c_typed.specs.Table.{Interned, Meaning, AType, AList, Nothing, integer_number, base_meaning, pointer_to, meaning_in, meaning_of, IsAType, the_type, Stands, type_in}
use Rattle.tac_ir.specs.declared.register.Register.{Register}
use Rattle.tac_ir.specs.Code.{Tree, Path}
use Rattle.tac_ir.specs.Views.{path_in}
use Rattle.tac_build.specs.declared.lowered.Lowered as memory_lowered
use Rattle.tac_build.specs.declared.lowered.Lowered.TheVariants as L
use Rattle.tac_build.specs.Spots.{Lowered, AsInteger, AsPointer, AsObject, AsNothing}
use Rattle.tac_build.specs.Building.{lowered_in}
use Rattle.tac_build.specs.Lowering.{LoweredHolds}

-- ---- a table of so many pointers, each to the type in front of it

abbrev chain : ℕ → List Derived
chain zero = []
chain (suc n) = D.Pointer (record { 0 = 8 + n }) ∷ chain n

abbrev code : CType → ℕ
code (Integer int_type) = integer_number int_type
code (Pointer target) = suc (code target)
code _ = 0

abbrev meaning_code : Meaning → ℕ
meaning_code (AType c_type) = code c_type
meaning_code _ = 0

chain_length : (n : ℕ) → length (chain n) ≡ n
chain_length zero = refl
chain_length (suc n) = ap suc (chain_length n)

record Coded (meaning : Meaning) (k : ℕ) : Type 0 where
  coded : meaning_code meaning ≡ k
  is : IsAType meaning

base_coded : (k : ℕ) → k < 9 → Coded (base_meaning k) k
base_coded zero lt = record { coded = refl; is = tt }
base_coded (suc zero) lt = record { coded = refl; is = tt }
base_coded (suc (suc zero)) lt = record { coded = refl; is = tt }
base_coded (suc (suc (suc zero))) lt = record { coded = refl; is = tt }
base_coded (suc (suc (suc (suc zero)))) lt = record { coded = refl; is = tt }
base_coded (suc (suc (suc (suc (suc zero))))) lt = record { coded = refl; is = tt }
base_coded (suc (suc (suc (suc (suc (suc zero)))))) lt = record { coded = refl; is = tt }
base_coded (suc (suc (suc (suc (suc (suc (suc zero))))))) lt = record { coded = refl; is = tt }
base_coded (suc (suc (suc (suc (suc (suc (suc (suc zero)))))))) lt = record { coded = refl; is = tt }
base_coded (suc (suc (suc (suc (suc (suc (suc (suc (suc k))))))))) lt = absurd (omega arith)

pointer_coded : (meaning : Meaning) (k : ℕ) → Coded meaning k → Coded (pointer_to meaning) (suc k)
pointer_coded (AType target) k h = record { coded = ap suc h.coded; is = tt }
pointer_coded (AList others) k h = absurd h.is
pointer_coded Nothing k h = absurd h.is

chain_coded : (n k : ℕ) → k < 9 + n → Coded (meaning_in [] (chain n) k) k
chain_coded zero k lt = base_coded k lt
chain_coded (suc n) k lt = by (cases_eq k (9 + length (chain n))) (chain_coded n (8 + n) (omega arith)) (chain_coded n k)
  where
    newest : Meaning
    newest = pointer_to (meaning_in [] (chain n) (8 + n))

    by : (k ≡ 9 + length (chain n)) ⊎ (k ≡ 9 + length (chain n) → ⊥) → Coded (meaning_in [] (chain n) (8 + n)) (8 + n) → (k < 9 + n → Coded (meaning_in [] (chain n) k) k)
        → Coded (meaning_in [] (chain (suc n)) k) k
    by (inl same) last rest =
        let is : suc (8 + n) ≡ k = omega (arith, same, chain_length n) in
        subst (λ m. Coded m k) (sym (cond-true (eqb k (9 + length (chain n))) newest (meaning_in [] (chain n) k) (eq-eqb k (9 + length (chain n)) same)))
        (subst (λ j. Coded newest j) is (pointer_coded (meaning_in [] (chain n) (8 + n)) (8 + n) last))
    by (inr other) last rest =
        subst (λ m. Coded m k) (sym (cond-false (eqb k (9 + length (chain n))) newest (meaning_in [] (chain n) k) (ne_eqb k (9 + length (chain n)) other)))
        (rest (below other))
      where
        below : (k ≡ 9 + length (chain n) → ⊥) → k < 9 + n
        below other = under (cases_eq k (9 + n))
          where
            under : (k ≡ 9 + n) ⊎ (k ≡ 9 + n → ⊥) → k < 9 + n
            under (inl e) = absurd (other (omega (arith, e, chain_length n)))
            under (inr e) = omega (arith, lt, e)

code_of_meaning : (meaning : Meaning) → code (the_type meaning) ≡ meaning_code meaning
code_of_meaning (AType c_type) = refl
code_of_meaning (AList others) = refl
code_of_meaning Nothing = refl

-- ---- types

pub same_everywhere : (t u : number.CType) → ((table : Interned) → type_in table t ≡ type_in table u) → t.0 ≡ u.0
same_everywhere t u told =
    let n = t.0 + u.0 in
    let first = (chain_coded n t.0 (omega arith)).coded in
    let second = (chain_coded n u.0 (omega arith)).coded in
    let same = ap code (told (record { entries = chain n; tags = []; structs = [] })) in
    sym first ∙ sym (code_of_meaning (meaning_in [] (chain n) t.0)) ∙ same ∙ code_of_meaning (meaning_in [] (chain n) u.0) ∙ second

pub stands_everywhere : (t u : number.CType) → ((table : Interned) → type_in table t ≡ type_in table u) → (table : Interned) → Stands table u → Stands table t
stands_everywhere t u told table stands = subst (λ n. IsAType (meaning_of table n)) (sym (same_everywhere t u told)) stands

-- ---- what is lowered

pub holds_integer : (table : Interned) (lowered : memory_lowered.Lowered) (int_type : IntType) (tree : Tree) → lowered_in table lowered ≡ AsInteger int_type tree → LoweredHolds table lowered
holds_integer table (L.Integer own tree) int_type other is = tt
holds_integer table (L.Pointer register target) int_type other is = absurd (cc)
holds_integer table (L.Object path c_type) int_type other is = absurd (cc)
holds_integer table L.Nothing int_type other is = tt

pub holds_nothing : (table : Interned) (lowered : memory_lowered.Lowered) → lowered_in table lowered ≡ AsNothing → LoweredHolds table lowered
holds_nothing table (L.Integer own tree) is = tt
holds_nothing table (L.Pointer register target) is = absurd (cc)
holds_nothing table (L.Object path c_type) is = absurd (cc)
holds_nothing table L.Nothing is = tt

abbrev target_of : Lowered → CType
target_of (AsPointer register target) = target
target_of (AsObject path c_type) = c_type
target_of _ = Void

pub holds_pointer : (lowered : memory_lowered.Lowered) (target : number.CType) (register : Interned → Register) → ((table : Interned) → lowered_in table lowered ≡ AsPointer (register table) (type_in table target))
    → (table : Interned) → Stands table target → LoweredHolds table lowered
holds_pointer (L.Pointer own other) target register told table stands = stands_everywhere other target (λ any. ap target_of (told any)) table stands
holds_pointer (L.Integer own tree) target register told table stands = tt
holds_pointer (L.Object path c_type) target register told table stands = let is = told table in absurd (cc)
holds_pointer L.Nothing target register told table stands = tt

pub holds_object : (lowered : memory_lowered.Lowered) (c_type : number.CType) (path : Interned → Path) → ((table : Interned) → lowered_in table lowered ≡ AsObject (path table) (type_in table c_type))
    → (table : Interned) → Stands table c_type → LoweredHolds table lowered
holds_object (L.Object own other) c_type path told table stands = stands_everywhere other c_type (λ any. ap target_of (told any)) table stands
holds_object (L.Pointer own other) c_type path told table stands = let is = told table in absurd (cc)
holds_object (L.Integer own tree) c_type path told table stands = tt
holds_object L.Nothing c_type path told table stands = tt

-- what is the same in each table
pub holds_same : (lowered found : memory_lowered.Lowered) → ((table : Interned) → lowered_in table lowered ≡ lowered_in table found) → (table : Interned) → LoweredHolds table found → LoweredHolds table lowered
holds_same lowered (L.Integer own tree) told table holds = holds_integer table lowered own _ (told table)
holds_same lowered (L.Pointer register target) told table holds = holds_pointer lowered target (λ any. register) told table holds
holds_same lowered (L.Object path c_type) told table holds = holds_object lowered c_type (λ any. path_in any path.value) told table holds
holds_same lowered L.Nothing told table holds = holds_nothing table lowered (told table)
