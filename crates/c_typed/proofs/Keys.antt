-- `==` on entries is equality.
use Rattle.std.proofs.Common.{◌≡◌, ℕ, Bool, true, eqb, List, position, reverse, None, Some, refl, sym, ap, ◌∙◌}
use Rattle.std.proofs.lemmas.Bool.{false≢true, eqb-true, eq-eqb, and_parts, and_from}
use Rattle.c_typed.specs.declared.c_type.Derived.{Derived}
use Rattle.c_typed.specs.declared.c_type.Derived.TheVariants as D
use Rattle.c_typed.specs.Table.{numbered}
use Rattle.c_typed.proofs.Lists.{numbered-reverse, fails_everywhere, passes_there}
use Rattle.c_typed.specs.contracts.c_type.DerivedPartialEq.TheImpl.{eq-value}

abbrev pub same_entry : Derived → Derived → Bool
same_entry a b = eq-value.it a b

pub same_entry-refl : (a : Derived) → same_entry a a ≡ true
same_entry-refl (D.Pointer x) = eq-eqb x.0 x.0 refl
same_entry-refl (D.Array x n) = and_from (eqb x.0 x.0) (eqb n n) (eq-eqb x.0 x.0 refl) (eq-eqb n n refl)
same_entry-refl (D.Struct x) = eq-eqb x.0 x.0 refl
same_entry-refl (D.Function x ps) = and_from (eqb x.0 x.0) (eqb ps.0 ps.0) (eq-eqb x.0 x.0 refl) (eq-eqb ps.0 ps.0 refl)
same_entry-refl D.NoParameters = refl
same_entry-refl (D.Parameter x ps) = and_from (eqb x.0 x.0) (eqb ps.0 ps.0) (eq-eqb x.0 x.0 refl) (eq-eqb ps.0 ps.0 refl)

pub same_entry-true : (a b : Derived) → same_entry a b ≡ true → a ≡ b
same_entry-true (D.Pointer x) (D.Pointer y) h = let e = eqb-true x.0 y.0 h in λ i. D.Pointer (record { 0 = e i })
same_entry-true (D.Array x n) (D.Array y m) h =
    let parts = and_parts (eqb x.0 y.0) (eqb n m) h in
    let e = eqb-true x.0 y.0 parts.0 in
    let f = eqb-true n m parts.1 in
    λ i. D.Array (record { 0 = e i }) (f i)
same_entry-true (D.Struct x) (D.Struct y) h = let e = eqb-true x.0 y.0 h in λ i. D.Struct (record { 0 = e i })
same_entry-true (D.Function x ps) (D.Function y qs) h =
    let parts = and_parts (eqb x.0 y.0) (eqb ps.0 qs.0) h in
    let e = eqb-true x.0 y.0 parts.0 in
    let f = eqb-true ps.0 qs.0 parts.1 in
    λ i. D.Function (record { 0 = e i }) (record { 0 = f i })
same_entry-true D.NoParameters D.NoParameters h = refl
same_entry-true (D.Parameter x ps) (D.Parameter y qs) h =
    let parts = and_parts (eqb x.0 y.0) (eqb ps.0 qs.0) h in
    let e = eqb-true x.0 y.0 parts.0 in
    let f = eqb-true ps.0 qs.0 parts.1 in
    λ i. D.Parameter (record { 0 = e i }) (record { 0 = f i })
same_entry-true _ _ h = absurd (false≢true h)

-- an entry that a map doesn't find is nowhere, and one that it finds is there
pub absent_everywhere : (keys : List Derived) (entry : Derived) → position (same_entry entry) keys ≡ None → (n : ℕ) → numbered (reverse keys) n ≡ Some entry → ⊥
absent_everywhere keys entry none n at =
    false≢true (sym (fails_everywhere (same_entry entry) keys n entry none (sym (numbered-reverse keys n) ∙ at)) ∙ same_entry-refl entry)

pub found_there : (keys : List Derived) (entry : Derived) (n : ℕ) → position (same_entry entry) keys ≡ Some n → numbered (reverse keys) n ≡ Some entry
found_there keys entry n some =
    let found = passes_there (same_entry entry) keys n some in
    numbered-reverse keys n ∙ found.1 ∙ ap Some (sym (same_entry-true entry found.0 found.2))
