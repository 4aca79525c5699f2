-- `==` on names is the equality of the objects that they name.
use Rattle.std.proofs.Common.{◌≡◌, Bool, true, false, eqb, Option, if◌then◌else◌, refl, sym, ap, ◌∙◌}
use Rattle.std.proofs.lemmas.Bool.{false≢true, false_from_ne_true, eqb-true, eq-eqb, and_parts, and_from}
use Rattle.std.proofs.lemmas.Slice.Eq.{bytes_eq-Decides}
use Rattle.indexmap.specs.IndexMap.{IndexMap, get, get_by, Updates}
use Rattle.ref_semantics.specs.Values as V
use Rattle.ref_meaning.specs.declared.value.Name.{Name}
use Rattle.ref_meaning.specs.declared.value.Name.TheVariants as N
use Rattle.ref_meaning.specs.RefStore.Views.{name_of, same_memory}
use Rattle.ref_meaning.specs.contracts.value.NamePartialEq.TheImpl.{eq-value}

pub name_eq : (a b : Name) → eq-value.it a b ≡ same_memory a b
name_eq (N.Heap a) (N.Heap b) = refl
name_eq (N.Outer a) (N.Outer b) = refl
name_eq (N.Text a) (N.Text b) = refl
name_eq (N.Own a) (N.Own b) = refl
name_eq _ _ = refl

-- ---- names of the meaning

pub same_name-refl : (a : V.Name) → V.same_name a a ≡ true
same_name-refl (V.Heap number) = eq-eqb number number refl
same_name-refl (V.GlobalObject name) = (bytes_eq-Decides name name).1 refl
same_name-refl (V.LiteralObject place) = and_from (eqb place.line place.line) (eqb place.column place.column) (eq-eqb place.line place.line refl) (eq-eqb place.column place.column refl)
same_name-refl (V.LocalObject number) = eq-eqb number number refl

pub same_name-true : (a b : V.Name) → V.same_name a b ≡ true → a ≡ b
same_name-true (V.Heap a) (V.Heap b) h = ap V.Heap (eqb-true a b h)
same_name-true (V.GlobalObject a) (V.GlobalObject b) h = ap V.GlobalObject ((bytes_eq-Decides a b).0 h)
same_name-true (V.LiteralObject a) (V.LiteralObject b) h =
    let parts = and_parts (eqb a.line b.line) (eqb a.column b.column) h in
    let line = eqb-true a.line b.line parts.0 in
    let column = eqb-true a.column b.column parts.1 in
    λ i. V.LiteralObject (record { line = line i; column = column i })
same_name-true (V.LocalObject a) (V.LocalObject b) h = ap V.LocalObject (eqb-true a b h)
same_name-true _ _ h = absurd (false≢true h)

pub same_name-symm : (a b : V.Name) → V.same_name a b ≡ V.same_name b a
same_name-symm a b = by (V.same_name a b) refl
  where
    by : (t : Bool) → V.same_name a b ≡ t → V.same_name a b ≡ V.same_name b a
    by true e = ap (λ n. V.same_name n b) (same_name-true a b e) ∙ ap (V.same_name b) (sym (same_name-true a b e))
    by false e =
        e ∙ sym (false_from_ne_true (V.same_name b a) (λ h. false≢true (sym e ∙ ap (V.same_name a) (same_name-true b a h) ∙ same_name-refl a)))

-- ---- names in memory

pub same_memory-refl : (a : Name) → same_memory a a ≡ true
same_memory-refl a = same_name-refl (name_of a)

pub same_memory-true : (a b : Name) → same_memory a b ≡ true → name_of a ≡ name_of b
same_memory-true a b h = same_name-true (name_of a) (name_of b) h

pub same_memory-symm : (a b : Name) → same_memory a b ≡ same_memory b a
same_memory-symm a b = same_name-symm (name_of a) (name_of b)

-- names of one object are alike
pub same_memory-congr : (a b c : Name) → same_memory a b ≡ true → same_memory a c ≡ same_memory b c
same_memory-congr a b c h = ap (λ n. V.same_name n (name_of c)) (same_memory-true a b h)

-- ---- the objects of a map, by their names

module _ {X S : Type 0} where
  pub get_name : (m : IndexMap Name X S) (a : Name) → get eq-value.it m a ≡ get_by (same_memory a) m
  get_name m a = λ i. get_by (λ b. name_eq a b i) m

  -- names of one object find the same
  pub get_same : (m : IndexMap Name X S) (a b : Name) → same_memory a b ≡ true → get_by (same_memory a) m ≡ get_by (same_memory b) m
  get_same m a b h = λ i. get_by (λ c. same_memory-congr a b c h i) m

  -- an update by a key, as `insert` does, or by a query that is a name, as `swap_remove` does
  pub updates_name : (m n : IndexMap Name X S) (a : Name) (w : Option X) → Updates eq-value.it m n a w → (q : Name)
      → get_by (same_memory q) n ≡ (if same_memory a q then w else get_by (same_memory q) m)
  updates_name m n a w h q = sym (get_name n q) ∙ h.0 q ∙ (λ i. if name_eq a q i then w else get_name m q i)

  pub updated_there : (m n : IndexMap Name X S) (a : Name) (w : Option X) → Updates eq-value.it m n a w → get_by (same_memory a) n ≡ w
  updated_there m n a w h = updates_name m n a w h a ∙ (λ i. if same_memory-refl a i then w else get_by (same_memory a) m)
