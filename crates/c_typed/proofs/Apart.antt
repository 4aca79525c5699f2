-- No two numbers stand for the same type.
use Rattle.std.proofs.Common.{◌≡◌, ℕ, zero, suc, ◌+◌, ◌<◌, ◌≤◌, Bool, true, false, eqb, List, [], ◌∷◌, length, Option, Some, None, refl, sym, ap, subst, ◌∙◌, arith, ◌⊎◌, inl, inr}
use Rattle.std.proofs.lemmas.Bool.{false≢true, cases_eq, cases_lt, eq-eqb, ne_eqb, false_from_ne_true}
use Rattle.std.proofs.lemmas.Option.{none-some, same_Some}
use Rattle.c_typed.specs.declared.c_type.Derived.{Derived}
use Rattle.c_typed.specs.declared.c_type.Derived.TheVariants as D
use Rattle.c_typed.specs.Types.{Void, Integer, Pointer, Array, Struct, Function, NoTypes, MoreTypes, same_type}
use Rattle.c_typed.specs.Table.{Meaning, AType, AList, Nothing, base_meaning, integer_number, pointer_to, array_of, struct_of, function_of, parameter_of, numbered, derived_meaning, meaning_in, IsAType, the_type}
use Rattle.c_typed.specs.Inside.{AreApart, IsSomething, HaveMeanings}
use Rattle.c_typed.proofs.Meanings.{base-nothing, numbered_newest, numbered_older, meaning_newest, meaning_older, entry-means, base_or_entry, IsBase, IsEntry}
use Rattle.c_typed.proofs.Same.{same_type-refl, same_type-true}

pub numbered_apart : {A : Type 0} (xs : List A) (x : A) (n m : ℕ) → AreApart xs → numbered xs n ≡ Some x → numbered xs m ≡ Some x → n ≡ m
numbered_apart [] x n m apart e f = absurd (none-some x e)
numbered_apart (newest ∷ older) x n m apart e f = by (cases_eq n (length older)) (cases_eq m (length older)) (λ a b. numbered_apart older x n m apart.1 a b)
  where
    differs : (k l : ℕ) → k ≡ length older → (l ≡ length older → ⊥) → numbered (newest ∷ older) k ≡ Some x → numbered (newest ∷ older) l ≡ Some x → ⊥
    differs k l top under e f =
        let is : newest ≡ x = same_Some newest x (sym (numbered_newest newest older k top) ∙ e) in
        apart.0 l (sym (numbered_older newest older l under) ∙ f ∙ ap Some (sym is))

    by : (n ≡ length older) ⊎ (n ≡ length older → ⊥) → (m ≡ length older) ⊎ (m ≡ length older → ⊥)
        → (numbered older n ≡ Some x → numbered older m ≡ Some x → n ≡ m) → n ≡ m
    by (inl a) (inl b) rest = a ∙ sym b
    by (inl a) (inr b) rest = absurd (differs n m a b e f)
    by (inr a) (inl b) rest = absurd (differs m n b a f e)
    by (inr a) (inr b) rest = rest (sym (numbered_older newest older n a) ∙ e) (sym (numbered_older newest older m b) ∙ f)

-- ---- the types that are in every table

abbrev base_number : Meaning → ℕ
base_number (AType (Integer int_type)) = integer_number int_type
base_number _ = 0

abbrev is_base : Meaning → Bool
is_base (AType Void) = true
is_base (AType (Integer int_type)) = true
is_base _ = false

module _ (P : ℕ → Type 0) (p0 : P 0) (p1 : P 1) (p2 : P 2) (p3 : P 3) (p4 : P 4) (p5 : P 5) (p6 : P 6) (p7 : P 7) (p8 : P 8) where
  pub below_nine : (n : ℕ) → n < 9 → P n
  below_nine zero lt = p0
  below_nine (suc zero) lt = p1
  below_nine (suc (suc zero)) lt = p2
  below_nine (suc (suc (suc zero))) lt = p3
  below_nine (suc (suc (suc (suc zero)))) lt = p4
  below_nine (suc (suc (suc (suc (suc zero))))) lt = p5
  below_nine (suc (suc (suc (suc (suc (suc zero)))))) lt = p6
  below_nine (suc (suc (suc (suc (suc (suc (suc zero))))))) lt = p7
  below_nine (suc (suc (suc (suc (suc (suc (suc (suc zero)))))))) lt = p8
  below_nine (suc (suc (suc (suc (suc (suc (suc (suc (suc n))))))))) lt = absurd (omega arith)

number_of_base : (n : ℕ) → n < 9 → base_number (base_meaning n) ≡ n
number_of_base = below_nine (λ n. base_number (base_meaning n) ≡ n) refl refl refl refl refl refl refl refl refl

base-is_base : (n : ℕ) → n < 9 → is_base (base_meaning n) ≡ true
base-is_base = below_nine (λ n. is_base (base_meaning n) ≡ true) refl refl refl refl refl refl refl refl refl

-- ---- the parts of a meaning

abbrev target_of : Meaning → Meaning
target_of (AType (Pointer t)) = AType t
target_of (AType (Array t n)) = AType t
target_of (AType (Function t ts)) = AType t
target_of (AList (MoreTypes t ts)) = AType t
target_of _ = Nothing

abbrev list_of : Meaning → Meaning
list_of (AType (Function t ts)) = AList ts
list_of (AList (MoreTypes t ts)) = AList ts
list_of _ = Nothing

abbrev length_of : Meaning → ℕ
length_of (AType (Array t n)) = n
length_of _ = 0

abbrev tag_of : Meaning → Option (List ℕ)
tag_of (AType (Struct tag)) = Some tag
tag_of _ = None

abbrev kind_of : Meaning → ℕ
kind_of (AType (Pointer t)) = 1
kind_of (AType (Array t n)) = 2
kind_of (AType (Struct tag)) = 3
kind_of (AType (Function t ts)) = 4
kind_of (AList NoTypes) = 5
kind_of (AList (MoreTypes t ts)) = 6
kind_of _ = 0

abbrev kind : Derived → ℕ
kind (D.Pointer target) = 1
kind (D.Array element n) = 2
kind (D.Struct id) = 3
kind (D.Function returned ps) = 4
kind D.NoParameters = 5
kind (D.Parameter first others) = 6

record PointerParts (m : Meaning) : Type 0 where
  target : target_of (pointer_to m) ≡ m
  kind : kind_of (pointer_to m) ≡ 1
  base : is_base (pointer_to m) ≡ false

pointer_parts : (m : Meaning) → IsSomething (pointer_to m) → PointerParts m
pointer_parts (AType t) h = record { target = refl; kind = refl; base = refl }
pointer_parts (AList ts) h = absurd h
pointer_parts Nothing h = absurd h

record ArrayParts (m : Meaning) (n : ℕ) : Type 0 where
  target : target_of (array_of m n) ≡ m
  length : length_of (array_of m n) ≡ n
  kind : kind_of (array_of m n) ≡ 2
  base : is_base (array_of m n) ≡ false

array_parts : (m : Meaning) (n : ℕ) → IsSomething (array_of m n) → ArrayParts m n
array_parts (AType t) n h = record { target = refl; length = refl; kind = refl; base = refl }
array_parts (AList ts) n h = absurd h
array_parts Nothing n h = absurd h

record StructParts (o : Option (List ℕ)) : Type 0 where
  tag : tag_of (struct_of o) ≡ o
  name : (name : List ℕ) × (o ≡ Some name)
  kind : kind_of (struct_of o) ≡ 3
  base : is_base (struct_of o) ≡ false

struct_parts : (tag : Option (List ℕ)) → IsSomething (struct_of tag) → StructParts tag
struct_parts (Some name) h = record { tag = refl; name = (name, refl); kind = refl; base = refl }
struct_parts None h = absurd h

record FunctionParts (m l : Meaning) : Type 0 where
  target : target_of (function_of m l) ≡ m
  list : list_of (function_of m l) ≡ l
  kind : kind_of (function_of m l) ≡ 4
  base : is_base (function_of m l) ≡ false

function_parts : (m l : Meaning) → IsSomething (function_of m l) → FunctionParts m l
function_parts (AType t) (AList ts) h = record { target = refl; list = refl; kind = refl; base = refl }
function_parts (AType t) (AType t') h = absurd h
function_parts (AType t) Nothing h = absurd h
function_parts (AList ts) l h = absurd h
function_parts Nothing l h = absurd h

record ParameterParts (m l : Meaning) : Type 0 where
  target : target_of (parameter_of m l) ≡ m
  list : list_of (parameter_of m l) ≡ l
  kind : kind_of (parameter_of m l) ≡ 6
  base : is_base (parameter_of m l) ≡ false

parameter_parts : (m l : Meaning) → IsSomething (parameter_of m l) → ParameterParts m l
parameter_parts (AType t) (AList ts) h = record { target = refl; list = refl; kind = refl; base = refl }
parameter_parts (AType t) (AType t') h = absurd h
parameter_parts (AType t) Nothing h = absurd h
parameter_parts (AList ts) l h = absurd h
parameter_parts Nothing l h = absurd h

-- ---- entries that stand for the same are the same

module _ (tags : List (List ℕ)) (f : ℕ → Meaning) where
  derived-kind : (d : Derived) → IsSomething (derived_meaning tags f d) → kind_of (derived_meaning tags f d) ≡ kind d
  derived-kind (D.Pointer target) h = (pointer_parts (f target.0) h).kind
  derived-kind (D.Array element n) h = (array_parts (f element.0) n h).kind
  derived-kind (D.Struct id) h = (struct_parts (numbered tags id.0) h).kind
  derived-kind (D.Function returned ps) h = (function_parts (f returned.0) (f ps.0) h).kind
  derived-kind D.NoParameters h = refl
  derived-kind (D.Parameter first others) h = (parameter_parts (f first.0) (f others.0) h).kind

  derived-base : (d : Derived) → IsSomething (derived_meaning tags f d) → is_base (derived_meaning tags f d) ≡ false
  derived-base (D.Pointer target) h = (pointer_parts (f target.0) h).base
  derived-base (D.Array element n) h = (array_parts (f element.0) n h).base
  derived-base (D.Struct id) h = (struct_parts (numbered tags id.0) h).base
  derived-base (D.Function returned ps) h = (function_parts (f returned.0) (f ps.0) h).base
  derived-base D.NoParameters h = refl
  derived-base (D.Parameter first others) h = (parameter_parts (f first.0) (f others.0) h).base

module _ (tags : List (List ℕ)) (f : ℕ → Meaning) (tags_apart : AreApart tags)
    (apart : (n m : ℕ) → IsSomething (f n) → f n ≡ f m → n ≡ m) where
  -- parts that are something
  something : (m : Meaning) → IsSomething (pointer_to m) → IsSomething m
  something (AType t) h = tt
  something (AList ts) h = tt
  something Nothing h = absurd h

  first_something : (m l : Meaning) → IsSomething (function_of m l) → IsSomething m × IsSomething l
  first_something (AType t) (AList ts) h = (tt, tt)
  first_something (AType t) (AType t') h = absurd h
  first_something (AType t) Nothing h = absurd h
  first_something (AList ts) l h = absurd h
  first_something Nothing l h = absurd h

  both_something : (m l : Meaning) → IsSomething (parameter_of m l) → IsSomething m × IsSomething l
  both_something (AType t) (AList ts) h = (tt, tt)
  both_something (AType t) (AType t') h = absurd h
  both_something (AType t) Nothing h = absurd h
  both_something (AList ts) l h = absurd h
  both_something Nothing l h = absurd h

  element_something : (m : Meaning) (n : ℕ) → IsSomething (array_of m n) → IsSomething m
  element_something (AType t) n h = tt
  element_something (AList ts) n h = absurd h
  element_something Nothing n h = absurd h

  alike : (a b : Derived) → kind a ≡ kind b → IsSomething (derived_meaning tags f a) → IsSomething (derived_meaning tags f b)
      → derived_meaning tags f a ≡ derived_meaning tags f b → a ≡ b
  alike (D.Pointer x) (D.Pointer y) k h g e =
      let same = apart x.0 y.0 (something (f x.0) h) (sym (pointer_parts (f x.0) h).target ∙ ap target_of e ∙ (pointer_parts (f y.0) g).target) in
      λ i. D.Pointer (record { 0 = same i })
  alike (D.Array x n) (D.Array y m) k h g e =
      let p = array_parts (f x.0) n h in
      let q = array_parts (f y.0) m g in
      let same = apart x.0 y.0 (element_something (f x.0) n h) (sym p.target ∙ ap target_of e ∙ q.target) in
      let long : n ≡ m = sym p.length ∙ ap length_of e ∙ q.length in
      λ i. D.Array (record { 0 = same i }) (long i)
  alike (D.Struct x) (D.Struct y) k h g e =
      let p = struct_parts (numbered tags x.0) h in
      let q = struct_parts (numbered tags y.0) g in
      let tags_same : numbered tags x.0 ≡ numbered tags y.0 = sym p.tag ∙ ap tag_of e ∙ q.tag in
      let same = numbered_apart tags p.name.0 x.0 y.0 tags_apart p.name.1 (sym tags_same ∙ p.name.1) in
      λ i. D.Struct (record { 0 = same i })
  alike (D.Function x ps) (D.Function y qs) k h g e =
      let p = function_parts (f x.0) (f ps.0) h in
      let q = function_parts (f y.0) (f qs.0) g in
      let some = first_something (f x.0) (f ps.0) h in
      let same = apart x.0 y.0 some.0 (sym p.target ∙ ap target_of e ∙ q.target) in
      let same' = apart ps.0 qs.0 some.1 (sym p.list ∙ ap list_of e ∙ q.list) in
      λ i. D.Function (record { 0 = same i }) (record { 0 = same' i })
  alike D.NoParameters D.NoParameters k h g e = refl
  alike (D.Parameter x ps) (D.Parameter y qs) k h g e =
      let p = parameter_parts (f x.0) (f ps.0) h in
      let q = parameter_parts (f y.0) (f qs.0) g in
      let some = both_something (f x.0) (f ps.0) h in
      let same = apart x.0 y.0 some.0 (sym p.target ∙ ap target_of e ∙ q.target) in
      let same' = apart ps.0 qs.0 some.1 (sym p.list ∙ ap list_of e ∙ q.list) in
      λ i. D.Parameter (record { 0 = same i }) (record { 0 = same' i })
  alike a b k h g e = absurd (omega arith)

  pub derived_apart : (a b : Derived) → IsSomething (derived_meaning tags f a) → derived_meaning tags f a ≡ derived_meaning tags f b → a ≡ b
  derived_apart a b h e =
      let g = subst IsSomething e h in
      alike a b (sym (derived-kind tags f a h) ∙ ap kind_of e ∙ derived-kind tags f b g) h g e

-- ---- numbers that stand for the same are the same

module _ (tags : List (List ℕ)) (tags_apart : AreApart tags) where
  -- no older number stands for what the newest entry does
  no_older : (newest : Derived) (older : List Derived) → HaveMeanings tags (newest ∷ older) → AreApart (newest ∷ older)
      → ((n m : ℕ) → IsSomething (meaning_in tags older n) → meaning_in tags older n ≡ meaning_in tags older m → n ≡ m)
      → (m : ℕ) → meaning_in tags older m ≡ derived_meaning tags (meaning_in tags older) newest → ⊥
  no_older newest older means apart rest m e = by (base_or_entry tags older m (subst IsSomething (sym e) means.0))
    where
      by : IsBase tags older m ⊎ IsEntry tags older m → ⊥
      by (inl base) =
          false≢true (sym (derived-base tags (meaning_in tags older) newest means.0) ∙ ap is_base (sym e ∙ base.means) ∙ base-is_base m base.below)
      by (inr found) =
          let there = entry-means tags older found.place found.entry means.1 found.at in
          let same : newest ≡ found.entry =
          derived_apart tags (meaning_in tags older) tags_apart rest newest found.entry means.0 (sym e ∙ ap (meaning_in tags older) found.number ∙ there.0) in
          apart.0 found.place (found.at ∙ ap Some (sym same))

  pub meaning_apart : (es : List Derived) → HaveMeanings tags es → AreApart es → (n m : ℕ) → IsSomething (meaning_in tags es n) → meaning_in tags es n ≡ meaning_in tags es m → n ≡ m
  meaning_apart [] means apart n m h e = by (cases_lt n 9) (cases_lt m 9)
    where
      by : (n < 9) ⊎ (9 ≤ n) → (m < 9) ⊎ (9 ≤ m) → n ≡ m
      by (inl a) (inl b) = sym (number_of_base n a) ∙ ap base_number e ∙ number_of_base m b
      by (inr a) b = absurd (subst IsSomething (base-nothing n a) h)
      by a (inr b) = absurd (subst IsSomething (e ∙ base-nothing m b) h)
  meaning_apart (newest ∷ older) means apart n m h e = by (cases_eq n (9 + length older)) (cases_eq m (9 + length older)) (meaning_apart older means.1 apart.1)
    where
      by : (n ≡ 9 + length older) ⊎ (n ≡ 9 + length older → ⊥) → (m ≡ 9 + length older) ⊎ (m ≡ 9 + length older → ⊥)
          → ((k l : ℕ) → IsSomething (meaning_in tags older k) → meaning_in tags older k ≡ meaning_in tags older l → k ≡ l) → n ≡ m
      by (inl a) (inl b) rest = a ∙ sym b
      by (inl a) (inr b) rest =
          absurd (no_older newest older means apart rest m (sym (meaning_older tags newest older m b) ∙ sym e ∙ meaning_newest tags newest older n a))
      by (inr a) (inl b) rest =
          absurd (no_older newest older means apart rest n (sym (meaning_older tags newest older n a) ∙ e ∙ meaning_newest tags newest older m b))
      by (inr a) (inr b) rest =
          rest n m (subst IsSomething (meaning_older tags newest older n a) h) (sym (meaning_older tags newest older n a) ∙ e ∙ meaning_older tags newest older m b)

-- ---- the same number for the same type

pub type-is : (m : Meaning) → IsAType m → m ≡ AType (the_type m)
type-is (AType t) h = refl
type-is (AList ts) h = absurd h
type-is Nothing h = absurd h

pub type-something : (m : Meaning) → IsAType m → IsSomething m
type-something (AType t) h = tt
type-something (AList ts) h = absurd h
type-something Nothing h = absurd h

pub same_numbers : (tags : List (List ℕ)) (es : List Derived) → HaveMeanings tags es → AreApart es → AreApart tags → (n m : ℕ)
    → IsAType (meaning_in tags es n) → IsAType (meaning_in tags es m)
    → eqb n m ≡ same_type (the_type (meaning_in tags es n)) (the_type (meaning_in tags es m))
same_numbers tags es means apart tags_apart n m h g = by (cases_eq n m)
  where
    by : (n ≡ m) ⊎ (n ≡ m → ⊥) → eqb n m ≡ same_type (the_type (meaning_in tags es n)) (the_type (meaning_in tags es m))
    by (inl same) =
        eq-eqb n m same
        ∙ sym (same_type-refl (the_type (meaning_in tags es n)))
        ∙ ap (λ k. same_type (the_type (meaning_in tags es n)) (the_type (meaning_in tags es k))) same
    by (inr other) =
        ne_eqb n m other
        ∙ sym (false_from_ne_true (same_type (the_type (meaning_in tags es n)) (the_type (meaning_in tags es m)))
        (λ e. other (meaning_apart tags tags_apart es means apart n m (type-something (meaning_in tags es n) h)
        (type-is (meaning_in tags es n) h ∙ ap AType (same_type-true _ _ e) ∙ sym (type-is (meaning_in tags es m) g)))))
