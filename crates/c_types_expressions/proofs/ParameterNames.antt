-- The names of parameters, which stand in a set.
use Rattle.std.proofs.Common.{◌≡◌, ℕ, Bool, true, false, not, ◌||◌, if◌then◌else◌, List, [], ◌∷◌, ◌++◌, Option, Some, None, is_some, refl, sym, ap, subst, ◌∙◌, Vec}
use Rattle.std.specs.Prelude.{bytes_eq}
use Rattle.std.specs.List.{list_any}
use Rattle.std.proofs.lemmas.Bool.{false≢true}
use Rattle.std.proofs.lemmas.List.{map-append}
use Rattle.std.proofs.lemmas.Slice.Eq.{bytes_eq-Decides}
use Rattle.indexmap.specs.IndexSet.{insert_key}
use Rattle.c_syntax.specs.Trees.{NameTree}
use Rattle.c_typed.specs.declared.typed.LibraryFunction.{LibraryFunction}
use Rattle.c_rules.specs.declared.rule.TypeRule.TheVariants as T
use Rattle.c_rules.specs.Names.{library_named, is_library}
use Rattle.c_typed.specs.Names.{contains}
use Rattle.c_types_state.specs.NameTables.{State, with_once}
use Rattle.c_types_state.specs.Checkers.{names_of}
use Rattle.c_rules.specs.Known.{also, give, unless}
use Rattle.c_rules.specs.Expressions.{name_clash, with_name}
use Rattle.c_types_state.specs.Finding.{Finds, noted}
use Rattle.c_types_state.specs.Staying.{IsSame}
use Rattle.c_types_state.proofs.Findings.{finds-also, finds-give}
use Rattle.c_types_expressions.specs.Derived.{SameNames}

-- it doesn't matter which of the two stands first
bytes_eq-swap : (a b : List ℕ) → bytes_eq a b ≡ bytes_eq b a
bytes_eq-swap a b = by (bytes_eq a b) (bytes_eq b a) refl refl
  where
    by : (l r : Bool) → bytes_eq a b ≡ l → bytes_eq b a ≡ r → l ≡ r
    by true true e f = refl
    by false false e f = refl
    by true false e f = absurd (false≢true (sym f ∙ (bytes_eq-Decides b a).1 (sym ((bytes_eq-Decides a b).0 e))))
    by false true e f = absurd (false≢true (sym e ∙ (bytes_eq-Decides a b).1 (sym ((bytes_eq-Decides b a).0 f))))

-- ---- a name behind others, or in front of them

or-swap : (a b c : Bool) → (a || (b || c)) ≡ (b || (a || c))
or-swap true true c = refl
or-swap true false c = refl
or-swap false true c = refl
or-swap false false c = refl

contains-end : (names : List (List ℕ)) (name other : List ℕ) → contains (names ++ name ∷ []) other ≡ contains (name ∷ names) other
contains-end [] name other = refl
contains-end (first ∷ others) name other =
    ap (λ b. bytes_eq first other || b) (contains-end others name other) ∙ or-swap (bytes_eq first other) (bytes_eq name other) (contains others other)

-- one that is there already
contains-there : (names : List (List ℕ)) (name other : List ℕ) → contains names name ≡ true → contains names other ≡ contains (name ∷ names) other
contains-there names name other there = by (bytes_eq name other) refl
  where
    by : (b : Bool) → bytes_eq name other ≡ b → contains names other ≡ (b || contains names other)
    by true e = ap (λ bytes. contains names bytes) (sym ((bytes_eq-Decides name other).0 e)) ∙ there
    by false e = refl

contains-once : (names : List (List ℕ)) (name other : List ℕ) → contains (with_once names name) other ≡ contains (name ∷ names) other
contains-once names name other = by (contains names name) refl
  where
    by : (b : Bool) → contains names name ≡ b → contains (if b then names else names ++ name ∷ []) other ≡ contains (name ∷ names) other
    by true e = contains-there names name other e
    by false e = contains-end names name other

-- ---- sets of names

module _ {Z : Type 0} where
  pub contains_names : (name : List ℕ) (keys : List (Vec ℕ Z)) → list_any (λ (k : Vec ℕ Z). bytes_eq name k.items) keys ≡ contains (names_of keys) name
  contains_names name [] = refl
  contains_names name (key ∷ keys) = λ i. bytes_eq-swap name key.items i || contains_names name keys i

  names_pushed : (b : Bool) (keys : List (Vec ℕ Z)) (key : Vec ℕ Z) → names_of (if b then keys else keys ++ key ∷ []) ≡ (if b then names_of keys else names_of keys ++ key.items ∷ [])
  names_pushed true keys key = refl
  names_pushed false keys key = map-append (λ (k : Vec ℕ Z). k.items) keys (key ∷ [])

  names_with : (keys : List (Vec ℕ Z)) (key : Vec ℕ Z) (name : List ℕ) → key.items ≡ name → names_of (insert_key (λ (a b : Vec ℕ Z). bytes_eq a.items b.items) keys key) ≡ with_once (names_of keys) name
  names_with keys key name is =
      names_pushed (list_any (λ (k : Vec ℕ Z). bytes_eq key.items k.items) keys) keys key
      ∙ ap (λ b. if b then names_of keys else names_of keys ++ key.items ∷ []) (contains_names key.items keys)
      ∙ ap (with_once (names_of keys)) is

  -- a name that is added
  pub names-added : (keys new : List (Vec ℕ Z)) (key : Vec ℕ Z) (known : Option NameTree) (name : NameTree) → known ≡ Some name → key.items ≡ name.bytes → new ≡ insert_key (λ (a b : Vec ℕ Z). bytes_eq a.items b.items) keys key
      → SameNames (names_of new) (with_name known (names_of keys))
  names-added keys new key known name is same pushed = λ other.
      ap (λ (ks : List (Vec ℕ Z)). contains (names_of ks) other) pushed
      ∙ ap (λ (names : List (List ℕ)). contains names other) (names_with keys key name.bytes same)
      ∙ contains-once (names_of keys) name.bytes other
      ∙ ap (λ (k : Option NameTree). contains (with_name k (names_of keys)) other) (sym is)

  -- and one that is there already
  pub names-stay : (keys : List (Vec ℕ Z)) (known : Option NameTree) (name : NameTree) → known ≡ Some name → contains (names_of keys) name.bytes ≡ true → SameNames (names_of keys) (with_name known (names_of keys))
  names-stay keys known name is there = λ other.
      contains-there (names_of keys) name.bytes other there ∙ ap (λ (k : Option NameTree). contains (with_name k (names_of keys)) other) (sym is)

-- ---- whether a name is new

library-some : (name : List ℕ) → is_some (library_named name) ≡ is_library name
library-some name = by (library_named name) refl
  where
    by : (o : Option LibraryFunction) → library_named name ≡ o → is_some o ≡ is_library name
    by (Some f) e = rw (e, is_library) refl
    by None e = rw (e, is_library) refl

not-twice : (b : Bool) → b ≡ not (not b)
not-twice true = refl
not-twice false = refl

module _ (names : List (List ℕ)) (bytes : List ℕ) (found new : Bool) (is : found ≡ contains names bytes) where
  pub is_new-then : (looked : List ℕ) (none : Bool) (r : Option LibraryFunction) → found ≡ false → looked ≡ bytes → r ≡ library_named looked → is_some r ≡ not none → new ≡ none → new ≡ not (contains names bytes || is_library bytes)
  is_new-then looked none r lacks same named said made =
      let absent : contains names bytes ≡ false = sym is ∙ lacks in
      let library : is_library bytes ≡ not none = sym (library-some bytes) ∙ ap (λ l. is_some (library_named l)) (sym same) ∙ ap (λ (o : Option LibraryFunction). is_some o) (sym named) ∙ said in
      made ∙ not-twice none ∙ (λ i. not (sym absent i || sym library i))

  pub is_new-else : found ≡ true → new ≡ not found → new ≡ not (contains names bytes || is_library bytes)
  is_new-else there made =
      let present : contains names bytes ≡ true = sym is ∙ there in
      made ∙ ap not there ∙ ap (λ b. not (b || is_library bytes)) (sym present)

-- ---- what is found

pub note-found : {s t : State} (names : List (List ℕ)) (known : Option NameTree) (name : NameTree) (new : Bool) → known ≡ Some name → new ≡ not (contains names name.bytes || is_library name.bytes)
    → t ≡ record s { least = noted s.least (unless new T.T04 name.place) } → Finds IsSame (also (name_clash names known) (give (tt {0}))) s t (Some (tt {0}))
note-found {s = s} {t = t} names known name new is fresh at =
    subst (λ (k : Option NameTree). Finds IsSame (also (name_clash names k) (give (tt {0}))) s t (Some (tt {0}))) (sym is)
    (finds-also (unless (not (contains names name.bytes || is_library name.bytes)) T.T04 name.place)
    (at ∙ ap (λ b. record s { least = noted s.least (unless b T.T04 name.place) }) fresh) (finds-give refl))
