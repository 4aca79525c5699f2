-- Members by their names.
use Rattle.std.proofs.Common.{◌≡◌, ℕ, suc, ◌<◌, Bool, true, false, cond, List, [], ◌∷◌, ◌++◌, length, Option, Some, None, refl, sym, ap, ◌∙◌, arith}
use Rattle.std.specs.Prelude.{bytes_eq, option_map}
use Rattle.std.specs.Map.{lookup}
use Rattle.std.specs.Borrow.{Bor}
use Rattle.std.specs.Option.{option_copied, is_some}
use Rattle.std.proofs.lemmas.Bool.{false≢true, false_from_ne_true}
use Rattle.std.proofs.lemmas.Option.{none-some, same_Some}
use Rattle.std.proofs.lemmas.List.{map-append, length-map}
use Rattle.std.proofs.lemmas.Slice.Eq.{bytes_eq-Decides}
use Rattle.c_typed.specs.declared.structure.PlacedMember.{PlacedMember}
use Rattle.c_typed.specs.Table.{member_number}
use Rattle.c_typed.specs.Inside.{first_of, placed_names}

bytes_eq-sym : (a b : List ℕ) → bytes_eq a b ≡ bytes_eq b a
bytes_eq-sym a b = by (bytes_eq a b) refl
  where
    by : (t : Bool) → bytes_eq a b ≡ t → t ≡ bytes_eq b a
    by true e = sym ((bytes_eq-Decides b a).1 (sym ((bytes_eq-Decides a b).0 e)))
    by false e = sym (false_from_ne_true (bytes_eq b a) (λ h. false≢true (sym e ∙ (bytes_eq-Decides a b).1 (sym ((bytes_eq-Decides b a).0 h)))))

-- a look-up in a map with one more entry
pub lookup_pushed : {K : Type 0} (test : K → Bool) (es : List (K × ℕ)) (k : K) (x : ℕ) → lookup test (es ++ (k, x) ∷ []) ≡ first_of (lookup test es) (cond (test k) (Some x) None)
lookup_pushed test [] k x = refl
lookup_pushed test (e ∷ es) k x = by (test e.0) (lookup_pushed test es k x)
  where
    by : (b : Bool) → lookup test (es ++ (k, x) ∷ []) ≡ first_of (lookup test es) (cond (test k) (Some x) None)
        → cond b (Some e.1) (lookup test (es ++ (k, x) ∷ [])) ≡ first_of (cond b (Some e.1) (lookup test es)) (cond (test k) (Some x) None)
    by true rest = refl
    by false rest = rest

-- the number of a name among one more
member_number_pushed : (names : List (List ℕ)) (name other : List ℕ)
    → member_number (names ++ name ∷ []) other ≡ first_of (member_number names other) (cond (bytes_eq other name) (Some (length names)) None)
member_number_pushed [] name other = λ i. cond (bytes_eq-sym name other i) (Some 0) None
member_number_pushed (first ∷ names) name other = by (bytes_eq first other) (bytes_eq other name) (member_number_pushed names name other)
  where
    raised : (o : Option ℕ) (b : Bool) → option_map suc (first_of o (cond b (Some (length names)) None)) ≡ first_of (option_map suc o) (cond b (Some (suc (length names))) None)
    raised (Some n) b = refl
    raised None true = refl
    raised None false = refl

    by : (a b : Bool) → member_number (names ++ name ∷ []) other ≡ first_of (member_number names other) (cond b (Some (length names)) None)
        → cond a (Some 0) (option_map suc (member_number (names ++ name ∷ []) other)) ≡ first_of (cond a (Some 0) (option_map suc (member_number names other))) (cond b (Some (suc (length names))) None)
    by true b rest = refl
    by false b rest = ap (option_map suc) rest ∙ raised (member_number names other) b

-- with one more member placed
pub placed_number : (members : List PlacedMember) (member : PlacedMember) (other : List ℕ)
    → member_number (placed_names (members ++ member ∷ [])) other
    ≡ first_of (member_number (placed_names members) other) (cond (bytes_eq other member.name.items) (Some (length members)) None)
placed_number members member other =
    ap (λ ns. member_number ns other) (map-append (λ (m : PlacedMember). m.name.items) members (member ∷ []))
    ∙ member_number_pushed (placed_names members) member.name.items other
    ∙ ap (λ n. first_of (member_number (placed_names members) other) (cond (bytes_eq other member.name.items) (Some n) None)) (length-map members (λ (m : PlacedMember). m.name.items))

-- a name's number is that of a member
number_below : (names : List (List ℕ)) (name : List ℕ) (n : ℕ) → member_number names name ≡ Some n → n < length names
number_below [] name n e = absurd (none-some n e)
number_below (first ∷ names) name n e = by (bytes_eq first name) (member_number names name) refl e (λ k at. number_below names name k at)
  where
    by : (b : Bool) (o : Option ℕ) → member_number names name ≡ o → cond b (Some 0) (option_map suc o) ≡ Some n → ((k : ℕ) → member_number names name ≡ Some k → k < length names) → n < length (first ∷ names)
    by true o at e rest = let is : 0 ≡ n = same_Some 0 n e in omega arith
    by false None at e rest = absurd (none-some n e)
    by false (Some k) at e rest = let is : suc k ≡ n = same_Some (suc k) n e in let lt = rest k at in omega arith

pub placed_below : (members : List PlacedMember) (name : List ℕ) (n : ℕ) → member_number (placed_names members) name ≡ Some n → n < length members
placed_below members name n e = let lt = number_below (placed_names members) name n e in let long = length-map members (λ (m : PlacedMember). m.name.items) in omega arith

pub copied_none : (o : Option (Bor ℕ)) → is_some o ≡ false → option_copied o ≡ None
copied_none None h = refl
copied_none (Some x) h = absurd (false≢true (sym h))
