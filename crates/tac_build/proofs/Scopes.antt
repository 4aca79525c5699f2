-- The locals in scope, the newest first and the oldest first.
use Rattle.std.proofs.Common.{◌≡◌, ℕ, zero, suc, ◌+◌, ◌<◌, ◌≤◌, eqb, List, [], ◌∷◌, ◌++◌, Option, Some, None, length, map, slice_get, append_assoc, Bor, option_copied, refl, sym, ap, ◌∙◌, arith}
use Rattle.std.specs.Prelude.{reverse}
use Rattle.std.specs.Slice.{IsItemAt}
use Rattle.std.proofs.lemmas.Option.{slice_get_read, slice_get_past}
use Rattle.std.proofs.lemmas.Bool.{eq-eqb, ne_eqb, cond-true, cond-false}
use Rattle.std.proofs.lemmas.Grind.{reverse_onto}
use Rattle.c_typed.specs.Table.{Interned}
use Rattle.tac_build.specs.declared.homes.Home as memory_home
use Rattle.tac_build.specs.Homes.{Home, Scope, home_of}
use Rattle.tac_build.specs.Building.{home_in, scope_in, optional_home}

-- what is read of a slice, copied
pub item_copied : {X : Type 0} (xs : List X) (number : ℕ) (found : Option (Bor X)) → IsItemAt xs number found → option_copied found ≡ slice_get xs number
item_copied xs number (Some x) h = sym (slice_get_read xs (length xs) number x.now refl h.3.0 h.1)
item_copied xs number None h = sym (slice_get_past xs number h.3)

home_older : (newest : Home) (others : Scope) (n : ℕ) → (n ≡ length others → ⊥) → home_of (newest ∷ others) n ≡ home_of others n
home_older newest others n other = cond-false (eqb (length others) n) _ (home_of others n) (ne_eqb (length others) n (λ (e : length others ≡ n). other (sym e)))

home_newest : (newest : Home) (others : Scope) (n : ℕ) → n ≡ length others → home_of (newest ∷ others) n ≡ Some newest
home_newest newest others n same = cond-true (eqb (length others) n) _ (home_of others n) (eq-eqb (length others) n (sym same))

home_beyond : (scope : Scope) (n : ℕ) → length scope ≤ n → home_of scope n ≡ None
home_beyond [] n beyond = refl
home_beyond (newest ∷ others) n beyond = home_older newest others n (λ (e : n ≡ length others). absurd (omega (arith, e, beyond))) ∙ home_beyond others n (omega (arith, beyond))

turned : (first : Home) (scope behind : Scope) → reverse (first ∷ scope) ++ behind ≡ reverse scope ++ (first ∷ behind)
turned first scope behind = ap (λ homes. homes ++ behind) (reverse_onto scope first []) ∙ append_assoc (reverse scope) (first ∷ []) behind

home_below : (scope behind : Scope) (n : ℕ) → n < length behind → home_of (reverse scope ++ behind) n ≡ home_of behind n
home_below [] behind n below = refl
home_below (first ∷ scope) behind n below =
    ap (λ homes. home_of homes n) (turned first scope behind) ∙ home_below scope (first ∷ behind) n (omega (arith, below)) ∙ home_older first behind n (λ (e : n ≡ length behind). absurd (omega (arith, e, below)))

home_at : (scope behind : Scope) (n k : ℕ) → n ≡ length behind + k → home_of (reverse scope ++ behind) n ≡ slice_get scope k
home_at [] behind n k e = home_beyond behind n (omega (arith, e))
home_at (first ∷ scope) behind n zero e =
    ap (λ homes. home_of homes n) (turned first scope behind) ∙ home_below scope (first ∷ behind) n (omega (arith, e)) ∙ home_newest first behind n (omega (arith, e))
home_at (first ∷ scope) behind n (suc k) e = ap (λ homes. home_of homes n) (turned first scope behind) ∙ home_at scope (first ∷ behind) n k (omega (arith, e))

home_turned : (scope : Scope) (n : ℕ) → home_of (reverse scope) n ≡ slice_get scope n
home_turned [] n = refl
home_turned (first ∷ scope) zero = ap (λ homes. home_of homes 0) (reverse_onto scope first []) ∙ home_below scope (first ∷ []) 0 (omega arith) ∙ home_newest first [] 0 refl
home_turned (first ∷ scope) (suc k) = ap (λ homes. home_of homes (suc k)) (reverse_onto scope first []) ∙ home_at scope (first ∷ []) (suc k) k (omega arith)

home_map : (table : Interned) (scope : List memory_home.Home) (n : ℕ) → optional_home table (slice_get scope n) ≡ slice_get (map (home_in table) scope) n
home_map table [] n = refl
home_map table (first ∷ scope) zero = refl
home_map table (first ∷ scope) (suc n) = home_map table scope n

-- the local with a number, by its place
pub home_read : (table : Interned) (scope : List memory_home.Home) (n : ℕ) → optional_home table (slice_get scope n) ≡ home_of (scope_in table scope) n
home_read table scope n = home_map table scope n ∙ sym (home_turned (map (home_in table) scope) n)
