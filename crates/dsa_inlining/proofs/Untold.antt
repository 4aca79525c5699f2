-- How many bases the groups have that aren't told of.
use Rattle.std.proofs.Common.{◌≡◌, ℕ, zero, suc, ◌+◌, ◌<◌, ◌||◌, Bool, true, false, cond, List, [], ◌∷◌, ◌++◌, length, refl, sym, ap, ◌∙◌, arith}
use Rattle.std.specs.List.{list_any}
use Rattle.std.specs.Prelude.{nat_eq}
use Rattle.std.proofs.lemmas.Bool.Decides.{Decides-eqb}
use Rattle.std.proofs.lemmas.List.Folds.{list_any-append}
use Rattle.dsa_inlining.specs.declared.told_statics.GroupStatics.{GroupStatics}
use Rattle.dsa_inlining.specs.GroupStatics.Telling.{bases_of}

-- the bases of groups from a number on that aren't told of
pub untold_from : ℕ → List GroupStatics → List ℕ → ℕ
untold_from at [] told = 0
untold_from at (its ∷ all) told = cond (list_any (nat_eq at) told) 0 (length its.bases.items) + untold_from (suc at) all told

abbrev pub untold : List GroupStatics → List ℕ → ℕ
untold all told = untold_from 0 all told

differs : (one other : ℕ) → (one ≡ other → ⊥) → nat_eq one other ≡ false
differs one other apart = by (nat_eq one other) refl
  where
    by : (test : Bool) → nat_eq one other ≡ test → test ≡ false
    by true e = absurd (apart ((Decides-eqb one other).0 e))
    by false e = refl

same : (number : ℕ) → nat_eq number number ≡ true
same number = (Decides-eqb number number).1 refl

or_false : (test : Bool) → ◌≡◌ {A = Bool} (test || (false || false)) test
or_false true = refl
or_false false = refl

or_true : (test : Bool) → ◌≡◌ {A = Bool} (test || (true || false)) true
or_true true = refl
or_true false = refl

-- a number that comes to them changes nothing for others
other_told : (one new : ℕ) (told : List ℕ) → (one ≡ new → ⊥) → list_any (nat_eq one) (told ++ new ∷ []) ≡ list_any (nat_eq one) told
other_told one new told apart =
    list_any-append (nat_eq one) told (new ∷ []) ∙ ap (λ test. list_any (nat_eq one) told || (test || false)) (differs one new apart) ∙ or_false (list_any (nat_eq one) told)

this_told : (new : ℕ) (told : List ℕ) → list_any (nat_eq new) (told ++ new ∷ []) ≡ true
this_told new told = list_any-append (nat_eq new) told (new ∷ []) ∙ ap (λ test. list_any (nat_eq new) told || (test || false)) (same new) ∙ or_true (list_any (nat_eq new) told)

-- one below all
untold_above : (at : ℕ) (all : List GroupStatics) (told : List ℕ) (new : ℕ) → new < at → untold_from at all (told ++ new ∷ []) ≡ untold_from at all told
unfolding untold_from
untold_above at [] told new below = refl
untold_above at (its ∷ all) told new below =
    ap (λ test. cond test 0 (length its.bases.items) + untold_from (suc at) all (told ++ new ∷ [])) (other_told at new told (λ e. omega (arith, e, below)))
    ∙ ap (λ n. cond (list_any (nat_eq at) told) 0 (length its.bases.items) + n) (untold_above (suc at) all told new (omega (arith, below)))

no_bases : (place : ℕ) → bases_of [] place ≡ []
no_bases place = refl

-- one that comes to them has so many bases
untold_at : (at : ℕ) (all : List GroupStatics) (told : List ℕ) (new place : ℕ) → new ≡ at + place → list_any (nat_eq new) told ≡ false
    → untold_from at all (told ++ new ∷ []) + length (bases_of all place) ≡ untold_from at all told
unfolding untold_from
untold_at at [] told new place is none = let none_there = ap length (no_bases place) in omega (arith, none_there)
untold_at at (its ∷ all) told new zero is none =
    let here : new ≡ at = omega (arith, is) in
    let before : list_any (nat_eq at) told ≡ false = ap (λ n. list_any (nat_eq n) told) (sym here) ∙ none in
    let after : list_any (nat_eq at) (told ++ new ∷ []) ≡ true = ap (λ n. list_any (nat_eq at) (told ++ n ∷ [])) here ∙ this_told at told in
    let one = ap (λ test. cond test 0 (length its.bases.items) + untold_from (suc at) all (told ++ new ∷ [])) after in
    let other = ap (λ test. cond test 0 (length its.bases.items) + untold_from (suc at) all told) before in
    let rest = untold_above (suc at) all told new (omega (arith, here)) in
    omega (arith, one, other, rest)
untold_at at (its ∷ all) told new (suc place) is none =
    let rest = untold_at (suc at) all told new place (omega (arith, is)) none in
    let head = ap (λ test. cond test 0 (length its.bases.items)) (other_told at new told (λ e. omega (arith, e, is))) in
    omega (arith, rest, head)

pub untold_less : (all : List GroupStatics) (told : List ℕ) (new : ℕ) → list_any (nat_eq new) told ≡ false → untold all (told ++ new ∷ []) + length (bases_of all new) ≡ untold all told
untold_less all told new none = untold_at 0 all told new new (omega arith) none
