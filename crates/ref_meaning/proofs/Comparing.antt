-- What comparisons and differences of pointers come to.
use Rattle.std.specs.Prelude.{not, ◌||◌, ◌&&◌, ◌==◌}
use Rattle.std.proofs.Common.{◌≡◌, ℕ, ◌<◌, ◌^◌, Bool, true, false, if◌then◌else◌, List, [], ◌∷◌, refl, sym, ap, subst, ◌∙◌, ℤ, pos, ◌-ℤ◌, to_z, of_z, arith}
use lib.Signed.{mag}
use mir.Syntax.{w128}
use mir.Val.{SFits}
use Rattle.std.proofs.lemmas.Int.{ints, to_z-of_z}
use Rattle.std.proofs.lemmas.Bool.{false≢true}
use denote.Enum.Bare.{sameb}
use Rattle.run_theory.specs.declared.place.Pos.{Pos}
use Rattle.run_theory.specs.declared.ends.UbKind.TheVariants as Ub
use Rattle.c_num.specs.declared.Relation.{Relation}
use Rattle.c_num.specs.declared.Relation.TheVariants as R
use Rattle.c_num.specs.contracts.Relation.{the_type}
use Rattle.c_num.specs.declared.IntType.TheVariants as I
use Rattle.c_num.specs.Types.{is_value}
use Rattle.c_num.specs.Arith.{compare_of}
use Rattle.ref_semantics.specs.Values.{Scalar, IntegerValue, place_of}
use Rattle.ref_semantics.specs.Store.{TypeEnvironment, State, Premise, Eval, premise, give, is_dead_pointer, offset_of}
use Rattle.ref_semantics.specs.Pointers.{truth, is_end_beside, is_equality, truth_of_equality, are_in_one_row, index_of, are_equal, is_into_object, same_object, same_function, compared_pointers, difference}
use Rattle.ref_meaning.specs.declared.store.Store.{Store}
use Rattle.ref_meaning.specs.RefStore.Holding.{At, left, IsUndefined, Comes}
use Rattle.ref_meaning.proofs.Giving.{unless-fails, unless-holds, undefined-here, comes-same}

-- ---- either of two

pub or-first : (a b : Bool) → true ≡ a → a || b ≡ true
or-first true b e = refl
or-first false b e = absurd (false≢true (sym e))

pub or-second : (a b : Bool) → true ≡ b → a || b ≡ true
or-second true b e = refl
or-second false b e = sym e

pub or-neither : (a b : Bool) → false ≡ a → false ≡ b → a || b ≡ false
or-neither true b e f = absurd (false≢true e)
or-neither false b e f = sym f

-- one of two pointers points to a dead object
abbrev pub is_either_dead : State → Scalar → Scalar → Bool
is_either_dead state a b = is_dead_pointer state.objects a || is_dead_pointer state.objects b

-- ---- differences

abbrev between : Scalar → Scalar → Eval Scalar
between a b = give (IntegerValue (index_of a -ℤ index_of b))

abbrev pub is_long_between : Scalar → Scalar → Bool
is_long_between a b = is_value I.Long (index_of a -ℤ index_of b)

abbrev far : Scalar → Scalar → List Premise
far a b = premise (not (is_long_between a b)) Ub.U10 ∷ []

abbrev apart : State → Scalar → Scalar → List Premise
apart state a b = premise (not (are_in_one_row state.objects a b)) Ub.U10 ∷ far a b

pub difference-dead : (here : Pos) (a b : Scalar) (state : State) → is_either_dead state a b ≡ true → IsUndefined (difference here a b) state Ub.U06 here
difference-dead here a b state dead =
    undefined-here (difference here a b) state Ub.U06 here (λ units input. unless-fails here (is_either_dead state a b) Ub.U06 (apart state a b) (between a b) (left units input state) dead)

pub difference-apart : (here : Pos) (a b : Scalar) (state : State) → is_either_dead state a b ≡ false → false ≡ are_in_one_row state.objects a b → IsUndefined (difference here a b) state Ub.U10 here
difference-apart here a b state live one =
    undefined-here (difference here a b) state Ub.U10 here (λ units input.
    unless-holds here (is_either_dead state a b) Ub.U06 (apart state a b) (between a b) (left units input state) live
    ∙ unless-fails here (not (are_in_one_row state.objects a b)) Ub.U10 (far a b) (between a b) (left units input state) (sym (ap not one)))

pub difference-far : (here : Pos) (a b : Scalar) (state : State) → is_either_dead state a b ≡ false → true ≡ are_in_one_row state.objects a b → is_long_between a b ≡ false
    → IsUndefined (difference here a b) state Ub.U10 here
difference-far here a b state live one long =
    undefined-here (difference here a b) state Ub.U10 here (λ units input.
    unless-holds here (is_either_dead state a b) Ub.U06 (apart state a b) (between a b) (left units input state) live
    ∙ unless-holds here (not (are_in_one_row state.objects a b)) Ub.U10 (far a b) (between a b) (left units input state) (sym (ap not one))
    ∙ unless-fails here (not (is_long_between a b)) Ub.U10 [] (between a b) (left units input state) (ap not long))

pub difference-comes : (around : TypeEnvironment) (store : Store) (base : ℕ) (here : Pos) (a b : Scalar) (state : State) (value : Scalar)
    → is_either_dead state a b ≡ false → true ≡ are_in_one_row state.objects a b → is_long_between a b ≡ true → At around store base state → IntegerValue (index_of a -ℤ index_of b) ≡ value
    → Comes around store base (difference here a b) state value
difference-comes around store base here a b state value live one long at is =
    comes-same around store base (difference here a b) state value (λ units input.
    unless-holds here (is_either_dead state a b) Ub.U06 (apart state a b) (between a b) (left units input state) live
    ∙ unless-holds here (not (are_in_one_row state.objects a b)) Ub.U10 (far a b) (between a b) (left units input state) (sym (ap not one))
    ∙ unless-holds here (not (is_long_between a b)) Ub.U10 [] (between a b) (left units input state) (ap not long)
    ∙ ap (λ v. give v (left units input state)) is) at

-- ---- comparisons

abbrev outcome : TypeEnvironment → Relation → Scalar → Scalar → Scalar
outcome around relation a b = if is_equality relation then truth_of_equality relation (are_equal around a b) else truth (compare_of relation (index_of a) (index_of b))

abbrev is_beside : State → Relation → Scalar → Scalar → Bool
is_beside state relation a b = if is_equality relation then is_end_beside a b else not (are_in_one_row state.objects a b)

pub compared-dead : (around : TypeEnvironment) (relation : Relation) (here : Pos) (a b : Scalar) (state : State) → is_either_dead state a b ≡ true
    → IsUndefined (compared_pointers around relation here a b) state Ub.U06 here
compared-dead around relation here a b state dead =
    undefined-here (compared_pointers around relation here a b) state Ub.U06 here (λ units input.
    unless-fails here (is_either_dead state a b) Ub.U06 (premise (is_beside state relation a b) Ub.U09 ∷ []) (give (outcome around relation a b)) (left units input state) dead)

compared-beside : (around : TypeEnvironment) (relation : Relation) (here : Pos) (a b : Scalar) (state : State) → is_either_dead state a b ≡ false → is_beside state relation a b ≡ true
    → IsUndefined (compared_pointers around relation here a b) state Ub.U09 here
compared-beside around relation here a b state live beside =
    undefined-here (compared_pointers around relation here a b) state Ub.U09 here (λ units input.
    unless-holds here (is_either_dead state a b) Ub.U06 (premise (is_beside state relation a b) Ub.U09 ∷ []) (give (outcome around relation a b)) (left units input state) live
    ∙ unless-fails here (is_beside state relation a b) Ub.U09 [] (give (outcome around relation a b)) (left units input state) beside)

compared-comes : (around : TypeEnvironment) (store : Store) (base : ℕ) (relation : Relation) (here : Pos) (a b : Scalar) (state : State) (value : Scalar)
    → is_either_dead state a b ≡ false → is_beside state relation a b ≡ false → At around store base state → outcome around relation a b ≡ value
    → Comes around store base (compared_pointers around relation here a b) state value
compared-comes around store base relation here a b state value live beside at is =
    comes-same around store base (compared_pointers around relation here a b) state value (λ units input.
    unless-holds here (is_either_dead state a b) Ub.U06 (premise (is_beside state relation a b) Ub.U09 ∷ []) (give (outcome around relation a b)) (left units input state) live
    ∙ unless-holds here (is_beside state relation a b) Ub.U09 [] (give (outcome around relation a b)) (left units input state) beside
    ∙ ap (λ v. give v (left units input state)) is) at

pub equality-beside : (around : TypeEnvironment) (relation : Relation) (here : Pos) (a b : Scalar) (state : State)
    → is_either_dead state a b ≡ false → true ≡ is_equality relation → true ≡ is_end_beside a b
    → IsUndefined (compared_pointers around relation here a b) state Ub.U09 here
equality-beside around relation here a b state live equality beside =
    compared-beside around relation here a b state live
    (ap (λ t. if t then is_end_beside a b else not (are_in_one_row state.objects a b)) (sym equality) ∙ sym beside)

pub order-beside : (around : TypeEnvironment) (relation : Relation) (here : Pos) (a b : Scalar) (state : State)
    → is_either_dead state a b ≡ false → false ≡ is_equality relation → false ≡ are_in_one_row state.objects a b
    → IsUndefined (compared_pointers around relation here a b) state Ub.U09 here
order-beside around relation here a b state live equality one =
    compared-beside around relation here a b state live
    (ap (λ t. if t then is_end_beside a b else not (are_in_one_row state.objects a b)) (sym equality) ∙ sym (ap not one))

pub equality-comes : (around : TypeEnvironment) (store : Store) (base : ℕ) (relation : Relation) (here : Pos) (a b : Scalar) (state : State) (value : Scalar)
    → is_either_dead state a b ≡ false → true ≡ is_equality relation → false ≡ is_end_beside a b → At around store base state
    → truth_of_equality relation (are_equal around a b) ≡ value
    → Comes around store base (compared_pointers around relation here a b) state value
equality-comes around store base relation here a b state value live equality beside at is =
    compared-comes around store base relation here a b state value live
    (ap (λ t. if t then is_end_beside a b else not (are_in_one_row state.objects a b)) (sym equality) ∙ sym beside) at
    (ap (λ t. if t then truth_of_equality relation (are_equal around a b) else truth (compare_of relation (index_of a) (index_of b))) (sym equality) ∙ is)

pub order-comes : (around : TypeEnvironment) (store : Store) (base : ℕ) (relation : Relation) (here : Pos) (a b : Scalar) (state : State) (value : Scalar)
    → is_either_dead state a b ≡ false → false ≡ is_equality relation → true ≡ are_in_one_row state.objects a b → At around store base state
    → truth (compare_of relation (index_of a) (index_of b)) ≡ value
    → Comes around store base (compared_pointers around relation here a b) state value
order-comes around store base relation here a b state value live equality one at is =
    compared-comes around store base relation here a b state value live
    (ap (λ t. if t then is_end_beside a b else not (are_in_one_row state.objects a b)) (sym equality) ∙ sym (ap not one)) at
    (ap (λ t. if t then truth_of_equality relation (are_equal around a b) else truth (compare_of relation (index_of a) (index_of b))) (sym equality) ∙ is)

-- ---- what `==` and `!=` of a relation say

pub truth-of-unlike : (relation : Relation) (same : Bool) → true ≡ sameb the_type relation R.Ne → truth_of_equality relation same ≡ truth (not same)
truth-of-unlike R.Ne same e = refl
truth-of-unlike R.Eq same e = absurd (false≢true (sym e))
truth-of-unlike R.Lt same e = absurd (false≢true (sym e))
truth-of-unlike R.Le same e = absurd (false≢true (sym e))
truth-of-unlike R.Gt same e = absurd (false≢true (sym e))
truth-of-unlike R.Ge same e = absurd (false≢true (sym e))

pub truth-of-like : (relation : Relation) (same : Bool) → false ≡ sameb the_type relation R.Ne → truth_of_equality relation same ≡ truth same
truth-of-like R.Ne same e = absurd (false≢true e)
truth-of-like R.Eq same e = refl
truth-of-like R.Lt same e = refl
truth-of-like R.Le same e = refl
truth-of-like R.Gt same e = refl
truth-of-like R.Ge same e = refl

-- ---- integers of 128 bits

widened : (z : ℤ) → mag z < 2 ^ 127 → z ≡ to_z w128 (of_z w128 z)
widened z fits = sym (to_z-of_z w128 z (record { sfits = fits }))

pub compared-as : (relation : Relation) (i j x y : ℤ) (told : Bool) → mag x < 2 ^ 127 → mag y < 2 ^ 127 → i ≡ x → j ≡ y
    → told ≡ compare_of relation (to_z w128 (of_z w128 x)) (to_z w128 (of_z w128 y)) → compare_of relation i j ≡ told
compared-as relation i j x y told fits_x fits_y p q e =
    (λ k. compare_of relation ((p ∙ widened x fits_x) k) ((q ∙ widened y fits_y) k)) ∙ sym e

between-fits : (m n : ℕ) → m < 2 ^ 127 → n < 2 ^ 127 → SFits w128 (pos m -ℤ pos n)
between-fits m n p q = omega (arith, ints)

pub subtracted-as : (m n : ℕ) (x y : ℤ) → mag x < 2 ^ 127 → mag y < 2 ^ 127 → pos m ≡ x → pos n ≡ y
    → pos m -ℤ pos n ≡ to_z w128 (of_z w128 (to_z w128 (of_z w128 x) -ℤ to_z w128 (of_z w128 y)))
subtracted-as m n x y fits_x fits_y p q =
    sym (to_z-of_z w128 (pos m -ℤ pos n) (between-fits m n (subst (λ z. mag z < 2 ^ 127) (sym p) fits_x) (subst (λ z. mag z < 2 ^ 127) (sym q) fits_y)))
    ∙ (λ k. to_z w128 (of_z w128 ((p ∙ widened x fits_x) k -ℤ (q ∙ widened y fits_y) k)))

-- ---- equality

pub both-true : (a b value told : Bool) → true ≡ a → value ≡ told → told ≡ b → value ≡ true → a && b ≡ true
both-true true b value told e f g h = sym g ∙ sym f ∙ h
both-true false b value told e f g h = absurd (false≢true (sym e))

pub not-flipped : (a : Bool) → false ≡ not a → a ≡ true
not-flipped true e = refl
not-flipped false e = absurd (false≢true e)

pub equal-told : (around : TypeEnvironment) (a b : Scalar) (m n : ℕ) → is_into_object a && is_into_object b ≡ true → same_object a b ≡ true → m ≡ offset_of around (place_of a) → n ≡ offset_of around (place_of b)
    → (m == n) ≡ are_equal around a b
equal-told around a b m n into same first second = sym (λ i. if into i then same i && (sym first i == sym second i) else same_function a b)
