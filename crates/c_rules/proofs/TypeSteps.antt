-- Steps of a type's rule.
use Rattle.std.proofs.Common.{◌≡◌, Bool, true, false, not, ◌||◌, Option, Some, refl, subst, sym}
use Rattle.c_typed.specs.Expressions.{given, given_two, where_holds}

pub given_is : {A B : Type 0} (option : Option A) (a : A) (rule : A → Option B) (b : B) → option ≡ Some a → rule a ≡ Some b → given option rule ≡ Some b
given_is option a rule b is gives = subst (λ o. given o rule ≡ Some b) (sym is) gives

pub given_two_is : {A B C : Type 0} (first : Option A) (a : A) (second : Option B) (b : B) (rule : A → B → Option C) (c : C)
    → first ≡ Some a → second ≡ Some b → rule a b ≡ Some c → given_two first second rule ≡ Some c
given_two_is first a second b rule c one two gives = given_is first a (λ x. given second (rule x)) c one (given_is second b (rule a) c two gives)

pub holds_is : {A : Type 0} (b : Bool) (a : A) → b ≡ true → where_holds b a ≡ Some a
holds_is true a h = refl
holds_is false a h = cc

pub not_true : (b : Bool) → b ≡ false → not b ≡ true
not_true true h = cc
not_true false h = refl

pub or_left : (a b : Bool) → a ≡ true → (a || b) ≡ true
or_left true b h = refl
or_left false b h = cc

pub or_right : (a b : Bool) → b ≡ true → (a || b) ≡ true
or_right true b h = refl
or_right false b h = h

pub or_none : (a : Bool) → (a || false) ≡ true → a ≡ true
or_none true h = refl
or_none false h = h

-- by cases of which of both holds
pub or_case : {A : Type 0} (a b : Bool) → (a || b) ≡ true → (a ≡ true → A) → (b ≡ true → A) → A
or_case true b h left right = left refl
or_case false b h left right = right h

pub bool_case : {A : Type 0} (b : Bool) → (b ≡ true → A) → (b ≡ false → A) → A
bool_case true holds fails = holds refl
bool_case false holds fails = fails refl
