-- Where nothing is violated, no part violates anything.
use Rattle.std.proofs.Common.{◌≡◌, ℕ, Bool, true, false, List, [], ◌∷◌, ◌++◌, Option, Some, None, bytes_eq, refl, sym, ap, ◌∙◌}
use Rattle.std.proofs.lemmas.Option.{none-some, same_Some}
use Rattle.std.proofs.lemmas.Slice.Eq.{bytes_eq-Decides}
use Rattle.run_theory.specs.declared.place.Pos.{Pos}
use Rattle.c_rules.specs.declared.rule.TypeRule.{TypeRule}
use Rattle.c_typed.specs.Typed.{LiteralDef}
use Rattle.c_rules.specs.Known.{Checked, unless, require, give, given, given_two, with_known}
use Rattle.c_rules.specs.Fitting.{Yields, AreListed}

pub both_none : {A : Type 0} (xs ys : List A) → xs ++ ys ≡ [] → (xs ≡ []) × (ys ≡ [])
both_none [] ys e = (refl, e)
both_none (x ∷ xs) ys e = cc

pub three_none : {A : Type 0} (xs ys zs : List A) → xs ++ ys ++ zs ≡ [] → (xs ≡ []) × (ys ≡ []) × (zs ≡ [])
three_none xs ys zs e =
    let front = both_none (xs ++ ys) zs e in
    let parts = both_none xs ys front.0 in
    (parts.0, parts.1, front.1)

pub unless_none : (b : Bool) (kind : TypeRule) (place : Pos) → unless b kind place ≡ [] → b ≡ true
unless_none true kind place e = refl
unless_none false kind place e = cc

pub require_none : {A : Type 0} (b : Bool) (kind : TypeRule) (place : Pos) (checked : Checked A) → (require b kind place checked).found ≡ []
    → (b ≡ true) × (require b kind place checked ≡ checked)
require_none true kind place checked e = (refl, refl)
require_none false kind place checked e = cc

-- what a part that yields something is given to
pub given_known : {A B : Type 0} (part : Checked A) (rule : A → Checked B) (a : A) → part.known ≡ Some a → (given part rule).found ≡ []
    → ((rule a).found ≡ []) × ((given part rule).known ≡ (rule a).known)
given_known part rule a is e =
    let known : with_known part.known rule ≡ rule a = ap (λ k. with_known k rule) is in
    (sym (ap (λ c. c.found) known) ∙ (both_none part.found (with_known part.known rule).found e).1, ap (λ c. c.known) known)

pub given_part : {A B : Type 0} (part : Checked A) (rule : A → Checked B) → (given part rule).found ≡ [] → part.found ≡ []
given_part part rule e = (both_none part.found (with_known part.known rule).found e).0

-- a value with a test that it passes
pub yields_tested : {A : Type 0} (part : Checked A) (kind : A → Type 0) (test : A → Bool) (rule : TypeRule) (place : Pos) → Yields kind part
    → Yields (λ a. (test a ≡ true) × kind a) (given part (λ a. require (test a) rule place (give a)))
yields_tested part kind test rule place yields e =
    let some = yields (given_part part (λ a. require (test a) rule place (give a)) e) in
    let a = some.0 in
    let g = given_known part (λ a. require (test a) rule place (give a)) a some.1 e in
    let passed = require_none (test a) rule place (give a) g.0 in
    (a, g.1 ∙ ap (λ c. c.known) passed.1, (passed.0, some.2))

-- ---- what is known

-- both parts of what is known of two
pub record TwoKnown {A B C : Type 0} (one : Checked A) (two : Checked B) (rule : A → B → Checked C) (c : C) : Type 0 where
  pub first : A
  pub second : B
  pub one_known : one.known ≡ Some first
  pub two_known : two.known ≡ Some second
  pub gives : (rule first second).known ≡ Some c
  pub one_none : one.found ≡ []
  pub two_none : two.found ≡ []

pub both_known : {A B C : Type 0} (one : Checked A) (two : Checked B) (rule : A → B → Checked C) (c : C) → (given_two one two rule).found ≡ [] → (given_two one two rule).known ≡ Some c → TwoKnown one two rule c
both_known {A} {B} one two rule c e is = by one.known two.known refl refl is
  where
    parts : (one.found ≡ []) × (two.found ≡ [])
    parts = both_none one.found two.found (both_none (one.found ++ two.found) (with_known one.known (λ a. with_known two.known (rule a))).found e).0

    by : (k : Option A) (l : Option B) → one.known ≡ k → two.known ≡ l → (with_known k (λ a. with_known l (rule a))).known ≡ Some c → TwoKnown one two rule c
    by None l k_is l_is h = absurd (none-some c h)
    by (Some a) None k_is l_is h = absurd (none-some c h)
    by (Some a) (Some b) k_is l_is h = record { first = a; second = b; one_known = k_is; two_known = l_is; gives = h; one_none = parts.0; two_none = parts.1 }

-- what passed a test
pub tested_known : {A : Type 0} (part : Checked A) (test : A → Bool) (rule : TypeRule) (place : Pos) (a : A) → (given part (λ x. require (test x) rule place (give x))).found ≡ []
    → (given part (λ x. require (test x) rule place (give x))).known ≡ Some a → (part.found ≡ []) × (part.known ≡ Some a) × (test a ≡ true)
tested_known {A} part test rule place a e is = by part.known refl (both_none part.found _ e).1 is
  where
    passed : (x : A) (b : Bool) → test x ≡ b → part.known ≡ Some x → (require b rule place (give x)).found ≡ [] → (require b rule place (give x)).known ≡ Some a → (part.found ≡ []) × (part.known ≡ Some a) × (test a ≡ true)
    passed x true test_is known none now = let same = same_Some x a now in (given_part part (λ y. require (test y) rule place (give y)) e, known ∙ ap Some same, sym (ap test same) ∙ test_is)
    passed x false test_is known none now = cc

    by : (k : Option A) → part.known ≡ k → (with_known k (λ x. require (test x) rule place (give x))).found ≡ [] → (with_known k (λ x. require (test x) rule place (give x))).known ≡ Some a
        → (part.found ≡ []) × (part.known ≡ Some a) × (test a ≡ true)
    by None known none now = absurd (none-some a now)
    by (Some x) known none now = passed x (test x) refl known none now

-- ---- names by their bytes

pub same_name : (a b : List ℕ) → bytes_eq a b ≡ true → a ≡ b
same_name a b e = (bytes_eq-Decides a b).0 e

pub name_itself : (a : List ℕ) → bytes_eq a a ≡ true
name_itself a = (bytes_eq-Decides a a).1 refl

-- ---- literals

pub listed_both : (all xs ys : List LiteralDef) → AreListed all (xs ++ ys) → AreListed all xs × AreListed all ys
listed_both all [] ys listed = (tt, listed)
listed_both all (x ∷ xs) ys listed = let rest = listed_both all xs ys listed.1 in ((listed.0, rest.0), rest.1)
