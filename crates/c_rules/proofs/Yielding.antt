-- What parts of a text yield, put together.
use Rattle.std.proofs.Common.{◌≡◌, Bool, true, false, cond, List, [], ◌∷◌, ◌++◌, Option, Some, refl, sym, subst}
use Rattle.run_theory.specs.declared.place.Pos.{Pos}
use Rattle.c_rules.specs.declared.rule.TypeRule.{TypeRule}
use Rattle.c_rules.specs.declared.violation.Violation.{Violation}
use Rattle.c_rules.specs.Known.{Checked, give, also, unless, require, refuse, with_known, given, given_two, given_three}
use Rattle.c_rules.specs.Fitting.{Yields}

-- ---- lists of violations

pub none_left : {A : Type 0} (xs ys : List A) → xs ++ ys ≡ [] → xs ≡ []
none_left [] ys e = refl
none_left (x ∷ xs) ys e = cc

pub none_right : {A : Type 0} (xs ys : List A) → xs ++ ys ≡ [] → ys ≡ []
none_right [] ys e = e
none_right (x ∷ xs) ys e = cc

-- ---- what is yielded

-- by cases of a test, which each case knows
pub either_case : {A : Type 0} (kind : A → Type 0) (b : Bool) (x y : A) → (b ≡ true → kind x) → (b ≡ false → kind y) → kind (cond b x y)
either_case kind true x y holds fails = holds refl
either_case kind false x y holds fails = fails refl

pub give_yields : {A : Type 0} (kind : A → Type 0) (a : A) → kind a → Yields kind (give a)
give_yields kind a holds none = (a, refl, holds)

pub refuse_yields : {A : Type 0} (kind : A → Type 0) (rule : TypeRule) (place : Pos) → Yields kind (refuse rule place)
refuse_yields kind rule place none = cc

pub also_yields : {A : Type 0} (kind : A → Type 0) (violations : List Violation) (checked : Checked A) → Yields kind checked → Yields kind (also violations checked)
also_yields kind violations checked yields none = yields (none_right violations checked.found none)

pub unless_yields : {A : Type 0} (kind : A → Type 0) (b : Bool) (rule : TypeRule) (place : Pos) (checked : Checked A) → (b ≡ true → Yields kind checked) → Yields kind (also (unless b rule place) checked)
unless_yields kind true rule place checked yields none = yields refl none
unless_yields kind false rule place checked yields none = cc

pub require_yields : {A : Type 0} (kind : A → Type 0) (b : Bool) (rule : TypeRule) (place : Pos) (checked : Checked A) → (b ≡ true → Yields kind checked) → Yields kind (require b rule place checked)
require_yields kind true rule place checked yields none = yields refl none
require_yields kind false rule place checked yields none = cc

-- the same where it is known what is yielded
pub known_yields : {A B : Type 0} (kind : B → Type 0) (known : Option A) (a : A) (rule : A → Checked B) → known ≡ Some a → Yields kind (rule a) → Yields kind (with_known known rule)
known_yields kind known a rule is yields = subst (λ option. Yields kind (with_known option rule)) (sym is) yields

pub given_yields : {A B : Type 0} (one : A → Type 0) (kind : B → Type 0) (part : Checked A) (rule : A → Checked B)
    → Yields one part → ((a : A) → one a → Yields kind (rule a)) → Yields kind (given part rule)
given_yields one kind part rule first then none =
    let known = first (none_left part.found (with_known part.known rule).found none) in
    known_yields kind part.known known.0 rule known.1 (then known.0 known.2) (none_right part.found (with_known part.known rule).found none)

pub given_two_yields : {A B C : Type 0} (one : A → Type 0) (other : B → Type 0) (kind : C → Type 0) (first : Checked A) (second : Checked B) (rule : A → B → Checked C)
    → Yields one first → Yields other second → ((a : A) (b : B) → one a → other b → Yields kind (rule a b)) → Yields kind (given_two first second rule)
given_two_yields one other kind first second rule left right then none =
    let inner = with_known first.known (λ a. with_known second.known (rule a)) in
    let parts = none_left (first.found ++ second.found) inner.found none in
    let a = left (none_left first.found second.found parts) in
    let b = right (none_right first.found second.found parts) in
    known_yields kind first.known a.0 (λ x. with_known second.known (rule x)) a.1
    (known_yields kind second.known b.0 (rule a.0) b.1 (then a.0 b.0 a.2 b.2))
    (none_right (first.found ++ second.found) inner.found none)

pub given_three_yields : {A B C D : Type 0} (one : A → Type 0) (two : B → Type 0) (three : C → Type 0) (kind : D → Type 0)
    (first : Checked A) (second : Checked B) (third : Checked C) (rule : A → B → C → Checked D)
    → Yields one first → Yields two second → Yields three third → ((a : A) (b : B) (c : C) → one a → two b → three c → Yields kind (rule a b c))
    → Yields kind (given_three first second third rule)
given_three_yields one two three kind first second third rule left middle right then none =
    let inner = with_known first.known (λ a. with_known second.known (λ b. with_known third.known (rule a b))) in
    let parts = none_left (first.found ++ second.found ++ third.found) inner.found none in
    let others = none_left (first.found ++ second.found) third.found parts in
    let a = left (none_left first.found second.found others) in
    let b = middle (none_right first.found second.found others) in
    let c = right (none_right (first.found ++ second.found) third.found parts) in
    known_yields kind first.known a.0 (λ x. with_known second.known (λ y. with_known third.known (rule x y))) a.1
    (known_yields kind second.known b.0 (λ y. with_known third.known (rule a.0 y)) b.1
    (known_yields kind third.known c.0 (rule a.0 b.0) c.1 (then a.0 b.0 c.0 a.2 b.2 c.2)))
    (none_right (first.found ++ second.found ++ third.found) inner.found none)
