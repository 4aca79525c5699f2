-- What holds of that which is known of parts of a text, put together.
use Rattle.std.proofs.Common.{Bool, true, false, cond, Option, Some, None}
use Rattle.run_theory.specs.declared.place.Pos.{Pos}
use Rattle.c_rules.specs.declared.rule.TypeRule.{TypeRule}
use Rattle.c_rules.specs.Known.{Checked, require, with_known, given, given_two, given_three}

-- where something is known, it is of the kind
abbrev pub Holds : {A : Type 0} → (A → Type 0) → Option A → Type 0
Holds kind None = Unit {0}
Holds kind (Some a) = kind a

pub either_holds : {A : Type 0} (kind : A → Type 0) (b : Bool) (x y : A) → kind x → kind y → kind (cond b x y)
either_holds kind true x y one other = one
either_holds kind false x y one other = other

pub require_holds : {A : Type 0} (kind : A → Type 0) (b : Bool) (rule : TypeRule) (place : Pos) (checked : Checked A) → Holds kind checked.known → Holds kind (require b rule place checked).known
require_holds kind true rule place checked holds = holds
require_holds kind false rule place checked holds = tt

pub known_holds : {A B : Type 0} (one : A → Type 0) (kind : B → Type 0) (known : Option A) (rule : A → Checked B)
    → Holds one known → ((a : A) → one a → Holds kind (rule a).known) → Holds kind (with_known known rule).known
known_holds one kind None rule holds then = tt
known_holds one kind (Some a) rule holds then = then a holds

pub given_holds : {A B : Type 0} (one : A → Type 0) (kind : B → Type 0) (part : Checked A) (rule : A → Checked B)
    → Holds one part.known → ((a : A) → one a → Holds kind (rule a).known) → Holds kind (given part rule).known
given_holds one kind part rule holds then = known_holds one kind part.known rule holds then

pub given_two_holds : {A B C : Type 0} (one : A → Type 0) (two : B → Type 0) (kind : C → Type 0) (first : Checked A) (second : Checked B) (rule : A → B → Checked C)
    → Holds one first.known → Holds two second.known → ((a : A) (b : B) → one a → two b → Holds kind (rule a b).known) → Holds kind (given_two first second rule).known
given_two_holds one two kind first second rule left right then =
    known_holds one kind first.known (λ a. with_known second.known (rule a)) left
    (λ a is. known_holds two kind second.known (rule a) right (λ b has. then a b is has))

pub given_three_holds : {A B C D : Type 0} (one : A → Type 0) (two : B → Type 0) (three : C → Type 0) (kind : D → Type 0)
    (first : Checked A) (second : Checked B) (third : Checked C) (rule : A → B → C → Checked D)
    → Holds one first.known → Holds two second.known → Holds three third.known → ((a : A) (b : B) (c : C) → one a → two b → three c → Holds kind (rule a b c).known)
    → Holds kind (given_three first second third rule).known
given_three_holds one two three kind first second third rule left middle right then =
    known_holds one kind first.known (λ a. with_known second.known (λ b. with_known third.known (rule a b))) left
    (λ a is. known_holds two kind second.known (λ b. with_known third.known (rule a b)) middle
    (λ b has. known_holds three kind third.known (rule a b) right (λ c own. then a b c is has own)))
