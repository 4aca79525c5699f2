-- What is known of parts of a text, put together.
use Rattle.std.proofs.Common.{Bool, true, false, cond, List, [], ◌∷◌, ◌++◌, Option, Some, None}
use Rattle.run_theory.specs.declared.place.Pos.{Pos}
use Rattle.c_rules.specs.declared.rule.TypeRule.{TypeRule}
use Rattle.c_rules.specs.declared.violation.Violation.{Violation}
use Rattle.c_rules.specs.Known.{Checked, give, refuse, also, require, with_known, given, given_two, given_three}
use Rattle.accepted_programs.specs.Knows.{IfKnown, Knows, Every}

pub every_left : {A : Type 0} (kind : A → Type 0) (xs ys : List A) → Every kind (xs ++ ys) → Every kind xs
every_left kind [] ys all = tt
every_left kind (x ∷ xs) ys all = (all.0, every_left kind xs ys all.1)

pub every_right : {A : Type 0} (kind : A → Type 0) (xs ys : List A) → Every kind (xs ++ ys) → Every kind ys
every_right kind [] ys all = all
every_right kind (x ∷ xs) ys all = every_right kind xs ys all.1

pub every_both : {A : Type 0} (kind : A → Type 0) (xs ys : List A) → Every kind xs → Every kind ys → Every kind (xs ++ ys)
every_both kind [] ys one other = other
every_both kind (x ∷ xs) ys one other = (one.0, every_both kind xs ys one.1 other)

-- by cases of a test
pub by_test : {A : Type 0} (kind : A → Type 0) (b : Bool) (x y : A) → kind x → kind y → kind (cond b x y)
by_test kind true x y one other = one
by_test kind false x y one other = other

pub gives : {A : Type 0} {kind : A → Type 0} (a : A) → kind a → Knows kind (give a)
gives a is = record { holds = is }

pub refuses : {A : Type 0} {kind : A → Type 0} (rule : TypeRule) (place : Pos) → Knows kind (refuse rule place)
refuses rule place = record { holds = tt }

pub beside : {A : Type 0} {kind : A → Type 0} (violations : List Violation) (checked : Checked A) → Knows kind checked → Knows kind (also violations checked)
beside violations checked knows = record { holds = knows.holds }

-- by cases of a test
pub chosen : {A : Type 0} {kind : A → Type 0} (b : Bool) (one other : Checked A) → Knows kind one → Knows kind other → Knows kind (cond b one other)
chosen true one other knows knows_other = knows
chosen false one other knows knows_other = knows_other

-- a rule that is looked at first
pub required : {A : Type 0} {kind : A → Type 0} (b : Bool) (rule : TypeRule) (place : Pos) (checked : Checked A) → Knows kind checked → Knows kind (require b rule place checked)
required true rule place checked knows = knows
required false rule place checked knows = record { holds = tt }

-- rules of parts
known_holds : {A B : Type 0} (one : A → Type 0) (kind : B → Type 0) (known : Option A) (rule : A → Checked B) → IfKnown one known → ((a : A) → one a → Knows kind (rule a)) → IfKnown kind (with_known known rule).known
known_holds one kind None rule holds then = tt
known_holds one kind (Some a) rule holds then = (then a holds).holds

pub of_known : {A B : Type 0} (one : A → Type 0) (kind : B → Type 0) (known : Option A) (rule : A → Checked B) → IfKnown one known → ((a : A) → one a → Knows kind (rule a)) → Knows kind (with_known known rule)
of_known one kind known rule holds then = record { holds = known_holds one kind known rule holds then }

pub of_part : {A B : Type 0} (one : A → Type 0) (kind : B → Type 0) (part : Checked A) (rule : A → Checked B) → Knows one part → ((a : A) → one a → Knows kind (rule a)) → Knows kind (given part rule)
of_part one kind part rule knows then = record { holds = known_holds one kind part.known rule knows.holds then }

pub of_two : {A B C : Type 0} (one : A → Type 0) (two : B → Type 0) (kind : C → Type 0) (first : Checked A) (second : Checked B) (rule : A → B → Checked C)
    → Knows one first → Knows two second → ((a : A) (b : B) → one a → two b → Knows kind (rule a b)) → Knows kind (given_two first second rule)
of_two one two kind first second rule left right then = record {
  holds = known_holds one kind first.known (λ a. with_known second.known (rule a)) left.holds (λ a a_holds. of_known two kind second.known (rule a) right.holds (λ b b_holds. then a b a_holds b_holds));
}

pub of_three : {A B C D : Type 0} (one : A → Type 0) (two : B → Type 0) (three : C → Type 0) (kind : D → Type 0) (first : Checked A) (second : Checked B) (third : Checked C) (rule : A → B → C → Checked D)
    → Knows one first → Knows two second → Knows three third → ((a : A) (b : B) (c : C) → one a → two b → three c → Knows kind (rule a b c)) → Knows kind (given_three first second third rule)
of_three one two three kind first second third rule left middle right then = record {
  holds = known_holds one kind first.known (λ a. with_known second.known (λ b. with_known third.known (rule a b))) left.holds (λ a a_holds.
      of_known two kind second.known (λ b. with_known third.known (rule a b)) middle.holds (λ b b_holds.
      of_known three kind third.known (rule a b) right.holds (λ c c_holds. then a b c a_holds b_holds c_holds)));
}
