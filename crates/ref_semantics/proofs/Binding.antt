-- Evaluations that do the same, and what follows them.
use Rattle.std.proofs.Common.{◌≡◌, ℕ, zero, suc, Bool, true, false, if◌then◌else◌, refl, ◌∙◌, sym}
use Rattle.ref_semantics.specs.Store.{State, Outcome, Then, Stopped, Eval, continue_with, ◌>>=◌, give, spend, tick}

-- two evaluations that do the same from each state
pub record Same {A : Type 0} (first second : Eval A) : Type 0 where
  pub from : (state : State) → first state ≡ second state

pub same_self : {A : Type 0} {eval : Eval A} → Same eval eval
same_self = record { from = λ state. refl }

pub same_then : {A : Type 0} {first second third : Eval A} → Same first second → Same second third → Same first third
same_then p q = record { from = λ state. p.from state ∙ q.from state }

pub same_back : {A : Type 0} {first second : Eval A} → Same first second → Same second first
same_back p = record { from = λ state. sym (p.from state) }

pub same_path : {A : Type 0} {first second : Eval A} → first ≡ second → Same first second
same_path p = record { from = λ state. λ i. p i state }

-- ---- one behind another

behind_outcome : {A B C : Type 0} (first : A → Eval B) (second : B → Eval C) (both : A → Eval C) → ((a : A) → Same (first a >>= second) (both a)) → (outcome : Outcome A) →
    continue_with second (continue_with first outcome) ≡ continue_with both outcome
behind_outcome first second both each (Then a state) = (each a).from state
behind_outcome first second both each (Stopped answer state) = refl

-- what follows both of two follows the second
pub then_behind : {A B C : Type 0} (eval : Eval A) (first : A → Eval B) (second : B → Eval C) {both : A → Eval C} → ((a : A) → Same (first a >>= second) (both a)) → Same ((eval >>= first) >>= second) (eval >>= both)
then_behind eval first second {both = both} each = record { from = λ state. behind_outcome first second both each (eval state) }

pub then_same : {A B : Type 0} (eval : Eval A) {first second : A → Eval B} → ((a : A) → Same (first a) (second a)) → Same (eval >>= first) (eval >>= second)
then_same eval each = record { from = λ state. λ i. continue_with (λ a after. (each a).from after i) (eval state) }

pub first_same : {A B : Type 0} {first second : Eval A} (next : A → Eval B) → Same first second → Same (first >>= next) (second >>= next)
first_same next p = record { from = λ state. λ i. continue_with next (p.from state i) }

given_outcome : {A : Type 0} (outcome : Outcome A) → outcome ≡ continue_with give outcome
given_outcome (Then a state) = refl
given_outcome (Stopped answer state) = refl

pub then_give : {A : Type 0} (eval : Eval A) → Same eval (eval >>= give)
then_give eval = record { from = λ state. given_outcome (eval state) }

-- ---- what spends a unit

spent_same : {A B C : Type 0} (first : Eval A) (next : A → Eval C) (second : Eval B) (other : B → Eval C) → Same (first >>= next) (second >>= other) → (units : ℕ) (state : State) →
    continue_with next (spend first units state) ≡ continue_with other (spend second units state)
spent_same first next second other p zero state = refl
spent_same first next second other p (suc units) state = p.from (record state { units = units })

pub entered_same : {A B C : Type 0} (first : Eval A) (next : A → Eval C) (second : Eval B) (other : B → Eval C) → Same (first >>= next) (second >>= other) → Same (tick first >>= next) (tick second >>= other)
entered_same first next second other p = record { from = λ state. spent_same first next second other p state.units state }

spent_both : {A C : Type 0} (first : Eval A) (next : A → Eval C) (both : Eval C) → Same (first >>= next) both → (units : ℕ) (state : State) → continue_with next (spend first units state) ≡ spend both units state
spent_both first next both p zero state = refl
spent_both first next both p (suc units) state = p.from (record state { units = units })

pub entered_then : {A C : Type 0} (first : Eval A) (next : A → Eval C) {both : Eval C} → Same (first >>= next) both → Same (tick first >>= next) (tick both)
entered_then first next {both = both} p = record { from = λ state. spent_both first next both p state.units state }

spent_inner : {A : Type 0} (first second : Eval A) → Same first second → (units : ℕ) (state : State) → spend first units state ≡ spend second units state
spent_inner first second p zero state = refl
spent_inner first second p (suc units) state = p.from (record state { units = units })

pub entered_inner : {A : Type 0} {first second : Eval A} → Same first second → Same (tick first) (tick second)
entered_inner {first = first} {second = second} p = record { from = λ state. spent_inner first second p state.units state }

-- ---- choices

pub choice_then : {A B C : Type 0} (is_first : Bool) (first second : Eval A) (next : A → Eval C) (first' second' : Eval B) (other : B → Eval C) → Same (first >>= next) (first' >>= other) → Same (second >>= next) (second' >>= other) →
    Same ((if is_first then first else second) >>= next) ((if is_first then first' else second') >>= other)
choice_then true first second next first' second' other p q = p
choice_then false first second next first' second' other p q = q
