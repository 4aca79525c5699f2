-- How what a call gives follows from its parts.
use Rattle.std.proofs.Common.{◌≡◌, ℕ, Bool, true, false, if◌then◌else◌, List, ◌∷◌, refl, ap, ◌∙◌}
use Rattle.run_theory.specs.declared.place.Pos.{Pos}
use Rattle.run_theory.specs.declared.ends.UbKind.{UbKind}
use Rattle.run_theory.specs.Runs.{output_of}
use Rattle.ref_semantics.specs.Store.{TypeEnvironment, State, Outcome, Then, Eval, ◌>>=◌, continue_with, undefined, Premise, premise, unless}
use Rattle.ref_meaning.specs.declared.store.Store.{Store}
use Rattle.ref_meaning.specs.RefStore.Holding.{At, left, EvaluatesTo, IsUndefined, Comes}

-- ---- premises

pub unless-fails : {A : Type 0} (place : Pos) (fails : Bool) (kind : UbKind) (others : List Premise) (rest : Eval A) (state : State) → fails ≡ true
    → unless place (premise fails kind ∷ others) rest state ≡ undefined kind place state
unless-fails place fails kind others rest state e = λ i. (if e i then undefined kind place else unless place others rest) state

pub unless-holds : {A : Type 0} (place : Pos) (fails : Bool) (kind : UbKind) (others : List Premise) (rest : Eval A) (state : State) → fails ≡ false
    → unless place (premise fails kind ∷ others) rest state ≡ unless place others rest state
unless-holds place fails kind others rest state e = λ i. (if e i then undefined kind place else unless place others rest) state

-- ---- one evaluation behind another

bound : {A B : Type 0} (first : Outcome A) (next : A → Eval B) (value : A) (state : State) → first ≡ Then value state → continue_with next first ≡ next value state
bound first next value state e = ap (continue_with next) e

pub does-bind : {A B : Type 0} (first : Eval A) (next : A → Eval B) (s t u : State) (a : A) (b : B) → EvaluatesTo first s a t → EvaluatesTo (next a) t b u → EvaluatesTo (first >>= next) s b u
does-bind first next s t u a b one two = λ units input. ap (continue_with next) (one units input) ∙ two units input

pub undefined-behind : {A B : Type 0} (first : Eval A) (next : A → Eval B) (s t : State) (a : A) (kind : UbKind) (place : Pos) → EvaluatesTo first s a t → output_of t.trace ≡ output_of s.trace → IsUndefined (next a) t kind place
    → IsUndefined (first >>= next) s kind place
undefined-behind first next s t a kind place one quiet two =
    record { there = two.there; is = λ units input. ap (continue_with next) (one units input) ∙ two.is units input; quiet = two.quiet ∙ quiet }

pub undefined-first : {A B : Type 0} (first : Eval A) (next : A → Eval B) (s : State) (kind : UbKind) (place : Pos) → IsUndefined first s kind place → IsUndefined (first >>= next) s kind place
undefined-first first next s kind place one = record { there = one.there; is = λ units input. ap (continue_with next) (one.is units input); quiet = one.quiet }

-- undefined where it stands
pub undefined-here : {A : Type 0} (eval : Eval A) (s : State) (kind : UbKind) (place : Pos) → ((units : ℕ) (input : List ℕ) → eval (left units input s) ≡ undefined kind place (left units input s)) → IsUndefined eval s kind place
undefined-here eval s kind place is = record { there = s; is = is; quiet = refl }

-- a call gives what two evaluations come to, where its parts give what each of them comes to
pub comes-bind : {A B : Type 0} (around : TypeEnvironment) (mid new : Store) (base : ℕ) (first : Eval A) (next : A → Eval B) (s : State) (a : A) (b : B)
    (one : Comes around mid base first s a) → Comes around new base (next a) one.after b → Comes around new base (first >>= next) s b
comes-bind around mid new base first next s a b one two =
    record { after = two.after; does = does-bind first next s one.after two.after a b one.does two.does; at = two.at; quiet = two.quiet ∙ one.quiet }

-- what changes nothing
pub comes-same : {A : Type 0} (around : TypeEnvironment) (store : Store) (base : ℕ) (eval : Eval A) (state : State) (value : A) → EvaluatesTo eval state value state → At around store base state → Comes around store base eval state value
comes-same around store base eval state value does at = record { after = state; does = does; at = at; quiet = refl }
