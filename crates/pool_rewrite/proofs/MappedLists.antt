-- Lists that are made of others item by item, and lists of functions that are made of two lists.
use Rattle.std.proofs.Common.{◌≡◌, ℕ, zero, suc, ◌+◌, ◌<◌, ◌≤◌, List, [], ◌∷◌, ◌++◌, map, take, drop, length, get_or, refl, sym, ap, subst, ◌∙◌, append_assoc, arith}
use Rattle.std.proofs.lemmas.List.{map-append, drop_more, drop_all}
use Rattle.c_typed.specs.Table.{Interned}
use Rattle.tac_ir.specs.declared.program.Function as memory_function
use Rattle.tac_ir.specs.Code as C
use Rattle.tac_ir.specs.Views.{function_in}
use Rattle.pool_ir.specs.declared.program.Function as pool_function
use Rattle.pool_ir.specs.Code as O
use Rattle.pool_ir.specs.Views as V
use Rattle.pool_rewrite.specs.declared.plan.FunctionPlan as memory_plan
use Rattle.pool_rewrite.specs.Plan.{FunctionPlan}
use Rattle.pool_rewrite.specs.Views.{function_plan_of}
use Rattle.pool_rewrite.specs.Rewriting as R
use Rattle.pool_rewrite.specs.Rewritable.{FrameFits, FramesFit}
use Rattle.pool_rewrite.proofs.Taken.{taken_next}

-- one more item was made of what the next one stands for
pub mapped_twice_next : {A B C D : Type 0} → (f : A → D) (g : C → D) (h : B → C) (made after : List A) (own : A) (items : List B) (n : ℕ) (item : B) → after ≡ made ++ own ∷ [] → f own ≡ g (h item)
    → n < length items → item ≡ get_or items n item → map f made ≡ map g (map h (take n items)) → map f after ≡ map g (map h (take (n + 1) items))
mapped_twice_next f g h made after own items n item pushed same lt is before =
    ap (map f) pushed ∙ (map-append f made (own ∷ []) ∙ ((λ i. before i ++ same i ∷ []) ∙ (sym (map-append g (map h (take n items)) (h item ∷ []))
    ∙ (ap (map g) (sym (map-append h (take n items) (item ∷ []))) ∙ ap (λ taken. map g (map h taken)) (sym (taken_next items n item lt is))))))

-- ---- functions, each with its plan

pub fit_at : (table : Interned) (plans : List memory_plan.FunctionPlan) (functions : List memory_function.Function) (n : ℕ) (plan : memory_plan.FunctionPlan) (function : memory_function.Function)
    → FramesFit table plans functions → n < length plans → n < length functions → plan ≡ get_or plans n plan → function ≡ get_or functions n function → FrameFits table (function_plan_of plan) function
fit_at table [] functions n plan function fit lt lt' is is' = absurd (omega (arith, lt))
fit_at table (first ∷ plans) [] n plan function fit lt lt' is is' = absurd (omega (arith, lt'))
fit_at table (first ∷ plans) (first' ∷ functions) zero plan function fit lt lt' is is' =
    subst (λ (p : memory_plan.FunctionPlan). FrameFits table (function_plan_of p) function) (sym is) (subst (λ (f : memory_function.Function). FrameFits table (function_plan_of first) f) (sym is') fit.0)
fit_at table (first ∷ plans) (first' ∷ functions) (suc n) plan function fit lt lt' is is' = fit_at table plans functions n plan function fit.1 (omega (arith, lt)) (omega (arith, lt')) is is'

-- without a function or a plan there is none
no_function : (tac : C.Tac) (plans : List FunctionPlan) → R.functions_of tac plans [] ≡ []
no_function tac [] = refl
no_function tac (plan ∷ plans) = refl

pub functions_past : (tac : C.Tac) (table : Interned) (plans : List memory_plan.FunctionPlan) (functions : List memory_function.Function) (n : ℕ) → length functions ≤ n
    → R.functions_of tac (map function_plan_of (drop n plans)) (map (function_in table) (drop n functions)) ≡ []
functions_past tac table plans functions n le =
    ap (λ others. R.functions_of tac (map function_plan_of (drop n plans)) (map (function_in table) others)) (drop_all n functions le) ∙ no_function tac (map function_plan_of (drop n plans))

pub plans_past : (tac : C.Tac) (table : Interned) (plans : List memory_plan.FunctionPlan) (functions : List memory_function.Function) (n : ℕ) → length plans ≤ n
    → R.functions_of tac (map function_plan_of (drop n plans)) (map (function_in table) (drop n functions)) ≡ []
plans_past tac table plans functions n le = ap (λ others. R.functions_of tac (map function_plan_of others) (map (function_in table) (drop n functions))) (drop_all n plans le)

-- one more function
pub functions_further : (tac : C.Tac) (table : Interned) (plans : List memory_plan.FunctionPlan) (functions : List memory_function.Function) (n : ℕ) (plan : memory_plan.FunctionPlan) (function : memory_function.Function)
    (made after : List pool_function.Function) (own : pool_function.Function) (whole : List O.Function) → n < length plans → n < length functions → plan ≡ get_or plans n plan → function ≡ get_or functions n function
    → after ≡ made ++ own ∷ [] → V.function_of own ≡ R.function_of tac (function_plan_of plan) (function_in table function)
    → map V.function_of made ++ R.functions_of tac (map function_plan_of (drop n plans)) (map (function_in table) (drop n functions)) ≡ whole
    → map V.function_of after ++ R.functions_of tac (map function_plan_of (drop (n + 1) plans)) (map (function_in table) (drop (n + 1) functions)) ≡ whole
functions_further tac table plans functions n plan function made after own whole lt lt' is is' pushed same told =
    let rest : drop n plans ≡ plan ∷ drop (n + 1) plans = drop_more plans n plan lt ∙ ap (λ p. p ∷ drop (n + 1) plans) (sym is) in
    let rest' : drop n functions ≡ function ∷ drop (n + 1) functions = drop_more functions n function lt' ∙ ap (λ f. f ∷ drop (n + 1) functions) (sym is') in
    let others : List O.Function = R.functions_of tac (map function_plan_of (drop (n + 1) plans)) (map (function_in table) (drop (n + 1) functions)) in
    ap (λ (m : List pool_function.Function). map V.function_of m ++ others) pushed
    ∙ (ap (λ (m : List O.Function). m ++ others) (map-append V.function_of made (own ∷ []))
    ∙ (append_assoc (map V.function_of made) (V.function_of own ∷ []) others
    ∙ ((λ i. map V.function_of made ++ (same i ∷ others))
    ∙ ((λ i. map V.function_of made ++ R.functions_of tac (map function_plan_of (sym rest i)) (map (function_in table) (sym rest' i))) ∙ told))))
