-- Types of literals, and steps that are made one by one.
use Rattle.std.proofs.Common.{◌≡◌, ℕ, zero, suc, ◌+◌, ◌<◌, List, [], ◌∷◌, ◌++◌, map, drop, length, get_or, slice_get, Option, Some, sym, ap, ◌∙◌, append_assoc}
use Rattle.std.proofs.lemmas.List.{map-append, drop_more}
use Rattle.std.proofs.lemmas.Option.{none-some, same_Some}
use Rattle.c_typed.specs.declared.c_type.CType as number
use Rattle.c_typed.specs.declared.definition.LiteralDef.{LiteralDef}
use Rattle.c_typed.specs.Table.{Interned, type_in, structs_in}
use Rattle.c_typed.specs.DefinitionViews.{literal_of, LiteralsStand}
use Rattle.tac_ir.specs.declared.path.Step as memory_step
use Rattle.tac_ir.specs.Views as T
use Rattle.pool_ir.specs.declared.path.Step as pool_step
use Rattle.pool_ir.specs.Code as O
use Rattle.pool_ir.specs.Views as V
use Rattle.pool_rewrite.specs.declared.paths.TypedStep.{TypedStep}
use Rattle.pool_rewrite.specs.Rewriting as R
use Rattle.pool_rewrite.specs.Rewritable.{known_type}
use Rattle.pool_rewrite.specs.Made.{IsTypedStep}

-- the type of a literal is told by its bytes
pub literal_known : (table : Interned) (literals : List LiteralDef) (n : ℕ) (literal : LiteralDef) → LiteralsStand table literals → slice_get literals n ≡ Some literal
    → type_in table literal.c_type ≡ R.type_of_literal (slice_get (map literal_of literals) n)
literal_known table [] n literal stand is = absurd (none-some literal is)
literal_known table (first ∷ others) zero literal stand is = ap (λ (l : LiteralDef). type_in table l.c_type) (sym (same_Some first literal is)) ∙ stand.0.1
literal_known table (first ∷ others) (suc n) literal stand is = literal_known table others n literal stand.1 is

-- one more step
pub steps_further : (table : Interned) (before : Option number.CType) (steps : List memory_step.Step) (n : ℕ) (step : memory_step.Step) (made after : List pool_step.Step) (whole : List O.Step) (next : TypedStep)
    → n < length steps → step ≡ get_or steps n step → after ≡ made ++ next.step ∷ [] → IsTypedStep table (R.step_of (structs_in table) (known_type table before) (T.step_of step)) next
    → map V.step_of made ++ R.steps_of (structs_in table) (known_type table before) (map T.step_of (drop n steps)) ≡ whole
    → map V.step_of after ++ R.steps_of (structs_in table) (known_type table next.c_type) (map T.step_of (drop (n + 1) steps)) ≡ whole
steps_further table before steps n step made after whole next lt is pushed own told =
    let structs = structs_in table in
    let rest : drop n steps ≡ step ∷ drop (n + 1) steps = drop_more steps n step lt ∙ ap (λ s. s ∷ drop (n + 1) steps) (sym is) in
    let others : List O.Step = R.steps_of structs (known_type table next.c_type) (map T.step_of (drop (n + 1) steps)) in
    ap (λ (m : List pool_step.Step). map V.step_of m ++ others) pushed
    ∙ (ap (λ (m : List O.Step). m ++ others) (map-append V.step_of made (next.step ∷ []))
    ∙ (append_assoc (map V.step_of made) (V.step_of next.step ∷ []) others
    ∙ ((λ i. map V.step_of made ++ (own.part i ∷ R.steps_of structs (own.c_type i) (map T.step_of (drop (n + 1) steps))))
    ∙ (ap (λ (s : List memory_step.Step). map V.step_of made ++ R.steps_of structs (known_type table before) (map T.step_of s)) (sym rest) ∙ told))))
