-- A jump over the actions of an edge, which is put in once it is known how many instructions those are.
use Rattle.std.proofs.Common.{◌≡◌, ℕ, ◌+◌, ◌-◌, ◌<◌, ◌==◌, Bool, false, List, [], ◌∷◌, ◌++◌, length, map, refl, sym, ap, ap₂, ◌∙◌, arith, append_assoc, length-append}
use Rattle.std.proofs.lemmas.Bool.{false≢true}
use Rattle.std.proofs.Math.ListN.{set}
use Rattle.std.proofs.Math.Seq.{set-append_seam}
use Rattle.pool_isa.specs.declared.instr.Instr.{Instr}
use Rattle.pool_isa.specs.declared.instr.Instr.TheVariants as instrs
use Rattle.pool_ir.specs.Code.{Action, Make, Destroy, Function}
use Rattle.pool_ir.specs.States.{actions_from}
use Rattle.stack_code.specs.Emitting.{action_code, actions_code, edge_code, way_at_zero}

some_action : (function : Function) (action : Action) → 0 < length (action_code function action)
some_action function (Make descriptor kind) = omega arith
some_action function (Destroy descriptor) = omega arith

-- actions are instructions
pub some_actions : (function : Function) (actions : List Action) → 0 < length actions → 0 < length (actions_code function actions)
some_actions function [] some = absurd (omega arith)
some_actions function (first ∷ others) some = longer (action_code function first) (some_action function first)
  where
    longer : (front : List Instr) → 0 < length front → 0 < length (front ++ actions_code function others)
    longer [] none = absurd (omega arith)
    longer (x ∷ front) more = omega arith

pub over_actions : (place : ℕ → ℕ) (from to front : ℕ) (actions : List Instr) → 0 < length actions
    → way_at_zero place from to front actions ≡ instrs.JumpIfNotZero (place from + (front + (length actions + 2))) ∷ actions ++ instrs.Jump (place to) ∷ []
over_actions place from to front [] some = absurd (omega arith)
over_actions place from to front (x ∷ actions) some = refl

pub patched : (code actions : List Instr) (first last new : Instr) → set (((code ++ first ∷ []) ++ actions) ++ last ∷ []) (length code) new ≡ code ++ (new ∷ actions ++ last ∷ [])
patched code actions first last new =
    ap (λ l. set l (length code) new) (append_assoc (code ++ first ∷ []) actions (last ∷ []) ∙ append_assoc code (first ∷ []) (actions ++ last ∷ []))
    ∙ set-append_seam code first (actions ++ last ∷ []) new

-- the jump over the actions of an edge, once it is put in
pub jumped_over : (place : ℕ → ℕ) (function : Function) (from to front begin behind : ℕ) (actions : List Action) (code first second third : List Instr)
    → 0 < length actions → actions ≡ actions_from function.edges from to → begin ≡ length code → first ≡ code ++ instrs.JumpIfNotZero 0 ∷ [] → second ≡ first ++ actions_code function actions
    → third ≡ second ++ instrs.Jump (place to) ∷ [] → behind ≡ length third
    → set third begin (instrs.JumpIfNotZero (place from + (front + (behind - begin)))) ≡ code ++ way_at_zero place from to front (edge_code function from to)
jumped_over place function from to front begin behind actions code first second third some are begin_is e1 e2 e3 behind_is =
    let own = actions_code function actions in
    let last = instrs.Jump (place to) in
    let whole : third ≡ ((code ++ instrs.JumpIfNotZero 0 ∷ []) ++ own) ++ last ∷ [] = e3 ∙ ap (λ c. c ++ last ∷ []) (e2 ∙ ap (λ c. c ++ own) e1) in
    let long = ap length whole in
    let one = length-append ((code ++ instrs.JumpIfNotZero 0 ∷ []) ++ own) (last ∷ []) in
    let two = length-append (code ++ instrs.JumpIfNotZero 0 ∷ []) own in
    let three = length-append code (instrs.JumpIfNotZero 0 ∷ []) in
    let count : behind - begin ≡ length own + 2 = omega (arith, long, one, two, three) in
    ap₂ (λ (c : List Instr) (b : ℕ). set c b (instrs.JumpIfNotZero (place from + (front + (behind - begin))))) whole begin_is
    ∙ ap (λ n. set (((code ++ instrs.JumpIfNotZero 0 ∷ []) ++ own) ++ last ∷ []) (length code) (instrs.JumpIfNotZero (place from + (front + n)))) count
    ∙ patched code own (instrs.JumpIfNotZero 0) last (instrs.JumpIfNotZero (place from + (front + (length own + 2))))
    ∙ ap (λ w. code ++ w) (sym (over_actions place from to front own (some_actions function actions some)) ∙ ap (λ a. way_at_zero place from to front (actions_code function a)) are)

-- a list that isn't empty has a view that isn't
pub some_left : {A B : Type 0} (view : A → B) (xs : List A) (is_empty : Bool) → is_empty ≡ (length xs == 0) → is_empty ≡ false → 0 < length (map view xs)
some_left view [] is_empty e e' = absurd (false≢true (sym e' ∙ e))
some_left view (x ∷ xs) is_empty e e' = omega arith
