-- The code of `for`: its start, and a loop in the scope behind that, which is left at the end.
use Rattle.std.proofs.Common.{◌≡◌, ℕ, suc, ◌+◌, ◌≤◌, ◌<◌, inl, inr, Bool, true, ◌&&◌, ◌||◌, if◌then◌else◌, List, [], ◌∷◌, length, Option, Some, None, refl, sym, ap, ◌∙◌, subst, arith}
use Rattle.std.proofs.lemmas.Bool.{and_parts}
use Rattle.c_typed.specs.Types.{CType}
use Rattle.c_typed.specs.Typed as T
use Rattle.c_typed.specs.Typed.{Value, Stmt, ForStart, LocalDef, Program}
use Rattle.c_typed.specs.Context.{Context, with_local}
use Rattle.c_typed.specs.Expressions.{type_of}
use Rattle.c_typed.specs.Statements.{Within, in_loop, if_any, is_expression, is_condition, is_start, is_stmt, with_start, with_locals}
use Rattle.c_typed.specs.Programs.{IsWellTyped}
use Rattle.c_typed.specs.Sizes.{any_makes, start_makes, stmt_makes, is_storable}
use Rattle.ref_semantics.specs.Values as V
use Rattle.ref_semantics.specs.Values.{Scalar}
use Rattle.ref_semantics.specs.Store as S
use Rattle.ref_semantics.specs.Store.{Outcome, Eval, ◌>>=◌, give}
use Rattle.ref_semantics.specs.Meaning as Meaning
use Rattle.ref_semantics.specs.Meaning.{Calls, Completion, Normal, loop, after_body, for_step, leave, scoped, value, stmt, holds, optional_value}
use Rattle.ref_semantics.specs.First.{around_of}
use Rattle.ref_semantics.specs.Sound.{Sound}
use Rattle.ref_semantics.specs.Keeping.{CallsKeep}
use Rattle.ref_semantics.proofs.Storing.{left}
use Rattle.ref_semantics.proofs.StatementsKeep.{stmt_keeps}
use Rattle.tac_ir.specs.Code.{Op, Tac}
use Rattle.tac_ir.specs.Code as O
use Rattle.tac_ir.specs.States.{State}
use Rattle.tac_build.specs.Homes.{Home, Scope, takes_optional, takes_stmt}
use Rattle.tac_build.specs.Spots.{Spot, behind, Dropped}
use Rattle.tac_build.specs.Code.{HasOp}
use Rattle.tac_build.specs.StatementCode.{Ways, LocalsCode, StartCode, StepCode}
use Rattle.tac_build.specs.Forms.{scope_types, context_of}
use Rattle.tac_simulation.specs.Standing.{Placement, Frame}
use Rattle.tac_simulation.proofs.Spotting.{Runs}
use Rattle.tac_simulation.proofs.Evaluating.{ValueDoes}
use Rattle.tac_simulation.proofs.Paths.{Stand, Passage as Passing, Does, comes, stops, start, eased, moved, along, turn, allows, bind}
use Rattle.tac_simulation.proofs.Combining.{ticked}
use Rattle.tac_simulation.proofs.Going.{gone}
use Rattle.tac_simulation.proofs.Widening.{Wider, wider_same, wider_then, wider_behind, have_before, numbered_behind, start_numbered, test_wider, step_wider, stmt_wider}
use Rattle.tac_simulation.proofs.Executing.{optional_units, start_units, stmt_units, left_behind, AreNumbered, Executes, LeavesWithin, Starts}
use Rattle.tac_simulation.proofs.Statements.{some_type, nested, counted}
use Rattle.tac_simulation.proofs.Statements
use Rattle.tac_simulation.proofs.Turns

-- ---- what is in scope behind the start

module _ (program : Program) (points : List Op) where
  locals_types : (scope : Scope) (is_taken : ℕ → Bool) (locals : List LocalDef) (from to : Spot) (inner : Scope) → LocalsCode program points scope is_taken locals from to inner → with_locals locals (context_of program scope) ≡ context_of program inner
  locals_types scope is_taken [] from to inner code = ap (context_of program) (sym code.1)
  locals_types scope is_taken (first ∷ others) from to inner code =
      let own : code.1.c_type ≡ first.c_type = ap (λ (home : Home). home.c_type) code.2.0 in
      ap (λ (t : CType). with_locals others (with_local t (context_of program scope))) (sym own) ∙ locals_types (code.1 ∷ scope) is_taken others code.0 to inner code.3

  pub start_types : (scope : Scope) (is_taken : ℕ → Bool) (begin : ForStart) (from to : Spot) (inner : Scope) → StartCode program points scope is_taken begin from to inner → with_start begin (context_of program scope) ≡ context_of program inner
  start_types scope is_taken T.StartNothing from to inner code = ap (context_of program) (sym code.1)
  start_types scope is_taken (T.StartValue v) from to inner code = ap (context_of program) (sym code.2)
  start_types scope is_taken (T.StartLocals locals) from to inner code = locals_types scope is_taken locals from to inner code

module _ (tac : Tac) (program : Program) (calls : Calls) (worth : ℕ) (points : List Op) (hidden : ℕ → Option V.Content) (frame : Frame)
    (runs : Runs tac program points frame) (well : IsWellTyped program) (keep : CallsKeep program calls)
    (follows : (placement : Placement) (scope : Scope) (tree : Value) → ValueDoes tac program calls worth points placement hidden frame scope tree) where
  abbrev Stays : Placement → Scope → ℕ → S.State → State → Type 0
  Stays placement scope at s t = Statements.Stays tac program calls worth points hidden frame runs well keep follows placement scope at s t

  abbrev Left : Placement → Scope → ℕ → Ways program points → Stand Completion
  Left placement scope onward ways = Statements.Left tac program calls worth points hidden frame runs well keep follows placement scope onward ways

  abbrev Done : Stmt → Type 0
  Done tree = Executes tac program calls worth points hidden frame tree

  -- what is shown where a scope is left
  abbrev pub Closes : Type 0
  Closes =
      (placement : Placement) (scope : Scope) (at : ℕ) (s : S.State) (state : State) → Stays placement scope at s state → (onward : ℕ) (ways : Ways program points) (way : Completion) (s' : S.State) (state' : State)
      → LeavesWithin tac program calls worth points hidden frame s.next_local s.locals placement scope onward ways way s' state' → Sound (context_of program scope) (left (length s.locals) s')
      → Left placement scope onward ways way (left (length s.locals) s') state'

  -- the state behind a statement is sound
  pub soundly : {lag slack : ℕ} (tree : Stmt) (within : Within) (placement : Placement) (scope : Scope) (onward : ℕ) (ways : Ways program points) → is_stmt (context_of program scope) within tree ≡ true → stmt_makes (is_storable program.structs) tree ≡ true
      → (s : S.State) (state : State) → Sound (context_of program scope) s → Does tac worth state s.units lag slack (λ way s' state'. Sound (context_of program scope) s' → Left placement scope onward ways way s' state') (stmt (around_of program) calls tree s)
      → Does tac worth state s.units lag slack (Left placement scope onward ways) (stmt (around_of program) calls tree s)
  soundly {lag} {slack} tree within placement scope onward ways typed small s state sound does = by (stmt (around_of program) calls tree s) refl does
    where
      by : (outcome : Outcome Completion) → stmt (around_of program) calls tree s ≡ outcome → Does tac worth state s.units lag slack (λ way s' state'. Sound (context_of program scope) s' → Left placement scope onward ways way s' state') outcome
          → Does tac worth state s.units lag slack (Left placement scope onward ways) outcome
      by _ e (comes way s' state' p leaves) = comes way s' state' p (leaves (stmt_keeps program well calls keep (scope_types scope) within tree typed small s sound way s' e).0.sound)
      by _ e (stops answer s' a) = stops answer s' a

  -- the step, and the way back to the test
  steps : (own : List ℕ) (placement : Placement) (scope : Scope) (step : Option Value) (from next : Spot) (head onward : ℕ) (ways : Ways program points) → StepCode program points scope step from next → HasOp points next.at (O.Jump head)
      → if_any (is_expression (context_of program scope)) step ≡ true → any_makes (is_storable program.structs) step ≡ true → (start' to : State) (n before lag lag' : ℕ) (way : Option Completion) (s : S.State) → Passing tac worth start' to n s.units 0 16 → s.units < before → s.locals ≡ own
      → optional_units step ≤ lag → lag ≤ lag' → Turns.AfterBody tac program calls worth points hidden frame runs well keep follows placement scope from.at onward ways way s to
      → Does tac worth start' n lag' left_behind (Turns.Turned tac program calls worth points hidden frame runs well keep follows own placement scope onward ways start' n lag head before) (for_step way (optional_value (value (around_of program) calls) step) s)
  steps own placement scope step from next head onward ways code jump typed small start' to n before lag lag' (Some way) s p fewer same enough more after =
      comes (Some way) s to (eased p (omega arith) (omega arith)) (after, same)
  steps own placement scope None from next head onward ways code jump typed small start' to n before lag lag' None s p fewer same enough more after =
      let g = Statements.reaches tac program calls worth points hidden frame runs well keep follows 15 placement scope next.at head s to p (subst (λ (spot : Spot). Stays placement scope spot.at s to) (sym code) after) (inr jump) (omega arith) in
      Turns.turns_on tac program calls worth points hidden frame runs well keep follows {lag = lag} {slack = 10} own placement scope onward ways head before None s (eased g.passing (omega arith) (omega arith)) g.there fewer same (omega arith) more
  steps own placement scope (Some v) from next head onward ways code jump typed small start' to n before lag lag' None s p fewer same enough more after =
      let is = some_type (type_of (context_of program scope) v) typed in
      subst (λ outcome. Does tac worth start' n lag' left_behind (Turns.Turned tac program calls worth points hidden frame runs well keep follows own placement scope onward ways start' n lag head before) outcome)
      (sym (nested (λ a. give None) (value (around_of program) calls v s)))
      (bind {lag' = lag'} {slack' = left_behind} (λ a. give None) (along p (Statements.evaluated tac program calls worth points hidden frame runs well keep follows placement scope v Dropped from next code.0 is.0 code.1 is.1 small s to after)) (omega arith) (λ scalar s' to' p' came.
      let g = Statements.reaches tac program calls worth points hidden frame runs well keep follows 15 placement scope next.at head s' to' p' came.there (inr jump) (omega arith) in
      Turns.turns_on tac program calls worth points hidden frame runs well keep follows {lag = lag} {slack = 10} own placement scope onward ways head before None s' (eased g.passing (omega arith) (omega arith)) g.there
      (let less = came.after.0 in omega (arith, less, fewer)) (came.after.1 ∙ same) (omega arith) more))

  pub fors : Closes → (begin : ForStart) (condition step : Option Value) (body : Stmt) → Starts tac program calls worth points hidden frame begin → Done body → Done (T.For begin condition step body)
  fors closes begin condition step body starts does within placement scope from to ways code typed small numbered objects enough s state at =
      soundly (T.For begin condition step body) within placement scope to.at ways typed small s state at.sound
      (ticked tac program calls worth points placement hidden frame scope runs well keep (scoped (Meaning.start (around_of program) calls begin >>= λ begun. loop one)) from.at s state (start state s.units) at (omega arith) (λ left' p at'.
      bind (λ way. leave way (length s.locals))
      (bind {Stands' = LeavesWithin tac program calls worth points hidden frame s.next_local s.locals placement scope to.at ways} {lag' = units_in_all} {slack' = left_behind} (λ begun. loop one)
      (along p (starts taken placement scope from code.0 inner code.5 start_typed start_small numbered (have_before frame.objects back objects) (record s { units = left' }) state at')) (omega arith) (λ begun s' state' p' begun_at.
      allows (Turns.loops tac program calls worth points hidden frame runs well keep follows s'.locals begun_at.placed inner to.at ways code.0.at lag units_in_all one (turning s'.locals begun_at.placed) (suc s'.units) state s.units s' state'
      (eased p' (omega arith) (omega arith)) begun_at.there refl (omega arith)) (λ way s'' to'' finished. record {
        placed = begun_at.placed;
        more = begun_at.more;
        fresh = begun_at.fresh;
        extends = begun_at.extends;
        own = finished.1 ∙ begun_at.own;
        depth = begun_at.depth;
        left = subst (λ known. Left begun_at.placed known to.at ways way s'' to'') begun_at.inner_is finished.0;
      })))
      (omega arith) (λ way s' state' p' leaves.
      comes way (left (length s.locals) s') state' p' (λ sound. closes placement scope from.at (record s { units = left' }) state at' to.at ways way s' state' leaves sound))))
    where
      taken : ℕ → Bool
      taken number = takes_optional number condition || (takes_optional number step || takes_stmt number body)

      inner : Scope
      inner = code.4

      units_in_all : ℕ
      units_in_all = 1 + start_units begin + optional_units condition + optional_units step + stmt_units body

      lag : ℕ
      lag = 1 + start_units begin + optional_units step

      known : Context
      known = with_start begin (context_of program scope)

      same : known ≡ context_of program inner
      same = start_types program points scope taken begin from code.0 inner code.5

      typed' : (((is_start (context_of program scope) begin && if_any (is_condition known) condition) && if_any (is_expression known) step) ≡ true) × (is_stmt known (in_loop within) body ≡ true)
      typed' = and_parts ((is_start (context_of program scope) begin && if_any (is_condition known) condition) && if_any (is_expression known) step) (is_stmt known (in_loop within) body) typed

      typed'' : ((is_start (context_of program scope) begin && if_any (is_condition known) condition) ≡ true) × (if_any (is_expression known) step ≡ true)
      typed'' = and_parts (is_start (context_of program scope) begin && if_any (is_condition known) condition) (if_any (is_expression known) step) typed'.0

      typed''' : (is_start (context_of program scope) begin ≡ true) × (if_any (is_condition known) condition ≡ true)
      typed''' = and_parts (is_start (context_of program scope) begin) (if_any (is_condition known) condition) typed''.0

      start_typed : is_start (context_of program scope) begin ≡ true
      start_typed = typed'''.0

      tests_typed : if_any (is_condition (context_of program inner)) condition ≡ true
      tests_typed = subst (λ around. if_any (is_condition around) condition ≡ true) same typed'''.1

      steps_typed : if_any (is_expression (context_of program inner)) step ≡ true
      steps_typed = subst (λ around. if_any (is_expression around) step ≡ true) same typed''.1

      body_typed : is_stmt (context_of program inner) (in_loop within) body ≡ true
      body_typed = subst (λ around. is_stmt around (in_loop within) body ≡ true) same typed'.1

      small' : (((start_makes (is_storable program.structs) begin && any_makes (is_storable program.structs) condition) && any_makes (is_storable program.structs) step) ≡ true) × (stmt_makes (is_storable program.structs) body ≡ true)
      small' = and_parts ((start_makes (is_storable program.structs) begin && any_makes (is_storable program.structs) condition) && any_makes (is_storable program.structs) step) (stmt_makes (is_storable program.structs) body) small

      small'' : ((start_makes (is_storable program.structs) begin && any_makes (is_storable program.structs) condition) ≡ true) × (any_makes (is_storable program.structs) step ≡ true)
      small'' = and_parts (start_makes (is_storable program.structs) begin && any_makes (is_storable program.structs) condition) (any_makes (is_storable program.structs) step) small'.0

      small''' : (start_makes (is_storable program.structs) begin ≡ true) × (any_makes (is_storable program.structs) condition ≡ true)
      small''' = and_parts (start_makes (is_storable program.structs) begin) (any_makes (is_storable program.structs) condition) small''.0

      start_small : start_makes (is_storable program.structs) begin ≡ true
      start_small = small'''.0

      inside : Ways program points
      inside = record { broken = code.1.at; continued = suc code.1.at }

      -- from the test to the body
      middle : Wider code.0 (behind code.2)
      middle = wider_behind (behind code.2) refl (wider_then (wider_behind (behind code.1) refl (test_wider program points inner condition code.0 code.1 _ _ code.6)) (step_wider program points inner step (behind code.1) code.2 code.8))

      last : Wider code.3 to
      last = wider_behind to code.11.1 (wider_same code.3)

      back : Wider code.0 to
      back = wider_then middle (wider_then (stmt_wider program points body inner (behind code.2) code.3 inside code.10) last)

      numbers : AreNumbered (behind code.2).counts inner
      numbers = numbered_behind middle inner (start_numbered program points scope taken begin from code.0 inner code.5 numbered)

      first : Eval (Option Completion)
      first = stmt (around_of program) calls body >>= λ way. for_step (after_body way) (optional_value (value (around_of program) calls) step)

      next : Option Scalar → Eval (Option Completion)
      next c = if holds c then first else give (Some Normal)

      one : Eval (Option Completion)
      one = optional_value (value (around_of program) calls) condition >>= next

      turning : (own : List ℕ) (placed : Placement) → Turns.Turning tac program calls worth points hidden frame runs well keep follows own placed inner to.at ways code.0.at lag units_in_all one
      turning own placed from' n here there' p stays same' =
          Statements.tests tac program calls worth points hidden frame runs well keep follows placed inner next first (give (Some Normal)) (λ c e. rw e refl) (λ c e. rw e refl) condition code.0 code.1 (suc code.2.at) code.1.at code.6 tests_typed small'''.1 here there' p stays (omega arith)
          (λ op mid s' p' passes there fewer.
          bind {lag' = units_in_all} {slack' = left_behind} (λ way. for_step (after_body way) (optional_value (value (around_of program) calls) step))
          (turn {slack'' = 17} p' passes (counted (Statements.performed tac program calls worth points hidden frame runs well keep follows body does (in_loop within) placed inner (behind code.2) code.3 inside code.10 body_typed small'.1 numbers
          (have_before frame.objects last objects) (omega arith) s' (gone (suc code.2.at) mid) there))
          (omega arith) (omega arith) (omega arith)) (omega arith)
          (λ way s'' at p'' stands.
          bind (λ turned. for_step turned (optional_value (value (around_of program) calls) step))
          (Turns.body_left tac program calls worth points hidden frame runs well keep follows 16 placed inner code.3.at (suc code.1.at) to.at ways inside (inr code.11.0) (inl refl) (inr code.7) way s'' at p'' stands.0.0 (omega arith)) (omega arith)
          (λ turned s''' state''' p''' after.
          steps own placed inner step (behind code.1) code.2 code.0.at to.at ways code.8 code.9 steps_typed small''.1 from' state''' n here.units lag units_in_all turned s''' p''' (omega (arith, stands.1, after.1.0, fewer.0)) (after.1.1 ∙ stands.0.1.1 ∙ fewer.1 ∙ same')
          (omega arith) (omega arith) after.0)))
          (λ op mid s' p' passes there fewer.
          let g = Statements.reaches tac program calls worth points hidden frame runs well keep follows 8 placed inner code.1.at to.at s' (gone code.1.at mid) (moved 9 p' passes (omega arith)) there (inr code.7) (omega arith) in
          comes (Some Normal) s' g.state (eased g.passing (omega arith) (omega arith)) (g.there, fewer.1 ∙ same'))
