-- The code of loops. A turn spends a unit at least, and the branch of its condition pays for the units of the turn.
use Rattle.std.proofs.Common.{◌≡◌, ℕ, zero, suc, ◌+◌, ◌≤◌, ◌<◌, ◌⊎◌, inl, inr, true, if◌then◌else◌, List, Option, Some, None, refl, ◌∙◌, arith}
use Rattle.std.proofs.lemmas.Bool.{and_parts}
use Rattle.run_theory.proofs.Machines.{leads_compose}
use Rattle.c_typed.specs.Typed as T
use Rattle.c_typed.specs.Typed.{Value, Stmt, Program}
use Rattle.c_typed.specs.Statements.{in_loop, is_condition, is_stmt}
use Rattle.c_typed.specs.Programs.{IsWellTyped}
use Rattle.c_typed.specs.Sizes.{makes, stmt_makes, is_storable}
use Rattle.ref_semantics.specs.Values as V
use Rattle.ref_semantics.specs.Values.{Scalar}
use Rattle.ref_semantics.specs.Store as S
use Rattle.ref_semantics.specs.Store.{Then, Eval, ◌>>=◌, give}
use Rattle.ref_semantics.specs.Meaning.{Calls, Completion, Normal, Break, Continue, Return, way_or, turns, loop, after_body, do_condition, value, stmt, is_true}
use Rattle.ref_semantics.specs.First.{around_of}
use Rattle.ref_semantics.specs.Keeping.{CallsKeep}
use Rattle.tac_ir.specs.Code.{Op, Tac}
use Rattle.tac_ir.specs.Code as O
use Rattle.tac_ir.specs.Costs.{more_cost}
use Rattle.tac_ir.specs.States.{State}
use Rattle.tac_ir.specs.Meaning.{act}
use Rattle.tac_build.specs.Homes.{Scope}
use Rattle.tac_build.specs.Spots.{behind}
use Rattle.tac_build.specs.Code.{HasOp}
use Rattle.tac_build.specs.StatementCode.{Ways}
use Rattle.tac_build.specs.Forms.{context_of}
use Rattle.tac_simulation.specs.Standing.{Placement, Frame}
use Rattle.tac_simulation.proofs.Spotting.{Runs}
use Rattle.tac_simulation.proofs.Evaluating.{ValueDoes, value_units}
use Rattle.tac_simulation.proofs.Paths.{Stand, Passage as Passing, Passes, Does, comes, start, eased, moved, along, turn, allows, bind, passing}
use Rattle.tac_simulation.proofs.Combining.{ticked}
use Rattle.tac_simulation.proofs.Going.{gone}
use Rattle.tac_simulation.proofs.Widening.{Wider, wider_same, wider_behind, have_before, numbered_behind, branch_wider}
use Rattle.tac_simulation.proofs.Executing.{stmt_units, left_behind, Executes}
use Rattle.tac_simulation.proofs.Statements.{After, counted, ends_with}
use Rattle.tac_simulation.proofs.Statements

module _ {tac : Tac} {worth : ℕ} where
  -- one point more, which pays for the lag
  pub paid_by : {op : Op} {from mid to : State} {n left lag slack : ℕ} (slack' : ℕ) → Passing tac worth from mid n left lag slack → Passes tac op mid to → lag ≤ worth → slack' + more_cost op < slack → Passing tac worth from to n left 0 slack'
  paid_by {op} {from} {mid} {to} slack' p passes most less = record {
    took = p.took + (more_cost op + 1);
    leads = leads_compose (act tac) from mid to p.took (more_cost op + 1) (p.took + (more_cost op + 1)) refl p.leads (passing passes);
    allowed = omega (arith, p.allowed);
    covered = omega (arith, p.covered);
  }

-- what is left where a turn begins
abbrev pub at_head : ℕ
at_head = 10

module _ (tac : Tac) (program : Program) (calls : Calls) (worth : ℕ) (points : List Op) (hidden : ℕ → Option V.Content) (frame : Frame)
    (runs : Runs tac program points frame) (well : IsWellTyped program) (keep : CallsKeep program calls)
    (follows : (placement : Placement) (scope : Scope) (tree : Value) → ValueDoes tac program calls worth points placement hidden frame scope tree) where
  abbrev Stays : Placement → Scope → ℕ → S.State → State → Type 0
  Stays placement scope at s t = Statements.Stays tac program calls worth points hidden frame runs well keep follows placement scope at s t

  abbrev Left : Placement → Scope → ℕ → Ways program points → Stand Completion
  Left placement scope onward ways = Statements.Left tac program calls worth points hidden frame runs well keep follows placement scope onward ways

  abbrev Done : Stmt → Type 0
  Done tree = Executes tac program calls worth points hidden frame tree

  abbrev Leading : ℕ → ℕ → Type 0
  Leading at to = (at ≡ to) ⊎ HasOp points at (O.Jump to)

  -- what the body of a loop leaves: the code is where the turn goes on, or the loop ends
  abbrev pub AfterBody : Placement → Scope → ℕ → ℕ → Ways program points → Stand (Option Completion)
  AfterBody placement scope next onward ways None s state = Stays placement scope next s state
  AfterBody placement scope next onward ways (Some way) s state = Left placement scope onward ways way s state

  pub body_left : {from : State} {n lag slack : ℕ} (slack' : ℕ) (placement : Placement) (scope : Scope) (last next onward : ℕ) (ways inside : Ways program points) → Leading last next → Leading inside.continued next → Leading inside.broken onward
      → (way : Completion) (s : S.State) (state : State) → Passing tac worth from state n s.units lag slack → Left placement scope last inside way s state → slack' < slack
      → Does tac worth from n lag slack' (λ way s' to. AfterBody placement scope next onward ways way s' to × After s s') (Then (after_body way) s)
  body_left slack' placement scope last next onward ways inside normal again out Normal s state p leaves less =
      let g = Statements.reaches tac program calls worth points hidden frame runs well keep follows slack' placement scope last next s state p leaves normal less in
      comes None s g.state g.passing (g.there, (omega arith, refl))
  body_left slack' placement scope last next onward ways inside normal again out Continue s state p leaves less =
      let g = Statements.reaches tac program calls worth points hidden frame runs well keep follows slack' placement scope inside.continued next s state p leaves again less in
      comes None s g.state g.passing (g.there, (omega arith, refl))
  body_left slack' placement scope last next onward ways inside normal again out Break s state p leaves less =
      let g = Statements.reaches tac program calls worth points hidden frame runs well keep follows slack' placement scope inside.broken onward s state p leaves out less in
      comes (Some Normal) s g.state g.passing (g.there, (omega arith, refl))
  body_left slack' placement scope last next onward ways inside normal again out (Return given) s state p leaves less = comes (Some (Return given)) s state (eased p (omega arith) (omega arith)) (leaves, (omega arith, refl))

  -- the loop has ended
  abbrev pub Finished : List ℕ → Placement → Scope → ℕ → Ways program points → Stand Completion
  Finished own placement scope onward ways way s state = Left placement scope onward ways way s state × (s.locals ≡ own)

  -- Behind a turn the code is at the head of the loop again, and fewer units are left, or the loop has ended.
  abbrev pub Turned : List ℕ → Placement → Scope → ℕ → Ways program points → State → ℕ → ℕ → ℕ → ℕ → Stand (Option Completion)
  Turned own placement scope onward ways from n lag head before None s state = Passing tac worth from state n s.units lag at_head × (s.units < before) × Stays placement scope head s state × (s.locals ≡ own)
  Turned own placement scope onward ways from n lag head before (Some way) s state = Left placement scope onward ways way s state × (s.locals ≡ own)

  abbrev pub Turning : List ℕ → Placement → Scope → ℕ → Ways program points → ℕ → ℕ → ℕ → Eval (Option Completion) → Type 0
  Turning own placement scope onward ways head lag lag' one =
      (from : State) (n : ℕ) (s : S.State) (state : State) → Passing tac worth from state n s.units lag at_head → Stays placement scope head s state → s.locals ≡ own
      → Does tac worth from n lag' left_behind (Turned own placement scope onward ways from n lag head s.units) (one s)

  turned : {from to : State} {n lag lag' : ℕ} (own : List ℕ) (placement : Placement) (scope : Scope) (onward : ℕ) (ways : Ways program points) (head before : ℕ) (rest : Eval Completion) (way : Option Completion) (s : S.State)
      → Passing tac worth from to n s.units lag' left_behind → Turned own placement scope onward ways from n lag head before way s to
      → (Passing tac worth from to n s.units lag at_head → s.units < before → Stays placement scope head s to → s.locals ≡ own → Does tac worth from n lag' left_behind (Finished own placement scope onward ways) (rest s))
      → Does tac worth from n lag' left_behind (Finished own placement scope onward ways) (way_or way rest s)
  turned own placement scope onward ways head before rest None s p stands again = again stands.0 stands.1 stands.2 stands.3
  turned own placement scope onward ways head before rest (Some way) s p stands again = comes way s _ p stands

  pub loops : (own : List ℕ) (placement : Placement) (scope : Scope) (onward : ℕ) (ways : Ways program points) (head lag lag' : ℕ) (one : Eval (Option Completion)) → Turning own placement scope onward ways head lag lag' one → (times : ℕ)
      → (from : State) (n : ℕ) (s : S.State) (state : State) → Passing tac worth from state n s.units lag at_head → Stays placement scope head s state → s.locals ≡ own → s.units < times
      → Does tac worth from n lag' left_behind (Finished own placement scope onward ways) (turns one times s)
  loops own placement scope onward ways head lag lag' one turning zero from n s state p stays same fewer = absurd (omega arith)
  loops own placement scope onward ways head lag lag' one turning (suc times) from n s state p stays same fewer =
      bind (λ way. way_or way (turns one times)) (turning from n s state p stays same) (omega arith) (λ way s' to p' stands.
      turned {lag = lag} own placement scope onward ways head s.units (turns one times) way s' p' stands (λ p'' fewer' stays' same'.
      loops own placement scope onward ways head lag lag' one turning times from n s' to p'' stays' same' (omega arith)))

  -- a turn whose end is at the head
  pub turns_on : {from to : State} {n lag lag' slack : ℕ} (own : List ℕ) (placement : Placement) (scope : Scope) (onward : ℕ) (ways : Ways program points) (head before : ℕ) (way : Option Completion) (s : S.State)
      → Passing tac worth from to n s.units lag slack → AfterBody placement scope head onward ways way s to → s.units < before → s.locals ≡ own → at_head ≤ slack → lag ≤ lag'
      → Does tac worth from n lag' left_behind (Turned own placement scope onward ways from n lag head before) (Then way s)
  turns_on own placement scope onward ways head before None s p after fewer same some more = comes None s _ (eased p more (omega arith)) (eased p (omega arith) some, fewer, after, same)
  turns_on own placement scope onward ways head before (Some way) s p after fewer same some more = comes (Some way) s _ (eased p more (omega arith)) (after, same)

  pub whiles : (condition : Value) (body : Stmt) → Done body → Done (T.While condition body)
  whiles condition body does within placement scope from to ways code typed small numbered objects enough s state at =
      ticked tac program calls worth points placement hidden frame scope runs well keep (loop one) from.at s state (start state s.units) at (omega arith) (λ left p at'.
      allows (loops s.locals placement scope to.at ways from.at 1 (1 + value_units condition + stmt_units body) one turning (suc left) state s.units (record s { units = left }) state (eased p (omega arith) (omega arith)) at' refl (omega arith)) (λ way s' to leaves. leaves.0))
    where
      parts : (is_condition (context_of program scope) condition ≡ true) × (is_stmt (context_of program scope) (in_loop within) body ≡ true)
      parts = and_parts (is_condition (context_of program scope) condition) (is_stmt (context_of program scope) (in_loop within) body) typed

      sizes : (makes (is_storable program.structs) condition ≡ true) × (stmt_makes (is_storable program.structs) body ≡ true)
      sizes = and_parts (makes (is_storable program.structs) condition) (stmt_makes (is_storable program.structs) body) small

      first : Eval (Option Completion)
      first = stmt (around_of program) calls body >>= λ way. give (after_body way)

      next : Scalar → Eval (Option Completion)
      next c = if is_true c then first else give (Some Normal)

      one : Eval (Option Completion)
      one = value (around_of program) calls condition >>= next

      inside : Ways program points
      inside = record { broken = code.0.at; continued = from.at }

      front : Wider from (behind code.0)
      front = wider_behind (behind code.0) refl (branch_wider program points scope condition from code.0 _ _ code.2)

      back : Wider code.1 to
      back = wider_behind to code.5.1 (wider_same code.1)

      turning : Turning s.locals placement scope to.at ways from.at 1 (1 + value_units condition + stmt_units body) one
      turning from' n here there' p stays same =
          Statements.conditions tac program calls worth points hidden frame runs well keep follows placement scope next first (give (Some Normal)) (λ z e. rw e refl) (λ z e. rw e refl) condition from code.0 (suc code.0.at) code.0.at code.2 parts.0 sizes.0 here there' p stays (omega arith)
          (λ op mid s' p' passes there fewer.
          bind {lag' = 1 + value_units condition + stmt_units body} {slack' = left_behind} (λ way. give (after_body way))
          (turn {slack'' = 16} p' passes (counted (Statements.performed tac program calls worth points hidden frame runs well keep follows body does (in_loop within) placement scope (behind code.0) code.1 inside code.4 parts.1 sizes.1 (numbered_behind front scope numbered) (have_before frame.objects back objects) (omega arith) s' (gone (suc code.0.at) mid) there))
          (omega arith) (omega arith) (omega arith)) (omega arith)
          (λ way s'' at p'' stands.
          ends_with (body_left 15 placement scope code.1.at from.at to.at ways inside (inr code.5.0) (inl refl) (inr code.3) way s'' at p'' stands.0.0 (omega arith)) (omega arith) (λ turned' s''' state''' p''' after.
          turns_on {lag = 1} {slack = 15} s.locals placement scope to.at ways from.at here.units turned' s''' (eased p''' (omega arith) (omega arith)) after.0 (omega (arith, stands.1, after.1.0, fewer.0)) (after.1.1 ∙ stands.0.1.1 ∙ fewer.1 ∙ same) (omega arith) (omega arith))))
          (λ op mid s' p' passes there fewer.
          let g = Statements.reaches tac program calls worth points hidden frame runs well keep follows 8 placement scope code.0.at to.at s' (gone code.0.at mid) (moved 9 p' passes (omega arith)) there (inr code.3) (omega arith) in
          comes (Some Normal) s' g.state (eased g.passing (omega arith) (omega arith)) (g.there, fewer.1 ∙ same))

  pub do_whiles : (body : Stmt) (condition : Value) → Done body → Done (T.DoWhile body condition)
  do_whiles body condition does within placement scope from to ways code typed small numbered objects enough s state at =
      ticked tac program calls worth points placement hidden frame scope runs well keep (loop one) from.at s state (start state s.units) at (omega arith) (λ left p at'.
      let g = Statements.reaches tac program calls worth points hidden frame runs well keep follows 15 placement scope from.at (suc (suc (suc from.at))) (record s { units = left }) state p at' (inr code.1) (omega arith) in
      allows (loops s.locals placement scope to.at ways (suc (suc (suc from.at))) 1 (1 + stmt_units body + value_units condition) one turning (suc left) state s.units (record s { units = left }) g.state
      (eased g.passing (omega arith) (omega arith)) g.there refl (omega arith)) (λ way s' to leaves. leaves.0))
    where
      parts : (is_stmt (context_of program scope) (in_loop within) body ≡ true) × (is_condition (context_of program scope) condition ≡ true)
      parts = and_parts (is_stmt (context_of program scope) (in_loop within) body) (is_condition (context_of program scope) condition) typed

      sizes : (stmt_makes (is_storable program.structs) body ≡ true) × (makes (is_storable program.structs) condition ≡ true)
      sizes = and_parts (stmt_makes (is_storable program.structs) body) (makes (is_storable program.structs) condition) small

      next : Scalar → Eval (Option Completion)
      next c = give (if is_true c then None else Some Normal)

      one : Eval (Option Completion)
      one = stmt (around_of program) calls body >>= λ way. do_condition (after_body way) (value (around_of program) calls condition)

      inside : Ways program points
      inside = record { broken = suc from.at; continued = suc (suc from.at) }

      front : Wider from (behind (behind (behind from)))
      front = wider_behind (behind (behind (behind from))) refl (wider_behind (behind (behind from)) refl (wider_behind (behind from) refl (wider_same from)))

      back : Wider code.0 to
      back = branch_wider program points scope condition code.0 to _ _ code.5

      checks : (from' to' : State) (n before : ℕ) (way : Option Completion) (here : S.State) → Passing tac worth from' to' n here.units (1 + stmt_units body) 16 → here.units < before → here.locals ≡ s.locals → AfterBody placement scope code.0.at to.at ways way here to'
          → Does tac worth from' n (1 + stmt_units body + value_units condition) left_behind (Turned s.locals placement scope to.at ways from' n 1 (suc (suc (suc from.at))) before) (do_condition way (value (around_of program) calls condition) here)
      checks from' to' n before None here p fewer same after =
          Statements.conditions tac program calls worth points hidden frame runs well keep follows placement scope next (give None) (give (Some Normal)) (λ z e. rw e refl) (λ z e. rw e refl) condition code.0 to (suc (suc (suc from.at))) (suc from.at) code.5 parts.1 sizes.1 here to' p after (omega arith)
          (λ op mid s' p' passes there fewer'.
          turns_on {lag = 1} {slack = 10} s.locals placement scope to.at ways (suc (suc (suc from.at))) before None s' (eased (paid_by 10 p' passes (omega arith) (omega arith)) (omega arith) (omega arith)) there (omega (arith, fewer'.0)) (fewer'.1 ∙ same) (omega arith) (omega arith))
          (λ op mid s' p' passes there fewer'.
          let g = Statements.reaches tac program calls worth points hidden frame runs well keep follows 8 placement scope (suc from.at) to.at s' (gone (suc from.at) mid) (moved 9 p' passes (omega arith)) there (inr code.2) (omega arith) in
          comes (Some Normal) s' g.state (eased g.passing (omega arith) (omega arith)) (g.there, fewer'.1 ∙ same))
      checks from' to' n before (Some way) here p fewer same after = comes (Some way) here to' (eased p (omega arith) (omega arith)) (after, same)

      turning : Turning s.locals placement scope to.at ways (suc (suc (suc from.at))) 1 (1 + stmt_units body + value_units condition) one
      turning from' n here there' p stays same =
          bind (λ way. do_condition (after_body way) (value (around_of program) calls condition))
          (along p (counted (Statements.performed tac program calls worth points hidden frame runs well keep follows body does (in_loop within) placement scope (behind (behind (behind from))) code.0 inside code.4 parts.0 sizes.0 (numbered_behind front scope numbered)
          (have_before frame.objects back objects) (omega arith) here there' stays))) (omega arith)
          (λ way s' to' p' stands.
          bind (λ turned. do_condition turned (value (around_of program) calls condition)) (body_left 16 placement scope code.0.at code.0.at to.at ways inside (inl refl) (inr code.3) (inr code.2) way s' to' p' stands.0.0 (omega arith)) (omega arith)
          (λ turned s'' to'' p'' after.
          checks from' to'' n here.units turned s'' p'' (omega (arith, stands.1, after.1.0)) (after.1.1 ∙ stands.0.1.1 ∙ same) after.0))
