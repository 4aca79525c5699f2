-- The code of statements that have no statements as parts, of conditions with their branches, and of `if`.
use Rattle.std.proofs.Common.{◌≡◌, ℕ, suc, ◌+◌, ◌*◌, ◌≤◌, ◌<◌, ◌⊎◌, inl, inr, Bool, true, false, not, ◌&&◌, if◌then◌else◌, List, Option, Some, None, is_some, ℤ, refl, sym, ap, ◌∙◌, subst, arith}
use Rattle.std.proofs.lemmas.Bool.{and_parts, false≢true}
use Rattle.run_theory.proofs.Machines.{leads_compose}
use Rattle.c_num.specs.declared.IntType.{IntType}
use Rattle.c_num.specs.Types.{is_value}
use Rattle.c_typed.specs.Types.{CType, is_integer}
use Rattle.c_typed.specs.Typed as T
use Rattle.c_typed.specs.Typed.{Value, Stmt, Program}
use Rattle.c_typed.specs.Values.{not_zero}
use Rattle.c_typed.specs.Expressions.{type_of, is_scalar}
use Rattle.c_typed.specs.Statements.{Within, holds_for, if_any, is_condition, is_stmt}
use Rattle.c_typed.specs.Programs.{IsWellTyped}
use Rattle.c_typed.specs.Sizes.{makes, any_makes, stmt_makes, is_storable}
use Rattle.ref_semantics.specs.Values as V
use Rattle.ref_semantics.specs.Values.{Scalar, IntegerValue}
use Rattle.ref_semantics.specs.Store as S
use Rattle.ref_semantics.specs.Store.{Outcome, Then, Eval, ◌>>=◌, continue_with, give}
use Rattle.ref_semantics.specs.Meaning.{Calls, Completion, Normal, Break, Continue, Return, value, stmt, is_true, holds, optional_value}
use Rattle.ref_semantics.specs.First.{around_of}
use Rattle.ref_semantics.specs.Sound.{HasType}
use Rattle.ref_semantics.specs.Keeping.{CallsKeep}
use Rattle.ref_semantics.proofs.ValuesKeep.{value_keeps}
use Rattle.ref_semantics.proofs.StatementsKeep.{stmt_keeps}
use Rattle.tac_ir.specs.Code.{Op, Operand, Tac, Tree, IntegerOperand, PointerOperand}
use Rattle.tac_ir.specs.Code as O
use Rattle.tac_ir.specs.Values as M
use Rattle.tac_ir.specs.Costs.{more_cost}
use Rattle.tac_ir.specs.Calls.{leave}
use Rattle.tac_ir.specs.States.{State, go_to}
use Rattle.tac_ir.specs.Meaning.{execute, act}
use Rattle.tac_ir.specs.Trees.{computes, tree_nodes, is_zero}
use Rattle.tac_ir.proofs.Paying.{with_paid, paying}
use Rattle.tac_build.specs.Homes.{Scope}
use Rattle.tac_build.specs.Spots.{Spot, behind, Lowered, AsInteger, AsPointer, AsObject, AsNothing, Mode, Kept, Dropped}
use Rattle.tac_build.specs.Code.{HasOp, ValueCode}
use Rattle.tac_build.specs.StatementCode.{Ways, BranchCode, TestCode, StmtCode, ReturnCode}
use Rattle.tac_build.specs.Forms.{context_of, scope_types}
use Rattle.tac_simulation.specs.Comparing.{ticks_per_unit}
use Rattle.tac_simulation.specs.Standing.{Placement, Frame, At, surroundings, LoweredStands}
use Rattle.tac_simulation.proofs.Spotting.{Runs, before_at, around_is}
use Rattle.tac_simulation.proofs.Evaluating.{ValueDoes, ComesToValue, Stood, value_units, laid_by, left_for}
use Rattle.tac_simulation.proofs.Paths.{Stand, Passage as Passing, Passes, Does, comes, stops, start, eased, stepped, moved, along, eases, bind}
use Rattle.tac_simulation.proofs.Combining.{ticked}
use Rattle.tac_build.proofs.Forms.{value_form}
use Rattle.tac_simulation.proofs.Going.{gone, at_gone, jumps}
use Rattle.tac_simulation.proofs.Integers.{integer_fits}
use Rattle.tac_simulation.proofs.Widening.{Wider, wider_same, wider_then, wider_behind, have_before, numbered_behind, branch_wider, stmt_wider}
use Rattle.tac_simulation.proofs.Executing.{optional_units, stmt_units, left_behind, AreNumbered, HaveObjects, StaysAt, GivesBack, Leaves, Executes}

-- a type that is there
pub some_type : (option : Option CType) → is_some option ≡ true → (t : CType) × (option ≡ Some t)
some_type (Some t) is = (t, refl)
some_type None is = absurd (false≢true is)

pub held_type : (test : CType → Bool) (option : Option CType) → holds_for test option ≡ true → (t : CType) × (option ≡ Some t) × (test t ≡ true)
held_type test (Some t) is = (t, refl, is)
held_type test None is = absurd (false≢true is)

-- no more units are left, and the same locals are in scope
abbrev pub After : S.State → S.State → Type 0
After before after = (after.units ≤ before.units) × (after.locals ≡ before.locals)

-- an optional value that is there
pub nested : {B : Type 0} (next : Option Scalar → Eval B) (outcome : Outcome Scalar) → continue_with next (continue_with (λ a. give (Some a)) outcome) ≡ continue_with (λ a. next (Some a)) outcome
nested next (Then a s) = refl
nested next (S.Stopped answer s) = refl

module _ {tac : Tac} {worth : ℕ} where
  -- the units left are fewer by what the slack tells
  pub counted : {A : Type 0} {Stands : Stand A} {from : State} {n lag slack : ℕ} {outcome : Outcome A}
      → Does tac worth from n lag slack Stands outcome → Does tac worth from n lag slack (λ value s to. Stands value s to × (slack + ticks_per_unit * s.units ≤ ticks_per_unit * n)) outcome
  counted (comes value s to p stands) = comes value s to p (stands, omega (arith, p.allowed))
  counted (stops answer s a) = stops answer s a

  -- an evaluation is at its end, and the code goes on
  pub ends_with : {A : Type 0} {Stands Stands' : Stand A} {from : State} {n lag lag' slack slack' : ℕ} {outcome : Outcome A} → Does tac worth from n lag slack Stands outcome → lag ≤ lag'
      → ((a : A) (s : S.State) (state : State) → Passing tac worth from state n s.units lag slack → Stands a s state → Does tac worth from n lag' slack' Stands' (Then a s)) → Does tac worth from n lag' slack' Stands' outcome
  ends_with (comes a s state p stands) more rest = rest a s state p stands
  ends_with {A} {Stands} {Stands'} {from} {n} {lag} {lag'} {slack} {slack'} (stops answer s a) more rest = let same : Does tac worth from n lag slack' Stands' (S.Stopped answer s) = stops answer s a in eases same more (omega arith)

module _ (tac : Tac) (program : Program) (calls : Calls) (worth : ℕ) (points : List Op) (hidden : ℕ → Option V.Content) (frame : Frame)
    (runs : Runs tac program points frame) (well : IsWellTyped program) (keep : CallsKeep program calls)
    (follows : (placement : Placement) (scope : Scope) (tree : Value) → ValueDoes tac program calls worth points placement hidden frame scope tree) where
  abbrev pub Stays : Placement → Scope → ℕ → S.State → State → Type 0
  Stays placement scope at s t = StaysAt tac program calls worth points hidden frame placement scope at s t

  abbrev pub Left : Placement → Scope → ℕ → Ways program points → Stand Completion
  Left placement scope onward ways = Leaves tac program calls worth points hidden frame placement scope onward ways

  abbrev pub Done : Stmt → Type 0
  Done tree = Executes tac program calls worth points hidden frame tree

  -- ---- expressions

  pub record Valued (placement : Placement) (scope : Scope) (mode : Mode) (from to : Spot) (lowered : Lowered) (t : CType) (s : S.State) (scalar : Scalar) (s' : S.State) (state' : State) : Type 0 where
    pub there : Stays placement scope to.at s' state'
    pub stands : Stood mode (LoweredStands program mode frame placement s'.objects state'.running.registers lowered scalar)
    pub typed : HasType program s' t scalar
    pub after : After s s'

  pub evaluated : (placement : Placement) (scope : Scope) (tree : Value) (mode : Mode) (from to : Spot) (lowered : Lowered) (t : CType) → ValueCode program points scope mode tree from to lowered
      → type_of (context_of program scope) tree ≡ Some t → makes (is_storable program.structs) tree ≡ true → (s : S.State) (state : State) → Stays placement scope from.at s state
      → Does tac worth state s.units (value_units tree) (laid_by lowered + left_for tree) (Valued placement scope mode from to lowered t s) (value (around_of program) calls tree s)
  evaluated placement scope tree mode from to lowered t code typed small s state at =
      by (value (around_of program) calls tree s) refl (follows placement scope tree mode from to lowered t code typed small state s.units 0 0 s state (start state s.units) at)
    where
      by : (outcome : Outcome Scalar) → value (around_of program) calls tree s ≡ outcome
          → Does tac worth state s.units (0 + value_units tree) (0 + (laid_by lowered + left_for tree)) (ComesToValue tac program calls worth points placement hidden frame scope mode from to lowered state.running.registers) outcome
          → Does tac worth state s.units (value_units tree) (laid_by lowered + left_for tree) (Valued placement scope mode from to lowered t s) outcome
      by _ e (comes scalar s' state' p came) =
          let keeps = value_keeps program well calls keep (scope_types scope) tree small t typed s at.sound scalar s' e in
          comes scalar s' state' (eased p (omega arith) (omega arith)) (record { there = record { stands = came.0.there; sound = keeps.0.sound }; stands = came.1; typed = keeps.1; after = (omega (arith, p.allowed), keeps.0.locals) })
      by _ e (stops answer s' a) =
          let same : Does tac worth state s.units (0 + value_units tree) (laid_by lowered + left_for tree) (Valued placement scope mode from to lowered t s) (S.Stopped answer s') = stops answer s' a in eases same (omega arith) (omega arith)

  -- ---- ways on

  -- the code is at a point, for another one's sake
  abbrev pub Leading : ℕ → ℕ → Type 0
  Leading at to = (at ≡ to) ⊎ HasOp points at (O.Jump to)

  pub record Reached (from : State) (n left lag slack : ℕ) (placement : Placement) (scope : Scope) (to : ℕ) (s : S.State) : Type 0 where
    pub state : State
    pub passing : Passing tac worth from state n left lag slack
    pub there : Stays placement scope to s state

  pub reaches : {from : State} {n left lag slack : ℕ} (slack' : ℕ) (placement : Placement) (scope : Scope) (at to : ℕ) (s : S.State) (state : State) → Passing tac worth from state n left lag slack
      → Stays placement scope at s state → Leading at to → slack' < slack → Reached from n left lag slack' placement scope to s
  reaches slack' placement scope at to s state p there (inl same) less = record { state = state; passing = eased p (omega arith) (omega arith); there = subst (λ at. Stays placement scope at s state) same there }
  reaches slack' placement scope at to s state p there (inr has) less =
      let g = jumps tac program worth points placement hidden frame scope runs slack' to at s state p there.stands has less in
      record { state = gone to state; passing = g.passing; there = record { stands = g.there; sound = there.sound } }

  -- ---- conditions

  branch_passes : (placement : Placement) (scope : Scope) (own : IntType) (tree : Tree) (holds fails at : ℕ) (z : ℤ) (test : Bool) (s : S.State) (state : State)
      → At program placement hidden frame scope at s state → HasOp points at (O.Branch own tree holds fails) → computes state.running.registers tree ≡ Some z → is_value own z ≡ true → not_zero z ≡ test
      → Passes tac (O.Branch own tree holds fails) state (gone (if test then holds else fails) state)
  branch_passes placement scope own tree holds fails at z test s state h has is fits tests = record {
    before = before_at tac program points placement hidden frame scope runs at (O.Branch own tree holds fails) s state has h;
    does = ap (λ around. execute tac around (O.Branch own tree holds fails) state) (around_is tac program points placement hidden frame scope runs at s state h) ∙ by (is_zero z) refl;
  }
    where
      by : (b : Bool) → is_zero z ≡ b → execute tac (surroundings program frame) (O.Branch own tree holds fails) state ≡ go_to (if test then holds else fails) state
      by true e = let off : test ≡ false = sym tests ∙ ap not e in rw (is, fits, e, off) refl
      by false e = let on : test ≡ true = sym tests ∙ ap not e in rw (is, fits, e, on) refl

  -- one of the ways behind a condition: the point that tests it is to be passed
  abbrev pub Way : {B : Type 0} → Stand B → State → ℕ → ℕ → ℕ → ℕ → ℕ → Placement → Scope → ℕ → S.State → Eval B → Type 0
  Way Stands from n lag slack lag' slack' placement scope to s rest =
      (op : Op) (mid : State) (s' : S.State) → Passing tac worth from mid n s'.units lag (slack + more_cost op) → Passes tac op mid (gone to mid) → Stays placement scope to s' (gone to mid) → After s s'
      → Does tac worth from n lag' slack' Stands (rest s')

  -- A condition is evaluated and tested, and one of two evaluations follows.
  pub conditions : {B : Type 0} {Stands : Stand B} {from : State} {n lag lag' slack slack' : ℕ} (placement : Placement) (scope : Scope) (next : Scalar → Eval B) (first second : Eval B)
      → ((z : ℤ) → not_zero z ≡ true → next (IntegerValue z) ≡ first) → ((z : ℤ) → not_zero z ≡ false → next (IntegerValue z) ≡ second)
      → (condition : Value) (entry to : Spot) (holds fails : ℕ) → BranchCode program points scope condition entry to holds fails → is_condition (context_of program scope) condition ≡ true → makes (is_storable program.structs) condition ≡ true
      → (s : S.State) (state : State) → Passing tac worth from state n s.units lag slack → Stays placement scope entry.at s state → lag + value_units condition ≤ lag'
      → Way Stands from n (lag + value_units condition) slack lag' slack' placement scope holds s first → Way Stands from n (lag + value_units condition) slack lag' slack' placement scope fails s second
      → Does tac worth from n lag' slack' Stands (continue_with next (value (around_of program) calls condition s))
  conditions {B} {Stands} {from} {n} {lag} {lag'} {slack} {slack'} placement scope next first second is_first is_second condition entry to holds fails code tested small s state p at more true_way false_way =
      let typed = held_type is_integer (type_of (context_of program scope) condition) tested in
      bind {lag' = lag'} {slack' = slack'} next (along p (evaluated placement scope condition Kept entry code.0 (AsInteger code.1 code.2) typed.0 code.3 typed.1 small s state at)) more (λ scalar s' state' p' came.
      let z : ℤ = came.stands.0 in
      let fits = integer_fits program s' typed.0 code.1 scalar z (value_form program points scope condition Kept typed.0 entry code.0 (AsInteger code.1 code.2) typed.1 code.3) came.stands.1 came.typed in
      subst (λ x. Does tac worth from n lag' slack' Stands (next x s')) (sym came.stands.1)
      (by z s' state' (eased p' (omega arith) (omega arith)) came.there came.stands.2 fits came.after (not_zero z) refl))
    where
      by : (z : ℤ) (s' : S.State) (state' : State) → Passing tac worth from state' n s'.units (lag + value_units condition) (slack + tree_nodes code.2) → Stays placement scope code.0.at s' state'
          → computes state'.running.registers code.2 ≡ Some z → is_value code.1 z ≡ true → After s s' → (test : Bool) → not_zero z ≡ test → Does tac worth from n lag' slack' Stands (next (IntegerValue z) s')
      by z s' state' p' there is fits fewer true e =
          let passes = branch_passes placement scope code.1 code.2 holds fails code.0.at z true s' state' there.stands code.4.0 is fits e in
          subst (λ (eval : Eval B). Does tac worth from n lag' slack' Stands (eval s')) (sym (is_first z e))
          (true_way (O.Branch code.1 code.2 holds fails) state' s' p' passes (record { stands = at_gone tac program worth points placement hidden frame scope runs code.0.at holds s' state' there.stands; sound = there.sound }) fewer)
      by z s' state' p' there is fits fewer false e =
          let passes = branch_passes placement scope code.1 code.2 holds fails code.0.at z false s' state' there.stands code.4.0 is fits e in
          subst (λ (eval : Eval B). Does tac worth from n lag' slack' Stands (eval s')) (sym (is_second z e))
          (false_way (O.Branch code.1 code.2 holds fails) state' s' p' passes (record { stands = at_gone tac program worth points placement hidden frame scope runs code.0.at fails s' state' there.stands; sound = there.sound }) fewer)

  -- the same for one that may be left out: a jump stands in its place
  pub tests : {B : Type 0} {Stands : Stand B} {from : State} {n lag lag' slack slack' : ℕ} (placement : Placement) (scope : Scope) (next : Option Scalar → Eval B) (first second : Eval B)
      → ((c : Option Scalar) → holds c ≡ true → next c ≡ first) → ((c : Option Scalar) → holds c ≡ false → next c ≡ second)
      → (condition : Option Value) (entry to : Spot) (inside outside : ℕ) → TestCode program points scope condition entry to inside outside → if_any (is_condition (context_of program scope)) condition ≡ true → any_makes (is_storable program.structs) condition ≡ true
      → (s : S.State) (state : State) → Passing tac worth from state n s.units lag slack → Stays placement scope entry.at s state → lag + optional_units condition ≤ lag'
      → Way Stands from n (lag + optional_units condition) slack lag' slack' placement scope inside s first → Way Stands from n (lag + optional_units condition) slack lag' slack' placement scope outside s second
      → Does tac worth from n lag' slack' Stands (continue_with next (optional_value (value (around_of program) calls) condition s))
  tests {B} {Stands} {from} {n} {lag} {lag'} {slack} {slack'} placement scope next first second is_first is_second None entry to inside outside code tested small s state p at more true_way false_way =
      let passes : Passes tac (O.Jump inside) state (gone inside state) = record {
        before = before_at tac program points placement hidden frame scope runs entry.at (O.Jump inside) s state code.0 at.stands;
        does = refl;
      } in
      subst (λ (eval : Eval B). Does tac worth from n lag' slack' Stands (eval s)) (sym (is_first None refl))
      (true_way (O.Jump inside) state s (eased p (omega arith) (omega arith)) passes (record { stands = at_gone tac program worth points placement hidden frame scope runs entry.at inside s state at.stands; sound = at.sound }) (omega arith, refl))
  tests {B} {Stands} {from} {n} {lag} {lag'} {slack} {slack'} placement scope next first second is_first is_second (Some condition) entry to inside outside code tested small s state p at more true_way false_way =
      subst (λ outcome. Does tac worth from n lag' slack' Stands outcome) (sym (nested next (value (around_of program) calls condition s)))
      (conditions placement scope (λ a. next (Some a)) first second (λ z e. is_first (Some (IntegerValue z)) e) (λ z e. is_second (Some (IntegerValue z)) e) condition entry to inside outside code tested small s state p at more true_way false_way)

  -- a statement keeps which locals are in scope
  pub performed : (tree : Stmt) → Done tree → (within : Within) (placement : Placement) (scope : Scope) (from to : Spot) (ways : Ways program points) → StmtCode program points scope tree from to ways → is_stmt (context_of program scope) within tree ≡ true
      → stmt_makes (is_storable program.structs) tree ≡ true → AreNumbered from.counts scope → HaveObjects frame.objects to.objects → stmt_units tree ≤ worth → (s : S.State) (state : State) → Stays placement scope from.at s state
      → Does tac worth state s.units (stmt_units tree) left_behind (λ way s' state'. Left placement scope to.at ways way s' state' × After s s') (stmt (around_of program) calls tree s)
  performed tree does within placement scope from to ways code typed small numbered objects enough s state at =
      by (stmt (around_of program) calls tree s) refl (does within placement scope from to ways code typed small numbered objects enough s state at)
    where
      by : (outcome : Outcome Completion) → stmt (around_of program) calls tree s ≡ outcome → Does tac worth state s.units (stmt_units tree) left_behind (Left placement scope to.at ways) outcome
          → Does tac worth state s.units (stmt_units tree) left_behind (λ way s' state'. Left placement scope to.at ways way s' state' × After s s') outcome
      by _ e (comes way s' state' p leaves) =
          comes way s' state' p (leaves, (omega (arith, p.allowed), (stmt_keeps program well calls keep (scope_types scope) within tree typed small s at.sound way s' e).0.locals))
      by _ e (stops answer s' a) = stops answer s' a

  -- ---- statements without statements

  pub empties : Done T.Empty
  empties within placement scope from to ways code typed small numbered objects enough s state at =
      ticked tac program calls worth points placement hidden frame scope runs well keep (give Normal) from.at s state (start state s.units) at (omega arith) (λ left p at'.
      comes Normal (record s { units = left }) state (eased p (omega arith) (omega arith)) (subst (λ (spot : Spot). Stays placement scope spot.at (record s { units = left }) state) (sym code) at'))

  pub expressions : (v : Value) → Done (T.Expression v)
  expressions v within placement scope from to ways code typed small numbered objects enough s state at =
      let is = some_type (type_of (context_of program scope) v) typed in
      ticked tac program calls worth points placement hidden frame scope runs well keep (value (around_of program) calls v >>= λ a. give Normal) from.at s state (start state s.units) at (omega arith) (λ left p at'.
      bind (λ a. give Normal) (along p (evaluated placement scope v Dropped from to code.0 is.0 code.1 is.1 small (record s { units = left }) state at')) (omega arith) (λ scalar s' state' p' came.
      comes Normal s' state' (eased p' (omega arith) (omega arith)) came.there))

  pub breaks : Done T.Break
  breaks within placement scope from to ways code typed small numbered objects enough s state at =
      ticked tac program calls worth points placement hidden frame scope runs well keep (give Break) from.at s state (start state s.units) at (omega arith) (λ left p at'.
      let g = reaches 8 placement scope from.at ways.broken (record s { units = left }) state p at' (inr code.0) (omega arith) in
      comes Break (record s { units = left }) g.state (eased g.passing (omega arith) (omega arith)) g.there)

  pub continues : Done T.Continue
  continues within placement scope from to ways code typed small numbered objects enough s state at =
      ticked tac program calls worth points placement hidden frame scope runs well keep (give Continue) from.at s state (start state s.units) at (omega arith) (λ left p at'.
      let g = reaches 8 placement scope from.at ways.continued (record s { units = left }) state p at' (inr code.0) (omega arith) in
      comes Continue (record s { units = left }) g.state (eased g.passing (omega arith) (omega arith)) g.there)

  -- all but the last step of a point that returns
  returned : {from : State} {n lag slack : ℕ} (slack' : ℕ) (placement : Placement) (scope : Scope) (ways : Ways program points) (given : Option Scalar) (operand : Option Operand) (at : ℕ) (held : Option M.Value) (s : S.State) (state : State)
      → Passing tac worth from state n s.units lag slack → Stays placement scope at s state → HasOp points at (O.Return operand) → execute tac (surroundings program frame) (O.Return operand) state ≡ leave held state
      → GivesBack tac program calls worth points hidden frame placement s.objects given held → slack' + more_cost (O.Return operand) ≤ slack → (onward : ℕ)
      → Does tac worth from n lag slack' (Left placement scope onward ways) (Then (Return given) s)
  returned {from} {n} {lag} {slack} slack' placement scope ways given operand at held s state p there has does gives less onward =
      let before = before_at tac program points placement hidden frame scope runs at (O.Return operand) s state has there.stands in
      let path : Passing tac worth from (with_paid (more_cost (O.Return operand)) state) n s.units lag slack' = record {
        took = p.took + more_cost (O.Return operand);
        leads = leads_compose (act tac) from state _ p.took (more_cost (O.Return operand)) (p.took + more_cost (O.Return operand)) refl p.leads (paying tac (O.Return operand) state before.stands before.unpaid);
        allowed = omega (arith, p.allowed);
        covered = omega (arith, p.covered);
      } in
      comes (Return given) s (with_paid (more_cost (O.Return operand)) state) path (record { at = at; operand = operand; has = has; before = state; there = there; paid = refl; held = held; does = does; gives = gives })

  pub returns : (v : Option Value) → Done (T.Return v)
  returns None within placement scope from to ways code typed small numbered objects enough s state at =
      ticked tac program calls worth points placement hidden frame scope runs well keep (give None >>= λ a. give (Return a)) from.at s state (start state s.units) at (omega arith) (λ left p at'.
      returned {slack = 16} 8 placement scope ways None None from.at None (record s { units = left }) state (eased p (omega arith) (omega arith)) at' code.0 refl refl (omega arith) to.at)
  returns (Some v) within placement scope from to ways code typed small numbered objects enough s state at =
      let parts = and_parts (is_scalar within.result) _ typed in
      let is = held_type _ (type_of (context_of program scope) v) parts.1 in
      ticked tac program calls worth points placement hidden frame scope runs well keep (optional_value (value (around_of program) calls) (Some v) >>= λ a. give (Return a)) from.at s state (start state s.units) at (omega arith) (λ left p at'.
      subst (λ outcome. Does tac worth state s.units (1 + value_units v) left_behind (Left placement scope to.at ways) outcome) (sym (nested (λ a. give (Return a)) (value (around_of program) calls v (record s { units = left }))))
      (bind (λ a. give (Return (Some a))) (along p (evaluated placement scope v Kept from code.0 code.1 is.0 code.2 is.1 small (record s { units = left }) state at')) (omega arith) (λ scalar s' state' p' came.
      by code.1 code.3 scalar s' state' (eased p' (omega arith) (omega arith)) came.there came.stands)))
    where
      by : (given : Lowered) → ReturnCode program points given code.0 to → (scalar : Scalar) (s' : S.State) (state' : State) → Passing tac worth state state' s.units s'.units (1 + value_units v) (16 + laid_by given)
          → Stays placement scope code.0.at s' state' → LoweredStands program Kept frame placement s'.objects state'.running.registers given scalar
          → Does tac worth state s.units (1 + value_units v) left_behind (Left placement scope to.at ways) (Then (Return (Some scalar)) s')
      by (AsInteger own tree) emits scalar s' state' p' there stands =
          let is = stands.2 in
          let gives : GivesBack tac program calls worth points hidden frame placement s'.objects (Some scalar) (Some (M.Number stands.0)) =
          subst (λ x. GivesBack tac program calls worth points hidden frame placement s'.objects (Some x) (Some (M.Number stands.0))) (sym stands.1) (M.Number stands.0, refl, refl) in
          returned 8 placement scope ways (Some scalar) (Some (IntegerOperand tree)) code.0.at (Some (M.Number stands.0)) s' state' p' there emits.0 (rw is refl) gives (omega arith) to.at
      by (AsPointer pointer target) emits scalar s' state' p' there stands =
          let held = stands.1 in
          returned 8 placement scope ways (Some scalar) (Some (PointerOperand pointer)) code.0.at (Some stands.0) s' state' p' there emits.0 (rw held refl) (stands.0, refl, stands.2) (omega arith) to.at
      by (AsObject path own) emits scalar s' state' p' there stands = absurd emits
      by AsNothing emits scalar s' state' p' there stands = absurd emits

  -- ---- choices

  pub ifs : (condition : Value) (taken : Stmt) → Done taken → Done (T.If condition taken)
  ifs condition taken does within placement scope from to ways code typed small numbered objects enough s state at =
      let parts = and_parts (is_condition (context_of program scope) condition) (is_stmt (context_of program scope) within taken) typed in
      let sizes = and_parts (makes (is_storable program.structs) condition) (stmt_makes (is_storable program.structs) taken) small in
      let next : Scalar → Eval Completion = λ c. if is_true c then stmt (around_of program) calls taken else give Normal in
      ticked tac program calls worth points placement hidden frame scope runs well keep (value (around_of program) calls condition >>= next) from.at s state (start state s.units) at (omega arith) (λ left p at'.
      conditions placement scope next (stmt (around_of program) calls taken) (give Normal) (λ z e. rw e refl) (λ z e. rw e refl) condition from code.0 code.0.at to.at code.1 parts.0 sizes.0 (record s { units = left }) state p at' (omega arith)
      (λ op mid s' p' passes there fewer.
      eases (along (moved 15 p' passes (omega arith)) (does within placement scope code.0 to ways code.2 parts.1 sizes.1 (numbered_behind (branch_wider program points scope condition from code.0 _ _ code.1) scope numbered) objects (omega arith) s' (gone code.0.at mid) there)) (omega arith) (omega arith))
      (λ op mid s' p' passes there fewer.
      comes Normal s' (gone to.at mid) (stepped p' passes (omega arith) (omega arith)) there))

  pub if_elses : (condition : Value) (taken otherwise : Stmt) → Done taken → Done otherwise → Done (T.IfElse condition taken otherwise)
  if_elses condition taken otherwise does does' within placement scope from to ways code typed small numbered objects enough s state at =
      ticked tac program calls worth points placement hidden frame scope runs well keep (value (around_of program) calls condition >>= next) from.at s state (start state s.units) at (omega arith) (λ left p at'.
      conditions placement scope next (stmt (around_of program) calls taken) (stmt (around_of program) calls otherwise) (λ z e. rw e refl) (λ z e. rw e refl) condition from code.0 code.0.at (suc code.1.at) code.2 parts.0 sizes.0 (record s { units = left }) state p at' (omega arith)
      (λ op mid s' p' passes there fewer.
      ends_with (along (moved 15 p' passes (omega arith)) (does within placement scope code.0 code.1 ways code.3 parts.1 sizes.1 (numbered_behind front scope numbered)
      (have_before frame.objects back objects) (omega arith) s' (gone code.0.at mid) there)) (omega arith) (λ way s'' state'' p'' leaves. joins way s'' state'' (eased p'' (omega arith) (omega arith)) leaves))
      (λ op mid s' p' passes there fewer.
      eases (along (moved 15 p' passes (omega arith)) (does' within placement scope (behind code.1) to ways code.5 typed'.1 small'.1 (numbered_behind (wider_then front middle) scope numbered)
      objects (omega arith) s' (gone (suc code.1.at) mid) there)) (omega arith) (omega arith)))
    where
      next : Scalar → Eval Completion
      next c = if is_true c then stmt (around_of program) calls taken else stmt (around_of program) calls otherwise

      typed' : ((is_condition (context_of program scope) condition && is_stmt (context_of program scope) within taken) ≡ true) × (is_stmt (context_of program scope) within otherwise ≡ true)
      typed' = and_parts (is_condition (context_of program scope) condition && is_stmt (context_of program scope) within taken) (is_stmt (context_of program scope) within otherwise) typed

      parts : (is_condition (context_of program scope) condition ≡ true) × (is_stmt (context_of program scope) within taken ≡ true)
      parts = and_parts (is_condition (context_of program scope) condition) (is_stmt (context_of program scope) within taken) typed'.0

      small' : ((makes (is_storable program.structs) condition && stmt_makes (is_storable program.structs) taken) ≡ true) × (stmt_makes (is_storable program.structs) otherwise ≡ true)
      small' = and_parts (makes (is_storable program.structs) condition && stmt_makes (is_storable program.structs) taken) (stmt_makes (is_storable program.structs) otherwise) small

      sizes : (makes (is_storable program.structs) condition ≡ true) × (stmt_makes (is_storable program.structs) taken ≡ true)
      sizes = and_parts (makes (is_storable program.structs) condition) (stmt_makes (is_storable program.structs) taken) small'.0

      front : Wider from code.0
      front = branch_wider program points scope condition from code.0 _ _ code.2

      middle : Wider code.0 (behind code.1)
      middle = wider_behind (behind code.1) refl (stmt_wider program points taken scope code.0 code.1 ways code.3)

      back : Wider code.1 to
      back = wider_then (wider_behind (behind code.1) refl (wider_same code.1)) (stmt_wider program points otherwise scope (behind code.1) to ways code.5)

      joins : (way : Completion) (s' : S.State) (state' : State) → Passing tac worth state state' s.units s'.units (1 + value_units condition + stmt_units taken) 22 → Left placement scope code.1.at ways way s' state'
          → Does tac worth state s.units (stmt_units (T.IfElse condition taken otherwise)) left_behind (Left placement scope to.at ways) (Then way s')
      joins Normal s' state' p leaves =
          let g = reaches 8 placement scope code.1.at to.at s' state' p leaves (inr code.4) (omega arith) in
          comes Normal s' g.state (eased g.passing (omega arith) (omega arith)) g.there
      joins Break s' state' p leaves = comes Break s' state' (eased p (omega arith) (omega arith)) leaves
      joins Continue s' state' p leaves = comes Continue s' state' (eased p (omega arith) (omega arith)) leaves
      joins (Return given) s' state' p leaves = comes (Return given) s' state' (eased p (omega arith) (omega arith)) leaves
