-- The code of statements needs few operands.
use Rattle.std.proofs.Common.{ℕ, suc, ◌≤◌, Bool, true, false, List, [], ◌∷◌, Option, Some, None, refl, sym, subst, arith}
use Rattle.c_num.specs.declared.IntType.{IntType}
use Rattle.c_num.specs.declared.IntType.TheVariants as I
use Rattle.c_num.specs.declared.Relation.TheVariants as relations
use Rattle.c_typed.specs.Typed as T
use Rattle.c_typed.specs.Typed.{Value, Stmt, Block, SwitchItems, LocalDef, ForStart, Program}
use Rattle.c_typed.specs.TypedDepths.{value_depth, optional_depth, local_depth, locals_depth, start_depth, stmt_depth, block_depth, switch_depth, greatest_depth}
use Rattle.tac_ir.specs.declared.register.Register.{Register}
use Rattle.tac_ir.specs.declared.register.Register.TheVariants as R
use Rattle.tac_ir.specs.Code.{Constant, Held, Compare, AtLocal, IntegerOperand, PointerOperand, Op}
use Rattle.tac_ir.specs.Code as O
use Rattle.tac_build.specs.Homes.{Home, Scope}
use Rattle.tac_build.specs.Spots.{Spot, behind, with_variable, with_temporary, temporary, Lowered, AsInteger, AsPointer, AsObject, AsNothing, Kept, Dropped}
use Rattle.tac_build.specs.Code.{Emits, ValueCode, path_from}
use Rattle.tac_build.specs.StatementCode.{Ways, Begins, with_home, FirstCode, LocalCode, LocalsCode, StartCode, BranchCode, TestCode, StepCode, ReturnCode, StmtCode, BlockCode, SwitchCode}
use Rattle.c_typed.specs.TypedArguments.{ValueFew, OptionalFew, LocalsFew, StartFew, StmtFew, BlockFew, SwitchFew}
use Rattle.backend_correct.specs.Operands.{greatest_operands, lowered_operands}
use Rattle.backend_correct.proofs.LoweredHeights.Leading.{Leads, leads_then, nothing, stays, point, emits}
use Rattle.backend_correct.proofs.LoweredHeights.Parts.{writes_leads}
use Rattle.backend_correct.proofs.LoweredHeights.Expressions.{value_gives}

-- items of a `switch` and the tests of their labels
record LeadsItems (points : List Op) (from to tests last : ℕ) : Type 0 where
  leads : Leads points from to
  tested : Leads points tests last

module _ (points : List Op) where
  pub home_leads : (home : Home) (from : Spot) → Leads points from.at (with_home home from).at
  home_leads home from = by home.is_object
    where
      by : (b : Bool) → Leads points from.at (with_home (record home { is_object = b }) from).at
      by true = nothing points from.at
      by false = nothing points from.at

  begins_leads : (home : Home) (given : Lowered) (from to : Spot) → lowered_operands given ≤ greatest_operands → Begins points home given from to → Leads points from.at to.at
  begins_leads home given from to few code = by home.is_object given few code
    where
      by : (b : Bool) (given : Lowered) → lowered_operands given ≤ greatest_operands → Begins points (record home { is_object = b }) given from to → Leads points from.at to.at
      by false given few code = writes_leads points (R.Local home.local) given from to few code
      by true (AsInteger own tree) few code = emits points (O.Store (path_from (AtLocal home.local)) home.c_type (IntegerOperand tree)) code (omega (arith, few))
      by true (AsPointer pointer target) few code = emits points (O.Store (path_from (AtLocal home.local)) home.c_type (PointerOperand pointer)) code (omega arith)
      by true (AsObject path own) few code = absurd code
      by true AsNothing few code = absurd code

module _ (program : Program) (points : List Op) where
  value_leads : (scope : Scope) (v : Value) (from to : Spot) (lowered : Lowered) → value_depth v ≤ greatest_depth → ValueFew v → ValueCode program points scope Dropped v from to lowered → Leads points from.at to.at
  value_leads scope v from to lowered deep few code = (value_gives program points scope v Dropped deep few from to lowered code).leads

  first_leads : (scope : Scope) (home : Home) (first : Option Value) (from to : Spot) → optional_depth first ≤ greatest_depth → OptionalFew first → FirstCode program points scope home first from to → Leads points from.at to.at
  first_leads scope home None from to deep few code = stays points code
  first_leads scope home (Some v) from to deep few code =
      let one = value_gives program points scope v Kept deep few from code.0 code.1 code.2 in
      let low = one.few in
      leads_then points one.leads (begins_leads points home code.1 code.0 to (omega (arith, deep, low)) code.3)

  local_leads : (scope : Scope) (local : LocalDef) (is_taken : Bool) (from to : Spot) (home : Home) → local_depth local ≤ greatest_depth → OptionalFew local.first → LocalCode program points scope local is_taken from to home
      → Leads points from.at to.at
  local_leads scope local is_taken from to home deep few code =
      leads_then points (home_leads points home (with_variable from)) (first_leads (home ∷ scope) home local.first (with_home home (with_variable from)) to deep few code.1)

  locals_lead : (scope : Scope) (is_taken : ℕ → Bool) (locals : List LocalDef) (from to : Spot) (inner : Scope) → locals_depth locals ≤ greatest_depth → LocalsFew locals
      → LocalsCode program points scope is_taken locals from to inner → Leads points from.at to.at
  locals_lead scope is_taken [] from to inner deep few code = stays points code.0
  locals_lead scope is_taken (first ∷ others) from to inner deep few code =
      leads_then points (local_leads scope first _ from code.0 code.1 (omega (arith, deep)) few.0 code.2) (locals_lead (code.1 ∷ scope) is_taken others code.0 to inner (omega (arith, deep)) few.1 code.3)

  start_leads : (scope : Scope) (is_taken : ℕ → Bool) (begin : ForStart) (from to : Spot) (inner : Scope) → start_depth begin ≤ greatest_depth → StartFew begin → StartCode program points scope is_taken begin from to inner
      → Leads points from.at to.at
  start_leads scope is_taken T.StartNothing from to inner deep few code = stays points code.0
  start_leads scope is_taken (T.StartValue v) from to inner deep few code = value_leads scope v from to code.0 deep few code.1
  start_leads scope is_taken (T.StartLocals locals) from to inner deep few code = locals_lead scope is_taken locals from to inner deep few code

  branch_leads : (scope : Scope) (condition : Value) (from to : Spot) (holds fails : ℕ) → value_depth condition ≤ greatest_depth → ValueFew condition → BranchCode program points scope condition from to holds fails
      → Leads points from.at to.at
  branch_leads scope condition from to holds fails deep few code =
      let one = value_gives program points scope condition Kept deep few from code.0 (AsInteger code.1 code.2) code.3 in
      let low = one.few in
      leads_then points one.leads (emits points (O.Branch code.1 code.2 holds fails) code.4 (omega (arith, deep, low)))

  test_leads : (scope : Scope) (condition : Option Value) (from to : Spot) (holds fails : ℕ) → optional_depth condition ≤ greatest_depth → OptionalFew condition → TestCode program points scope condition from to holds fails
      → Leads points from.at to.at
  test_leads scope None from to holds fails deep few code = emits points (O.Jump holds) code (omega arith)
  test_leads scope (Some condition) from to holds fails deep few code = branch_leads scope condition from to holds fails deep few code

  step_leads : (scope : Scope) (step : Option Value) (from to : Spot) → optional_depth step ≤ greatest_depth → OptionalFew step → StepCode program points scope step from to → Leads points from.at to.at
  step_leads scope None from to deep few code = stays points code
  step_leads scope (Some v) from to deep few code = value_leads scope v from to code.0 deep few code.1

  return_leads : (given : Lowered) (from to : Spot) → lowered_operands given ≤ greatest_operands → ReturnCode program points given from to → Leads points from.at to.at
  return_leads (AsInteger own tree) from to few code = emits points (O.Return (Some (IntegerOperand tree))) code few
  return_leads (AsPointer pointer target) from to few code = emits points (O.Return (Some (PointerOperand pointer))) code (omega arith)
  return_leads (AsObject path own) from to few code = absurd code
  return_leads AsNothing from to few code = absurd code

  jump : (from : Spot) (to : ℕ) → Emits points (O.Jump to) from (behind from) → Leads points from.at (suc from.at)
  jump from to code = emits points (O.Jump to) code (omega arith)

  mutual
    pub stmt_leads : (tree : Stmt) (scope : Scope) (from to : Spot) (ways : Ways program points) → stmt_depth tree ≤ greatest_depth → StmtFew tree → StmtCode program points scope tree from to ways → Leads points from.at to.at
    stmt_leads (T.BlockStmt items) scope from to ways deep few code = block_leads items scope from to ways deep few code
    stmt_leads T.Empty scope from to ways deep few code = stays points code
    stmt_leads (T.Expression v) scope from to ways deep few code = value_leads scope v from to code.0 deep few code.1
    stmt_leads (T.If condition taken) scope from to ways deep few code =
        leads_then points (branch_leads scope condition from code.0 code.0.at to.at (omega (arith, deep)) few.0 code.1) (stmt_leads taken scope code.0 to ways (omega (arith, deep)) few.1 code.2)
    stmt_leads (T.IfElse condition taken otherwise) scope from to ways deep few code =
        leads_then points (branch_leads scope condition from code.0 code.0.at (suc code.1.at) (omega (arith, deep)) few.0.0 code.2)
        (leads_then points (stmt_leads taken scope code.0 code.1 ways (omega (arith, deep)) few.0.1 code.3)
        (leads_then points (jump code.1 to.at (code.4, refl)) (stmt_leads otherwise scope (behind code.1) to ways (omega (arith, deep)) few.1 code.5)))
    stmt_leads (T.While condition body) scope from to ways deep few code =
        leads_then points (branch_leads scope condition from code.0 (suc code.0.at) code.0.at (omega (arith, deep)) few.0 code.2)
        (leads_then points (jump code.0 to.at (code.3, refl))
        (leads_then points (stmt_leads body scope (behind code.0) code.1 (record { broken = code.0.at; continued = from.at }) (omega (arith, deep)) few.1 code.4) (emits points (O.Jump from.at) code.5 (omega arith))))
    stmt_leads (T.DoWhile body condition) scope from to ways deep few code =
        leads_then points (jump from (suc (suc (suc from.at))) (code.1, refl)) (leads_then points (jump (behind from) to.at (code.2, refl)) (leads_then points (jump (behind (behind from)) code.0.at (code.3, refl))
        (leads_then points (stmt_leads body scope (behind (behind (behind from))) code.0 (record { broken = suc from.at; continued = suc (suc from.at) }) (omega (arith, deep)) few.0 code.4)
        (branch_leads scope condition code.0 to (suc (suc (suc from.at))) (suc from.at) (omega (arith, deep)) few.1 code.5))))
    stmt_leads (T.For begin condition step body) scope from to ways deep few code =
        leads_then points (start_leads scope _ begin from code.0 code.4 (omega (arith, deep)) few.0.0.0 code.5)
        (leads_then points (test_leads code.4 condition code.0 code.1 (suc code.2.at) code.1.at (omega (arith, deep)) few.0.0.1 code.6)
        (leads_then points (jump code.1 to.at (code.7, refl))
        (leads_then points (step_leads code.4 step (behind code.1) code.2 (omega (arith, deep)) few.0.1 code.8)
        (leads_then points (jump code.2 code.0.at (code.9, refl))
        (leads_then points (stmt_leads body code.4 (behind code.2) code.3 (record { broken = code.1.at; continued = suc code.1.at }) (omega (arith, deep)) few.1 code.10)
        (emits points (O.Jump (suc code.1.at)) code.11 (omega arith)))))))
    stmt_leads (T.Switch v items) scope from to ways deep few code =
        let one = value_gives program points scope v Kept (omega (arith, deep)) few.0 from code.0 (AsInteger code.2 code.3) code.7 in
        let low = one.few in
        let kept = point points code.0.at (O.Assign (temporary code.0) code.3) code.8 (omega (arith, deep, low)) in
        let first = behind (with_temporary code.0) in
        let jumps = leads_then points (jump first (suc code.1.at) (code.9, refl)) (jump (behind first) to.at (code.10, refl)) in
        let inside = switch_leads items scope code.2 (R.Temporary code.0.counts.temporaries) (suc code.1.at) (behind (behind first)) code.1 code.5 code.4
        (record { broken = suc (suc code.0.at); continued = ways.continued }) (omega (arith, deep)) few.1 code.11 in
        let ending = emits points {from = record code.1 { at = code.5 }} (O.Jump code.6) code.14 (omega arith) in
        leads_then points one.leads (leads_then points kept (leads_then points jumps
        (leads_then points inside.leads (leads_then points (jump code.1 (suc (suc code.0.at)) (code.12, refl)) (leads_then points inside.tested ending)))))
    stmt_leads T.Break scope from to ways deep few code = emits points (O.Jump ways.broken) code (omega arith)
    stmt_leads T.Continue scope from to ways deep few code = emits points (O.Jump ways.continued) code (omega arith)
    stmt_leads (T.Return None) scope from to ways deep few code = emits points (O.Return None) code (omega arith)
    stmt_leads (T.Return (Some v)) scope from to ways deep few code =
        let one = value_gives program points scope v Kept deep few from code.0 code.1 code.2 in
        let low = one.few in
        leads_then points one.leads (return_leads code.1 code.0 to (omega (arith, deep, low)) code.3)

    pub block_leads : (items : Block) (scope : Scope) (from to : Spot) (ways : Ways program points) → block_depth items ≤ greatest_depth → BlockFew items → BlockCode program points scope items from to ways → Leads points from.at to.at
    block_leads T.Close scope from to ways deep few code = stays points code
    block_leads (T.Declare local others) scope from to ways deep few code =
        leads_then points (local_leads scope local _ from code.0 code.1 (omega (arith, deep)) few.0 code.2) (block_leads others (code.1 ∷ scope) code.0 to ways (omega (arith, deep)) few.1 code.3)
    block_leads (T.Perform one others) scope from to ways deep few code =
        leads_then points (stmt_leads one scope from code.0 ways (omega (arith, deep)) few.0 code.1) (block_leads others scope code.0 to ways (omega (arith, deep)) few.1 code.2)

    switch_leads : (items : SwitchItems) (scope : Scope) (own : IntType) (switched : Register) (tests : ℕ) (from to : Spot) (last : ℕ) (default : Option ℕ) (ways : Ways program points)
        → switch_depth items ≤ greatest_depth → SwitchFew items → SwitchCode program points scope items own switched tests from to last default ways → LeadsItems points from.at to.at tests last
    switch_leads T.SwitchEnd scope own switched tests from to last default ways deep few code =
        record { leads = stays points code.0; tested = subst (λ end. Leads points tests end) (sym code.1) (nothing points tests) }
    switch_leads (T.Case label others) scope own switched tests from to last default ways deep few code =
        let rest = switch_leads others scope own switched (suc tests) from to last default ways deep few code.1 in
        record {
          leads = rest.leads;
          tested = leads_then points (point points tests (O.Branch I.Int (Compare relations.Eq own (Held switched) (Constant label)) from.at (suc tests)) code.0 (omega arith)) rest.tested;
        }
    switch_leads (T.Default others) scope own switched tests from to last default ways deep few code = switch_leads others scope own switched tests from to last code.0 ways deep few code.2
    switch_leads (T.SwitchStmt one others) scope own switched tests from to last default ways deep few code =
        let first = stmt_leads one scope from code.0 ways (omega (arith, deep)) few.0 code.1 in
        let rest = switch_leads others scope own switched tests code.0 to last default ways (omega (arith, deep)) few.1 code.2 in
        record { leads = leads_then points first rest.leads; tested = rest.tested }
