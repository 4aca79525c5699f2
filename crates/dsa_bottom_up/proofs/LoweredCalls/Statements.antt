-- The code of statements calls by name only functions of the program, and has its own sites.
use Rattle.std.proofs.Common.{ℕ, suc, Bool, true, false, List, [], ◌∷◌, length, Option, Some, None, refl, sym, subst}
use Rattle.c_num.specs.declared.IntType.{IntType}
use Rattle.c_num.specs.declared.IntType.TheVariants as I
use Rattle.c_num.specs.declared.Relation.TheVariants as relations
use Rattle.c_typed.specs.Typed as T
use Rattle.c_typed.specs.Typed.{Value, Stmt, Block, SwitchItems, LocalDef, ForStart, Program}
use Rattle.tac_ir.specs.declared.register.Register.{Register}
use Rattle.tac_ir.specs.declared.register.Register.TheVariants as R
use Rattle.tac_ir.specs.Code.{Constant, Held, Compare, AtLocal, IntegerOperand, PointerOperand, Op}
use Rattle.tac_ir.specs.Code as O
use Rattle.tac_build.specs.Homes.{Home, Scope}
use Rattle.tac_build.specs.Spots.{Spot, behind, with_variable, with_temporary, temporary, Lowered, AsInteger, AsPointer, AsObject, AsNothing, Kept, Dropped}
use Rattle.tac_build.specs.Code.{path_from}
use Rattle.tac_build.specs.StatementCode.{Ways, Begins, with_home, FirstCode, LocalCode, LocalsCode, StartCode, BranchCode, TestCode, StepCode, ReturnCode, StmtCode, BlockCode, SwitchCode}
use Rattle.dsa_bottom_up.proofs.LoweredCalls.Leading.{Leads, Spans, leads_then, nothing, plain, stays, point, emits}
use Rattle.dsa_bottom_up.proofs.LoweredCalls.Parts.{writes_spans}
use Rattle.dsa_bottom_up.proofs.LoweredCalls.Expressions.{value_spans}

-- items of a `switch` and the tests of their labels
record LeadsItems (points : List Op) (count : ℕ) (from to : Spot) (tests last : ℕ) : Type 0 where
  leads : Spans points count from to
  tested : (site : ℕ) → Leads points count tests last site site

module _ (points : List Op) (count : ℕ) where
  pub home_spans : (home : Home) (from : Spot) → Spans points count from (with_home home from)
  home_spans home from = by home.is_object
    where
      by : (b : Bool) → Spans points count from (with_home (record home { is_object = b }) from)
      by true = nothing points count from.at from.counts.calls
      by false = nothing points count from.at from.counts.calls

  begins_spans : (home : Home) (given : Lowered) (from to : Spot) → Begins points home given from to → Spans points count from to
  begins_spans home given from to code = by home.is_object given code
    where
      by : (b : Bool) (given : Lowered) → Begins points (record home { is_object = b }) given from to → Spans points count from to
      by false given code = writes_spans points count (R.Local home.local) given from to code
      by true (AsInteger own tree) code = emits points count from to (O.Store (path_from (AtLocal home.local)) home.c_type (IntegerOperand tree)) code refl
      by true (AsPointer pointer target) code = emits points count from to (O.Store (path_from (AtLocal home.local)) home.c_type (PointerOperand pointer)) code refl
      by true (AsObject path own) code = absurd code
      by true AsNothing code = absurd code

module _ (program : Program) (points : List Op) where
  abbrev count : ℕ
  count = length program.functions

  first_spans : (scope : Scope) (home : Home) (first : Option Value) (from to : Spot) → FirstCode program points scope home first from to → Spans points count from to
  first_spans scope home None from to code = stays points count from to code
  first_spans scope home (Some v) from to code =
      leads_then points count (value_spans program points scope v Kept from code.0 code.1 code.2) (begins_spans points count home code.1 code.0 to code.3)

  local_spans : (scope : Scope) (local : LocalDef) (is_taken : Bool) (from to : Spot) (home : Home) → LocalCode program points scope local is_taken from to home → Spans points count from to
  local_spans scope local is_taken from to home code =
      leads_then points count (home_spans points count home (with_variable from)) (first_spans (home ∷ scope) home local.first (with_home home (with_variable from)) to code.1)

  locals_span : (scope : Scope) (is_taken : ℕ → Bool) (locals : List LocalDef) (from to : Spot) (inner : Scope) → LocalsCode program points scope is_taken locals from to inner → Spans points count from to
  locals_span scope is_taken [] from to inner code = stays points count from to code.0
  locals_span scope is_taken (first ∷ others) from to inner code =
      leads_then points count (local_spans scope first _ from code.0 code.1 code.2) (locals_span (code.1 ∷ scope) is_taken others code.0 to inner code.3)

  start_spans : (scope : Scope) (is_taken : ℕ → Bool) (begin : ForStart) (from to : Spot) (inner : Scope) → StartCode program points scope is_taken begin from to inner → Spans points count from to
  start_spans scope is_taken T.StartNothing from to inner code = stays points count from to code.0
  start_spans scope is_taken (T.StartValue v) from to inner code = value_spans program points scope v Dropped from to code.0 code.1
  start_spans scope is_taken (T.StartLocals locals) from to inner code = locals_span scope is_taken locals from to inner code

  branch_spans : (scope : Scope) (condition : Value) (from to : Spot) (holds fails : ℕ) → BranchCode program points scope condition from to holds fails → Spans points count from to
  branch_spans scope condition from to holds fails code =
      leads_then points count (value_spans program points scope condition Kept from code.0 (AsInteger code.1 code.2) code.3)
      (emits points count code.0 to (O.Branch code.1 code.2 holds fails) code.4 refl)

  test_spans : (scope : Scope) (condition : Option Value) (from to : Spot) (holds fails : ℕ) → TestCode program points scope condition from to holds fails → Spans points count from to
  test_spans scope None from to holds fails code = emits points count from to (O.Jump holds) code refl
  test_spans scope (Some condition) from to holds fails code = branch_spans scope condition from to holds fails code

  step_spans : (scope : Scope) (step : Option Value) (from to : Spot) → StepCode program points scope step from to → Spans points count from to
  step_spans scope None from to code = stays points count from to code
  step_spans scope (Some v) from to code = value_spans program points scope v Dropped from to code.0 code.1

  return_spans : (given : Lowered) (from to : Spot) → ReturnCode program points given from to → Spans points count from to
  return_spans (AsInteger own tree) from to code = emits points count from to (O.Return (Some (IntegerOperand tree))) code refl
  return_spans (AsPointer pointer target) from to code = emits points count from to (O.Return (Some (PointerOperand pointer))) code refl
  return_spans (AsObject path own) from to code = absurd code
  return_spans AsNothing from to code = absurd code

  mutual
    pub stmt_spans : (tree : Stmt) (scope : Scope) (from to : Spot) (ways : Ways program points) → StmtCode program points scope tree from to ways → Spans points count from to
    stmt_spans (T.BlockStmt items) scope from to ways code = block_spans items scope from to ways code
    stmt_spans T.Empty scope from to ways code = stays points count from to code
    stmt_spans (T.Expression v) scope from to ways code = value_spans program points scope v Dropped from to code.0 code.1
    stmt_spans (T.If condition taken) scope from to ways code =
        leads_then points count (branch_spans scope condition from code.0 code.0.at to.at code.1) (stmt_spans taken scope code.0 to ways code.2)
    stmt_spans (T.IfElse condition taken otherwise) scope from to ways code =
        leads_then points count (branch_spans scope condition from code.0 code.0.at (suc code.1.at) code.2)
        (leads_then points count (stmt_spans taken scope code.0 code.1 ways code.3)
        (leads_then points count (point points count code.1 (O.Jump to.at) code.4 refl) (stmt_spans otherwise scope (behind code.1) to ways code.5)))
    stmt_spans (T.While condition body) scope from to ways code =
        leads_then points count (branch_spans scope condition from code.0 (suc code.0.at) code.0.at code.2)
        (leads_then points count (point points count code.0 (O.Jump to.at) code.3 refl)
        (leads_then points count (stmt_spans body scope (behind code.0) code.1 (record { broken = code.0.at; continued = from.at }) code.4) (emits points count code.1 to (O.Jump from.at) code.5 refl)))
    stmt_spans (T.DoWhile body condition) scope from to ways code =
        leads_then points count (point points count from (O.Jump (suc (suc (suc from.at)))) code.1 refl)
        (leads_then points count (point points count (behind from) (O.Jump to.at) code.2 refl)
        (leads_then points count (point points count (behind (behind from)) (O.Jump code.0.at) code.3 refl)
        (leads_then points count (stmt_spans body scope (behind (behind (behind from))) code.0 (record { broken = suc from.at; continued = suc (suc from.at) }) code.4)
        (branch_spans scope condition code.0 to (suc (suc (suc from.at))) (suc from.at) code.5))))
    stmt_spans (T.For begin condition step body) scope from to ways code =
        leads_then points count (start_spans scope _ begin from code.0 code.4 code.5)
        (leads_then points count (test_spans code.4 condition code.0 code.1 (suc code.2.at) code.1.at code.6)
        (leads_then points count (point points count code.1 (O.Jump to.at) code.7 refl)
        (leads_then points count (step_spans code.4 step (behind code.1) code.2 code.8)
        (leads_then points count (point points count code.2 (O.Jump code.0.at) code.9 refl)
        (leads_then points count (stmt_spans body code.4 (behind code.2) code.3 (record { broken = code.1.at; continued = suc code.1.at }) code.10)
        (emits points count code.3 to (O.Jump (suc code.1.at)) code.11 refl))))))
    stmt_spans (T.Switch v items) scope from to ways code =
        let first = behind (with_temporary code.0) in
        let inside = switch_spans items scope code.2 (R.Temporary code.0.counts.temporaries) (suc code.1.at) (behind (behind first)) code.1 code.5 code.4
        (record { broken = suc (suc code.0.at); continued = ways.continued }) code.11 in
        leads_then points count (value_spans program points scope v Kept from code.0 (AsInteger code.2 code.3) code.7)
        (leads_then points count (point points count code.0 (O.Assign (temporary code.0) code.3) code.8 refl)
        (leads_then points count (point points count first (O.Jump (suc code.1.at)) code.9 refl)
        (leads_then points count (point points count (behind first) (O.Jump to.at) code.10 refl)
        (leads_then points count inside.leads
        (leads_then points count (point points count code.1 (O.Jump (suc (suc code.0.at))) code.12 refl)
        (leads_then points count (inside.tested code.1.counts.calls) (emits points count (record code.1 { at = code.5 }) to (O.Jump code.6) code.14 refl)))))))
    stmt_spans T.Break scope from to ways code = emits points count from to (O.Jump ways.broken) code refl
    stmt_spans T.Continue scope from to ways code = emits points count from to (O.Jump ways.continued) code refl
    stmt_spans (T.Return None) scope from to ways code = emits points count from to (O.Return None) code refl
    stmt_spans (T.Return (Some v)) scope from to ways code =
        leads_then points count (value_spans program points scope v Kept from code.0 code.1 code.2) (return_spans code.1 code.0 to code.3)

    pub block_spans : (items : Block) (scope : Scope) (from to : Spot) (ways : Ways program points) → BlockCode program points scope items from to ways → Spans points count from to
    block_spans T.Close scope from to ways code = stays points count from to code
    block_spans (T.Declare local others) scope from to ways code =
        leads_then points count (local_spans scope local _ from code.0 code.1 code.2) (block_spans others (code.1 ∷ scope) code.0 to ways code.3)
    block_spans (T.Perform one others) scope from to ways code = leads_then points count (stmt_spans one scope from code.0 ways code.1) (block_spans others scope code.0 to ways code.2)

    switch_spans : (items : SwitchItems) (scope : Scope) (own : IntType) (switched : Register) (tests : ℕ) (from to : Spot) (last : ℕ) (default : Option ℕ) (ways : Ways program points)
        → SwitchCode program points scope items own switched tests from to last default ways → LeadsItems points count from to tests last
    switch_spans T.SwitchEnd scope own switched tests from to last default ways code = record {
      leads = stays points count from to code.0;
      tested = λ site. subst (λ end. Leads points count tests end site site) (sym code.1) (nothing points count tests site);
    }
    switch_spans (T.Case label others) scope own switched tests from to last default ways code =
        let rest = switch_spans others scope own switched (suc tests) from to last default ways code.1 in
        record {
          leads = rest.leads;
          tested = λ site.
              leads_then points count (plain points count tests site (O.Branch I.Int (Compare relations.Eq own (Held switched) (Constant label)) from.at (suc tests)) code.0 refl) (rest.tested site);
        }
    switch_spans (T.Default others) scope own switched tests from to last default ways code = switch_spans others scope own switched tests from to last code.0 ways code.2
    switch_spans (T.SwitchStmt one others) scope own switched tests from to last default ways code =
        let rest = switch_spans others scope own switched tests code.0 to last default ways code.2 in
        record { leads = leads_then points count (stmt_spans one scope from code.0 ways code.1) rest.leads; tested = rest.tested }
