-- The code of statements names at most two registers for each node, and places no more in memory than the measure of frames counts.
use Rattle.std.proofs.Common.{◌≡◌, ℕ, suc, ◌+◌, ◌*◌, ◌≤◌, Bool, true, false, List, [], ◌∷◌, ◌++◌, Option, Some, None, refl, ap, arith}
use Rattle.c_num.specs.declared.IntType.{IntType}
use Rattle.c_typed.specs.Layouts.{StructDef, Table, layouts}
use Rattle.c_typed.specs.Typed as T
use Rattle.c_typed.specs.Typed.{Value, Stmt, Block, SwitchItems, LocalDef, ForStart, Program}
use Rattle.c_typed.specs.TypedNodes.{value_nodes, optional_nodes, local_nodes, locals_nodes, start_nodes, stmt_nodes, block_nodes, switch_nodes}
use Rattle.c_types.specs.Limits.{added, rounded, locals_size, start_size, stmt_size, block_size, switch_size}
use Rattle.tac_ir.specs.declared.register.Register.{Register}
use Rattle.tac_ir.specs.declared.register.Register.TheVariants as R
use Rattle.tac_ir.specs.Code.{Op, LocalObject}
use Rattle.tac_build.specs.Homes.{Home, Scope}
use Rattle.tac_build.specs.Spots.{Spot, behind, with_variable, with_temporary, Lowered, AsInteger, AsPointer, AsObject, AsNothing, Mode, Kept, Dropped}
use Rattle.tac_build.specs.Code.{ValueCode}
use Rattle.tac_build.specs.StatementCode.{Ways, Begins, with_home, FirstCode, LocalCode, LocalsCode, StartCode, BranchCode, TestCode, StepCode, ReturnCode, StmtCode, BlockCode, SwitchCode}
use Rattle.pool_rewrite.specs.Placing.{own_layouts}
use Rattle.backend_correct.proofs.Aligned.{whole_size}
use Rattle.backend_correct.proofs.Limited.{greatest_objects, frame_sum}
use Rattle.backend_correct.proofs.Named.{named, Names, stays, point, names_variable, names_temporary, writes_names}
use Rattle.backend_correct.proofs.LoweredRanges.Expressions.{value_fewer}

abbrev pub objects_size : List StructDef → List LocalObject → ℕ
objects_size structs objects = whole_size (own_layouts structs objects)

one_more_object : (structs : List StructDef) (objects : List LocalObject) (new : LocalObject) → objects_size structs (objects ++ new ∷ []) ≡ objects_size structs objects + rounded (layouts structs) new.c_type
one_more_object structs [] new = omega arith
one_more_object structs (first ∷ others) new = let rest = one_more_object structs others new in omega (arith, rest)

-- From a spot to a spot at most two registers are named for each of so many nodes, and objects of at most so many bytes are placed.
pub record Adds (structs : List StructDef) (nodes bytes : ℕ) (from to : Spot) : Type 0 where
  pub count : named to.counts ≤ named from.counts + 2 * nodes
  pub objects : objects_size structs to.objects ≤ objects_size structs from.objects + bytes

module _ (structs : List StructDef) where
  pub adds_then : {a b x y : ℕ} {from mid to : Spot} → Adds structs a x from mid → Adds structs b y mid to → Adds structs (a + b) (x + y) from to
  adds_then one other = record { count = omega (arith, one.count, other.count); objects = omega (arith, one.objects, other.objects) }

  pub adds_at_most : {a x : ℕ} (nodes bytes : ℕ) {from to : Spot} → a ≤ nodes → x ≤ bytes → Adds structs a x from to → Adds structs nodes bytes from to
  adds_at_most nodes bytes less fewer one = record { count = omega (arith, one.count, less); objects = omega (arith, one.objects, fewer) }

  pub names_add : {most less : ℕ} (nodes : ℕ) {from to : Spot} → most ≤ 2 * nodes + less → Names most less from to → Adds structs nodes 0 from to
  names_add nodes less one = let same = ap (objects_size structs) one.objects in record { count = omega (arith, one.count, less); objects = omega (arith, same) }

  -- where no register is named
  pub nothing_added : {from to : Spot} → Names 0 0 from to → Adds structs 0 0 from to
  nothing_added one = names_add 0 (omega arith) one

  pub point_added : {from to : Spot} → to ≡ behind from → Adds structs 0 0 from to
  point_added same = nothing_added (point same)

  pub past : (from : Spot) → Adds structs 0 0 from (behind from)
  past from = point_added refl

  pub home_adds : (home : Home) (from : Spot) → Adds structs 0 (rounded (layouts structs) home.c_type) from (with_home home from)
  home_adds home from = by home.is_object
    where
      by : (b : Bool) → Adds structs 0 (rounded (layouts structs) home.c_type) from (with_home (record home { is_object = b }) from)
      by true = let more = one_more_object structs from.objects (record { local = home.local; c_type = home.c_type }) in record { count = omega arith; objects = omega (arith, more) }
      by false = record { count = omega arith; objects = omega arith }

module _ (program : Program) (points : List Op) where
  abbrev structs : List StructDef
  structs = program.structs

  abbrev table : Table
  table = layouts program.structs

  value_adds : (scope : Scope) (v : Value) (mode : Mode) (from to : Spot) (lowered : Lowered) → ValueCode program points scope mode v from to lowered → Adds structs (value_nodes v) 0 from to
  value_adds scope v mode from to lowered code = names_add structs (value_nodes v) (omega arith) (value_fewer program points scope v mode from to lowered code)

  begins_names : (home : Home) (given : Lowered) (from to : Spot) → Begins points home given from to → Names 0 0 from to
  begins_names home given from to code = by home.is_object given code
    where
      by : (b : Bool) (given : Lowered) → Begins points (record home { is_object = b }) given from to → Names 0 0 from to
      by false given code = writes_names points (R.Local home.local) given from to code
      by true (AsInteger own tree) code = point code.1
      by true (AsPointer pointer target) code = point code.1
      by true (AsObject path own) code = absurd code
      by true AsNothing code = absurd code

  first_adds : (scope : Scope) (home : Home) (first : Option Value) (from to : Spot) → FirstCode program points scope home first from to → Adds structs (optional_nodes first) 0 from to
  first_adds scope home None from to code = nothing_added structs (stays code)
  first_adds scope home (Some v) from to code =
      adds_at_most structs (value_nodes v) 0 (omega arith) (omega arith) (adds_then structs (value_adds scope v Kept from code.0 code.1 code.2) (nothing_added structs (begins_names home code.1 code.0 to code.3)))

  local_adds : (scope : Scope) (local : LocalDef) (is_taken : Bool) (from to : Spot) (home : Home) → LocalCode program points scope local is_taken from to home → Adds structs (local_nodes local) (rounded table local.c_type) from to
  local_adds scope local is_taken from to home code =
      let same = ap (λ (home : Home). rounded table home.c_type) code.0 in
      adds_at_most structs (suc (optional_nodes local.first)) (rounded table local.c_type) (omega arith) (omega (arith, same))
      (adds_then structs (names_add structs 1 (omega arith) (names_variable from)) (adds_then structs (home_adds structs home (with_variable from))
      (first_adds (home ∷ scope) home local.first (with_home home (with_variable from)) to code.1)))

  locals_add : (scope : Scope) (is_taken : ℕ → Bool) (locals : List LocalDef) (from to : Spot) (inner : Scope) → locals_size table locals ≤ greatest_objects
      → LocalsCode program points scope is_taken locals from to inner → Adds structs (locals_nodes locals) (locals_size table locals) from to
  locals_add scope is_taken [] from to inner h code = nothing_added structs (stays code.0)
  locals_add scope is_taken (first ∷ others) from to inner h code =
      let exact = frame_sum (rounded table first.c_type) (locals_size table others) h in
      let sum = exact.sum in
      adds_at_most structs (local_nodes first + locals_nodes others) (added (rounded table first.c_type) (locals_size table others)) (omega arith) (omega (arith, sum))
      (adds_then structs (local_adds scope first _ from code.0 code.1 code.2) (locals_add (code.1 ∷ scope) is_taken others code.0 to inner exact.second code.3))

  start_adds : (scope : Scope) (is_taken : ℕ → Bool) (begin : ForStart) (from to : Spot) (inner : Scope) → start_size table begin ≤ greatest_objects
      → StartCode program points scope is_taken begin from to inner → Adds structs (start_nodes begin) (start_size table begin) from to
  start_adds scope is_taken T.StartNothing from to inner h code = nothing_added structs (stays code.0)
  start_adds scope is_taken (T.StartValue v) from to inner h code = value_adds scope v Dropped from to code.0 code.1
  start_adds scope is_taken (T.StartLocals locals) from to inner h code = locals_add scope is_taken locals from to inner h code

  branch_adds : (scope : Scope) (condition : Value) (from to : Spot) (holds fails : ℕ) → BranchCode program points scope condition from to holds fails → Adds structs (value_nodes condition) 0 from to
  branch_adds scope condition from to holds fails code =
      adds_at_most structs (value_nodes condition) 0 (omega arith) (omega arith) (adds_then structs (value_adds scope condition Kept from code.0 (AsInteger code.1 code.2) code.3) (point_added structs code.4.1))

  test_adds : (scope : Scope) (condition : Option Value) (from to : Spot) (holds fails : ℕ) → TestCode program points scope condition from to holds fails → Adds structs (optional_nodes condition) 0 from to
  test_adds scope None from to holds fails code = point_added structs code.1
  test_adds scope (Some condition) from to holds fails code = branch_adds scope condition from to holds fails code

  step_adds : (scope : Scope) (step : Option Value) (from to : Spot) → StepCode program points scope step from to → Adds structs (optional_nodes step) 0 from to
  step_adds scope None from to code = nothing_added structs (stays code)
  step_adds scope (Some v) from to code = value_adds scope v Dropped from to code.0 code.1

  return_adds : (given : Lowered) (from to : Spot) → ReturnCode program points given from to → Adds structs 0 0 from to
  return_adds (AsInteger own tree) from to code = point_added structs code.1
  return_adds (AsPointer pointer target) from to code = point_added structs code.1
  return_adds (AsObject path own) from to code = absurd code
  return_adds AsNothing from to code = absurd code

  mutual
    pub stmt_adds : (tree : Stmt) (scope : Scope) (from to : Spot) (ways : Ways program points) → stmt_size table tree ≤ greatest_objects → StmtCode program points scope tree from to ways
        → Adds structs (stmt_nodes tree) (stmt_size table tree) from to
    stmt_adds (T.BlockStmt items) scope from to ways h code =
        adds_at_most structs (suc (block_nodes items)) (block_size table items) (omega arith) (omega arith) (block_adds items scope from to ways h code)
    stmt_adds T.Empty scope from to ways h code = adds_at_most structs 1 0 (omega arith) (omega arith) (nothing_added structs (stays code))
    stmt_adds (T.Expression v) scope from to ways h code = adds_at_most structs (suc (value_nodes v)) 0 (omega arith) (omega arith) (value_adds scope v Dropped from to code.0 code.1)
    stmt_adds (T.If condition taken) scope from to ways h code =
        adds_at_most structs (suc (value_nodes condition + stmt_nodes taken)) (stmt_size table taken) (omega arith) (omega arith)
        (adds_then structs (branch_adds scope condition from code.0 code.0.at to.at code.1) (stmt_adds taken scope code.0 to ways h code.2))
    stmt_adds (T.IfElse condition taken otherwise) scope from to ways h code =
        let exact = frame_sum (stmt_size table taken) (stmt_size table otherwise) h in
        let sum = exact.sum in
        adds_at_most structs (suc (value_nodes condition + (stmt_nodes taken + stmt_nodes otherwise))) (added (stmt_size table taken) (stmt_size table otherwise)) (omega arith) (omega (arith, sum))
        (adds_then structs (branch_adds scope condition from code.0 code.0.at (suc code.1.at) code.2) (adds_then structs (stmt_adds taken scope code.0 code.1 ways exact.first code.3)
        (adds_then structs (past structs code.1) (stmt_adds otherwise scope (behind code.1) to ways exact.second code.5))))
    stmt_adds (T.While condition body) scope from to ways h code =
        adds_at_most structs (suc (value_nodes condition + stmt_nodes body)) (stmt_size table body) (omega arith) (omega arith)
        (adds_then structs (branch_adds scope condition from code.0 (suc code.0.at) code.0.at code.2) (adds_then structs (past structs code.0)
        (adds_then structs (stmt_adds body scope (behind code.0) code.1 (record { broken = code.0.at; continued = from.at }) h code.4) (point_added structs code.5.1))))
    stmt_adds (T.DoWhile body condition) scope from to ways h code =
        adds_at_most structs (suc (stmt_nodes body + value_nodes condition)) (stmt_size table body) (omega arith) (omega arith)
        (adds_then structs (past structs from) (adds_then structs (past structs (behind from)) (adds_then structs (past structs (behind (behind from)))
        (adds_then structs (stmt_adds body scope (behind (behind (behind from))) code.0 (record { broken = suc from.at; continued = suc (suc from.at) }) h code.4)
        (branch_adds scope condition code.0 to (suc (suc (suc from.at))) (suc from.at) code.5)))))
    stmt_adds (T.For begin condition step body) scope from to ways h code =
        let exact = frame_sum (start_size table begin) (stmt_size table body) h in
        let sum = exact.sum in
        adds_at_most structs (suc (start_nodes begin + (optional_nodes condition + (optional_nodes step + stmt_nodes body)))) (added (start_size table begin) (stmt_size table body)) (omega arith) (omega (arith, sum))
        (adds_then structs (start_adds scope _ begin from code.0 code.4 exact.first code.5) (adds_then structs (test_adds code.4 condition code.0 code.1 (suc code.2.at) code.1.at code.6)
        (adds_then structs (past structs code.1) (adds_then structs (step_adds code.4 step (behind code.1) code.2 code.8) (adds_then structs (past structs code.2)
        (adds_then structs (stmt_adds body code.4 (behind code.2) code.3 (record { broken = code.1.at; continued = suc code.1.at }) exact.second code.10) (point_added structs code.11.1)))))))
    stmt_adds (T.Switch v items) scope from to ways h code =
        let next = behind (behind (behind (with_temporary code.0))) in
        let inside = switch_adds items scope code.2 (R.Temporary code.0.counts.temporaries) (suc code.1.at) next code.1 code.5 code.4 (record { broken = suc (suc code.0.at); continued = ways.continued }) h code.11 in
        let ending = point {from = record code.1 { at = code.5 }} code.14.1 in
        let begun = adds_then structs (past structs (with_temporary code.0)) (adds_then structs (past structs (behind (with_temporary code.0))) (past structs (behind (behind (with_temporary code.0))))) in
        adds_at_most structs (suc (value_nodes v + switch_nodes items)) (switch_size table items) (omega arith) (omega arith)
        (adds_then structs (value_adds scope v Kept from code.0 (AsInteger code.2 code.3) code.7) (adds_then structs (names_add structs 1 (omega arith) (names_temporary code.0))
        (adds_then structs begun (adds_then structs inside (nothing_added structs (record { count = ending.count; objects = ending.objects }))))))
    stmt_adds T.Break scope from to ways h code = adds_at_most structs 1 0 (omega arith) (omega arith) (point_added structs code.1)
    stmt_adds T.Continue scope from to ways h code = adds_at_most structs 1 0 (omega arith) (omega arith) (point_added structs code.1)
    stmt_adds (T.Return None) scope from to ways h code = adds_at_most structs 1 0 (omega arith) (omega arith) (point_added structs code.1)
    stmt_adds (T.Return (Some v)) scope from to ways h code =
        adds_at_most structs (suc (value_nodes v)) 0 (omega arith) (omega arith) (adds_then structs (value_adds scope v Kept from code.0 code.1 code.2) (return_adds code.1 code.0 to code.3))

    pub block_adds : (items : Block) (scope : Scope) (from to : Spot) (ways : Ways program points) → block_size table items ≤ greatest_objects → BlockCode program points scope items from to ways
        → Adds structs (block_nodes items) (block_size table items) from to
    block_adds T.Close scope from to ways h code = nothing_added structs (stays code)
    block_adds (T.Declare local others) scope from to ways h code =
        let exact = frame_sum (rounded table local.c_type) (block_size table others) h in
        let sum = exact.sum in
        adds_at_most structs (local_nodes local + block_nodes others) (added (rounded table local.c_type) (block_size table others)) (omega arith) (omega (arith, sum))
        (adds_then structs (local_adds scope local _ from code.0 code.1 code.2) (block_adds others (code.1 ∷ scope) code.0 to ways exact.second code.3))
    block_adds (T.Perform one others) scope from to ways h code =
        let exact = frame_sum (stmt_size table one) (block_size table others) h in
        let sum = exact.sum in
        adds_at_most structs (stmt_nodes one + block_nodes others) (added (stmt_size table one) (block_size table others)) (omega arith) (omega (arith, sum))
        (adds_then structs (stmt_adds one scope from code.0 ways exact.first code.1) (block_adds others scope code.0 to ways exact.second code.2))

    pub switch_adds : (items : SwitchItems) (scope : Scope) (own : IntType) (switched : Register) (tests : ℕ) (from to : Spot) (last : ℕ) (default : Option ℕ) (ways : Ways program points)
        → switch_size table items ≤ greatest_objects → SwitchCode program points scope items own switched tests from to last default ways → Adds structs (switch_nodes items) (switch_size table items) from to
    switch_adds T.SwitchEnd scope own switched tests from to last default ways h code = nothing_added structs (stays code.0)
    switch_adds (T.Case label others) scope own switched tests from to last default ways h code =
        adds_at_most structs (suc (switch_nodes others)) (switch_size table others) (omega arith) (omega arith) (switch_adds others scope own switched (suc tests) from to last default ways h code.1)
    switch_adds (T.Default others) scope own switched tests from to last default ways h code =
        adds_at_most structs (suc (switch_nodes others)) (switch_size table others) (omega arith) (omega arith) (switch_adds others scope own switched tests from to last code.0 ways h code.2)
    switch_adds (T.SwitchStmt one others) scope own switched tests from to last default ways h code =
        let exact = frame_sum (stmt_size table one) (switch_size table others) h in
        let sum = exact.sum in
        adds_at_most structs (stmt_nodes one + switch_nodes others) (added (stmt_size table one) (switch_size table others)) (omega arith) (omega (arith, sum))
        (adds_then structs (stmt_adds one scope from code.0 ways exact.first code.1) (switch_adds others scope own switched tests code.0 to last default ways exact.second code.2))
