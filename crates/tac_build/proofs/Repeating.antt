-- The code of `if`, of loops and of `switch`: points that are reserved, what stands behind them, and how they are filled in.
use Rattle.std.proofs.Common.{◌≡◌, ℕ, suc, ◌+◌, ◌≤◌, unwrap_or, List, Option, Some, None, length, refl, sym, ap, ◌∙◌, subst, arith}
use Rattle.c_num.specs.declared.IntType.{IntType}
use Rattle.c_typed.specs.declared.typed.Value as memory_value
use Rattle.c_typed.specs.declared.statement.Stmt as memory_stmt
use Rattle.c_typed.specs.declared.statement.SwitchItem as memory_switch
use Rattle.c_typed.specs.Table.{Interned}
use Rattle.c_typed.specs.Typed as T
use Rattle.c_typed.specs.Typed.{Value, Stmt, Program}
use Rattle.c_typed.specs.Views.{value_in}
use Rattle.c_typed.specs.StatementViews.{optional_value_in, stmt_in, switch_in, start_in}
use Rattle.c_typed.specs.declared.statement.ForStart as memory_start
use Rattle.tac_ir.specs.declared.op.Op as memory_op
use Rattle.tac_ir.specs.declared.op.Op.TheVariants as M
use Rattle.tac_ir.specs.declared.register.PointId.{PointId}
use Rattle.tac_ir.specs.declared.program.Counts.{Counts}
use Rattle.tac_ir.specs.Code as O
use Rattle.tac_ir.specs.Code.{Tree, Op}
use Rattle.tac_ir.specs.Views.{tree_of, op_in}
use Rattle.tac_build.specs.declared.builder.Builder.{Builder}
use Rattle.tac_build.specs.declared.names.Source.{Source}
use Rattle.tac_build.specs.declared.homes.Home as memory_home
use Rattle.tac_build.specs.declared.lowered.IntegerValue.{IntegerValue}
use Rattle.tac_build.specs.declared.statements.Ways as memory_ways
use Rattle.tac_build.specs.declared.switches.Labels.{Labels}
use Rattle.tac_build.specs.declared.switches.Switched.{Switched}
use Rattle.tac_build.specs.Homes.{Scope}
use Rattle.tac_build.specs.Spots.{Spot, behind, with_temporary, temporary, Kept, AsInteger}
use Rattle.tac_build.specs.Code.{HasOp, Emits, ValueCode}
use Rattle.tac_build.specs.StatementCode.{BranchCode, TestCode, StepCode, StmtCode, SwitchCode, GoesPast}
use Rattle.tac_build.specs.Building.{Fills, Grows, GrowsBut, IsReserved, points_in, spot_of, names_of, Leads, LeadsIn}
use Rattle.tac_build.specs.Taken.{taken_in_turns}
use Rattle.tac_build.specs.Lowering.{program_in, types_of_source, scope_of}
use Rattle.tac_build.specs.LoweringStatements.{ways_in, turn_op, place_of, TestsStand, TestsCode, ConditionLowers, TestLowers, StepLowers, OwnLowers, TurnsLower, StartLowers, StmtLowers, SwitchLowers, SwitchedLowers, ItemsLower}
use Rattle.tac_build.proofs.Points.{fills_grown, fills_but, grows_on, grows_beyond, emits_from}

-- ---- points that are reserved and filled in

pub record Reserves (old new : Builder) (at : ℕ) : Type 0 where
  pub place : at ≡ length old.points.items
  pub is : IsReserved new at
  pub spot : (table : Interned) → spot_of table new ≡ behind (spot_of table old)
  pub grows : Grows old new

pub record FillsIn (at : ℕ) (op : Op) (old new : Builder) : Type 0 where
  pub code : (table : Interned) (points : List Op) → Fills (points_in table new) points → HasOp points at op
  pub spot : (table : Interned) → spot_of table new ≡ spot_of table old
  pub grows : GrowsBut at old new

-- how many points stand at a spot
at_of : (source : Source) (one other : Builder) → spot_of (types_of_source source) one ≡ spot_of (types_of_source source) other → length one.points.items ≡ length other.points.items
at_of source one other same = ap (λ (spot : Spot). spot.at) same

at_next : (source : Source) (old new : Builder) (at : ℕ) → Reserves old new at → length new.points.items ≡ suc (length old.points.items)
at_next source old new at reserves = ap (λ (spot : Spot). spot.at) (reserves.spot (types_of_source source))

pub grows_filled : (old mid new : Builder) (at : ℕ) (op : Op) → length old.points.items ≤ at → Grows old mid → FillsIn at op mid new → Grows old new
grows_filled old mid new at op beyond grows filled = grows_beyond old mid new at beyond grows filled.grows

pub grows_past : (old mid filled new : Builder) (at : ℕ) (op : Op) → length old.points.items ≤ at → Grows old mid → FillsIn at op mid filled → Grows filled new → Grows old new
grows_past old mid filled new at op beyond grows fills later = grows_on old filled new (grows_filled old mid filled at op beyond grows fills) later

-- a reserved point stays while others are filled in
pub still : (old new : Builder) (at other : ℕ) (op : Op) → (at ≡ other → ⊥) → IsReserved old at → FillsIn other op old new → IsReserved new at
still old new at other op apart reserved filled = filled.grows.stands at M.Reserved apart reserved

pub still_on : (old new : Builder) (at : ℕ) → IsReserved old at → Grows old new → IsReserved new at
still_on old new at reserved grows = grows.stands at M.Reserved reserved

pub still_past : (old mid filled new : Builder) (at other : ℕ) (op : Op) → IsReserved old at → Grows old mid → FillsIn other op mid filled → (at ≡ other → ⊥) → Grows filled new → IsReserved new at
still_past old mid filled new at other op reserved grows fills apart later = still_on filled new at (still mid filled at other op apart (still_on old mid at reserved grows) fills) later

-- a point that is reserved later is another one
pub later_apart : (source : Source) (one two three four : Builder) (first second : ℕ) → Reserves one two first → length two.points.items ≤ length three.points.items → Reserves three four second → second ≡ first → ⊥
later_apart source one two three four first second early longer late same =
    let next = at_next source one two first early in
    let first_place = early.place in
    let second_place = late.place in
    absurd (omega (arith, same, next, first_place, second_place, longer))

-- ---- counts that stay

pub variables_same : (old new : Builder) → new.counts ≡ old.counts → new.counts.variables ≡ old.counts.variables
variables_same old new same = ap (λ (counts : Counts). counts.variables) same

pub names_same : (old new : Builder) → new.counts ≡ old.counts → names_of new.counts ≡ names_of old.counts
names_same old new same = ap names_of same

-- ---- branches

branch_code : (program : Program) (points : List Op) (scope : Scope) (condition : Value) (from test to : Spot) (own : IntType) (tree : Tree) (at holds fails : ℕ) → ValueCode program points scope Kept condition from test (AsInteger own tree)
    → at ≡ test.at → HasOp points at (O.Branch own tree holds fails) → to ≡ behind test → BranchCode program points scope condition from to holds fails
branch_code program points scope condition from test to own tree at holds fails code place op is =
    (test, own, tree, code, (subst (λ at. HasOp points at (O.Branch own tree holds fails)) place op, is))

branch_to : (own : IntType) (tree : Tree) {a b c d : ℕ} → a ≡ b → c ≡ d → Some (O.Branch own tree a c) ≡ Some (O.Branch own tree b d)
branch_to own tree first second = λ i. Some (O.Branch own tree (first i) (second i))

jump_to : {a b : ℕ} → a ≡ b → Some (O.Jump a) ≡ Some (O.Jump b)
jump_to same = λ i. Some (O.Jump (same i))

-- ---- `if`

abbrev pub TreeLowers : Source → List memory_home.Home → memory_ways.Ways → Stmt → Builder → Builder → Type 0
TreeLowers source scope ways stmt old new =
    LeadsIn (types_of_source source) (λ points from to. StmtCode (program_in source) points (scope_of source scope) stmt from to (ways_in source points ways)) old new

module _ (source : Source) (scope : List memory_home.Home) where
  abbrev table : Interned
  table = types_of_source source

  pub if_lowers : (ways : memory_ways.Ways) (condition : memory_value.Value) (body : memory_stmt.Stmt) (old tested reserved done new : Builder) (integer : IntegerValue) (test : ℕ)
      → ConditionLowers source scope condition old tested integer → Reserves tested reserved test → StmtLowers source scope ways body reserved done → Grows reserved done
      → FillsIn test (O.Branch integer.int_type (tree_of integer.tree.value) (suc test) (length done.points.items)) done new
      → TreeLowers source scope ways (T.If (value_in (types_of_source source) condition) (stmt_in (types_of_source source) body)) old new
  if_lowers ways condition body old tested reserved done new integer test lowers reserves performs grows filled = λ points fills.
      let own = integer.int_type in
      let tree = tree_of integer.tree.value in
      let at_done = fills_but table done new test points (still_on reserved done test reserves.is grows) filled.grows fills in
      let at_reserved = fills_grown table reserved done points grows at_done in
      let at_tested = fills_grown table tested reserved points reserves.grows at_reserved in
      let inside : suc test ≡ length reserved.points.items = ap suc reserves.place ∙ sym (at_next source tested reserved test reserves) in
      let end = at_of source done new (sym (filled.spot table)) in
      let tested_code = branch_code (program_in source) points (scope_of source scope) (value_in table condition) (spot_of table old) (spot_of table tested) (spot_of table reserved) own tree test
      (length reserved.points.items) (length new.points.items) (lowers points at_tested) reserves.place (filled.code table points fills ∙ branch_to own tree inside end) (reserves.spot table) in
      let body_code = subst (λ spot. StmtCode (program_in source) points (scope_of source scope) (stmt_in table body) (spot_of table reserved) spot (ways_in source points ways)) (sym (filled.spot table)) (performs points at_done) in
      (spot_of table reserved, tested_code, body_code)

  pub if_else_lowers : (ways : memory_ways.Ways) (condition : memory_value.Value) (body otherwise : memory_stmt.Stmt) (old tested reserved done ended filled last new : Builder) (integer : IntegerValue) (test jump : ℕ)
      → ConditionLowers source scope condition old tested integer → Reserves tested reserved test → StmtLowers source scope ways body reserved done → Grows reserved done
      → Reserves done ended jump
      → FillsIn test (O.Branch integer.int_type (tree_of integer.tree.value) (suc test) (length ended.points.items)) ended filled
      → StmtLowers source scope ways otherwise filled last → Grows filled last
      → FillsIn jump (O.Jump (length last.points.items)) last new
      → TreeLowers source scope ways (T.IfElse (value_in (types_of_source source) condition) (stmt_in (types_of_source source) body) (stmt_in (types_of_source source) otherwise)) old new
  if_else_lowers ways condition body otherwise old tested reserved done ended filled last new integer test jump lowers reserves performs grows ends fills_test others others_grow fills_jump = λ points fills.
      let own = integer.int_type in
      let tree = tree_of integer.tree.value in
      let next = at_next source tested reserved test reserves in
      let test_place = reserves.place in
      let jump_place = ends.place in
      let longer = grows.longer in
      let apart : jump ≡ test → ⊥ = λ e. absurd (omega (arith, e, next, test_place, jump_place, longer)) in
      let jump_last = still_on filled last jump (still ended filled jump test (O.Branch own tree (suc test) (length ended.points.items)) apart ends.is fills_test) others_grow in
      let at_last = fills_but table last new jump points jump_last fills_jump.grows fills in
      let at_filled = fills_grown table filled last points others_grow at_last in
      let test_ended = still_on done ended test (still_on reserved done test reserves.is grows) ends.grows in
      let at_ended = fills_but table ended filled test points test_ended fills_test.grows at_filled in
      let at_done = fills_grown table done ended points ends.grows at_ended in
      let at_reserved = fills_grown table reserved done points grows at_done in
      let at_tested = fills_grown table tested reserved points reserves.grows at_reserved in
      let inside : suc test ≡ length reserved.points.items = ap suc test_place ∙ sym next in
      let behind_jump = at_next source done ended jump ends in
      let end = at_of source last new (sym (fills_jump.spot table)) in
      let tested_code = branch_code (program_in source) points (scope_of source scope) (value_in table condition) (spot_of table old) (spot_of table tested) (spot_of table reserved) own tree test
      (length reserved.points.items) (suc (length done.points.items)) (lowers points at_tested) test_place (fills_test.code table points at_filled ∙ branch_to own tree inside behind_jump) (reserves.spot table) in
      let jumped = subst (λ at. HasOp points at (O.Jump (length new.points.items))) jump_place (fills_jump.code table points fills ∙ jump_to end) in
      let from_there = subst (λ spot. StmtCode (program_in source) points (scope_of source scope) (stmt_in table otherwise) spot (spot_of table last) (ways_in source points ways)) (fills_test.spot table ∙ ends.spot table) (others points at_last) in
      let to_end = subst (λ spot. StmtCode (program_in source) points (scope_of source scope) (stmt_in table otherwise) (behind (spot_of table done)) spot (ways_in source points ways)) (sym (fills_jump.spot table)) from_there in
      (spot_of table reserved, spot_of table done, tested_code, performs points at_done, jumped, to_end)

  -- ---- loops

  -- the body of a loop, between other ways of the same places
  in_ways : (points : List Op) (stmt : Stmt) (from to : Spot) (ways : memory_ways.Ways) (broken continued : ℕ) → ways.broken.0 ≡ broken → ways.continued.0 ≡ continued
      → StmtCode (program_in source) points (scope_of source scope) stmt from to (ways_in source points ways)
      → StmtCode (program_in source) points (scope_of source scope) stmt from to (record { broken = broken; continued = continued })
  in_ways points stmt from to ways broken continued is_broken is_continued code =
      let first = subst (λ broken. StmtCode (program_in source) points (scope_of source scope) stmt from to (record { broken = broken; continued = ways.continued.0 })) is_broken code in
      subst (λ continued. StmtCode (program_in source) points (scope_of source scope) stmt from to (record { broken = broken; continued = continued })) is_continued first

  pub while_lowers : (condition : memory_value.Value) (body : memory_stmt.Stmt) (old tested branched reserved done jumped new : Builder) (integer : IntegerValue) (op : memory_op.Op) (ways : memory_ways.Ways)
      → ConditionLowers source scope condition old tested integer
      → ((table : Interned) → op_in table op ≡ O.Branch integer.int_type (tree_of integer.tree.value) (suc (suc (length tested.points.items))) (suc (length tested.points.items)))
      → Leads (λ table points. Emits points (op_in table op)) tested branched → Grows tested branched
      → Reserves branched reserved ways.broken.0 → ways.continued.0 ≡ length old.points.items
      → StmtLowers source scope ways body reserved done → Grows reserved done
      → Leads (λ table points. Emits points (O.Jump ways.continued.0)) done jumped → Grows done jumped
      → FillsIn ways.broken.0 (O.Jump (length jumped.points.items)) jumped new
      → OwnLowers source scope (T.While (value_in (types_of_source source) condition) (stmt_in (types_of_source source) body)) old new
  while_lowers condition body old tested branched reserved done jumped new integer op ways lowers is_op emits emits_grow reserves entry performs grows jumps jumps_grow filled = λ points fills outer.
      let own = integer.int_type in
      let tree = tree_of integer.tree.value in
      let exit_jumped = still_on done jumped ways.broken.0 (still_on reserved done ways.broken.0 reserves.is grows) jumps_grow in
      let at_jumped = fills_but table jumped new ways.broken.0 points exit_jumped filled.grows fills in
      let at_done = fills_grown table done jumped points jumps_grow at_jumped in
      let at_reserved = fills_grown table reserved done points grows at_done in
      let at_branched = fills_grown table branched reserved points reserves.grows at_reserved in
      let at_tested = fills_grown table tested branched points emits_grow at_branched in
      let emitted = emits table points at_branched in
      let exit : length branched.points.items ≡ suc (length tested.points.items) = ap (λ (spot : Spot). spot.at) emitted.1 in
      let end = at_of source jumped new (sym (filled.spot table)) in
      let tested_code = branch_code (program_in source) points (scope_of source scope) (value_in table condition) (spot_of table old) (spot_of table tested) (spot_of table branched) own tree (length tested.points.items)
      (suc (length branched.points.items)) (length branched.points.items) (lowers points at_tested) refl
      (emitted.0 ∙ (λ i. Some (is_op table i)) ∙ branch_to own tree (ap suc (sym exit)) (sym exit)) emitted.1 in
      let out = subst (λ at. HasOp points at (O.Jump (length new.points.items))) reserves.place (filled.code table points fills ∙ jump_to end) in
      let inside = subst (λ spot. StmtCode (program_in source) points (scope_of source scope) (stmt_in table body) spot (spot_of table done) (ways_in source points ways)) (reserves.spot table) (performs points at_done) in
      let body_code = in_ways points (stmt_in table body) (behind (spot_of table branched)) (spot_of table done) ways (length branched.points.items) (length old.points.items) reserves.place entry inside in
      let back = jumps table points at_jumped in
      (spot_of table branched, spot_of table done, tested_code, out, body_code, (back.0 ∙ jump_to entry, filled.spot table ∙ back.1))

  pub do_lowers : (condition : memory_value.Value) (body : memory_stmt.Stmt) (old one two three entered done checked tested branched new : Builder) (integer : IntegerValue) (op : memory_op.Op) (entry : ℕ) (ways : memory_ways.Ways)
      → Reserves old one entry → Reserves one two ways.broken.0 → Reserves two three ways.continued.0
      → FillsIn entry (O.Jump (length three.points.items)) three entered
      → StmtLowers source scope ways body entered done → Grows entered done
      → FillsIn ways.continued.0 (O.Jump (length done.points.items)) done checked
      → ConditionLowers source scope condition checked tested integer → Grows checked tested
      → ((table : Interned) → op_in table op ≡ O.Branch integer.int_type (tree_of integer.tree.value) (length three.points.items) ways.broken.0)
      → Leads (λ table points. Emits points (op_in table op)) tested branched → Grows tested branched
      → FillsIn ways.broken.0 (O.Jump (length branched.points.items)) branched new
      → OwnLowers source scope (T.DoWhile (stmt_in (types_of_source source) body) (value_in (types_of_source source) condition)) old new
  do_lowers condition body old one two three entered done checked tested branched new integer op entry ways enters exits checks fills_entry performs grows fills_check lowers lowers_grow is_op emits emits_grow fills_exit = λ points fills outer.
      let own = integer.int_type in
      let tree = tree_of integer.tree.value in
      let broken = ways.broken.0 in
      let continued = ways.continued.0 in
      let next_one = at_next source old one entry enters in
      let next_two = at_next source one two broken exits in
      let next_three = at_next source two three continued checks in
      let entry_place = enters.place in
      let broken_place = exits.place in
      let continued_place = checks.place in
      let broken_entry : broken ≡ entry → ⊥ = λ e. absurd (omega (arith, e, entry_place, broken_place, next_one)) in
      let continued_entry : continued ≡ entry → ⊥ = λ e. absurd (omega (arith, e, entry_place, continued_place, next_one, next_two)) in
      let broken_continued : broken ≡ continued → ⊥ = λ e. absurd (omega (arith, e, broken_place, continued_place, next_two)) in
      let broken_three = still_on two three broken exits.is checks.grows in
      let broken_done = still_on entered done broken (still three entered broken entry (O.Jump (length three.points.items)) broken_entry broken_three fills_entry) grows in
      let broken_checked = still done checked broken continued (O.Jump (length done.points.items)) broken_continued broken_done fills_check in
      let broken_branched = still_on tested branched broken (still_on checked tested broken broken_checked lowers_grow) emits_grow in
      let continued_done = still_on entered done continued (still three entered continued entry (O.Jump (length three.points.items)) continued_entry checks.is fills_entry) grows in
      let at_branched = fills_but table branched new broken points broken_branched fills_exit.grows fills in
      let at_tested = fills_grown table tested branched points emits_grow at_branched in
      let at_checked = fills_grown table checked tested points lowers_grow at_tested in
      let at_done = fills_but table done checked continued points continued_done fills_check.grows at_checked in
      let at_entered = fills_grown table entered done points grows at_done in
      let emitted = emits table points at_branched in
      let here : length three.points.items ≡ suc (suc (suc (length old.points.items))) = omega (arith, next_one, next_two, next_three) in
      let second : broken ≡ suc (length old.points.items) = omega (arith, broken_place, next_one) in
      let third : continued ≡ suc (suc (length old.points.items)) = omega (arith, continued_place, next_one, next_two) in
      let end = at_of source branched new (sym (fills_exit.spot table)) in
      let first_jump = subst (λ at. HasOp points at (O.Jump (suc (suc (suc (length old.points.items)))))) entry_place (fills_entry.code table points at_entered ∙ jump_to here) in
      let second_jump = subst (λ at. HasOp points at (O.Jump (length new.points.items))) second (fills_exit.code table points fills ∙ jump_to end) in
      let third_jump = subst (λ at. HasOp points at (O.Jump (length done.points.items))) third (fills_check.code table points at_checked) in
      let inside_spot : spot_of table entered ≡ behind (behind (behind (spot_of table old))) = fills_entry.spot table ∙ checks.spot table ∙ ap behind (exits.spot table ∙ ap behind (enters.spot table)) in
      let inside = subst (λ spot. StmtCode (program_in source) points (scope_of source scope) (stmt_in table body) spot (spot_of table done) (ways_in source points ways)) inside_spot (performs points at_done) in
      let body_code = in_ways points (stmt_in table body) (behind (behind (behind (spot_of table old)))) (spot_of table done) ways (suc (length old.points.items)) (suc (suc (length old.points.items))) second third inside in
      let condition_code = subst (λ spot. ValueCode (program_in source) points (scope_of source scope) Kept (value_in table condition) spot (spot_of table tested) (AsInteger own tree)) (fills_check.spot table) (lowers points at_tested) in
      let tested_code = branch_code (program_in source) points (scope_of source scope) (value_in table condition) (spot_of table done) (spot_of table tested) (spot_of table new) own tree (length tested.points.items)
      (suc (suc (suc (length old.points.items)))) (suc (length old.points.items)) condition_code refl
      (emitted.0 ∙ (λ i. Some (is_op table i)) ∙ branch_to own tree here second) (fills_exit.spot table ∙ emitted.1) in
      (spot_of table done, first_jump, second_jump, third_jump, body_code, tested_code)

  -- the test of a `for`
  test_code : (points : List Op) (value : Option memory_value.Value) (condition : Option IntegerValue) (old tested reserved : Builder) (test holds fails : ℕ) → TestLowers source scope value old tested condition → Fills (points_in (types_of_source source) tested) points
      → Reserves tested reserved test → HasOp points test (turn_op condition holds fails)
      → TestCode (program_in source) points (scope_of source scope) (optional_value_in (types_of_source source) value) (spot_of (types_of_source source) old) (spot_of (types_of_source source) reserved) holds fails
  test_code points (Some value) (Some condition) old tested reserved test holds fails lowers at_tested reserves op =
      branch_code (program_in source) points (scope_of source scope) (value_in table value) (spot_of table old) (spot_of table tested) (spot_of table reserved) condition.int_type (tree_of condition.tree.value) test holds fails
      (lowers points at_tested) reserves.place op (reserves.spot table)
  test_code points None None old tested reserved test holds fails lowers at_tested reserves op =
      (subst (λ at. HasOp points at (O.Jump holds)) (reserves.place ∙ ap (λ (builder : Builder). length builder.points.items) lowers) op, reserves.spot table ∙ ap (λ builder. behind (spot_of table builder)) lowers)
  test_code points (Some value) None old tested reserved test holds fails lowers at_tested reserves op = absurd lowers
  test_code points None (Some condition) old tested reserved test holds fails lowers at_tested reserves op = absurd lowers

  pub turns_lower : (condition step : Option memory_value.Value) (body : memory_stmt.Stmt) (old tested one two stepped jumped filled done back new : Builder) (integer : Option IntegerValue) (test : ℕ) (ways : memory_ways.Ways)
      → TestLowers source scope condition old tested integer → Reserves tested one test → Reserves one two ways.broken.0 → ways.continued.0 ≡ length two.points.items
      → StepLowers source scope step two stepped → Grows two stepped
      → Leads (λ table points. Emits points (O.Jump (length old.points.items))) stepped jumped → Grows stepped jumped
      → FillsIn test (turn_op integer (length jumped.points.items) ways.broken.0) jumped filled
      → StmtLowers source scope ways body filled done → Grows filled done
      → Leads (λ table points. Emits points (O.Jump ways.continued.0)) done back → Grows done back
      → FillsIn ways.broken.0 (O.Jump (length back.points.items)) back new
      → TurnsLower source scope condition step body old new
  turns_lower condition step body old tested one two stepped jumped filled done back new integer test ways lowers tests exits next steps steps_grow jumps jumps_grow fills_test performs grows backs backs_grow fills_exit = λ points fills.
      let broken = ways.broken.0 in
      let continued = ways.continued.0 in
      let next_one = at_next source tested one test tests in
      let next_two = at_next source one two broken exits in
      let test_place = tests.place in
      let broken_place = exits.place in
      let broken_test : broken ≡ test → ⊥ = λ e. absurd (omega (arith, e, test_place, broken_place, next_one)) in
      let broken_jumped = still_on stepped jumped broken (still_on two stepped broken exits.is steps_grow) jumps_grow in
      let broken_filled = still jumped filled broken test (turn_op integer (length jumped.points.items) broken) broken_test broken_jumped fills_test in
      let broken_back = still_on done back broken (still_on filled done broken broken_filled grows) backs_grow in
      let test_jumped = still_on stepped jumped test (still_on two stepped test (still_on one two test tests.is exits.grows) steps_grow) jumps_grow in
      let at_back = fills_but table back new broken points broken_back fills_exit.grows fills in
      let at_done = fills_grown table done back points backs_grow at_back in
      let at_filled = fills_grown table filled done points grows at_done in
      let at_jumped = fills_but table jumped filled test points test_jumped fills_test.grows at_filled in
      let at_stepped = fills_grown table stepped jumped points jumps_grow at_jumped in
      let at_two = fills_grown table two stepped points steps_grow at_stepped in
      let at_one = fills_grown table one two points exits.grows at_two in
      let at_tested = fills_grown table tested one points tests.grows at_one in
      let jumped_code = jumps table points at_jumped in
      let inside : length jumped.points.items ≡ suc (length stepped.points.items) = ap (λ (spot : Spot). spot.at) jumped_code.1 in
      let end = at_of source back new (sym (fills_exit.spot table)) in
      let second : continued ≡ suc (length one.points.items) = next ∙ next_two in
      let tested_code = test_code points condition integer old tested one test (suc (length stepped.points.items)) (length one.points.items) lowers at_tested tests
      (fills_test.code table points at_filled ∙ (λ i. Some (turn_op integer (inside i) (broken_place i)))) in
      let out = subst (λ at. HasOp points at (O.Jump (length new.points.items))) broken_place (fills_exit.code table points fills ∙ jump_to end) in
      let stepped_code = subst (λ spot. StepCode (program_in source) points (scope_of source scope) (optional_value_in table step) spot (spot_of table stepped)) (exits.spot table) (steps points at_stepped) in
      let from_there = subst (λ spot. StmtCode (program_in source) points (scope_of source scope) (stmt_in table body) spot (spot_of table done) (ways_in source points ways)) (fills_test.spot table ∙ jumped_code.1) (performs points at_done) in
      let body_code = in_ways points (stmt_in table body) (behind (spot_of table stepped)) (spot_of table done) ways (length one.points.items) (suc (length one.points.items)) broken_place second from_there in
      let back_code = backs table points at_back in
      (spot_of table one, spot_of table stepped, spot_of table done, tested_code, out, stepped_code, jumped_code.0, body_code, (back_code.0 ∙ jump_to second, fills_exit.spot table ∙ back_code.1))

  -- ---- `switch`

  goes_past : (points : List Op) (default : Option PointId) (exit otherwise : PointId) (onward : ℕ) → otherwise ≡ unwrap_or default exit → exit.0 ≡ onward → GoesPast (program_in source) points (place_of default) otherwise.0 onward
  goes_past points (Some place) exit otherwise onward is same = ap (λ (place : PointId). place.0) is
  goes_past points None exit otherwise onward is same = ap (λ (place : PointId). place.0) is ∙ same

  pub switch_lowers : (outer : memory_ways.Ways) (value : memory_value.Value) (items : List memory_switch.SwitchItem) (old held one two done ended begun tested jumped new : Builder) (switched : Switched) (labels : Labels) (begin : ℕ) (otherwise exit : PointId)
      (ways : memory_ways.Ways)
      → SwitchedLowers source scope value old held switched → Reserves held one begin → Reserves one two exit.0 → ways.broken ≡ exit → ways.continued ≡ outer.continued
      → ItemsLower source scope ways items two done labels → Grows two done
      → Leads (λ table points. Emits points (O.Jump exit.0)) done ended → Grows done ended
      → FillsIn begin (O.Jump (length ended.points.items)) ended begun
      → Leads (λ table. TestsCode labels.cases.items switched) begun tested → Grows begun tested
      → otherwise ≡ unwrap_or labels.default exit
      → Leads (λ table points. Emits points (O.Jump otherwise.0)) tested jumped → Grows tested jumped
      → FillsIn exit.0 (O.Jump (length jumped.points.items)) jumped new
      → SwitchLowers source scope outer value items old new
  switch_lowers outer value items old held one two done ended begun tested jumped new switched labels begin otherwise exit ways switches begins exits is_broken is_continued performs grows ends ends_grow fills_begin tests tests_grow is_otherwise jumps jumps_grow fills_exit = λ points fills.
      let next_one = at_next source held one begin begins in
      let begin_place = begins.place in
      let exit_place = exits.place in
      let exit_begin : exit.0 ≡ begin → ⊥ = λ e. absurd (omega (arith, e, begin_place, exit_place, next_one)) in
      let exit_ended = still_on done ended exit.0 (still_on two done exit.0 exits.is grows) ends_grow in
      let exit_begun = still ended begun exit.0 begin (O.Jump (length ended.points.items)) exit_begin exit_ended fills_begin in
      let exit_jumped = still_on tested jumped exit.0 (still_on begun tested exit.0 exit_begun tests_grow) jumps_grow in
      let begin_ended = still_on done ended begin (still_on two done begin (still_on one two begin begins.is exits.grows) grows) ends_grow in
      let at_jumped = fills_but table jumped new exit.0 points exit_jumped fills_exit.grows fills in
      let at_tested = fills_grown table tested jumped points jumps_grow at_jumped in
      let at_begun = fills_grown table begun tested points tests_grow at_tested in
      let at_ended = fills_but table ended begun begin points begin_ended fills_begin.grows at_begun in
      let at_done = fills_grown table done ended points ends_grow at_ended in
      let at_two = fills_grown table two done points grows at_done in
      let at_one = fills_grown table one two points exits.grows at_two in
      let at_held = fills_grown table held one points begins.grows at_one in
      let held_code = switches points at_held in
      let first = held_code.0 in
      let held_spot : spot_of table held ≡ behind (with_temporary first) = held_code.5 in
      let held_at : length held.points.items ≡ suc first.at = ap (λ (spot : Spot). spot.at) held_spot in
      let begin_at : begin ≡ suc first.at = begin_place ∙ held_at in
      let exit_at : exit.0 ≡ suc (suc first.at) = exit_place ∙ next_one ∙ ap suc held_at in
      let ended_code = ends table points at_ended in
      let ended_at : length ended.points.items ≡ suc (length done.points.items) = ap (λ (spot : Spot). spot.at) ended_code.1 in
      let end = at_of source jumped new (sym (fills_exit.spot table)) in
      let begin_jump = subst (λ at. HasOp points at (O.Jump (suc (length done.points.items)))) begin_at (fills_begin.code table points at_begun ∙ jump_to ended_at) in
      let exit_jump = subst (λ at. HasOp points at (O.Jump (length new.points.items))) exit_at (fills_exit.code table points fills ∙ jump_to end) in
      let begun_spot : spot_of table begun ≡ behind (spot_of table done) = fills_begin.spot table ∙ ended_code.1 in
      let begun_at : length begun.points.items ≡ suc (length done.points.items) = ap (λ (spot : Spot). spot.at) begun_spot in
      let tests_code = tests table points at_tested in
      let own = switched.int_type in
      let count = length labels.cases.items in
      let tests_stand = subst (λ at. TestsStand points own switched.register at labels.cases.items) begun_at tests_code.0 in
      let items_tree = switch_in table items in
      let raw = performs points at_done own switched.register (suc (length done.points.items)) tests_stand in
      let two_spot : spot_of table two ≡ behind (behind (behind (with_temporary first))) = exits.spot table ∙ ap behind (begins.spot table ∙ ap behind held_spot) in
      let in_register = subst (λ register. SwitchCode (program_in source) points (scope_of source scope) items_tree own register (suc (length done.points.items)) (spot_of table two) (spot_of table done)
      (suc (length done.points.items) + count) (place_of labels.default) (ways_in source points ways)) held_code.4 raw in
      let from_there = subst (λ spot. SwitchCode (program_in source) points (scope_of source scope) items_tree own (temporary first) (suc (length done.points.items)) spot (spot_of table done)
      (suc (length done.points.items) + count) (place_of labels.default) (ways_in source points ways)) two_spot in_register in
      let broken = ap (λ (place : PointId). place.0) is_broken ∙ exit_at in
      let broken_there = subst (λ broken. SwitchCode (program_in source) points (scope_of source scope) items_tree own (temporary first) (suc (length done.points.items)) (behind (behind (behind (with_temporary first)))) (spot_of table done)
      (suc (length done.points.items) + count) (place_of labels.default) (record { broken = broken; continued = ways.continued.0 })) broken from_there in
      let items_code = subst (λ continued. SwitchCode (program_in source) points (scope_of source scope) items_tree own (temporary first) (suc (length done.points.items)) (behind (behind (behind (with_temporary first)))) (spot_of table done)
      (suc (length done.points.items) + count) (place_of labels.default) (record { broken = suc (suc first.at); continued = continued })) (ap (λ (place : PointId). place.0) is_continued) broken_there in
      let tested_spot : spot_of table tested ≡ record (spot_of table done) { at = suc (length done.points.items) + count } = tests_code.1 ∙ (λ i. record (begun_spot i) { at = begun_at i + count }) in
      let jumped_code = jumps table points at_jumped in
      let last_jump = emits_from points (O.Jump otherwise.0) (spot_of table tested) (record (spot_of table done) { at = suc (length done.points.items) + count }) (spot_of table jumped) tested_spot jumped_code in (
        first,
        spot_of table done,
        own,
        held_code.1,
        place_of labels.default,
        suc (length done.points.items) + count,
        otherwise.0,
        held_code.2,
        held_code.3,
        begin_jump,
        exit_jump,
        items_code,
        ended_code.0 ∙ jump_to exit_at,
        goes_past points labels.default exit otherwise (suc (suc first.at)) is_otherwise exit_at,
        (last_jump.0, fills_exit.spot table ∙ last_jump.1),
      )

  -- ---- `for`

  pub for_lowers : (ways : memory_ways.Ways) (inner : List memory_home.Home) (start : memory_start.ForStart) (condition step : Option memory_value.Value) (body : memory_stmt.Stmt) (old begun new : Builder)
      → StartLowers source scope (taken_in_turns (optional_value_in (types_of_source source) condition) (optional_value_in (types_of_source source) step) (stmt_in (types_of_source source) body)) start inner old begun
      → TurnsLower source inner condition step body begun new → Grows begun new
      → TreeLowers source scope ways (T.For (start_in (types_of_source source) start) (optional_value_in (types_of_source source) condition) (optional_value_in (types_of_source source) step) (stmt_in (types_of_source source) body)) old new
  for_lowers ways inner start condition step body old begun new starts turns grows = λ points fills.
      let turned = turns points fills in
      (spot_of table begun, turned.0, turned.1, turned.2, scope_of source inner, starts points (fills_grown table begun new points grows fills), turned.3, turned.4, turned.5, turned.6, turned.7, turned.8)
