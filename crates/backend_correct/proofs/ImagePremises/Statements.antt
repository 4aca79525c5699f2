-- The code of statements weighs no more than their nodes are worth, and what it names is there if its end and the ways out are.
use Rattle.std.proofs.Common.{◌≡◌, ℕ, suc, ◌+◌, ◌*◌, ◌≤◌, ◌<◌, Bool, true, false, List, [], ◌∷◌, length, Option, Some, None, refl, sym, ap, subst, ◌∙◌, arith}
use Rattle.std.proofs.lemmas.Option.{none-some, same_Some}
use Rattle.c_num.specs.declared.IntType.{IntType}
use Rattle.c_num.specs.declared.IntType.TheVariants as I
use Rattle.c_num.specs.declared.Relation.TheVariants as relations
use Rattle.c_typed.specs.Typed as T
use Rattle.c_typed.specs.Typed.{Value, Stmt, Block, SwitchItems, LocalDef, ForStart, Program}
use Rattle.c_typed.specs.TypedNodes.{value_nodes, optional_nodes, local_nodes, locals_nodes, start_nodes, stmt_nodes, block_nodes, switch_nodes}
use Rattle.tac_ir.specs.declared.register.Register.{Register}
use Rattle.tac_ir.specs.declared.register.Register.TheVariants as R
use Rattle.tac_ir.specs.Code.{Constant, Held, Compare, AtLocal, IntegerOperand, PointerOperand, Op}
use Rattle.tac_ir.specs.Code as O
use Rattle.tac_build.specs.Homes.{Home, Scope}
use Rattle.tac_build.specs.Spots.{Spot, behind, with_variable, with_temporary, temporary, Lowered, AsInteger, AsPointer, AsObject, AsNothing, Kept, Dropped}
use Rattle.tac_build.specs.Code.{path_from}
use Rattle.tac_build.specs.StatementCode.{Ways, Begins, with_home, FirstCode, LocalCode, LocalsCode, StartCode, BranchCode, TestCode, StepCode, ReturnCode, GoesPast, StmtCode, BlockCode, SwitchCode}
use Rattle.backend_correct.specs.Weights.{weight_before, lowered_weight}
use Rattle.backend_correct.proofs.ImagePremises.Leading.{weight_behind, Covered, Leading, Leads, covered_then, covered_one, both, knowing, leads_then, loosened, stays, point, emits}
use Rattle.backend_correct.proofs.ImagePremises.Parts.{within, writes_leads}
use Rattle.backend_correct.proofs.ImagePremises.Expressions.{value_gives}

-- a local in memory is no point
pub home_at : (home : Home) (spot : Spot) → (with_home home spot).at ≡ spot.at
home_at home spot = by home.is_object
  where
    by : (b : Bool) → (with_home (record home { is_object = b }) spot).at ≡ spot.at
    by true = refl
    by false = refl

module _ (program : Program) (points : List Op) where
  abbrev count : ℕ
  count = length program.functions

  -- the end and the ways out are there
  abbrev pub Within : Ways program points → ℕ → Type 0
  Within ways to = (to < length points) × (ways.broken < length points) × (ways.continued < length points)

  -- where the tests of a `switch` go on
  past_low : (default : Option ℕ) (otherwise onward most : ℕ) → GoesPast program points default otherwise onward → ((at : ℕ) → default ≡ Some at → at ≤ most) → onward ≤ most → otherwise ≤ most
  past_low (Some default) otherwise onward most goes defaulted low = let most = defaulted default refl in omega (arith, goes, most)
  past_low None otherwise onward most goes defaulted low = omega (arith, goes, low)

  -- ---- locals

  begins_leads : (home : Home) (given : Lowered) (from to : Spot) → Begins points home given from to → Leads count points (lowered_weight given + 12) 0 from.at to.at
  begins_leads home given from to code = by home.is_object given code
    where
      by : (b : Bool) (given : Lowered) → Begins points (record home { is_object = b }) given from to → Leads count points (lowered_weight given + 12) 0 from.at to.at
      by false given code = within count points (lowered_weight given + 12) (omega arith) (writes_leads count points (to.at < length points) (R.Local home.local) given from to code)
      by true (AsInteger own tree) code =
          loosened count points _ 0 (omega arith) (emits count points (to.at < length points) from to (O.Store (path_from (AtLocal home.local)) home.c_type (IntegerOperand tree)) code (λ low. tt))
      by true (AsPointer pointer target) code =
          loosened count points 14 0 (omega arith) (emits count points (to.at < length points) from to (O.Store (path_from (AtLocal home.local)) home.c_type (PointerOperand pointer)) code (λ low. tt))
      by true (AsObject path own) code = absurd code
      by true AsNothing code = absurd code

  first_leads : (scope : Scope) (home : Home) (first : Option Value) (from to : Spot) → FirstCode program points scope home first from to → Leads count points (100 * optional_nodes first) 0 from.at to.at
  first_leads scope home None from to code = stays count points (to.at < length points) code
  first_leads scope home (Some v) from to code =
      let one = value_gives program points scope v Kept from code.0 code.1 code.2 in
      loosened count points (100 * value_nodes v) 0 (omega arith) (leads_then count points one (begins_leads home code.1 code.0 to code.3))

  local_leads : (scope : Scope) (local : LocalDef) (is_taken : Bool) (from to : Spot) (home : Home) → LocalCode program points scope local is_taken from to home → Leads count points (100 * local_nodes local) 0 from.at to.at
  local_leads scope local is_taken from to home code =
      let first = first_leads (home ∷ scope) home local.first (with_home home (with_variable from)) to code.1 in
      loosened count points (100 * suc (optional_nodes local.first)) 0 (omega arith)
      (subst (λ (at : ℕ). Leads count points (100 * optional_nodes local.first) 0 at to.at) (home_at home (with_variable from)) first)

  locals_lead : (scope : Scope) (is_taken : ℕ → Bool) (locals : List LocalDef) (from to : Spot) (inner : Scope) → LocalsCode program points scope is_taken locals from to inner
      → Leads count points (100 * locals_nodes locals) 0 from.at to.at
  locals_lead scope is_taken [] from to inner code = stays count points (to.at < length points) code.0
  locals_lead scope is_taken (first ∷ others) from to inner code =
      let one = local_leads scope first _ from code.0 code.1 code.2 in
      let rest = locals_lead (code.1 ∷ scope) is_taken others code.0 to inner code.3 in
      loosened count points (100 * (suc (optional_nodes first.first) + locals_nodes others)) 0 (omega arith) (leads_then count points one rest)

  start_leads : (scope : Scope) (is_taken : ℕ → Bool) (begin : ForStart) (from to : Spot) (inner : Scope) → StartCode program points scope is_taken begin from to inner
      → Leads count points (100 * start_nodes begin) 0 from.at to.at
  start_leads scope is_taken T.StartNothing from to inner code = stays count points (to.at < length points) code.0
  start_leads scope is_taken (T.StartValue v) from to inner code = loosened count points (100 * value_nodes v) 0 (omega arith) (value_gives program points scope v Dropped from to code.0 code.1)
  start_leads scope is_taken (T.StartLocals locals) from to inner code = locals_lead scope is_taken locals from to inner code

  -- ---- conditions

  branch_order : (scope : Scope) (condition : Value) (from to : Spot) (holds fails : ℕ) → BranchCode program points scope condition from to holds fails → from.at < to.at
  branch_order scope condition from to holds fails code =
      let one = value_gives program points scope condition Kept from code.0 (AsInteger code.1 code.2) code.3 in
      let at = ap (λ (spot : Spot). spot.at) code.4.1 in
      omega (arith, one.order, at)

  branch_leads : (known : Type 0) (scope : Scope) (condition : Value) (from to : Spot) (holds fails : ℕ) → (known → to.at < length points) → (known → holds < length points) → (known → fails < length points)
      → BranchCode program points scope condition from to holds fails → Leading count points (100 * value_nodes condition) 0 from.at to.at known
  branch_leads known scope condition from to holds fails low held failed code =
      let one = value_gives program points scope condition Kept from code.0 (AsInteger code.1 code.2) code.3 in
      let last = emits count points known code.0 to (O.Branch code.1 code.2 holds fails) code.4 (λ k. (held k, failed k)) in
      loosened count points (100 * value_nodes condition) 0 (omega arith) (both count points (knowing count points known (λ k. let low = low k in omega (arith, low, last.order)) one) last)

  test_order : (scope : Scope) (condition : Option Value) (from to : Spot) (holds fails : ℕ) → TestCode program points scope condition from to holds fails → from.at < to.at
  test_order scope None from to holds fails code = let at = ap (λ (spot : Spot). spot.at) code.1 in omega (arith, at)
  test_order scope (Some condition) from to holds fails code = branch_order scope condition from to holds fails code

  test_leads : (known : Type 0) (scope : Scope) (condition : Option Value) (from to : Spot) (holds fails : ℕ) → (known → to.at < length points) → (known → holds < length points) → (known → fails < length points)
      → TestCode program points scope condition from to holds fails → Leading count points (100 * optional_nodes condition + 10) 0 from.at to.at known
  test_leads known scope None from to holds fails low held failed code = emits count points known from to (O.Jump holds) code held
  test_leads known scope (Some condition) from to holds fails low held failed code =
      loosened count points (100 * value_nodes condition + 10) 0 (omega arith) (branch_leads known scope condition from to holds fails low held failed code)

  step_leads : (scope : Scope) (step : Option Value) (from to : Spot) → StepCode program points scope step from to → Leads count points (100 * optional_nodes step) 0 from.at to.at
  step_leads scope None from to code = stays count points (to.at < length points) code
  step_leads scope (Some v) from to code = loosened count points (100 * value_nodes v) 0 (omega arith) (value_gives program points scope v Dropped from to code.0 code.1)

  return_leads : (given : Lowered) (from to : Spot) → ReturnCode program points given from to → Leads count points (lowered_weight given + 10) 0 from.at to.at
  return_leads (AsInteger own tree) from to code = emits count points (to.at < length points) from to (O.Return (Some (IntegerOperand tree))) code (λ low. tt)
  return_leads (AsPointer pointer target) from to code = emits count points (to.at < length points) from to (O.Return (Some (PointerOperand pointer))) code (λ low. tt)
  return_leads (AsObject path own) from to code = absurd code
  return_leads AsNothing from to code = absurd code

  -- ---- statements

  abbrev pub StmtLeads : ℕ → Ways program points → Spot → Spot → Type 0
  StmtLeads nodes ways from to = Leading count points (100 * nodes) 0 from.at to.at (Within ways to.at)

  -- The items of a `switch`, and the tests of their labels.
  record LeadsItems (nodes : ℕ) (ways : Ways program points) (from to tests last : ℕ) (default : Option ℕ) : Type 0 where
    order : from ≤ to
    tests_order : tests ≤ last
    weight : weight_before points to + weight_before points last ≤ weight_before points from + weight_before points tests + 100 * nodes
    there : Within ways to → Covered count points from to
    tested : to < length points → last < length points → Covered count points tests last
    defaulted : (at : ℕ) → default ≡ Some at → at ≤ to

  mutual
    pub stmt_leads : (tree : Stmt) (scope : Scope) (from to : Spot) (ways : Ways program points) → StmtCode program points scope tree from to ways → StmtLeads (stmt_nodes tree) ways from to
    stmt_leads (T.BlockStmt items) scope from to ways code = loosened count points (100 * suc (block_nodes items)) 0 (omega arith) (block_leads items scope from to ways code)
    stmt_leads T.Empty scope from to ways code = loosened count points 100 0 (omega arith) (stays count points (Within ways to.at) code)
    stmt_leads (T.Expression v) scope from to ways code =
        loosened count points (100 * suc (value_nodes v)) 0 (omega arith) (knowing count points (Within ways to.at) (λ k. k.0) (value_gives program points scope v Dropped from to code.0 code.1))
    stmt_leads (T.If condition taken) scope from to ways code =
        let one = stmt_leads taken scope code.0 to ways code.2 in
        let inside : (Within ways to.at → code.0.at < length points) = λ k. let low = k.0 in omega (arith, low, one.order) in
        let test = branch_leads (Within ways to.at) scope condition from code.0 code.0.at to.at inside inside (λ k. k.0) code.1 in
        loosened count points (100 * suc (value_nodes condition + stmt_nodes taken)) 0 (omega arith) (both count points test one)
    stmt_leads (T.IfElse condition taken otherwise) scope from to ways code =
        let other = stmt_leads otherwise scope (behind code.1) to ways code.5 in
        let past = both count points (point count points (Within ways to.at) code.1.at (O.Jump to.at) code.4 (λ k. k.0)) other in
        let one = stmt_leads taken scope code.0 code.1 ways code.3 in
        let inside : (Within ways to.at → code.0.at < length points) = λ k. let low = k.0 in omega (arith, low, one.order, past.order) in
        let test = branch_leads (Within ways to.at) scope condition from code.0 code.0.at (suc code.1.at) inside inside (λ k. let low = k.0 in omega (arith, low, other.order)) code.2 in
        loosened count points (100 * suc (value_nodes condition + (stmt_nodes taken + stmt_nodes otherwise))) 0 (omega arith)
        (both count points test (both count points (knowing count points (Within ways to.at) (λ k. let low = k.0 in (omega (arith, low, past.order), k.1, k.2)) one) past))
    stmt_leads (T.While condition body) scope from to ways code =
        let at = ap (λ (spot : Spot). spot.at) code.5.1 in
        let inner = stmt_leads body scope (behind code.0) code.1 (record { broken = code.0.at; continued = from.at }) code.4 in
        let begun = branch_order scope condition from code.0 (suc code.0.at) code.0.at code.2 in
        let exit : (Within ways to.at → code.0.at < length points) = λ k. let low = k.0 in omega (arith, low, inner.order, at) in
        let first : (Within ways to.at → from.at < length points) = λ k. let low = k.0 in omega (arith, low, inner.order, at, begun) in
        let test = branch_leads (Within ways to.at) scope condition from code.0 (suc code.0.at) code.0.at exit (λ k. let low = k.0 in omega (arith, low, inner.order, at)) exit code.2 in
        let out = point count points (Within ways to.at) code.0.at (O.Jump to.at) code.3 (λ k. k.0) in
        let turn = emits count points (Within ways to.at) code.1 to (O.Jump from.at) code.5 first in
        loosened count points (100 * suc (value_nodes condition + stmt_nodes body)) 0 (omega arith)
        (both count points test (both count points out (both count points (knowing count points (Within ways to.at) (λ k. let low = k.0 in (omega (arith, low, at), exit k, first k)) inner) turn)))
    stmt_leads (T.DoWhile body condition) scope from to ways code =
        let inner = stmt_leads body scope (behind (behind (behind from))) code.0 (record { broken = suc from.at; continued = suc (suc from.at) }) code.4 in
        let ended = branch_order scope condition code.0 to (suc (suc (suc from.at))) (suc from.at) code.5 in
        let first = point count points (Within ways to.at) from.at (O.Jump (suc (suc (suc from.at)))) code.1 (λ k. let low = k.0 in omega (arith, low, inner.order, ended)) in
        let out = point count points (Within ways to.at) (suc from.at) (O.Jump to.at) code.2 (λ k. k.0) in
        let turn = point count points (Within ways to.at) (suc (suc from.at)) (O.Jump code.0.at) code.3 (λ k. let low = k.0 in omega (arith, low, ended)) in
        let test = branch_leads (Within ways to.at) scope condition code.0 to (suc (suc (suc from.at))) (suc from.at) (λ k. k.0) (λ k. let low = k.0 in omega (arith, low, inner.order, ended))
        (λ k. let low = k.0 in omega (arith, low, inner.order, ended)) code.5 in
        let inside = knowing count points (Within ways to.at)
        (λ k. let low = k.0 in (omega (arith, low, ended), omega (arith, low, inner.order, ended), omega (arith, low, inner.order, ended))) inner in
        loosened count points (100 * suc (stmt_nodes body + value_nodes condition)) 0 (omega arith) (both count points first (both count points out (both count points turn (both count points inside test))))
    stmt_leads (T.For begin condition step body) scope from to ways code =
        let at = ap (λ (spot : Spot). spot.at) code.11.1 in
        let start = start_leads scope _ begin from code.0 code.4 code.5 in
        let next = step_leads code.4 step (behind code.1) code.2 code.8 in
        let inner = stmt_leads body code.4 (behind code.2) code.3 (record { broken = code.1.at; continued = suc code.1.at }) code.10 in
        let begun = test_order code.4 condition code.0 code.1 (suc code.2.at) code.1.at code.6 in
        let exit : (Within ways to.at → code.1.at < length points) = λ k. let low = k.0 in omega (arith, low, at, next.order, inner.order) in
        let again : (Within ways to.at → suc code.1.at < length points) = λ k. let low = k.0 in omega (arith, low, at, next.order, inner.order) in
        let test = test_leads (Within ways to.at) code.4 condition code.0 code.1 (suc code.2.at) code.1.at exit (λ k. let low = k.0 in omega (arith, low, at, inner.order)) exit code.6 in
        let out = point count points (Within ways to.at) code.1.at (O.Jump to.at) code.7 (λ k. k.0) in
        let turn = point count points (Within ways to.at) code.2.at (O.Jump code.0.at) code.9 (λ k. let low = k.0 in omega (arith, low, at, next.order, inner.order, begun)) in
        let ending = emits count points (Within ways to.at) code.3 to (O.Jump (suc code.1.at)) code.11 again in
        let started = knowing count points (Within ways to.at) (λ k. let low = k.0 in omega (arith, low, at, next.order, inner.order, begun)) start in
        let stepped = knowing count points (Within ways to.at) (λ k. let low = k.0 in omega (arith, low, at, inner.order)) next in
        let inside = knowing count points (Within ways to.at) (λ k. let low = k.0 in (omega (arith, low, at), exit k, again k)) inner in
        loosened count points (100 * suc (start_nodes begin + (optional_nodes condition + (optional_nodes step + stmt_nodes body)))) 0 (omega arith)
        (both count points started (both count points test (both count points out (both count points stepped (both count points turn (both count points inside ending))))))
    stmt_leads (T.Switch v items) scope from to ways code =
        let first = suc (suc (suc code.0.at)) in
        let out = suc (suc code.0.at) in
        let at = ap (λ (spot : Spot). spot.at) code.14.1 in
        let one = value_gives program points scope v Kept from code.0 (AsInteger code.2 code.3) code.7 in
        let inside = switch_leads items scope code.2 (temporary code.0) (suc code.1.at) (behind (behind (behind (with_temporary code.0)))) code.1 code.5 code.4
        (record { broken = out; continued = ways.continued }) code.11 in
        let begin = knowing count points (Within ways to.at) (λ k. let low = k.0 in omega (arith, low, at, inside.order, inside.tests_order)) one in
        let kept = point count points (Within ways to.at) code.0.at (O.Assign (temporary code.0) code.3) code.8 (λ k. tt) in
        let tests = point count points (Within ways to.at) (suc code.0.at) (O.Jump (suc code.1.at)) code.9 (λ k. let low = k.0 in omega (arith, low, at, inside.tests_order)) in
        let past = point count points (Within ways to.at) out (O.Jump to.at) code.10 (λ k. k.0) in
        let ended = point count points (Within ways to.at) code.1.at (O.Jump out) code.12 (λ k. let low = k.0 in omega (arith, low, at, inside.order, inside.tests_order)) in
        let middle : Leading count points (100 * switch_nodes items + 10) 0 first code.5 (Within ways to.at) = record {
          order = omega (arith, inside.order, inside.tests_order);
          weight = omega (arith, inside.weight, ended.weight);
          there = λ k. let low = k.0 in covered_then count points first code.1.at code.5
              (inside.there (omega (arith, low, at, inside.tests_order), omega (arith, low, at, inside.order, inside.tests_order), k.2))
              (covered_then count points code.1.at (suc code.1.at) code.5 (ended.there k) (inside.tested (omega (arith, low, at, inside.tests_order)) (omega (arith, low, at))));
        } in
        let otherwise = past_low code.4 code.6 out code.1.at code.13 inside.defaulted (omega (arith, inside.order)) in
        let ending = emits count points (Within ways to.at) (record code.1 { at = code.5 }) to (O.Jump code.6) code.14 (λ k. let low = k.0 in omega (arith, low, at, otherwise, inside.tests_order)) in
        loosened count points (100 * suc (value_nodes v + switch_nodes items)) 0 (omega arith)
        (both count points begin (both count points kept (both count points tests (both count points past (both count points middle ending)))))
    stmt_leads T.Break scope from to ways code = loosened count points 100 0 (omega arith) (emits count points (Within ways to.at) from to (O.Jump ways.broken) code (λ k. k.1))
    stmt_leads T.Continue scope from to ways code = loosened count points 100 0 (omega arith) (emits count points (Within ways to.at) from to (O.Jump ways.continued) code (λ k. k.2))
    stmt_leads (T.Return None) scope from to ways code = loosened count points 100 0 (omega arith) (emits count points (Within ways to.at) from to (O.Return None) code (λ k. tt))
    stmt_leads (T.Return (Some v)) scope from to ways code =
        let one = value_gives program points scope v Kept from code.0 code.1 code.2 in
        loosened count points (100 * suc (value_nodes v)) 0 (omega arith)
        (knowing count points (Within ways to.at) (λ k. k.0) (leads_then count points one (return_leads code.1 code.0 to code.3)))

    pub block_leads : (items : Block) (scope : Scope) (from to : Spot) (ways : Ways program points) → BlockCode program points scope items from to ways → StmtLeads (block_nodes items) ways from to
    block_leads T.Close scope from to ways code = stays count points (Within ways to.at) code
    block_leads (T.Declare local others) scope from to ways code =
        let one = local_leads scope local _ from code.0 code.1 code.2 in
        let rest = block_leads others (code.1 ∷ scope) code.0 to ways code.3 in
        loosened count points (100 * (suc (optional_nodes local.first) + block_nodes others)) 0 (omega arith)
        (both count points (knowing count points (Within ways to.at) (λ k. let low = k.0 in omega (arith, low, rest.order)) one) rest)
    block_leads (T.Perform one others) scope from to ways code =
        let first = stmt_leads one scope from code.0 ways code.1 in
        let rest = block_leads others scope code.0 to ways code.2 in
        loosened count points (100 * (stmt_nodes one + block_nodes others)) 0 (omega arith)
        (both count points (knowing count points (Within ways to.at) (λ k. let low = k.0 in (omega (arith, low, rest.order), k.1, k.2)) first) rest)

    switch_leads : (items : SwitchItems) (scope : Scope) (own : IntType) (switched : Register) (tests : ℕ) (from to : Spot) (last : ℕ) (default : Option ℕ) (ways : Ways program points)
        → SwitchCode program points scope items own switched tests from to last default ways → LeadsItems (switch_nodes items) ways from.at to.at tests last default
    switch_leads T.SwitchEnd scope own switched tests from to last default ways code =
        let at = ap (λ (spot : Spot). spot.at) code.0 in
        let same = code.1 in
        let weight = ap (weight_before points) at in
        let other = ap (weight_before points) same in
        record {
          order = omega (arith, at);
          tests_order = omega (arith, same);
          weight = omega (arith, weight, other);
          there = λ k number op low high there. absurd (omega (arith, at, low, high));
          tested = λ k l number op low high there. absurd (omega (arith, same, low, high));
          defaulted = λ at is. absurd (none-some at (sym code.2 ∙ is));
        }
    switch_leads (T.Case label others) scope own switched tests from to last default ways code =
        let rest = switch_leads others scope own switched (suc tests) from to last default ways code.1 in
        let more = weight_behind points tests (O.Branch I.Int (Compare relations.Eq own (Held switched) (Constant label)) from.at (suc tests)) code.0 in
        record {
          order = rest.order;
          tests_order = omega (arith, rest.tests_order);
          weight = omega (arith, rest.weight, more);
          there = rest.there;
          tested = λ low high. covered_then count points tests (suc tests) last
              (covered_one count points tests (O.Branch I.Int (Compare relations.Eq own (Held switched) (Constant label)) from.at (suc tests)) code.0
              (omega (arith, low, rest.order), omega (arith, high, rest.tests_order)))
              (rest.tested low high);
          defaulted = rest.defaulted;
        }
    switch_leads (T.Default others) scope own switched tests from to last default ways code =
        let rest = switch_leads others scope own switched tests from to last code.0 ways code.2 in
        record {
          order = rest.order;
          tests_order = rest.tests_order;
          weight = omega (arith, rest.weight);
          there = rest.there;
          tested = rest.tested;
          defaulted = λ at is. let same = same_Some from.at at (sym code.1 ∙ is) in omega (arith, same, rest.order);
        }
    switch_leads (T.SwitchStmt one others) scope own switched tests from to last default ways code =
        let first = stmt_leads one scope from code.0 ways code.1 in
        let rest = switch_leads others scope own switched tests code.0 to last default ways code.2 in
        record {
          order = omega (arith, first.order, rest.order);
          tests_order = rest.tests_order;
          weight = omega (arith, first.weight, rest.weight);
          there = λ k. let low = k.0 in covered_then count points from.at code.0.at to.at (first.there (omega (arith, low, rest.order), k.1, k.2)) (rest.there k);
          tested = rest.tested;
          defaulted = rest.defaulted;
        }
