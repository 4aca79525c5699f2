-- The code of statements names only registers of its function.
use Rattle.std.proofs.Common.{◌≡◌, ℕ, suc, ◌≤◌, Bool, true, false, List, [], ◌∷◌, Option, Some, None, refl, sym, subst, arith}
use Rattle.c_num.specs.declared.IntType.{IntType}
use Rattle.c_num.specs.declared.IntType.TheVariants as I
use Rattle.c_num.specs.declared.Relation.TheVariants as relations
use Rattle.c_typed.specs.Typed as T
use Rattle.c_typed.specs.Typed.{Value, Stmt, Block, SwitchItems, LocalDef, ForStart, Program}
use Rattle.tac_ir.specs.declared.register.Register.{Register}
use Rattle.tac_ir.specs.declared.register.Register.TheVariants as R
use Rattle.tac_ir.specs.Code.{Constant, Held, Compare, AtLocal, IntegerOperand, PointerOperand, Op}
use Rattle.tac_ir.specs.Code as O
use Rattle.tac_build.specs.Homes.{Home, Scope}
use Rattle.tac_build.specs.Spots.{Spot, behind, with_variable, with_temporary, Lowered, AsInteger, AsPointer, AsObject, AsNothing, Kept, Dropped}
use Rattle.tac_build.specs.Code.{Emits, path_from}
use Rattle.tac_build.specs.StatementCode.{Ways, Begins, with_home, FirstCode, LocalCode, LocalsCode, StartCode, BranchCode, TestCode, StepCode, ReturnCode, StmtCode, BlockCode, SwitchCode}
use Rattle.backend_correct.specs.Named.{Registers, Has, LoweredNamed, ScopeNamed}
use Rattle.backend_correct.proofs.StackPremises.Leading.{Below, Covered, Leads, after, leads_then, covered_then, covered_one, none_covered, stays, emits, names_variable, has_temporary, assigned}
use Rattle.backend_correct.proofs.StackPremises.Parts.{writes_leads}
use Rattle.backend_correct.proofs.StackPremises.Expressions.{value_gives}

-- code behind which a scope stands
pub record GivesScope (all : Registers) (points : List Op) (from to : Spot) (inner : Scope) : Type 0 where
  pub leads : Leads all points from to
  pub scoped : Below all points to.counts → ScopeNamed all inner

-- items of a `switch` and the tests of their labels
record LeadsItems (all : Registers) (points : List Op) (from to : Spot) (tests last : ℕ) : Type 0 where
  leads : Leads all points from to
  order : tests ≤ last
  tested : Below all points to.counts → Covered all points tests last

module _ (all : Registers) (points : List Op) where
  pub home_leads : (home : Home) (from : Spot) → Leads all points from (with_home home from)
  home_leads home from = by home.is_object
    where
      by : (b : Bool) → Leads all points from (with_home (record home { is_object = b }) from)
      by true = record { back = λ below. below; order = omega arith; covered = λ below. none_covered all points from.at }
      by false = record { back = λ below. below; order = omega arith; covered = λ below. none_covered all points from.at }

  begins_leads : (home : Home) (given : Lowered) (from to : Spot) → (Below all points from.counts → Has all (R.Local home.local)) → (Below all points from.counts → LoweredNamed all given) → Begins points home given from to
      → Leads all points from to
  begins_leads home given from to has named code = by home.is_object given named code
    where
      by : (b : Bool) (given : Lowered) → (Below all points from.counts → LoweredNamed all given) → Begins points (record home { is_object = b }) given from to → Leads all points from to
      by false given named code = writes_leads all points (R.Local home.local) given from to has named code
      by true (AsInteger own tree) named code = emits all points (O.Store (path_from (AtLocal home.local)) home.c_type (IntegerOperand tree)) code (λ below. ((tt, tt), named below))
      by true (AsPointer pointer target) named code = emits all points (O.Store (path_from (AtLocal home.local)) home.c_type (PointerOperand pointer)) code (λ below. ((tt, tt), named below))
      by true (AsObject path own) named code = absurd code
      by true AsNothing named code = absurd code

module _ (all : Registers) (program : Program) (points : List Op) where
  abbrev Scoped : Spot → Scope → Type 0
  Scoped spot scope = Below all points spot.counts → ScopeNamed all scope

  first_leads : (scope : Scope) (home : Home) (first : Option Value) (from to : Spot) → (Below all points from.counts → Has all (R.Local home.local)) → Scoped from scope → FirstCode program points scope home first from to
      → Leads all points from to
  first_leads scope home None from to has scoped code = stays all points code
  first_leads scope home (Some v) from to has scoped code =
      let one = value_gives all program points scope v Kept from code.0 code.1 scoped code.2 in
      leads_then all points one.leads (begins_leads all points home code.1 code.0 to (after all points one.leads has) one.value code.3)

  local_leads : (scope : Scope) (local : LocalDef) (is_taken : Bool) (from to : Spot) (home : Home) → Scoped from scope → LocalCode program points scope local is_taken from to home → GivesScope all points from to (home ∷ scope)
  local_leads scope local is_taken from to home scoped code =
      let named = names_variable all points from in
      let placed = home_leads all points home (with_variable from) in
      let front = leads_then all points named placed in
      let has : (Below all points (with_home home (with_variable from)).counts → Has all (R.Local home.local)) =
      λ below. let more = (placed.back below).variables in subst (λ one. Has all (R.Local one.local)) (sym code.0) (omega (arith, more)) in
      let first = first_leads (home ∷ scope) home local.first (with_home home (with_variable from)) to has (λ below. (has below, scoped (front.back below))) code.1 in
      record { leads = leads_then all points front first; scoped = λ below. (has (first.back below), scoped (front.back (first.back below))) }

  scope_stays : (scope inner : Scope) (from to : Spot) → Scoped from scope → (to ≡ from) × (inner ≡ scope) → GivesScope all points from to inner
  scope_stays scope inner from to scoped code =
      record { leads = stays all points code.0; scoped = λ below. subst (ScopeNamed all) (sym code.1) (scoped ((stays all points code.0).back below)) }

  locals_lead : (scope : Scope) (is_taken : ℕ → Bool) (locals : List LocalDef) (from to : Spot) (inner : Scope) → Scoped from scope → LocalsCode program points scope is_taken locals from to inner → GivesScope all points from to inner
  locals_lead scope is_taken [] from to inner scoped code = scope_stays scope inner from to scoped code
  locals_lead scope is_taken (first ∷ others) from to inner scoped code =
      let one = local_leads scope first _ from code.0 code.1 scoped code.2 in
      let rest = locals_lead (code.1 ∷ scope) is_taken others code.0 to inner one.scoped code.3 in
      record { leads = leads_then all points one.leads rest.leads; scoped = rest.scoped }

  start_leads : (scope : Scope) (is_taken : ℕ → Bool) (begin : ForStart) (from to : Spot) (inner : Scope) → Scoped from scope → StartCode program points scope is_taken begin from to inner → GivesScope all points from to inner
  start_leads scope is_taken T.StartNothing from to inner scoped code = scope_stays scope inner from to scoped code
  start_leads scope is_taken (T.StartValue v) from to inner scoped code =
      let one = value_gives all program points scope v Dropped from to code.0 scoped code.1 in
      record { leads = one.leads; scoped = λ below. subst (ScopeNamed all) (sym code.2) (scoped (one.leads.back below)) }
  start_leads scope is_taken (T.StartLocals locals) from to inner scoped code = locals_lead scope is_taken locals from to inner scoped code

  branch_leads : (scope : Scope) (condition : Value) (from to : Spot) (holds fails : ℕ) → Scoped from scope → BranchCode program points scope condition from to holds fails → Leads all points from to
  branch_leads scope condition from to holds fails scoped code =
      let one = value_gives all program points scope condition Kept from code.0 (AsInteger code.1 code.2) scoped code.3 in
      leads_then all points one.leads (emits all points (O.Branch code.1 code.2 holds fails) code.4 one.value)

  test_leads : (scope : Scope) (condition : Option Value) (from to : Spot) (holds fails : ℕ) → Scoped from scope → TestCode program points scope condition from to holds fails → Leads all points from to
  test_leads scope None from to holds fails scoped code = emits all points (O.Jump holds) code (λ below. tt)
  test_leads scope (Some condition) from to holds fails scoped code = branch_leads scope condition from to holds fails scoped code

  step_leads : (scope : Scope) (step : Option Value) (from to : Spot) → Scoped from scope → StepCode program points scope step from to → Leads all points from to
  step_leads scope None from to scoped code = stays all points code
  step_leads scope (Some v) from to scoped code = (value_gives all program points scope v Dropped from to code.0 scoped code.1).leads

  return_leads : (given : Lowered) (from to : Spot) → (Below all points from.counts → LoweredNamed all given) → ReturnCode program points given from to → Leads all points from to
  return_leads (AsInteger own tree) from to named code = emits all points (O.Return (Some (IntegerOperand tree))) code named
  return_leads (AsPointer pointer target) from to named code = emits all points (O.Return (Some (PointerOperand pointer))) code named
  return_leads (AsObject path own) from to named code = absurd code
  return_leads AsNothing from to named code = absurd code

  jump : (from : Spot) (to : ℕ) → Emits points (O.Jump to) from (behind from) → Leads all points from (behind from)
  jump from to code = emits all points (O.Jump to) code (λ below. tt)

  mutual
    pub stmt_leads : (tree : Stmt) (scope : Scope) (from to : Spot) (ways : Ways program points) → Scoped from scope → StmtCode program points scope tree from to ways → Leads all points from to
    stmt_leads (T.BlockStmt items) scope from to ways scoped code = block_leads items scope from to ways scoped code
    stmt_leads T.Empty scope from to ways scoped code = stays all points code
    stmt_leads (T.Expression v) scope from to ways scoped code = (value_gives all program points scope v Dropped from to code.0 scoped code.1).leads
    stmt_leads (T.If condition taken) scope from to ways scoped code =
        let test = branch_leads scope condition from code.0 code.0.at to.at scoped code.1 in
        leads_then all points test (stmt_leads taken scope code.0 to ways (after all points test scoped) code.2)
    stmt_leads (T.IfElse condition taken otherwise) scope from to ways scoped code =
        let test = branch_leads scope condition from code.0 code.0.at (suc code.1.at) scoped code.2 in
        let one = stmt_leads taken scope code.0 code.1 ways (after all points test scoped) code.3 in
        let front = leads_then all points test (leads_then all points one (jump code.1 to.at (code.4, refl))) in
        leads_then all points front (stmt_leads otherwise scope (behind code.1) to ways (after all points front scoped) code.5)
    stmt_leads (T.While condition body) scope from to ways scoped code =
        let test = branch_leads scope condition from code.0 (suc code.0.at) code.0.at scoped code.2 in
        let front = leads_then all points test (jump code.0 to.at (code.3, refl)) in
        let inner = stmt_leads body scope (behind code.0) code.1 (record { broken = code.0.at; continued = from.at }) (after all points front scoped) code.4 in
        leads_then all points front (leads_then all points inner (emits all points (O.Jump from.at) code.5 (λ below. tt)))
    stmt_leads (T.DoWhile body condition) scope from to ways scoped code =
        let front = leads_then all points (jump from (suc (suc (suc from.at))) (code.1, refl)) (leads_then all points (jump (behind from) to.at (code.2, refl)) (jump (behind (behind from)) code.0.at (code.3, refl))) in
        let inner = stmt_leads body scope (behind (behind (behind from))) code.0 (record { broken = suc from.at; continued = suc (suc from.at) }) (after all points front scoped) code.4 in
        let before = leads_then all points front inner in
        leads_then all points before (branch_leads scope condition code.0 to (suc (suc (suc from.at))) (suc from.at) (after all points before scoped) code.5)
    stmt_leads (T.For begin condition step body) scope from to ways scoped code =
        let start = start_leads scope _ begin from code.0 code.4 scoped code.5 in
        let test = test_leads code.4 condition code.0 code.1 (suc code.2.at) code.1.at start.scoped code.6 in
        let out = leads_then all points test (jump code.1 to.at (code.7, refl)) in
        let next = step_leads code.4 step (behind code.1) code.2 (after all points out start.scoped) code.8 in
        let turn = leads_then all points out (leads_then all points next (jump code.2 code.0.at (code.9, refl))) in
        let inner = stmt_leads body code.4 (behind code.2) code.3 (record { broken = code.1.at; continued = suc code.1.at }) (after all points turn start.scoped) code.10 in
        leads_then all points start.leads (leads_then all points turn (leads_then all points inner (emits all points (O.Jump (suc code.1.at)) code.11 (λ below. tt))))
    stmt_leads (T.Switch v items) scope from to ways scoped code =
        let one = value_gives all program points scope v Kept from code.0 (AsInteger code.2 code.3) scoped code.7 in
        let kept = assigned all points code.0 (λ register. O.Assign register code.3) code.8 (λ below register has. (has, one.value below)) in
        let first = behind (with_temporary code.0) in
        let jumps = leads_then all points (jump first (suc code.1.at) (code.9, refl)) (jump (behind first) to.at (code.10, refl)) in
        let front = leads_then all points one.leads (leads_then all points kept jumps) in
        let inside = switch_leads items scope code.2 (R.Temporary code.0.counts.temporaries) (suc code.1.at) (behind (behind first)) code.1 code.5 code.4
        (record { broken = suc (suc code.0.at); continued = ways.continued }) (after all points front scoped) (λ below. has_temporary all points code.0 (jumps.back below)) code.11 in
        let tests : Leads all points (behind code.1) (record code.1 { at = code.5 }) = record { back = λ below. below; order = inside.order; covered = inside.tested } in
        let ending = emits all points {from = record code.1 { at = code.5 }} (O.Jump code.6) code.14 (λ below. tt) in
        leads_then all points front (leads_then all points inside.leads (leads_then all points (jump code.1 (suc (suc code.0.at)) (code.12, refl)) (leads_then all points tests ending)))
    stmt_leads T.Break scope from to ways scoped code = emits all points (O.Jump ways.broken) code (λ below. tt)
    stmt_leads T.Continue scope from to ways scoped code = emits all points (O.Jump ways.continued) code (λ below. tt)
    stmt_leads (T.Return None) scope from to ways scoped code = emits all points (O.Return None) code (λ below. tt)
    stmt_leads (T.Return (Some v)) scope from to ways scoped code =
        let one = value_gives all program points scope v Kept from code.0 code.1 scoped code.2 in
        leads_then all points one.leads (return_leads code.1 code.0 to one.value code.3)

    pub block_leads : (items : Block) (scope : Scope) (from to : Spot) (ways : Ways program points) → Scoped from scope → BlockCode program points scope items from to ways → Leads all points from to
    block_leads T.Close scope from to ways scoped code = stays all points code
    block_leads (T.Declare local others) scope from to ways scoped code =
        let one = local_leads scope local _ from code.0 code.1 scoped code.2 in
        leads_then all points one.leads (block_leads others (code.1 ∷ scope) code.0 to ways one.scoped code.3)
    block_leads (T.Perform one others) scope from to ways scoped code =
        let first = stmt_leads one scope from code.0 ways scoped code.1 in
        leads_then all points first (block_leads others scope code.0 to ways (after all points first scoped) code.2)

    switch_leads : (items : SwitchItems) (scope : Scope) (own : IntType) (switched : Register) (tests : ℕ) (from to : Spot) (last : ℕ) (default : Option ℕ) (ways : Ways program points)
        → Scoped from scope → (Below all points from.counts → Has all switched) → SwitchCode program points scope items own switched tests from to last default ways → LeadsItems all points from to tests last
    switch_leads T.SwitchEnd scope own switched tests from to last default ways scoped has code =
        let same = code.1 in
        record { leads = stays all points code.0; order = omega (arith, same); tested = λ below number op low high there. absurd (omega (arith, same, low, high)) }
    switch_leads (T.Case label others) scope own switched tests from to last default ways scoped has code =
        let rest = switch_leads others scope own switched (suc tests) from to last default ways scoped has code.1 in
        let order = rest.order in
        record {
          leads = rest.leads;
          order = omega (arith, order);
          tested = λ below. covered_then all points tests (suc tests) last
              (covered_one all points tests (O.Branch I.Int (Compare relations.Eq own (Held switched) (Constant label)) from.at (suc tests)) code.0 (has (rest.leads.back below), tt)) (rest.tested below);
        }
    switch_leads (T.Default others) scope own switched tests from to last default ways scoped has code = switch_leads others scope own switched tests from to last code.0 ways scoped has code.2
    switch_leads (T.SwitchStmt one others) scope own switched tests from to last default ways scoped has code =
        let first = stmt_leads one scope from code.0 ways scoped code.1 in
        let rest = switch_leads others scope own switched tests code.0 to last default ways (after all points first scoped) (after all points first has) code.2 in
        record { leads = leads_then all points first rest.leads; order = rest.order; tested = rest.tested }
