-- From a spot to a spot statements add points, registers, and the variables and objects of what they declare.
use Rattle.std.proofs.Common.{◌≡◌, ℕ, suc, ◌≤◌, ◌<◌, Bool, true, false, List, [], ◌∷◌, ◌++◌, append-nil, append_assoc, Option, Some, None, refl, sym, ap, ◌∙◌, subst, arith}
use Rattle.c_num.specs.declared.IntType.{IntType}
use Rattle.c_typed.specs.Typed as T
use Rattle.c_typed.specs.Typed.{Value, Stmt, Block, SwitchItems, LocalDef, ForStart, Program}
use Rattle.tac_ir.specs.declared.register.Local.{Local}
use Rattle.tac_ir.specs.declared.register.Local.TheVariants as L
use Rattle.tac_ir.specs.declared.register.Register.{Register}
use Rattle.tac_ir.specs.declared.register.Register.TheVariants as R
use Rattle.tac_ir.specs.declared.program.Counts.{Counts}
use Rattle.tac_ir.specs.Code.{Op, LocalObject}
use Rattle.tac_build.specs.Homes.{Home, Scope}
use Rattle.tac_build.specs.Spots.{Spot, behind, with_variable, with_temporary, Lowered, AsInteger, AsPointer, AsObject, AsNothing, Mode, Kept, Dropped}
use Rattle.tac_build.specs.Code.{Writes, ValueCode}
use Rattle.tac_build.specs.StatementCode.{Ways, Begins, with_home, FirstCode, LocalCode, LocalsCode, StartCode, BranchCode, TestCode, StepCode, ReturnCode, StmtCode, BlockCode, SwitchCode}
use Rattle.tac_build.specs.Forms.{SpotGrows}
use Rattle.tac_build.proofs.Named.{value_named}
use Rattle.tac_simulation.proofs.Executing.{IsNumbered, AreNumbered, HaveObjects}

-- objects of variables with these numbers, each behind those before it
abbrev pub AreNew : ℕ → ℕ → List LocalObject → Type 0
AreNew low high [] = Unit {0}
AreNew low high (first ∷ others) = (number : ℕ) × (first.local ≡ L.Variable number) × (low ≤ number) × (number < high) × AreNew (suc number) high others

pub new_from : (low later high : ℕ) (objects : List LocalObject) → low ≤ later → AreNew later high objects → AreNew low high objects
new_from low later high [] less new = tt
new_from low later high (first ∷ others) less new = let least = new.2 in (new.0, new.1, omega (arith, less, least), new.3, new.4)

new_then : (low mid high : ℕ) (objects more : List LocalObject) → low ≤ mid → mid ≤ high → AreNew low mid objects → AreNew mid high more → AreNew low high (objects ++ more)
new_then low mid high [] more less most one other = new_from low mid high more less other
new_then low mid high (first ∷ others) more less most one other =
    let below = one.3 in (one.0, one.1, one.2, omega (arith, below, most), new_then (suc one.0) mid high others more (omega (arith, below)) most one.4 other)

pub record Widens (from to : Spot) : Type 0 where
  pub variables : from.counts.variables ≤ to.counts.variables
  pub more : List LocalObject
  pub objects : to.objects ≡ from.objects ++ more
  pub own : AreNew from.counts.variables to.counts.variables more

pub same_widens : (spot : Spot) → Widens spot spot
same_widens spot = record { variables = omega arith; more = []; objects = sym (append-nil spot.objects); own = tt }

pub widens_then : {a b c : Spot} → Widens a b → Widens b c → Widens a c
widens_then {a} {b} {c} one other = record {
  variables = (let first = one.variables in let second = other.variables in omega (arith, first, second));
  more = one.more ++ other.more;
  objects = other.objects ∙ ap (λ l. l ++ other.more) one.objects ∙ append_assoc a.objects one.more other.more;
  own = new_then a.counts.variables b.counts.variables c.counts.variables one.more other.more one.variables other.variables one.own other.own;
}

pub grows_widens : {from to : Spot} → SpotGrows from to → Widens from to
grows_widens {from} {to} g = record { variables = (let same = g.variables in omega (arith, same)); more = []; objects = g.objects ∙ sym (append-nil from.objects); own = tt }

pub widens_to : {from next to : Spot} → to ≡ next → Widens from next → Widens from to
widens_to {from} same w = subst (λ spot. Widens from spot) (sym same) w

pub widens_behind : {from to : Spot} → Widens from to → Widens from (behind to)
widens_behind w = record { variables = w.variables; more = w.more; objects = w.objects; own = w.own }

-- points alone lie between
pub past_points : {from next to : Spot} → next.counts.variables ≡ from.counts.variables → next.objects ≡ from.objects → Widens next to → Widens from to
past_points {from} {next} {to} same objects w = record {
  variables = (let rest = w.variables in omega (arith, same, rest));
  more = w.more;
  objects = w.objects ∙ ap (λ l. l ++ w.more) objects;
  own = subst (λ low. AreNew low to.counts.variables w.more) same w.own;
}

-- ---- what widens keeps

number_later : (a b : Counts) → a.variables ≤ b.variables → (local : Local) → IsNumbered a local → IsNumbered b local
number_later a b more (L.Parameter number) h = tt
number_later a b more (L.Variable number) h = omega (arith, more, h)

pub numbers_later : (a b : Counts) → a.variables ≤ b.variables → (scope : Scope) → AreNumbered a scope → AreNumbered b scope
numbers_later a b more [] h = tt
numbers_later a b more (home ∷ scope) h = (number_later a b more home.local h.0, numbers_later a b more scope h.1)

objects_front : (own first second : List LocalObject) → HaveObjects own (first ++ second) → HaveObjects own first
objects_front own [] second h = tt
objects_front own (object ∷ first) second h = (h.0, objects_front own first second h.1)

pub objects_before : {from to : Spot} (own : List LocalObject) → Widens from to → HaveObjects own to.objects → HaveObjects own from.objects
objects_before {from} own w h = objects_front own from.objects w.more (subst (HaveObjects own) w.objects h)

-- ---- declarations

pub home_widens : (home : Home) (from : Spot) → home.local ≡ L.Variable from.counts.variables → Widens from (with_home home (with_variable from))
home_widens home from is = by home.is_object
  where
    by : (b : Bool) → Widens from (with_home (record home { is_object = b }) (with_variable from))
    by true = record { variables = omega arith; more = record { local = home.local; c_type = home.c_type } ∷ []; objects = refl; own = (from.counts.variables, is, omega arith, omega arith, tt) }
    by false = record { variables = omega arith; more = []; objects = sym (append-nil from.objects); own = tt }

module _ (points : List Op) where
  writes_widens : (register : Register) (value : Lowered) (from to : Spot) → Writes points register value from to → Widens from to
  writes_widens register (AsInteger own tree) from to code = widens_to code.1 (widens_behind (same_widens from))
  writes_widens register (AsPointer pointer target) from to code = widens_to code.1 (widens_behind (same_widens from))
  writes_widens register (AsObject path own) from to code = absurd code
  writes_widens register AsNothing from to code = absurd code

  begins_widens : (home : Home) (value : Lowered) (from to : Spot) → Begins points home value from to → Widens from to
  begins_widens home value from to code = by home.is_object value code
    where
      by : (b : Bool) (value : Lowered) → Begins points (record home { is_object = b }) value from to → Widens from to
      by false value code = writes_widens (R.Local home.local) value from to code
      by true (AsInteger own tree) code = widens_to code.1 (widens_behind (same_widens from))
      by true (AsPointer pointer target) code = widens_to code.1 (widens_behind (same_widens from))
      by true (AsObject path own) code = absurd code
      by true AsNothing code = absurd code

module _ (program : Program) (points : List Op) where
  return_widens : (value : Lowered) (from to : Spot) → ReturnCode program points value from to → Widens from to
  return_widens (AsInteger own tree) from to code = widens_to code.1 (widens_behind (same_widens from))
  return_widens (AsPointer pointer target) from to code = widens_to code.1 (widens_behind (same_widens from))
  return_widens (AsObject path own) from to code = absurd code
  return_widens AsNothing from to code = absurd code

  value_widens : (scope : Scope) (mode : Mode) (v : Value) (from to : Spot) (lowered : Lowered) → ValueCode program points scope mode v from to lowered → Widens from to
  value_widens scope mode v from to lowered code = grows_widens (value_named program points scope v mode from to lowered code).grows

  first_widens : (scope : Scope) (home : Home) (first : Option Value) (from to : Spot) → FirstCode program points scope home first from to → Widens from to
  first_widens scope home None from to code = widens_to code (same_widens from)
  first_widens scope home (Some v) from to code = widens_then (value_widens scope Kept v from code.0 code.1 code.2) (begins_widens points home code.1 code.0 to code.3)

  pub local_widens : (scope : Scope) (local : LocalDef) (is_taken : Bool) (from to : Spot) (home : Home) → LocalCode program points scope local is_taken from to home → Widens from to
  local_widens scope local is_taken from to home code = widens_then (home_widens home from (ap (λ (h : Home). h.local) code.0)) (first_widens (home ∷ scope) home local.first (with_home home (with_variable from)) to code.1)

  pub locals_widen : (scope : Scope) (is_taken : ℕ → Bool) (locals : List LocalDef) (from to : Spot) (inner : Scope) → LocalsCode program points scope is_taken locals from to inner → Widens from to
  locals_widen scope is_taken [] from to inner code = widens_to code.0 (same_widens from)
  locals_widen scope is_taken (first ∷ others) from to inner code = widens_then (local_widens scope first _ from code.0 code.1 code.2) (locals_widen (code.1 ∷ scope) is_taken others code.0 to inner code.3)

  pub start_widens : (scope : Scope) (is_taken : ℕ → Bool) (begin : ForStart) (from to : Spot) (inner : Scope) → StartCode program points scope is_taken begin from to inner → Widens from to
  start_widens scope is_taken T.StartNothing from to inner code = widens_to code.0 (same_widens from)
  start_widens scope is_taken (T.StartValue v) from to inner code = value_widens scope Dropped v from to code.0 code.1
  start_widens scope is_taken (T.StartLocals locals) from to inner code = locals_widen scope is_taken locals from to inner code

  pub branch_widens : (scope : Scope) (condition : Value) (from to : Spot) (holds fails : ℕ) → BranchCode program points scope condition from to holds fails → Widens from to
  branch_widens scope condition from to holds fails code = widens_then (value_widens scope Kept condition from code.0 (AsInteger code.1 code.2) code.3) (widens_to code.4.1 (widens_behind (same_widens code.0)))

  pub test_widens : (scope : Scope) (condition : Option Value) (from to : Spot) (holds fails : ℕ) → TestCode program points scope condition from to holds fails → Widens from to
  test_widens scope None from to holds fails code = widens_to code.1 (widens_behind (same_widens from))
  test_widens scope (Some condition) from to holds fails code = branch_widens scope condition from to holds fails code

  pub step_widens : (scope : Scope) (step : Option Value) (from to : Spot) → StepCode program points scope step from to → Widens from to
  step_widens scope None from to code = widens_to code (same_widens from)
  step_widens scope (Some v) from to code = value_widens scope Dropped v from to code.0 code.1

  mutual
    pub stmt_widens : (tree : Stmt) (scope : Scope) (from to : Spot) (ways : Ways program points) → StmtCode program points scope tree from to ways → Widens from to
    stmt_widens (T.BlockStmt items) scope from to ways code = block_widens items scope from to ways code
    stmt_widens T.Empty scope from to ways code = widens_to code (same_widens from)
    stmt_widens (T.Expression v) scope from to ways code = value_widens scope Dropped v from to code.0 code.1
    stmt_widens (T.If condition taken) scope from to ways code =
        widens_then (branch_widens scope condition from code.0 code.0.at to.at code.1) (stmt_widens taken scope code.0 to ways code.2)
    stmt_widens (T.IfElse condition taken otherwise) scope from to ways code =
        widens_then (branch_widens scope condition from code.0 code.0.at (suc code.1.at) code.2)
        (widens_then (widens_behind (stmt_widens taken scope code.0 code.1 ways code.3)) (stmt_widens otherwise scope (behind code.1) to ways code.5))
    stmt_widens (T.While condition body) scope from to ways code =
        widens_then (widens_behind (branch_widens scope condition from code.0 (suc code.0.at) code.0.at code.2))
        (widens_then (stmt_widens body scope (behind code.0) code.1 (record { broken = code.0.at; continued = from.at }) code.4) (widens_to code.5.1 (widens_behind (same_widens code.1))))
    stmt_widens (T.DoWhile body condition) scope from to ways code =
        widens_then (past_points {from = from} {next = behind (behind (behind from))} refl refl (stmt_widens body scope (behind (behind (behind from))) code.0 (record { broken = suc from.at; continued = suc (suc from.at) }) code.4))
        (branch_widens scope condition code.0 to (suc (suc (suc from.at))) (suc from.at) code.5)
    stmt_widens (T.For begin condition step body) scope from to ways code =
        widens_then (start_widens scope _ begin from code.0 code.4 code.5)
        (widens_then (widens_behind (test_widens code.4 condition code.0 code.1 (suc code.2.at) code.1.at code.6))
        (widens_then (widens_behind (step_widens code.4 step (behind code.1) code.2 code.8))
        (widens_then (stmt_widens body code.4 (behind code.2) code.3 (record { broken = code.1.at; continued = suc code.1.at }) code.10) (widens_to code.11.1 (widens_behind (same_widens code.3))))))
    stmt_widens (T.Switch v items) scope from to ways code =
        widens_then (value_widens scope Kept v from code.0 (AsInteger code.2 code.3) code.7)
        (widens_then (past_points {from = code.0} {next = behind (behind (behind (with_temporary code.0)))} refl refl
        (switch_widens items scope code.2 _ (suc code.1.at) (behind (behind (behind (with_temporary code.0)))) code.1 code.5 code.4 _ code.11))
        (widens_to code.14.1 (record { variables = omega arith; more = []; objects = sym (append-nil code.1.objects); own = tt })))
    stmt_widens T.Break scope from to ways code = widens_to code.1 (widens_behind (same_widens from))
    stmt_widens T.Continue scope from to ways code = widens_to code.1 (widens_behind (same_widens from))
    stmt_widens (T.Return None) scope from to ways code = widens_to code.1 (widens_behind (same_widens from))
    stmt_widens (T.Return (Some v)) scope from to ways code = widens_then (value_widens scope Kept v from code.0 code.1 code.2) (return_widens code.1 code.0 to code.3)

    pub block_widens : (items : Block) (scope : Scope) (from to : Spot) (ways : Ways program points) → BlockCode program points scope items from to ways → Widens from to
    block_widens T.Close scope from to ways code = widens_to code (same_widens from)
    block_widens (T.Declare local others) scope from to ways code = widens_then (local_widens scope local _ from code.0 code.1 code.2) (block_widens others (code.1 ∷ scope) code.0 to ways code.3)
    block_widens (T.Perform one others) scope from to ways code = widens_then (stmt_widens one scope from code.0 ways code.1) (block_widens others scope code.0 to ways code.2)

    pub switch_widens : (items : SwitchItems) (scope : Scope) (own : IntType) (switched : Register) (tests : ℕ) (from to : Spot) (last : ℕ) (default : Option ℕ) (ways : Ways program points)
        → SwitchCode program points scope items own switched tests from to last default ways → Widens from to
    switch_widens T.SwitchEnd scope own switched tests from to last default ways code = widens_to code.0 (same_widens from)
    switch_widens (T.Case label others) scope own switched tests from to last default ways code = switch_widens others scope own switched (suc tests) from to last default ways code.1
    switch_widens (T.Default others) scope own switched tests from to last default ways code = switch_widens others scope own switched tests from to last code.0 ways code.2
    switch_widens (T.SwitchStmt one others) scope own switched tests from to last default ways code =
        widens_then (stmt_widens one scope from code.0 ways code.1) (switch_widens others scope own switched tests code.0 to last default ways code.2)

  -- a new local has a number of its own
  pub local_numbered : (scope : Scope) (local : LocalDef) (is_taken : Bool) (from to : Spot) (home : Home) → LocalCode program points scope local is_taken from to home → IsNumbered to.counts home.local
  local_numbered scope local is_taken from to home code =
      let rest = first_widens (home ∷ scope) home local.first (with_home home (with_variable from)) to code.1 in
      let more = rest.variables in
      let one = one_more home.is_object in
      subst (λ (h : Home). IsNumbered to.counts h.local) (sym code.0) (omega (arith, more, one))
    where
      one_more : (b : Bool) → suc from.counts.variables ≡ (with_home (record home { is_object = b }) (with_variable from)).counts.variables
      one_more true = refl
      one_more false = refl
