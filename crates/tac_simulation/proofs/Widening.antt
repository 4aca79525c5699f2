-- What the code of statements names more than stood before: locals, and objects of the function.
use Rattle.std.proofs.Common.{◌≡◌, ℕ, suc, ◌≤◌, Bool, true, false, List, [], ◌∷◌, ◌++◌, Option, Some, None, refl, sym, ap, ◌∙◌, subst, append-nil, append_assoc, arith}
use Rattle.c_num.specs.declared.IntType.{IntType}
use Rattle.c_typed.specs.Typed as T
use Rattle.c_typed.specs.Typed.{Value, Stmt, Block, SwitchItems, LocalDef, ForStart, Program}
use Rattle.tac_ir.specs.declared.program.Counts.{Counts}
use Rattle.tac_ir.specs.declared.register.Local.{Local}
use Rattle.tac_ir.specs.declared.register.Local.TheVariants as L
use Rattle.tac_ir.specs.declared.register.Register.{Register}
use Rattle.tac_ir.specs.declared.register.Register.TheVariants as R
use Rattle.tac_ir.specs.Code.{Op, LocalObject}
use Rattle.tac_build.specs.Homes.{Home, Scope}
use Rattle.tac_build.specs.Spots.{Spot, behind, with_variable, with_temporary, Lowered, AsInteger, AsPointer, AsObject, AsNothing, Mode, Kept, Dropped}
use Rattle.tac_build.specs.Code.{Writes, ValueCode}
use Rattle.tac_build.specs.StatementCode.{Begins, with_home, FirstCode, LocalCode, LocalsCode, StartCode, BranchCode, TestCode, StepCode, Ways, ReturnCode, StmtCode, BlockCode, SwitchCode}
use Rattle.tac_build.specs.Forms.{SpotGrows}
use Rattle.tac_build.proofs.Named.{value_named}
use Rattle.tac_simulation.proofs.Executing.{IsNumbered, AreNumbered, HaveObjects}

-- later spots have numbered more locals, and have more objects
pub record Wider (from to : Spot) : Type 0 where
  pub variables : from.counts.variables ≤ to.counts.variables
  pub more : List LocalObject
  pub objects : to.objects ≡ from.objects ++ more

pub wider_same : (spot : Spot) → Wider spot spot
wider_same spot = record { variables = omega arith; more = []; objects = sym (append-nil spot.objects) }

pub wider_then : {a b c : Spot} → Wider a b → Wider b c → Wider a c
wider_then {a} {b} {c} one other = record {
  variables = omega (arith, one.variables, other.variables);
  more = one.more ++ other.more;
  objects = other.objects ∙ ap (λ objects. objects ++ other.more) one.objects ∙ append_assoc a.objects one.more other.more;
}

pub wider_grows : {a b : Spot} → SpotGrows a b → Wider a b
wider_grows {a} {b} grows = record { variables = omega (arith, grows.variables); more = []; objects = grows.objects ∙ sym (append-nil a.objects) }

-- to a spot that is the same but for where it is
pub wider_behind : {a b : Spot} (c : Spot) → c ≡ behind b → Wider a b → Wider a c
wider_behind {a} {b} c e wider = subst (λ spot. Wider a spot) (sym e) (record { variables = wider.variables; more = wider.more; objects = wider.objects })

pub wider_to : {a b : Spot} (c : Spot) → c ≡ b → Wider a b → Wider a c
wider_to {a} {b} c e wider = subst (λ spot. Wider a spot) (sym e) wider

-- ---- what holds of fewer, and of later spots

pub have_less : (own objects more : List LocalObject) → HaveObjects own (objects ++ more) → HaveObjects own objects
have_less own [] more have = tt
have_less own (first ∷ others) more have = (have.0, have_less own others more have.1)

pub have_before : (own : List LocalObject) {from to : Spot} → Wider from to → HaveObjects own to.objects → HaveObjects own from.objects
have_before own {from} {to} wider have = have_less own from.objects wider.more (subst (λ objects. HaveObjects own objects) wider.objects have)

pub numbered_more : (from to : Counts) → from.variables ≤ to.variables → (scope : Scope) → AreNumbered from scope → AreNumbered to scope
numbered_more from to less [] numbered = tt
numbered_more from to less (home ∷ scope) numbered = (by home.local numbered.0, numbered_more from to less scope numbered.1)
  where
    by : (local : Local) → IsNumbered from local → IsNumbered to local
    by (L.Parameter number) is = tt
    by (L.Variable number) is = omega (arith, is, less)

pub numbered_behind : {from to : Spot} → Wider from to → (scope : Scope) → AreNumbered from.counts scope → AreNumbered to.counts scope
numbered_behind {from} {to} wider scope numbered = numbered_more from.counts to.counts wider.variables scope numbered

-- ---- the code of statements

module _ (program : Program) (points : List Op) where
  value_wider : (scope : Scope) (v : Value) (mode : Mode) (from to : Spot) (lowered : Lowered) → ValueCode program points scope mode v from to lowered → Wider from to
  value_wider scope v mode from to lowered code = wider_grows (value_named program points scope v mode from to lowered code).grows

  writes_wider : (register : Register) (given : Lowered) (from to : Spot) → Writes points register given from to → Wider from to
  writes_wider register (AsInteger own tree) from to code = wider_behind to code.1 (wider_same from)
  writes_wider register (AsPointer pointer target) from to code = wider_behind to code.1 (wider_same from)
  writes_wider register (AsObject path own) from to code = absurd code
  writes_wider register AsNothing from to code = absurd code

  begins_wider : (home : Home) (given : Lowered) (from to : Spot) → Begins points home given from to → Wider from to
  begins_wider home given from to code = by home.is_object given code
    where
      by : (b : Bool) (given : Lowered) → Begins points (record home { is_object = b }) given from to → Wider from to
      by false given code = writes_wider _ given from to code
      by true (AsInteger own tree) code = wider_behind to code.1 (wider_same from)
      by true (AsPointer pointer target) code = wider_behind to code.1 (wider_same from)
      by true (AsObject path own) code = absurd code
      by true AsNothing code = absurd code

  first_wider : (scope : Scope) (home : Home) (first : Option Value) (from to : Spot) → FirstCode program points scope home first from to → Wider from to
  first_wider scope home None from to code = wider_to to code (wider_same from)
  first_wider scope home (Some v) from to code = wider_then (value_wider scope v Kept from code.0 code.1 code.2) (begins_wider home code.1 code.0 to code.3)

  variable_wider : (spot : Spot) → Wider spot (with_variable spot)
  variable_wider spot = record { variables = omega arith; more = []; objects = sym (append-nil spot.objects) }

  home_wider : (home : Home) (spot : Spot) → Wider spot (with_home home spot)
  home_wider home spot = by home.is_object
    where
      by : (b : Bool) → Wider spot (with_home (record home { is_object = b }) spot)
      by true = record { variables = omega arith; more = record { local = home.local; c_type = home.c_type } ∷ []; objects = refl }
      by false = wider_same spot

  -- behind the name of a local
  named_wider : (scope : Scope) (local : LocalDef) (is_taken : Bool) (from to : Spot) (home : Home) → LocalCode program points scope local is_taken from to home → Wider (with_variable from) to
  named_wider scope local is_taken from to home code = wider_then (home_wider home (with_variable from)) (first_wider (home ∷ scope) home local.first (with_home home (with_variable from)) to code.1)

  pub local_wider : (scope : Scope) (local : LocalDef) (is_taken : Bool) (from to : Spot) (home : Home) → LocalCode program points scope local is_taken from to home → Wider from to
  local_wider scope local is_taken from to home code = wider_then (variable_wider from) (named_wider scope local is_taken from to home code)

  pub local_numbered : (scope : Scope) (local : LocalDef) (is_taken : Bool) (from to : Spot) (home : Home) → LocalCode program points scope local is_taken from to home → AreNumbered from.counts scope → AreNumbered to.counts (home ∷ scope)
  local_numbered scope local is_taken from to home code numbered = (
    subst (λ (h : Home). IsNumbered to.counts h.local) (sym code.0) (let more = (named_wider scope local is_taken from to home code).variables in omega (arith, more)),
    numbered_behind (local_wider scope local is_taken from to home code) scope numbered,
  )

  pub locals_wider : (scope : Scope) (is_taken : ℕ → Bool) (locals : List LocalDef) (from to : Spot) (inner : Scope) → LocalsCode program points scope is_taken locals from to inner → Wider from to
  locals_wider scope is_taken [] from to inner code = wider_to to code.0 (wider_same from)
  locals_wider scope is_taken (first ∷ others) from to inner code = wider_then (local_wider scope first _ from code.0 code.1 code.2) (locals_wider (code.1 ∷ scope) is_taken others code.0 to inner code.3)

  pub locals_numbered : (scope : Scope) (is_taken : ℕ → Bool) (locals : List LocalDef) (from to : Spot) (inner : Scope) → LocalsCode program points scope is_taken locals from to inner → AreNumbered from.counts scope → AreNumbered to.counts inner
  locals_numbered scope is_taken [] from to inner code numbered = subst (λ inner. AreNumbered to.counts inner) (sym code.1) (numbered_behind (wider_to to code.0 (wider_same from)) scope numbered)
  locals_numbered scope is_taken (first ∷ others) from to inner code numbered =
      locals_numbered (code.1 ∷ scope) is_taken others code.0 to inner code.3 (local_numbered scope first _ from code.0 code.1 code.2 numbered)

  pub start_wider : (scope : Scope) (is_taken : ℕ → Bool) (begin : ForStart) (from to : Spot) (inner : Scope) → StartCode program points scope is_taken begin from to inner → Wider from to
  start_wider scope is_taken T.StartNothing from to inner code = wider_to to code.0 (wider_same from)
  start_wider scope is_taken (T.StartValue v) from to inner code = value_wider scope v Dropped from to code.0 code.1
  start_wider scope is_taken (T.StartLocals locals) from to inner code = locals_wider scope is_taken locals from to inner code

  pub start_numbered : (scope : Scope) (is_taken : ℕ → Bool) (begin : ForStart) (from to : Spot) (inner : Scope) → StartCode program points scope is_taken begin from to inner → AreNumbered from.counts scope → AreNumbered to.counts inner
  start_numbered scope is_taken T.StartNothing from to inner code numbered = subst (λ inner. AreNumbered to.counts inner) (sym code.1) (numbered_behind (wider_to to code.0 (wider_same from)) scope numbered)
  start_numbered scope is_taken (T.StartValue v) from to inner code numbered = subst (λ inner. AreNumbered to.counts inner) (sym code.2) (numbered_behind (value_wider scope v Dropped from to code.0 code.1) scope numbered)
  start_numbered scope is_taken (T.StartLocals locals) from to inner code numbered = locals_numbered scope is_taken locals from to inner code numbered

  pub branch_wider : (scope : Scope) (condition : Value) (from to : Spot) (holds fails : ℕ) → BranchCode program points scope condition from to holds fails → Wider from to
  branch_wider scope condition from to holds fails code = wider_behind to code.4.1 (value_wider scope condition Kept from code.0 (AsInteger code.1 code.2) code.3)

  pub test_wider : (scope : Scope) (condition : Option Value) (from to : Spot) (holds fails : ℕ) → TestCode program points scope condition from to holds fails → Wider from to
  test_wider scope None from to holds fails code = wider_behind to code.1 (wider_same from)
  test_wider scope (Some condition) from to holds fails code = branch_wider scope condition from to holds fails code

  pub step_wider : (scope : Scope) (step : Option Value) (from to : Spot) → StepCode program points scope step from to → Wider from to
  step_wider scope None from to code = wider_to to code (wider_same from)
  step_wider scope (Some v) from to code = value_wider scope v Dropped from to code.0 code.1

  return_wider : (given : Lowered) (from to : Spot) → ReturnCode program points given from to → Wider from to
  return_wider (AsInteger own tree) from to code = wider_behind to code.1 (wider_same from)
  return_wider (AsPointer pointer target) from to code = wider_behind to code.1 (wider_same from)
  return_wider (AsObject path own) from to code = absurd code
  return_wider AsNothing from to code = absurd code

  -- to a spot that has the same names
  wider_past : {a b : Spot} → Wider a b → Wider a (behind b)
  wider_past wider = record { variables = wider.variables; more = wider.more; objects = wider.objects }

  mutual
    pub stmt_wider : (tree : Stmt) (scope : Scope) (from to : Spot) (ways : Ways program points) → StmtCode program points scope tree from to ways → Wider from to
    stmt_wider (T.BlockStmt items) scope from to ways code = block_wider items scope from to ways code
    stmt_wider T.Empty scope from to ways code = wider_to to code (wider_same from)
    stmt_wider (T.Expression v) scope from to ways code = value_wider scope v Dropped from to code.0 code.1
    stmt_wider (T.If condition taken) scope from to ways code = wider_then (branch_wider scope condition from code.0 _ _ code.1) (stmt_wider taken scope code.0 to ways code.2)
    stmt_wider (T.IfElse condition taken otherwise) scope from to ways code =
        wider_then (branch_wider scope condition from code.0 _ _ code.2) (wider_then (wider_past (stmt_wider taken scope code.0 code.1 ways code.3)) (stmt_wider otherwise scope (behind code.1) to ways code.5))
    stmt_wider (T.While condition body) scope from to ways code =
        wider_behind to code.5.1 (wider_then (wider_past (branch_wider scope condition from code.0 _ _ code.2)) (stmt_wider body scope (behind code.0) code.1 _ code.4))
    stmt_wider (T.DoWhile body condition) scope from to ways code =
        wider_then (wider_past (wider_past (wider_past (wider_same from)))) (wider_then (stmt_wider body scope (behind (behind (behind from))) code.0 _ code.4) (branch_wider scope condition code.0 to _ _ code.5))
    stmt_wider (T.For begin condition step body) scope from to ways code =
        wider_behind to code.11.1 (wider_then (start_wider scope _ begin from code.0 code.4 code.5) (wider_then (wider_past (test_wider code.4 condition code.0 code.1 _ _ code.6))
        (wider_then (wider_past (step_wider code.4 step (behind code.1) code.2 code.8)) (stmt_wider body code.4 (behind code.2) code.3 _ code.10))))
    stmt_wider (T.Switch v items) scope from to ways code =
        let inside = items_wider items scope code.2 (R.Temporary code.0.counts.temporaries) (suc code.1.at) (behind (behind (behind (with_temporary code.0)))) code.1 code.5 code.4 _ code.11 in
        let begun = value_wider scope v Kept from code.0 (AsInteger code.2 code.3) code.7 in
        wider_to to code.14.1 (wider_then {b = behind (behind (behind (with_temporary code.0)))} (record { variables = begun.variables; more = begun.more; objects = begun.objects }) (record { variables = inside.variables; more = inside.more; objects = inside.objects }))
    stmt_wider T.Break scope from to ways code = wider_behind to code.1 (wider_same from)
    stmt_wider T.Continue scope from to ways code = wider_behind to code.1 (wider_same from)
    stmt_wider (T.Return None) scope from to ways code = wider_behind to code.1 (wider_same from)
    stmt_wider (T.Return (Some v)) scope from to ways code = wider_then (value_wider scope v Kept from code.0 code.1 code.2) (return_wider code.1 code.0 to code.3)

    pub block_wider : (items : Block) (scope : Scope) (from to : Spot) (ways : Ways program points) → BlockCode program points scope items from to ways → Wider from to
    block_wider T.Close scope from to ways code = wider_to to code (wider_same from)
    block_wider (T.Declare local others) scope from to ways code = wider_then (local_wider scope local _ from code.0 code.1 code.2) (block_wider others (code.1 ∷ scope) code.0 to ways code.3)
    block_wider (T.Perform one others) scope from to ways code = wider_then (stmt_wider one scope from code.0 ways code.1) (block_wider others scope code.0 to ways code.2)

    pub items_wider : (items : SwitchItems) (scope : Scope) (own : IntType) (switched : Register) (tests : ℕ) (from to : Spot) (last : ℕ) (default : Option ℕ) (ways : Ways program points)
        → SwitchCode program points scope items own switched tests from to last default ways → Wider from to
    items_wider T.SwitchEnd scope own switched tests from to last default ways code = wider_to to code.0 (wider_same from)
    items_wider (T.Case label others) scope own switched tests from to last default ways code = items_wider others scope own switched (suc tests) from to last default ways code.1
    items_wider (T.Default others) scope own switched tests from to last default ways code = items_wider others scope own switched tests from to last code.0 ways code.2
    items_wider (T.SwitchStmt one others) scope own switched tests from to last default ways code = wider_then (stmt_wider one scope from code.0 ways code.1) (items_wider others scope own switched tests code.0 to last default ways code.2)
