-- When points are the code of a statement. Branches are the decisions of the tree; the ways out of a loop or a `switch` meet at one
-- point, to which `break` goes.
use Rattle.std.specs.Prelude.{◌≡◌, ℕ, suc, Bool, true, false, ◌||◌, List, [], ◌∷◌, ◌++◌, length, Option, Some, None}
use Rattle.c_num.specs.declared.IntType.{IntType}
use Rattle.c_num.specs.declared.IntType.TheVariants as I
use Rattle.c_num.specs.declared.Relation.TheVariants as relations
use Rattle.c_typed.specs.Types.{CType}
use Rattle.c_typed.specs.Typed as T
use Rattle.c_typed.specs.Typed.{Value, Stmt, Block, SwitchItems, LocalDef, ForStart, Program}
use Rattle.tac_ir.specs.declared.register.Local.TheVariants as L
use Rattle.tac_ir.specs.declared.register.Register.{Register}
use Rattle.tac_ir.specs.declared.register.Register.TheVariants as R
use Rattle.tac_ir.specs.Code.{Tree, Constant, Held, Compare, AtLocal, IntegerOperand, PointerOperand, Op}
use Rattle.tac_ir.specs.Code as O
use Rattle.tac_build.specs.Homes.{Home, Scope, takes_optional, takes_first, takes_stmt, takes_block, lies_in_memory}
use Rattle.tac_build.specs.Spots.{Spot, behind, with_variable, with_temporary, temporary, Lowered, AsInteger, AsPointer, Kept, Dropped}
use Rattle.tac_build.specs.Code.{HasOp, Emits, Writes, ValueCode, path_from}

-- ---- locals

-- the first value of a local that lives in a register or in memory
abbrev pub Begins : List Op → Home → Lowered → Spot → Spot → Type 0
Begins points home value from to = by home.is_object value
  where
    by : Bool → Lowered → Type 0
    by false given = Writes points (R.Local home.local) given from to
    by true (AsInteger int_type tree) = Emits points (O.Store (path_from (AtLocal home.local)) home.c_type (IntegerOperand tree)) from to
    by true (AsPointer pointer target) = Emits points (O.Store (path_from (AtLocal home.local)) home.c_type (PointerOperand pointer)) from to
    by true _ = ⊥

-- a local that lies in memory is one of the function's objects
abbrev pub with_home : Home → Spot → Spot
with_home home spot = by home.is_object
  where
    by : Bool → Spot
    by true = record spot { objects = spot.objects ++ record { local = home.local; c_type = home.c_type } ∷ [] }
    by false = spot

-- the home of the next local of the body
abbrev pub new_home : Spot → CType → Bool → Home
new_home spot c_type is_taken = record { local = L.Variable spot.counts.variables; is_object = lies_in_memory c_type is_taken; c_type = c_type }

module _ (program : Program) (points : List Op) where
  abbrev pub FirstCode : Scope → Home → Option Value → Spot → Spot → Type 0
  FirstCode scope home None from to = to ≡ from
  FirstCode scope home (Some value) from to = (mid : Spot) × (given : Lowered) × ValueCode program points scope Kept value from mid given × Begins points home given mid to

  -- A local, whose address is taken in the rest of its scope or not, begins to live; its first value stands in its own scope.
  abbrev pub LocalCode : Scope → LocalDef → Bool → Spot → Spot → Home → Type 0
  LocalCode scope local is_taken from to home =
      (home ≡ new_home from local.c_type is_taken) × FirstCode (home ∷ scope) home local.first (with_home home (with_variable from)) to

  -- the locals of a `for`, whose address may be taken in its other parts, too
  abbrev pub LocalsCode : Scope → (ℕ → Bool) → List LocalDef → Spot → Spot → Scope → Type 0
  LocalsCode scope is_taken [] from to inner = (to ≡ from) × (inner ≡ scope)
  LocalsCode scope is_taken (first ∷ others) from to inner =
      (mid : Spot) × (home : Home) × LocalCode scope first (takes_first (length scope) (first ∷ others) || is_taken (length scope)) from mid home
      × LocalsCode (home ∷ scope) is_taken others mid to inner

  abbrev pub StartCode : Scope → (ℕ → Bool) → ForStart → Spot → Spot → Scope → Type 0
  StartCode scope is_taken T.StartNothing from to inner = (to ≡ from) × (inner ≡ scope)
  StartCode scope is_taken (T.StartValue value) from to inner = (dropped : Lowered) × ValueCode program points scope Dropped value from to dropped × (inner ≡ scope)
  StartCode scope is_taken (T.StartLocals locals) from to inner = LocalsCode scope is_taken locals from to inner

  -- a condition, and the point that branches on it, or jumps where there is none
  abbrev pub BranchCode : Scope → Value → Spot → Spot → ℕ → ℕ → Type 0
  BranchCode scope condition from to holds fails =
      (test : Spot) × (own : IntType) × (tree : Tree) × ValueCode program points scope Kept condition from test (AsInteger own tree) × Emits points (O.Branch own tree holds fails) test to

  abbrev pub TestCode : Scope → Option Value → Spot → Spot → ℕ → ℕ → Type 0
  TestCode scope None from to holds fails = Emits points (O.Jump holds) from to
  TestCode scope (Some condition) from to holds fails = BranchCode scope condition from to holds fails

  abbrev pub StepCode : Scope → Option Value → Spot → Spot → Type 0
  StepCode scope None from to = to ≡ from
  StepCode scope (Some value) from to = (dropped : Lowered) × ValueCode program points scope Dropped value from to dropped

  -- the point to which `break` goes, and that to which `continue` goes
  pub record Ways : Type 0 where
    pub broken : ℕ
    pub continued : ℕ

  abbrev pub ReturnCode : Lowered → Spot → Spot → Type 0
  ReturnCode (AsInteger int_type tree) from to = Emits points (O.Return (Some (IntegerOperand tree))) from to
  ReturnCode (AsPointer pointer target) from to = Emits points (O.Return (Some (PointerOperand pointer))) from to
  ReturnCode _ from to = ⊥

  -- without `default` no label leads past the `switch`
  abbrev pub GoesPast : Option ℕ → ℕ → ℕ → Type 0
  GoesPast (Some default) otherwise onward = otherwise ≡ default
  GoesPast None otherwise onward = otherwise ≡ onward

  abbrev mutual
    pub StmtCode : Scope → Stmt → Spot → Spot → Ways → Type 0
    StmtCode scope (T.BlockStmt items) from to ways = BlockCode scope items from to ways
    StmtCode scope T.Empty from to ways = to ≡ from
    StmtCode scope (T.Expression value) from to ways = (dropped : Lowered) × ValueCode program points scope Dropped value from to dropped
    StmtCode scope (T.If condition taken) from to ways = (inside : Spot) × BranchCode scope condition from inside inside.at to.at × StmtCode scope taken inside to ways
    StmtCode scope (T.IfElse condition taken otherwise) from to ways =
        (inside : Spot) × (last : Spot) × BranchCode scope condition from inside inside.at (suc last.at) × StmtCode scope taken inside last ways
        × HasOp points last.at (O.Jump to.at) × StmtCode scope otherwise (behind last) to ways
    -- the test, the way out, the body, and the way back to the test
    StmtCode scope (T.While condition body) from to ways =
        (exit : Spot) × (last : Spot) × BranchCode scope condition from exit (suc exit.at) exit.at × HasOp points exit.at (O.Jump to.at)
        × StmtCode scope body (behind exit) last (record { broken = exit.at; continued = from.at }) × Emits points (O.Jump from.at) last to
    -- the way to the body, the way out, the way to the test, the body, and the test
    StmtCode scope (T.DoWhile body condition) from to ways =
        (check : Spot) × HasOp points from.at (O.Jump (suc (suc (suc from.at)))) × HasOp points (suc from.at) (O.Jump to.at) × HasOp points (suc (suc from.at)) (O.Jump check.at)
        × StmtCode scope body (behind (behind (behind from))) check (record { broken = suc from.at; continued = suc (suc from.at) })
        × BranchCode scope condition check to (suc (suc (suc from.at))) (suc from.at)
    -- the start, the test, the way out, the step, the way to the test, the body, and the way to the step
    StmtCode scope (T.For start condition step body) from to ways =
        (head : Spot) × (exit : Spot) × (next : Spot) × (last : Spot) × (inner : Scope)
        × StartCode scope (λ number. takes_optional number condition || (takes_optional number step || takes_stmt number body)) start from head inner
        × TestCode inner condition head exit (suc next.at) exit.at × HasOp points exit.at (O.Jump to.at)
        × StepCode inner step (behind exit) next × HasOp points next.at (O.Jump head.at)
        × StmtCode inner body (behind next) last (record { broken = exit.at; continued = suc exit.at }) × Emits points (O.Jump (suc exit.at)) last to
    -- the value, the way to the tests, the way out, the items, the way out from them, and the tests of the labels
    StmtCode scope (T.Switch value items) from to ways =
        (begin : Spot) × (last : Spot) × (own : IntType) × (tree : Tree) × (default : Option ℕ) × (tests : ℕ) × (otherwise : ℕ)
        × ValueCode program points scope Kept value from begin (AsInteger own tree) × HasOp points begin.at (O.Assign (temporary begin) tree)
        × HasOp points (suc begin.at) (O.Jump (suc last.at)) × HasOp points (suc (suc begin.at)) (O.Jump to.at)
        × SwitchCode scope items own (temporary begin) (suc last.at) (behind (behind (behind (with_temporary begin)))) last tests default (record { broken = suc (suc begin.at); continued = ways.continued })
        × HasOp points last.at (O.Jump (suc (suc begin.at))) × GoesPast default otherwise (suc (suc begin.at)) × Emits points (O.Jump otherwise) (record last { at = tests }) to
    StmtCode scope T.Break from to ways = Emits points (O.Jump ways.broken) from to
    StmtCode scope T.Continue from to ways = Emits points (O.Jump ways.continued) from to
    StmtCode scope (T.Return None) from to ways = Emits points (O.Return None) from to
    StmtCode scope (T.Return (Some value)) from to ways = (mid : Spot) × (given : Lowered) × ValueCode program points scope Kept value from mid given × ReturnCode given mid to

    pub BlockCode : Scope → Block → Spot → Spot → Ways → Type 0
    BlockCode scope T.Close from to ways = to ≡ from
    BlockCode scope (T.Declare local others) from to ways =
        (mid : Spot) × (home : Home) × LocalCode scope local (takes_optional (length scope) local.first || takes_block (length scope) others) from mid home
        × BlockCode (home ∷ scope) others mid to ways
    BlockCode scope (T.Perform stmt others) from to ways = (mid : Spot) × StmtCode scope stmt from mid ways × BlockCode scope others mid to ways

    -- The items of a `switch` on an integer in a register, from one on: their labels are tested from a point to a point, and lead to the
    -- items behind them; and where `default` leads.
    pub SwitchCode : Scope → SwitchItems → IntType → Register → ℕ → Spot → Spot → ℕ → Option ℕ → Ways → Type 0
    SwitchCode scope T.SwitchEnd own switched tests from to last default ways = (to ≡ from) × (last ≡ tests) × (default ≡ None)
    SwitchCode scope (T.Case label others) own switched tests from to last default ways =
        HasOp points tests (O.Branch I.Int (Compare relations.Eq own (Held switched) (Constant label)) from.at (suc tests))
        × SwitchCode scope others own switched (suc tests) from to last default ways
    SwitchCode scope (T.Default others) own switched tests from to last default ways =
        (later : Option ℕ) × (default ≡ Some from.at) × SwitchCode scope others own switched tests from to last later ways
    SwitchCode scope (T.SwitchStmt stmt others) own switched tests from to last default ways =
        (mid : Spot) × StmtCode scope stmt from mid ways × SwitchCode scope others own switched tests mid to last default ways
