-- What lowering of statements, declarations and functions asks, and what it promises.
use Rattle.std.specs.Prelude.{◌≡◌, ℕ, suc, ℤ, ◌+◌, Bool, true, List, [], ◌∷◌, ◌++◌, length, drop, map, Option, Some, None}
use Rattle.std.specs.Int.{cast_unsigned, cast_signed, w128}
use Rattle.c_num.specs.declared.IntType.{IntType}
use Rattle.c_num.specs.declared.IntType.TheVariants as I
use Rattle.c_num.specs.declared.Relation.TheVariants as relations
use Rattle.c_typed.specs.declared.typed.Value as memory_value
use Rattle.c_typed.specs.declared.statement.Stmt as memory_stmt
use Rattle.c_typed.specs.declared.statement.BlockItem as memory_item
use Rattle.c_typed.specs.declared.statement.SwitchItem as memory_switch
use Rattle.c_typed.specs.declared.statement.LocalDef as memory_local
use Rattle.c_typed.specs.declared.statement.ForStart as memory_start
use Rattle.c_typed.specs.Typed as T
use Rattle.c_typed.specs.Typed.{Value, Stmt, LocalDef, ForStart}
use Rattle.c_typed.specs.Types.{CType}
use Rattle.c_typed.specs.Views.{value_in, ValueStands}
use Rattle.c_typed.specs.StatementViews.{optional_value_in, OptionalStands, local_in, LocalStands, LocalsStand, start_in, StartStands, stmt_in, StmtStands, block_in, BlockStands, switch_in, SwitchStands}
use Rattle.c_typed.specs.Statements.{Within, is_stmt, is_block, are_items, is_local, are_locals, is_start, is_condition, is_expression, is_return, if_any}
use Rattle.tac_ir.specs.declared.register.Register.{Register}
use Rattle.tac_ir.specs.declared.register.PointId.{PointId}
use Rattle.tac_ir.specs.Code.{Tree, Op}
use Rattle.tac_ir.specs.Code as O
use Rattle.tac_ir.specs.Views.{tree_of}
use Rattle.tac_build.specs.declared.builder.Builder.{Builder}
use Rattle.tac_build.specs.declared.names.Source.{Source}
use Rattle.tac_build.specs.declared.addressed.Addressed.{Addressed}
use Rattle.tac_build.specs.declared.statements.Ways as memory_ways
use Rattle.tac_build.specs.declared.switches.Label.{Label}
use Rattle.tac_build.specs.declared.switches.Labels.{Labels}
use Rattle.tac_build.specs.declared.switches.Switched.{Switched}
use Rattle.tac_build.specs.declared.lowered.IntegerValue.{IntegerValue}
use Rattle.tac_build.specs.declared.homes.Home as memory_home
use Rattle.tac_build.specs.Spots.{Spot, behind, with_temporary, temporary, Lowered, AsInteger, AsPointer, Kept, Dropped}
use Rattle.tac_build.specs.Code.{HasOp, Emits, ValueCode}
use Rattle.tac_build.specs.StatementCode.{Ways, LocalCode, LocalsCode, StartCode, TestCode, StepCode, StmtCode, BlockCode, SwitchCode}
use Rattle.tac_build.specs.Building.{home_in, integer_of, LeadsIn}
use Rattle.tac_build.specs.Lowering.{program_in, types_of_source, scope_of, context_in}

-- ---- trees

-- a statement that is well typed where it stands
pub record StmtTyped (source : Source) (scope : List memory_home.Home) (within : Within) (stmt : memory_stmt.Stmt) : Type 0 where
  pub stands : StmtStands (types_of_source source) stmt
  pub typed : is_stmt (context_in source scope) within (stmt_in (types_of_source source) stmt) ≡ true

pub record BlockTyped (source : Source) (scope : List memory_home.Home) (within : Within) (items : List memory_item.BlockItem) : Type 0 where
  pub stand : BlockStands (types_of_source source) items
  pub typed : is_block (context_in source scope) within (block_in (types_of_source source) items) ≡ true

pub record ItemsTyped (source : Source) (scope : List memory_home.Home) (within : Within) (switched : Option IntType) (items : List memory_switch.SwitchItem) : Type 0 where
  pub stand : SwitchStands (types_of_source source) items
  pub typed : are_items (context_in source scope) within switched (switch_in (types_of_source source) items) ≡ true

pub record LocalTyped (source : Source) (scope : List memory_home.Home) (local : memory_local.LocalDef) : Type 0 where
  pub stands : LocalStands (types_of_source source) local
  pub typed : is_local (context_in source scope) (local_in (types_of_source source) local) ≡ true

pub record LocalsTyped (source : Source) (scope : List memory_home.Home) (locals : List memory_local.LocalDef) : Type 0 where
  pub stand : LocalsStand (types_of_source source) locals
  pub typed : are_locals (context_in source scope) (map (local_in (types_of_source source)) locals) ≡ true

pub record StartTyped (source : Source) (scope : List memory_home.Home) (start : memory_start.ForStart) : Type 0 where
  pub stands : StartStands (types_of_source source) start
  pub typed : is_start (context_in source scope) (start_in (types_of_source source) start) ≡ true

-- the condition of a loop or of an `if`, and the value of a `switch`
pub record ConditionTyped (source : Source) (scope : List memory_home.Home) (value : memory_value.Value) : Type 0 where
  pub stands : ValueStands (types_of_source source) value
  pub typed : is_condition (context_in source scope) (value_in (types_of_source source) value) ≡ true

-- the condition of a `for`, and its step
pub record TestTyped (source : Source) (scope : List memory_home.Home) (value : Option memory_value.Value) : Type 0 where
  pub stands : OptionalStands (types_of_source source) value
  pub typed : if_any (is_condition (context_in source scope)) (optional_value_in (types_of_source source) value) ≡ true

pub record StepTyped (source : Source) (scope : List memory_home.Home) (value : Option memory_value.Value) : Type 0 where
  pub stands : OptionalStands (types_of_source source) value
  pub typed : if_any (is_expression (context_in source scope)) (optional_value_in (types_of_source source) value) ≡ true

-- what a function of a type returns
pub record ReturnTyped (source : Source) (scope : List memory_home.Home) (returned : CType) (value : Option memory_value.Value) : Type 0 where
  pub stands : OptionalStands (types_of_source source) value
  pub typed : is_return (context_in source scope) returned (optional_value_in (types_of_source source) value) ≡ true

-- ---- variables

-- these are the next variables of which the address is taken or not, from one of this number on
abbrev pub Foretold : Addressed → ℕ → List Bool → Type 0
Foretold addressed from flags = (rest : List Bool) × (drop from addressed.variables.items ≡ flags ++ rest)

-- so many variables were declared
abbrev pub Declares : Builder → Builder → List Bool → Type 0
Declares old new flags = new.counts.variables ≡ old.counts.variables + length flags

-- ---- what lowering comes to

abbrev pub ways_in : (source : Source) (points : List Op) → memory_ways.Ways → Ways (program_in source) points
ways_in source points ways = record { broken = ways.broken.0; continued = ways.continued.0 }

-- the points that are added are the code of the tree, and stay so when more follow
abbrev pub EffectLowers : Source → List memory_home.Home → memory_value.Value → Builder → Builder → Type 0
EffectLowers source scope value old new =
    LeadsIn (types_of_source source) (λ points from to. (dropped : Lowered) × ValueCode (program_in source) points (scope_of source scope) Dropped (value_in (types_of_source source) value) from to dropped) old new

abbrev pub StepLowers : Source → List memory_home.Home → Option memory_value.Value → Builder → Builder → Type 0
StepLowers source scope value old new =
    LeadsIn (types_of_source source) (λ points from to. StepCode (program_in source) points (scope_of source scope) (optional_value_in (types_of_source source) value) from to) old new

abbrev pub ConditionLowers : Source → List memory_home.Home → memory_value.Value → Builder → Builder → IntegerValue → Type 0
ConditionLowers source scope value old new condition =
    LeadsIn (types_of_source source) (λ points from to. ValueCode (program_in source) points (scope_of source scope) Kept (value_in (types_of_source source) value) from to (integer_of condition)) old new

-- where there is no condition, nothing is added
abbrev pub TestLowers : Source → List memory_home.Home → Option memory_value.Value → Builder → Builder → Option IntegerValue → Type 0
TestLowers source scope (Some value) old new (Some condition) = ConditionLowers source scope value old new condition
TestLowers source scope None old new None = new ≡ old
TestLowers source scope _ old new _ = ⊥

-- the point of the condition of a `for`
abbrev pub turn_op : Option IntegerValue → ℕ → ℕ → Op
turn_op (Some condition) holds fails = O.Branch condition.int_type (tree_of condition.tree.value) holds fails
turn_op None holds fails = O.Jump holds

-- a value that a function returns
abbrev pub IsOperand : Lowered → O.Operand → Type 0
IsOperand (AsInteger int_type tree) operand = operand ≡ O.IntegerOperand tree
IsOperand (AsPointer register target) operand = operand ≡ O.PointerOperand register
IsOperand _ operand = ⊥

-- a statement that doesn't lead to the ways out of one around it
abbrev pub OwnLowers : Source → List memory_home.Home → Stmt → Builder → Builder → Type 0
OwnLowers source scope stmt old new =
    LeadsIn (types_of_source source) (λ points from to. (ways : Ways (program_in source) points) → StmtCode (program_in source) points (scope_of source scope) stmt from to ways) old new

-- a `for` behind its start
abbrev pub TurnsLower : Source → List memory_home.Home → Option memory_value.Value → Option memory_value.Value → memory_stmt.Stmt → Builder → Builder → Type 0
TurnsLower source scope condition step body old new =
    LeadsIn (types_of_source source) (λ points head to. (exit : Spot) × (next : Spot) × (last : Spot)
    × TestCode (program_in source) points (scope_of source scope) (optional_value_in (types_of_source source) condition) head exit (suc next.at) exit.at × HasOp points exit.at (O.Jump to.at)
    × StepCode (program_in source) points (scope_of source scope) (optional_value_in (types_of_source source) step) (behind exit) next × HasOp points next.at (O.Jump head.at)
    × StmtCode (program_in source) points (scope_of source scope) (stmt_in (types_of_source source) body) (behind next) last (record { broken = exit.at; continued = suc exit.at })
    × Emits points (O.Jump (suc exit.at)) last to) old new

abbrev pub StmtLowers : Source → List memory_home.Home → memory_ways.Ways → memory_stmt.Stmt → Builder → Builder → Type 0
StmtLowers source scope ways stmt old new =
    LeadsIn (types_of_source source) (λ points from to. StmtCode (program_in source) points (scope_of source scope) (stmt_in (types_of_source source) stmt) from to (ways_in source points ways)) old new

abbrev pub BlockLowers : Source → List memory_home.Home → memory_ways.Ways → List memory_item.BlockItem → Builder → Builder → Type 0
BlockLowers source scope ways items old new =
    LeadsIn (types_of_source source) (λ points from to. BlockCode (program_in source) points (scope_of source scope) (block_in (types_of_source source) items) from to (ways_in source points ways)) old new

abbrev pub SwitchLowers : Source → List memory_home.Home → memory_ways.Ways → memory_value.Value → List memory_switch.SwitchItem → Builder → Builder → Type 0
SwitchLowers source scope ways value items old new =
    LeadsIn (types_of_source source) (λ points from to. StmtCode (program_in source) points (scope_of source scope) (T.Switch (value_in (types_of_source source) value) (switch_in (types_of_source source) items)) from to
    (ways_in source points ways)) old new

-- the value of a `switch` comes to a temporary
abbrev pub SwitchedLowers : Source → List memory_home.Home → memory_value.Value → Builder → Builder → Switched → Type 0
SwitchedLowers source scope value old new switched =
    LeadsIn (types_of_source source) (λ points from to. (begin : Spot) × (tree : Tree)
    × ValueCode (program_in source) points (scope_of source scope) Kept (value_in (types_of_source source) value) from begin (AsInteger switched.int_type tree)
    × HasOp points begin.at (O.Assign (temporary begin) tree) × (switched.register ≡ temporary begin) × (to ≡ behind (with_temporary begin))) old new

-- an integer as memory holds it
abbrev pub stored : ℤ → ℤ
stored value = cast_signed w128 (cast_unsigned w128 value)

-- the test of a label, which leads to what it labels or to the next test
abbrev pub label_test : IntType → Register → ℤ → ℕ → ℕ → Op
label_test own switched label place next = O.Branch I.Int (O.Compare relations.Eq own (O.Held switched) (O.Constant label)) place next

abbrev pub TestsStand : List Op → IntType → Register → ℕ → List Label → Type 0
TestsStand points own switched tests [] = Unit {0}
TestsStand points own switched tests (first ∷ others) = HasOp points tests (label_test own switched (stored first.value) first.place.0 (suc tests)) × TestsStand points own switched (suc tests) others

abbrev pub TestsCode : List Label → Switched → List Op → Spot → Spot → Type 0
TestsCode cases switched points from to = TestsStand points switched.int_type switched.register from.at cases × (to ≡ record from { at = from.at + length cases })

abbrev pub place_of : Option PointId → Option ℕ
place_of None = None
place_of (Some place) = Some place.0

-- the items of a `switch`, where the tests of their labels stand, wherever that is
abbrev pub ItemsLower : Source → List memory_home.Home → memory_ways.Ways → List memory_switch.SwitchItem → Builder → Builder → Labels → Type 0
ItemsLower source scope ways items old new labels =
    LeadsIn (types_of_source source) (λ points from to. (own : IntType) (switched : Register) (tests : ℕ) → TestsStand points own switched tests labels.cases.items
    → SwitchCode (program_in source) points (scope_of source scope) (switch_in (types_of_source source) items) own switched tests from to (tests + length labels.cases.items) (place_of labels.default)
    (ways_in source points ways)) old new

-- a local begins to live in its home, the newest
abbrev pub LocalLowers : Source → List memory_home.Home → memory_local.LocalDef → Bool → memory_home.Home → Builder → Builder → Type 0
LocalLowers source scope local is_taken home old new =
    LeadsIn (types_of_source source) (λ points from to. LocalCode (program_in source) points (scope_of source scope) (local_in (types_of_source source) local) is_taken from to (home_in (types_of_source source) home)) old new

abbrev pub LocalsLower : Source → List memory_home.Home → (ℕ → Bool) → List memory_local.LocalDef → List memory_home.Home → Builder → Builder → Type 0
LocalsLower source scope is_taken locals inner old new =
    LeadsIn (types_of_source source) (λ points from to. LocalsCode (program_in source) points (scope_of source scope) is_taken (map (local_in (types_of_source source)) locals) from to (scope_of source inner)) old new

abbrev pub StartLowers : Source → List memory_home.Home → (ℕ → Bool) → memory_start.ForStart → List memory_home.Home → Builder → Builder → Type 0
StartLowers source scope is_taken start inner old new =
    LeadsIn (types_of_source source) (λ points from to. StartCode (program_in source) points (scope_of source scope) is_taken (start_in (types_of_source source) start) from to (scope_of source inner)) old new
