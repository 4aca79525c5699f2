-- The typed statements that those in memory stand for, in a table of types.
use Rattle.std.specs.Prelude.{List, [], ◌∷◌, map, Option, Some, None, option_map}
use Rattle.c_typed.specs.declared.statement.LocalDef as memory_local
use Rattle.c_typed.specs.declared.statement.ForStart as memory_start
use Rattle.c_typed.specs.declared.statement.ForStart.TheVariants as F
use Rattle.c_typed.specs.declared.statement.Stmt as memory_stmt
use Rattle.c_typed.specs.declared.statement.Stmt.TheVariants as S
use Rattle.c_typed.specs.declared.statement.BlockItem as memory_item
use Rattle.c_typed.specs.declared.statement.BlockItem.TheVariants as B
use Rattle.c_typed.specs.declared.statement.SwitchItem as memory_switch
use Rattle.c_typed.specs.declared.statement.SwitchItem.TheVariants as W
use Rattle.c_typed.specs.declared.typed.Value as memory_value
use Rattle.c_typed.specs.Typed as typed
use Rattle.c_typed.specs.Table.{Interned, Stands, type_in}
use Rattle.c_typed.specs.Views.{value_in, ValueStands}

abbrev pub optional_value_in : Interned → Option memory_value.Value → Option typed.Value
optional_value_in table value = option_map (value_in table) value

abbrev pub OptionalStands : Interned → Option memory_value.Value → Type 0
OptionalStands table None = Unit {0}
OptionalStands table (Some value) = ValueStands table value

-- ---- locals

abbrev pub local_in : Interned → memory_local.LocalDef → typed.LocalDef
local_in table local = record { c_type = type_in table local.c_type; first = optional_value_in table local.first }

abbrev pub LocalStands : Interned → memory_local.LocalDef → Type 0
LocalStands table local = Stands table local.c_type × OptionalStands table local.first

abbrev pub LocalsStand : Interned → List memory_local.LocalDef → Type 0
LocalsStand table [] = Unit {0}
LocalsStand table (first ∷ others) = LocalStands table first × LocalsStand table others

abbrev pub start_in : Interned → memory_start.ForStart → typed.ForStart
start_in table F.Nothing = typed.StartNothing
start_in table (F.Value value) = typed.StartValue (value_in table value)
start_in table (F.Locals locals) = typed.StartLocals (map (local_in table) locals.items)

abbrev pub StartStands : Interned → memory_start.ForStart → Type 0
StartStands table F.Nothing = Unit {0}
StartStands table (F.Value value) = ValueStands table value
StartStands table (F.Locals locals) = LocalsStand table locals.items

-- ---- statements

abbrev mutual
  pub stmt_in : Interned → memory_stmt.Stmt → typed.Stmt
  stmt_in table (S.Block' shape items) = typed.BlockStmt (block_row table items)
  stmt_in table S.Empty = typed.Empty
  stmt_in table (S.Expression value) = typed.Expression (value_in table value)
  stmt_in table (S.If' condition p taken) = typed.If (value_in table condition) (stmt_in table taken)
  stmt_in table (S.IfElse' condition p taken q otherwise) = typed.IfElse (value_in table condition) (stmt_in table taken) (stmt_in table otherwise)
  stmt_in table (S.While' condition p body) = typed.While (value_in table condition) (stmt_in table body)
  stmt_in table (S.DoWhile' p body condition) = typed.DoWhile (stmt_in table body) (value_in table condition)
  stmt_in table (S.For' start condition step p body) = typed.For (start_in table start) (optional_value_in table condition) (optional_value_in table step) (stmt_in table body)
  stmt_in table (S.Switch' value shape items) = typed.Switch (value_in table value) (switch_row table items)
  stmt_in table S.Break = typed.Break
  stmt_in table S.Continue = typed.Continue
  stmt_in table (S.Return value) = typed.Return (optional_value_in table value)

  pub block_row : Interned → {shape : _} → memory_stmt.Row_of-BlockItem shape → typed.Block
  block_row table memory_stmt.end_of-BlockItem = typed.Close
  block_row table (memory_stmt.more_of-BlockItem (B.Local local) others) = typed.Declare (local_in table local) (block_row table others)
  block_row table (memory_stmt.more_of-BlockItem (B.Statement stmt) others) = typed.Perform (stmt_in table stmt) (block_row table others)

  pub switch_row : Interned → {shape : _} → memory_stmt.Row_of-SwitchItem shape → typed.SwitchItems
  switch_row table memory_stmt.end_of-SwitchItem = typed.SwitchEnd
  switch_row table (memory_stmt.more_of-SwitchItem (W.Case label) others) = typed.Case label (switch_row table others)
  switch_row table (memory_stmt.more_of-SwitchItem W.Default others) = typed.Default (switch_row table others)
  switch_row table (memory_stmt.more_of-SwitchItem (W.Statement stmt) others) = typed.SwitchStmt (stmt_in table stmt) (switch_row table others)

-- vectors' items
abbrev pub block_in : Interned → List memory_item.BlockItem → typed.Block
block_in table [] = typed.Close
block_in table (B.Local local ∷ others) = typed.Declare (local_in table local) (block_in table others)
block_in table (B.Statement stmt ∷ others) = typed.Perform (stmt_in table stmt) (block_in table others)

abbrev pub switch_in : Interned → List memory_switch.SwitchItem → typed.SwitchItems
switch_in table [] = typed.SwitchEnd
switch_in table (W.Case label ∷ others) = typed.Case label (switch_in table others)
switch_in table (W.Default ∷ others) = typed.Default (switch_in table others)
switch_in table (W.Statement stmt ∷ others) = typed.SwitchStmt (stmt_in table stmt) (switch_in table others)

-- each of the types in it stands for one
abbrev mutual
  pub StmtStands : Interned → memory_stmt.Stmt → Type 0
  StmtStands table (S.Block' shape items) = BlockRowStands table items
  StmtStands table S.Empty = Unit {0}
  StmtStands table (S.Expression value) = ValueStands table value
  StmtStands table (S.If' condition p taken) = ValueStands table condition × StmtStands table taken
  StmtStands table (S.IfElse' condition p taken q otherwise) = ValueStands table condition × StmtStands table taken × StmtStands table otherwise
  StmtStands table (S.While' condition p body) = ValueStands table condition × StmtStands table body
  StmtStands table (S.DoWhile' p body condition) = StmtStands table body × ValueStands table condition
  StmtStands table (S.For' start condition step p body) = StartStands table start × OptionalStands table condition × OptionalStands table step × StmtStands table body
  StmtStands table (S.Switch' value shape items) = ValueStands table value × SwitchRowStands table items
  StmtStands table S.Break = Unit {0}
  StmtStands table S.Continue = Unit {0}
  StmtStands table (S.Return value) = OptionalStands table value

  pub BlockRowStands : Interned → {shape : _} → memory_stmt.Row_of-BlockItem shape → Type 0
  BlockRowStands table memory_stmt.end_of-BlockItem = Unit {0}
  BlockRowStands table (memory_stmt.more_of-BlockItem (B.Local local) others) = LocalStands table local × BlockRowStands table others
  BlockRowStands table (memory_stmt.more_of-BlockItem (B.Statement stmt) others) = StmtStands table stmt × BlockRowStands table others

  pub SwitchRowStands : Interned → {shape : _} → memory_stmt.Row_of-SwitchItem shape → Type 0
  SwitchRowStands table memory_stmt.end_of-SwitchItem = Unit {0}
  SwitchRowStands table (memory_stmt.more_of-SwitchItem (W.Case label) others) = SwitchRowStands table others
  SwitchRowStands table (memory_stmt.more_of-SwitchItem W.Default others) = SwitchRowStands table others
  SwitchRowStands table (memory_stmt.more_of-SwitchItem (W.Statement stmt) others) = StmtStands table stmt × SwitchRowStands table others

abbrev pub BlockStands : Interned → List memory_item.BlockItem → Type 0
BlockStands table [] = Unit {0}
BlockStands table (B.Local local ∷ others) = LocalStands table local × BlockStands table others
BlockStands table (B.Statement stmt ∷ others) = StmtStands table stmt × BlockStands table others

abbrev pub SwitchStands : Interned → List memory_switch.SwitchItem → Type 0
SwitchStands table [] = Unit {0}
SwitchStands table (W.Case label ∷ others) = SwitchStands table others
SwitchStands table (W.Default ∷ others) = SwitchStands table others
SwitchStands table (W.Statement stmt ∷ others) = StmtStands table stmt × SwitchStands table others
