-- Items of a statement, by their numbers.
use Rattle.std.specs.Prelude.{◌≡◌, ℕ, suc, ◌<◌, ◌^◌, List, [], ◌∷◌, drop, Option, Some, None}
use Rattle.std.specs.Borrow.{Bor}
use Rattle.c_typed.specs.declared.statement.Stmt as memory_stmt
use Rattle.c_typed.specs.declared.statement.Stmt.TheVariants as M
use Rattle.c_typed.specs.declared.statement.LocalDef as memory_local
use Rattle.c_typed.specs.declared.statement.BlockItem as memory_item
use Rattle.c_typed.specs.declared.statement.BlockItem.TheVariants as B
use Rattle.c_typed.specs.declared.statement.SwitchItem as memory_switch
use Rattle.c_typed.specs.declared.statement.SwitchItem.TheVariants as W
use Rattle.c_typed.specs.Typed as T
use Rattle.c_typed.specs.Typed.{Block, SwitchItems, LocalDef, ForStart, Stmt}
use Rattle.c_typed.specs.Table.{Interned}
use Rattle.c_typed.specs.StatementViews.{stmt_in, local_in}
use Rattle.ref_meaning.specs.Trees.{StmtFits, LocalFits}
use Rattle.ref_semantics.specs.Store.{Eval, give}
use Rattle.ref_semantics.specs.Parts.{Part, StmtPart, BodyPart}
use Rattle.ref_semantics.specs.Steps as steps
use Rattle.ref_semantics.specs.Steps.{Frame, Config}
use Rattle.ref_meaning.specs.declared.control.Node as memory_node
use Rattle.ref_meaning.specs.declared.control.Node.TheVariants as N
use Rattle.ref_meaning.specs.declared.run.RefRun.{RefRun}
use Rattle.ref_meaning.specs.Views.{items_from, case_items_from, loop_of, around_run, functions_of, config_in}
use Rattle.ref_meaning.specs.Doing.{popped}

-- a block, or a function's body
abbrev pub IsBlock : memory_node.Node → Type 0
IsBlock (N.Stmt s) = by s.now
  where
    by : memory_stmt.Stmt → Type 0
    by (M.Block' shape items) = Unit {0}
    by _ = ⊥
IsBlock (N.Body function) = Unit {0}
IsBlock _ = ⊥

abbrev pub block_of : Part → Block
block_of (StmtPart (T.BlockStmt items)) = items
block_of (BodyPart function) = function.body
block_of part = T.Close

abbrev pub start_of : Stmt → ForStart
start_of (T.For begin condition step body) = begin
start_of s = T.StartNothing

abbrev pub ThisItem : Interned → ℕ → Block → memory_item.BlockItem → Type 0
ThisItem table number items (B.Local local) = (items_from number items ≡ T.Declare (local_in table local) (items_from (suc number) items)) × LocalFits table local
ThisItem table number items (B.Statement stmt) = (items_from number items ≡ T.Perform (stmt_in table stmt) (items_from (suc number) items)) × StmtFits table stmt

abbrev pub ThisCaseItem : Interned → ℕ → SwitchItems → memory_switch.SwitchItem → Type 0
ThisCaseItem table number items (W.Case label) = case_items_from number items ≡ T.Case label (case_items_from (suc number) items)
ThisCaseItem table number items W.Default = case_items_from number items ≡ T.Default (case_items_from (suc number) items)
ThisCaseItem table number items (W.Statement stmt) = (case_items_from number items ≡ T.SwitchStmt (stmt_in table stmt) (case_items_from (suc number) items)) × StmtFits table stmt

-- ---- what is found under a number

abbrev pub ItemIs : Interned → ℕ → Block → Option (Bor memory_item.BlockItem) → Type 0
ItemIs table number items None = items_from number items ≡ T.Close
ItemIs table number items (Some item) = ThisItem table number items item.now × (suc number < 2 ^ 64)

abbrev pub CaseItemIs : Interned → ℕ → SwitchItems → Option (Bor memory_switch.SwitchItem) → Type 0
CaseItemIs table number items None = case_items_from number items ≡ T.SwitchEnd
CaseItemIs table number items (Some item) = ThisCaseItem table number items item.now × (suc number < 2 ^ 64)

abbrev pub StartLocalIs : Interned → ℕ → List LocalDef → Option (Bor memory_local.LocalDef) → Type 0
StartLocalIs table number locals None = drop number locals ≡ []
StartLocalIs table number locals (Some local) = (drop number locals ≡ local_in table local.now ∷ drop (suc number) locals) × LocalFits table local.now × (suc number < 2 ^ 64)

-- ---- a local begins to live, while this waits

abbrev pub declaring : RefRun → LocalDef → Frame → Eval Config
declaring run local frame = steps.declared (around_run run) (functions_of run) local (steps.waits (around_run run) (functions_of run) frame (popped (config_in run)))

-- a turn of a loop ends that goes on
abbrev pub ending_turn : RefRun → Stmt → Eval Config
ending_turn run s = give (steps.end_turn (around_run run) (functions_of run) (loop_of s) (popped (config_in run)))
