-- The code of each statement does what the statement does, if that of each expression does.
use Rattle.std.proofs.Common.{ℕ, List, [], ◌∷◌, Option}
use Rattle.c_typed.specs.Typed as T
use Rattle.c_typed.specs.Typed.{Value, Stmt, Block, SwitchItems, LocalDef, ForStart, Program}
use Rattle.c_typed.specs.Programs.{IsWellTyped}
use Rattle.ref_semantics.specs.Values as V
use Rattle.ref_semantics.specs.Meaning.{Calls}
use Rattle.ref_semantics.specs.Keeping.{CallsKeep}
use Rattle.tac_ir.specs.Code.{Op, Tac}
use Rattle.tac_build.specs.Homes.{Scope}
use Rattle.tac_simulation.specs.Standing.{Placement, Frame}
use Rattle.tac_simulation.proofs.Spotting.{Runs}
use Rattle.tac_simulation.proofs.Evaluating.{ValueDoes}
use Rattle.tac_simulation.proofs.Executing.{Declares, DeclaresAll, Starts, Executes, ExecutesBlock, ExecutesItems, TestsItems}
use Rattle.tac_simulation.proofs.Declaring
use Rattle.tac_simulation.proofs.Beginnings
use Rattle.tac_simulation.proofs.Performing
use Rattle.tac_simulation.proofs.BlockStmts
use Rattle.tac_simulation.proofs.Statements
use Rattle.tac_simulation.proofs.Turns
use Rattle.tac_simulation.proofs.Leaving.{leaves_scope}
use Rattle.tac_simulation.proofs.Rounds
use Rattle.tac_simulation.proofs.Selecting

module _ (tac : Tac) (program : Program) (calls : Calls) (worth : ℕ) (points : List Op) (hidden : ℕ → Option V.Content) (frame : Frame)
    (runs : Runs tac program points frame) (well : IsWellTyped program) (keep : CallsKeep program calls)
    (follows : (placement : Placement) (scope : Scope) (tree : Value) → ValueDoes tac program calls worth points placement hidden frame scope tree) where
  -- ---- declarations

  pub local_does : (local : LocalDef) → Declares tac program calls worth points hidden frame local
  local_does local = Declaring.declares tac program calls worth points hidden frame runs well keep local (λ v first placed scope. follows placed scope v)

  pub locals_do : (locals : List LocalDef) → DeclaresAll tac program calls worth points hidden frame locals
  locals_do [] = Beginnings.declares_none tac program calls worth points hidden frame runs well keep
  locals_do (first ∷ others) = Beginnings.declares_more tac program calls worth points hidden frame runs well keep first others (local_does first) (locals_do others)

  pub start_does : (begin : ForStart) → Starts tac program calls worth points hidden frame begin
  start_does T.StartNothing = Beginnings.starts_none tac program calls worth points hidden frame runs well keep
  start_does (T.StartValue v) = Beginnings.starts_value tac program calls worth points hidden frame runs well keep v (λ placement scope. follows placement scope v)
  start_does (T.StartLocals locals) = Beginnings.starts_locals tac program calls worth points hidden frame runs well keep locals (locals_do locals)

  -- ---- labels

  pub tests_do : (items : SwitchItems) → TestsItems tac program calls worth points hidden frame items
  tests_do T.SwitchEnd = Selecting.end_tests tac program calls worth points hidden frame runs well keep follows
  tests_do (T.Case label others) = Selecting.case_tests tac program calls worth points hidden frame runs well keep follows label others (tests_do others)
  tests_do (T.Default others) = Selecting.default_tests tac program calls worth points hidden frame runs well keep follows others (tests_do others)
  tests_do (T.SwitchStmt one others) = Selecting.stmt_tests tac program calls worth points hidden frame runs well keep follows one others (tests_do others)

  -- ---- statements

  mutual
    pub stmt_does : (tree : Stmt) → Executes tac program calls worth points hidden frame tree
    stmt_does (T.BlockStmt items) = BlockStmts.block_stmts tac program calls worth points hidden frame runs well keep items (block_does items)
    stmt_does T.Empty = Statements.empties tac program calls worth points hidden frame runs well keep follows
    stmt_does (T.Expression v) = Statements.expressions tac program calls worth points hidden frame runs well keep follows v
    stmt_does (T.If condition taken) = Statements.ifs tac program calls worth points hidden frame runs well keep follows condition taken (stmt_does taken)
    stmt_does (T.IfElse condition taken otherwise) = Statements.if_elses tac program calls worth points hidden frame runs well keep follows condition taken otherwise (stmt_does taken) (stmt_does otherwise)
    stmt_does (T.While condition body) = Turns.whiles tac program calls worth points hidden frame runs well keep follows condition body (stmt_does body)
    stmt_does (T.DoWhile body condition) = Turns.do_whiles tac program calls worth points hidden frame runs well keep follows body condition (stmt_does body)
    stmt_does (T.For begin condition step body) = Rounds.fors tac program calls worth points hidden frame runs well keep follows (leaves_scope tac program calls worth points hidden frame runs well keep follows) begin condition step body (start_does begin) (stmt_does body)
    stmt_does (T.Switch v items) = Selecting.switches tac program calls worth points hidden frame runs well keep follows v items (tests_do items) (items_do items)
    stmt_does T.Break = Statements.breaks tac program calls worth points hidden frame runs well keep follows
    stmt_does T.Continue = Statements.continues tac program calls worth points hidden frame runs well keep follows
    stmt_does (T.Return v) = Statements.returns tac program calls worth points hidden frame runs well keep follows v

    pub block_does : (items : Block) → ExecutesBlock tac program calls worth points hidden frame items
    block_does T.Close = Performing.closes tac program calls worth points hidden frame runs well keep follows
    block_does (T.Declare local others) = Performing.declarations tac program calls worth points hidden frame runs well keep follows local others (local_does local) (block_does others)
    block_does (T.Perform one others) = Performing.performs tac program calls worth points hidden frame runs well keep follows one others (stmt_does one) (block_does others)

    pub items_do : (items : SwitchItems) → ExecutesItems tac program calls worth points hidden frame items
    items_do T.SwitchEnd = Selecting.end_items tac program calls worth points hidden frame runs well keep follows
    items_do (T.Case label others) = Selecting.case_items tac program calls worth points hidden frame runs well keep follows label others (items_do others)
    items_do (T.Default others) = Selecting.default_items tac program calls worth points hidden frame runs well keep follows others (items_do others)
    items_do (T.SwitchStmt one others) = Selecting.stmt_items tac program calls worth points hidden frame runs well keep follows one others (stmt_does one) (items_do others)
