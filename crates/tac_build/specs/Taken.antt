-- Of which locals of a body the address is taken: a list for its variables, in the order of the text. Locals are numbered by how many
-- others are in scope at their declaration.
use Rattle.std.specs.Prelude.{ℕ, suc, ◌+◌, Bool, ◌||◌, List, [], ◌∷◌, ◌++◌, length, Option}
use Rattle.c_typed.specs.Typed as T
use Rattle.c_typed.specs.Typed.{Value, Stmt, Block, SwitchItems, LocalDef, ForStart}
use Rattle.tac_build.specs.Homes.{takes_optional, takes_first, takes_stmt, takes_block}

abbrev pub taken_locals : ℕ → (ℕ → Bool) → List LocalDef → List Bool
taken_locals depth is_taken [] = []
taken_locals depth is_taken (first ∷ others) = (takes_first depth (first ∷ others) || is_taken depth) ∷ taken_locals (suc depth) is_taken others

abbrev pub taken_start : ℕ → (ℕ → Bool) → ForStart → List Bool
taken_start depth is_taken T.StartNothing = []
taken_start depth is_taken (T.StartValue value) = []
taken_start depth is_taken (T.StartLocals locals) = taken_locals depth is_taken locals

-- how many locals are in scope behind it
abbrev pub depth_behind : ℕ → ForStart → ℕ
depth_behind depth T.StartNothing = depth
depth_behind depth (T.StartValue value) = depth
depth_behind depth (T.StartLocals locals) = length locals + depth

-- the address of a local that a `for` declares is taken in its other parts
abbrev pub taken_in_turns : Option Value → Option Value → Stmt → ℕ → Bool
taken_in_turns condition step body number = takes_optional number condition || (takes_optional number step || takes_stmt number body)

abbrev mutual
  pub taken_stmt : ℕ → Stmt → List Bool
  taken_stmt depth (T.BlockStmt items) = taken_block depth items
  taken_stmt depth T.Empty = []
  taken_stmt depth (T.Expression value) = []
  taken_stmt depth (T.If condition taken) = taken_stmt depth taken
  taken_stmt depth (T.IfElse condition taken otherwise) = taken_stmt depth taken ++ taken_stmt depth otherwise
  taken_stmt depth (T.While condition body) = taken_stmt depth body
  taken_stmt depth (T.DoWhile body condition) = taken_stmt depth body
  taken_stmt depth (T.For start condition step body) = taken_start depth (taken_in_turns condition step body) start ++ taken_stmt (depth_behind depth start) body
  taken_stmt depth (T.Switch value items) = taken_items depth items
  taken_stmt depth T.Break = []
  taken_stmt depth T.Continue = []
  taken_stmt depth (T.Return value) = []

  pub taken_block : ℕ → Block → List Bool
  taken_block depth T.Close = []
  taken_block depth (T.Declare local others) = (takes_optional depth local.first || takes_block depth others) ∷ taken_block (suc depth) others
  taken_block depth (T.Perform stmt others) = taken_stmt depth stmt ++ taken_block depth others

  pub taken_items : ℕ → SwitchItems → List Bool
  taken_items depth T.SwitchEnd = []
  taken_items depth (T.Case label others) = taken_items depth others
  taken_items depth (T.Default others) = taken_items depth others
  taken_items depth (T.SwitchStmt stmt others) = taken_stmt depth stmt ++ taken_items depth others
