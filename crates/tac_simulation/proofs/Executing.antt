-- What is shown of the code of a statement: along the reference's execution it comes to where the statement leaves it, or both answer alike.
--
-- A statement that goes on, breaks or continues leaves the code at a point, with the locals in scope that were there before. Within a block
-- there may be more, and those that lie in memory have got their objects; at its end they are given up. A statement that returns leaves the
-- code at a point that returns what stands for the value, of which all but the last step is done.
--
-- Each statement spends a unit at least, and leaves some ticks for the jumps around it. A loop's turns behind the first one are not counted
-- in the units: the branch at its head pays for each turn.
use Rattle.std.proofs.Common.{◌≡◌, ℕ, zero, suc, ◌+◌, ◌≤◌, ◌<◌, ◌⊎◌, true, List, [], ◌∷◌, ◌++◌, length, Option, Some, None, ℤ}
use Rattle.c_num.specs.declared.IntType.{IntType}
use Rattle.c_num.specs.Types.{is_value}
use Rattle.c_typed.specs.Typed as T
use Rattle.c_typed.specs.Typed.{Value, Stmt, Block, SwitchItems, LocalDef, ForStart, Program}
use Rattle.c_typed.specs.Statements.{Within, is_local, are_locals, is_start, is_stmt, is_block, are_items}
use Rattle.c_typed.specs.Sizes.{local_makes, locals_make, start_makes, stmt_makes, block_makes, items_make, is_storable}
use Rattle.ref_semantics.specs.Values as V
use Rattle.ref_semantics.specs.Values.{Scalar}
use Rattle.ref_semantics.specs.Store as S
use Rattle.ref_semantics.specs.Meaning as Meaning
use Rattle.ref_semantics.specs.Meaning.{Calls, Completion, Normal, Break, Continue, Return, Entry, NoEntry}
use Rattle.ref_semantics.specs.First.{around_of}
use Rattle.tac_ir.specs.declared.program.Counts.{Counts}
use Rattle.tac_ir.specs.declared.register.Local.{Local}
use Rattle.tac_ir.specs.declared.register.Local.TheVariants as L
use Rattle.tac_ir.specs.declared.register.Register.{Register}
use Rattle.tac_ir.specs.Code.{Op, Operand, LocalObject, Tac}
use Rattle.tac_ir.specs.Code as O
use Rattle.tac_ir.specs.Values as M
use Rattle.tac_ir.specs.Values.{OfActivation}
use Rattle.tac_ir.specs.Objects.{own_type, whole}
use Rattle.tac_ir.specs.Costs.{more_cost}
use Rattle.tac_ir.specs.Calls.{leave}
use Rattle.tac_ir.specs.States.{State}
use Rattle.tac_ir.specs.Meaning.{execute}
use Rattle.tac_ir.proofs.Paying.{with_paid}
use Rattle.tac_build.specs.Homes.{Home, Scope}
use Rattle.tac_build.specs.Spots.{Spot}
use Rattle.tac_build.specs.Code.{HasOp}
use Rattle.tac_build.specs.StatementCode.{Ways, LocalCode, LocalsCode, StartCode, StmtCode, BlockCode, SwitchCode}
use Rattle.tac_build.specs.Forms.{context_of}
use Rattle.tac_simulation.specs.Standing.{Placement, Frame, HoldsFor, surroundings}
use Rattle.tac_simulation.proofs.Paths.{Stand, Does}
use Rattle.tac_simulation.proofs.Evaluating.{AtSpot, value_units}

-- ---- units and ticks

-- how many units are spent at most, a loop's turns behind the first one not counted
abbrev pub optional_units : Option Value → ℕ
optional_units None = 0
optional_units (Some v) = value_units v

abbrev pub locals_units : List LocalDef → ℕ
locals_units [] = 0
locals_units (first ∷ others) = optional_units first.first + locals_units others

abbrev pub start_units : ForStart → ℕ
start_units T.StartNothing = 0
start_units (T.StartValue v) = value_units v
start_units (T.StartLocals locals) = locals_units locals

abbrev pub label_units : SwitchItems → ℕ
label_units T.SwitchEnd = 0
label_units (T.Case label others) = 1 + label_units others
label_units (T.Default others) = label_units others
label_units (T.SwitchStmt one others) = label_units others

abbrev mutual
  pub stmt_units : Stmt → ℕ
  stmt_units (T.BlockStmt items) = 1 + block_units items
  stmt_units T.Empty = 1
  stmt_units (T.Expression v) = 1 + value_units v
  stmt_units (T.If condition taken) = 1 + value_units condition + stmt_units taken
  stmt_units (T.IfElse condition taken otherwise) = 1 + value_units condition + stmt_units taken + stmt_units otherwise
  stmt_units (T.While condition body) = 1 + value_units condition + stmt_units body
  stmt_units (T.DoWhile body condition) = 1 + stmt_units body + value_units condition
  stmt_units (T.For begin condition step body) = 1 + start_units begin + optional_units condition + optional_units step + stmt_units body
  stmt_units (T.Switch v items) = 1 + value_units v + label_units items + switch_units items
  stmt_units T.Break = 1
  stmt_units T.Continue = 1
  stmt_units (T.Return v) = 1 + optional_units v

  pub block_units : Block → ℕ
  block_units T.Close = 0
  block_units (T.Declare local others) = optional_units local.first + block_units others
  block_units (T.Perform one others) = stmt_units one + block_units others

  pub switch_units : SwitchItems → ℕ
  switch_units T.SwitchEnd = 0
  switch_units (T.Case label others) = switch_units others
  switch_units (T.Default others) = switch_units others
  switch_units (T.SwitchStmt one others) = stmt_units one + switch_units others

-- what a statement leaves for the jumps around it
abbrev pub left_behind : ℕ
left_behind = 8

-- ---- locals

-- locals in scope were numbered before
abbrev pub IsNumbered : Counts → Local → Type 0
IsNumbered counts (L.Parameter number) = Unit {0}
IsNumbered counts (L.Variable number) = number < counts.variables

abbrev pub AreNumbered : Counts → Scope → Type 0
AreNumbered counts [] = Unit {0}
AreNumbered counts (home ∷ scope) = IsNumbered counts home.local × AreNumbered counts scope

-- each is one of a function's objects, by its local
abbrev pub HaveObjects : List LocalObject → List LocalObject → Type 0
HaveObjects own [] = Unit {0}
HaveObjects own (first ∷ others) = (own_type own first.local ≡ whole first.c_type) × HaveObjects own others

-- No local that was given a number before, those below a count, has another object; new ones have objects of the activation.
abbrev pub Extends : Frame → ℕ → Placement → Placement → Type 0
Extends frame count placement placed =
    (number : ℕ) → (placed number ≡ placement number) ⊎ ((count ≤ number) × ((local : Local) × (placed number ≡ Some (OfActivation frame.number local))))

-- ---- the items of a `switch`

module _ (program : Program) (points : List Op) (scope : Scope) where
  -- where the item of this number begins
  abbrev pub item_at : (items : SwitchItems) (own : IntType) (switched : Register) (tests : ℕ) (from to : Spot) (last : ℕ) (default : Option ℕ) (ways : Ways program points)
      → SwitchCode program points scope items own switched tests from to last default ways → ℕ → ℕ
  item_at T.SwitchEnd own switched tests from to last default ways code number = from.at
  item_at (T.Case label others) own switched tests from to last default ways code zero = from.at
  item_at (T.Case label others) own switched tests from to last default ways code (suc number) = item_at others own switched (suc tests) from to last default ways code.1 number
  item_at (T.Default others) own switched tests from to last default ways code zero = from.at
  item_at (T.Default others) own switched tests from to last default ways code (suc number) = item_at others own switched tests from to last code.0 ways code.2 number
  item_at (T.SwitchStmt one others) own switched tests from to last default ways code zero = from.at
  item_at (T.SwitchStmt one others) own switched tests from to last default ways code (suc number) = item_at others own switched tests code.0 to last default ways code.2 number

  -- where the code goes on for an entry: behind all tests where no label fits
  abbrev pub entry_at : (items : SwitchItems) (own : IntType) (switched : Register) (tests : ℕ) (from to : Spot) (last : ℕ) (default : Option ℕ) (ways : Ways program points)
      → SwitchCode program points scope items own switched tests from to last default ways → Entry → ℕ
  entry_at items own switched tests from to last default ways code NoEntry = last
  entry_at items own switched tests from to last default ways code (Meaning.At number) = item_at items own switched tests from to last default ways code number

-- ---- the code of a statement in an activation

module _ (tac : Tac) (program : Program) (calls : Calls) (worth : ℕ) (points : List Op) (hidden : ℕ → Option V.Content) (frame : Frame) where
  -- the code is at a point, where this is in scope
  abbrev pub StaysAt : Placement → Scope → ℕ → S.State → State → Type 0
  StaysAt placement scope at s t = AtSpot tac program calls worth points placement hidden frame scope at s t

  -- what stands for the value that is given back, if one is
  abbrev pub GivesBack : Placement → S.Objects → Option Scalar → Option M.Value → Type 0
  GivesBack placement objects None held = held ≡ None
  GivesBack placement objects (Some scalar) held = HoldsFor program objects placement scalar held

  -- the code is at a point that returns, for which all but the last step is paid
  pub record Returns (placement : Placement) (scope : Scope) (given : Option Scalar) (s : S.State) (t : State) : Type 0 where
    pub at : ℕ
    pub operand : Option Operand
    pub has : HasOp points at (O.Return operand)
    pub before : State
    pub there : StaysAt placement scope at s before
    pub paid : t ≡ with_paid (more_cost (O.Return operand)) before
    pub held : Option M.Value
    pub does : execute tac (surroundings program frame) (O.Return operand) before ≡ leave held before
    pub gives : GivesBack placement s.objects given held

  -- where a statement leaves the code: at this point if it goes on
  abbrev pub Leaves : Placement → Scope → ℕ → Ways program points → Stand Completion
  Leaves placement scope onward ways Normal s t = StaysAt placement scope onward s t
  Leaves placement scope onward ways Break s t = StaysAt placement scope ways.broken s t
  Leaves placement scope onward ways Continue s t = StaysAt placement scope ways.continued s t
  Leaves placement scope onward ways (Return given) s t = Returns placement scope given s t

  -- More locals may be in scope than before; those have numbers from a count on.
  pub record Grown (count : ℕ) (outer : List ℕ) (placement : Placement) (scope : Scope) (LeftIn : Placement → Scope → Type 0) (s : S.State) : Type 0 where
    pub placed : Placement
    pub more : Scope
    pub fresh : List ℕ
    pub extends : Extends frame count placement placed
    pub own : s.locals ≡ fresh ++ outer
    pub depth : length fresh ≡ length more
    pub left : LeftIn placed (more ++ scope)

  abbrev pub LeavesWithin : ℕ → List ℕ → Placement → Scope → ℕ → Ways program points → Stand Completion
  LeavesWithin count outer placement scope onward ways way s t = Grown count outer placement scope (λ placed inner. Leaves placed inner onward ways way s t) s

  -- The code is behind declarations, with just this scope.
  pub record Begun (count : ℕ) (outer : List ℕ) (placement : Placement) (scope inner : Scope) (at : ℕ) (way : Completion) (s : S.State) (t : State) : Type 0 where
    pub placed : Placement
    pub more : Scope
    pub fresh : List ℕ
    pub extends : Extends frame count placement placed
    pub own : s.locals ≡ fresh ++ outer
    pub depth : length fresh ≡ length more
    pub inner_is : inner ≡ more ++ scope
    pub newer : count ≤ s.next_local
    pub there : StaysAt placed inner at s t

  -- ---- what is shown

  -- a local begins to live, and gets its first value
  abbrev pub Declares : LocalDef → Type 0
  Declares local =
      (is_taken : _) (placement : Placement) (scope : Scope) (from to : Spot) (home : Home) → LocalCode program points scope local is_taken from to home → is_local (context_of program scope) local ≡ true → local_makes (is_storable program.structs) local ≡ true
      → AreNumbered from.counts scope → HaveObjects frame.objects to.objects → (s : S.State) (state : State) → StaysAt placement scope from.at s state
      → Does tac worth state s.units (optional_units local.first) 0 (Begun s.next_local s.locals placement scope (home ∷ scope) to.at) (Meaning.declare (around_of program) calls local s)

  abbrev pub DeclaresAll : List LocalDef → Type 0
  DeclaresAll locals =
      (is_taken : _) (placement : Placement) (scope : Scope) (from to : Spot) (inner : Scope) → LocalsCode program points scope is_taken locals from to inner → are_locals (context_of program scope) locals ≡ true
      → locals_make (is_storable program.structs) locals ≡ true → AreNumbered from.counts scope → HaveObjects frame.objects to.objects → (s : S.State) (state : State) → StaysAt placement scope from.at s state
      → Does tac worth state s.units (locals_units locals) 0 (Begun s.next_local s.locals placement scope inner to.at) (Meaning.declare_all (around_of program) calls locals s)

  -- what a `for` begins with
  abbrev pub Starts : ForStart → Type 0
  Starts begin =
      (is_taken : _) (placement : Placement) (scope : Scope) (from to : Spot) (inner : Scope) → StartCode program points scope is_taken begin from to inner → is_start (context_of program scope) begin ≡ true
      → start_makes (is_storable program.structs) begin ≡ true → AreNumbered from.counts scope → HaveObjects frame.objects to.objects → (s : S.State) (state : State) → StaysAt placement scope from.at s state
      → Does tac worth state s.units (start_units begin) 0 (Begun s.next_local s.locals placement scope inner to.at) (Meaning.start (around_of program) calls begin s)

  abbrev pub Executes : Stmt → Type 0
  Executes tree =
      (within : Within) (placement : Placement) (scope : Scope) (from to : Spot) (ways : Ways program points) → StmtCode program points scope tree from to ways → is_stmt (context_of program scope) within tree ≡ true → stmt_makes (is_storable program.structs) tree ≡ true
      → AreNumbered from.counts scope → HaveObjects frame.objects to.objects → stmt_units tree ≤ worth → (s : S.State) (state : State) → StaysAt placement scope from.at s state
      → Does tac worth state s.units (stmt_units tree) left_behind (Leaves placement scope to.at ways) (Meaning.stmt (around_of program) calls tree s)

  -- the items of a block, from one on: what they declare is in scope behind them
  abbrev pub ExecutesBlock : Block → Type 0
  ExecutesBlock items =
      (within : Within) (placement : Placement) (scope : Scope) (from to : Spot) (ways : Ways program points) → BlockCode program points scope items from to ways → is_block (context_of program scope) within items ≡ true → block_makes (is_storable program.structs) items ≡ true
      → AreNumbered from.counts scope → HaveObjects frame.objects to.objects → block_units items ≤ worth → (s : S.State) (state : State) → StaysAt placement scope from.at s state
      → Does tac worth state s.units (block_units items) 0 (LeavesWithin s.next_local s.locals placement scope to.at ways) (Meaning.block (around_of program) calls items s)

  -- the items of a `switch`, from one on
  abbrev pub ExecutesItems : SwitchItems → Type 0
  ExecutesItems items =
      (within : Within) (labels : Option IntType) (placement : Placement) (scope : Scope) (own : IntType) (switched : Register) (tests : ℕ) (from to : Spot) (last : ℕ) (default : Option ℕ) (ways : Ways program points)
      (code : SwitchCode program points scope items own switched tests from to last default ways) → are_items (context_of program scope) within labels items ≡ true → items_make (is_storable program.structs) items ≡ true
      → AreNumbered from.counts scope → HaveObjects frame.objects to.objects → switch_units items ≤ worth → (number : ℕ) (s : S.State) (state : State)
      → StaysAt placement scope (item_at program points scope items own switched tests from to last default ways code number) s state
      → Does tac worth state s.units (switch_units items) 0 (Leaves placement scope to.at ways) (Meaning.switch_from (around_of program) calls (Meaning.At number) items s)

  -- The labels are tested in turn: the code is at the item of the one that fits, or behind all tests.
  abbrev pub Enters : ℕ → (Entry → ℕ) → Placement → Scope → Stand Entry
  Enters skipped where_to placement scope NoEntry s t = StaysAt placement scope (where_to NoEntry) s t
  Enters skipped where_to placement scope (Meaning.At number) s t = (more : ℕ) × (number ≡ skipped + more) × StaysAt placement scope (where_to (Meaning.At more)) s t

  abbrev pub TestsItems : SwitchItems → Type 0
  TestsItems items =
      (within : Within) (placement : Placement) (scope : Scope) (own : IntType) (switched : Register) (tests : ℕ) (from to : Spot) (last : ℕ) (default : Option ℕ) (ways : Ways program points)
      (code : SwitchCode program points scope items own switched tests from to last default ways) → are_items (context_of program scope) within (Some own) items ≡ true
      → (z : ℤ) → is_value own z ≡ true → (skipped : ℕ) (s : S.State) (state : State) → state.running.registers switched ≡ Some (M.Number z) → StaysAt placement scope tests s state
      → Does tac worth state s.units (label_units items) 0 (Enters skipped (entry_at program points scope items own switched tests from to last default ways code) placement scope) (Meaning.case_at z skipped items s)
