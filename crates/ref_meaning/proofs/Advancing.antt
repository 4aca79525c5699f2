-- How a statement that waits goes on.
use Rattle.std.proofs.Common.{◌≡◌, ℕ, suc, ◌-◌, ◌≤◌, List, [], ◌∷◌, ◌++◌, Option, Some, None, Result, Ok, Err, IsOk, IsErrAnd, Bor, Box, Vec, Global, length, take, drop, reverse, set, refl, sym, ap, subst, ◌∙◌, arith, length-take, length-append, take-take}
use Rattle.std.proofs.lemmas.List.{take-append-le, reverse-append}
use Rattle.c_typed.specs.declared.statement.Stmt as memory_stmt
use Rattle.c_typed.specs.declared.statement.Stmt.{roll-Stmt, roll-out-Stmt}
use Rattle.c_typed.specs.declared.statement.Stmt.TheVariants as M
use Rattle.c_typed.specs.declared.statement.ForStart as memory_start
use Rattle.c_typed.specs.declared.typed.Value as memory_value
use Rattle.c_typed.specs.declared.statement.SwitchItem as memory_switch
use Rattle.c_typed.specs.declared.statement.SwitchItem.TheVariants as I
use Rattle.c_typed.specs.Typed as T
use Rattle.c_typed.specs.Typed.{LocalDef, FunctionDef}
use Rattle.c_typed.specs.Table.{Interned}
use Rattle.c_typed.specs.StatementViews.{stmt_in}
use Rattle.ref_semantics.specs.Store.{TypeEnvironment, State, Eval, ◌>>=◌, give}
use Rattle.ref_semantics.specs.Pointers.{write}
use Rattle.ref_semantics.specs.Meaning as rules
use Rattle.ref_semantics.specs.Meaning.{Completion, Normal}
use Rattle.ref_semantics.specs.Parts.{Part, ValuePart, StmtPart, BodyPart}
use Rattle.ref_semantics.specs.Steps as steps
use Rattle.ref_semantics.specs.Steps.{Config, WayGiven}
use Rattle.ref_meaning.specs.declared.value.Place as memory_place
use Rattle.ref_meaning.specs.declared.value.Scalar as memory_scalar
use Rattle.ref_meaning.specs.declared.value.Stop.{Stop}
use Rattle.ref_meaning.specs.declared.store.Store.{Store}
use Rattle.ref_meaning.specs.RefStore.Views.{place_in, scalar_in, PlaceStands}
use Rattle.ref_meaning.specs.RefStore.Holding.{At, Comes, CallGives}
use Rattle.ref_meaning.specs.declared.control.Control.{Control}
use Rattle.ref_meaning.specs.declared.control.Frame as memory_frame
use Rattle.ref_meaning.specs.declared.control.Given as memory_given
use Rattle.ref_meaning.specs.declared.control.Given.TheVariants as G
use Rattle.ref_meaning.specs.declared.control.Node as memory_node
use Rattle.ref_meaning.specs.declared.control.Node.TheVariants as N
use Rattle.ref_meaning.specs.declared.control.Stage as memory_stage
use Rattle.ref_meaning.specs.declared.control.Stage.TheVariants as S
use Rattle.ref_meaning.specs.declared.control.Task.TheVariants as K
use Rattle.ref_meaning.specs.declared.control.Completion as memory_completion
use Rattle.ref_meaning.specs.declared.control.Completion.TheVariants as W
use Rattle.ref_meaning.specs.declared.run.RefRun.{RefRun}
use Rattle.ref_meaning.specs.declared.run.Halt.{Halt}
use Rattle.ref_meaning.specs.declared.run.Halt.TheVariants as H
use Rattle.ref_meaning.specs.Views.{config_in, around_run, functions_of, table_of, operands_of, stack_of, part_in, given_in, completion_in, task_in, items_from, case_items_from, case_items_of, at_item, behind_body, loop_of, locals_of}
use Rattle.ref_meaning.specs.Holding.{IsConsistent, NodeStands, GivenStands, CompletionStands, Waits, Fits, HasItems, IsSwitch, IsLoop, IsTurning, StageStands, HasRoom, TaskFits, FramesHold, AwaitsAt}
use Rattle.ref_meaning.specs.Doing.{TakesNone, IsInnermost, IsOfStatement, innermost, taking, beginning_turn, popped}
use Rattle.ref_meaning.specs.Items.{IsBlock, block_of, start_of, ThisCaseItem, declaring, ending_turn}
use Rattle.ref_meaning.specs.Moving.{Becomes, Moves, Stays, halt_of}
use Rattle.ref_meaning.proofs.Moves.{Alters, IsPlain, behind-alters, stored-alters, becomes-alters, stops, innermost-hold, behind-found, becomes-arrives, alters-config, alters-holds, arrives-behind, innermost-popped, plain-hold, plain-depth, stage-config, stage-holds, done-config, done-holds, ok-moves, becomes-then, alters-stays}
use Rattle.ref_meaning.proofs.Finding.{statement-unfound}
use Rattle.ref_meaning.proofs.Placing.{set-newest}

enters-fits : (table : Interned) (node : memory_node.Node) (operands : ℕ) → Waits node → TaskFits table node operands K.Enter
enters-fits table N.Nothing operands waits = absurd waits
enters-fits table _ operands waits = tt

-- ---- the innermost comes to another stage

of-plain : (stage : memory_stage.Stage) → IsOfStatement stage → IsPlain stage
of-plain (S.Argument function count) is = is
of-plain (S.Call is_used place base) is = is
of-plain _ is = tt

of-unplaced : (node : memory_node.Node) (stage : memory_stage.Stage) → IsOfStatement stage → AwaitsAt node stage → ⊥
of-unplaced node S.First is awaits = is
of-unplaced node _ is awaits = awaits

stage-moves : (old new : RefRun) (next : Control) (top : ℕ) (part : Part) (stage : memory_stage.Stage) (waits : IsInnermost old top part stage) (node : memory_node.Node) (later : memory_stage.Stage) (result : Result (Unit {0}) Halt)
    → IsOfStatement stage → IsOfStatement later → TakesNone next.task → IsOk result → IsConsistent old → TakesNone old.control.task
    → NodeStands (table_of old) node → Fits node later → StageStands (table_of old) later → HasRoom later old.base (length (operands_of old))
    → NodeStands (table_of old) next.node → TaskFits (table_of old) next.node (length (operands_of old)) next.task
    → Becomes old new next (record { node = node; stage = later } ∷ waits.others)
    → Moves old new (give (record (popped (config_in old)) { task = task_in (table_of old) (operands_of old) (part_in (table_of old) next.node) next.task; frames = innermost old (part_in (table_of old) node) later ∷ (popped (config_in old)).frames })) result
stage-moves old new next top part stage waits node later result plain plainly freed ok holds free stands fits staged room entered task becomes =
    let frames : List memory_frame.Frame = record { node = node; stage = later } ∷ waits.others in
    let config : Config = record (popped (config_in old)) { task = task_in (table_of old) (operands_of old) (part_in (table_of old) next.node) next.task; frames = innermost old (part_in (table_of old) node) later ∷ (popped (config_in old)).frames } in
    let alters = becomes-alters old new next frames holds becomes in
    ok-moves old new (give config) result ok (becomes-arrives old new next frames config becomes
    (stage-config old new next top part stage waits node later alters free freed (of-plain stage plain) (of-plain later plainly) holds stands fits staged room)
    (stage-holds old new next top part stage waits node later alters free freed (of-plain stage plain) (of-plain later plainly) holds stands fits staged room
    (λ awaits. absurd (of-unplaced node later plainly awaits)) (λ awaits. absurd (statement-unfound waits.node stage plain ((behind-found old top part stage waits holds).0 awaits))) entered task holds.state (subst (λ s. At (around_run old) s old.base holds.state) (sym becomes.store) holds.at)))

-- and a part is entered
pub enters-moves : (old mid new : RefRun) (top : ℕ) (part : Part) (stage : memory_stage.Stage) (waits : IsInnermost old top part stage) (node : memory_node.Node) (later : memory_stage.Stage) (inner : memory_node.Node) (result : Result (Unit {0}) Halt)
    → IsOfStatement stage → IsOfStatement later → Waits inner → IsOk result → IsConsistent old → TakesNone old.control.task
    → NodeStands (table_of old) node → Fits node later → StageStands (table_of old) later → HasRoom later old.base (length (operands_of old)) → NodeStands (table_of old) inner
    → Becomes old mid old.control (record { node = node; stage = later } ∷ waits.others) → Becomes mid new (record { node = inner; task = K.Enter }) (stack_of mid)
    → Moves old new (give (steps.enters (around_run old) (functions_of old) (part_in (table_of old) inner) (steps.waits (around_run old) (functions_of old) (innermost old (part_in (table_of old) node) later) (popped (config_in old))))) result
enters-moves old mid new top part stage waits node later inner result plain plainly waiting ok holds free stands fits staged room entered first second =
    stage-moves old new (record { node = inner; task = K.Enter }) top part stage waits node later result plain plainly tt ok holds free stands fits staged room entered (enters-fits (table_of old) inner _ waiting)
    (becomes-then old mid new old.control (record { node = inner; task = K.Enter }) (record { node = node; stage = later } ∷ waits.others) first second)

-- and what is before it ends so
pub goes-moves : (old mid new : RefRun) (top : ℕ) (part : Part) (stage : memory_stage.Stage) (waits : IsInnermost old top part stage) (node : memory_node.Node) (later : memory_stage.Stage) (way : memory_completion.Completion) (result : Result (Unit {0}) Halt)
    → IsOfStatement stage → IsOfStatement later → IsOk result → IsConsistent old → TakesNone old.control.task
    → NodeStands (table_of old) node → Fits node later → StageStands (table_of old) later → HasRoom later old.base (length (operands_of old)) → CompletionStands (table_of old) way
    → Becomes old mid old.control (record { node = node; stage = later } ∷ waits.others) → Becomes mid new (record { node = mid.control.node; task = K.Give (G.Completion way) }) (stack_of mid)
    → Moves old new (give (steps.came (around_run old) (functions_of old) (WayGiven (completion_in (table_of old) way)) (steps.waits (around_run old) (functions_of old) (innermost old (part_in (table_of old) node) later) (popped (config_in old))))) result
goes-moves old mid new top part stage waits node later way result plain plainly ok holds free stands fits staged room given first second =
    stage-moves old new (record { node = mid.control.node; task = K.Give (G.Completion way) }) top part stage waits node later result plain plainly tt ok holds free stands fits staged room
    (subst (λ c. NodeStands (table_of old) c.node) (sym first.control) holds.node) given
    (becomes-then old mid new old.control (record { node = mid.control.node; task = K.Give (G.Completion way) }) (record { node = node; stage = later } ∷ waits.others) first second)

-- ---- the innermost waits no more

pub done-moves : (old new : RefRun) (top : ℕ) (part : Part) (stage : memory_stage.Stage) (waits : IsInnermost old top part stage) (given : memory_given.Given) (result : Result (Unit {0}) Halt)
    → IsOfStatement stage → IsOk result → IsConsistent old → TakesNone old.control.task → GivenStands (table_of old) given
    → Becomes old new (record { node = old.control.node; task = K.Give given }) waits.others
    → Moves old new (give (steps.came (around_run old) (functions_of old) (given_in (table_of old) given) (popped (config_in old)))) result
done-moves old new top part stage waits given result plain ok holds free stands becomes =
    let next : Control = record { node = old.control.node; task = K.Give given } in
    let config : Config = steps.came (around_run old) (functions_of old) (given_in (table_of old) given) (popped (config_in old)) in
    let alters = becomes-alters old new next waits.others holds becomes in
    ok-moves old new (give config) result ok (becomes-arrives old new next waits.others config becomes
    (done-config old new next top part stage waits alters free tt (of-plain stage plain) holds)
    (done-holds old new next top part stage waits alters free tt (of-plain stage plain) holds (λ awaits. absurd (statement-unfound waits.node stage plain ((behind-found old top part stage waits holds).0 awaits))) holds.node stands holds.state (subst (λ s. At (around_run old) s old.base holds.state) (sym becomes.store) holds.at)))

-- behind a call on the store
pub stored-moves : {A : Type 0} (old new : RefRun) (mid : Store) (top : ℕ) (part : Part) (stage : memory_stage.Stage) (waits : IsInnermost old top part stage) (given : memory_given.Given) (result : Result (Unit {0}) Halt)
    (first : Eval A) (next : A → Eval Config) (a : A)
    → IsOfStatement stage → IsOk result → IsConsistent old → TakesNone old.control.task → GivenStands (table_of old) given
    → Alters old new (record { node = old.control.node; task = K.Give given }) waits.others → new.store ≡ mid
    → ((state : State) → At (around_run old) old.store old.base state → Comes (around_run old) mid old.base first state a)
    → next a ≡ give (steps.came (around_run old) (functions_of old) (given_in (table_of old) given) (popped (config_in old)))
    → Moves old new (first >>= next) result
stored-moves old new mid top part stage waits given result first next a plain ok holds free stands alters store comes is =
    let control : Control = record { node = old.control.node; task = K.Give given } in
    let held = comes holds.state holds.at in
    ok-moves old new (first >>= next) result ok (λ state at. arrives-behind old new mid first next a state alters.kept store alters.base
    (is ∙ ap (λ c. give c) (sym (done-config old new control top part stage waits alters free tt (of-plain stage plain) holds)))
    (done-holds old new control top part stage waits alters free tt (of-plain stage plain) holds (λ awaits. absurd (statement-unfound waits.node stage plain ((behind-found old top part stage waits holds).0 awaits))) holds.node stands held.after (subst (λ s. At (around_run old) s old.base held.after) (sym store) held.at))
    (comes state at))

-- the newest locals die
pub left-comes : (around : TypeEnvironment) (old new : Store) (base height : ℕ) (way : Completion)
    → ((state : State) → At around old base state → At around new base (record state { objects = rules.killed (height - base) state.locals state.objects; locals = rules.kept (height - base) state.locals }))
    → (state : State) → At around old base state → Comes around new base (rules.leave way (height - base)) state way
left-comes around old new base height way left state at =
    record { after = record state { objects = rules.killed (height - base) state.locals state.objects; locals = rules.kept (height - base) state.locals }; does = λ units input. refl; at = left state at; quiet = refl }

pub front-left : (base height : ℕ) (new had : List ℕ) → base ≤ height → take height new ≡ take height had → take base new ≡ take base had
front-left base height new had low front = sym (take-take base height new low) ∙ (ap (take base) front ∙ take-take base height had low)

pub within-left : (base : ℕ) (new had : List ℕ) → base ≤ length had → take base new ≡ take base had → base ≤ length new
within-left base new had within front = let l = ap length front in let t = length-take base new in let u = length-take base had in omega (arith, l, t, u, within)

-- ---- a local begins to live

pub room-becomes : (old new : RefRun) (store : Store) (frames : Vec memory_frame.Frame Global) (next : Control) (stack : List memory_frame.Frame) → Becomes (record old { store = store; frames = frames }) new next stack → Becomes (record old { store = store }) new next stack
room-becomes old new store frames next stack becomes = record {
  kept = record { program = becomes.kept.program; functions = becomes.kept.functions; main = becomes.kept.main; spent = becomes.kept.spent };
  store = becomes.store;
  operands = becomes.operands;
  base = becomes.base;
  depth = becomes.depth;
  control = becomes.control;
  stack = becomes.stack;
}

pub roomy : (old : RefRun) (store : Store) (frames : Vec memory_frame.Frame Global) → frames.items ≡ old.frames.items → Becomes (record old { store = store }) (record old { store = store; frames = frames }) old.control (stack_of old)
roomy old store frames same = record {
  kept = record { program = refl; functions = refl; main = refl; spent = refl };
  store = refl;
  operands = refl;
  base = refl;
  depth = refl;
  control = refl;
  stack = ap reverse same;
}

pub local-alters : (old new : RefRun) (mid : Store) (number : ℕ) (next : Control) (frames : List memory_frame.Frame) → IsConsistent old → mid.types ≡ old.store.types → mid.locals.items ≡ old.store.locals.items ++ (number ∷ [])
    → Becomes (record old { store = mid }) new next frames → Alters old new next frames
local-alters old new mid number next frames holds types locals becomes =
    behind-alters old new mid next frames types
    (ap (take old.base) locals ∙ take-append-le old.base old.store.locals.items (number ∷ []) holds.within)
    (let l = ap length locals ∙ length-append old.store.locals.items (number ∷ []) in omega (arith, l, holds.within)) becomes

-- without a first value
pub bare-moves : (old new : RefRun) (mid : Store) (top : ℕ) (part : Part) (number : ℕ) (waits : IsInnermost old top part (S.Item number)) (node : memory_node.Node) (local : LocalDef) (place : memory_place.Place) (control : memory_node.Node) (result : Result (Unit {0}) Halt)
    → IsOk result → IsConsistent old → TakesNone old.control.task → NodeStands (table_of old) node → HasItems node → control ≡ old.control.node
    → Alters old new (record { node = control; task = K.Give (G.Completion W.Normal) }) (record { node = node; stage = S.Item (suc number) } ∷ waits.others) → new.store ≡ mid
    → local.first ≡ None
    → ((state : State) → At (around_run old) old.store old.base state → Comes (around_run old) mid old.base (rules.new_local local.c_type) state (place_in (table_of old) place))
    → Moves old new (declaring old local (at_item (part_in (table_of old) node) (suc number))) result
bare-moves old new mid top part number waits node local place control result ok holds free stands items same alters store none comes =
    let next : Control = record { node = control; task = K.Give (G.Completion W.Normal) } in
    let held = comes holds.state holds.at in
    let config : Config = steps.waits (around_run old) (functions_of old) (at_item (part_in (table_of old) node) (suc number)) (popped (config_in old)) in
    ok-moves old new (declaring old local (at_item (part_in (table_of old) node) (suc number))) result ok (λ state at.
    arrives-behind old new mid (rules.new_local local.c_type) (λ p. give (steps.first_value (around_run old) (functions_of old) local.first config p)) (place_in (table_of old) place) state alters.kept store alters.base
    (ap (λ first. give (steps.first_value (around_run old) (functions_of old) first config (place_in (table_of old) place))) none
    ∙ ap (λ c. give c) (sym (stage-config old new next top part (S.Item number) waits node (S.Item (suc number)) alters free tt tt tt holds stands items tt tt)))
    (stage-holds old new next top part (S.Item number) waits node (S.Item (suc number)) alters free tt tt tt holds stands items tt tt (λ awaits. absurd awaits) (behind-found old top part (S.Item number) waits holds).0 (subst (λ n. NodeStands (table_of old) n) (sym same) holds.node) tt held.after (subst (λ s. At (around_run old) s old.base held.after) (sym store) held.at))
    (comes state at))

-- with one
pub first-moves : (old new : RefRun) (mid : Store) (top : ℕ) (part : Part) (number : ℕ) (waits : IsInnermost old top part (S.Item number)) (node inner : memory_node.Node) (local : LocalDef) (v : T.Value) (place : memory_place.Place) (result : Result (Unit {0}) Halt)
    → IsOk result → IsConsistent old → TakesNone old.control.task → NodeStands (table_of old) node → HasItems node → NodeStands (table_of old) inner → Waits inner → part_in (table_of old) inner ≡ ValuePart v → PlaceStands (table_of old) place
    → Alters old new (record { node = inner; task = K.Enter }) (record { node = N.Nothing; stage = S.Local place } ∷ record { node = node; stage = S.Item (suc number) } ∷ waits.others) → new.store ≡ mid
    → local.first ≡ Some v
    → ((state : State) → At (around_run old) old.store old.base state → Comes (around_run old) mid old.base (rules.new_local local.c_type) state (place_in (table_of old) place))
    → Moves old new (declaring old local (at_item (part_in (table_of old) node) (suc number))) result
first-moves old new mid top part number waits node inner local v place result ok holds free stands items entered waiting is placed alters store some comes =
    let table = table_of old in
    let around = around_run old in
    let functions = functions_of old in
    let next : Control = record { node = inner; task = K.Enter } in
    let frames : List memory_frame.Frame = record { node = N.Nothing; stage = S.Local place } ∷ record { node = node; stage = S.Item (suc number) } ∷ waits.others in
    let held = comes holds.state holds.at in
    let config : Config = steps.waits around functions (at_item (part_in table node) (suc number)) (popped (config_in old)) in
    let hold : FramesHold table old.base (operands_of old) frames = (tt, tt, placed, tt, (stands, items, tt, tt, plain-hold old top part (S.Item number) free tt waits holds)) in
    let at_new : config_in new ≡ steps.enters around functions (part_in table inner) (steps.waits around functions (steps.ToHold (place_in table place)) config) =
    alters-config old new next frames alters hold
    ∙ ap (λ c. steps.enters around functions (part_in table inner) (steps.waits around functions (steps.ToHold (place_in table place)) (steps.waits around functions (at_item (part_in table node) (suc number)) c))) (sym (innermost-popped old top part (S.Item number) free waits)) in
    ok-moves old new (declaring old local (at_item (part_in table node) (suc number))) result ok (λ state at.
    arrives-behind old new mid (rules.new_local local.c_type) (λ p. give (steps.first_value around functions local.first config p)) (place_in table place) state alters.kept store alters.base
    (ap (λ first. give (steps.first_value around functions first config (place_in table place))) some
    ∙ (ap (λ p. give (steps.enters around functions p (steps.waits around functions (steps.ToHold (place_in table place)) config))) (sym is) ∙ ap (λ c. give c) (sym at_new)))
    (alters-holds old new next frames alters holds ((λ awaits. absurd awaits), ((λ awaits. absurd awaits), behind-found old top part (S.Item number) waits holds)) entered (enters-fits table inner _ waiting) hold (plain-depth old top part (S.Item number) tt waits holds) held.after (subst (λ s. At around s old.base held.after) (sym store) held.at))
    (comes state at))

-- ---- what waits at an item

pub block-item : (table : Interned) (node : memory_node.Node) (number : ℕ) → IsBlock node → at_item (part_in table node) number ≡ steps.Items (items_from number (block_of (part_in table node)))
block-item table (N.Stmt s) number is = by s.now is
  where
    by : (t : memory_stmt.Stmt) → IsBlock (N.Stmt (record s { now = t })) → at_item (StmtPart (stmt_in table t)) number ≡ steps.Items (items_from number (block_of (StmtPart (stmt_in table t))))
    by (M.Block' shape items) is = refl
    by _ is = absurd is
block-item table (N.Body function) number is = refl
block-item table _ number is = absurd is

pub case-item : (table : Interned) (s : Bor memory_stmt.Stmt) (number : ℕ) → IsSwitch (N.Stmt s) → at_item (StmtPart (stmt_in table s.now)) number ≡ steps.CaseItems (case_items_from number (case_items_of (stmt_in table s.now)))
case-item table s number is = by s.now is
  where
    by : (t : memory_stmt.Stmt) → IsSwitch (N.Stmt (record s { now = t })) → at_item (StmtPart (stmt_in table t)) number ≡ steps.CaseItems (case_items_from number (case_items_of (stmt_in table t)))
    by (M.Switch' value shape items) is = refl
    by _ is = absurd is

abbrev pub IsFor : memory_stmt.Stmt → Type 0
IsFor (M.For' start condition step p body) = Unit {0}
IsFor _ = ⊥

pub for-item : (table : Interned) (s : memory_stmt.Stmt) (number : ℕ) → IsFor s → at_item (StmtPart (stmt_in table s)) number ≡ steps.Locals (drop number (locals_of (start_of (stmt_in table s)))) (loop_of (stmt_in table s))
for-item table (M.For' start condition step p body) number is = refl
for-item table _ number is = absurd is

-- ---- what is done with it

module _ (old : RefRun) where
  pub block-taking : (node : memory_node.Node) (number : ℕ) (way : Completion) → IsBlock node
      → taking old (at_item (part_in (table_of old) node) number) (WayGiven way)
      ≡ steps.behind (around_run old) (functions_of old) way (steps.next_item (around_run old) (functions_of old) (items_from number (block_of (part_in (table_of old) node))) (popped (config_in old))) (popped (config_in old))
  block-taking node number way is = λ i. steps.take (around_run old) (functions_of old) (block-item (table_of old) node number is i) (WayGiven way) (popped (config_in old))

  pub block-declares : (node : memory_node.Node) (number : ℕ) (local : LocalDef) → IsBlock node
      → items_from number (block_of (part_in (table_of old) node)) ≡ T.Declare local (items_from (suc number) (block_of (part_in (table_of old) node)))
      → taking old (at_item (part_in (table_of old) node) number) (WayGiven Normal) ≡ declaring old local (at_item (part_in (table_of old) node) (suc number))
  block-declares node number local is e =
      block-taking node number Normal is
      ∙ (ap (λ items. steps.next_item (around_run old) (functions_of old) items (popped (config_in old))) e
      ∙ ap (λ frame. declaring old local frame) (sym (block-item (table_of old) node (suc number) is)))

  pub block-performs : (node : memory_node.Node) (number : ℕ) (one : T.Stmt) → IsBlock node
      → items_from number (block_of (part_in (table_of old) node)) ≡ T.Perform one (items_from (suc number) (block_of (part_in (table_of old) node)))
      → taking old (at_item (part_in (table_of old) node) number) (WayGiven Normal)
      ≡ give (steps.enters (around_run old) (functions_of old) (StmtPart one) (steps.waits (around_run old) (functions_of old) (at_item (part_in (table_of old) node) (suc number)) (popped (config_in old))))
  block-performs node number one is e =
      block-taking node number Normal is
      ∙ (ap (λ items. steps.next_item (around_run old) (functions_of old) items (popped (config_in old))) e
      ∙ ap (λ frame. give (steps.enters (around_run old) (functions_of old) (StmtPart one) (steps.waits (around_run old) (functions_of old) frame (popped (config_in old))))) (sym (block-item (table_of old) node (suc number) is)))

  pub block-ends : (node : memory_node.Node) (number : ℕ) → IsBlock node → items_from number (block_of (part_in (table_of old) node)) ≡ T.Close
      → taking old (at_item (part_in (table_of old) node) number) (WayGiven Normal) ≡ give (steps.came (around_run old) (functions_of old) (WayGiven Normal) (popped (config_in old)))
  block-ends node number is e = block-taking node number Normal is ∙ ap (λ items. steps.next_item (around_run old) (functions_of old) items (popped (config_in old))) e

  -- what does not go on breaks off
  breaks : (way : memory_completion.Completion) (rest : Eval Config) → (way ≡ W.Normal → ⊥)
      → steps.behind (around_run old) (functions_of old) (completion_in (table_of old) way) rest (popped (config_in old)) ≡ give (steps.came (around_run old) (functions_of old) (WayGiven (completion_in (table_of old) way)) (popped (config_in old)))
  breaks W.Normal rest off = absurd (off refl)
  breaks W.Break rest off = refl
  breaks W.Continue rest off = refl
  breaks (W.Return value) rest off = refl

  pub block-breaks : (node : memory_node.Node) (number : ℕ) (way : memory_completion.Completion) → IsBlock node → (way ≡ W.Normal → ⊥)
      → taking old (at_item (part_in (table_of old) node) number) (WayGiven (completion_in (table_of old) way)) ≡ give (steps.came (around_run old) (functions_of old) (WayGiven (completion_in (table_of old) way)) (popped (config_in old)))
  block-breaks node number way is off = block-taking node number (completion_in (table_of old) way) is ∙ breaks way _ off

  case-taking : (s : Bor memory_stmt.Stmt) (number : ℕ) (way : Completion) → IsSwitch (N.Stmt s)
      → taking old (at_item (StmtPart (stmt_in (table_of old) s.now)) number) (WayGiven way)
      ≡ steps.behind (around_run old) (functions_of old) way (give (steps.next_case_item (around_run old) (functions_of old) (case_items_from number (case_items_of (stmt_in (table_of old) s.now))) (popped (config_in old)))) (popped (config_in old))
  case-taking s number way is = λ i. steps.take (around_run old) (functions_of old) (case-item (table_of old) s number is i) (WayGiven way) (popped (config_in old))

  pub case-breaks : (s : Bor memory_stmt.Stmt) (number : ℕ) (way : memory_completion.Completion) → IsSwitch (N.Stmt s) → (way ≡ W.Normal → ⊥)
      → taking old (at_item (StmtPart (stmt_in (table_of old) s.now)) number) (WayGiven (completion_in (table_of old) way)) ≡ give (steps.came (around_run old) (functions_of old) (WayGiven (completion_in (table_of old) way)) (popped (config_in old)))
  case-breaks s number way is off = case-taking s number (completion_in (table_of old) way) is ∙ breaks way _ off

  pub case-performs : (s : Bor memory_stmt.Stmt) (number : ℕ) (one : T.Stmt) → IsSwitch (N.Stmt s)
      → case_items_from number (case_items_of (stmt_in (table_of old) s.now)) ≡ T.SwitchStmt one (case_items_from (suc number) (case_items_of (stmt_in (table_of old) s.now)))
      → taking old (at_item (StmtPart (stmt_in (table_of old) s.now)) number) (WayGiven Normal)
      ≡ give (steps.enters (around_run old) (functions_of old) (StmtPart one) (steps.waits (around_run old) (functions_of old) (at_item (StmtPart (stmt_in (table_of old) s.now)) (suc number)) (popped (config_in old))))
  case-performs s number one is e =
      case-taking s number Normal is
      ∙ (ap (λ items. give (steps.next_case_item (around_run old) (functions_of old) items (popped (config_in old)))) e
      ∙ ap (λ frame. give (steps.enters (around_run old) (functions_of old) (StmtPart one) (steps.waits (around_run old) (functions_of old) frame (popped (config_in old))))) (sym (case-item (table_of old) s (suc number) is)))

  -- a label is behind it
  pub case-passes : (s : Bor memory_stmt.Stmt) (number : ℕ) (item : memory_switch.SwitchItem) → IsSwitch (N.Stmt s) → ThisCaseItem (table_of old) number (case_items_of (stmt_in (table_of old) s.now)) item → ((stmt : memory_stmt.Stmt) → item ≡ I.Statement stmt → ⊥)
      → taking old (at_item (StmtPart (stmt_in (table_of old) s.now)) number) (WayGiven Normal)
      ≡ give (steps.came (around_run old) (functions_of old) (WayGiven Normal) (steps.waits (around_run old) (functions_of old) (at_item (StmtPart (stmt_in (table_of old) s.now)) (suc number)) (popped (config_in old))))
  case-passes s number (I.Case label) is e label_ =
      case-taking s number Normal is
      ∙ (ap (λ items. give (steps.next_case_item (around_run old) (functions_of old) items (popped (config_in old)))) e
      ∙ ap (λ frame. give (steps.came (around_run old) (functions_of old) (WayGiven Normal) (steps.waits (around_run old) (functions_of old) frame (popped (config_in old))))) (sym (case-item (table_of old) s (suc number) is)))
  case-passes s number I.Default is e label_ =
      case-taking s number Normal is
      ∙ (ap (λ items. give (steps.next_case_item (around_run old) (functions_of old) items (popped (config_in old)))) e
      ∙ ap (λ frame. give (steps.came (around_run old) (functions_of old) (WayGiven Normal) (steps.waits (around_run old) (functions_of old) frame (popped (config_in old))))) (sym (case-item (table_of old) s (suc number) is)))
  case-passes s number (I.Statement stmt) is e label_ = absurd (label_ stmt refl)

  pub case-ends : (s : Bor memory_stmt.Stmt) (number : ℕ) → IsSwitch (N.Stmt s) → case_items_from number (case_items_of (stmt_in (table_of old) s.now)) ≡ T.SwitchEnd
      → taking old (at_item (StmtPart (stmt_in (table_of old) s.now)) number) (WayGiven Normal) ≡ give (steps.came (around_run old) (functions_of old) (WayGiven Normal) (popped (config_in old)))
  case-ends s number is e = case-taking s number Normal is ∙ ap (λ items. give (steps.next_case_item (around_run old) (functions_of old) items (popped (config_in old)))) e

  for-taking : (s : memory_stmt.Stmt) (number : ℕ) (way : Completion) → IsFor s
      → taking old (at_item (StmtPart (stmt_in (table_of old) s)) number) (WayGiven way)
      ≡ steps.next_start (around_run old) (functions_of old) (drop number (locals_of (start_of (stmt_in (table_of old) s)))) (loop_of (stmt_in (table_of old) s)) (popped (config_in old))
  for-taking s number way is = λ i. steps.take (around_run old) (functions_of old) (for-item (table_of old) s number is i) (WayGiven way) (popped (config_in old))

  pub for-declares : (s : memory_stmt.Stmt) (number : ℕ) (way : Completion) (local : LocalDef) → IsFor s
      → drop number (locals_of (start_of (stmt_in (table_of old) s))) ≡ local ∷ drop (suc number) (locals_of (start_of (stmt_in (table_of old) s)))
      → taking old (at_item (StmtPart (stmt_in (table_of old) s)) number) (WayGiven way) ≡ declaring old local (at_item (StmtPart (stmt_in (table_of old) s)) (suc number))
  for-declares s number way local is e =
      for-taking s number way is
      ∙ (ap (λ locals. steps.next_start (around_run old) (functions_of old) locals (loop_of (stmt_in (table_of old) s)) (popped (config_in old))) e
      ∙ ap (λ frame. declaring old local frame) (sym (for-item (table_of old) s (suc number) is)))

  pub for-begins : (s : memory_stmt.Stmt) (number : ℕ) (way : Completion) → IsFor s → drop number (locals_of (start_of (stmt_in (table_of old) s))) ≡ []
      → taking old (at_item (StmtPart (stmt_in (table_of old) s)) number) (WayGiven way) ≡ beginning_turn old (stmt_in (table_of old) s)
  for-begins s number way is e = for-taking s number way is ∙ ap (λ locals. steps.next_start (around_run old) (functions_of old) locals (loop_of (stmt_in (table_of old) s)) (popped (config_in old))) e

-- ---- behind the body of a turn

module _ (old : RefRun) where
  pub switch-turns : (s : Bor memory_stmt.Stmt) (way : Completion) → IsSwitch (N.Stmt s)
      → taking old (behind_body (StmtPart (stmt_in (table_of old) s.now))) (WayGiven way) ≡ give (steps.came (around_run old) (functions_of old) (WayGiven (rules.broken_out way)) (popped (config_in old)))
  switch-turns s way is = by s.now is
    where
      by : (t : memory_stmt.Stmt) → IsSwitch (N.Stmt (record s { now = t }))
          → taking old (behind_body (StmtPart (stmt_in (table_of old) t))) (WayGiven way) ≡ give (steps.came (around_run old) (functions_of old) (WayGiven (rules.broken_out way)) (popped (config_in old)))
      by (M.Switch' value shape items) is = refl
      by _ is = absurd is

  pub turn-loops : (s : Bor memory_stmt.Stmt) → IsTurning (N.Stmt s) → ((value : _) (items : _) → s.now ≡ M.Switch value items → ⊥)
      → IsLoop (N.Stmt s) × (behind_body (StmtPart (stmt_in (table_of old) s.now)) ≡ steps.Body (loop_of (stmt_in (table_of old) s.now)))
  turn-loops s is other = by s.now is other
    where
      by : (t : memory_stmt.Stmt) → IsTurning (N.Stmt (record s { now = t })) → ((value : _) (items : _) → t ≡ M.Switch value items → ⊥)
          → IsLoop (N.Stmt (record s { now = t })) × (behind_body (StmtPart (stmt_in (table_of old) t)) ≡ steps.Body (loop_of (stmt_in (table_of old) t)))
      by (M.While' condition p body) is other = (tt, refl)
      by (M.DoWhile' p body condition) is other = (tt, refl)
      by (M.For' start condition step p body) is other = (tt, refl)
      by (M.Switch' value shape items) is other = absurd (other _ _ (sym (roll-out-Stmt (M.Switch' value shape items)) ∙ ap roll-Stmt (M.outs-Switch' value shape items) ∙ M.rolls-Switch _ _))
      by _ is other = absurd is

  pub turn-breaks : (s : memory_stmt.Stmt) (way later : Completion) → behind_body (StmtPart (stmt_in (table_of old) s)) ≡ steps.Body (loop_of (stmt_in (table_of old) s)) → Some later ≡ rules.after_body way
      → taking old (behind_body (StmtPart (stmt_in (table_of old) s))) (WayGiven way) ≡ give (steps.came (around_run old) (functions_of old) (WayGiven later) (popped (config_in old)))
  turn-breaks s way later is e =
      ap (λ frame. steps.take (around_run old) (functions_of old) frame (WayGiven way) (popped (config_in old))) is
      ∙ ap (λ after. give (steps.body_done (around_run old) (functions_of old) (loop_of (stmt_in (table_of old) s)) after (popped (config_in old)))) (sym e)

  pub turn-ends : (s : memory_stmt.Stmt) (way : Completion) → behind_body (StmtPart (stmt_in (table_of old) s)) ≡ steps.Body (loop_of (stmt_in (table_of old) s)) → None ≡ rules.after_body way
      → taking old (behind_body (StmtPart (stmt_in (table_of old) s))) (WayGiven way) ≡ ending_turn old (stmt_in (table_of old) s)
  turn-ends s way is e =
      ap (λ frame. steps.take (around_run old) (functions_of old) frame (WayGiven way) (popped (config_in old))) is
      ∙ ap (λ after. give (steps.body_done (around_run old) (functions_of old) (loop_of (stmt_in (table_of old) s)) after (popped (config_in old)))) (sym e)

  pub for-ends : (s : memory_stmt.Stmt) (start : memory_start.ForStart) (condition step : Option memory_value.Value) (body : Box memory_stmt.Stmt Global) → s ≡ M.For start condition step body → step ≡ None
      → ending_turn old (stmt_in (table_of old) s) ≡ beginning_turn old (stmt_in (table_of old) s)
  for-ends s start condition step body is none =
      subst (λ t. ending_turn old (stmt_in (table_of old) t) ≡ beginning_turn old (stmt_in (table_of old) t)) (ap (λ o. M.For start condition o body) (sym none) ∙ sym is) refl

  pub while-ends : (s : Bor memory_stmt.Stmt) → IsLoop (N.Stmt s) → ((body : _) (condition : _) → s.now ≡ M.DoWhile body condition → ⊥) → ((start : _) (condition : _) (step : _) (body : _) → s.now ≡ M.For start condition step body → ⊥)
      → ending_turn old (stmt_in (table_of old) s.now) ≡ beginning_turn old (stmt_in (table_of old) s.now)
  while-ends s is not_do not_for = by s.now is not_do not_for
    where
      by : (t : memory_stmt.Stmt) → IsLoop (N.Stmt (record s { now = t })) → ((body : _) (condition : _) → t ≡ M.DoWhile body condition → ⊥) → ((start : _) (condition : _) (step : _) (body : _) → t ≡ M.For start condition step body → ⊥)
          → ending_turn old (stmt_in (table_of old) t) ≡ beginning_turn old (stmt_in (table_of old) t)
      by (M.While' condition p body) is not_do not_for = refl
      by (M.DoWhile' p body condition) is not_do not_for = absurd (not_do _ _ (sym (roll-out-Stmt (M.DoWhile' p body condition)) ∙ ap roll-Stmt (M.outs-DoWhile' p body condition) ∙ M.rolls-DoWhile _ _))
      by (M.For' start condition step p body) is not_do not_for = absurd (not_for _ _ _ _ (sym (roll-out-Stmt (M.For' start condition step p body)) ∙ ap roll-Stmt (M.outs-For' start condition step p body) ∙ M.rolls-For _ _ _ _))
      by _ is not_do not_for = absurd is

-- ---- what a part of a statement came to

-- a local holds its first value
pub hold-moves : (old new : RefRun) (mid : Store) (top : ℕ) (part : Part) (place : memory_place.Place) (given : memory_given.Given) (value : memory_scalar.Scalar) (waits : IsInnermost old top part (S.Local place)) (result : Result (Unit {0}) Halt)
    → scalar_in (table_of old) value ≡ steps.scalar_of (given_in (table_of old) given) → IsOk result → IsConsistent old → TakesNone old.control.task → mid.types ≡ old.store.types → mid.locals ≡ old.store.locals
    → ((state : State) → At (around_run old) old.store old.base state → Comes (around_run old) mid old.base (write (around_run old) (record { line = 1; column = 1 }) (place_in (table_of old) place) (scalar_in (table_of old) value)) state (scalar_in (table_of old) value))
    → Becomes (record old { store = mid }) new (record { node = old.control.node; task = K.Give (G.Completion W.Normal) }) waits.others
    → Moves old new (taking old (innermost old part (S.Local place)) (given_in (table_of old) given)) result
hold-moves old new mid top part place given value waits result is ok holds free types locals comes becomes =
    subst (λ v. Moves old new (write (around_run old) (record { line = 1; column = 1 }) (place_in (table_of old) place) v >>= λ b. give (steps.came (around_run old) (functions_of old) (WayGiven Normal) (popped (config_in old)))) result) is
    (stored-moves old new mid top part (S.Local place) waits (G.Completion W.Normal) result
    (write (around_run old) (record { line = 1; column = 1 }) (place_in (table_of old) place) (scalar_in (table_of old) value)) (λ b. give (steps.came (around_run old) (functions_of old) (WayGiven Normal) (popped (config_in old)))) (scalar_in (table_of old) value)
    tt ok holds free tt (stored-alters old new mid (record { node = old.control.node; task = K.Give (G.Completion W.Normal) }) waits.others types locals holds becomes) becomes.store comes refl)

pub hold-stops : (old : RefRun) (mid : Store) (part : Part) (place : memory_place.Place) (given : memory_given.Given) (value : memory_scalar.Scalar) (stop : Stop)
    → scalar_in (table_of old) value ≡ steps.scalar_of (given_in (table_of old) given) → IsConsistent old → mid.types ≡ old.store.types → mid.locals ≡ old.store.locals
    → CallGives {B = Unit {0}} (around_run old) old.store mid old.base (λ done. scalar_in (table_of old) value) (write (around_run old) (record { line = 1; column = 1 }) (place_in (table_of old) place) (scalar_in (table_of old) value)) (Err stop)
    → Moves {A = Unit {0}} old (record old { store = mid }) (taking old (innermost old part (S.Local place)) (given_in (table_of old) given)) (Err (halt_of stop))
hold-stops old mid part place given value stop is holds types locals gives =
    subst (λ v. Moves {A = Unit {0}} old (record old { store = mid }) (write (around_run old) (record { line = 1; column = 1 }) (place_in (table_of old) place) v >>= λ b. give (steps.came (around_run old) (functions_of old) (WayGiven Normal) (popped (config_in old)))) (Err (halt_of stop))) is
    (stops (Unit {0}) old mid (λ (done : Unit {0}). scalar_in (table_of old) value) (write (around_run old) (record { line = 1; column = 1 }) (place_in (table_of old) place) (scalar_in (table_of old) value))
    (λ b. give (steps.came (around_run old) (functions_of old) (WayGiven Normal) (popped (config_in old)))) stop types locals holds gives)

-- a scope ends
pub leave-moves : (old new : RefRun) (mid : Store) (top : ℕ) (part : Part) (height : ℕ) (given : memory_given.Given) (way : memory_completion.Completion) (waits : IsInnermost old top part (S.Scope height)) (result : Result (Unit {0}) Halt)
    → completion_in (table_of old) way ≡ steps.way_of (given_in (table_of old) given) → IsOk result → IsConsistent old → TakesNone old.control.task → CompletionStands (table_of old) way
    → mid.types ≡ old.store.types → take height mid.locals.items ≡ take height old.store.locals.items
    → ((around : TypeEnvironment) (base : ℕ) (state : State) → base ≤ height → At around old.store base state → At around mid base (record state { objects = rules.killed (height - base) state.locals state.objects; locals = rules.kept (height - base) state.locals }))
    → Becomes (record old { store = mid }) new (record { node = old.control.node; task = K.Give (G.Completion way) }) waits.others
    → Moves old new (taking old (innermost old part (S.Scope height)) (given_in (table_of old) given)) result
leave-moves old new mid top part height given way waits result is ok holds free stands types front left becomes =
    let low : old.base ≤ height = (innermost-hold old top part (S.Scope height) free waits holds).3 in
    let short : take old.base mid.locals.items ≡ take old.base old.store.locals.items = front-left old.base height mid.locals.items old.store.locals.items low front in
    subst (λ w. Moves old new (rules.leave w (height - old.base) >>= λ v. give (steps.came (around_run old) (functions_of old) (WayGiven v) (popped (config_in old)))) result) is
    (stored-moves old new mid top part (S.Scope height) waits (G.Completion way) result
    (rules.leave (completion_in (table_of old) way) (height - old.base)) (λ v. give (steps.came (around_run old) (functions_of old) (WayGiven v) (popped (config_in old)))) (completion_in (table_of old) way)
    tt ok holds free stands
    (behind-alters old new mid (record { node = old.control.node; task = K.Give (G.Completion way) }) waits.others types short (within-left old.base mid.locals.items old.store.locals.items holds.within short) becomes)
    becomes.store (left-comes (around_run old) old.store mid old.base height (completion_in (table_of old) way) (λ state at. left (around_run old) old.base state low at)) refl)

-- items and turns look at the way alone
module _ (around : TypeEnvironment) (functions : List FunctionDef) where
  stmt-way : (s : T.Stmt) (number : ℕ) (given : steps.Given) (config : Config) → steps.take around functions (at_item (StmtPart s) number) given config ≡ steps.take around functions (at_item (StmtPart s) number) (WayGiven (steps.way_of given)) config
  stmt-way (T.BlockStmt items) number given config = refl
  stmt-way (T.Switch v items) number given config = refl
  stmt-way (T.For begin condition step body) number given config = refl
  stmt-way _ number given config = refl

  pub item-way : (part : Part) (number : ℕ) (given : steps.Given) (config : Config) → steps.take around functions (at_item part number) given config ≡ steps.take around functions (at_item part number) (WayGiven (steps.way_of given)) config
  item-way (StmtPart s) number given config = stmt-way s number given config
  item-way (BodyPart function) number given config = refl
  item-way _ number given config = refl

  stmt-turn : (s : T.Stmt) (given : steps.Given) (config : Config) → steps.take around functions (behind_body (StmtPart s)) given config ≡ steps.take around functions (behind_body (StmtPart s)) (WayGiven (steps.way_of given)) config
  stmt-turn (T.Switch v items) given config = refl
  stmt-turn _ given config = refl

  pub turn-way : (part : Part) (given : steps.Given) (config : Config) → steps.take around functions (behind_body part) given config ≡ steps.take around functions (behind_body part) (WayGiven (steps.way_of given)) config
  turn-way (StmtPart s) given config = stmt-turn s given config
  turn-way _ given config = refl

pub no-other : (stage : memory_stage.Stage) → IsOfStatement stage → ((place : _) → stage ≡ S.Local place → ⊥) → ((height : _) → stage ≡ S.Scope height → ⊥) → ((number : _) → stage ≡ S.Item number → ⊥)
    → (stage ≡ S.Begin → ⊥) → (stage ≡ S.Step → ⊥) → (stage ≡ S.Turn → ⊥) → ⊥
no-other (S.Local place) is local scope item begin step turn = local place refl
no-other (S.Scope height) is local scope item begin step turn = scope height refl
no-other (S.Item number) is local scope item begin step turn = item number refl
no-other S.Begin is local scope item begin step turn = begin refl
no-other S.Step is local scope item begin step turn = step refl
no-other S.Turn is local scope item begin step turn = turn refl
no-other _ is local scope item begin step turn = absurd is

-- ---- what a method hands on

pub out-moves : {A : Type 0} (old new : RefRun) (eval : Eval Config) (result : Result A Halt) → IsErrAnd result (λ e. e ≡ H.OutOfMemory) → Stays old new → Moves old new eval result
out-moves old new eval (Ok done) out stays = absurd out
out-moves {A = A} old new eval (Err e) out stays = subst (λ h. Moves {A = A} old new eval (Err h)) (sym out) stays

pub halt-moves : {A : Type 0} (old new : RefRun) (eval : Eval Config) (result : Result A Halt) (halt : Halt) → IsErrAnd result (λ e. e ≡ halt) → Moves {A = A} old new eval (Err halt) → Moves old new eval result
halt-moves old new eval (Ok done) halt out moves = absurd out
halt-moves {A = A} old new eval (Err e) halt out moves = subst (λ h. Moves {A = A} old new eval (Err h)) (sym out) moves

-- no room for a local
pub local-fails : (old : RefRun) (mid : Store) (frames : Vec memory_frame.Frame Global) → IsConsistent old → frames.items ≡ old.frames.items → mid.types ≡ old.store.types → mid.locals.items ≡ old.store.locals.items
    → ((around : TypeEnvironment) (base : ℕ) (state : State) → At around old.store base state → At around mid base state) → Stays old (record old { store = mid; frames = frames })
local-fails old mid frames holds same types locals keeps =
    alters-stays old (record old { store = mid; frames = frames })
    (behind-alters old (record old { store = mid; frames = frames }) mid old.control (stack_of old) types (ap (take old.base) locals) (subst (λ l. old.base ≤ length l) (sym locals) holds.within) (roomy old mid frames same))
    holds (λ state at. keeps (around_run old) old.base state at)

-- the innermost comes to another stage, and one more waits
pub local-becomes : (old new : RefRun) (frames : Vec memory_frame.Frame Global) (next : Control) (top : ℕ) (a b first : memory_frame.Frame) (others : List memory_frame.Frame) → suc top ≡ length old.frames.items
    → frames.items ≡ set old.frames.items top a ++ (b ∷ []) → stack_of old ≡ first ∷ others → Becomes (record old { frames = frames }) new next (reverse frames.items) → Becomes old new next (b ∷ a ∷ others)
local-becomes old new frames next top a b first others number items stack becomes = record {
  kept = record { program = becomes.kept.program; functions = becomes.kept.functions; main = becomes.kept.main; spent = becomes.kept.spent };
  store = becomes.store;
  operands = becomes.operands;
  base = becomes.base;
  depth = becomes.depth;
  control = becomes.control;
  stack = becomes.stack ∙ (ap reverse items ∙ (reverse-append (set old.frames.items top a) (b ∷ []) ∙ ap (λ l. b ∷ l) (set-newest old.frames.items top a first others number stack)));
}

-- the number of the next item
pub numbered-stage : (old mid : RefRun) (node : memory_node.Node) (number next : ℕ) (others : List memory_frame.Frame) → next ≡ suc number → Becomes old mid old.control (record { node = node; stage = S.Item next } ∷ others)
    → Becomes old mid old.control (record { node = node; stage = S.Item (suc number) } ∷ others)
numbered-stage old mid node number next others is becomes = subst (λ n. Becomes old mid old.control (record { node = node; stage = S.Item n } ∷ others)) is becomes

pub switch-has : (s : Bor memory_stmt.Stmt) → IsSwitch (N.Stmt s) → HasItems (N.Stmt s)
switch-has s is = by s.now is
  where
    by : (t : memory_stmt.Stmt) → IsSwitch (N.Stmt (record s { now = t })) → HasItems (N.Stmt (record s { now = t }))
    by (M.Switch' value shape items) is = tt
    by _ is = absurd is

pub block-has : (node : memory_node.Node) → IsBlock node → HasItems node
block-has (N.Stmt s) is = by s.now is
  where
    by : (t : memory_stmt.Stmt) → IsBlock (N.Stmt (record s { now = t })) → HasItems (N.Stmt (record s { now = t }))
    by (M.Block' shape items) is = tt
    by _ is = absurd is
block-has (N.Body function) is = tt
block-has _ is = absurd is

pub switch-is : (s : Bor memory_stmt.Stmt) (value : memory_value.Value) (items : Vec memory_switch.SwitchItem Global) → s.now ≡ M.Switch value items → IsSwitch (N.Stmt s)
switch-is s value items is = subst (λ t. IsSwitch (N.Stmt (record s { now = t }))) (sym is) tt

pub at-next : (mid new : RefRun) (control : Control) (front : memory_frame.Frame) (node : memory_node.Node) (number next : ℕ) (others : List memory_frame.Frame) → next ≡ suc number
    → Becomes mid new control (front ∷ record { node = node; stage = S.Item next } ∷ others) → Becomes mid new control (front ∷ record { node = node; stage = S.Item (suc number) } ∷ others)
at-next mid new control front node number next others is becomes = subst (λ n. Becomes mid new control (front ∷ record { node = node; stage = S.Item n } ∷ others)) is becomes
