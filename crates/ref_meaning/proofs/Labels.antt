-- How a label of a `switch` is looked for.
use Rattle.std.proofs.Common.{◌≡◌, ℕ, suc, Bool, true, false, if◌then◌else◌, List, ◌∷◌, length, ℤ, Option, Some, None, option_map, Result, Ok, Err, OnOk, OnErr, IfErr, Bor, refl, sym, ap, subst, ◌∙◌}
use Rattle.std.specs.Ordering.{int_eq}
use Rattle.std.proofs.lemmas.Bool.{false_from_ne_true}
use Rattle.std.proofs.lemmas.Bool.Decides.{Decides-int_eq}
use Rattle.c_typed.specs.declared.statement.Stmt as memory_stmt
use Rattle.c_typed.specs.declared.statement.Stmt.TheVariants as M
use Rattle.c_typed.specs.declared.statement.SwitchItem as memory_switch
use Rattle.c_typed.specs.declared.statement.SwitchItem.TheVariants as W
use Rattle.c_typed.specs.Typed as T
use Rattle.c_typed.specs.Typed.{SwitchItems}
use Rattle.c_typed.specs.Table.{Interned}
use Rattle.c_typed.specs.StatementViews.{stmt_in}
use Rattle.ref_semantics.specs.Meaning.{Normal}
use Rattle.ref_semantics.specs.Store.{State, Eval, give}
use Rattle.ref_semantics.specs.Parts.{StmtPart}
use Rattle.ref_semantics.specs.Steps as steps
use Rattle.ref_semantics.specs.Steps.{Config, go_in, next_task, first_of, WayGiven}
use Rattle.ref_semantics.specs.Units.{act, looks}
use Rattle.ref_meaning.specs.RefStore.Holding.{At}
use Rattle.ref_meaning.specs.declared.control.Control.{Control}
use Rattle.ref_meaning.specs.declared.control.Node as memory_node
use Rattle.ref_meaning.specs.declared.control.Node.TheVariants as N
use Rattle.ref_meaning.specs.declared.control.Frame as memory_frame
use Rattle.ref_meaning.specs.declared.control.Stage.TheVariants as S
use Rattle.ref_meaning.specs.declared.control.Task.TheVariants as K
use Rattle.ref_meaning.specs.declared.control.Given.TheVariants as G
use Rattle.ref_meaning.specs.declared.control.Completion.TheVariants as Ways
use Rattle.ref_meaning.specs.declared.run.RefRun.{RefRun}
use Rattle.ref_meaning.specs.declared.run.Halt.{Halt}
use Rattle.ref_meaning.specs.declared.run.Halt.TheVariants as H
use Rattle.ref_meaning.specs.Views.{part_in, task_in, frames_in, at_item, stmt_of, case_items_of, case_items_from, config_in, around_run, functions_of, table_of, operands_of, operands_after, stack_of}
use Rattle.ref_meaning.specs.Holding.{IsConsistent, NodeStands, TaskFits, TaskFinds, Awaits, FramesHold, IsSwitch, HasItems}
use Rattle.ref_meaning.specs.Items.{ThisCaseItem}
use Rattle.ref_meaning.specs.Doing.{acting}
use Rattle.ref_meaning.specs.Moving.{Becomes, IsSame, Moves, Arrives}
use Rattle.ref_meaning.proofs.Moves.{becomes-config, becomes-holds, becomes-arrives, same-stays}

-- ---- what waits or runs out of memory

module _ (old new : RefRun) (next : Control) (frames : List memory_frame.Frame) where
  pub moves-either : (eval : Eval Config) {A : Type 0} (result : Result A Halt) → OnOk result (Becomes old new next frames) → OnErr result (IsSame old new) → IfErr result (λ e. e ≡ H.OutOfMemory) → IsConsistent old
      → (Becomes old new next frames → (state : State) → At (around_run old) old.store old.base state → Arrives new eval state) → Moves old new eval result
  moves-either eval (Ok done) becomes same only holds arrives = arrives becomes
  moves-either eval {A = A} (Err e) becomes same only holds arrives = subst (λ (h : Halt). Moves {A = A} old new eval (Err h)) (sym only) (same-stays old new same holds)

-- ---- the items of a `switch`

module _ (table : Interned) (number : ℕ) where
  switch-at : (s : Bor memory_stmt.Stmt) (m : memory_stmt.Stmt) → IsSwitch (N.Stmt (record s { now = m })) → at_item (StmtPart (stmt_in table m)) number ≡ steps.CaseItems (case_items_from number (case_items_of (stmt_in table m)))
  switch-at s (M.Block' shape items) h = absurd h
  switch-at s M.Empty h = absurd h
  switch-at s (M.Expression value) h = absurd h
  switch-at s (M.If' condition p taken) h = absurd h
  switch-at s (M.IfElse' condition p taken q otherwise) h = absurd h
  switch-at s (M.While' condition p body) h = absurd h
  switch-at s (M.DoWhile' p body condition) h = absurd h
  switch-at s (M.For' start condition step p body) h = absurd h
  switch-at s (M.Switch' value shape items) h = refl
  switch-at s M.Break h = absurd h
  switch-at s M.Continue h = absurd h
  switch-at s (M.Return value) h = absurd h

  pub item-waits : (node : memory_node.Node) → IsSwitch node → at_item (part_in table node) number ≡ steps.CaseItems (case_items_from number (case_items_of (stmt_of (part_in table node))))
  item-waits (N.Value v) h = absurd h
  item-waits (N.Object object) h = absurd h
  item-waits (N.Address object) h = absurd h
  item-waits (N.Designator function) h = absurd h
  item-waits (N.Stmt s) h = switch-at s s.now h
  item-waits (N.Body function) h = absurd h
  item-waits N.Nothing h = absurd h

switch-has : (s : Bor memory_stmt.Stmt) (m : memory_stmt.Stmt) → IsSwitch (N.Stmt (record s { now = m })) → HasItems (N.Stmt (record s { now = m }))
switch-has s (M.Block' shape items) h = absurd h
switch-has s M.Empty h = absurd h
switch-has s (M.Expression value) h = absurd h
switch-has s (M.If' condition p taken) h = absurd h
switch-has s (M.IfElse' condition p taken q otherwise) h = absurd h
switch-has s (M.While' condition p body) h = absurd h
switch-has s (M.DoWhile' p body condition) h = absurd h
switch-has s (M.For' start condition step p body) h = absurd h
switch-has s (M.Switch' value shape items) h = tt
switch-has s M.Break h = absurd h
switch-has s M.Continue h = absurd h
switch-has s (M.Return value) h = absurd h

pub switch-items : (node : memory_node.Node) → IsSwitch node → HasItems node
switch-items (N.Value v) h = absurd h
switch-items (N.Object object) h = absurd h
switch-items (N.Address object) h = absurd h
switch-items (N.Designator function) h = absurd h
switch-items (N.Stmt s) h = switch-has s s.now h
switch-items (N.Body function) h = absurd h
switch-items N.Nothing h = absurd h

-- ---- a label is looked for

module _ (old : RefRun) (holds : IsConsistent old) (switch : memory_node.Node) (value : ℤ) (number : ℕ) (default : Option ℕ) (control : old.control ≡ record { node = switch; task = K.Label value number default }) where
  abbrev pub table : Interned
  table = table_of old

  abbrev pub all : SwitchItems
  all = case_items_of (stmt_of (part_in table switch))

  abbrev pub at_default : Option ℕ → Option SwitchItems
  at_default known = option_map (λ n. case_items_from n all) known

  pub is-switch : IsSwitch switch
  is-switch = subst (λ (c : Control). TaskFits table c.node (length (operands_of old)) c.task) control holds.task

  pub switch-stands : NodeStands table switch
  switch-stands = subst (λ (c : Control). NodeStands table c.node) control holds.node

  unawaited : Awaits (stack_of old) → ⊥
  unawaited awaits = subst (λ (c : Control). TaskFinds table c.node c.task) control (holds.found.0 awaits)

  frames-are : (config_in old).frames ≡ frames_in table old.store.locals.items old.base (operands_of old) (stack_of old)
  frames-are = ap (λ (c : Control). frames_in table old.store.locals.items old.base (operands_after c.task (operands_of old)) (stack_of old)) control

  frames-hold : FramesHold table old.base (operands_of old) (stack_of old)
  frames-hold = subst (λ (c : Control). FramesHold table old.base (operands_after c.task (operands_of old)) (stack_of old)) control holds.frames

  acts-looks : acting old ≡ give (looks (around_run old) (functions_of old) value (case_items_from number all) (at_default default) (config_in old))
  acts-looks =
      ap (λ (c : Control). act (around_run old) (functions_of old) (task_in table (operands_of old) (part_in table c.node) c.task) (config_in old)) control

  -- it is found
  module _ (new : RefRun) (from : ℕ) (is : looks (around_run old) (functions_of old) value (case_items_from number all) (at_default default) (config_in old) ≡ go_in (around_run old) (functions_of old) (Some (case_items_from from all)) (config_in old)) where
    abbrev pub found-frames : List memory_frame.Frame
    found-frames = record { node = switch; stage = S.Item from } ∷ stack_of old

    abbrev pub found-next : Control
    found-next = record { node = old.control.node; task = K.Give (G.Completion Ways.Normal) }

    found-arrives : Becomes old new found-next found-frames → (state : State) → At (around_run old) old.store old.base state → Arrives new (acting old) state
    found-arrives becomes state at =
        let holds' = becomes-holds old new found-next found-frames becomes holds ((λ awaits. absurd awaits), (unawaited, holds.found.1)) holds.node tt (switch-stands, switch-items switch is-switch, tt, tt, frames-hold) holds.calls in
        let config = go_in (around_run old) (functions_of old) (Some (case_items_from from all)) (config_in old) in
        let same : config_in new ≡ config = becomes-config old new found-next found-frames becomes ∙ (λ i. record {
          task = steps.Give (WayGiven Normal);
          frames = item-waits table from switch is-switch i ∷ sym frames-are i;
          depth = (config_in old).depth;
        }) in
        subst (λ eval. Arrives new eval state) (sym (acts-looks ∙ ap give is)) (becomes-arrives old new found-next found-frames config becomes same holds' state at)

    pub found-moves : {A : Type 0} (result : Result A Halt) → OnOk result (Becomes old new found-next found-frames) → OnErr result (IsSame old new) → IfErr result (λ e. e ≡ H.OutOfMemory) → Moves old new (acting old) result
    found-moves result becomes same only = moves-either old new found-next found-frames (acting old) result becomes same only holds found-arrives

  -- it goes on behind an item
  module _ (new : RefRun) (later : Option ℕ)
      (is : looks (around_run old) (functions_of old) value (case_items_from number all) (at_default default) (config_in old)
      ≡ next_task (around_run old) (functions_of old) (steps.Search value (case_items_from (suc number) all) (at_default later)) (config_in old)) where
    abbrev pub on-next : Control
    on-next = record { node = switch; task = K.Label value (suc number) later }

    pub on-arrives : Becomes old new on-next (stack_of old) → (state : State) → At (around_run old) old.store old.base state → Arrives new (acting old) state
    on-arrives becomes state at =
        let holds' = becomes-holds old new on-next (stack_of old) becomes holds (unawaited, holds.found.1) switch-stands is-switch frames-hold holds.calls in
        let config = next_task (around_run old) (functions_of old) (steps.Search value (case_items_from (suc number) all) (at_default later)) (config_in old) in
        let same : config_in new ≡ config = becomes-config old new on-next (stack_of old) becomes ∙ (λ i. record {
          task = steps.Search value (case_items_from (suc number) all) (at_default later);
          frames = sym frames-are i;
          depth = (config_in old).depth;
        }) in
        subst (λ eval. Arrives new eval state) (sym (acts-looks ∙ ap give is)) (becomes-arrives old new on-next (stack_of old) config becomes same holds' state at)

-- ---- what is done at an item

module _ (old : RefRun) (value : ℤ) (items : SwitchItems) where
  abbrev pub looking : SwitchItems → Option SwitchItems → Config
  looking here default = looks (around_run old) (functions_of old) value here default (config_in old)

  pub looks-found : (here others : SwitchItems) (label : ℤ) (default : Option SwitchItems) → here ≡ T.Case label others → int_eq value label ≡ true
      → looking here default ≡ go_in (around_run old) (functions_of old) (Some here) (config_in old)
  looks-found here others label default is same =
      ap (λ x. looking x default) is
      ∙ (ap (λ (b : Bool). if b then go_in (around_run old) (functions_of old) (Some (T.Case label others)) (config_in old) else next_task (around_run old) (functions_of old) (steps.Search value others default) (config_in old)) same
      ∙ ap (λ x. go_in (around_run old) (functions_of old) (Some x) (config_in old)) (sym is))

  pub looks-other : (here others : SwitchItems) (label : ℤ) (default : Option SwitchItems) → here ≡ T.Case label others → int_eq value label ≡ false
      → looking here default ≡ next_task (around_run old) (functions_of old) (steps.Search value others default) (config_in old)
  looks-other here others label default is other =
      ap (λ x. looking x default) is
      ∙ ap (λ (b : Bool). if b then go_in (around_run old) (functions_of old) (Some (T.Case label others)) (config_in old) else next_task (around_run old) (functions_of old) (steps.Search value others default) (config_in old)) other

  -- behind the last it goes on at `default`
  pub looks-last : (here all : SwitchItems) (known : Option ℕ) (from : ℕ) → here ≡ T.SwitchEnd → known ≡ Some from
      → looking here (option_map (λ n. case_items_from n all) known) ≡ go_in (around_run old) (functions_of old) (Some (case_items_from from all)) (config_in old)
  looks-last here all known from is found =
      ap (λ x. looking x (option_map (λ n. case_items_from n all) known)) is
      ∙ ap (λ n. go_in (around_run old) (functions_of old) (option_map (λ n. case_items_from n all) n) (config_in old)) found

  pub looks-default : (here others : SwitchItems) (default : Option SwitchItems) → here ≡ T.Default others
      → looking here default ≡ next_task (around_run old) (functions_of old) (steps.Search value others (first_of default (Some here))) (config_in old)
  looks-default here others default is =
      ap (λ x. looking x default) is ∙ ap (λ x. next_task (around_run old) (functions_of old) (steps.Search value others (first_of default (Some x))) (config_in old)) (sym is)

  pub looks-statement : (here others : SwitchItems) (one : T.Stmt) (default : Option SwitchItems) → here ≡ T.SwitchStmt one others
      → looking here default ≡ next_task (around_run old) (functions_of old) (steps.Search value others default) (config_in old)
  looks-statement here others one default is = ap (λ x. looking x default) is

-- ---- an item that doesn't fit

module _ (old : RefRun) (value : ℤ) (table : Interned) (all : SwitchItems) (number : ℕ) where
  abbrev pub from_default : Option ℕ → Option SwitchItems
  from_default known = option_map (λ n. case_items_from n all) known

  -- the search goes on behind it
  abbrev pub LooksOn : Option ℕ → Option ℕ → Type 0
  LooksOn default later =
      looks (around_run old) (functions_of old) value (case_items_from number all) (from_default default) (config_in old)
      ≡ next_task (around_run old) (functions_of old) (steps.Search value (case_items_from (suc number) all) (from_default later)) (config_in old)

  abbrev pub searching : Option SwitchItems → Config
  searching default = next_task (around_run old) (functions_of old) (steps.Search value (case_items_from (suc number) all) default) (config_in old)

  pub on-other : (item : memory_switch.SwitchItem) (label : ℤ) (default later : Option ℕ) → ThisCaseItem table number all item → item ≡ W.Case label → (value ≡ label → ⊥) → later ≡ default → LooksOn default later
  on-other item label default later here is differ known =
      looks-other old value all (case_items_from number all) (case_items_from (suc number) all) label (from_default default) (subst (ThisCaseItem table number all) is here)
      (false_from_ne_true (int_eq value label) (λ e. differ ((Decides-int_eq value label).0 e)))
      ∙ ap (λ n. searching (from_default n)) (sym known)

  pub on-default : (item : memory_switch.SwitchItem) (default later : Option ℕ) → ThisCaseItem table number all item → item ≡ W.Default
      → first_of (from_default default) (Some (case_items_from number all)) ≡ from_default later → LooksOn default later
  on-default item default later here is known =
      looks-default old value all (case_items_from number all) (case_items_from (suc number) all) (from_default default) (subst (ThisCaseItem table number all) is here) ∙ ap searching known

  pub known-default : (default later : Option ℕ) (first : ℕ) → default ≡ Some first → later ≡ Some first → first_of (from_default default) (Some (case_items_from number all)) ≡ from_default later
  known-default default later first is known = ap (λ n. first_of (from_default n) (Some (case_items_from number all))) is ∙ sym (ap from_default known)

  pub new-default : (default later : Option ℕ) → default ≡ None → later ≡ Some number → first_of (from_default default) (Some (case_items_from number all)) ≡ from_default later
  new-default default later is known = ap (λ n. first_of (from_default n) (Some (case_items_from number all))) is ∙ sym (ap from_default known)

  pub on-statement : (item : memory_switch.SwitchItem) (stmt : memory_stmt.Stmt) (default later : Option ℕ) → ThisCaseItem table number all item → item ≡ W.Statement stmt → later ≡ default → LooksOn default later
  on-statement item stmt default later here is known =
      looks-statement old value all (case_items_from number all) (case_items_from (suc number) all) (stmt_in table stmt) (from_default default) (subst (ThisCaseItem table number all) is here).0
      ∙ ap (λ n. searching (from_default n)) (sym known)
