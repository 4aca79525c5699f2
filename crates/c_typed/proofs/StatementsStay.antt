-- What a typed statement stands for stays where each type stays, and so while a table grows.
use Rattle.std.proofs.Common.{◌≡◌, List, [], ◌∷◌, map, Option, Some, None, Vec, Global, refl, sym, ap, subst, ◌∙◌}
use Rattle.c_typed.specs.declared.statement.BlockItem.TheBlock.{hidden-the_row-BlockItem-0, items_hidden-the_row-BlockItem-0, hidden-the_row-SwitchItem-1, items_hidden-the_row-SwitchItem-1, items-the_row-BlockItem, items-the_row-SwitchItem}
use Rattle.c_typed.specs.declared.statement.LocalDef as memory_local
use Rattle.c_typed.specs.declared.statement.ForStart as memory_start
use Rattle.c_typed.specs.declared.statement.ForStart.TheVariants as F
use Rattle.c_typed.specs.declared.statement.Stmt as memory_stmt
use Rattle.c_typed.specs.declared.statement.Stmt.TheVariants as S
use Rattle.c_typed.specs.declared.statement.BlockItem as memory_item
use Rattle.c_typed.specs.declared.statement.BlockItem.TheVariants as B
use Rattle.c_typed.specs.declared.statement.SwitchItem as memory_switch
use Rattle.c_typed.specs.declared.statement.SwitchItem.TheVariants as W
use Rattle.c_typed.specs.declared.typed.Value as memory_value
use Rattle.c_typed.specs.Typed as typed
use Rattle.c_typed.specs.Table.{Interned, Grows}
use Rattle.c_typed.specs.Views.{value_in, ValueStands}
use Rattle.c_typed.specs.StatementViews.{optional_value_in, OptionalStands, local_in, LocalStands, LocalsStand, start_in, StartStands, stmt_in, block_row, switch_row, block_in, switch_in, StmtStands, BlockRowStands, SwitchRowStands, BlockStands, SwitchStands}
use Rattle.c_typed.proofs.Grown.{stays}
use Rattle.c_typed.proofs.TypedStays.{TypesStay, value_keeps}

module _ (old new : Interned) (keeps : TypesStay old new) where
  pub optional_keeps : (v : Option memory_value.Value) → OptionalStands old v → OptionalStands new v × (optional_value_in new v ≡ optional_value_in old v)
  optional_keeps None h = (tt, refl)
  optional_keeps (Some v) h =
      let kept = value_keeps old new keeps v h in
      (kept.0, ap Some kept.1)

  pub local_keeps : (local : memory_local.LocalDef) → LocalStands old local → LocalStands new local × (local_in new local ≡ local_in old local)
  local_keeps local h =
      let c_type = keeps local.c_type h.0 in
      let first = optional_keeps local.first h.1 in
      ((c_type.0, first.0), λ i. record { c_type = c_type.1 i; first = first.1 i })

  pub locals_keep : (locals : List memory_local.LocalDef) → LocalsStand old locals → LocalsStand new locals × (map (local_in new) locals ≡ map (local_in old) locals)
  locals_keep [] h = (tt, refl)
  locals_keep (first ∷ others) h =
      let one = local_keeps first h.0 in
      let rest = locals_keep others h.1 in
      ((one.0, rest.0), λ i. one.1 i ∷ rest.1 i)

  pub start_keeps : (start : memory_start.ForStart) → StartStands old start → StartStands new start × (start_in new start ≡ start_in old start)
  start_keeps F.Nothing h = (tt, refl)
  start_keeps (F.Value value) h =
      let kept = value_keeps old new keeps value h in
      (kept.0, ap typed.StartValue kept.1)
  start_keeps (F.Locals locals) h =
      let kept = locals_keep locals.items h in
      (kept.0, ap typed.StartLocals kept.1)

  mutual
    pub stmt_keeps : (s : memory_stmt.Stmt) → StmtStands old s → StmtStands new s × (stmt_in new s ≡ stmt_in old s)
    stmt_keeps (S.Block' shape items) h =
        let kept = block_row_keeps items h in
        (kept.0, ap typed.BlockStmt kept.1)
    stmt_keeps S.Empty h = (tt, refl)
    stmt_keeps (S.Expression value) h =
        let kept = value_keeps old new keeps value h in
        (kept.0, ap typed.Expression kept.1)
    stmt_keeps (S.If' condition p taken) h =
        let one = value_keeps old new keeps condition h.0 in
        let two = stmt_keeps taken h.1 in
        ((one.0, two.0), λ i. typed.If (one.1 i) (two.1 i))
    stmt_keeps (S.IfElse' condition p taken q otherwise) h =
        let one = value_keeps old new keeps condition h.0 in
        let two = stmt_keeps taken h.1 in
        let three = stmt_keeps otherwise h.2 in
        ((one.0, two.0, three.0), λ i. typed.IfElse (one.1 i) (two.1 i) (three.1 i))
    stmt_keeps (S.While' condition p body) h =
        let one = value_keeps old new keeps condition h.0 in
        let two = stmt_keeps body h.1 in
        ((one.0, two.0), λ i. typed.While (one.1 i) (two.1 i))
    stmt_keeps (S.DoWhile' p body condition) h =
        let one = stmt_keeps body h.0 in
        let two = value_keeps old new keeps condition h.1 in
        ((one.0, two.0), λ i. typed.DoWhile (one.1 i) (two.1 i))
    stmt_keeps (S.For' start condition step p body) h =
        let one = start_keeps start h.0 in
        let two = optional_keeps condition h.1 in
        let three = optional_keeps step h.2 in
        let four = stmt_keeps body h.3 in
        ((one.0, two.0, three.0, four.0), λ i. typed.For (one.1 i) (two.1 i) (three.1 i) (four.1 i))
    stmt_keeps (S.Switch' value shape items) h =
        let one = value_keeps old new keeps value h.0 in
        let two = switch_row_keeps items h.1 in
        ((one.0, two.0), λ i. typed.Switch (one.1 i) (two.1 i))
    stmt_keeps S.Break h = (tt, refl)
    stmt_keeps S.Continue h = (tt, refl)
    stmt_keeps (S.Return value) h =
        let kept = optional_keeps value h in
        (kept.0, ap typed.Return kept.1)

    block_row_keeps : {shape : _} (row : memory_stmt.Row_of-BlockItem shape) → BlockRowStands old row → BlockRowStands new row × (block_row new row ≡ block_row old row)
    block_row_keeps memory_stmt.end_of-BlockItem h = (tt, refl)
    block_row_keeps (memory_stmt.more_of-BlockItem (B.Local local) others) h =
        let one = local_keeps local h.0 in
        let rest = block_row_keeps others h.1 in
        ((one.0, rest.0), λ i. typed.Declare (one.1 i) (rest.1 i))
    block_row_keeps (memory_stmt.more_of-BlockItem (B.Statement stmt) others) h =
        let one = stmt_keeps stmt h.0 in
        let rest = block_row_keeps others h.1 in
        ((one.0, rest.0), λ i. typed.Perform (one.1 i) (rest.1 i))

    switch_row_keeps : {shape : _} (row : memory_stmt.Row_of-SwitchItem shape) → SwitchRowStands old row → SwitchRowStands new row × (switch_row new row ≡ switch_row old row)
    switch_row_keeps memory_stmt.end_of-SwitchItem h = (tt, refl)
    switch_row_keeps (memory_stmt.more_of-SwitchItem (W.Case label) others) h =
        let rest = switch_row_keeps others h in
        (rest.0, ap (typed.Case label) rest.1)
    switch_row_keeps (memory_stmt.more_of-SwitchItem W.Default others) h =
        let rest = switch_row_keeps others h in
        (rest.0, ap typed.Default rest.1)
    switch_row_keeps (memory_stmt.more_of-SwitchItem (W.Statement stmt) others) h =
        let one = stmt_keeps stmt h.0 in
        let rest = switch_row_keeps others h.1 in
        ((one.0, rest.0), λ i. typed.SwitchStmt (one.1 i) (rest.1 i))

  pub block_keeps : (items : List memory_item.BlockItem) → BlockStands old items → BlockStands new items × (block_in new items ≡ block_in old items)
  block_keeps [] h = (tt, refl)
  block_keeps (B.Local local ∷ others) h =
      let one = local_keeps local h.0 in
      let rest = block_keeps others h.1 in
      ((one.0, rest.0), λ i. typed.Declare (one.1 i) (rest.1 i))
  block_keeps (B.Statement stmt ∷ others) h =
      let one = stmt_keeps stmt h.0 in
      let rest = block_keeps others h.1 in
      ((one.0, rest.0), λ i. typed.Perform (one.1 i) (rest.1 i))

  pub switch_keeps : (items : List memory_switch.SwitchItem) → SwitchStands old items → SwitchStands new items × (switch_in new items ≡ switch_in old items)
  switch_keeps [] h = (tt, refl)
  switch_keeps (W.Case label ∷ others) h =
      let rest = switch_keeps others h in
      (rest.0, ap (typed.Case label) rest.1)
  switch_keeps (W.Default ∷ others) h =
      let rest = switch_keeps others h in
      (rest.0, ap typed.Default rest.1)
  switch_keeps (W.Statement stmt ∷ others) h =
      let one = stmt_keeps stmt h.0 in
      let rest = switch_keeps others h.1 in
      ((one.0, rest.0), λ i. typed.SwitchStmt (one.1 i) (rest.1 i))

-- while a table grows each type stays
module _ (old new : Interned) (grows : Grows old new) where
  pub optional_stays : (v : Option memory_value.Value) → OptionalStands old v → OptionalStands new v × (optional_value_in new v ≡ optional_value_in old v)
  optional_stays v h = optional_keeps old new (stays old new grows) v h

  pub local_stays : (local : memory_local.LocalDef) → LocalStands old local → LocalStands new local × (local_in new local ≡ local_in old local)
  local_stays local h = local_keeps old new (stays old new grows) local h

  pub locals_stay : (locals : List memory_local.LocalDef) → LocalsStand old locals → LocalsStand new locals × (map (local_in new) locals ≡ map (local_in old) locals)
  locals_stay locals h = locals_keep old new (stays old new grows) locals h

  pub start_stays : (start : memory_start.ForStart) → StartStands old start → StartStands new start × (start_in new start ≡ start_in old start)
  start_stays start h = start_keeps old new (stays old new grows) start h

  pub stmt_stays : (s : memory_stmt.Stmt) → StmtStands old s → StmtStands new s × (stmt_in new s ≡ stmt_in old s)
  stmt_stays s h = stmt_keeps old new (stays old new grows) s h

  pub block_stays : (items : List memory_item.BlockItem) → BlockStands old items → BlockStands new items × (block_in new items ≡ block_in old items)
  block_stays items h = block_keeps old new (stays old new grows) items h

  pub switch_stays : (items : List memory_switch.SwitchItem) → SwitchStands old items → SwitchStands new items × (switch_in new items ≡ switch_in old items)
  switch_stays items h = switch_keeps old new (stays old new grows) items h

-- ---- a vector inside of a statement shows as a row, which stands for what its items do

module _ (table : Interned) where
  block_row-items : (shape : _) (row : memory_stmt.Row_of-BlockItem shape) → block_row table row ≡ block_in table (items-the_row-BlockItem shape row)
  block_row-items shape memory_stmt.end_of-BlockItem = refl
  block_row-items shape (memory_stmt.more_of-BlockItem (B.Local local) others) = ap (typed.Declare (local_in table local)) (block_row-items _ others)
  block_row-items shape (memory_stmt.more_of-BlockItem (B.Statement stmt) others) = ap (typed.Perform (stmt_in table stmt)) (block_row-items _ others)

  switch_row-items : (shape : _) (row : memory_stmt.Row_of-SwitchItem shape) → switch_row table row ≡ switch_in table (items-the_row-SwitchItem shape row)
  switch_row-items shape memory_stmt.end_of-SwitchItem = refl
  switch_row-items shape (memory_stmt.more_of-SwitchItem (W.Case label) others) = ap (typed.Case label) (switch_row-items _ others)
  switch_row-items shape (memory_stmt.more_of-SwitchItem W.Default others) = ap typed.Default (switch_row-items _ others)
  switch_row-items shape (memory_stmt.more_of-SwitchItem (W.Statement stmt) others) = ap (typed.SwitchStmt (stmt_in table stmt)) (switch_row-items _ others)

  block_row-stands : (shape : _) (row : memory_stmt.Row_of-BlockItem shape) → BlockStands table (items-the_row-BlockItem shape row) → BlockRowStands table row
  block_row-stands shape memory_stmt.end_of-BlockItem h = tt
  block_row-stands shape (memory_stmt.more_of-BlockItem (B.Local local) others) h = (h.0, block_row-stands _ others h.1)
  block_row-stands shape (memory_stmt.more_of-BlockItem (B.Statement stmt) others) h = (h.0, block_row-stands _ others h.1)

  switch_row-stands : (shape : _) (row : memory_stmt.Row_of-SwitchItem shape) → SwitchStands table (items-the_row-SwitchItem shape row) → SwitchRowStands table row
  switch_row-stands shape memory_stmt.end_of-SwitchItem h = tt
  switch_row-stands shape (memory_stmt.more_of-SwitchItem (W.Case label) others) h = switch_row-stands _ others h
  switch_row-stands shape (memory_stmt.more_of-SwitchItem W.Default others) h = switch_row-stands _ others h
  switch_row-stands shape (memory_stmt.more_of-SwitchItem (W.Statement stmt) others) h = (h.0, switch_row-stands _ others h.1)

  pub stmt_in-block : (items : Vec memory_item.BlockItem Global) → stmt_in table (S.Block items) ≡ typed.BlockStmt (block_in table items.items)
  stmt_in-block items = ap typed.BlockStmt (block_row-items _ (hidden-the_row-BlockItem-0 items) ∙ ap (block_in table) (items_hidden-the_row-BlockItem-0 items))

  pub StmtStands-block : (items : Vec memory_item.BlockItem Global) → BlockStands table items.items → StmtStands table (S.Block items)
  StmtStands-block items h = block_row-stands _ (hidden-the_row-BlockItem-0 items) (subst (BlockStands table) (sym (items_hidden-the_row-BlockItem-0 items)) h)

  pub stmt_in-switch : (value : memory_value.Value) (items : Vec memory_switch.SwitchItem Global) → stmt_in table (S.Switch value items) ≡ typed.Switch (value_in table value) (switch_in table items.items)
  stmt_in-switch value items = ap (typed.Switch (value_in table value)) (switch_row-items _ (hidden-the_row-SwitchItem-1 items) ∙ ap (switch_in table) (items_hidden-the_row-SwitchItem-1 items))

  pub StmtStands-switch : (value : memory_value.Value) (items : Vec memory_switch.SwitchItem Global) → ValueStands table value → SwitchStands table items.items → StmtStands table (S.Switch value items)
  StmtStands-switch value items h h' = (h, switch_row-stands _ (hidden-the_row-SwitchItem-1 items) (subst (SwitchStands table) (sym (items_hidden-the_row-SwitchItem-1 items)) h'))
