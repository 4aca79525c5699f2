-- What stands at a number, among arguments, items and locals.
use Rattle.std.proofs.Common.{◌≡◌, ℕ, zero, suc, ◌<◌, ◌≤◌, ◌^◌, List, [], ◌∷◌, length, map, drop, slice_get, Vec, Global, Option, Some, None, Bor, refl, sym, ap, subst, ◌∙◌, arith}
use Rattle.std.proofs.lemmas.Option.{slice_get_read, none-some, same_Some}
use Rattle.std.specs.Slice.{IsItemAt}
use Rattle.c_typed.specs.Typed as T
use Rattle.c_typed.specs.Typed.{SwitchItems}
use Rattle.c_typed.specs.Table.{Interned}
use Rattle.c_typed.specs.Views.{value_in, values_in}
use Rattle.c_typed.specs.StatementViews.{stmt_in, local_in, block_in, switch_in}
use Rattle.ref_meaning.specs.Trees.{ValueFits, ValuesFit, StmtFits, LocalFits, LocalsFit, BlockFits, SwitchFits}
use Rattle.c_typed.specs.declared.typed.Value as memory_value
use Rattle.c_typed.specs.declared.statement.LocalDef as memory_local
use Rattle.c_typed.specs.declared.statement.Stmt as memory_stmt
use Rattle.c_typed.specs.declared.statement.Stmt.TheVariants as S
use Rattle.c_typed.specs.declared.statement.BlockItem as memory_item
use Rattle.c_typed.specs.declared.statement.BlockItem.TheVariants as B
use Rattle.c_typed.specs.declared.statement.SwitchItem as memory_switch
use Rattle.c_typed.specs.declared.statement.SwitchItem.TheVariants as W
use Rattle.ref_meaning.proofs.TreeRows.{block-items, switch-items}
use Rattle.c_typed.proofs.StatementsStay.{stmt_in-block, stmt_in-switch}
use Rattle.ref_semantics.specs.Parts.{StmtPart}
use Rattle.ref_meaning.specs.Views.{arguments_from, items_from, case_items_from, case_items_of}
use Rattle.ref_meaning.specs.Items.{block_of, ThisItem, ThisCaseItem, ItemIs, CaseItemIs, StartLocalIs}

-- ---- what is found in a slice

module _ {X : Type 0} (xs : List X) (number : ℕ) where
  pub found-there : (x : Bor X) → IsItemAt xs number (Some x) → slice_get xs number ≡ Some x.now
  found-there x h = slice_get_read xs (length xs) number x.now refl h.3.0 h.1

  pub found-within : (x : Bor X) → IsItemAt xs number (Some x) → number < length xs
  found-within x h = h.3.0

  pub found-past : IsItemAt xs number None → length xs ≤ number
  found-past h = h.3

-- ---- arguments

module _ (table : Interned) where
  pub argument-there : (vs : List memory_value.Value) (number : ℕ) (v : memory_value.Value) → slice_get vs number ≡ Some v
      → arguments_from number (values_in table vs) ≡ T.MoreValues (value_in table v) (arguments_from (suc number) (values_in table vs))
  argument-there [] number v h = absurd (none-some v h)
  argument-there (first ∷ others) zero v h = ap (λ x. T.MoreValues (value_in table x) (values_in table others)) (same_Some first v h)
  argument-there (first ∷ others) (suc number) v h = argument-there others number v h

  pub argument-stands : (vs : List memory_value.Value) (number : ℕ) (v : memory_value.Value) → slice_get vs number ≡ Some v → ValuesFit table vs → ValueFits table v
  argument-stands [] number v h stands = absurd (none-some v h)
  argument-stands (first ∷ others) zero v h stands = subst (ValueFits table) (same_Some first v h) stands.0
  argument-stands (first ∷ others) (suc number) v h stands = argument-stands others number v h stands.1

  pub argument-past : (vs : List memory_value.Value) (number : ℕ) → length vs ≤ number → arguments_from number (values_in table vs) ≡ T.NoValues
  argument-past [] zero h = refl
  argument-past [] (suc number) h = refl
  argument-past (first ∷ others) zero h = absurd (omega (arith, h))
  argument-past (first ∷ others) (suc number) h = argument-past others number (omega (arith, h))

  -- ---- items of a block

  item-first : (first : memory_item.BlockItem) (others : List memory_item.BlockItem) → BlockFits table (first ∷ others) → ThisItem table zero (block_in table (first ∷ others)) first
  item-first (B.Local local) others stands = (refl, stands.0)
  item-first (B.Statement stmt) others stands = (refl, stands.0)

  pub item-there : (items : List memory_item.BlockItem) (number : ℕ) (item : memory_item.BlockItem) → slice_get items number ≡ Some item → BlockFits table items
      → ThisItem table number (block_in table items) item
  item-there [] number item h stands = absurd (none-some item h)
  item-there (first ∷ others) zero item h stands = subst (λ x. ThisItem table zero (block_in table (first ∷ others)) x) (same_Some first item h) (item-first first others stands)
  item-there (B.Local l ∷ others) (suc number) (B.Local local) h stands = item-there others number (B.Local local) h stands.1
  item-there (B.Local l ∷ others) (suc number) (B.Statement stmt) h stands = item-there others number (B.Statement stmt) h stands.1
  item-there (B.Statement s ∷ others) (suc number) (B.Local local) h stands = item-there others number (B.Local local) h stands.1
  item-there (B.Statement s ∷ others) (suc number) (B.Statement stmt) h stands = item-there others number (B.Statement stmt) h stands.1

  pub item-past : (items : List memory_item.BlockItem) (number : ℕ) → length items ≤ number → items_from number (block_in table items) ≡ T.Close
  item-past [] zero h = refl
  item-past [] (suc number) h = refl
  item-past (first ∷ others) zero h = absurd (omega (arith, h))
  item-past (B.Local local ∷ others) (suc number) h = item-past others number (omega (arith, h))
  item-past (B.Statement stmt ∷ others) (suc number) h = item-past others number (omega (arith, h))

  -- those of a function's body
  pub item-found : (items xs : List memory_item.BlockItem) (number : ℕ) (r : Option (Bor memory_item.BlockItem)) → xs ≡ items → IsItemAt xs number r → length xs < 2 ^ 64 → BlockFits table items
      → ItemIs table number (block_in table items) r
  item-found items xs number None same h small stands = item-past items number (subst (λ ys. length ys ≤ number) same (found-past xs number h))
  item-found items xs number (Some item) same h small stands =
      (item-there items number item.now (subst (λ ys. slice_get ys number ≡ Some item.now) same (found-there xs number item h)) stands, omega (arith, found-within xs number item h, small))

  -- those of a block in memory
  pub block-found : (s : memory_stmt.Stmt) (items : Vec memory_item.BlockItem Global) (xs : List memory_item.BlockItem) (number : ℕ) (r : Option (Bor memory_item.BlockItem)) → s ≡ S.Block items
      → xs ≡ items.items → IsItemAt xs number r → length xs < 2 ^ 64 → StmtFits table s → ItemIs table number (block_of (StmtPart (stmt_in table s))) r
  block-found s items xs number r is same h small stands =
      subst (λ x. ItemIs table number (block_of (StmtPart x)) r) (sym (ap (stmt_in table) is ∙ stmt_in-block table items))
      (item-found items.items xs number r same h small (block-items table items (subst (StmtFits table) is stands)))

  -- ---- items of a `switch`

  case-first : (first : memory_switch.SwitchItem) (others : List memory_switch.SwitchItem) → SwitchFits table (first ∷ others) → ThisCaseItem table zero (switch_in table (first ∷ others)) first
  case-first (W.Case label) others stands = refl
  case-first W.Default others stands = refl
  case-first (W.Statement stmt) others stands = (refl, stands.0)

  rest-stands : (first : memory_switch.SwitchItem) (others : List memory_switch.SwitchItem) → SwitchFits table (first ∷ others) → SwitchFits table others
  rest-stands (W.Case label) others stands = stands
  rest-stands W.Default others stands = stands
  rest-stands (W.Statement stmt) others stands = stands.1

  rest-from : (first : memory_switch.SwitchItem) (others : List memory_switch.SwitchItem) (number : ℕ) → case_items_from (suc number) (switch_in table (first ∷ others)) ≡ case_items_from number (switch_in table others)
  rest-from (W.Case label) others number = refl
  rest-from W.Default others number = refl
  rest-from (W.Statement stmt) others number = refl

  case-behind : (item : memory_switch.SwitchItem) (number n : ℕ) (items xs : SwitchItems) → case_items_from n xs ≡ case_items_from number items → case_items_from (suc n) xs ≡ case_items_from (suc number) items
      → ThisCaseItem table number items item → ThisCaseItem table n xs item
  case-behind (W.Case label) number n items xs one two h = one ∙ (h ∙ ap (T.Case label) (sym two))
  case-behind W.Default number n items xs one two h = one ∙ (h ∙ ap T.Default (sym two))
  case-behind (W.Statement stmt) number n items xs one two h = (one ∙ (h.0 ∙ ap (T.SwitchStmt (stmt_in table stmt)) (sym two)), h.1)

  pub case-there : (items : List memory_switch.SwitchItem) (number : ℕ) (item : memory_switch.SwitchItem) → slice_get items number ≡ Some item → SwitchFits table items
      → ThisCaseItem table number (switch_in table items) item
  case-there [] number item h stands = absurd (none-some item h)
  case-there (first ∷ others) zero item h stands = subst (λ x. ThisCaseItem table zero (switch_in table (first ∷ others)) x) (same_Some first item h) (case-first first others stands)
  case-there (first ∷ others) (suc number) item h stands =
      case-behind item number (suc number) (switch_in table others) (switch_in table (first ∷ others)) (rest-from first others number) (rest-from first others (suc number))
      (case-there others number item h (rest-stands first others stands))

  pub case-past : (items : List memory_switch.SwitchItem) (number : ℕ) → length items ≤ number → case_items_from number (switch_in table items) ≡ T.SwitchEnd
  case-past [] zero h = refl
  case-past [] (suc number) h = refl
  case-past (first ∷ others) zero h = absurd (omega (arith, h))
  case-past (first ∷ others) (suc number) h = rest-from first others number ∙ case-past others number (omega (arith, h))

  pub cases-found : (items xs : List memory_switch.SwitchItem) (number : ℕ) (r : Option (Bor memory_switch.SwitchItem)) → xs ≡ items → IsItemAt xs number r → length xs < 2 ^ 64 → SwitchFits table items
      → CaseItemIs table number (switch_in table items) r
  cases-found items xs number None same h small stands = case-past items number (subst (λ ys. length ys ≤ number) same (found-past xs number h))
  cases-found items xs number (Some item) same h small stands =
      (case-there items number item.now (subst (λ ys. slice_get ys number ≡ Some item.now) same (found-there xs number item h)) stands, omega (arith, found-within xs number item h, small))

  -- those of a `switch` in memory
  pub switch-found : (s : memory_stmt.Stmt) (value : memory_value.Value) (items : Vec memory_switch.SwitchItem Global) (xs : List memory_switch.SwitchItem) (number : ℕ) (r : Option (Bor memory_switch.SwitchItem))
      → s ≡ S.Switch value items → xs ≡ items.items → IsItemAt xs number r → length xs < 2 ^ 64 → StmtFits table s → CaseItemIs table number (case_items_of (stmt_in table s)) r
  switch-found s value items xs number r is same h small stands =
      subst (λ x. CaseItemIs table number (case_items_of x) r) (sym (ap (stmt_in table) is ∙ stmt_in-switch table value items))
      (cases-found items.items xs number r same h small (switch-items table value items (subst (StmtFits table) is stands)))

  -- ---- locals of a `for`

  pub local-there : (locals : List memory_local.LocalDef) (number : ℕ) (local : memory_local.LocalDef) → slice_get locals number ≡ Some local
      → drop number (map (local_in table) locals) ≡ local_in table local ∷ drop (suc number) (map (local_in table) locals)
  local-there [] number local h = absurd (none-some local h)
  local-there (first ∷ others) zero local h = ap (λ x. local_in table x ∷ map (local_in table) others) (same_Some first local h)
  local-there (first ∷ others) (suc number) local h = local-there others number local h

  pub local-stands : (locals : List memory_local.LocalDef) (number : ℕ) (local : memory_local.LocalDef) → slice_get locals number ≡ Some local → LocalsFit table locals → LocalFits table local
  local-stands [] number local h stands = absurd (none-some local h)
  local-stands (first ∷ others) zero local h stands = subst (LocalFits table) (same_Some first local h) stands.0
  local-stands (first ∷ others) (suc number) local h stands = local-stands others number local h stands.1

  pub local-past : (locals : List memory_local.LocalDef) (number : ℕ) → length locals ≤ number → drop number (map (local_in table) locals) ≡ []
  local-past [] zero h = refl
  local-past [] (suc number) h = refl
  local-past (first ∷ others) zero h = absurd (omega (arith, h))
  local-past (first ∷ others) (suc number) h = local-past others number (omega (arith, h))

  pub local-found : (locals xs : List memory_local.LocalDef) (number : ℕ) (r : Option (Bor memory_local.LocalDef)) → xs ≡ locals → IsItemAt xs number r → length xs < 2 ^ 64 → LocalsFit table locals
      → StartLocalIs table number (map (local_in table) locals) r
  local-found locals xs number None same h small stands = local-past locals number (subst (λ ys. length ys ≤ number) same (found-past xs number h))
  local-found locals xs number (Some local) same h small stands =
      let there = subst (λ ys. slice_get ys number ≡ Some local.now) same (found-there xs number local h) in
      (local-there locals number local.now there, local-stands locals number local.now there stands, omega (arith, found-within xs number local h, small))
