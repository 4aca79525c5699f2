-- Loops over items: what is told where one item is at hand, behind it, and where none is left.
use Rattle.std.proofs.Common.{◌≡◌, ℕ, ◌+◌, ◌<◌, ◌≤◌, List, [], ◌∷◌, ◌++◌, Option, length, take, drop, get_or, sym, refl, ap, ◌∙◌, subst, arith}
use Rattle.std.proofs.lemmas.List.{drop_all}
use Rattle.c_typed.specs.declared.statement.BlockItem as memory_item
use Rattle.c_typed.specs.declared.statement.SwitchItem as memory_switch
use Rattle.c_typed.specs.StatementViews.{block_in, switch_in}
use Rattle.c_typed.specs.TypedNodes.{block_nodes, switch_nodes}
use Rattle.tac_ir.specs.declared.register.PointId.{PointId}
use Rattle.tac_build.specs.declared.builder.Builder.{Builder}
use Rattle.tac_build.specs.declared.names.Source.{Source}
use Rattle.tac_build.specs.declared.addressed.Addressed.{Addressed}
use Rattle.tac_build.specs.declared.statements.Ways as memory_ways
use Rattle.tac_build.specs.declared.switches.Label.{Label}
use Rattle.tac_build.specs.declared.homes.Home as memory_home
use Rattle.tac_build.specs.Building.{Adds}
use Rattle.tac_build.specs.Taken.{taken_block, taken_items}
use Rattle.tac_build.specs.Lowering.{names_for, types_of_source}
use Rattle.tac_build.specs.LoweringStatements.{Declares}
use Rattle.tac_build.proofs.SoFar.{BlockSoFar, ItemsSoFar}
use Rattle.tac_build.proofs.InOrder.{next_left}

item_left : {X : Type 0} (xs : List X) (here : ℕ) (x y : X) → here < length xs → x ≡ get_or xs here x → x ≡ y → drop here xs ≡ y ∷ drop (here + 1) xs
item_left xs here x y within is same = next_left xs here x within is ∙ ap (λ z. z ∷ drop (here + 1) xs) same

none_left : {X : Type 0} (xs : List X) (here : ℕ) → length xs ≤ here → drop here xs ≡ []
none_left xs here beyond = drop_all here xs beyond

take_front : {X : Type 0} (xs ys : List X) → take (length xs) (xs ++ ys) ≡ xs
take_front [] ys = refl
take_front (x ∷ xs) ys = ap (λ zs. x ∷ zs) (take_front xs ys)

-- the scope behind a block or a `for` is the one in front of it
pub scope_back : (outer scope back : List memory_home.Home) (outside : ℕ) → outside ≡ length outer → ((begun : List memory_home.Home) × (scope ≡ outer ++ begun)) → back ≡ take outside scope → back ≡ outer
scope_back outer scope back outside long begun is = is ∙ ap (λ n. take n scope) long ∙ ap (take (length outer)) begun.1 ∙ take_front outer begun.0

module _ (source : Source) (addressed : Addressed) (ways : memory_ways.Ways) (old : Builder) where
  -- ---- blocks

  pub block_at : (outer scope : List memory_home.Home) (all : List memory_item.BlockItem) (here : ℕ) (item is : memory_item.BlockItem) (now : Builder) → here < length all → item ≡ get_or all here item → item ≡ is
      → BlockSoFar source addressed outer scope ways all (drop here all) old now → BlockSoFar source addressed outer scope ways all (is ∷ drop (here + 1) all) old now
  block_at outer scope all here item is now within found same far = subst (λ left. BlockSoFar source addressed outer scope ways all left old now) (item_left all here item is within found same) far

  pub block_joined : (outer scope joined : List memory_home.Home) (all left : List memory_item.BlockItem) (now new : Builder) → new ≡ now → joined ≡ scope
      → BlockSoFar source addressed outer scope ways all left old now → BlockSoFar source addressed outer joined ways all left old new
  block_joined outer scope joined all left now new same same_scope far =
      subst (λ scope. BlockSoFar source addressed outer scope ways all left old new) (sym same_scope) (subst (BlockSoFar source addressed outer scope ways all left old) (sym same) far)

  pub block_done : (outer scope : List memory_home.Home) (all : List memory_item.BlockItem) (here : ℕ) (now : Builder) → length all ≤ here
      → BlockSoFar source addressed outer scope ways all (drop here all) old now → BlockSoFar source addressed outer scope ways all [] old now
  block_done outer scope all here now beyond far = subst (λ left. BlockSoFar source addressed outer scope ways all left old now) (none_left all here beyond) far

  pub block_adds : (outer scope : List memory_home.Home) (all : List memory_item.BlockItem) (now : Builder) → BlockSoFar source addressed outer scope ways all [] old now → Adds old now (names_for (block_nodes (block_in (types_of_source source) all)))
  block_adds outer scope all now far =
      let names = far.names in
      omega (arith, names)

  pub block_declares : (outer scope : List memory_home.Home) (all : List memory_item.BlockItem) (now : Builder) → BlockSoFar source addressed outer scope ways all [] old now
      → Declares old now (taken_block (length outer) (block_in (types_of_source source) all))
  block_declares outer scope all now far =
      let variables = far.variables in
      omega (arith, variables)

  -- ---- items of a `switch`

  pub items_at : (scope : List memory_home.Home) (all : List memory_switch.SwitchItem) (here : ℕ) (item is : memory_switch.SwitchItem) (cases : List Label) (default : Option PointId) (now : Builder) → here < length all → item ≡ get_or all here item → item ≡ is
      → ItemsSoFar source addressed scope ways all (drop here all) cases default old now → ItemsSoFar source addressed scope ways all (is ∷ drop (here + 1) all) cases default old now
  items_at scope all here item is cases default now within found same far = subst (λ left. ItemsSoFar source addressed scope ways all left cases default old now) (item_left all here item is within found same) far

  pub items_joined : (scope : List memory_home.Home) (all left : List memory_switch.SwitchItem) (cases joined : List Label) (default later : Option PointId) (now new : Builder) → new ≡ now → joined ≡ cases → later ≡ default
      → ItemsSoFar source addressed scope ways all left cases default old now → ItemsSoFar source addressed scope ways all left joined later old new
  items_joined scope all left cases joined default later now new same same_cases same_default far =
      subst (λ default. ItemsSoFar source addressed scope ways all left joined default old new) (sym same_default)
      (subst (λ cases. ItemsSoFar source addressed scope ways all left cases default old new) (sym same_cases) (subst (ItemsSoFar source addressed scope ways all left cases default old) (sym same) far))

  pub items_done : (scope : List memory_home.Home) (all : List memory_switch.SwitchItem) (here : ℕ) (cases : List Label) (default : Option PointId) (now : Builder) → length all ≤ here
      → ItemsSoFar source addressed scope ways all (drop here all) cases default old now → ItemsSoFar source addressed scope ways all [] cases default old now
  items_done scope all here cases default now beyond far = subst (λ left. ItemsSoFar source addressed scope ways all left cases default old now) (none_left all here beyond) far

  pub items_add : (scope : List memory_home.Home) (all : List memory_switch.SwitchItem) (cases : List Label) (default : Option PointId) (now : Builder) → ItemsSoFar source addressed scope ways all [] cases default old now
      → Adds old now (names_for (switch_nodes (switch_in (types_of_source source) all)))
  items_add scope all cases default now far =
      let names = far.names in
      omega (arith, names)

  pub items_declare : (scope : List memory_home.Home) (all : List memory_switch.SwitchItem) (cases : List Label) (default : Option PointId) (now : Builder) → ItemsSoFar source addressed scope ways all [] cases default old now
      → Declares old now (taken_items (length scope) (switch_in (types_of_source source) all))
  items_declare scope all cases default now far =
      let variables = far.variables in
      omega (arith, variables)
