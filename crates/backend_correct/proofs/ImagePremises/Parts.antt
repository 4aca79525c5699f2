-- The parts of forms that are made of points: what they weigh.
use Rattle.std.proofs.Common.{◌≡◌, ℕ, suc, ◌+◌, ◌*◌, ◌≤◌, ◌<◌, Bool, true, false, List, [], ◌∷◌, ◌++◌, length, pos, sym, ap, subst, arith}
use Rattle.c_num.specs.declared.IntType.TheVariants as I
use Rattle.c_typed.specs.Types.{CType, Void, Integer, Pointer, Array, Struct, Function}
use Rattle.tac_ir.specs.declared.register.Local.{Local}
use Rattle.tac_ir.specs.declared.register.Register.{Register}
use Rattle.tac_ir.specs.declared.register.Register.TheVariants as R
use Rattle.tac_ir.specs.Code.{Tree, Constant, Held, Path, Step, Element, Indexed, Callee, Known, Through, IntegerOperand, PointerOperand, Op}
use Rattle.tac_ir.specs.Code as O
use Rattle.tac_build.specs.Homes.{Home}
use Rattle.tac_build.specs.Spots.{Spot, behind, with_temporary, temporary, Lowered, AsInteger, AsPointer, AsObject, AsNothing, Mode, Kept, Dropped, Behind, Row}
use Rattle.tac_build.specs.Code.{path_from, then_step, KeepsTree, ReadsLocal, Loads, Writes, Stores, Joins, JoinsWith, Decays, TakesAddress, Addresses, MovesPointer, StepsLocal, StepsObject, Indexes}
use Rattle.backend_correct.specs.Weights.{tree_weight, step_weight, steps_weight, path_weight, lowered_weight}
use Rattle.backend_correct.specs.Naming.{CalleeThere}
use Rattle.backend_correct.proofs.ImagePremises.Leading.{Leading, Leads, leads_then, loosened, stays, point, emits, Gives, gives, gives_integer, gives_pointer}

-- ---- steps

steps_then : (steps : List Step) (step : Step) → steps_weight (steps ++ step ∷ []) ≡ steps_weight steps + step_weight step
steps_then [] step = omega arith
steps_then (first ∷ others) step = let rest = steps_then others step in omega (arith, rest)

pub path_then : (path : Path) (step : Step) → path_weight (then_step path step) ≡ path_weight path + step_weight step
path_then path step = let rest = steps_then path.steps step in omega (arith, rest)

module _ (functions : ℕ) (points : List Op) where
  abbrev Low : Spot → Type 0
  Low to = to.at < length points

  -- nothing is done, and what there was is what there is
  pub stays_gives : (given : Lowered) (from to : Spot) (lowered : Lowered) → (to ≡ from) × (lowered ≡ given) → Gives functions points (2 * lowered_weight given) from to lowered
  stays_gives given from to lowered code =
      gives functions points given lowered from.at to.at (2 * lowered_weight given) code.1 (loosened functions points (2 * lowered_weight given) (2 * lowered_weight given) (omega arith) (stays functions points (Low to) code.0))

  -- it may weigh more
  pub within : {less from to : ℕ} {known : Type 0} (most : ℕ) {budget : ℕ} → budget ≤ most → Leading functions points budget less from to known → Leading functions points most less from to known
  within {less} most low one = loosened functions points most less (omega (arith, low)) one

  pub keeps_gives : (follows : Bool) (tree kept : Tree) (from to : Spot) → KeepsTree points follows tree from to kept → Gives functions points (2 * tree_weight tree + 14) from to (AsInteger I.Int kept)
  keeps_gives false tree kept from to code =
      within (2 * tree_weight tree + 14) (omega arith) (stays_gives (AsInteger I.Int tree) from to (AsInteger I.Int kept) (code.0, ap (AsInteger I.Int) code.1))
  keeps_gives true tree kept from to code =
      within (2 * tree_weight tree + 14) (omega arith) (gives_integer functions points from to (AsInteger I.Int kept) (λ register. O.Assign register tree) I.Int (code.0, code.1, ap (AsInteger I.Int) code.2) tt)

  pub reads_gives : (local : Local) (is_object : Bool) (own : CType) (from to : Spot) (lowered : Lowered) → ReadsLocal points (record { local = local; is_object = is_object; c_type = own }) from to lowered
      → Gives functions points 14 from to lowered
  reads_gives local is_object (Integer int_type) from to lowered code = within 14 (omega arith) (stays_gives (AsInteger int_type (Held (R.Local local))) from to lowered code)
  reads_gives local is_object (Pointer target) from to lowered code = gives_pointer functions points from to lowered (λ register. O.Copy register (R.Local local)) target code tt
  reads_gives local is_object Void from to lowered code = absurd code
  reads_gives local is_object (Array element count) from to lowered code = absurd code
  reads_gives local is_object (Struct tag) from to lowered code = absurd code
  reads_gives local is_object (Function result parameters) from to lowered code = absurd code

  pub loads_gives : (own : CType) (path : Path) (from to : Spot) (lowered : Lowered) → Loads points own path from to lowered → Gives functions points (path_weight path + 14) from to lowered
  loads_gives (Integer int_type) path from to lowered code =
      within (path_weight path + 14) (omega arith) (gives_integer functions points from to lowered (λ register. O.Load register (Integer int_type) path) int_type code tt)
  loads_gives (Pointer target) path from to lowered code =
      within (path_weight path + 14) (omega arith) (gives_pointer functions points from to lowered (λ register. O.Load register (Pointer target) path) target code tt)
  loads_gives Void path from to lowered code = absurd code
  loads_gives (Array element count) path from to lowered code = absurd code
  loads_gives (Struct tag) path from to lowered code = absurd code
  loads_gives (Function result parameters) path from to lowered code = absurd code

  pub writes_leads : (known : Type 0) (register : Register) (given : Lowered) (from to : Spot) → Writes points register given from to
      → Leading functions points (lowered_weight given + 10) 0 from.at to.at known
  writes_leads known register (AsInteger own tree) from to code = emits functions points known from to (O.Assign register tree) code (λ k. tt)
  writes_leads known register (AsPointer pointer target) from to code = within 12 (omega arith) (emits functions points known from to (O.Copy register pointer) code (λ k. tt))
  writes_leads known register (AsObject path own) from to code = absurd code
  writes_leads known register AsNothing from to code = absurd code

  pub stores_gives : (used : Bool) (given : Lowered) (path : Path) (own : CType) (from to : Spot) (lowered : Lowered) → Stores points used path own given from to lowered
      → Gives functions points (lowered_weight given + path_weight path + 26) from to lowered
  stores_gives true (AsInteger int_type tree) path own from to lowered code =
      let kept = point functions points (suc from.at < length points) from.at (O.Assign (temporary from) tree) code.0 (λ low. tt) in
      let stored = emits functions points (Low to) (behind (with_temporary from)) to (O.Store path own (IntegerOperand (Held (temporary from)))) code.1 (λ low. tt) in
      gives functions points (AsInteger int_type (Held (temporary from))) lowered from.at to.at (tree_weight tree + path_weight path + 26) code.2
      (loosened functions points (tree_weight tree + path_weight path + 26) 4 (omega arith) (leads_then functions points kept stored))
  stores_gives false (AsInteger int_type tree) path own from to lowered code =
      gives functions points AsNothing lowered from.at to.at (tree_weight tree + path_weight path + 26) code.1
      (within (tree_weight tree + path_weight path + 26) (omega arith) (emits functions points (Low to) from to (O.Store path own (IntegerOperand tree)) code.0 (λ low. tt)))
  stores_gives true (AsPointer pointer target) path own from to lowered code =
      gives functions points (AsPointer pointer target) lowered from.at to.at (2 + path_weight path + 26) code.1
      (loosened functions points (2 + path_weight path + 26) 4 (omega arith) (emits functions points (Low to) from to (O.Store path own (PointerOperand pointer)) code.0 (λ low. tt)))
  stores_gives false (AsPointer pointer target) path own from to lowered code =
      gives functions points (AsPointer pointer target) lowered from.at to.at (2 + path_weight path + 26) code.1
      (loosened functions points (2 + path_weight path + 26) 4 (omega arith) (emits functions points (Low to) from to (O.Store path own (PointerOperand pointer)) code.0 (λ low. tt)))
  stores_gives true (AsObject p c) path own from to lowered code = absurd code
  stores_gives false (AsObject p c) path own from to lowered code = absurd code
  stores_gives true AsNothing path own from to lowered code = absurd code
  stores_gives false AsNothing path own from to lowered code = absurd code

  pub joins_gives : (one : Lowered) (from to : Spot) (lowered : Lowered) → Joins points one from to lowered → Gives functions points (lowered_weight one + 14) from to lowered
  joins_gives (AsInteger own tree) from to lowered code = within (tree_weight tree + 14) (omega arith) (gives_integer functions points from to lowered (λ register. O.Assign register tree) own code tt)
  joins_gives (AsPointer pointer target) from to lowered code = within 16 (omega arith) (gives_pointer functions points from to lowered (λ register. O.Copy register pointer) target code tt)
  joins_gives (AsObject path own) from to lowered code = absurd code
  joins_gives AsNothing from to lowered code = within 14 (omega arith) (stays_gives AsNothing from to lowered code)

  pub joins_with_leads : (joined other : Lowered) (from to : Spot) → JoinsWith points joined other from to → Leads functions points (lowered_weight other + 10) 0 from.at to.at
  joins_with_leads (AsInteger own (Held register)) (AsInteger int_type tree) from to code = emits functions points (Low to) from to (O.Assign register tree) code (λ low. tt)
  joins_with_leads (AsPointer register target) (AsPointer pointer other) from to code = within 12 (omega arith) (emits functions points (Low to) from to (O.Copy register pointer) code (λ low. tt))
  joins_with_leads AsNothing AsNothing from to code = within 10 (omega arith) (stays functions points (Low to) code)
  joins_with_leads joined other from to code = absurd code

  -- ---- arrays and addresses

  abbrev first_element : Path → Path
  first_element path = then_step path (Element (Constant (pos 0)))

  element_gives : (path : Path) (element : CType) (from to : Spot) (lowered : Lowered) → Decays points Kept path element 0 from to lowered → Gives functions points (2 * path_weight path + 18) from to lowered
  element_gives path element from to lowered code =
      let more = path_then path (Element (Constant (pos 0))) in
      within (2 * path_weight path + 18) (omega (arith, more)) (gives_pointer functions points from to lowered (λ register. O.AddressOf register (first_element path)) element code tt)

  pub decays_gives : (mode : Mode) (path : Path) (element : CType) (count : ℕ) (from to : Spot) (lowered : Lowered) → Decays points mode path element count from to lowered
      → Gives functions points (2 * path_weight path + 18) from to lowered
  decays_gives Kept path element count from to lowered code = element_gives path element from to lowered code
  decays_gives Dropped path element count from to lowered code = element_gives path element from to lowered code
  decays_gives (Behind followed) path element count from to lowered code =
      let more = path_then path (Element (Constant (pos 0))) in
      within (2 * path_weight path + 18) (omega (arith, more)) (stays_gives (AsObject (first_element path) element) from to lowered code)
  decays_gives (Row followed) path element count from to lowered code = within (2 * path_weight path + 18) (omega arith) (stays_gives (AsObject path (Array element count)) from to lowered code)

  same_gives : (given : Lowered) (from to : Spot) (lowered : Lowered) → (to ≡ from) × (lowered ≡ given) → Gives functions points (2 * lowered_weight given + 14) from to lowered
  same_gives given from to lowered code = within (2 * lowered_weight given + 14) (omega arith) (stays_gives given from to lowered code)

  address_gives : (path : Path) (own : CType) (from to : Spot) (lowered : Lowered) → TakesAddress points Kept (AsObject path own) from to lowered → Gives functions points (2 * path_weight path + 14) from to lowered
  address_gives path own from to lowered code =
      within (2 * path_weight path + 14) (omega arith) (gives_pointer functions points from to lowered (λ register. O.AddressOf register path) own code tt)

  pub takes_gives : (mode : Mode) (found : Lowered) (from to : Spot) (lowered : Lowered) → TakesAddress points mode found from to lowered → Gives functions points (2 * lowered_weight found + 14) from to lowered
  takes_gives (Behind followed) found from to lowered code = same_gives found from to lowered code
  takes_gives Kept (AsObject path own) from to lowered code = address_gives path own from to lowered code
  takes_gives Dropped (AsObject path own) from to lowered code = address_gives path own from to lowered code
  takes_gives (Row followed) (AsObject path own) from to lowered code = address_gives path own from to lowered code
  takes_gives Kept (AsPointer pointer target) from to lowered code = same_gives (AsPointer pointer target) from to lowered code
  takes_gives Dropped (AsPointer pointer target) from to lowered code = same_gives (AsPointer pointer target) from to lowered code
  takes_gives (Row followed) (AsPointer pointer target) from to lowered code = same_gives (AsPointer pointer target) from to lowered code
  takes_gives Kept (AsInteger own tree) from to lowered code = same_gives (AsInteger own tree) from to lowered code
  takes_gives Dropped (AsInteger own tree) from to lowered code = same_gives (AsInteger own tree) from to lowered code
  takes_gives (Row followed) (AsInteger own tree) from to lowered code = same_gives (AsInteger own tree) from to lowered code
  takes_gives Kept AsNothing from to lowered code = same_gives AsNothing from to lowered code
  takes_gives Dropped AsNothing from to lowered code = same_gives AsNothing from to lowered code
  takes_gives (Row followed) AsNothing from to lowered code = same_gives AsNothing from to lowered code

  pub addresses_gives : (callee : Callee) (own : CType) (from to : Spot) (lowered : Lowered) → CalleeThere functions callee → Addresses points callee own from to lowered → Gives functions points 14 from to lowered
  addresses_gives (Known number) own from to lowered there code = gives_pointer functions points from to lowered (λ register. O.FunctionAddress register number) own code there
  addresses_gives (Through pointer c_type) own from to lowered there code = within 14 (omega arith) (stays_gives (AsPointer pointer c_type) from to lowered code)

  -- ---- pointers that move

  pub moves_gives : (pointer : Register) (target : CType) (is_minus : Bool) (number : Tree) (from to : Spot) (lowered : Lowered) → MovesPointer points pointer target is_minus number from to lowered
      → Gives functions points (tree_weight number + 14) from to lowered
  moves_gives pointer target is_minus number from to lowered code =
      within (tree_weight number + 14) (omega arith) (gives_pointer functions points from to lowered (λ register. O.Move register pointer target is_minus number) target code tt)

  pub indexes_gives : (is_kept follows : Bool) (found : Lowered) (index : Tree) (from to : Spot) (lowered : Lowered) → Indexes points is_kept follows found index from to lowered
      → Gives functions points (2 * lowered_weight found + 2 * tree_weight index + 20) from to lowered
  indexes_gives is_kept follows (AsObject path (Array element count)) index from to lowered code =
      let more = path_then path (Element code.0) in
      gives functions points (AsObject (then_step path (Element code.0)) element) lowered from.at to.at (2 * path_weight path + 2 * tree_weight index + 20) code.2
      (loosened functions points (2 * path_weight path + 2 * tree_weight index + 20) (2 * path_weight (then_step path (Element code.0))) (omega (arith, more)) (keeps_gives follows index code.0 from to code.1))
  indexes_gives false follows (AsPointer register target) index from to lowered code =
      gives functions points (AsObject (path_from (Indexed register target code.0)) target) lowered from.at to.at (4 + 2 * tree_weight index + 20) code.2
      (loosened functions points (4 + 2 * tree_weight index + 20) (2 * path_weight (path_from (Indexed register target code.0))) (omega arith) (keeps_gives follows index code.0 from to code.1))
  indexes_gives true follows (AsPointer register target) index from to lowered code =
      within (4 + 2 * tree_weight index + 20) (omega arith) (moves_gives register target false index from to lowered code)
  indexes_gives is_kept follows (AsObject path Void) index from to lowered code = absurd code
  indexes_gives is_kept follows (AsObject path (Integer int_type)) index from to lowered code = absurd code
  indexes_gives is_kept follows (AsObject path (Pointer target)) index from to lowered code = absurd code
  indexes_gives is_kept follows (AsObject path (Struct tag)) index from to lowered code = absurd code
  indexes_gives is_kept follows (AsObject path (Function result parameters)) index from to lowered code = absurd code
  indexes_gives is_kept follows (AsInteger int_type tree) index from to lowered code = absurd code
  indexes_gives is_kept follows AsNothing index from to lowered code = absurd code

  -- an old value and a new one, each of which may be what the code comes to
  pub record GivesBoth (budget : ℕ) (from to : Spot) (old new : Lowered) : Type 0 where
    pub leads : Leads functions points budget 0 from.at to.at
    pub old_weight : lowered_weight old ≤ 2
    pub new_weight : lowered_weight new ≤ 2

  pointer_weight : (lowered : Lowered) (register : Register) (target : CType) → lowered ≡ AsPointer register target → lowered_weight lowered ≤ 2
  pointer_weight lowered register target is = subst (λ (one : Lowered). lowered_weight one ≤ 2) (sym is) (omega arith)

  pub steps_give : (home : Home) (is_minus : Bool) (number : Tree) (from to : Spot) (old new : Lowered) → StepsLocal points home is_minus number from to old new
      → GivesBoth (tree_weight number + 60) from to old new
  steps_give home is_minus number from to old new code =
      let read = reads_gives home.local home.is_object home.c_type from code.0 old code.4 in
      let moved = moves_gives code.2 code.3 is_minus number code.0 code.1 new code.6 in
      let written = writes_leads (Low to) (R.Local home.local) new code.1 to code.7 in
      record {
        leads = loosened functions points (tree_weight number + 60) 0 (omega arith) (leads_then functions points read (leads_then functions points moved written));
        old_weight = pointer_weight old code.2 code.3 code.5;
        new_weight = pointer_weight new _ code.3 code.6.2;
      }

  pub steps_object_give : (path : Path) (own : CType) (is_minus : Bool) (number : Tree) (from to : Spot) (old new : Lowered) → StepsObject points path own is_minus number from to old new
      → GivesBoth (2 * path_weight path + tree_weight number + 60) from to old new
  steps_object_give path own is_minus number from to old new code =
      let read = loads_gives own path from code.0 old code.4 in
      let moved = moves_gives code.2 code.3 is_minus number code.0 code.1 new code.6 in
      let stored = stores_gives false new path own code.1 to new code.7 in
      record {
        leads = loosened functions points (2 * path_weight path + tree_weight number + 60) 0 (omega arith) (leads_then functions points read (leads_then functions points moved stored));
        old_weight = pointer_weight old code.2 code.3 code.5;
        new_weight = pointer_weight new _ code.3 code.6.2;
      }
