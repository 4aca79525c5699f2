-- The parts of forms that are made of points need few operands.
use Rattle.std.proofs.Common.{◌≡◌, ℕ, suc, ◌≤◌, Bool, true, false, ◌&&◌, not, List, [], ◌∷◌, ◌++◌, Option, Some, None, pos, ap, arith}
use Rattle.std.specs.Prelude.{if◌then◌else◌}
use Rattle.c_num.specs.declared.IntType.{IntType}
use Rattle.c_num.specs.declared.IntType.TheVariants as I
use Rattle.c_typed.specs.declared.typed.Stepping.{Stepping}
use Rattle.c_typed.specs.declared.typed.Stepping.TheVariants as Steppings
use Rattle.c_typed.specs.Types.{CType, Void, Integer, Pointer, Array, Struct, Function}
use Rattle.tac_ir.specs.declared.register.Local.{Local}
use Rattle.tac_ir.specs.declared.register.Register.{Register}
use Rattle.tac_ir.specs.declared.register.Register.TheVariants as R
use Rattle.tac_ir.specs.Code.{Tree, Constant, Held, Path, Step, Element, Indexed, Callee, Known, Through, IntegerOperand, PointerOperand, Op}
use Rattle.tac_ir.specs.Code as O
use Rattle.tac_build.specs.Homes.{Home}
use Rattle.tac_build.specs.Spots.{Spot, behind, with_temporary, temporary, Lowered, AsInteger, AsPointer, AsObject, AsNothing, Mode, Kept, Dropped, Behind, Row}
use Rattle.tac_build.specs.Code.{PartCode, path_from, then_step, truth_tree, gives_old, step_tree, HasOp, Emits, KeepsTree, ReadsLocal, Loads, Writes, WritesLocal, Stores, Joins, JoinsWith, Decays, TakesAddress, Addresses, MovesPointer, StepsLocal, StepsObject, Indexes, ReadCode, MovedCode, AssignCode, CompoundCode, PointerCode, SteppingCode, LogicalCode}
use Rattle.stack_code.specs.Emitting.{tree_height}
use Rattle.backend_correct.specs.Operands.{greatest_operands, step_operands, steps_operands, path_operands, lowered_operands}
use Rattle.backend_correct.proofs.LoweredHeights.Leading.{Leads, Gives, Part, leads_then, stays, point, emits, gives, then_gives, gives_integer, gives_pointer}

-- how a local in a register steps, and whether its old value is kept
abbrev StepsHome : List Op → Bool → Stepping → IntType → Home → Spot → Spot → Lowered → Type 0
StepsHome points false stepping own home from to lowered = Emits points (O.Assign (R.Local home.local) (step_tree stepping own (R.Local home.local))) from to × (lowered ≡ AsInteger own (Held (R.Local home.local)))
StepsHome points true stepping own home from to lowered =
    HasOp points from.at (O.Assign (temporary from) (Held (R.Local home.local)))
    × Emits points (O.Assign (R.Local home.local) (step_tree stepping own (R.Local home.local))) (behind (with_temporary from)) to × (lowered ≡ AsInteger own (Held (temporary from)))

steps_then : (most : ℕ) (steps : List Step) (step : Step) → steps_operands steps ≤ most → step_operands step ≤ most → steps_operands (steps ++ step ∷ []) ≤ most
steps_then most [] step few own = omega (arith, own)
steps_then most (first ∷ others) step few own = let rest = steps_then most others step (omega (arith, few)) own in omega (arith, few, rest)

pub path_then : (most : ℕ) (path : Path) (step : Step) → path_operands path ≤ most → step_operands step ≤ most → path_operands (then_step path step) ≤ most
path_then most path step few own = let rest = steps_then most path.steps step (omega (arith, few)) own in omega (arith, few, rest)

module _ (points : List Op) where
  pub keeps_gives : (follows : Bool) (n : ℕ) (tree kept : Tree) (from to : Spot) → tree_height tree ≤ suc n → suc n ≤ greatest_operands → KeepsTree points follows tree from to kept
      → Gives points from.at to.at (suc n) (AsInteger I.Int kept)
  keeps_gives false n tree kept from to few low code = gives points (AsInteger I.Int tree) (ap (AsInteger I.Int) code.1) (stays points code.0) few
  keeps_gives true n tree kept from to few low code = gives_integer points n (λ register. O.Assign register tree) I.Int (code.0, code.1, ap (AsInteger I.Int) code.2) (omega (arith, few, low))

  pub reads_gives : (n : ℕ) (local : Local) (is_object : Bool) (own : CType) (from to : Spot) (lowered : Lowered) → ReadsLocal points (record { local = local; is_object = is_object; c_type = own }) from to lowered
      → Gives points from.at to.at (suc n) lowered
  reads_gives n local is_object (Integer int_type) from to lowered code = gives points (AsInteger int_type (Held (R.Local local))) code.1 (stays points code.0) (omega arith)
  reads_gives n local is_object (Pointer target) from to lowered code = gives_pointer points (suc n) (λ register. O.Copy register (R.Local local)) target code (omega arith)
  reads_gives n local is_object Void from to lowered code = absurd code
  reads_gives n local is_object (Array element count) from to lowered code = absurd code
  reads_gives n local is_object (Struct tag) from to lowered code = absurd code
  reads_gives n local is_object (Function result parameters) from to lowered code = absurd code

  pub loads_gives : (n : ℕ) (own : CType) (path : Path) (from to : Spot) (lowered : Lowered) → path_operands path ≤ greatest_operands → Loads points own path from to lowered → Gives points from.at to.at (suc n) lowered
  loads_gives n (Integer int_type) path from to lowered few code = gives_integer points n (λ register. O.Load register (Integer int_type) path) int_type code few
  loads_gives n (Pointer target) path from to lowered few code = gives_pointer points (suc n) (λ register. O.Load register (Pointer target) path) target code few
  loads_gives n Void path from to lowered few code = absurd code
  loads_gives n (Array element count) path from to lowered few code = absurd code
  loads_gives n (Struct tag) path from to lowered few code = absurd code
  loads_gives n (Function result parameters) path from to lowered few code = absurd code

  pub writes_leads : (register : Register) (given : Lowered) (from to : Spot) → lowered_operands given ≤ greatest_operands → Writes points register given from to → Leads points from.at to.at
  writes_leads register (AsInteger own tree) from to few code = emits points (O.Assign register tree) code few
  writes_leads register (AsPointer pointer target) from to few code = emits points (O.Copy register pointer) code (omega arith)
  writes_leads register (AsObject path own) from to few code = absurd code
  writes_leads register AsNothing from to few code = absurd code

  pub stores_gives : (n : ℕ) (used : Bool) (given : Lowered) (path : Path) (own : CType) (from to : Spot) (lowered : Lowered) → path_operands path ≤ greatest_operands → lowered_operands given ≤ greatest_operands
      → Stores points used path own given from to lowered → Gives points from.at to.at (suc n) lowered
  stores_gives n true (AsInteger int_type tree) path own from to lowered at few code =
      let kept = point points from.at (O.Assign (temporary from) tree) code.0 few in
      let stored = emits points {from = behind (with_temporary from)} (O.Store path own (IntegerOperand (Held (temporary from)))) code.1 (omega (arith, at)) in
      gives points (AsInteger int_type (Held (temporary from))) code.2 (leads_then points kept stored) (omega arith)
  stores_gives n false (AsInteger int_type tree) path own from to lowered at few code =
      gives points AsNothing code.1 (emits points (O.Store path own (IntegerOperand tree)) code.0 (omega (arith, at, few))) (omega arith)
  stores_gives n true (AsPointer pointer target) path own from to lowered at few code =
      gives points (AsPointer pointer target) code.1 (emits points (O.Store path own (PointerOperand pointer)) code.0 (omega (arith, at))) (omega arith)
  stores_gives n false (AsPointer pointer target) path own from to lowered at few code =
      gives points (AsPointer pointer target) code.1 (emits points (O.Store path own (PointerOperand pointer)) code.0 (omega (arith, at))) (omega arith)
  stores_gives n true (AsObject p c) path own from to lowered at few code = absurd code
  stores_gives n false (AsObject p c) path own from to lowered at few code = absurd code
  stores_gives n true AsNothing path own from to lowered at few code = absurd code
  stores_gives n false AsNothing path own from to lowered at few code = absurd code

  pub joins_gives : (n : ℕ) (one : Lowered) (from to : Spot) (lowered : Lowered) → lowered_operands one ≤ greatest_operands → Joins points one from to lowered → Gives points from.at to.at (suc n) lowered
  joins_gives n (AsInteger own tree) from to lowered few code = gives_integer points n (λ register. O.Assign register tree) own code few
  joins_gives n (AsPointer pointer target) from to lowered few code = gives_pointer points (suc n) (λ register. O.Copy register pointer) target code (omega arith)
  joins_gives n (AsObject path own) from to lowered few code = absurd code
  joins_gives n AsNothing from to lowered few code = gives points AsNothing code.1 (stays points code.0) (omega arith)

  pub joins_with_leads : (joined other : Lowered) (from to : Spot) → lowered_operands other ≤ greatest_operands → JoinsWith points joined other from to → Leads points from.at to.at
  joins_with_leads (AsInteger own (Held register)) (AsInteger int_type tree) from to few code = emits points (O.Assign register tree) code few
  joins_with_leads (AsPointer register target) (AsPointer pointer other) from to few code = emits points (O.Copy register pointer) code (omega arith)
  joins_with_leads AsNothing AsNothing from to few code = stays points code
  joins_with_leads joined other from to few code = absurd code

  abbrev first_element : Path → Path
  first_element path = then_step path (Element (Constant (pos 0)))

  first_few : (most : ℕ) (path : Path) → 1 ≤ most → path_operands path ≤ most → path_operands (first_element path) ≤ most
  first_few most path low few = path_then most path (Element (Constant (pos 0))) few low

  pub decays_gives : (n : ℕ) (mode : Mode) (path : Path) (element : CType) (count : ℕ) (from to : Spot) (lowered : Lowered) → suc n ≤ greatest_operands → path_operands path ≤ suc n
      → Decays points mode path element count from to lowered → Gives points from.at to.at (suc n) lowered
  decays_gives n Kept path element count from to lowered low few code =
      gives_pointer points (suc n) (λ register. O.AddressOf register (first_element path)) element code (first_few greatest_operands path (omega arith) (omega (arith, low, few)))
  decays_gives n Dropped path element count from to lowered low few code =
      gives_pointer points (suc n) (λ register. O.AddressOf register (first_element path)) element code (first_few greatest_operands path (omega arith) (omega (arith, low, few)))
  decays_gives n (Behind followed) path element count from to lowered low few code =
      gives points (AsObject (first_element path) element) code.1 (stays points code.0) (first_few (suc n) path (omega arith) few)
  decays_gives n (Row followed) path element count from to lowered low few code = gives points (AsObject path (Array element count)) code.1 (stays points code.0) few

  stays_gives : (n : ℕ) (given : Lowered) (from to : Spot) (lowered : Lowered) → lowered_operands given ≤ n → (to ≡ from) × (lowered ≡ given) → Gives points from.at to.at n lowered
  stays_gives n given from to lowered few code = gives points given code.1 (stays points code.0) few

  address_gives : (n : ℕ) (path : Path) (own : CType) (from to : Spot) (lowered : Lowered) → path_operands path ≤ greatest_operands → TakesAddress points Kept (AsObject path own) from to lowered → Gives points from.at to.at n lowered
  address_gives n path own from to lowered few code = gives_pointer points n (λ register. O.AddressOf register path) own code few

  pub takes_gives : (n : ℕ) (mode : Mode) (found : Lowered) (from to : Spot) (lowered : Lowered) → n ≤ greatest_operands → lowered_operands found ≤ n → TakesAddress points mode found from to lowered → Gives points from.at to.at n lowered
  takes_gives n (Behind followed) found from to lowered low few code = stays_gives n found from to lowered few code
  takes_gives n Kept (AsObject path own) from to lowered low few code = address_gives n path own from to lowered (omega (arith, low, few)) code
  takes_gives n Dropped (AsObject path own) from to lowered low few code = address_gives n path own from to lowered (omega (arith, low, few)) code
  takes_gives n (Row followed) (AsObject path own) from to lowered low few code = address_gives n path own from to lowered (omega (arith, low, few)) code
  takes_gives n Kept (AsPointer pointer target) from to lowered low few code = stays_gives n (AsPointer pointer target) from to lowered few code
  takes_gives n Dropped (AsPointer pointer target) from to lowered low few code = stays_gives n (AsPointer pointer target) from to lowered few code
  takes_gives n (Row followed) (AsPointer pointer target) from to lowered low few code = stays_gives n (AsPointer pointer target) from to lowered few code
  takes_gives n Kept (AsInteger own tree) from to lowered low few code = stays_gives n (AsInteger own tree) from to lowered few code
  takes_gives n Dropped (AsInteger own tree) from to lowered low few code = stays_gives n (AsInteger own tree) from to lowered few code
  takes_gives n (Row followed) (AsInteger own tree) from to lowered low few code = stays_gives n (AsInteger own tree) from to lowered few code
  takes_gives n Kept AsNothing from to lowered low few code = stays_gives n AsNothing from to lowered few code
  takes_gives n Dropped AsNothing from to lowered low few code = stays_gives n AsNothing from to lowered few code
  takes_gives n (Row followed) AsNothing from to lowered low few code = stays_gives n AsNothing from to lowered few code

  pub addresses_gives : (n : ℕ) (callee : Callee) (own : CType) (from to : Spot) (lowered : Lowered) → Addresses points callee own from to lowered → Gives points from.at to.at n lowered
  addresses_gives n (Known number) own from to lowered code = gives_pointer points n (λ register. O.FunctionAddress register number) own code (omega arith)
  addresses_gives n (Through pointer c_type) own from to lowered code = stays_gives n (AsPointer pointer c_type) from to lowered (omega arith) code

  pub moves_gives : (n : ℕ) (pointer : Register) (target : CType) (is_minus : Bool) (number : Tree) (from to : Spot) (lowered : Lowered) → tree_height number ≤ greatest_operands
      → MovesPointer points pointer target is_minus number from to lowered → Gives points from.at to.at n lowered
  moves_gives n pointer target is_minus number from to lowered few code = gives_pointer points n (λ register. O.Move register pointer target is_minus number) target code few

  pub indexes_gives : (n : ℕ) (is_kept follows : Bool) (found : Lowered) (index : Tree) (from to : Spot) (lowered : Lowered) → suc n ≤ greatest_operands → lowered_operands found ≤ suc n → tree_height index ≤ suc n
      → Indexes points is_kept follows found index from to lowered → Gives points from.at to.at (suc n) lowered
  indexes_gives n is_kept follows (AsObject path (Array element count)) index from to lowered low few own code =
      let kept = keeps_gives follows n index code.0 from to own low code.1 in
      gives points (AsObject (then_step path (Element code.0)) element) code.2 kept.leads (path_then (suc n) path (Element code.0) few kept.few)
  indexes_gives n false follows (AsPointer register target) index from to lowered low few own code =
      let kept = keeps_gives follows n index code.0 from to own low code.1 in
      let height = kept.few in
      gives points (AsObject (path_from (Indexed register target code.0)) target) code.2 kept.leads (omega (arith, height))
  indexes_gives n true follows (AsPointer register target) index from to lowered low few own code = moves_gives (suc n) register target false index from to lowered (omega (arith, low, own)) code
  indexes_gives n is_kept follows (AsObject path Void) index from to lowered low few own code = absurd code
  indexes_gives n is_kept follows (AsObject path (Integer int_type)) index from to lowered low few own code = absurd code
  indexes_gives n is_kept follows (AsObject path (Pointer target)) index from to lowered low few own code = absurd code
  indexes_gives n is_kept follows (AsObject path (Struct tag)) index from to lowered low few own code = absurd code
  indexes_gives n is_kept follows (AsObject path (Function result parameters)) index from to lowered low few own code = absurd code
  indexes_gives n is_kept follows (AsInteger int_type tree) index from to lowered low few own code = absurd code
  indexes_gives n is_kept follows AsNothing index from to lowered low few own code = absurd code

  -- an old value and a new one
  pub record GivesBoth (from to most : ℕ) (old new : Lowered) : Type 0 where
    pub leads : Leads points from to
    pub old_few : lowered_operands old ≤ most
    pub new_few : lowered_operands new ≤ most

  steps_give : (n : ℕ) (home : Home) (is_minus : Bool) (number : Tree) (from to : Spot) (old new : Lowered) → tree_height number ≤ greatest_operands → StepsLocal points home is_minus number from to old new
      → GivesBoth from.at to.at (suc n) old new
  steps_give n home is_minus number from to old new few code =
      let read = reads_gives n home.local home.is_object home.c_type from code.0 old code.4 in
      let moved = moves_gives 0 code.2 code.3 is_minus number code.0 code.1 new few code.6 in
      let low = moved.few in
      let written = writes_leads (R.Local home.local) new code.1 to (omega (arith, low)) code.7 in
      record { leads = leads_then points read.leads (leads_then points moved.leads written); old_few = read.few; new_few = omega (arith, low) }

  steps_object_give : (n : ℕ) (path : Path) (own : CType) (is_minus : Bool) (number : Tree) (from to : Spot) (old new : Lowered) → path_operands path ≤ greatest_operands → tree_height number ≤ greatest_operands
      → StepsObject points path own is_minus number from to old new → GivesBoth from.at to.at (suc n) old new
  steps_object_give n path own is_minus number from to old new at few code =
      let read = loads_gives n own path from code.0 old at code.4 in
      let moved = moves_gives 0 code.2 code.3 is_minus number code.0 code.1 new few code.6 in
      let low = moved.few in
      let stored = stores_gives n false new path own code.1 to new at (omega (arith, low)) code.7 in
      record { leads = leads_then points read.leads (leads_then points moved.leads stored.leads); old_few = read.few; new_few = stored.few }

  -- ---- forms over the code of their parts

  pub read_gives : (n k : ℕ) (home : Option Home) (object : PartCode) → k ≤ greatest_operands → Part points k object → Part points (suc n) (ReadCode points home object)
  read_gives n k (Some home) object low one from to lowered code = reads_gives n home.local home.is_object home.c_type from to lowered code
  read_gives n k None object low one from to lowered code =
      let inner = one from code.0 (AsObject code.1 code.2) code.3 in
      let few = inner.few in
      then_gives points inner.leads (loads_gives n code.2 code.1 code.0 to lowered (omega (arith, few, low)) code.4)

  pub moved_gives : (n j k : ℕ) (is_minus : Bool) (pointer number : PartCode) → k ≤ greatest_operands → Part points j pointer → Part points k number → Part points n (MovedCode points is_minus pointer number)
  moved_gives n j k is_minus pointer number low one other from to lowered code =
      let first = one from code.0 (AsPointer code.2 code.3) code.6 in
      let second = other code.0 code.1 (AsInteger code.4 code.5) code.7 in
      let few = second.few in
      then_gives points (leads_then points first.leads second.leads) (moves_gives n code.2 code.3 is_minus code.5 code.1 to lowered (omega (arith, few, low)) code.8)

  written : (n : ℕ) (local : Local) (given lowered : Lowered) (is_object : Bool) (own : CType) (from to : Spot) → lowered_operands given ≤ greatest_operands
      → WritesLocal points (record { local = local; is_object = is_object; c_type = own }) given from to lowered → Gives points from.at to.at (suc n) lowered
  written n local (AsInteger int_type tree) lowered is_object own from to few code =
      gives points (AsInteger int_type (Held (R.Local local))) code.1 (writes_leads (R.Local local) (AsInteger int_type tree) from to few code.0) (omega arith)
  written n local (AsPointer pointer target) lowered is_object own from to few code =
      gives points (AsPointer pointer target) code.1 (writes_leads (R.Local local) (AsPointer pointer target) from to few code.0) (omega arith)
  written n local (AsObject path c_type) lowered is_object own from to few code = absurd code.0
  written n local AsNothing lowered is_object own from to few code = absurd code.0

  pub assign_gives : (n j k : ℕ) (used : Bool) (home : Option Home) (object value : PartCode) → j ≤ greatest_operands → k ≤ greatest_operands → Part points j object → Part points k value
      → Part points (suc n) (AssignCode points used home object value)
  assign_gives n j k used (Some home) object value object_low value_low one other from to lowered code =
      let first = other from code.0 code.1 code.2 in
      let few = first.few in
      then_gives points first.leads (written n home.local code.1 lowered home.is_object home.c_type code.0 to (omega (arith, few, value_low)) code.3)
  assign_gives n j k used None object value object_low value_low one other from to lowered code =
      let first = one from code.0 (AsObject code.2 code.3) code.5 in
      let second = other code.0 code.1 code.4 code.6 in
      let at = first.few in
      let few = second.few in
      then_gives points (leads_then points first.leads second.leads)
      (stores_gives n used code.4 code.2 code.3 code.1 to lowered (omega (arith, at, object_low)) (omega (arith, few, value_low)) code.7)

  pub compound_gives : (n j k : ℕ) (used : Bool) (home : Option Home) (object operand : PartCode) (own : IntType) (new : Register → Tree → Tree) → j ≤ greatest_operands → suc k ≤ greatest_operands
      → ((register : Register) (tree : Tree) → tree_height (new register tree) ≤ suc (tree_height tree)) → Part points j object → Part points k operand
      → Part points (suc n) (CompoundCode points used home object operand own new)
  compound_gives n j k used (Some home) object operand own new object_low operand_low trees one other from to lowered code =
      let first = other from code.0 (AsInteger code.1 code.2) code.3 in
      let few = first.few in
      let height = trees (R.Local home.local) code.2 in
      let assigns = emits points (O.Assign (R.Local home.local) (new (R.Local home.local) code.2)) code.4 (omega (arith, few, operand_low, height)) in
      gives points (AsInteger own (Held (R.Local home.local))) code.5 (leads_then points first.leads assigns) (omega arith)
  compound_gives n j k used None object operand own new object_low operand_low trees one other from to lowered code =
      let first = one from code.0 (AsObject code.2 code.3) code.6 in
      let second = other code.0 code.1 (AsInteger code.4 code.5) code.7 in
      let at = first.few in
      let few = second.few in
      let height = trees (temporary code.1) code.5 in
      let load = point points code.1.at (O.Load (temporary code.1) code.3 code.2) code.8 (omega (arith, at, object_low)) in
      then_gives points (leads_then points first.leads (leads_then points second.leads load))
      (stores_gives n used (AsInteger own (new (temporary code.1) code.5)) code.2 code.3 (behind (with_temporary code.1)) to lowered (omega (arith, at, object_low)) (omega (arith, few, operand_low, height)) code.9)

  pub pointer_gives : (n j k : ℕ) (home : Option Home) (is_minus : Bool) (object number : PartCode) → j ≤ greatest_operands → k ≤ greatest_operands → Part points j object → Part points k number
      → (from to : Spot) (old new : Lowered) → PointerCode points home object is_minus number from to old new → GivesBoth from.at to.at (suc n) old new
  pointer_gives n j k (Some home) is_minus object number object_low number_low one other from to old new code =
      let first = other from code.0 (AsInteger code.1 code.2) code.3 in
      let few = first.few in
      let both = steps_give n home is_minus code.2 code.0 to old new (omega (arith, few, number_low)) code.4 in
      record { leads = leads_then points first.leads both.leads; old_few = both.old_few; new_few = both.new_few }
  pointer_gives n j k None is_minus object number object_low number_low one other from to old new code =
      let first = one from code.0 (AsObject code.2 code.3) code.6 in
      let second = other code.0 code.1 (AsInteger code.4 code.5) code.7 in
      let at = first.few in
      let few = second.few in
      let both = steps_object_give n code.2 code.3 is_minus code.5 code.1 to old new (omega (arith, at, object_low)) (omega (arith, few, number_low)) code.8 in
      record { leads = leads_then points first.leads (leads_then points second.leads both.leads); old_few = both.old_few; new_few = both.new_few }

  steps_home : (n : ℕ) (keeps : Bool) (stepping : Stepping) (own : IntType) (home : Home) (from to : Spot) (lowered : Lowered) → StepsHome points keeps stepping own home from to lowered
      → Gives points from.at to.at (suc n) lowered
  steps_home n false stepping own home from to lowered code =
      gives points (AsInteger own (Held (R.Local home.local))) code.1 (emits points (O.Assign (R.Local home.local) (step_tree stepping own (R.Local home.local))) code.0 (omega arith)) (omega arith)
  steps_home n true stepping own home from to lowered code =
      let kept = point points from.at (O.Assign (temporary from) (Held (R.Local home.local))) code.0 (omega arith) in
      let leads = emits points {from = behind (with_temporary from)} (O.Assign (R.Local home.local) (step_tree stepping own (R.Local home.local))) code.1 (omega arith) in
      gives points (AsInteger own (Held (temporary from))) code.2 (leads_then points kept leads) (omega arith)

  pub stepping_gives : (n k : ℕ) (used : Bool) (stepping : Stepping) (own : IntType) (home : Option Home) (object : PartCode) → k ≤ greatest_operands → Part points k object
      → Part points (suc n) (SteppingCode points used stepping own home object)
  stepping_gives n k false stepping own (Some home) object low one from to lowered code = steps_home n false stepping own home from to lowered code
  stepping_gives n k true Steppings.PreIncrement own (Some home) object low one from to lowered code = steps_home n false Steppings.PreIncrement own home from to lowered code
  stepping_gives n k true Steppings.PreDecrement own (Some home) object low one from to lowered code = steps_home n false Steppings.PreDecrement own home from to lowered code
  stepping_gives n k true Steppings.PostIncrement own (Some home) object low one from to lowered code = steps_home n true Steppings.PostIncrement own home from to lowered code
  stepping_gives n k true Steppings.PostDecrement own (Some home) object low one from to lowered code = steps_home n true Steppings.PostDecrement own home from to lowered code
  stepping_gives n k used stepping own None object low one from to lowered code =
      let first = one from code.0 (AsObject code.1 code.2) code.4 in
      let at = first.few in
      let load = point points code.0.at (O.Load (temporary code.0) code.2 code.1) code.5 (omega (arith, at, low)) in
      let stored = stores_gives n (used && not (gives_old stepping)) (AsInteger own (step_tree stepping own (temporary code.0))) code.1 code.2 (behind (with_temporary code.0)) to code.3
      (omega (arith, at, low)) (omega arith) code.6 in
      gives points (if gives_old stepping then AsInteger own (Held (temporary code.0)) else code.3) code.7 (leads_then points first.leads (leads_then points load stored.leads))
      (by (temporary code.0) own (gives_old stepping) code.3 stored.few)
    where
      by : (register : Register) (int_type : IntType) (b : Bool) (new : Lowered) → lowered_operands new ≤ suc n → lowered_operands (if b then AsInteger int_type (Held register) else new) ≤ suc n
      by register int_type true new few = omega arith
      by register int_type false new few = few

  pub logical_gives : (n j k : ℕ) (is_and : Bool) (left right : PartCode) → j ≤ greatest_operands → k ≤ greatest_operands → Part points j left → Part points k right → Part points (suc n) (LogicalCode points is_and left right)
  logical_gives n j k is_and left right left_low right_low one other from to lowered code =
      let first = one (with_temporary from) code.0 (AsInteger code.4 code.2) code.6 in
      let one_few = first.few in
      let tested = point points code.0.at (O.Branch code.4 code.2 (if is_and then suc code.0.at else suc (suc code.1.at)) (if is_and then suc (suc code.1.at) else suc code.0.at)) code.7 (omega (arith, one_few, left_low)) in
      let second = other (behind code.0) code.1 (AsInteger code.5 code.3) code.8 in
      let few = second.few in
      let taken = point points code.1.at (O.Assign (temporary from) (truth_tree code.5 code.3)) code.9 (omega (arith, few, right_low)) in
      let past = point points (suc code.1.at) (O.Jump to.at) code.10 (omega arith) in
      let last = emits points {from = behind (behind code.1)} (O.Assign (temporary from) (Constant (if is_and then pos 0 else pos 1))) code.11 (omega arith) in
      gives points (AsInteger I.Int (Held (temporary from))) code.12
      (leads_then points first.leads (leads_then points tested (leads_then points second.leads (leads_then points taken (leads_then points past last)))))
      (omega arith)
