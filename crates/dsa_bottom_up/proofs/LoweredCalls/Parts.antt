-- The parts of forms that are made of points have no sites.
use Rattle.std.proofs.Common.{◌≡◌, ℕ, suc, Bool, true, false, ◌&&◌, not, List, Option, Some, None, pos, refl}
use Rattle.std.specs.Prelude.{if◌then◌else◌}
use Rattle.c_num.specs.declared.IntType.{IntType}
use Rattle.c_typed.specs.declared.typed.Stepping.{Stepping}
use Rattle.c_typed.specs.declared.typed.Stepping.TheVariants as Steppings
use Rattle.c_typed.specs.Types.{CType, Void, Integer, Pointer, Array, Struct, Function}
use Rattle.tac_ir.specs.declared.register.Local.{Local}
use Rattle.tac_ir.specs.declared.register.Register.{Register}
use Rattle.tac_ir.specs.declared.register.Register.TheVariants as R
use Rattle.tac_ir.specs.Code.{Tree, Constant, Held, Path, Element, Callee, Known, Through, IntegerOperand, PointerOperand, Op}
use Rattle.tac_ir.specs.Code as O
use Rattle.tac_build.specs.Homes.{Home}
use Rattle.tac_build.specs.Spots.{Spot, behind, with_temporary, temporary, Lowered, AsInteger, AsPointer, AsObject, AsNothing, Mode, Kept, Dropped, Behind, Row}
use Rattle.tac_build.specs.Code.{PartCode, then_step, truth_tree, gives_old, step_tree, HasOp, Emits, KeepsTree, ReadsLocal, Loads, Writes, Stores, Joins, JoinsWith, Decays, TakesAddress, Addresses, MovesPointer, StepsLocal, StepsObject, Indexes, ReadCode, MovedCode, AssignCode, CompoundCode, PointerCode, SteppingCode, LogicalCode}
use Rattle.dsa_bottom_up.proofs.LoweredCalls.Leading.{Spans, Part, leads_then, moves, stays, point, emits, gives_integer, gives_pointer}

-- how a local in a register steps, and whether its old value is kept
abbrev StepsHome : List Op → Bool → Stepping → IntType → Home → Spot → Spot → Lowered → Type 0
StepsHome points false stepping own home from to lowered = Emits points (O.Assign (R.Local home.local) (step_tree stepping own (R.Local home.local))) from to × (lowered ≡ AsInteger own (Held (R.Local home.local)))
StepsHome points true stepping own home from to lowered =
    HasOp points from.at (O.Assign (temporary from) (Held (R.Local home.local)))
    × Emits points (O.Assign (R.Local home.local) (step_tree stepping own (R.Local home.local))) (behind (with_temporary from)) to × (lowered ≡ AsInteger own (Held (temporary from)))

module _ (points : List Op) (count : ℕ) where
  pub keeps_spans : (follows : Bool) (tree kept : Tree) (from to : Spot) → KeepsTree points follows tree from to kept → Spans points count from to
  keeps_spans false tree kept from to code = stays points count from to code.0
  keeps_spans true tree kept from to code = moves points count (behind (with_temporary from)) code.1 (point points count from (O.Assign (temporary from) tree) code.0 refl)

  pub reads_spans : (local : Local) (is_object : Bool) (own : CType) (from to : Spot) (lowered : Lowered) → ReadsLocal points (record { local = local; is_object = is_object; c_type = own }) from to lowered
      → Spans points count from to
  reads_spans local is_object (Integer int_type) from to lowered code = stays points count from to code.0
  reads_spans local is_object (Pointer target) from to lowered code = gives_pointer points count from to lowered (λ register. O.Copy register (R.Local local)) target code refl
  reads_spans local is_object Void from to lowered code = absurd code
  reads_spans local is_object (Array element size) from to lowered code = absurd code
  reads_spans local is_object (Struct tag) from to lowered code = absurd code
  reads_spans local is_object (Function result parameters) from to lowered code = absurd code

  pub loads_spans : (own : CType) (path : Path) (from to : Spot) (lowered : Lowered) → Loads points own path from to lowered → Spans points count from to
  loads_spans (Integer int_type) path from to lowered code = gives_integer points count from to lowered (λ register. O.Load register (Integer int_type) path) int_type code refl
  loads_spans (Pointer target) path from to lowered code = gives_pointer points count from to lowered (λ register. O.Load register (Pointer target) path) target code refl
  loads_spans Void path from to lowered code = absurd code
  loads_spans (Array element size) path from to lowered code = absurd code
  loads_spans (Struct tag) path from to lowered code = absurd code
  loads_spans (Function result parameters) path from to lowered code = absurd code

  pub writes_spans : (register : Register) (given : Lowered) (from to : Spot) → Writes points register given from to → Spans points count from to
  writes_spans register (AsInteger own tree) from to code = emits points count from to (O.Assign register tree) code refl
  writes_spans register (AsPointer pointer target) from to code = emits points count from to (O.Copy register pointer) code refl
  writes_spans register (AsObject path own) from to code = absurd code
  writes_spans register AsNothing from to code = absurd code

  pub stores_spans : (used : Bool) (given : Lowered) (path : Path) (own : CType) (from to : Spot) (lowered : Lowered) → Stores points used path own given from to lowered → Spans points count from to
  stores_spans true (AsInteger int_type tree) path own from to lowered code =
      leads_then points count (point points count from (O.Assign (temporary from) tree) code.0 refl)
      (emits points count (behind (with_temporary from)) to (O.Store path own (IntegerOperand (Held (temporary from)))) code.1 refl)
  stores_spans false (AsInteger int_type tree) path own from to lowered code = emits points count from to (O.Store path own (IntegerOperand tree)) code.0 refl
  stores_spans true (AsPointer pointer target) path own from to lowered code = emits points count from to (O.Store path own (PointerOperand pointer)) code.0 refl
  stores_spans false (AsPointer pointer target) path own from to lowered code = emits points count from to (O.Store path own (PointerOperand pointer)) code.0 refl
  stores_spans true (AsObject p c) path own from to lowered code = absurd code
  stores_spans false (AsObject p c) path own from to lowered code = absurd code
  stores_spans true AsNothing path own from to lowered code = absurd code
  stores_spans false AsNothing path own from to lowered code = absurd code

  pub joins_spans : (one : Lowered) (from to : Spot) (lowered : Lowered) → Joins points one from to lowered → Spans points count from to
  joins_spans (AsInteger own tree) from to lowered code = gives_integer points count from to lowered (λ register. O.Assign register tree) own code refl
  joins_spans (AsPointer pointer target) from to lowered code = gives_pointer points count from to lowered (λ register. O.Copy register pointer) target code refl
  joins_spans (AsObject path own) from to lowered code = absurd code
  joins_spans AsNothing from to lowered code = stays points count from to code.0

  pub joins_with_spans : (joined other : Lowered) (from to : Spot) → JoinsWith points joined other from to → Spans points count from to
  joins_with_spans (AsInteger own (Held register)) (AsInteger int_type tree) from to code = emits points count from to (O.Assign register tree) code refl
  joins_with_spans (AsPointer register target) (AsPointer pointer other) from to code = emits points count from to (O.Copy register pointer) code refl
  joins_with_spans AsNothing AsNothing from to code = stays points count from to code
  joins_with_spans joined other from to code = absurd code

  pub decays_spans : (mode : Mode) (path : Path) (element : CType) (size : ℕ) (from to : Spot) (lowered : Lowered) → Decays points mode path element size from to lowered → Spans points count from to
  decays_spans Kept path element size from to lowered code = gives_pointer points count from to lowered (λ register. O.AddressOf register (then_step path (Element (Constant (pos 0))))) element code refl
  decays_spans Dropped path element size from to lowered code = gives_pointer points count from to lowered (λ register. O.AddressOf register (then_step path (Element (Constant (pos 0))))) element code refl
  decays_spans (Behind followed) path element size from to lowered code = stays points count from to code.0
  decays_spans (Row followed) path element size from to lowered code = stays points count from to code.0

  address_spans : (path : Path) (own : CType) (from to : Spot) (lowered : Lowered) → TakesAddress points Kept (AsObject path own) from to lowered → Spans points count from to
  address_spans path own from to lowered code = gives_pointer points count from to lowered (λ register. O.AddressOf register path) own code refl

  pub takes_spans : (mode : Mode) (found : Lowered) (from to : Spot) (lowered : Lowered) → TakesAddress points mode found from to lowered → Spans points count from to
  takes_spans (Behind followed) found from to lowered code = stays points count from to code.0
  takes_spans Kept (AsObject path own) from to lowered code = address_spans path own from to lowered code
  takes_spans Dropped (AsObject path own) from to lowered code = address_spans path own from to lowered code
  takes_spans (Row followed) (AsObject path own) from to lowered code = address_spans path own from to lowered code
  takes_spans Kept (AsPointer pointer target) from to lowered code = stays points count from to code.0
  takes_spans Dropped (AsPointer pointer target) from to lowered code = stays points count from to code.0
  takes_spans (Row followed) (AsPointer pointer target) from to lowered code = stays points count from to code.0
  takes_spans Kept (AsInteger own tree) from to lowered code = stays points count from to code.0
  takes_spans Dropped (AsInteger own tree) from to lowered code = stays points count from to code.0
  takes_spans (Row followed) (AsInteger own tree) from to lowered code = stays points count from to code.0
  takes_spans Kept AsNothing from to lowered code = stays points count from to code.0
  takes_spans Dropped AsNothing from to lowered code = stays points count from to code.0
  takes_spans (Row followed) AsNothing from to lowered code = stays points count from to code.0

  pub addresses_spans : (callee : Callee) (own : CType) (from to : Spot) (lowered : Lowered) → Addresses points callee own from to lowered → Spans points count from to
  addresses_spans (Known number) own from to lowered code = gives_pointer points count from to lowered (λ register. O.FunctionAddress register number) own code refl
  addresses_spans (Through pointer c_type) own from to lowered code = stays points count from to code.0

  pub moves_spans : (pointer : Register) (target : CType) (is_minus : Bool) (number : Tree) (from to : Spot) (lowered : Lowered) → MovesPointer points pointer target is_minus number from to lowered
      → Spans points count from to
  moves_spans pointer target is_minus number from to lowered code = gives_pointer points count from to lowered (λ register. O.Move register pointer target is_minus number) target code refl

  pub indexes_spans : (is_kept follows : Bool) (found : Lowered) (index : Tree) (from to : Spot) (lowered : Lowered) → Indexes points is_kept follows found index from to lowered → Spans points count from to
  indexes_spans is_kept follows (AsObject path (Array element size)) index from to lowered code = keeps_spans follows index code.0 from to code.1
  indexes_spans false follows (AsPointer register target) index from to lowered code = keeps_spans follows index code.0 from to code.1
  indexes_spans true follows (AsPointer register target) index from to lowered code = moves_spans register target false index from to lowered code
  indexes_spans is_kept follows (AsObject path Void) index from to lowered code = absurd code
  indexes_spans is_kept follows (AsObject path (Integer int_type)) index from to lowered code = absurd code
  indexes_spans is_kept follows (AsObject path (Pointer target)) index from to lowered code = absurd code
  indexes_spans is_kept follows (AsObject path (Struct tag)) index from to lowered code = absurd code
  indexes_spans is_kept follows (AsObject path (Function result parameters)) index from to lowered code = absurd code
  indexes_spans is_kept follows (AsInteger int_type tree) index from to lowered code = absurd code
  indexes_spans is_kept follows AsNothing index from to lowered code = absurd code

  steps_spans : (home : Home) (is_minus : Bool) (number : Tree) (from to : Spot) (old new : Lowered) → StepsLocal points home is_minus number from to old new → Spans points count from to
  steps_spans home is_minus number from to old new code =
      leads_then points count (reads_spans home.local home.is_object home.c_type from code.0 old code.4)
      (leads_then points count (moves_spans code.2 code.3 is_minus number code.0 code.1 new code.6) (writes_spans (R.Local home.local) new code.1 to code.7))

  steps_object_spans : (path : Path) (own : CType) (is_minus : Bool) (number : Tree) (from to : Spot) (old new : Lowered) → StepsObject points path own is_minus number from to old new → Spans points count from to
  steps_object_spans path own is_minus number from to old new code =
      leads_then points count (loads_spans own path from code.0 old code.4)
      (leads_then points count (moves_spans code.2 code.3 is_minus number code.0 code.1 new code.6) (stores_spans false new path own code.1 to new code.7))

  -- ---- forms over the code of their parts

  pub read_spans : (home : Option Home) (object : PartCode) → Part points count object → Part points count (ReadCode points home object)
  read_spans (Some home) object one from to lowered code = reads_spans home.local home.is_object home.c_type from to lowered code
  read_spans None object one from to lowered code = leads_then points count (one from code.0 (AsObject code.1 code.2) code.3) (loads_spans code.2 code.1 code.0 to lowered code.4)

  pub moved_spans : (is_minus : Bool) (pointer number : PartCode) → Part points count pointer → Part points count number → Part points count (MovedCode points is_minus pointer number)
  moved_spans is_minus pointer number one other from to lowered code =
      leads_then points count (one from code.0 (AsPointer code.2 code.3) code.6)
      (leads_then points count (other code.0 code.1 (AsInteger code.4 code.5) code.7) (moves_spans code.2 code.3 is_minus code.5 code.1 to lowered code.8))

  pub assign_spans : (used : Bool) (home : Option Home) (object assigned : PartCode) → Part points count object → Part points count assigned → Part points count (AssignCode points used home object assigned)
  assign_spans used (Some home) object assigned one other from to lowered code =
      leads_then points count (other from code.0 code.1 code.2) (writes_spans (R.Local home.local) code.1 code.0 to code.3.0)
  assign_spans used None object assigned one other from to lowered code =
      leads_then points count (one from code.0 (AsObject code.2 code.3) code.5)
      (leads_then points count (other code.0 code.1 code.4 code.6) (stores_spans used code.4 code.2 code.3 code.1 to lowered code.7))

  pub compound_spans : (used : Bool) (home : Option Home) (object operand : PartCode) (own : IntType) (new : Register → Tree → Tree) → Part points count object → Part points count operand
      → Part points count (CompoundCode points used home object operand own new)
  compound_spans used (Some home) object operand own new one other from to lowered code =
      leads_then points count (other from code.0 (AsInteger code.1 code.2) code.3)
      (emits points count code.0 to (O.Assign (R.Local home.local) (new (R.Local home.local) code.2)) code.4 refl)
  compound_spans used None object operand own new one other from to lowered code =
      leads_then points count (one from code.0 (AsObject code.2 code.3) code.6)
      (leads_then points count (other code.0 code.1 (AsInteger code.4 code.5) code.7)
      (leads_then points count (point points count code.1 (O.Load (temporary code.1) code.3 code.2) code.8 refl)
      (stores_spans used (AsInteger own (new (temporary code.1) code.5)) code.2 code.3 (behind (with_temporary code.1)) to lowered code.9)))

  pub pointer_spans : (home : Option Home) (is_minus : Bool) (object number : PartCode) → Part points count object → Part points count number → (from to : Spot) (old new : Lowered)
      → PointerCode points home object is_minus number from to old new → Spans points count from to
  pointer_spans (Some home) is_minus object number one other from to old new code =
      leads_then points count (other from code.0 (AsInteger code.1 code.2) code.3) (steps_spans home is_minus code.2 code.0 to old new code.4)
  pointer_spans None is_minus object number one other from to old new code =
      leads_then points count (one from code.0 (AsObject code.2 code.3) code.6)
      (leads_then points count (other code.0 code.1 (AsInteger code.4 code.5) code.7) (steps_object_spans code.2 code.3 is_minus code.5 code.1 to old new code.8))

  steps_home : (keeps : Bool) (stepping : Stepping) (own : IntType) (home : Home) (from to : Spot) (lowered : Lowered) → StepsHome points keeps stepping own home from to lowered → Spans points count from to
  steps_home false stepping own home from to lowered code = emits points count from to (O.Assign (R.Local home.local) (step_tree stepping own (R.Local home.local))) code.0 refl
  steps_home true stepping own home from to lowered code =
      leads_then points count (point points count from (O.Assign (temporary from) (Held (R.Local home.local))) code.0 refl)
      (emits points count (behind (with_temporary from)) to (O.Assign (R.Local home.local) (step_tree stepping own (R.Local home.local))) code.1 refl)

  pub stepping_spans : (used : Bool) (stepping : Stepping) (own : IntType) (home : Option Home) (object : PartCode) → Part points count object → Part points count (SteppingCode points used stepping own home object)
  stepping_spans false stepping own (Some home) object one from to lowered code = steps_home false stepping own home from to lowered code
  stepping_spans true Steppings.PreIncrement own (Some home) object one from to lowered code = steps_home false Steppings.PreIncrement own home from to lowered code
  stepping_spans true Steppings.PreDecrement own (Some home) object one from to lowered code = steps_home false Steppings.PreDecrement own home from to lowered code
  stepping_spans true Steppings.PostIncrement own (Some home) object one from to lowered code = steps_home true Steppings.PostIncrement own home from to lowered code
  stepping_spans true Steppings.PostDecrement own (Some home) object one from to lowered code = steps_home true Steppings.PostDecrement own home from to lowered code
  stepping_spans used stepping own None object one from to lowered code =
      leads_then points count (one from code.0 (AsObject code.1 code.2) code.4)
      (leads_then points count (point points count code.0 (O.Load (temporary code.0) code.2 code.1) code.5 refl)
      (stores_spans (used && not (gives_old stepping)) (AsInteger own (step_tree stepping own (temporary code.0))) code.1 code.2 (behind (with_temporary code.0)) to code.3 code.6))

  pub logical_spans : (is_and : Bool) (left right : PartCode) → Part points count left → Part points count right → Part points count (LogicalCode points is_and left right)
  logical_spans is_and left right one other from to lowered code =
      leads_then points count (one (with_temporary from) code.0 (AsInteger code.4 code.2) code.6)
      (leads_then points count
      (point points count code.0 (O.Branch code.4 code.2 (if is_and then suc code.0.at else suc (suc code.1.at)) (if is_and then suc (suc code.1.at) else suc code.0.at)) code.7 refl)
      (leads_then points count (other (behind code.0) code.1 (AsInteger code.5 code.3) code.8)
      (leads_then points count (point points count code.1 (O.Assign (temporary from) (truth_tree code.5 code.3)) code.9 refl)
      (leads_then points count (point points count (behind code.1) (O.Jump to.at) code.10 refl)
      (emits points count (behind (behind code.1)) to (O.Assign (temporary from) (Constant (if is_and then pos 0 else pos 1))) code.11 refl)))))
