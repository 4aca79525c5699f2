-- What lowering keeps of the points that stand so far, and what it adds to them. A part of the code is told over every list of points
-- in which the points that stand behind it still stand, so that what is told stays true when more points follow and reserved ones are
-- filled in.
use Rattle.std.specs.Prelude.{◌≡◌, ℕ, suc, pos, if◌then◌else◌, ◌+◌, ◌≤◌, Bool, true, false, not, ◌&&◌, List, length, map, reverse, slice_get, Option, Some, None}
use Rattle.c_typed.specs.Types.{CType, Void, Integer, Pointer, Array, Function}
use Rattle.c_typed.specs.Table.{Interned, Stands, type_in}
use Rattle.tac_ir.specs.declared.op.Op as memory_op
use Rattle.tac_ir.specs.declared.op.Op.TheVariants as M
use Rattle.tac_ir.specs.declared.op.Scalar as memory_scalar
use Rattle.tac_ir.specs.declared.op.Scalar.TheVariants as Scalars
use Rattle.tac_ir.specs.declared.program.Counts.{Counts}
use Rattle.tac_ir.specs.Code as Code
use Rattle.tac_ir.specs.Code.{Op, Held, Tree, Path}
use Rattle.tac_ir.specs.Views.{tree_of, path_in, op_in, object_in}
use Rattle.tac_build.specs.declared.builder.Builder.{Builder}
use Rattle.tac_build.specs.declared.lowered.Lowered as memory_lowered
use Rattle.tac_build.specs.declared.lowered.Lowered.TheVariants as L
use Rattle.tac_build.specs.declared.lowered.IntegerValue.{IntegerValue}
use Rattle.tac_build.specs.declared.lowered.PointerValue.{PointerValue}
use Rattle.tac_build.specs.declared.lowered.Place.{Place}
use Rattle.tac_build.specs.declared.lowered.Mode as memory_mode
use Rattle.tac_build.specs.declared.lowered.Mode.TheVariants as N
use Rattle.tac_build.specs.declared.homes.Home as memory_home
use Rattle.tac_build.specs.declared.conditions.Joined as memory_joined
use Rattle.tac_build.specs.declared.conditions.Joined.TheVariants as J
use Rattle.c_num.specs.declared.IntType.{IntType}
use Rattle.c_num.specs.declared.IntType.TheVariants as I
use Rattle.c_typed.specs.declared.typed.Stepping.{Stepping}
use Rattle.c_typed.specs.declared.typed.LibraryFunction.{LibraryFunction}
use Rattle.c_typed.specs.declared.typed.LibraryFunction.TheVariants as F
use Rattle.tac_ir.specs.declared.register.Register.TheVariants as R
use Rattle.tac_ir.specs.declared.register.Register.{Register}
use Rattle.tac_build.specs.Code.{HasOp, Emits, ReadsLocal, Loads, WritesLocal, Stores, Joins, JoinsWith, StepsLocal, StepsObject, SteppingCode, step_tree, gives_old, truth_tree}
use Rattle.tac_build.specs.declared.assignments.Moment.{Moment}
use Rattle.tac_build.specs.declared.assignments.Moment.TheVariants as Moments
use Rattle.tac_build.specs.declared.objects.Target.{Target}
use Rattle.tac_build.specs.declared.objects.Target.TheVariants as Targets
use Rattle.tac_build.specs.Homes.{Home, Scope}
use Rattle.tac_build.specs.Spots.{Spot, behind, with_temporary, temporary, Lowered, AsInteger, AsPointer, AsObject, AsNothing, Mode, Kept, Dropped, Behind, Row}

-- ---- views

abbrev pub lowered_in : Interned → memory_lowered.Lowered → Lowered
lowered_in table (L.Integer int_type tree) = AsInteger int_type (tree_of tree.value)
lowered_in table (L.Pointer register target) = AsPointer register (type_in table target)
lowered_in table (L.Object path c_type) = AsObject (path_in table path.value) (type_in table c_type)
lowered_in table L.Nothing = AsNothing

abbrev pub integer_of : IntegerValue → Lowered
integer_of value = AsInteger value.int_type (tree_of value.tree.value)

abbrev pub pointer_in : Interned → PointerValue → Lowered
pointer_in table value = AsPointer value.register (type_in table value.target)

abbrev pub place_in : Interned → Place → Lowered
place_in table place = AsObject (path_in table place.path.value) (type_in table place.c_type)

abbrev pub mode_of : memory_mode.Mode → Mode
mode_of N.Kept = Kept
mode_of N.Dropped = Dropped
mode_of (N.Behind followed) = Behind followed
mode_of (N.Row followed) = Row followed

abbrev pub home_in : Interned → memory_home.Home → Home
home_in table home = record { local = home.local; is_object = home.is_object; c_type = type_in table home.c_type }

-- the locals in scope, which the code has with the oldest first
abbrev pub scope_in : Interned → List memory_home.Home → Scope
scope_in table scope = reverse (map (home_in table) scope)

-- what ways that join come to
abbrev pub joined_in : Interned → memory_joined.Joined → Lowered
joined_in table (J.Integer register int_type) = AsInteger int_type (Held register)
joined_in table (J.Pointer register target) = AsPointer register (type_in table target)
joined_in table J.Nothing = AsNothing

-- ---- kinds

abbrev pub IsInteger : memory_lowered.Lowered → Type 0
IsInteger (L.Integer int_type tree) = Unit {0}
IsInteger _ = ⊥

abbrev pub IsPointer : memory_lowered.Lowered → Type 0
IsPointer (L.Pointer register target) = Unit {0}
IsPointer _ = ⊥

abbrev pub IsObject : memory_lowered.Lowered → Type 0
IsObject (L.Object path c_type) = Unit {0}
IsObject _ = ⊥

-- an integer or a pointer
abbrev pub IsScalar : memory_lowered.Lowered → Type 0
IsScalar (L.Integer int_type tree) = Unit {0}
IsScalar (L.Pointer register target) = Unit {0}
IsScalar _ = ⊥

-- a value, or none
abbrev pub IsValue : memory_lowered.Lowered → Type 0
IsValue (L.Object path c_type) = ⊥
IsValue _ = Unit {0}

-- both ways come to something of one kind
abbrev pub AreAlike : memory_joined.Joined → memory_lowered.Lowered → Type 0
AreAlike (J.Integer register int_type) (L.Integer other tree) = Unit {0}
AreAlike (J.Pointer register target) (L.Pointer pointer other) = Unit {0}
AreAlike J.Nothing L.Nothing = Unit {0}
AreAlike _ _ = ⊥

-- an integer or a pointer (C17 6.2.5 paragraph 21)
abbrev pub IsScalarType : CType → Type 0
IsScalarType (Integer int_type) = Unit {0}
IsScalarType (Pointer target) = Unit {0}
IsScalarType _ = ⊥

abbrev pub IsPointerType : CType → Type 0
IsPointerType (Pointer target) = Unit {0}
IsPointerType _ = ⊥

abbrev pub IsArrayType : CType → Type 0
IsArrayType (Array element length) = Unit {0}
IsArrayType _ = ⊥

abbrev pub IsFunctionType : CType → Type 0
IsFunctionType (Function returned parameters) = Unit {0}
IsFunctionType _ = ⊥

abbrev pub returned_by : CType → CType
returned_by (Function returned parameters) = returned
returned_by _ = Void

-- the type to which a scalar points is in the table
abbrev pub ScalarStands : Interned → memory_scalar.Scalar → Type 0
ScalarStands table (Scalars.Integer int_type) = Unit {0}
ScalarStands table (Scalars.Pointer target) = Stands table target

-- the types of the locals in scope are in the table
abbrev pub HomesStand : Interned → List memory_home.Home → Type 0
HomesStand table scope = (number : ℕ) (home : memory_home.Home) → slice_get scope number ≡ Some home → Stands table home.c_type

abbrev pub HomeStands : Interned → Option memory_home.Home → Type 0
HomeStands table None = Unit {0}
HomeStands table (Some home) = Stands table home.c_type

abbrev pub optional_home : Interned → Option memory_home.Home → Option Home
optional_home table None = None
optional_home table (Some home) = Some (home_in table home)

-- ---- points

abbrev pub is_reserved : Op → Bool
is_reserved Code.Reserved = true
is_reserved _ = false

-- an operation that isn't the one of a reserved point
abbrev pub is_filled : memory_op.Op → Bool
is_filled M.Reserved = false
is_filled _ = true

-- each operation that stands in the old points, and isn't reserved, stands in the new ones
pub record Fills (old new : List Op) : Type 0 where
  pub stands : (at : ℕ) (op : Op) → slice_get old at ≡ Some op → is_reserved op ≡ false → slice_get new at ≡ Some op
  pub longer : length old ≤ length new

-- what stood still stands, reserved points too, and there are no fewer points
pub record Grows (old new : Builder) : Type 0 where
  pub stands : (at : ℕ) (op : memory_op.Op) → slice_get old.points.items at ≡ Some op → slice_get new.points.items at ≡ Some op
  pub longer : length old.points.items ≤ length new.points.items

-- the same but for one point, which may have been filled in
pub record GrowsBut (place : ℕ) (old new : Builder) : Type 0 where
  pub stands : (at : ℕ) (op : memory_op.Op) → (at ≡ place → ⊥) → slice_get old.points.items at ≡ Some op → slice_get new.points.items at ≡ Some op
  pub longer : length old.points.items ≤ length new.points.items

-- a point that is to be filled in
abbrev pub IsReserved : Builder → ℕ → Type 0
IsReserved builder at = slice_get builder.points.items at ≡ Some M.Reserved

abbrev pub points_in : Interned → Builder → List Op
points_in table builder = map (op_in table) builder.points.items

-- the spot behind the points that stand
abbrev pub spot_of : Interned → Builder → Spot
spot_of table builder = record { at = length builder.points.items; counts = builder.counts; objects = map (object_in table) builder.objects.items }

-- ---- what functions promise

-- the points from a builder to another are this code
abbrev pub Leads : (Interned → List Op → Spot → Spot → Type 0) → Builder → Builder → Type 0
Leads code old new = (table : Interned) (points : List Op) → Fills (points_in table new) points → code table points (spot_of table old) (spot_of table new)

-- the same, where the code comes to something
abbrev pub Lowers : (Interned → List Op → Spot → Spot → Lowered → Type 0) → Builder → Builder → memory_lowered.Lowered → Type 0
Lowers code old new lowered = Leads (λ table points from to. code table points from to (lowered_in table lowered)) old new

-- the same for one table, where code speaks of what the table's types are
abbrev pub LeadsIn : Interned → (List Op → Spot → Spot → Type 0) → Builder → Builder → Type 0
LeadsIn table code old new = (points : List Op) → Fills (points_in table new) points → code points (spot_of table old) (spot_of table new)

abbrev pub LowersIn : Interned → (List Op → Spot → Spot → Lowered → Type 0) → Builder → Builder → memory_lowered.Lowered → Type 0
LowersIn table code old new lowered = LeadsIn table (λ points from to. code points from to (lowered_in table lowered)) old new

-- how many registers are named
abbrev pub names_of : Counts → ℕ
names_of counts = counts.variables + counts.calls + counts.arguments + counts.expressions + counts.temporaries

-- there is room for so many names more
abbrev pub HasRoom : Builder → ℕ → Type 0
HasRoom builder more = names_of builder.counts + more ≤ 4294967296

-- at most so many names more
abbrev pub Adds : Builder → Builder → ℕ → Type 0
Adds old new more = names_of new.counts ≤ names_of old.counts + more

-- ---- ways that meet

-- the end of `&&` or `||`: the branch on the left operand, whose value is in a register or decides, and what comes to it on each way
abbrev pub Decides : Bool → Register → ℕ → IntegerValue → IntegerValue → List Op → Spot → Spot → Lowered → Type 0
Decides is_and register test left right points last to lowered =
    HasOp points test (Code.Branch left.int_type (tree_of left.tree.value) (if is_and then suc test else suc (suc last.at)) (if is_and then suc (suc last.at) else suc test))
    × HasOp points last.at (Code.Assign register (truth_tree right.int_type (tree_of right.tree.value))) × HasOp points (suc last.at) (Code.Jump to.at)
    × Emits points (Code.Assign register (Code.Constant (if is_and then pos 0 else pos 1))) (behind (behind last)) to × (lowered ≡ AsInteger I.Int (Held register))

-- the end of the way of `c ? a : b` that is taken where the condition isn't 0: the branch, the value that comes to a register, and the
-- reserved point of the jump
abbrev pub EndsWay : ℕ → IntegerValue → Lowered → Lowered → ℕ → List Op → Spot → Spot → Type 0
EndsWay test condition one joined end points from to =
    (at : Spot) × Joins points one from at joined × (end ≡ at.at) × (to ≡ behind at)
    × HasOp points test (Code.Branch condition.int_type (tree_of condition.tree.value) (suc test) (suc at.at))

-- the end of the other way, where both meet
abbrev pub MeetsWay : Lowered → Lowered → ℕ → List Op → Spot → Spot → Lowered → Type 0
MeetsWay joined other end points from to lowered = JoinsWith points joined other from to × HasOp points end (Code.Jump to.at) × (lowered ≡ joined)

-- ---- calls

-- the point of a library function of one argument, and what it gives
abbrev pub LibraryGives : LibraryFunction → ℕ → List Op → Lowered → Spot → Spot → Lowered → Type 0
LibraryGives F.Malloc site points (AsInteger own tree) from to lowered = Emits points (Code.Allocate site tree) from to × (lowered ≡ AsPointer (R.Call site) Void)
LibraryGives F.Free site points (AsPointer register own) from to lowered = Emits points (Code.Free site register) from to × (lowered ≡ AsNothing)
LibraryGives F.PutChar site points (AsInteger own tree) from to lowered = Emits points (Code.PutChar site tree) from to × (lowered ≡ AsInteger I.Int (Held (R.Call site)))
LibraryGives F.Exit site points (AsInteger own tree) from to lowered = Emits points (Code.Exit tree) from to × (lowered ≡ AsNothing)
LibraryGives _ site points given from to lowered = ⊥

-- ---- moving pointers

abbrev pub at_moment : Moment → Lowered → Lowered → Lowered
at_moment Moments.Before old new = old
at_moment Moments.After old new = new

-- ---- what is read or written

-- a scalar whose type is in the table
abbrev pub TargetStands : Interned → Target → Type 0
TargetStands table (Targets.Register home) = Stands table home.c_type × IsScalarType (type_in table home.c_type)
TargetStands table (Targets.Memory place) = Stands table place.c_type × IsScalarType (type_in table place.c_type)

abbrev pub ReadsTarget : Interned → Target → List Op → Spot → Spot → Lowered → Type 0
ReadsTarget table (Targets.Register home) points from to lowered = ReadsLocal points (home_in table home) from to lowered
ReadsTarget table (Targets.Memory place) points from to lowered = Loads points (type_in table place.c_type) (path_in table place.path.value) from to lowered

abbrev pub AssignsTarget : Interned → Bool → Target → Lowered → List Op → Spot → Spot → Lowered → Type 0
AssignsTarget table used (Targets.Register home) given points from to lowered = WritesLocal points (home_in table home) given from to lowered
AssignsTarget table used (Targets.Memory place) given points from to lowered = Stores points used (path_in table place.path.value) (type_in table place.c_type) given from to lowered

-- a pointer whose type is in the table
abbrev pub TargetPoints : Interned → Target → Type 0
TargetPoints table (Targets.Register home) = Stands table home.c_type × IsPointerType (type_in table home.c_type)
TargetPoints table (Targets.Memory place) = Stands table place.c_type × IsPointerType (type_in table place.c_type)

-- a pointer is read, moved and written, and the old or the new one is the value
abbrev pub ShiftsLocal : Home → Bool → Tree → Moment → List Op → Spot → Spot → Lowered → Type 0
ShiftsLocal home is_minus number moment points from to lowered =
    (old : Lowered) × (new : Lowered) × StepsLocal points home is_minus number from to old new × (lowered ≡ at_moment moment old new)

abbrev pub ShiftsObject : Path → CType → Bool → Tree → Moment → List Op → Spot → Spot → Lowered → Type 0
ShiftsObject path c_type is_minus number moment points from to lowered =
    (old : Lowered) × (new : Lowered) × StepsObject points path c_type is_minus number from to old new × (lowered ≡ at_moment moment old new)

abbrev pub ShiftsTarget : Interned → Target → Bool → Tree → Moment → List Op → Spot → Spot → Lowered → Type 0
ShiftsTarget table (Targets.Register home) is_minus number moment = ShiftsLocal (home_in table home) is_minus number moment
ShiftsTarget table (Targets.Memory place) is_minus number moment = ShiftsObject (path_in table place.path.value) (type_in table place.c_type) is_minus number moment

-- an integer is read, computed anew and written; the new value is told from the register of the old one
abbrev pub UpdatesTarget : Interned → Bool → Target → IntType → (Register → Tree) → List Op → Spot → Spot → Lowered → Type 0
UpdatesTarget table used (Targets.Register home) object_type new points from to lowered =
    Emits points (Code.Assign (R.Local home.local) (new (R.Local home.local))) from to × (lowered ≡ AsInteger object_type (Held (R.Local home.local)))
UpdatesTarget table used (Targets.Memory place) object_type new points from to lowered =
    HasOp points from.at (Code.Load (temporary from) (Integer object_type) (path_in table place.path.value))
    × Stores points used (path_in table place.path.value) (Integer object_type) (AsInteger object_type (new (temporary from))) (behind (with_temporary from)) to lowered

-- `++` and `--` of an integer
abbrev pub StepsTarget : Interned → Bool → Stepping → Target → IntType → List Op → Spot → Spot → Lowered → Type 0
StepsTarget table used stepping (Targets.Register home) int_type points from to lowered =
    SteppingCode points used stepping int_type (Some (home_in table home)) (λ from to lowered. ⊥) from to lowered
StepsTarget table used stepping (Targets.Memory place) int_type points from to lowered =
    (new : Lowered) × HasOp points from.at (Code.Load (temporary from) (Integer int_type) (path_in table place.path.value))
    × Stores points (used && not (gives_old stepping)) (path_in table place.path.value) (Integer int_type) (AsInteger int_type (step_tree stepping int_type (temporary from))) (behind (with_temporary from)) to new
    × (lowered ≡ (if gives_old stepping then AsInteger int_type (Held (temporary from)) else new))

-- ---- elements

-- an array whose type is in the table, or a pointer
abbrev pub IsRow : Interned → memory_lowered.Lowered → Type 0
IsRow table (L.Object path c_type) = Stands table c_type × IsArrayType (type_in table c_type)
IsRow table (L.Pointer register target) = Unit {0}
IsRow table _ = ⊥

-- ---- calls of the library

-- a library function takes an argument of this kind
abbrev pub LibraryTakes : LibraryFunction → memory_lowered.Lowered → Type 0
LibraryTakes F.Malloc given = IsInteger given
LibraryTakes F.Free given = IsPointer given
LibraryTakes F.PutChar given = IsInteger given
LibraryTakes F.Exit given = IsInteger given
LibraryTakes F.GetChar given = ⊥
