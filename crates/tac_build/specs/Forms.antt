-- What the code of an expression comes to, by its type, and which registers that names.
use Rattle.std.specs.Prelude.{◌≡◌, ℕ, suc, ◌<◌, ◌≤◌, Bool, true, false, List, [], ◌∷◌}
use Rattle.c_num.specs.declared.IntType.{IntType}
use Rattle.c_typed.specs.Types.{CType, Void, Integer, Pointer, Array, is_pointer}
use Rattle.c_typed.specs.Typed.{Program, Values, NoValues, MoreValues}
use Rattle.c_typed.specs.Context.{Context}
use Rattle.tac_ir.specs.declared.program.Counts.{Counts}
use Rattle.tac_ir.specs.declared.register.Register.{Register}
use Rattle.tac_ir.specs.declared.register.Register.TheVariants as R
use Rattle.tac_ir.specs.Code.{Tree, Constant, Held, Convert, Complement, Not, Arithmetic, Compare, Base, AtLocal, AtGlobal, AtLiteral, Pointed, Indexed, Step, Member, Element, Path, Callee, Known, Through}
use Rattle.tac_build.specs.Homes.{Scope}
use Rattle.tac_build.specs.Spots.{Spot, Lowered, AsInteger, AsPointer, AsObject, AsNothing, Mode, Kept, Dropped, Behind, Row}

-- ---- types

abbrev pub scope_types : Scope → List CType
scope_types [] = []
scope_types (home ∷ scope) = home.c_type ∷ scope_types scope

abbrev pub context_of : Program → Scope → Context
context_of program scope = record { program = program; locals = scope_types scope }

-- ---- forms

-- no value: none is there, or an integer isn't needed
abbrev pub NothingForm : Mode → CType → Type 0
NothingForm Dropped t = is_pointer t ≡ false
NothingForm mode t = t ≡ Void

-- an object: that to which the pointer would point, or the row
abbrev pub ObjectForm : Mode → CType → CType → Type 0
ObjectForm (Behind followed) own t = t ≡ Pointer own
ObjectForm (Row followed) own t = (element : CType) × (count : ℕ) × (own ≡ Array element count) × (t ≡ Pointer element)
ObjectForm mode own t = ⊥

-- what the code of a value of a type comes to
abbrev pub HasForm : Mode → Lowered → CType → Type 0
HasForm mode (AsInteger own tree) t = t ≡ Integer own
HasForm mode (AsPointer register target) t = t ≡ Pointer target
HasForm mode (AsObject path own) t = ObjectForm mode own t
HasForm mode AsNothing t = NothingForm mode t

-- where its address is kept, a pointer to the object
abbrev pub AddressForm : Bool → CType → CType → Type 0
AddressForm true target t = t ≡ target
AddressForm false target t = ⊥

-- what the code of an object of a type comes to
abbrev pub HasObjectForm : Bool → Lowered → CType → Type 0
HasObjectForm is_kept (AsObject path own) t = t ≡ own
HasObjectForm is_kept (AsPointer register target) t = AddressForm is_kept target t
HasObjectForm is_kept (AsInteger own tree) t = ⊥
HasObjectForm is_kept AsNothing t = ⊥

-- the type of a pointer that is called
abbrev pub CalleeForm : Callee → CType → Type 0
CalleeForm (Known number) t = Unit {0}
CalleeForm (Through register c_type) t = t ≡ c_type

abbrev pub count_of : Values → ℕ
count_of NoValues = 0
count_of (MoreValues first others) = suc (count_of others)

-- ---- names

-- a register that was named before a spot; those of locals change
abbrev pub IsBefore : Counts → Register → Type 0
IsBefore counts (R.Local local) = ⊥
IsBefore counts (R.Call number) = number < counts.calls
IsBefore counts (R.Argument number) = number < counts.arguments
IsBefore counts (R.Expression number) = number < counts.expressions
IsBefore counts (R.Temporary number) = number < counts.temporaries

-- a register that was named before, or a local
abbrev pub IsNamed : Counts → Register → Type 0
IsNamed counts (R.Local local) = Unit {0}
IsNamed counts (R.Call number) = number < counts.calls
IsNamed counts (R.Argument number) = number < counts.arguments
IsNamed counts (R.Expression number) = number < counts.expressions
IsNamed counts (R.Temporary number) = number < counts.temporaries

-- no local, so that later code doesn't write it
abbrev pub IsStable : Register → Type 0
IsStable (R.Local local) = ⊥
IsStable (R.Call number) = Unit {0}
IsStable (R.Argument number) = Unit {0}
IsStable (R.Expression number) = Unit {0}
IsStable (R.Temporary number) = Unit {0}

-- of each register in a tree
abbrev pub TreeHolds : (Register → Type 0) → Tree → Type 0
TreeHolds Holds (Constant z) = Unit {0}
TreeHolds Holds (Held register) = Holds register
TreeHolds Holds (Convert int_type operand) = TreeHolds Holds operand
TreeHolds Holds (Complement int_type operand) = TreeHolds Holds operand
TreeHolds Holds (Not int_type operand) = TreeHolds Holds operand
TreeHolds Holds (Arithmetic operator int_type left right) = TreeHolds Holds left × TreeHolds Holds right
TreeHolds Holds (Compare relation int_type left right) = TreeHolds Holds left × TreeHolds Holds right

-- of the pointer of a path, and of each register in its trees
abbrev pub BaseHolds : (Register → Type 0) → (Register → Type 0) → Base → Type 0
BaseHolds Pointers Trees (AtLocal local) = Unit {0}
BaseHolds Pointers Trees (AtGlobal number) = Unit {0}
BaseHolds Pointers Trees (AtLiteral number) = Unit {0}
BaseHolds Pointers Trees (Pointed pointer target) = Pointers pointer
BaseHolds Pointers Trees (Indexed pointer target number) = Pointers pointer × TreeHolds Trees number

abbrev pub StepHolds : (Register → Type 0) → Step → Type 0
StepHolds Trees (Member number) = Unit {0}
StepHolds Trees (Element index) = TreeHolds Trees index

abbrev pub StepsHold : (Register → Type 0) → List Step → Type 0
StepsHold Trees [] = Unit {0}
StepsHold Trees (step ∷ others) = StepHolds Trees step × StepsHold Trees others

abbrev pub PathHolds : (Register → Type 0) → (Register → Type 0) → Path → Type 0
PathHolds Pointers Trees path = BaseHolds Pointers Trees path.base × StepsHold Trees path.steps

abbrev pub TreeNamed : Counts → Tree → Type 0
TreeNamed counts tree = TreeHolds (IsNamed counts) tree

abbrev pub PathNamed : Counts → Path → Type 0
PathNamed counts path = PathHolds (IsBefore counts) (IsNamed counts) path

abbrev pub LoweredNamed : Counts → Lowered → Type 0
LoweredNamed counts (AsInteger own tree) = TreeNamed counts tree
LoweredNamed counts (AsPointer register target) = IsBefore counts register
LoweredNamed counts (AsObject path own) = PathNamed counts path
LoweredNamed counts AsNothing = Unit {0}

abbrev pub CalleeNamed : Counts → Callee → Type 0
CalleeNamed counts (Known number) = Unit {0}
CalleeNamed counts (Through register c_type) = IsBefore counts register

abbrev pub RegistersNamed : Counts → List Register → Type 0
RegistersNamed counts [] = Unit {0}
RegistersNamed counts (register ∷ others) = IsBefore counts register × RegistersNamed counts others

-- From a spot to a spot new points and registers are added; variables and objects are those of declarations.
pub record SpotGrows (from to : Spot) : Type 0 where
  pub at : from.at ≤ to.at
  pub variables : to.counts.variables ≡ from.counts.variables
  pub calls : from.counts.calls ≤ to.counts.calls
  pub arguments : from.counts.arguments ≤ to.counts.arguments
  pub expressions : from.counts.expressions ≤ to.counts.expressions
  pub temporaries : from.counts.temporaries ≤ to.counts.temporaries
  pub objects : to.objects ≡ from.objects

-- code only names what is there
pub record Names (from to : Spot) (lowered : Lowered) : Type 0 where
  pub grows : SpotGrows from to
  pub named : LoweredNamed to.counts lowered

-- ---- paths that last

abbrev pub TreeStable : Tree → Type 0
TreeStable tree = TreeHolds IsStable tree

abbrev pub PathStable : Path → Type 0
PathStable path = PathHolds IsStable IsStable path

abbrev pub StableWhere : Bool → Path → Type 0
StableWhere true path = PathStable path
StableWhere false path = Unit {0}

-- an object comes of no value that is kept
abbrev pub StablePath : Mode → Path → Type 0
StablePath Kept path = ⊥
StablePath Dropped path = ⊥
StablePath (Behind followed) path = StableWhere followed path
StablePath (Row followed) path = StableWhere followed path

-- where more code follows, the path names no local in a register
abbrev pub IsFixed : Mode → Lowered → Type 0
IsFixed mode (AsInteger own tree) = Unit {0}
IsFixed mode (AsPointer register target) = Unit {0}
IsFixed mode (AsObject path own) = StablePath mode path
IsFixed mode AsNothing = Unit {0}

abbrev pub IsObjectFixed : Bool → Lowered → Type 0
IsObjectFixed followed (AsInteger own tree) = Unit {0}
IsObjectFixed followed (AsPointer register target) = Unit {0}
IsObjectFixed followed (AsObject path own) = StableWhere followed path
IsObjectFixed followed AsNothing = Unit {0}

-- no point and no register are added for an integer
pub record AddsNone (from to : Spot) (lowered : Lowered) : Type 0 where
  pub stays : to ≡ from
  pub own : IntType
  pub tree : Tree
  pub is : lowered ≡ AsInteger own tree

-- what an expression comes to names no local
abbrev pub LoweredStable : Lowered → Type 0
LoweredStable (AsInteger own tree) = TreeStable tree
LoweredStable (AsPointer register target) = Unit {0}
LoweredStable (AsObject path own) = PathStable path
LoweredStable AsNothing = Unit {0}
