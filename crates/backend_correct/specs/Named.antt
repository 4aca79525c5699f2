-- When a part of three-address code names only registers that its function has.
use Rattle.std.specs.Prelude.{⊤, ℕ, ◌<◌, [], ◌∷◌, Option, Some, None}
use Rattle.std.specs.List.{AllByRecursion}
use Rattle.tac_ir.specs.declared.program.Counts.{Counts}
use Rattle.tac_ir.specs.declared.register.Local.TheVariants as L
use Rattle.tac_ir.specs.declared.register.Register.{Register}
use Rattle.tac_ir.specs.declared.register.Register.TheVariants as R
use Rattle.tac_ir.specs.Code.{Tree, Constant, Held, Convert, Complement, Not, Arithmetic, Compare, Base, AtLocal, AtGlobal, AtLiteral, Pointed, Indexed, Step, Member, Element, Path, Operand, IntegerOperand, PointerOperand, Callee, Known, Through, Op}
use Rattle.tac_ir.specs.Code as O
use Rattle.tac_build.specs.Homes.{Scope}
use Rattle.tac_build.specs.Spots.{Lowered, AsInteger, AsPointer, AsObject, AsNothing}

-- the registers of a function: so many parameters, and so many others of each kind
pub record Registers : Type 0 where
  pub parameters : ℕ
  pub counts : Counts

abbrev pub Has : Registers → Register → Type 0
Has all (R.Local (L.Parameter number)) = number < all.parameters
Has all (R.Local (L.Variable number)) = number < all.counts.variables
Has all (R.Call number) = number < all.counts.calls
Has all (R.Argument number) = number < all.counts.arguments
Has all (R.Expression number) = number < all.counts.expressions
Has all (R.Temporary number) = number < all.counts.temporaries

abbrev pub TreeNamed : Registers → Tree → Type 0
TreeNamed all (Constant z) = ⊤
TreeNamed all (Held register) = Has all register
TreeNamed all (Convert int_type operand) = TreeNamed all operand
TreeNamed all (Complement int_type operand) = TreeNamed all operand
TreeNamed all (Not int_type operand) = TreeNamed all operand
TreeNamed all (Arithmetic operator int_type left right) = TreeNamed all left × TreeNamed all right
TreeNamed all (Compare relation int_type left right) = TreeNamed all left × TreeNamed all right

abbrev pub OperandNamed : Registers → Operand → Type 0
OperandNamed all (IntegerOperand tree) = TreeNamed all tree
OperandNamed all (PointerOperand register) = Has all register

abbrev pub BaseNamed : Registers → Base → Type 0
BaseNamed all (AtLocal local) = ⊤
BaseNamed all (AtGlobal number) = ⊤
BaseNamed all (AtLiteral number) = ⊤
BaseNamed all (Pointed pointer target) = Has all pointer
BaseNamed all (Indexed pointer target number) = Has all pointer × TreeNamed all number

abbrev pub StepNamed : Registers → Step → Type 0
StepNamed all (Member number) = ⊤
StepNamed all (Element index) = TreeNamed all index

abbrev pub PathNamed : Registers → Path → Type 0
PathNamed all path = BaseNamed all path.base × AllByRecursion (StepNamed all) path.steps

abbrev pub CalleeNamed : Registers → Callee → Type 0
CalleeNamed all (Known function) = ⊤
CalleeNamed all (Through pointer c_type) = Has all pointer

abbrev pub ValueNamed : Registers → Option Operand → Type 0
ValueNamed all None = ⊤
ValueNamed all (Some value) = OperandNamed all value

abbrev pub OpNamed : Registers → Op → Type 0
OpNamed all O.Reserved = ⊤
OpNamed all (O.Jump to) = ⊤
OpNamed all (O.Branch int_type condition holds fails) = TreeNamed all condition
OpNamed all (O.Assign to tree) = Has all to × TreeNamed all tree
OpNamed all (O.Null to) = Has all to
OpNamed all (O.FunctionAddress to function) = Has all to
OpNamed all (O.Copy to from) = Has all to × Has all from
OpNamed all (O.Test to pointer) = Has all to × Has all pointer
OpNamed all (O.Move to pointer element is_minus number) = Has all to × Has all pointer × TreeNamed all number
OpNamed all (O.Difference to element left right) = Has all to × Has all left × Has all right
OpNamed all (O.ComparePointers to relation left right) = Has all to × Has all left × Has all right
OpNamed all (O.Repoint to target from) = Has all to × Has all from
OpNamed all (O.AddressOf to path) = Has all to × PathNamed all path
OpNamed all (O.Load to scalar path) = Has all to × PathNamed all path
OpNamed all (O.Store path scalar value) = PathNamed all path × OperandNamed all value
OpNamed all (O.Allocate site size) = Has all (R.Call site) × TreeNamed all size
OpNamed all (O.Free site pointer) = Has all pointer
OpNamed all (O.Call site callee arguments) = Has all (R.Call site) × CalleeNamed all callee × AllByRecursion (Has all) arguments
OpNamed all (O.GetChar site) = Has all (R.Call site)
OpNamed all (O.PutChar site value) = Has all (R.Call site) × TreeNamed all value
OpNamed all (O.Exit status) = TreeNamed all status
OpNamed all (O.Return value) = ValueNamed all value

-- what an expression comes to
abbrev pub LoweredNamed : Registers → Lowered → Type 0
LoweredNamed all (AsInteger int_type tree) = TreeNamed all tree
LoweredNamed all (AsPointer register target) = Has all register
LoweredNamed all (AsObject path c_type) = PathNamed all path
LoweredNamed all AsNothing = ⊤

abbrev pub ScopeNamed : Registers → Scope → Type 0
ScopeNamed all [] = ⊤
ScopeNamed all (home ∷ others) = Has all (R.Local home.local) × ScopeNamed all others
