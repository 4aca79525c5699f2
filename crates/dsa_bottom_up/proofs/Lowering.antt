-- What lowered code names.
use Rattle.std.proofs.Common.{ℕ, pos, []}
use Rattle.c_num.specs.declared.IntType.{IntType}
use Rattle.c_num.specs.declared.IntType.TheVariants as I
use Rattle.c_typed.specs.Types.{CType, Void, Array}
use Rattle.tac_ir.specs.declared.register.Register.{Register}
use Rattle.tac_ir.specs.declared.register.Register.TheVariants as R
use Rattle.tac_ir.specs.Code.{Tree, Constant, Path, AtGlobal}
use Rattle.tac_build.specs.Spots.{Lowered, AsInteger, AsPointer, AsObject}

abbrev pub type_in : Lowered → IntType
type_in (AsInteger own tree) = own
type_in other = I.Int

abbrev pub tree_in : Lowered → Tree
tree_in (AsInteger own tree) = tree
tree_in other = Constant (pos 0)

abbrev pub register_in : Lowered → Register
register_in (AsPointer register target) = register
register_in other = R.Call 0

abbrev pub target_in : Lowered → CType
target_in (AsPointer register target) = target
target_in other = Void

abbrev pub path_in : Lowered → Path
path_in (AsObject path own) = path
path_in other = record { base = AtGlobal 0; steps = [] }

abbrev pub object_in : Lowered → CType
object_in (AsObject path own) = own
object_in other = Void

abbrev pub element_in : CType → CType
element_in (Array element count) = element
element_in other = Void

abbrev pub count_in : CType → ℕ
count_in (Array element count) = count
count_in other = 0
