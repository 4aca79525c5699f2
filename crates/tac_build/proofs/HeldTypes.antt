-- What is read, or what an array decays to, holds a type of the table.
use Rattle.std.proofs.Common.{◌≡◌, ℕ, true, refl, subst}
use Rattle.std.proofs.lemmas.Bool.{false≢true}
use Rattle.std.specs.Prelude.{pos}
use Rattle.c_typed.specs.Types.{CType, Array}
use Rattle.c_typed.specs.Table.{Interned, Stands, type_in}
use Rattle.tac_ir.specs.declared.op.Scalar as memory_scalar
use Rattle.tac_ir.specs.declared.op.Scalar.TheVariants as Scalars
use Rattle.tac_ir.specs.Code as C
use Rattle.tac_ir.specs.Code.{Held}
use Rattle.tac_ir.specs.Views.{path_in, scalar_in}
use Rattle.tac_build.specs.declared.builder.Builder.{Builder}
use Rattle.tac_build.specs.declared.lowered.Lowered as memory_lowered
use Rattle.tac_build.specs.declared.lowered.Place.{Place}
use Rattle.tac_build.specs.declared.lowered.Mode as memory_mode
use Rattle.tac_build.specs.declared.lowered.Mode.TheVariants as N
use Rattle.tac_build.specs.Spots.{is_address, expression, temporary}
use Rattle.tac_build.specs.Code.{GivesPointer, Loads, Decays, then_step}
use Rattle.tac_build.specs.Building.{lowered_in, mode_of, points_in, spot_of, Lowers, LowersIn, ScalarStands}
use Rattle.tac_build.specs.Lowering.{LoweredHolds}
use Rattle.tac_build.proofs.Points.{fills_same}
use Rattle.tac_build.proofs.Everywhere.{holds_integer, holds_pointer}

-- what an object in memory holds
pub loaded_holds : (scalar : memory_scalar.Scalar) (path : Interned → C.Path) (old new : Builder) (lowered : memory_lowered.Lowered)
    → Lowers (λ any points. Loads points (scalar_in any scalar) (path any)) old new lowered → (table : Interned) → ScalarStands table scalar → LoweredHolds table lowered
loaded_holds (Scalars.Integer int_type) path old new lowered code table stands =
    holds_integer table lowered int_type (Held (temporary (spot_of table old))) (code table (points_in table new) (fills_same (points_in table new))).2
loaded_holds (Scalars.Pointer target) path old new lowered code table stands =
    holds_pointer lowered target (λ any. expression (spot_of any old)) (λ any. (code any (points_in any new) (fills_same (points_in any new))).2) table stands

-- an array's first element, in a table
abbrev pub FirstElement : Interned → Place → Place → Type 0
FirstElement table array first =
    Stands table first.c_type × (length : ℕ) × (type_in table array.c_type ≡ Array (type_in table first.c_type) length)
    × (path_in table first.path.value ≡ then_step (path_in table array.path.value) (C.Element (C.Constant (pos 0))))

abbrev pub AddressLowers : Place → Builder → Builder → memory_lowered.Lowered → Type 0
AddressLowers place old new lowered = Lowers (λ any points. GivesPointer points (λ register. C.AddressOf register (path_in any place.path.value)) (type_in any place.c_type)) old new lowered

abbrev pub DecaysTo : Interned → memory_mode.Mode → Place → Builder → Builder → memory_lowered.Lowered → Type 0
DecaysTo table mode array old new lowered =
    LowersIn table (λ points start end lowered. (element : CType) × (count : ℕ) × (type_in table array.c_type ≡ Array element count)
    × Decays points (mode_of mode) (path_in table array.path.value) element count start end lowered) old new lowered

pub decays_address : (table : Interned) (mode : memory_mode.Mode) (array first : Place) (old new : Builder) (lowered : memory_lowered.Lowered) → is_address (mode_of mode) ≡ true
    → ((followed : _) → mode ≡ N.Row followed → ⊥) → FirstElement table array first → AddressLowers first old new lowered → DecaysTo table mode array old new lowered
decays_address table N.Kept array first old new lowered is not_row part code = λ points fills. (
  type_in table first.c_type,
  part.1,
  part.2,
  subst (λ path. GivesPointer points (λ register. C.AddressOf register path) (type_in table first.c_type) (spot_of table old) (spot_of table new) (lowered_in table lowered)) part.3 (code table points fills),
)
decays_address table N.Dropped array first old new lowered is not_row part code = λ points fills. (
  type_in table first.c_type,
  part.1,
  part.2,
  subst (λ path. GivesPointer points (λ register. C.AddressOf register path) (type_in table first.c_type) (spot_of table old) (spot_of table new) (lowered_in table lowered)) part.3 (code table points fills),
)
decays_address table (N.Behind followed) array first old new lowered is not_row part code = absurd (false≢true is)
decays_address table (N.Row followed) array first old new lowered is not_row part code = absurd (not_row followed refl)
