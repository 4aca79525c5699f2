-- What lowering has made of the first of several arguments.
use Rattle.std.specs.Prelude.{◌≡◌, true, ◌+◌, ◌≤◌, List, ◌++◌, Some}
use Rattle.c_typed.specs.declared.typed.Value as memory_value
use Rattle.c_typed.specs.Types.{CTypes}
use Rattle.c_typed.specs.Views.{values_in}
use Rattle.c_typed.specs.TypedNodes.{values_nodes}
use Rattle.c_typed.specs.Expressions.{types_of, all_scalar}
use Rattle.tac_ir.specs.declared.register.Register.{Register}
use Rattle.tac_ir.specs.Code.{Op}
use Rattle.tac_build.specs.declared.builder.Builder.{Builder}
use Rattle.tac_build.specs.declared.names.Source.{Source}
use Rattle.tac_build.specs.declared.homes.Home as memory_home
use Rattle.tac_build.specs.Homes.{takes_any}
use Rattle.tac_build.specs.Spots.{Spot}
use Rattle.tac_build.specs.Code.{ArgumentsCode}
use Rattle.tac_build.specs.Building.{Fills, Grows, points_in, spot_of, names_of}
use Rattle.tac_build.specs.Lowering.{names_for, program_in, types_of_source, scope_of, context_in, ValuesTyped, LieInMemory}

-- The rest is typed as all are, and its code makes the code of all.
pub record Passes (source : Source) (scope : List memory_home.Home) (values rest : List memory_value.Value) (old now : Builder) (done : List Register) : Type 0 where
  pub typed : ValuesTyped source scope rest
  pub scalars : (c_types : CTypes) → types_of (context_in source scope) (values_in (types_of_source source) rest) ≡ Some c_types → all_scalar c_types ≡ true
  pub lives : LieInMemory (scope_of source scope) (λ number. takes_any number (values_in (types_of_source source) rest))
  pub code : (points : List Op) → Fills (points_in (types_of_source source) now) points → (to : Spot) (others : List Register)
      → ArgumentsCode (program_in source) points (scope_of source scope) (values_in (types_of_source source) rest) (spot_of (types_of_source source) now) to others
      → ArgumentsCode (program_in source) points (scope_of source scope) (values_in (types_of_source source) values) (spot_of (types_of_source source) old) to (done ++ others)
  pub grows : Grows old now
  pub adds : names_of now.counts + names_for (values_nodes (values_in (types_of_source source) rest)) ≤ names_of old.counts + names_for (values_nodes (values_in (types_of_source source) values))
