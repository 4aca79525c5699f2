-- What lowering of locals that begin to live, of parameters and of functions asks, and what it promises.
use Rattle.std.specs.Prelude.{◌≡◌, ℕ, suc, ◌<◌, ◌≤◌, Bool, true, List, [], ◌∷◌, map, slice_get, Some}
use Rattle.c_typed.specs.declared.c_type.CType as number
use Rattle.c_typed.specs.declared.statement.LocalDef as memory_local
use Rattle.c_typed.specs.declared.definition.FunctionDef as memory_definition
use Rattle.c_typed.specs.Typed.{Block}
use Rattle.c_typed.specs.Table.{Interned, type_in}
use Rattle.c_typed.specs.DefinitionViews.{FunctionStands, function_in}
use Rattle.c_typed.specs.TypedNodes.{block_nodes, greatest_nodes}
use Rattle.c_typed.specs.Programs.{is_function_def}
use Rattle.tac_ir.specs.declared.register.Local.TheVariants as L
use Rattle.tac_ir.specs.declared.program.Function as memory_function
use Rattle.tac_ir.specs.Views as tac
use Rattle.tac_build.specs.declared.builder.Builder.{Builder}
use Rattle.tac_build.specs.declared.names.Source.{Source}
use Rattle.tac_build.specs.declared.addressed.Addressed.{Addressed}
use Rattle.tac_build.specs.declared.homes.Home as memory_home
use Rattle.tac_build.specs.Homes.{takes_block, lies_in_memory}
use Rattle.tac_build.specs.StatementCode.{new_home}
use Rattle.tac_build.specs.ProgramCode.{ParametersCode, FunctionCode, FunctionsCode}
use Rattle.tac_build.specs.Building.{home_in, spot_of, LeadsIn}
use Rattle.tac_build.specs.Lowering.{program_in, types_of_source, scope_of}

-- ---- locals

-- the home of the next local
abbrev pub IsNewHome : Interned → Builder → memory_local.LocalDef → Bool → memory_home.Home → Type 0
IsNewHome table builder local is_taken home =
    (home_in table home ≡ new_home (spot_of table builder) (type_in table local.c_type) is_taken) × (home.c_type ≡ local.c_type)

-- ---- parameters

-- of which parameters the address is taken in the body
abbrev pub ParametersForetold : Addressed → ℕ → Block → Type 0
ParametersForetold addressed count body = (number : ℕ) → number < count → slice_get addressed.parameters.items number ≡ Some (takes_block number body)

-- where they live
abbrev pub parameter_homes : Interned → Block → ℕ → List number.CType → List memory_home.Home
parameter_homes table body number [] = []
parameter_homes table body number (first ∷ others) =
    record { local = L.Parameter number; is_object = lies_in_memory (type_in table first) (takes_block number body); c_type = first } ∷ parameter_homes table body (suc number) others

abbrev pub ParametersLower : Source → Block → List number.CType → List memory_home.Home → Builder → Builder → Type 0
ParametersLower source body parameters inner old new =
    LeadsIn (types_of_source source) (λ points from to. ParametersCode points body (map (type_in (types_of_source source)) parameters) 0 [] from to (scope_of source inner)) old new

-- ---- functions

-- a function that is well typed, of no more nodes than names have room for
pub record FunctionTyped (source : Source) (definition : memory_definition.FunctionDef) : Type 0 where
  pub stands : FunctionStands (types_of_source source) definition
  pub typed : is_function_def (program_in source) (function_in (types_of_source source) definition) ≡ true
  pub nodes : block_nodes (function_in (types_of_source source) definition).body ≤ greatest_nodes

abbrev pub FunctionLowers : Source → memory_definition.FunctionDef → memory_function.Function → Type 0
FunctionLowers source definition function = FunctionCode (program_in source) (function_in (types_of_source source) definition) (tac.function_in (types_of_source source) function)

abbrev pub FunctionsLower : Source → List memory_function.Function → Type 0
FunctionsLower source functions = FunctionsCode (program_in source) (program_in source).functions (map (tac.function_in (types_of_source source)) functions)
