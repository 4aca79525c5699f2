-- When three-address code is the code of a program.
use Rattle.std.specs.Prelude.{◌≡◌, ℕ, suc, Bool, true, false, if◌then◌else◌, List, [], ◌∷◌, length, Some, None, pos, bytes_eq, codes}
use Rattle.c_typed.specs.Types.{CType, Integer}
use Rattle.c_typed.specs.Typed.{Block, FunctionDef, Program}
use Rattle.tac_ir.specs.declared.program.Counts.{Counts}
use Rattle.tac_ir.specs.declared.register.Local.TheVariants as L
use Rattle.tac_ir.specs.declared.register.Register.TheVariants as R
use Rattle.tac_ir.specs.Code.{Constant, Held, AtLocal, Operand, IntegerOperand, PointerOperand, Known, Op, Function, Tac}
use Rattle.tac_ir.specs.Code as O
use Rattle.tac_build.specs.Homes.{Home, Scope, takes_block, lies_in_memory}
use Rattle.tac_build.specs.Spots.{Spot}
use Rattle.tac_build.specs.Code.{Emits, path_from, function_number}
use Rattle.tac_build.specs.StatementCode.{with_home, BlockCode}

-- ---- parameters

abbrev pub parameter_home : ℕ → CType → Bool → Home
parameter_home number c_type is_taken = record { local = L.Parameter number; is_object = lies_in_memory c_type is_taken; c_type = c_type }

-- an argument of a parameter in memory is stored there
abbrev pub stored_argument : ℕ → CType → Operand
stored_argument number (Integer int_type) = IntegerOperand (Held (R.Local (L.Parameter number)))
stored_argument number c_type = PointerOperand (R.Local (L.Parameter number))

abbrev pub ParameterCode : List Op → Home → ℕ → Spot → Spot → Type 0
ParameterCode points home number from to = by home.is_object
  where
    by : Bool → Type 0
    by false = to ≡ from
    by true = Emits points (O.Store (path_from (AtLocal home.local)) home.c_type (stored_argument number home.c_type)) (with_home home from) to

-- parameters are the first locals, the first of them the oldest
abbrev pub ParametersCode : List Op → Block → List CType → ℕ → Scope → Spot → Spot → Scope → Type 0
ParametersCode points body [] number scope from to inner = (to ≡ from) × (inner ≡ scope)
ParametersCode points body (first ∷ others) number scope from to inner =
    (mid : Spot) × ParameterCode points (parameter_home number first (takes_block number body)) number from mid
    × ParametersCode points body others (suc number) (parameter_home number first (takes_block number body) ∷ scope) mid to inner

-- ---- functions

-- reaching the closing brace of main returns 0 (C17 5.1.2.2.3)
abbrev pub end_of : List ℕ → Op
end_of name = O.Return (if bytes_eq name (codes "main") then Some (IntegerOperand (Constant (pos 0))) else None)

abbrev pub first_spot : Spot
first_spot = record { at = 0; counts = record { variables = 0; calls = 0; arguments = 0; expressions = 0; temporaries = 0 }; objects = [] }

-- the points are the code of the function, and no others are there
pub record FunctionCode (program : Program) (def : FunctionDef) (function : Function) : Type 0 where
  pub name : function.name ≡ def.name
  pub c_type : function.c_type ≡ def.c_type
  pub parameters : function.parameters ≡ length def.parameters
  pub inside : Spot
  pub scope : Scope
  pub last : Spot
  pub end : Spot
  pub entry : ParametersCode function.points def.body def.parameters 0 [] first_spot inside scope
  pub body : BlockCode program function.points scope def.body inside last (record { broken = 0; continued = 0 })
  pub ending : Emits function.points (end_of def.name) last end
  pub points : length function.points ≡ end.at
  pub counts : function.counts ≡ end.counts
  pub objects : function.objects ≡ end.objects

abbrev pub FunctionsCode : Program → List FunctionDef → List Function → Type 0
FunctionsCode program [] [] = Unit {0}
FunctionsCode program (def ∷ defs) (function ∷ functions) = FunctionCode program def function × FunctionsCode program defs functions
FunctionsCode program _ _ = ⊥

-- ---- programs

-- `start` calls `main`, and ends with what that gives
abbrev pub start_points : ℕ → List Op
start_points main = O.Call 0 (Known main) [] ∷ O.Exit (Held (R.Call 0)) ∷ []

-- it has a register for what that gives, and no other
abbrev pub start_counts : Counts
start_counts = record { variables = 0; calls = 1; arguments = 0; expressions = 0; temporaries = 0 }

pub record Code (program : Program) (tac : Tac) : Type 0 where
  pub structs : tac.structs ≡ program.structs
  pub globals : tac.globals ≡ program.globals
  pub literals : tac.literals ≡ program.literals
  pub functions : FunctionsCode program program.functions tac.functions
  pub main : ℕ
  pub named : function_number 0 program.functions (codes "main") ≡ Some main
  pub start : tac.start.points ≡ start_points main
  pub objects : tac.start.objects ≡ []
  pub counts : tac.start.counts ≡ start_counts
  pub parameters : tac.start.parameters ≡ 0
