-- The code begins in `start`, before its call of `main`, in a state that stands for the first state of the reference.
use Rattle.std.proofs.Common.{◌≡◌, ℕ, suc, ◌+◌, Bool, true, false, if◌then◌else◌, List, [], ◌∷◌, Option, Some, None, refl, ap, ◌∙◌, arith}
use Rattle.std.specs.Prelude.{slice_get, bytes_eq}
use Rattle.std.proofs.lemmas.Option.{none-some, same_Some}
use Rattle.c_typed.specs.Typed.{FunctionDef, Program}
use Rattle.c_typed.specs.Programs.{IsWellTyped}
use Rattle.c_typed.specs.Sizes.{HasStorableTypes}
use Rattle.ref_semantics.specs.Values as V
use Rattle.ref_semantics.specs.Meaning.{Calls}
use Rattle.ref_semantics.specs.First.{first_state}
use Rattle.ref_semantics.proofs.ProgramsKeep.{first_sound}
use Rattle.tac_ir.specs.Code.{Function, Tac}
use Rattle.tac_ir.specs.States.{InStart}
use Rattle.tac_ir.specs.First.{initial}
use Rattle.tac_build.specs.Code.{function_number}
use Rattle.tac_build.specs.ProgramCode.{FunctionsCode, Code, start_points}
use Rattle.tac_simulation.specs.Standing.{Placement, Frame, At}
use Rattle.tac_simulation.proofs.Spotting.{Runs}
use Rattle.tac_simulation.proofs.Evaluating.{AtSpot}
use Rattle.tac_simulation.proofs.FirstStands.{first_stands}

-- the activation of `start`
abbrev pub start_frame : Frame
start_frame = record { owner = InStart; number = 0; objects = []; callers = [] }

-- no local lies in memory yet, and none is hidden
abbrev pub none_placed : Placement
none_placed number = None

abbrev pub none_hidden : ℕ → Option V.Content
none_hidden number = None

-- a function that has a number is there
number_known : (program : Program) (defs : List FunctionDef) (functions : List Function) → FunctionsCode program defs functions → (from number : ℕ) (name : List ℕ) → function_number from defs name ≡ Some number
    → (place : ℕ) × (number ≡ from + place) × ((function : Function) × (slice_get functions place ≡ Some function))
number_known program [] [] code from number name is = absurd (none-some number is)
number_known program [] (function ∷ functions) code from number name is = absurd code
number_known program (def ∷ defs) [] code from number name is = absurd code
number_known program (def ∷ defs) (function ∷ functions) code from number name is = by (bytes_eq def.name name) is (number_known program defs functions code.1 (suc from) number name)
  where
    by : (b : Bool) → (if b then Some from else function_number (suc from) defs name) ≡ Some number
        → (function_number (suc from) defs name ≡ Some number → (place : ℕ) × (number ≡ suc from + place) × ((function : Function) × (slice_get functions place ≡ Some function)))
        → (place : ℕ) × (number ≡ from + place) × ((function' : Function) × (slice_get (function ∷ functions) place ≡ Some function'))
    by true is rest = let same = same_Some from number is in (0, omega (arith, same), (function, refl))
    by false is rest = let inner = rest is in let same = inner.1 in (suc inner.0, omega (arith, same), (inner.2.0, inner.2.1))

module _ (program : Program) (tac : Tac) (coded : Code program tac) where
  pub start_runs : Runs tac program (start_points coded.main) start_frame
  start_runs = record {
    points_are = coded.start;
    objects_are = coded.objects;
    structs = coded.structs;
    globals = coded.globals;
    literals = coded.literals;
    known = λ number name is.
        let found = number_known program program.functions tac.functions coded.functions 0 number name is in
        let place = found.1 in
        (found.2.0, ap (slice_get tac.functions) (omega (arith, place)) ∙ found.2.1);
  }

  module _ (well : IsWellTyped program) (input : List ℕ) (units : ℕ) where
    pub at_start : At program none_placed none_hidden start_frame [] 0 (first_state program input units) (initial tac input)
    at_start = record {
      stands = first_stands program tac coded well input units;
      homes = tt;
      own = record { there = λ local inner is. absurd (none-some inner is); in_scope = λ number local is. absurd (none-some _ is) };
      point = refl;
      owner = refl;
      number = refl;
      callers = refl;
      paid = refl;
    }

    pub spot_at_start : HasStorableTypes program → (calls : Calls) (worth : ℕ) → AtSpot tac program calls worth (start_points coded.main) none_placed none_hidden start_frame [] 0 (first_state program input units) (initial tac input)
    spot_at_start storable calls worth = record { stands = at_start; sound = first_sound program well storable input units }
