-- The functions of what is emitted of code that fits an image can stand in an image.
use Rattle.std.proofs.Common.{◌≡◌, ℕ, suc, ◌≤◌, List, [], ◌∷◌, map, length, Some, refl, arith}
use Rattle.std.specs.Prelude.{slice_get}
use Rattle.std.specs.List.{AllByRecursion}
use Rattle.std.proofs.lemmas.List.{length-map}
use Rattle.tac_ir.specs.States.{InStart, InFunction}
use Rattle.pool_isa.specs.Ranges.{IsFunction}
use Rattle.image_form.specs.Form.{BeginsWithStart}
use Rattle.pool_ir.specs.Code.{Function, PoolCode}
use Rattle.stack_code.specs.Emitting.{emitted_function, emitted}
use Rattle.stack_code.specs.FitsImage.{FunctionFitsImage, FitsImage}
use Rattle.stack_code.proofs.PointRanges.{code_ranged}
use Rattle.stack_code.proofs.LastInstructions.{code_last}

module _ (kinds functions : ℕ) (few_kinds : kinds ≤ 1048576) (few_functions : functions ≤ 4096) where
  function_ranged : (function : Function) → FunctionFitsImage kinds functions function → IsFunction kinds (suc functions) (emitted_function function)
  function_ranged function fits =
      record {
        parameters = fits.parameters;
        extra = omega (arith, fits.size);
        height = (omega arith, fits.height);
        signature = fits.signature;
        instructions = fits.short;
        operands = code_ranged kinds functions few_kinds few_functions function fits;
        last = code_last functions function (λ number op is. (fits.points number op is).1) fits.begins;
      }

  each_ranged : (fs : List Function) → ((number : ℕ) (function : Function) → slice_get fs number ≡ Some function → FunctionFitsImage kinds functions function) → AllByRecursion (IsFunction kinds (suc functions)) (map emitted_function fs)
  each_ranged [] fits = tt
  each_ranged (function ∷ fs) fits = (function_ranged function (fits 0 function refl), each_ranged fs (λ number. fits (suc number)))

-- each function of what is emitted can stand in an image with these kinds and functions
pub emitted_in_range : (code : PoolCode) → FitsImage code → AllByRecursion (IsFunction (length code.kinds) (suc (length code.functions))) (emitted code).functions
emitted_in_range code fits = (
  function_ranged (length code.kinds) (length code.functions) fits.kinds.0 fits.count code.start (fits.functions InStart code.start refl),
  each_ranged (length code.kinds) (length code.functions) fits.kinds.0 fits.count code.functions (λ number function is. fits.functions (InFunction number) function is),
)

-- there are not too many functions
pub emitted_count : (code : PoolCode) → FitsImage code → length (emitted code).functions ≤ 4097
emitted_count code fits = omega (arith, fits.count, length-map code.functions emitted_function)

-- and the first is entered without parameters
pub emitted_begins : (code : PoolCode) → FitsImage code → BeginsWithStart (emitted code).functions
emitted_begins code fits = fits.start
