-- What emission needs holds of code that fits an image.
use Rattle.std.proofs.Common.{◌≡◌, ℕ, ◌≤◌, length, Some, arith}
use Rattle.tac_ir.specs.States.{Owner}
use Rattle.pool_ir.specs.Code.{Callee, Known, Through, Op, Function, PoolCode}
use Rattle.pool_ir.specs.Code as O
use Rattle.pool_ir.specs.States.{function_of}
use Rattle.stack_code.specs.FitsImage.{CalleeInRange, OpInRange, FunctionFitsImage, FitsImage}
use Rattle.stack_code.specs.Fits.{NamesFit, UnitFits}

callee_fits : (functions : ℕ) → functions ≤ 4096 → (callee : Callee) → CalleeInRange functions callee → CalleeInRange 4096 callee
callee_fits functions few (Known function) within = omega arith
callee_fits functions few (Through pointer signature) within = within

names_fit : (functions points number : ℕ) → functions ≤ 4096 → (op : Op) → OpInRange functions points number op → NamesFit points number op
names_fit functions points number few (O.Call site callee arguments pools) named = (named.0, callee_fits functions few callee named.1)
names_fit functions points number few O.Reserved named = named
names_fit functions points number few (O.Jump to) named = named
names_fit functions points number few (O.Branch int_type condition holds fails) named = named
names_fit functions points number few (O.Assign to tree) named = named
names_fit functions points number few (O.Null to) named = named
names_fit functions points number few (O.FunctionAddress to other) named = named
names_fit functions points number few (O.Copy to from) named = named
names_fit functions points number few (O.Test to pointer) named = named
names_fit functions points number few (O.Move to pointer size is_minus count) named = named
names_fit functions points number few (O.Difference to size left right) named = named
names_fit functions points number few (O.ComparePointers to relation left right) named = named
names_fit functions points number few (O.AddressOf to path) named = named
names_fit functions points number few (O.Load to slot path) named = named
names_fit functions points number few (O.Store path slot value) named = named
names_fit functions points number few (O.Allocate site size pool) named = named
names_fit functions points number few (O.Free site pointer pool) named = named
names_fit functions points number few (O.GetChar site) named = named
names_fit functions points number few (O.PutChar site value) named = named
names_fit functions points number few (O.Exit status) named = named
names_fit functions points number few (O.Return value) named = named

unit_fits : (kinds functions : ℕ) (function : Function) → functions ≤ 4096 → FunctionFitsImage kinds functions function → UnitFits function
unit_fits kinds functions function few fits = record {
  frame = record {
    taken = fits.taken;
    words = fits.words;
    size = fits.size;
    entering = fits.entering.0;
    leaving = fits.leaving.0;
    edges = λ from to. (fits.edges from to).0;
  };
  parameters = fits.parameters;
  height = fits.height;
  signature = fits.signature;
  points = λ number op is. let own = fits.points number op is in record { fits = own.0; names = names_fit functions (length function.points) number few op own.1 };
}

-- each function of the code fits a unit
pub each_unit_fits : (code : PoolCode) → FitsImage code → (owner : Owner) (function : Function) → function_of code owner ≡ Some function → UnitFits function
each_unit_fits code fits owner function is = unit_fits (length code.kinds) (length code.functions) function fits.count (fits.functions owner function is)
