-- When code with pools fits an image: what it names is there, and its numbers are in the ranges of an image's fields.
use Rattle.std.specs.Prelude.{◌≡◌, ⊤, ℕ, suc, ◌+◌, ◌^◌, ◌<◌, ◌≤◌, List, length, slice_get, Some}
use Rattle.std.specs.List.{AllByRecursion}
use Rattle.tac_ir.specs.States.{Owner}
use Rattle.pool_isa.specs.Machine.{globals_start}
use Rattle.pool_ir.specs.Code.{Base, AtFrame, AtGlobals, Pointed, Indexed, Step, Member, Element, Path, Callee, Known, Through, Op, Action, Make, Destroy, Function, PoolCode}
use Rattle.pool_ir.specs.Code as O
use Rattle.pool_ir.specs.Frames.{objects_start}
use Rattle.pool_ir.specs.States.{actions_from, function_of}
use Rattle.pool_ir.specs.Meaning.{function_word}
use Rattle.image_form.specs.Form.{IsKind}
use Rattle.stack_code.specs.Standing.{greatest_frame}
use Rattle.stack_code.specs.Emitting.{function_code, height_of, words_taken}
use Rattle.stack_code.specs.Fitting.{OpFits, ActionFits}

-- ---- numbers that stand in instructions

abbrev pub BaseInRange : Base → Type 0
BaseInRange (AtFrame offset) = ⊤
BaseInRange (AtGlobals offset) = globals_start + offset < 2 ^ 64
BaseInRange (Pointed pointer) = ⊤
BaseInRange (Indexed pointer size number) = size < 2 ^ 64

abbrev pub StepInRange : Step → Type 0
StepInRange (Member offset) = offset < 2 ^ 64
StepInRange (Element size index) = size < 2 ^ 64

abbrev pub PathInRange : Path → Type 0
PathInRange path = BaseInRange path.base × AllByRecursion StepInRange path.steps

-- the program has so many functions
abbrev pub CalleeInRange : ℕ → Callee → Type 0
CalleeInRange functions (Known function) = function < functions
CalleeInRange functions (Through pointer signature) = signature < 2 ^ 64

-- What is named is there, where the program has so many functions and the function so many points: the points that follow this one of a
-- number, and the functions.
abbrev pub OpInRange : ℕ → ℕ → ℕ → Op → Type 0
OpInRange functions points number O.Reserved = ⊤
OpInRange functions points number (O.Jump to) = to < points
OpInRange functions points number (O.Branch int_type condition holds fails) = (holds < points) × (fails < points)
OpInRange functions points number (O.Exit status) = ⊤
OpInRange functions points number (O.Return value) = ⊤
OpInRange functions points number (O.FunctionAddress to function) = (suc number < points) × (function_word function < 2 ^ 64)
OpInRange functions points number (O.Move to pointer size is_minus count) = (suc number < points) × (size < 2 ^ 64)
OpInRange functions points number (O.Difference to size left right) = (suc number < points) × (size < 2 ^ 64)
OpInRange functions points number (O.AddressOf to path) = (suc number < points) × PathInRange path
OpInRange functions points number (O.Load to slot path) = (suc number < points) × PathInRange path
OpInRange functions points number (O.Store path slot value) = (suc number < points) × PathInRange path
OpInRange functions points number (O.Call site callee arguments pools) = (suc number < points) × CalleeInRange functions callee
OpInRange functions points number op = suc number < points

-- so many kinds of pools are there
abbrev pub KindIsThere : ℕ → Action → Type 0
KindIsThere kinds (Make descriptor kind) = kind < kinds
KindIsThere kinds (Destroy descriptor) = ⊤

-- ---- functions and programs

-- the actions name descriptors and kinds that are there
abbrev pub ActionsFit : ℕ → Function → List Action → Type 0
ActionsFit kinds function actions = AllByRecursion (ActionFits function.frame) actions × AllByRecursion (KindIsThere kinds) actions

pub record FunctionFitsImage (kinds functions : ℕ) (function : Function) : Type 0 where
  pub taken : function.taken ≤ function.frame.descriptors
  pub parameters : words_taken function ≤ 320
  pub words : objects_start function.frame ≤ function.frame.size
  pub size : function.frame.size ≤ greatest_frame
  pub height : height_of function ≤ 65536
  pub signature : function.signature < 2 ^ 32
  pub short : length (function_code function) < 2 ^ 32
  pub begins : 0 < length function.points
  pub points : (number : ℕ) (op : Op) → slice_get function.points number ≡ Some op → OpFits function.frame op × OpInRange functions (length function.points) number op
  pub entering : ActionsFit kinds function function.entering
  pub leaving : ActionsFit kinds function function.leaving
  pub edges : (from to : ℕ) → ActionsFit kinds function (actions_from function.edges from to)

pub record FitsImage (code : PoolCode) : Type 0 where
  pub functions : (owner : Owner) (function : Function) → function_of code owner ≡ Some function → FunctionFitsImage (length code.kinds) (length code.functions) function
  pub count : length code.functions ≤ 4096
  pub start : words_taken code.start ≡ 0
  pub kinds : (length code.kinds ≤ 1048576) × AllByRecursion IsKind code.kinds
  pub globals : code.globals ≤ 1073741824
  pub contents : length code.contents ≤ code.globals
  pub bytes : AllByRecursion (λ byte. byte < 256) code.contents
