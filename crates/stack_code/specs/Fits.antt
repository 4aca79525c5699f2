-- What emission needs of a function: words for what it names, and numbers in the ranges of instructions and units.
use Rattle.std.specs.Prelude.{◌≡◌, ℕ, ◌^◌, ◌<◌, ◌≤◌, List, length, slice_get, slice_index, Some}
use Rattle.std.specs.List.{AllByRecursion}
use Rattle.pool_ir.specs.Code.{Op, Function}
use Rattle.pool_ir.specs.Frames.{objects_start}
use Rattle.pool_ir.specs.States.{actions_from}
use Rattle.stack_code.specs.Standing.{greatest_frame}
use Rattle.stack_code.specs.Fitting.{OpFits, ActionFits}
use Rattle.stack_code.specs.Emitting.{place_of, words_taken, height_of}
use Rattle.stack_code.specs.FitsImage.{OpInRange}

-- the frame has words for what is named on the ways through a function
pub record FrameServes (function : Function) : Type 0 where
  pub taken : function.taken ≤ function.frame.descriptors
  pub words : objects_start function.frame ≤ function.frame.size
  pub size : function.frame.size ≤ greatest_frame
  pub entering : AllByRecursion (ActionFits function.frame) function.entering
  pub leaving : AllByRecursion (ActionFits function.frame) function.leaving
  pub edges : (from to : ℕ) → AllByRecursion (ActionFits function.frame) (actions_from function.edges from to)

-- what a point names is there, among so many points and in a program of at most 4,096 functions
abbrev pub NamesFit : ℕ → ℕ → Op → Type 0
NamesFit points number op = OpInRange 4096 points number op

-- the same, among some points
abbrev pub NumbersFit : Op → Type 0
NumbersFit op = (points : ℕ) × (number : ℕ) × NamesFit points number op

pub record PointFits (function : Function) (number : ℕ) (op : Op) : Type 0 where
  pub fits : OpFits function.frame op
  pub names : NamesFit (length function.points) number op

pub record UnitFits (function : Function) : Type 0 where
  pub frame : FrameServes function
  pub parameters : words_taken function ≤ 320
  pub height : height_of function ≤ 65536
  pub signature : function.signature < 2 ^ 32
  pub points : (number : ℕ) (op : Op) → slice_get function.points number ≡ Some op → PointFits function number op

-- ---- tables of places

-- no number of the table is so great that what a block adds to it has no room
abbrev pub AreLow : List ℕ → Type 0
AreLow places = (number : ℕ) → number < length places → slice_index places number < 2 ^ 63

-- where the blocks of the points begin
pub record ArePlaces (function : Function) (places : List ℕ) : Type 0 where
  pub count : length places ≡ length function.points
  pub low : AreLow places
  pub each : (number : ℕ) → number < length function.points → slice_index places number ≡ place_of function number
