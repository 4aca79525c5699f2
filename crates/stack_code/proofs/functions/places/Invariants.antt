use Rattle.std.proofs.Common.{◌≡◌, ℕ, ◌<◌, ◌^◌, ◌++◌, length, map, take}
use Rattle.std.specs.Prelude.{slice_index}
use Rattle.pool_ir.specs.Views.{function_of, op_of}
use Rattle.stack_code.specs.Emitting.{opening, blocks, place_of}
use Rattle.stack_code.proofs.functions.places.Given as goal

-- the blocks before the number are appended, and the table has their places
abbrev pub invariant-loop-number : goal.invariant-loop-number
invariant-loop-number l = record {
  code : l.code.items ≡ opening (function_of l.function) ++ blocks (slice_index l.nowhere.items) (function_of l.function) 0 (take l.number (map op_of l.function.points.items));
  count : length l.places.items ≡ l.number;
  each : (k : ℕ) → k < length l.places.items → (slice_index l.places.items k < 2 ^ 63) × (slice_index l.places.items k ≡ place_of (function_of l.function) k);
}
