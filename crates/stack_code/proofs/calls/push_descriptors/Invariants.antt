use Rattle.std.proofs.Common.{◌≡◌, ◌++◌, drop}
use Rattle.std.specs.List.{AllByRecursion}
use Rattle.pool_ir.specs.Views.{descriptors_of, frame_of, function_of}
use Rattle.stack_code.specs.Emitting.{descriptors_code}
use Rattle.stack_code.specs.Standing.{HasDescriptor}
use Rattle.stack_code.proofs.calls.push_descriptors.Given as goal

-- with the descriptors that are left, the code is the whole
abbrev pub invariant-loop-descriptor : goal.invariant-loop-descriptor
invariant-loop-descriptor l = record {
  fits : AllByRecursion (HasDescriptor (frame_of l.function.frame)) (descriptors_of (drop l.descriptor-index l.descriptors));
  code : l.code.items ++ descriptors_code (function_of l.function) (descriptors_of (drop l.descriptor-index l.descriptors)) ≡ l.initial.code.items ++ descriptors_code (function_of l.function) (descriptors_of l.descriptors);
}
