-- The kinds of points: which have types, paths or pools.
use Rattle.std.specs.Prelude.{Bool, true, false}
use Rattle.tac_ir.specs.declared.op.Op.{Op}
use Rattle.tac_ir.specs.declared.op.Op.TheVariants as O

abbrev pub is_control : Op → Bool
is_control O.Reserved = true
is_control (O.Jump to) = true
is_control (O.Branch int_type condition holds fails) = true
is_control (O.Exit status) = true
is_control (O.Return value) = true
is_control op = false

abbrev pub is_pointer : Op → Bool
is_pointer (O.Null to) = true
is_pointer (O.FunctionAddress to function) = true
is_pointer (O.Copy to from) = true
is_pointer (O.Repoint to target from) = true
is_pointer op = false

abbrev pub is_integer : Op → Bool
is_integer (O.Assign to tree) = true
is_integer (O.Test to pointer) = true
is_integer (O.ComparePointers to relation left right) = true
is_integer (O.GetChar site) = true
is_integer (O.PutChar site value) = true
is_integer op = false

abbrev pub is_sized : Op → Bool
is_sized (O.Move to pointer element is_minus number) = true
is_sized (O.Difference to element left right) = true
is_sized op = false

abbrev pub is_access : Op → Bool
is_access (O.Address to path) = true
is_access (O.Load to scalar path) = true
is_access (O.Store path scalar value) = true
is_access op = false

abbrev pub is_pooled : Op → Bool
is_pooled (O.Allocate site size) = true
is_pooled (O.Free site pointer) = true
is_pooled (O.Call site callee arguments) = true
is_pooled op = false
