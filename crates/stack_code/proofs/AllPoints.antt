-- Each point is followed.
use Rattle.std.proofs.Common.{◌≡◌, Some}
use Rattle.std.specs.Prelude.{slice_get}
use Rattle.pool_isa.specs.Machine as M
use Rattle.pool_ir.specs.Code.{Op, PoolCode}
use Rattle.pool_ir.specs.Code as O
use Rattle.pool_ir.specs.States as P
use Rattle.stack_code.specs.Standing.{Stands}
use Rattle.stack_code.specs.Fitting.{CodeFits}
use Rattle.stack_code.specs.Following.{PointFollows}
use Rattle.stack_code.proofs.PoolStack.Points.{assign, null, function_address, copy, test, move, difference, compare_pointers, address_of, reserved, jump, exit, get_char, put_char}
use Rattle.stack_code.proofs.BranchPoints.{branch}
use Rattle.stack_code.proofs.MemoryPoints.{load, store}
use Rattle.stack_code.proofs.PoolPoints.{allocate, free}
use Rattle.stack_code.proofs.CallPoints.{calls}
use Rattle.stack_code.proofs.ReturnPoints.{returns}

module _ (code : PoolCode) (most : _) (fits : CodeFits most code) (state : P.State) (machine : M.State) (stands : Stands code state machine) where
  pub each_point : (op : Op) → slice_get (P.points_of (P.function_of code state.running.owner)) state.running.at ≡ Some op → PointFollows code most state machine op
  each_point O.Reserved is = reserved code most fits state machine stands is
  each_point (O.Jump to) is = jump code most fits state machine stands to is
  each_point (O.Branch int_type condition holds fails) is = branch code most fits state machine stands int_type condition holds fails is
  each_point (O.Assign to tree) is = assign code most fits state machine stands to tree is
  each_point (O.Null to) is = null code most fits state machine stands to is
  each_point (O.FunctionAddress to number) is = function_address code most fits state machine stands to number is
  each_point (O.Copy to from) is = copy code most fits state machine stands to from is
  each_point (O.Test to pointer) is = test code most fits state machine stands to pointer is
  each_point (O.Move to pointer size is_minus number) is = move code most fits state machine stands to pointer size is_minus number is
  each_point (O.Difference to size left right) is = difference code most fits state machine stands to size left right is
  each_point (O.ComparePointers to relation left right) is = compare_pointers code most fits state machine stands to relation left right is
  each_point (O.AddressOf to path) is = address_of code most fits state machine stands to path is
  each_point (O.Load to slot path) is = load code most fits state machine stands to slot path is
  each_point (O.Store path slot value) is = store code most fits state machine stands path slot value is
  each_point (O.Allocate site size pool) is = allocate code most fits state machine stands site size pool is
  each_point (O.Free site pointer pool) is = free code most fits state machine stands site pointer pool is
  each_point (O.Call site callee arguments pools) is = calls code most fits state machine stands site callee arguments pools is
  each_point (O.GetChar site) is = get_char code most fits state machine stands site is
  each_point (O.PutChar site value) is = put_char code most fits state machine stands site value is
  each_point (O.Exit status) is = exit code most fits state machine stands status is
  each_point (O.Return value) is = returns code most fits state machine stands value is
