-- Each point goes in step, and so each step of code with pools that serve it.
use Rattle.std.proofs.Common.{ℕ, refl}
use Rattle.tac_ir.specs.States as T
use Rattle.tac_ir.specs.Meaning.{act}
use Rattle.tac_ir.specs.Code as O
use Rattle.tac_ir.specs.Code.{Tac}
use Rattle.pool_ir.specs.States as P
use Rattle.pool_ir.specs.Meaning as M
use Rattle.pool_rewrite.specs.Plan.{Plan}
use Rattle.pool_simulation.specs.Serving.{code_of, StandsAt, Serves}
use Rattle.pool_simulation.proofs.Stepping.{Ready, PointDoes, StepDoes}
use Rattle.pool_simulation.proofs.Readiness.{ready}
use Rattle.pool_simulation.proofs.RegisterPoints.{assign_does, null_does, function_does, copy_does, test_does, move_does, difference_does, compare_does, address_does, get_char_does, put_char_does}
use Rattle.pool_simulation.proofs.ControlPoints.{reserved_does, jump_does, branch_does, exit_does}
use Rattle.pool_simulation.proofs.RepointPoints.{repoint_does}
use Rattle.pool_simulation.proofs.LoadPoints.{load_does}
use Rattle.pool_simulation.proofs.StorePoints.{store_does}
use Rattle.pool_simulation.proofs.AllocatePoints.{allocate_does}
use Rattle.pool_simulation.proofs.FreePoints.{free_does}
use Rattle.pool_simulation.proofs.CallPoints.{call_does}
use Rattle.pool_simulation.proofs.ReturnPoints.{return_does}
use Rattle.pool_simulation.proofs.WholeSteps.{act_does, step_comes}
use Rattle.pool_simulation.proofs.Locking.{Related}

point_does : (tac : Tac) (plan : Plan) (slabs : ℕ) (state : T.State) (machine : P.State) → Ready tac plan slabs state machine → (op : O.Op) → StandsAt tac state op → PointDoes tac plan slabs state machine op
point_does tac plan slabs state machine is O.Reserved at = reserved_does tac plan slabs state machine is
point_does tac plan slabs state machine is (O.Jump to) at = jump_does tac plan slabs state machine is to
point_does tac plan slabs state machine is (O.Branch int_type condition holds fails) at = branch_does tac plan slabs state machine is int_type condition holds fails
point_does tac plan slabs state machine is (O.Assign to tree) at = assign_does tac plan slabs state machine is to tree
point_does tac plan slabs state machine is (O.Null to) at = null_does tac plan slabs state machine is to
point_does tac plan slabs state machine is (O.FunctionAddress to function) at = function_does tac plan slabs state machine is to function
point_does tac plan slabs state machine is (O.Copy to from) at = copy_does tac plan slabs state machine is to from
point_does tac plan slabs state machine is (O.Test to pointer) at = test_does tac plan slabs state machine is to pointer
point_does tac plan slabs state machine is (O.Move to pointer element is_minus number) at = move_does tac plan slabs state machine is to pointer element is_minus number
point_does tac plan slabs state machine is (O.Difference to element left right) at = difference_does tac plan slabs state machine is to element left right
point_does tac plan slabs state machine is (O.ComparePointers to relation left right) at = compare_does tac plan slabs state machine is to relation left right
point_does tac plan slabs state machine is (O.Repoint to target from) at = repoint_does tac plan slabs state machine is to target from
point_does tac plan slabs state machine is (O.AddressOf to path) at = address_does tac plan slabs state machine is to path
point_does tac plan slabs state machine is (O.Load to scalar path) at = load_does tac plan slabs state machine is to scalar path
point_does tac plan slabs state machine is (O.Store path scalar value) at = store_does tac plan slabs state machine is path scalar value
point_does tac plan slabs state machine is (O.Allocate site size) at = allocate_does tac plan slabs state machine is site size at
point_does tac plan slabs state machine is (O.Free site pointer) at = free_does tac plan slabs state machine is site pointer at
point_does tac plan slabs state machine is (O.Call site callee arguments) at = call_does tac plan slabs state machine is site callee arguments at
point_does tac plan slabs state machine is (O.GetChar site) at = get_char_does tac plan slabs state machine is site
point_does tac plan slabs state machine is (O.PutChar site value) at = put_char_does tac plan slabs state machine is site value
point_does tac plan slabs state machine is (O.Exit status) at = exit_does tac plan slabs state machine is status
point_does tac plan slabs state machine is (O.Return value) at = return_does tac plan slabs state machine is value at

pub step_does : (tac : Tac) (plan : Plan) (slabs : ℕ) (serves : Serves tac plan slabs) (state : T.State) (machine : P.State) → Related tac plan slabs serves state machine
    → StepDoes tac plan slabs state machine (act tac state) (M.act (code_of tac plan) machine)
step_does tac plan slabs serves state machine related =
    let is = ready tac plan slabs state machine serves related.0 related.1 related.2 in
    step_comes tac plan slabs state machine is (act tac state) (M.act (code_of tac plan) machine)
    (act_does tac plan slabs state machine serves.planned related.1 (λ op at. point_does tac plan slabs state machine is op at)) refl
