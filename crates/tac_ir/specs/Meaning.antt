-- What is done at the points of three-address code.
use Rattle.std.specs.Prelude.{ℕ, suc, nat_lt, Bool, not, if◌then◌else◌, [], ◌∷◌, slice_get, Option, Some, None, ℤ, pos, neg_ℤ}
use Rattle.run_theory.specs.Runs.{Ended, Move, To, Halt}
use Rattle.c_num.specs.declared.IntType.TheVariants as I
use Rattle.c_num.specs.Types.{is_value}
use Rattle.c_num.specs.Conversion.{bits_of}
use Rattle.c_typed.specs.Types.{CType}
use Rattle.tac_ir.specs.declared.register.Register.{Register}
use Rattle.tac_ir.specs.declared.register.Register.TheVariants as Registers
use Rattle.tac_ir.specs.Values.{Value, Number, NoAddress, Code, Address}
use Rattle.tac_ir.specs.Events.{Wrote, ReadFrom, WroteTo}
use Rattle.tac_ir.specs.Trees.{Registers, computes, is_zero, truth}
use Rattle.tac_ir.specs.Objects.{Surroundings, is_place, fits, stands_at, held_at, holding, Reached, leads}
use Rattle.tac_ir.specs.States.{State, function_of, points_of, around_of, lost, go_to, go_on, write, emit, store_content, given, unless_lost, access}
use Rattle.tac_ir.specs.Pointers.{is_alive, is_null, moved_pointer, difference, compared, repoint}
use Rattle.tac_ir.specs.Calls.{all_held, call, called, leave, next_char, after_next, allocate, natural_of, free}
use Rattle.tac_ir.specs.Costs.{more_cost}
use Rattle.tac_ir.specs.Code.{Operand, IntegerOperand, PointerOperand, Op, Tac}
use Rattle.tac_ir.specs.Code as O

abbrev pub value_of : Registers → Operand → Option Value
value_of registers (IntegerOperand tree) = by (computes registers tree)
  where
    by : Option ℤ → Option Value
    by None = None
    by (Some z) = Some (Number z)
value_of registers (PointerOperand register) = registers register

-- a pointer in a register that may be looked at
abbrev pub looked_at : Register → State → (Value → Move State) → Move State
looked_at register state next = given (state.running.registers register) state (λ value. unless_lost (is_alive state.objects value) state (next value))

abbrev pub load : Surroundings → Register → CType → State → Reached → Move State
load around to c_type state reached =
    let content = state.objects reached.object in
    unless_lost (stands_at around.structs c_type reached.inner.offset content) state
    (given (held_at reached.inner.offset content) state (λ value. unless_lost (fits c_type value) state (write to value (emit (access ReadFrom reached.object) state))))

abbrev pub store : Surroundings → CType → Value → State → Reached → Move State
store around c_type value state reached =
    let content = state.objects reached.object in
    unless_lost (stands_at around.structs c_type reached.inner.offset content) state
    (go_on (emit (access WroteTo reached.object) (store_content reached.object (holding reached.inner.offset value content) state)))

abbrev pub address : Surroundings → Register → State → Reached → Move State
address around to state reached =
    unless_lost (is_place around.structs state.objects reached.object reached.inner.offset) state (write to (Address reached.object reached.inner.offset) state)

abbrev pub truth_value : Option Bool → Option Value
truth_value None = None
truth_value (Some test) = Some (Number (truth test))

abbrev pub execute : Tac → Surroundings → Op → State → Move State
execute tac around O.Reserved state = lost state
execute tac around (O.Jump to) state = go_to to state
execute tac around (O.Branch int_type condition holds fails) state =
    given (computes state.running.registers condition) state (λ z. unless_lost (is_value int_type z) state (if is_zero z then go_to fails state else go_to holds state))
execute tac around (O.Assign to tree) state = given (computes state.running.registers tree) state (λ z. write to (Number z) state)
execute tac around (O.Null to) state = write to NoAddress state
execute tac around (O.FunctionAddress to function) state = given (slice_get tac.functions function) state (λ known. write to (Code function) state)
execute tac around (O.Copy to from) state = given (state.running.registers from) state (λ value. write to value state)
execute tac around (O.Test to pointer) state = looked_at pointer state (λ value. write to (Number (truth (not (is_null value)))) state)
execute tac around (O.Move to pointer element is_minus number) state =
    looked_at pointer state (λ value. given (computes state.running.registers number) state (λ z.
    given (moved_pointer around state.objects element (if is_minus then neg_ℤ z else z) value) state (λ further. write to further state)))
execute tac around (O.Difference to element left right) state =
    given (state.running.registers left) state (λ a. given (state.running.registers right) state (λ b.
    given (difference around state.objects element a b) state (λ value. write to value state)))
execute tac around (O.ComparePointers to relation left right) state =
    looked_at left state (λ a. looked_at right state (λ b. given (truth_value (compared around state.objects relation a b)) state (λ value. write to value state)))
execute tac around (O.Repoint to target from) state = looked_at from state (λ value. repoint around target to value state)
execute tac around (O.AddressOf to path) state = given (leads around state.running.registers path) state (address around to state)
execute tac around (O.Load to scalar path) state = given (leads around state.running.registers path) state (load around to scalar state)
execute tac around (O.Store path scalar value) state =
    given (value_of state.running.registers value) state (λ stored. given (leads around state.running.registers path) state (store around scalar stored state))
execute tac around (O.Allocate site size) state = given (computes state.running.registers size) state (λ z. unless_lost (is_value I.ULong z) state (allocate site (natural_of z) state))
execute tac around (O.Free site pointer) state = given (state.running.registers pointer) state (λ value. free site value state)
execute tac around (O.Call site callee arguments) state =
    given (called tac around state.running.registers callee) state (λ number. given (all_held state.running.registers arguments) state (λ values.
    call around site number (slice_get tac.functions number) values state))
execute tac around (O.GetChar site) state = write (Registers.Call site) (Number (next_char state.input)) (record state { input = after_next state.input })
execute tac around (O.PutChar site value) state =
    given (computes state.running.registers value) state (λ z. write (Registers.Call site) (Number (pos (bits_of I.UChar z))) (emit (Wrote (bits_of I.UChar z) ∷ []) state))
execute tac around (O.Exit status) state = given (computes state.running.registers status) state (λ z. Halt (Ended (bits_of I.UChar z)) state)
execute tac around (O.Return None) state = leave None state
execute tac around (O.Return (Some operand)) state = given (value_of state.running.registers operand) state (λ value. leave (Some value) state)

-- One step: a point is done once the rest of its cost is paid.
abbrev pub pay : ℕ → State → Move State → Move State
pay cost state done = if nat_lt state.paid cost then To (record state { paid = suc state.paid }) else done

abbrev pub act_at : Tac → Option Op → State → Move State
act_at tac None state = lost state
act_at tac (Some op) state = pay (more_cost op) state (execute tac (around_of tac state.running) op state)

abbrev pub act : Tac → State → Move State
act tac state = act_at tac (slice_get (points_of (function_of tac state.running.owner)) state.running.at) state
