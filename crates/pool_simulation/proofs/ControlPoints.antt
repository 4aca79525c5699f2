-- Points that go elsewhere or end the run.
use Rattle.std.proofs.Common.{ℕ, ◌%◌, Bool, true, false, if◌then◌else◌, sym, subst}
use Rattle.run_theory.specs.Runs.{Ended, Halt}
use Rattle.c_num.specs.declared.IntType.{IntType}
use Rattle.c_num.specs.declared.IntType.TheVariants as I
use Rattle.c_num.specs.Types.{is_value}
use Rattle.c_num.specs.Conversion.{bits_of}
use Rattle.tac_ir.specs.Trees.{computes, is_zero}
use Rattle.tac_ir.specs.States as T
use Rattle.tac_ir.specs.States.{unless_lost}
use Rattle.tac_ir.specs.Code.{Tree, Tac}
use Rattle.tac_ir.specs.Code as O
use Rattle.pool_ir.specs.Words.{is_zero_word, word_in}
use Rattle.pool_ir.specs.States as P
use Rattle.pool_ir.specs.Meaning as M
use Rattle.pool_rewrite.specs.Plan.{Plan}
use Rattle.pool_rewrite.specs.Standing.{MemoryMap}
use Rattle.pool_simulation.specs.InStep.{memory_in}
use Rattle.pool_simulation.proofs.TreeWords.{byte_stands, branch_stands}
use Rattle.pool_simulation.specs.Serving.{code_of}
use Rattle.pool_simulation.proofs.Stepping.{op_for, Ready, Does, ends, wrong, PointDoes}
use Rattle.pool_simulation.proofs.PlannedCode.{does_given, does_unless}
use Rattle.pool_simulation.proofs.InStepWords.{no_effect, go_to_does}

module _ (tac : Tac) (plan : Plan) (slabs : ℕ) (state : T.State) (machine : P.State) (ready : Ready tac plan slabs state machine) where
  abbrev memory : MemoryMap
  memory = memory_in tac plan state machine

  pub reserved_does : PointDoes tac plan slabs state machine O.Reserved
  reserved_does = wrong _ state (M.execute (code_of tac plan) (op_for tac plan state.running.owner O.Reserved) machine) tt

  pub jump_does : (to : ℕ) → PointDoes tac plan slabs state machine (O.Jump to)
  jump_does to = go_to_does tac plan slabs state machine state machine (no_effect tac plan state machine) ready.in_step to

  -- where a test comes to the same
  branch_by : (holds fails : ℕ) (b : Bool) → Does tac plan slabs state machine (if b then T.go_to fails state else T.go_to holds state) (P.go_to (code_of tac plan) (if b then fails else holds) machine)
  branch_by holds fails true = go_to_does tac plan slabs state machine state machine (no_effect tac plan state machine) ready.in_step fails
  branch_by holds fails false = go_to_does tac plan slabs state machine state machine (no_effect tac plan state machine) ready.in_step holds

  pub branch_does : (int_type : IntType) (condition : Tree) (holds fails : ℕ) → PointDoes tac plan slabs state machine (O.Branch int_type condition holds fails)
  branch_does int_type condition holds fails =
      let test = is_zero_word int_type (word_in machine.running.words condition) in
      let does = P.go_to (code_of tac plan) (if test then fails else holds) machine in
      does_given tac plan slabs machine (computes state.running.registers condition) state (λ z. unless_lost (is_value int_type z) state (if is_zero z then T.go_to fails state else T.go_to holds state)) does (λ z is.
      does_unless tac plan slabs machine (is_value int_type z) state (if is_zero z then T.go_to fails state else T.go_to holds state) does (λ fits.
      subst (λ (b : Bool). Does tac plan slabs state machine (if is_zero z then T.go_to fails state else T.go_to holds state) (P.go_to (code_of tac plan) (if b then fails else holds) machine))
      (sym (branch_stands state.objects memory state.running.registers machine.running.words int_type condition z ready.in_step.running.words is fits)) (branch_by holds fails (is_zero z))))

  pub exit_does : (status : Tree) → PointDoes tac plan slabs state machine (O.Exit status)
  exit_does status =
      does_given tac plan slabs machine (computes state.running.registers status) state (λ z. Halt (Ended (bits_of I.UChar z)) state) (Halt (Ended (word_in machine.running.words status % 256)) machine) (λ z is.
      subst (λ (n : ℕ). Does tac plan slabs state machine (Halt (Ended (bits_of I.UChar z)) state) (Halt (Ended n) machine))
      (sym (byte_stands state.objects memory state.running.registers machine.running.words status z ready.in_step.running.words is)) (ends (Ended (bits_of I.UChar z)) state machine ready.in_step.trace tt))
