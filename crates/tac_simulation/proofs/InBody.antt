-- A function that is entered binds its parameters and runs its body.
use Rattle.std.proofs.Common.{◌≡◌, ℕ, ◌+◌, ◌*◌, ◌<◌, true, List, [], ◌∷◌, Option, sym, subst, arith}
use Rattle.std.proofs.lemmas.Option.{same_Some}
use Rattle.c_typed.specs.Typed.{FunctionDef, Program}
use Rattle.c_typed.specs.Programs.{IsWellTyped, are_scalars, function_of}
use Rattle.ref_semantics.specs.Values as V
use Rattle.ref_semantics.specs.Values.{Scalar}
use Rattle.ref_semantics.specs.Store as S
use Rattle.ref_semantics.specs.Store.{continue_with, tick}
use Rattle.ref_semantics.specs.Meaning as Meaning
use Rattle.ref_semantics.specs.Meaning.{Calls, bind}
use Rattle.ref_semantics.specs.First.{around_of}
use Rattle.ref_semantics.specs.Sound.{HaveTypes}
use Rattle.tac_ir.specs.Code.{Op, Function, Tac}
use Rattle.tac_ir.specs.Values.{Value}
use Rattle.tac_ir.specs.States.{State}
use Rattle.tac_build.specs.Homes.{Scope}
use Rattle.tac_build.specs.ProgramCode.{FunctionCode, Code}
use Rattle.tac_simulation.specs.Comparing.{ticks_per_unit}
use Rattle.tac_simulation.specs.Standing.{Placement, Frame, ScalarStands}
use Rattle.tac_simulation.specs.Entered.{entered, hidden_within}
use Rattle.tac_simulation.proofs.Paths.{Does, slower}
use Rattle.tac_simulation.proofs.Spotting.{Runs}
use Rattle.tac_simulation.proofs.Evaluating.{AtSpot}
use Rattle.tac_simulation.proofs.Executing.{HaveObjects, LeavesWithin, block_units}
use Rattle.tac_simulation.proofs.Parametric.{parameters_of}
use Rattle.tac_simulation.proofs.Parameters.{arguments_ticks}
use Rattle.tac_simulation.proofs.Handing.{AllStand, entered_bound}
use Rattle.tac_simulation.proofs.Called.{ValuesStand, Within, begun_call}
use Rattle.tac_simulation.proofs.Running.{Ran, body_runs}

all_stand : (program : Program) (objects : S.Objects) (placement : Placement) (values : List Value) (scalars : List Scalar) → ValuesStand program objects placement values scalars → AllStand program objects placement scalars values
all_stand program objects placement [] [] stand = tt
all_stand program objects placement [] (scalar ∷ scalars) stand = absurd stand
all_stand program objects placement (value ∷ values) [] stand = absurd stand
all_stand program objects placement (value ∷ values) (scalar ∷ scalars) stand =
    (subst (λ v. ScalarStands program objects placement scalar v) (sym (same_Some value stand.0.0 stand.0.1)) stand.0.2, all_stand program objects placement values scalars stand.1)

module _ (tac : Tac) (program : Program) (calls : Calls) (worth : ℕ) (points : List Op) (placement : Placement) (hidden : ℕ → Option V.Content) (frame : Frame) (scope : Scope)
    (runs : Runs tac program points frame) (coded : Code program tac) (well : IsWellTyped program) where
  pub in_body_does : (at : ℕ) (s : S.State) (state : State) (h : AtSpot tac program calls worth points placement hidden frame scope at s state) (site number : ℕ) (def : FunctionDef) (function : Function) (inner : Calls)
      (code : FunctionCode program def function) (scalars : List Scalar) (start : State) (n lag slack : ℕ)
      (w : Within tac program calls worth points placement hidden frame scope runs coded start n lag (slack + arguments_ticks def.parameters) site number function scalars s state)
      → are_scalars def.parameters ≡ true → HaveObjects function.objects code.inside.objects → HaveTypes program s (parameters_of (function_of def.result def.parameters)) scalars → block_units def.body < worth
      → ((bound : Placement) (s1 : S.State) (t1 : State) → AtSpot tac program inner worth function.points bound (hidden_within placement s.locals s.objects hidden) (entered site number function state) code.scope code.inside.at s1 t1
      → Does tac worth t1 s1.units (block_units def.body) 0
      (LeavesWithin tac program inner worth function.points (hidden_within placement s.locals s.objects hidden) (entered site number function state) s1.next_local s1.locals bound code.scope code.last.at (record { broken = 0; continued = 0 }))
      (Meaning.block (around_of program) inner def.body s1))
      → Does tac worth start n lag (slack + ticks_per_unit)
      (Ran tac program inner worth function.points (hidden_within placement s.locals s.objects hidden) (entered site number function state) w.inside s.next_local placement code.scope code.last.at (record { broken = 0; continued = 0 }))
      (continue_with (λ way. tick (Meaning.block (around_of program) inner def.body)) (bind (around_of program) def.parameters scalars (begun_call number s)))
  in_body_does at s state h site number def function inner code scalars start n lag slack w scalar have typed less does =
      body_runs tac program inner worth function.points (hidden_within placement s.locals s.objects hidden) (entered site number function state) w.inside start n lag slack (block_units def.body) s.next_local [] placement code.scope code.inside.at code.last.at
      (record { broken = 0; continued = 0 }) def.body (bind (around_of program) def.parameters scalars (begun_call number s))
      (entered_bound tac program calls worth points placement hidden frame scope at s state h site number function w.values scalars inner def.body def.result def.parameters code.inside code.scope w.inside well code.entry scalar have typed
      (all_stand program s.objects placement w.values scalars w.stand) start (n + worth) lag (slack + ticks_per_unit * worth) (slower (slack + ticks_per_unit * worth + arguments_ticks def.parameters) w.paid (omega arith)))
      (entered_bound tac program calls worth points placement hidden frame scope at s state h site number function w.values scalars inner def.body def.result def.parameters code.inside code.scope w.inside well code.entry scalar have typed
      (all_stand program s.objects placement w.values scalars w.stand) start n lag slack w.passing)
      does less
