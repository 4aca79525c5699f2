-- The arguments of a call stand in the registers of the parameters, where the function begins: with them bound, the code is behind the
-- parameters.
use Rattle.std.proofs.Common.{◌≡◌, ℕ, suc, ◌+◌, ◌<◌, true, List, [], ◌∷◌, ◌++◌, length, Option, Some, refl, ap, ◌∙◌, ne_eqb, ◌==◌, arith}
use Rattle.std.specs.Prelude.{slice_get}
use Rattle.std.proofs.lemmas.Bool.{cond-false}
use Rattle.run_theory.specs.Runs.{Called}
use Rattle.c_typed.specs.Types.{CType}
use Rattle.c_typed.specs.Typed.{Block, Program}
use Rattle.c_typed.specs.Programs.{IsWellTyped, are_scalars, function_of}
use Rattle.ref_semantics.specs.Values as V
use Rattle.ref_semantics.specs.Values.{Scalar}
use Rattle.ref_semantics.specs.Store as S
use Rattle.ref_semantics.specs.Meaning.{Calls, bind}
use Rattle.ref_semantics.specs.First.{around_of}
use Rattle.ref_semantics.specs.Sound.{HaveTypes}
use Rattle.ref_semantics.proofs.Lasting.{types_last}
use Rattle.tac_ir.specs.declared.register.Local.TheVariants as L
use Rattle.tac_ir.specs.declared.register.Register.{Register}
use Rattle.tac_ir.specs.declared.register.Register.TheVariants as R
use Rattle.tac_ir.specs.Code.{Op, Function, Tac}
use Rattle.tac_ir.specs.Values.{Value}
use Rattle.tac_ir.specs.Trees.{Registers, with_register}
use Rattle.tac_ir.specs.States.{State, points_of, objects_of}
use Rattle.tac_ir.specs.Calls.{all_held, parameters_from, enter}
use Rattle.tac_build.specs.Homes.{Scope}
use Rattle.tac_build.specs.Spots.{Spot}
use Rattle.tac_build.specs.ProgramCode.{ParametersCode, first_spot}
use Rattle.tac_simulation.specs.Standing.{Placement, Frame, ScalarStands, surroundings}
use Rattle.tac_simulation.specs.Entered.{entered, hidden_within}
use Rattle.tac_simulation.proofs.Paths.{Passage as Passing, Does}
use Rattle.tac_simulation.proofs.Spotting.{Runs, written_there}
use Rattle.tac_simulation.proofs.Evaluating.{AtSpot, AllHold}
use Rattle.tac_simulation.proofs.Executing.{HaveObjects, Begun}
use Rattle.tac_simulation.proofs.Entering.{at_entered, sound_entered, later_entered}
use Rattle.tac_simulation.proofs.Parametric.{parameters_of, ArgumentsStand}
use Rattle.tac_simulation.proofs.Parameters.{arguments_ticks, parameters_bound}

-- what the function that is entered is run with
pub runs_entered : (tac : Tac) (program : Program) (points : List Op) (frame : Frame) (site number : ℕ) (function : Function) (state : State) → Runs tac program points frame → slice_get tac.functions number ≡ Some function
    → Runs tac program function.points (entered site number function state)
runs_entered tac program points frame site number function state runs is =
    record { points_are = ap points_of is; objects_are = ap objects_of is; structs = runs.structs; globals = runs.globals; literals = runs.literals; known = runs.known }

-- values that stand for these
abbrev pub AllStand : Program → S.Objects → Placement → List Scalar → List Value → Type 0
AllStand program objects placement [] [] = Unit {0}
AllStand program objects placement (scalar ∷ scalars) (value ∷ values) = ScalarStands program objects placement scalar value × AllStand program objects placement scalars values
AllStand program objects placement _ _ = ⊥

-- a register before these is written
with_earlier : (program : Program) (objects : S.Objects) (placement : Placement) (registers : Registers) (number later : ℕ) (value : Option Value) (given : List Scalar) → number < later → ArgumentsStand program objects placement registers later given
    → ArgumentsStand program objects placement (with_register (R.Local (L.Parameter number)) value registers) later given
with_earlier program objects placement registers number later value [] less stand = tt
with_earlier program objects placement registers number later value (first ∷ given) less stand = (
  (stand.0.0, cond-false (number == later) value (registers (R.Local (L.Parameter later))) (ne_eqb number later (λ e. omega (arith, e, less))) ∙ stand.0.1, stand.0.2),
  with_earlier program objects placement registers number (suc later) value given (omega (arith, less)) stand.1,
)

-- the arguments are in the registers of the parameters
pub handed : (program : Program) (objects : S.Objects) (placement : Placement) (number : ℕ) (given : List Scalar) (values : List Value) → AllStand program objects placement given values
    → ArgumentsStand program objects placement (parameters_from number values) number given
handed program objects placement number [] values stand = tt
handed program objects placement number (first ∷ given) [] stand = absurd stand
handed program objects placement number (first ∷ given) (value ∷ values) stand = (
  (value, written_there (R.Local (L.Parameter number)) (Some value) (parameters_from (suc number) values), stand.0),
  with_earlier program objects placement (parameters_from (suc number) values) number (suc number) (Some value) given (omega arith) (handed program objects placement (suc number) given values stand.1),
)

module _ (tac : Tac) (program : Program) (calls : Calls) (worth : ℕ) (points : List Op) (placement : Placement) (hidden : ℕ → Option V.Content) (frame : Frame) (scope : Scope) where
  -- registers that hold the arguments give values that stand for them
  pub values_held : (objects : S.Objects) (registers : Registers) (names : List Register) (given : List Scalar) → AllHold tac program calls worth points placement hidden frame scope objects registers names given
      → (values : List Value) × (all_held registers names ≡ Some values) × AllStand program objects placement given values × (length values ≡ length names)
  values_held objects registers [] [] hold = ([], refl, tt, refl)
  values_held objects registers [] (first ∷ given) hold = absurd hold
  values_held objects registers (name ∷ names) [] hold = absurd hold
  values_held objects registers (name ∷ names) (first ∷ given) hold =
      let rest = values_held objects registers names given hold.1 in
      let one = hold.0.1 in
      (hold.0.0 ∷ rest.0, (rw (one, rest.1) refl), (hold.0.2, rest.2), ap suc rest.3)

  -- The function is entered and its parameters are bound: the code comes to the spot behind them.
  pub entered_bound : (at : ℕ) (s : S.State) (state : State) (h : AtSpot tac program calls worth points placement hidden frame scope at s state) (site number : ℕ) (function : Function) (values : List Value) (given : List Scalar)
      (inner : Calls) (body : Block) (result : CType) (types : List CType) (to : Spot) (parameters : Scope)
      → Runs tac program function.points (entered site number function state) → IsWellTyped program → ParametersCode function.points body types 0 [] first_spot to parameters → are_scalars types ≡ true → HaveObjects function.objects to.objects
      → HaveTypes program s (parameters_of (function_of result types)) given → AllStand program s.objects placement given values
      → (start : State) (n lag slack : ℕ) → Passing tac worth start (enter (surroundings program frame) site number function values state) n s.units lag (slack + arguments_ticks types)
      → Does tac worth start n lag slack
      (Begun tac program inner worth function.points (hidden_within placement s.locals s.objects hidden) (entered site number function state) s.next_local [] placement [] parameters to.at)
      (bind (around_of program) types given (record s { locals = []; trace = s.trace ++ Called number ∷ [] }))
  entered_bound at s state h site number function values given inner body result types to parameters runs well code scalars have typed stand start n lag slack p =
      parameters_bound tac program inner worth function.points (hidden_within placement s.locals s.objects hidden) (entered site number function state) runs well body result types given 0 placement [] first_spot to parameters code scalars have tt
      (record s { locals = []; trace = s.trace ++ Called number ∷ [] }) (enter (surroundings program frame) site number function values state) start n lag slack
      (record {
        stands = at_entered tac program calls worth points placement hidden frame scope at s state h site number function values;
        sound = sound_entered tac program calls worth points placement hidden frame scope at s state h site number function values;
      })
      (types_last program (later_entered tac program calls worth points placement hidden frame scope at s state h site number function values) (parameters_of (function_of result types)) given typed)
      (handed program s.objects placement 0 given values stand) p
