-- A function that has been entered runs and hands its value back: the call gives it, or it is undefined on the reference's side.
use Rattle.std.proofs.Common.{◌≡◌, ℕ, suc, ◌+◌, ◌≤◌, Bool, true, ◌&&◌, not, List, ◌∷◌, Option, Some, None, refl, sym, ap, ◌∙◌, subst, arith}
use Rattle.std.proofs.lemmas.Bool.{false≢true}
use Rattle.run_theory.specs.declared.place.Pos.{Pos}
use Rattle.run_theory.specs.declared.ends.UbKind.TheVariants as Ub
use Rattle.run_theory.specs.Runs.{Leads}
use Rattle.run_theory.proofs.Machines.{leads_compose}
use Rattle.c_typed.specs.Types.{CType, is_void}
use Rattle.c_typed.specs.Typed.{FunctionDef, Program}
use Rattle.c_typed.specs.Programs.{IsWellTyped, function_of}
use Rattle.c_typed.specs.Sizes.{HasStorableTypes}
use Rattle.ref_semantics.specs.Values as V
use Rattle.ref_semantics.specs.Values.{Scalar, NullValue}
use Rattle.ref_semantics.specs.Store as S
use Rattle.ref_semantics.specs.Store.{Outcome, Then, continue_with, give, undefined}
use Rattle.ref_semantics.specs.Meaning.{Calls, Completion, given_back, main_value, used_value, call_named, bodies_within}
use Rattle.ref_semantics.specs.First.{around_of}
use Rattle.ref_semantics.specs.Sound.{HaveTypes, Later}
use Rattle.ref_semantics.proofs.Lasting.{later_trans, types_last}
use Rattle.ref_semantics.proofs.ProgramsKeep.{IsFound, parameters_of, calls_keep, body_within, body_leads, function_parts, main_result}
use Rattle.tac_ir.specs.declared.register.Local.{Local}
use Rattle.tac_ir.specs.Code.{Op, Function, Tac}
use Rattle.tac_ir.specs.Values.{OfActivation, Value, Typed, Objects}
use Rattle.tac_ir.specs.Layouts.{Inner}
use Rattle.tac_ir.specs.Objects.{own_type}
use Rattle.tac_ir.specs.States.{State}
use Rattle.tac_ir.specs.Calls.{enter}
use Rattle.tac_ir.specs.Meaning.{act}
use Rattle.tac_ir.proofs.Activations.{KeepsBelow, opened_keeps}
use Rattle.tac_build.specs.Homes.{Scope}
use Rattle.tac_build.specs.ProgramCode.{FunctionCode}
use Rattle.tac_simulation.specs.Standing.{Placement, Frame, surroundings}
use Rattle.tac_simulation.specs.Entered.{entered, hidden_within}
use Rattle.tac_simulation.proofs.Paths.{Stand, Passage as Passing, Does, comes, stops, chosen, stray}
use Rattle.tac_simulation.proofs.Spotting.{Runs}
use Rattle.tac_simulation.proofs.Evaluating.{AtSpot}
use Rattle.tac_simulation.proofs.Calling.{Returned}
use Rattle.tac_simulation.proofs.Entering.{sound_entered, later_entered}
use Rattle.tac_simulation.proofs.Running.{Ran}
use Rattle.tac_simulation.proofs.Back.{restored}
use Rattle.tac_simulation.proofs.Handed.{passes_back, hands_back}
use Rattle.tac_simulation.proofs.Bodied.{in_body, begun, body_ends, body_stops}
use Rattle.tac_simulation.proofs.Completing.{MayEnd, body_may}
use Rattle.tac_simulation.proofs.Through.{Behind}
use Rattle.tac_simulation.proofs.Returning.{Closes, body_closes, closes_passing}
use Rattle.tac_simulation.proofs.Watching.{IsWatched, watched_steps, still_holds}
use Rattle.tac_simulation.proofs.Watching as Watching

-- the value of a call that is used, from what the function gives back
pub used_does : {tac : Tac} {worth : ℕ} {start last : State} {n lag slack : ℕ} (Stands : Stand Scalar) (here : Pos) (is_used : Bool) (result : CType) (given : Option Scalar) (s : S.State)
    → Passing tac worth start last n s.units lag slack → ((scalar : Scalar) → ((is_used && not (is_void result)) ≡ true → given ≡ Some scalar) → Stands scalar s last)
    → Does tac worth start n lag slack Stands (used_value here is_used result given s)
used_does {last = last} Stands here is_used result (Some scalar) s p stands = comes scalar s last p (stands scalar (λ used. refl))
used_does {last = last} Stands here is_used result None s p stands =
    chosen (is_used && not (is_void result)) (undefined Ub.U16 here) (give NullValue) s
    (λ fails. stray Ub.U16 here s)
    (λ holds. comes NullValue s last p (stands NullValue (λ used. absurd (false≢true (sym holds ∙ used)))))

module _ (tac : Tac) (program : Program) (calls : Calls) (worth : ℕ) (points : List Op) (placement : Placement) (hidden : ℕ → Option V.Content) (frame : Frame) (scope : Scope) (well : IsWellTyped program) (storable : HasStorableTypes program)
    (at : ℕ) (s0 : S.State) (state : State) (h : AtSpot tac program calls worth points placement hidden frame scope at s0 state) (site number : ℕ) (function : Function) (values : List Value) where
  -- ---- the caller's objects

  abbrev HasOwn : Objects → Type 0
  HasOwn objects = (local : Local) (own : Inner) → own_type frame.objects local ≡ Some own → (held : ℕ → Option Value) × (objects (OfActivation frame.number local) ≡ Typed own.c_type 1 held)

  own_lasts : (bound : ℕ) (objects objects' : Objects) → state.next_activation ≤ bound → KeepsBelow bound objects objects' → HasOwn objects → HasOwn objects'
  own_lasts bound objects objects' least keeps has local own is =
      let was = has local own is in
      let less = (h.stands.own.there local own is).2 in
      keeps frame.number local own.c_type was.0 (omega (arith, least, less)) was.1

  abbrev mid : State
  mid = enter (surroundings program frame) site number function values state

  entered_watched : Watching.IsWatched ((site, state.running) ∷ state.callers) state.next_activation HasOwn own_lasts mid
  entered_watched = (
    omega arith,
    Watching.runs state.next_activation ((site, state.running) ∷ state.callers) refl refl
        (own_lasts state.next_activation state.objects mid.objects (omega arith) (opened_keeps (surroundings program frame) state.next_activation function.objects state.objects)
        (λ local own is. let was = h.stands.own.there local own is in (was.0, was.1))),
  )

  -- ---- the function

  module _ (depth : ℕ) (name : List ℕ) (def : FunctionDef) (code : FunctionCode program def function) (known : IsFound program program.functions name def) (scalars : List Scalar)
      (typed : HaveTypes program s0 (parameters_of (function_of def.result def.parameters)) scalars) (runs : Runs tac program function.points (entered site number function state)) where
    abbrev inner : Calls
    inner = call_named program.functions (bodies_within (around_of program) program.functions depth)

    abbrev hides : ℕ → Option V.Content
    hides = hidden_within placement s0.locals s0.objects hidden

    abbrev callee : Frame
    callee = entered site number function state

    later : (way : Completion) (s : S.State) → in_body (around_of program) program.functions depth number def scalars (begun (around_of program) program.functions depth number def scalars s0) ≡ Then way s → Later s0 s
    later way s e =
        let own = later_entered tac program calls worth points placement hidden frame scope at s0 state h site number function values in
        let leads = body_leads program well storable inner (calls_keep program well storable depth) name def scalars (begun (around_of program) program.functions depth number def scalars s0) known
        (sound_entered tac program calls worth points placement hidden frame scope at s0 state h site number function values) (types_last program own (parameters_of (function_of def.result def.parameters)) scalars typed) in
        later_trans own (leads.leads way s e).0.later

    may : (way : Completion) (s : S.State) → in_body (around_of program) program.functions depth number def scalars (begun (around_of program) program.functions depth number def scalars s0) ≡ Then way s
        → MayEnd (body_within program well storable def) way
    may way s e =
        (body_may (around_of program) inner _ (body_within program well storable def) def.parameters scalars def.body (function_parts program well storable def known.well).body
        (begun (around_of program) program.functions depth number def scalars s0)).leads way s e

    module _ (start : State) (n lag slack : ℕ) where
      -- where the body ends, the function hands its value back
      ends : (here : Pos) (is_used : Bool) (way : Completion) (s : S.State) (t : State)
          → in_body (around_of program) program.functions depth number def scalars (begun (around_of program) program.functions depth number def scalars s0) ≡ Then way s → Passing tac worth start t n s.units lag (slack + 16)
          → Ran tac program inner worth function.points hides callee runs s0.next_local placement code.scope code.last.at (record { broken = 0; continued = 0 }) way s t → (took : ℕ) → Leads (act tac) mid took t
          → Does tac worth start n lag slack (Returned tac program calls worth points placement hidden frame scope at site (is_used && not (is_void def.result)) state.running.registers)
          (used_value here is_used def.result (main_value def.name (given_back way)) (restored s0 s))
      ends here is_used way s t e p ran took leads =
          used_does (Returned tac program calls worth points placement hidden frame scope at site (is_used && not (is_void def.result)) state.running.registers) here is_used def.result (main_value def.name (given_back way)) (restored s0 s)
          (passes_back tac program calls inner worth points function.points placement c.placed hidden frame scope c.scope at site number function s0 s state c.last (main_value def.name (given_back way)) h runs c.returns c.extends after.next_local after.may there watched.0
          (closes_passing tac program inner worth function.points hides callee runs s0.next_local placement (main_value def.name (given_back way)) s t c p))
          (λ scalar is. hands_back tac program calls inner worth points function.points placement c.placed hidden frame scope c.scope at site number function s0 s state c.last (main_value def.name (given_back way)) h runs c.returns c.extends after.next_local after.may there watched.0
          (is_used && not (is_void def.result)) scalar is)
        where
          c : Closes tac program inner worth function.points hides callee runs s0.next_local placement (main_value def.name (given_back way)) s t
          c = body_closes tac program inner worth function.points hides callee runs s0.next_local placement code.scope code.last.at (record { broken = 0; continued = 0 }) def.name code.ending.0 s t
              (body_within program well storable def) way refl refl (main_result program well storable def name known) (may way s e) ran

          after : Later s0 s
          after = later way s e

          watched : IsWatched ((site, state.running) ∷ state.callers) state.next_activation HasOwn own_lasts c.last
          watched = watched_steps ((site, state.running) ∷ state.callers) state.next_activation HasOwn own_lasts tac mid c.last (took + c.more)
              (leads_compose (act tac) mid t c.last took c.more (took + c.more) refl leads c.leads) entered_watched

          there : HasOwn c.last.objects
          there = still_holds ((site, state.running) ∷ state.callers) state.next_activation HasOwn own_lasts c.last.objects c.last.running.number c.last.callers
              (ap (λ (last : State). last.running.number) c.returns.paid ∙ c.returns.there.stands.number) (ap (λ (last : State). last.callers) c.returns.paid ∙ c.returns.there.stands.callers) watched.1

      -- what the call is, from what the body comes to
      pub delivers : (here : Pos) (is_used : Bool) (outcome : Outcome Completion)
          → in_body (around_of program) program.functions depth number def scalars (begun (around_of program) program.functions depth number def scalars s0) ≡ outcome
          → Does tac worth start n lag (slack + 16) (Behind tac worth mid (Ran tac program inner worth function.points hides callee runs s0.next_local placement code.scope code.last.at (record { broken = 0; continued = 0 }))) outcome
          → Does tac worth start n lag slack (Returned tac program calls worth points placement hidden frame scope at site (is_used && not (is_void def.result)) state.running.registers)
          (continue_with (λ result. used_value here is_used def.result result) (bodies_within (around_of program) program.functions (suc depth) number def scalars s0))
      delivers here is_used _ e (stops answer s a) =
          subst (λ outcome. Does tac worth start n lag slack (Returned tac program calls worth points placement hidden frame scope at site (is_used && not (is_void def.result)) state.running.registers)
          (continue_with (λ result. used_value here is_used def.result result) outcome)) (sym (body_stops (around_of program) program.functions depth number def scalars s0 s answer e)) (stops answer s a)
      delivers here is_used _ e (comes way s t p stands) =
          subst (λ outcome. Does tac worth start n lag slack (Returned tac program calls worth points placement hidden frame scope at site (is_used && not (is_void def.result)) state.running.registers)
          (continue_with (λ result. used_value here is_used def.result result) outcome)) (sym (body_ends (around_of program) program.functions depth number def scalars s0 s way e))
          (ends here is_used way s t e p stands.0 stands.1.0 stands.1.1)
