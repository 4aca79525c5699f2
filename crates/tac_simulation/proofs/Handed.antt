-- A function that returns hands its value back: the last step of its point leads to where its caller goes on.
use Rattle.std.proofs.Common.{◌≡◌, ℕ, suc, ◌+◌, ◌<◌, ◌≤◌, Bool, true, List, Option, Some, sym, ap, ◌∙◌, subst, arith}
use Rattle.run_theory.specs.Runs.{Move, To, Leads, here, onward}
use Rattle.run_theory.proofs.Machines.{leads_more}
use Rattle.c_typed.specs.Typed.{Program}
use Rattle.ref_semantics.specs.Values as V
use Rattle.ref_semantics.specs.Values.{Name, Scalar}
use Rattle.ref_semantics.specs.Store as S
use Rattle.ref_semantics.specs.Meaning.{Calls}
use Rattle.ref_semantics.specs.Sound.{WasGiven, MayBecome}
use Rattle.tac_ir.specs.declared.register.Local.{Local}
use Rattle.tac_ir.specs.Code.{Op, Function, Tac}
use Rattle.tac_ir.specs.Code as O
use Rattle.tac_ir.specs.Values.{OfActivation, Value, Typed}
use Rattle.tac_ir.specs.Layouts.{Inner}
use Rattle.tac_ir.specs.Objects.{own_type}
use Rattle.tac_ir.specs.States.{State, around_of}
use Rattle.tac_ir.specs.Costs.{more_cost}
use Rattle.tac_ir.specs.Calls.{leave}
use Rattle.tac_ir.specs.Meaning.{execute, act}
use Rattle.tac_ir.proofs.Paying.{with_paid, paying}
use Rattle.tac_build.specs.Homes.{Scope}
use Rattle.tac_simulation.specs.Standing.{Placement, Frame}
use Rattle.tac_simulation.specs.Entered.{entered, hidden_within}
use Rattle.tac_simulation.proofs.Paths.{Passage as Passing, Passes, passing}
use Rattle.tac_simulation.proofs.Spotting.{Runs, before_at, around_is}
use Rattle.tac_simulation.proofs.Evaluating.{AtSpot}
use Rattle.tac_simulation.proofs.Executing.{Extends, GivesBack, Returns}
use Rattle.tac_simulation.proofs.Calling.{Returned}
use Rattle.tac_simulation.proofs.Back.{restored, gone_back, leaves_to, goes_back}

-- the step behind some steps is the one that a longer way takes there
module _ {St : Type 0} (act' : St → Move St) where
  next_is : (a b c : St) (n m : ℕ) → m ≡ suc n → Leads act' a n b → Leads act' a m c → act' b ≡ To c
  next_is a b c n m e (here _) (here _) = absurd (omega (arith, e))
  next_is a b c n m e (here _) (onward _ next _ k step (here _)) = step
  next_is a b c n m e (here _) (onward _ next _ k step (onward _ later _ j more rest)) = absurd (omega (arith, e))
  next_is a b c n m e (onward _ next _ j step p) (here _) = absurd (omega (arith, e))
  next_is a b c n m e (onward _ next _ j step p) (onward _ next' _ k step' q) =
      let same : next' ≡ next = cc in
      next_is next b c j k (omega (arith, e)) p (subst (λ state. Leads act' state k c) same q)

module _ (tac : Tac) (program : Program) (calls : Calls) (worth : ℕ) (points : List Op) (hidden : ℕ → Option V.Content) (frame : Frame) (runs : Runs tac program points frame)
    (placement : Placement) (scope : Scope) (given : Option Scalar) (s : S.State) (t : State) (r : Returns tac program calls worth points hidden frame placement scope given s t) where
  -- the last step of a point that returns
  pub last_step : (next : State) → leave r.held r.before ≡ To next → act tac t ≡ To next
  last_step next e =
      let before = before_at tac program points placement hidden frame scope runs r.at (O.Return r.operand) s r.before r.has r.there.stands in
      let does : execute tac (around_of tac r.before.running) (O.Return r.operand) r.before ≡ To next =
      ap (λ around. execute tac around (O.Return r.operand) r.before) (around_is tac program points placement hidden frame scope runs r.at s r.before r.there.stands) ∙ r.does ∙ e in
      let paid = paying tac (O.Return r.operand) r.before before.stands before.unpaid in
      let passes : Passes tac (O.Return r.operand) r.before next = record { before = before; does = does } in
      subst (λ state. act tac state ≡ To next) (sym r.paid)
      (next_is (act tac) r.before (with_paid (more_cost (O.Return r.operand)) r.before) next (more_cost (O.Return r.operand)) (more_cost (O.Return r.operand) + 1) (omega arith) paid (passing passes))

-- one step more, for one of the slack
pub step_taken : {tac : Tac} {worth : ℕ} {start t : State} {n left lag slack : ℕ} (next : State) → Passing tac worth start t n left lag (suc slack) → act tac t ≡ To next → Passing tac worth start next n left lag slack
step_taken {tac} {worth} {start} {t} next p e = record {
  took = suc p.took;
  leads = leads_more (act tac) start t next p.took p.leads e;
  allowed = omega (arith, p.allowed);
  covered = omega (arith, p.covered);
}

module _ (tac : Tac) (program : Program) (calls called : Calls) (worth : ℕ) (points called_points : List Op) (placement placed : Placement) (hidden : ℕ → Option V.Content) (frame : Frame) (scope inner : Scope)
    (at site number : ℕ) (function : Function) (s0 s : S.State) (state t : State) (given : Option Scalar) (before : AtSpot tac program calls worth points placement hidden frame scope at s0 state)
    (runs : Runs tac program called_points (entered site number function state))
    (r : Returns tac program called worth called_points (hidden_within placement s0.locals s0.objects hidden) (entered site number function state) placed inner given s t)
    (extends : Extends (entered site number function state) s0.next_local placement placed)
    (newer : s0.next_local ≤ s.next_local) (may : (name : Name) → WasGiven s0 name → MayBecome (s0.objects name) (s.objects name))
    (there : (local : Local) (own : Inner) → own_type frame.objects local ≡ Some own → (held : ℕ → Option Value) × (t.objects (OfActivation frame.number local) ≡ Typed own.c_type 1 held))
    (further : state.next_activation < t.next_activation) where
  still_there : (local : Local) (own : Inner) → own_type frame.objects local ≡ Some own → (held : ℕ → Option Value) × (r.before.objects (OfActivation frame.number local) ≡ Typed own.c_type 1 held)
  still_there local own is =
      let was = there local own is in
      (was.0, ap (λ (paid : State). paid.objects (OfActivation frame.number local)) (sym r.paid) ∙ was.1)

  still_further : state.next_activation < r.before.next_activation
  still_further = subst (λ (paid : State). state.next_activation < paid.next_activation) r.paid further

  -- the way leads to where the caller goes on
  pub passes_back : {start : State} {n lag slack : ℕ} → Passing tac worth start t n s.units lag (suc slack) → Passing tac worth start (gone_back site state r.held r.before) n s.units lag slack
  passes_back {start} {n} {lag} {slack} p =
      step_taken (gone_back site state r.held r.before) p
      (last_step tac program called worth called_points (hidden_within placement s0.locals s0.objects hidden) (entered site number function state) runs placed inner given s t r (gone_back site state r.held r.before)
      (leaves_to program placement placed hidden frame scope inner at r.at site number function s0 s state r.before before.sound before.stands r.there.stands extends newer may still_there still_further r.held))

  -- it is behind the call, with what stands for the value that is given back
  pub hands_back : (is_used : Bool) (scalar : Scalar) → (is_used ≡ true → given ≡ Some scalar)
      → Returned tac program calls worth points placement hidden frame scope at site is_used state.running.registers scalar (restored s0 s) (gone_back site state r.held r.before)
  hands_back is_used scalar is =
      goes_back program placement placed hidden frame scope inner at r.at site number function s0 s state r.before before.sound before.stands r.there.stands extends newer may still_there still_further
      tac calls worth points is_used scalar r.held
      (λ used. subst (λ known. GivesBack tac program called worth called_points (hidden_within placement s0.locals s0.objects hidden) (entered site number function state) placed s.objects known r.held) (is used) r.gives)
