-- A function's body has run: the code is at a point that returns, of which all but the last step is done. Where the body reaches its end,
-- that is the function's last point, and `main` gives 0 there (C17 5.1.2.2.3).
use Rattle.std.proofs.Common.{◌≡◌, ℕ, suc, ◌+◌, ◌≤◌, Bool, true, false, if◌then◌else◌, List, ◌++◌, Option, Some, None, bytes_eq, refl, sym, ap, ◌∙◌, subst, arith}
use Rattle.std.specs.Prelude.{codes, pos}
use Rattle.std.proofs.lemmas.Bool.{false≢true, true≢false}
use Rattle.std.proofs.lemmas.Slice.Eq.{bytes_eq-Decides}
use Rattle.run_theory.specs.Runs.{Leads, here}
use Rattle.run_theory.proofs.Machines.{leads_compose}
use Rattle.c_typed.specs.Types.{int, is_void}
use Rattle.c_typed.specs.Typed.{Program}
use Rattle.c_typed.specs.Statements.{Within}
use Rattle.ref_semantics.specs.Values as V
use Rattle.ref_semantics.specs.Values.{Scalar, IntegerValue}
use Rattle.ref_semantics.specs.Store as S
use Rattle.ref_semantics.specs.Meaning.{Calls, Completion, Normal, Break, Continue, Return, given_back, main_value}
use Rattle.tac_ir.specs.Code.{Op, Operand, IntegerOperand, Constant, Tac}
use Rattle.tac_ir.specs.Code as O
use Rattle.tac_ir.specs.Values as M
use Rattle.tac_ir.specs.States.{State}
use Rattle.tac_ir.specs.Costs.{more_cost}
use Rattle.tac_ir.specs.Calls.{leave}
use Rattle.tac_ir.specs.Meaning.{execute, act}
use Rattle.tac_ir.proofs.Paying.{with_paid, paying}
use Rattle.tac_build.specs.Homes.{Scope}
use Rattle.tac_build.specs.Code.{HasOp}
use Rattle.tac_build.specs.ProgramCode.{end_of}
use Rattle.tac_build.specs.StatementCode.{Ways}
use Rattle.tac_simulation.specs.Standing.{Placement, Frame, surroundings}
use Rattle.tac_simulation.proofs.Paths.{Passage as Passing}
use Rattle.tac_simulation.proofs.Spotting.{Runs, before_at}
use Rattle.tac_simulation.proofs.Executing.{Extends, GivesBack, Returns}
use Rattle.tac_simulation.proofs.Beginnings.{extends_then}
use Rattle.tac_simulation.proofs.Running.{Ran}
use Rattle.tac_simulation.proofs.Completing.{MayEnd}

-- ---- what the last point gives

abbrev end_operand : Bool → Option Operand
end_operand b = if b then Some (IntegerOperand (Constant (pos 0))) else None

abbrev end_held : Bool → Option M.Value
end_held b = if b then Some (M.Number (pos 0)) else None

abbrev end_value : Bool → Option Scalar
end_value b = if b then Some (IntegerValue (pos 0)) else None

end_does : (tac : Tac) (program : Program) (frame : Frame) (b : Bool) (state : State) → execute tac (surroundings program frame) (O.Return (end_operand b)) state ≡ leave (end_held b) state
end_does tac program frame true state = refl
end_does tac program frame false state = refl

end_cost : (b : Bool) → more_cost (O.Return (end_operand b)) ≤ 1
end_cost true = omega arith
end_cost false = omega arith

module _ (tac : Tac) (program : Program) (inner : Calls) (worth : ℕ) (points : List Op) (hidden : ℕ → Option V.Content) (frame : Frame) (runs : Runs tac program points frame) where
  end_gives : (placement : Placement) (objects : S.Objects) (b : Bool) → GivesBack tac program inner worth points hidden frame placement objects (end_value b) (end_held b)
  end_gives placement objects true = (M.Number (pos 0), refl, refl)
  end_gives placement objects false = refl

  -- The code is at a point that returns this, a few steps on.
  pub record Closes (count : ℕ) (placement : Placement) (given : Option Scalar) (s : S.State) (t : State) : Type 0 where
    pub placed : Placement
    pub scope : Scope
    pub extends : Extends frame count placement placed
    pub last : State
    pub more : ℕ
    pub leads : Leads (act tac) t more last
    pub few : more ≤ 15
    pub returns : Returns tac program inner worth points hidden frame placed scope given s last

  -- what `main` gives where nothing is given back
  nothing_main : (within : Within) (name : List ℕ) → is_void within.result ≡ true → (name ≡ codes "main" → within.result ≡ int) → bytes_eq name (codes "main") ≡ false
  nothing_main within name void main = by (bytes_eq name (codes "main")) refl
    where
      by : (b : Bool) → bytes_eq name (codes "main") ≡ b → b ≡ false
      by true e = absurd (false≢true (sym (ap is_void (main ((bytes_eq-Decides name (codes "main")).0 e))) ∙ void))
      by false e = refl

  module _ (count : ℕ) (placement : Placement) (parameters : Scope) (onward : ℕ) (ways : Ways program points) (name : List ℕ) (has : HasOp points onward (end_of name)) (s : S.State) (t : State) where
    -- a point of the body returns
    closes_given : (given : Option Scalar) → Ran tac program inner worth points hidden frame runs count placement parameters onward ways (Return given) s t → Closes count placement given s t
    closes_given given ran = record {
      placed = ran.left.placed;
      scope = ran.left.more ++ parameters;
      extends = extends_then frame count ran.newest placement ran.bound ran.left.placed ran.newer ran.extends ran.left.extends;
      last = t;
      more = 0;
      leads = here t;
      few = omega arith;
      returns = ran.left.left;
    }

    -- or the last point does
    closes_end : Ran tac program inner worth points hidden frame runs count placement parameters onward ways Normal s t → Closes count placement (main_value name None) s t
    closes_end ran =
        let b = bytes_eq name (codes "main") in
        let few = end_cost (bytes_eq name (codes "main")) in
        let before = before_at tac program points ran.left.placed hidden frame (ran.left.more ++ parameters) runs onward (O.Return (end_operand b)) s t has ran.left.left.stands in
        record {
          placed = ran.left.placed;
          scope = ran.left.more ++ parameters;
          extends = extends_then frame count ran.newest placement ran.bound ran.left.placed ran.newer ran.extends ran.left.extends;
          last = with_paid (more_cost (O.Return (end_operand b))) t;
          more = more_cost (O.Return (end_operand b));
          leads = paying tac (O.Return (end_operand b)) t before.stands before.unpaid;
          few = omega (arith, few);
          returns = record {
            at = onward;
            operand = end_operand b;
            has = has;
            before = t;
            there = ran.left.left;
            paid = refl;
            held = end_held b;
            does = end_does tac program frame b t;
            gives = end_gives ran.left.placed s.objects b;
          };
        }

    pub body_closes : (within : Within) (way : Completion) → within.may_break ≡ false → within.may_continue ≡ false → (name ≡ codes "main" → within.result ≡ int) → MayEnd within way
        → Ran tac program inner worth points hidden frame runs count placement parameters onward ways way s t → Closes count placement (main_value name (given_back way)) s t
    body_closes within Normal no_break no_continue main may ran = closes_end ran
    body_closes within Break no_break no_continue main may ran = absurd (true≢false (sym may ∙ no_break))
    body_closes within Continue no_break no_continue main may ran = absurd (true≢false (sym may ∙ no_continue))
    body_closes within (Return (Some scalar)) no_break no_continue main may ran = closes_given (Some scalar) ran
    body_closes within (Return None) no_break no_continue main may ran =
        subst (λ b. Closes count placement (end_value b) s t) (sym (nothing_main within name may main)) (closes_given None ran)

  -- the few steps are paid for
  pub closes_passing : {start : State} {n lag slack : ℕ} (count : ℕ) (placement : Placement) (given : Option Scalar) (s : S.State) (t : State) (c : Closes count placement given s t)
      → Passing tac worth start t n s.units lag (slack + 16) → Passing tac worth start c.last n s.units lag (suc slack)
  closes_passing {start} count placement given s t c p = record {
    took = p.took + c.more;
    leads = leads_compose (act tac) start t c.last p.took c.more (p.took + c.more) refl p.leads c.leads;
    allowed = omega (arith, p.allowed, c.few);
    covered = omega (arith, p.covered);
  }
