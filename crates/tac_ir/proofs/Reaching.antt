-- Each call of each run reaches one of its targets.
use Rattle.std.proofs.Common.{◌≡◌, ℕ, Bool, true, false, ◌&&◌, List, Option, Some, None, refl, subst, eq-eqb}
use Rattle.std.specs.Prelude.{if◌then◌else◌, slice_get}
use Rattle.std.specs.List.{list_any}
use Rattle.std.proofs.lemmas.Bool.{and_from, or_left, or_right}
use Rattle.std.proofs.lemmas.Option.{none-some, same_Some}
use Rattle.run_theory.specs.Runs.{Move, To, Leads, here, onward}
use Rattle.c_typed.specs.Types.{CType}
use Rattle.tac_ir.specs.declared.register.Register.{Register}
use Rattle.tac_ir.specs.Values.{Value, Number, NoAddress, Code, Address}
use Rattle.tac_ir.specs.Trees.{Registers}
use Rattle.tac_ir.specs.Objects.{Surroundings}
use Rattle.tac_ir.specs.States.{Owner, InStart, InFunction, State, function_of, points_of, around_of}
use Rattle.tac_ir.specs.Calls.{called}
use Rattle.tac_ir.specs.Calls as Calls
use Rattle.tac_ir.specs.Meaning.{execute, act_at, act}
use Rattle.tac_ir.specs.First.{initial}
use Rattle.tac_ir.specs.Code.{Callee, Known, Through, Function, Op, Tac}
use Rattle.tac_ir.specs.Code as O
use Rattle.tac_ir.specs.Targets.{takes, takes_in, is_taken, has_type, is_target}
use Rattle.tac_ir.proofs.Members.{any_at}
use Rattle.tac_ir.proofs.Taken.{IfHeld, InRegisters, InState, Keeps, goes_on, halts, of_lost, of_choice, of_execute}
use Rattle.tac_ir.proofs.FirstTaken.{first_taken}

module _ (tac : Tac) where
  -- A function whose address a point takes is taken: the point is in the function that runs.
  point_taken : (owner : Owner) (at : ℕ) (op : Op) → slice_get (points_of (function_of tac owner)) at ≡ Some op → (function : ℕ) → takes function op ≡ true → is_taken tac function ≡ true
  point_taken InStart at op is function holds =
      or_right (list_any (takes_in function) tac.functions) _ (or_left (takes_in function tac.start) _ (any_at (takes function) tac.start.points at op is holds))
  point_taken (InFunction number) at op is function holds = by (slice_get tac.functions number) refl
    where
      by : (found : Option Function) → slice_get tac.functions number ≡ found → is_taken tac function ≡ true
      by None found = absurd (none-some op (subst (λ (f : Option Function). slice_get (points_of f) at ≡ Some op) found is))
      by (Some known) found =
          let inside : slice_get known.points at ≡ Some op = subst (λ (f : Option Function). slice_get (points_of f) at ≡ Some op) found is in
          or_left (list_any (takes_in function) tac.functions) _ (any_at (takes_in function) tac.functions number known found (any_at (takes function) known.points at op inside holds))

  -- ---- runs

  of_act_at : (op : Option Op) (state : State) → slice_get (points_of (function_of tac state.running.owner)) state.running.at ≡ op → InState tac state → Keeps tac (act_at tac op state)
  of_act_at None state is kept = of_lost tac state
  of_act_at (Some op) state is kept =
      of_choice tac _ _ (execute tac (around_of tac state.running) op state) (goes_on _ kept) (of_execute tac (around_of tac state.running) op state (point_taken state.running.owner state.running.at op is) kept)

  next_of : (move : Move State) (next : State) → Keeps tac move → move ≡ To next → InState tac next
  next_of move next (goes_on state kept) e = let same : state ≡ next = cc in subst (InState tac) same kept
  next_of move next (halts final state) e = absurd (cc)

  pub taken_next : (state next : State) → InState tac state → act tac state ≡ To next → InState tac next
  taken_next state next kept e = next_of (act tac state) next (of_act_at _ state refl kept) e

  pub taken_steps : (from to : State) (k : ℕ) → Leads (act tac) from k to → InState tac from → InState tac to
  taken_steps from to k (here _) kept = kept
  taken_steps from to k (onward _ next _ n step leads) kept = taken_steps next to n leads (taken_next from next kept step)

  -- ---- calls

  type_found : (c_type : CType) (around : Surroundings) (found : Option Function) → Calls.has_type c_type around found ≡ true → has_type c_type found ≡ true
  type_found c_type around None is = is
  type_found c_type around (Some function) is = is

  -- what a pointer to the type leads to
  typed_target : (c_type : CType) (around : Surroundings) (function number : ℕ) → is_taken tac function ≡ true → (b : Bool) → Calls.has_type c_type around (slice_get tac.functions function) ≡ b
      → (if b then Some function else None) ≡ Some number → (is_taken tac number && has_type c_type (slice_get tac.functions number)) ≡ true
  typed_target c_type around function number taken true typed is =
      subst (λ (n : ℕ). (is_taken tac n && has_type c_type (slice_get tac.functions n)) ≡ true) (same_Some function number is)
      (and_from (is_taken tac function) (has_type c_type (slice_get tac.functions function)) taken (type_found c_type around (slice_get tac.functions function) typed))
  typed_target c_type around function number taken false typed is = absurd (none-some number is)

  pub target_called : (around : Surroundings) (registers : Registers) (callee : Callee) (number : ℕ) → InRegisters tac registers → called tac around registers callee ≡ Some number → is_target tac callee number ≡ true
  target_called around registers (Known function) number kept is = eq-eqb function number (same_Some function number is)
  target_called around registers (Through pointer c_type) number kept is = by (registers pointer) refl (kept pointer)
    where
      by : (found : Option Value) → registers pointer ≡ found → IfHeld tac found → is_target tac (Through pointer c_type) number ≡ true
      by None held taken = absurd (none-some number (rw held at is))
      by (Some (Number z)) held taken = absurd (none-some number (rw held at is))
      by (Some NoAddress) held taken = absurd (none-some number (rw held at is))
      by (Some (Address object offset)) held taken = absurd (none-some number (rw held at is))
      by (Some (Code function)) held taken =
          typed_target c_type around function number taken (Calls.has_type c_type around (slice_get tac.functions function)) refl (rw held at is)

pub call_reaches_target : (tac : Tac) (input : List ℕ) (n : ℕ) (state : State) (site : ℕ) (callee : Callee) (arguments : List Register) (number : ℕ) → Leads (act tac) (initial tac input) n state
    → slice_get (points_of (function_of tac state.running.owner)) state.running.at ≡ Some (O.Call site callee arguments) → called tac (around_of tac state.running) state.running.registers callee ≡ Some number
    → is_target tac callee number ≡ true
call_reaches_target tac input n state site callee arguments number leads point calls =
    let kept = taken_steps tac (initial tac input) state n leads (first_taken tac input) in
    target_called tac (around_of tac state.running) state.running.registers callee number kept.0 calls
