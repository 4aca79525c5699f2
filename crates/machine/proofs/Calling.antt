-- Calls and returns, as the meaning has them.
use Rattle.std.proofs.Common.{◌≡◌, ℕ, zero, suc, ◌-◌, ◌<◌, ◌≤◌, List, [], ◌∷◌, ◌++◌, Bool, true, false, Option, Some, length, take, drop, reverse, replicate, refl, sym, ap, ◌∙◌, subst, arith}
use Rattle.std.specs.Prelude.{nat_lt}
use Rattle.std.specs.List.{flat_map}
use Rattle.std.specs.Bool.{if◌then◌else◌}
use Rattle.std.proofs.lemmas.Bool.Decides.{nat_tests}
use Rattle.byteorder.specs.Endian.{little_bytes}
use Rattle.run_theory.specs.Runs.{output_of, Returned, DepthReached, Trapped, Move, Halt}
use Rattle.run_theory.specs.declared.ends.TrapKind.TheVariants as traps
use Rattle.pool_isa.specs.Machine.{Function, Activation, State, trap, with_one, advanced, resumed, next_start, call_event, entered, left, called, function_word, named_by, returned}
use Rattle.machine.specs.Steps.{GoesInside}
use Rattle.machine.proofs.Accesses.{output_kept}

-- a call writes nothing
no_output : (callee : ℕ) → output_of (call_event callee ∷ []) ≡ []
no_output zero = refl
no_output (suc number) = refl

-- a function at its entry
abbrev pub at_entry : ℕ → Function → List ℕ → Activation → Activation
at_entry callee function operands top =
    record { function = callee; place = 0; operands = []; start = next_start top; bytes = flat_map (little_bytes 8) (reverse (take function.parameters operands)) ++ replicate function.extra 0 }

pub called_on : (callee : ℕ) (found : Option Function) (function : Function) (operands : List ℕ) (top innermost : Activation) (callers callers' : List Activation) (state : State)
    → found ≡ Some function → function.parameters ≤ length operands → length callers < 10000
    → innermost ≡ at_entry callee function operands top → callers' ≡ advanced top (drop function.parameters operands) ∷ callers
    → GoesInside (called callee found operands top callers state) state (innermost ∷ callers') state.heap
called_on callee found function operands top innermost callers callers' state there enough shallow is rest =
    let after : List Activation = at_entry callee function operands top ∷ advanced top (drop function.parameters operands) ∷ callers in
    let few : nat_lt (length operands) function.parameters ≡ false = grind (arith, nat_tests) in
    let deep : nat_lt (length callers) 10000 ≡ true = grind (arith, nat_tests) in
    let go : Move State = resumed after (entered callee state) in
    record {
      next = record (entered callee state) { activations = after };
      goes = ap (λ f. called callee f operands top callers state) there
          ∙ ap (λ (b : Bool). if b then trap traps.StackEmpty state else if nat_lt (length callers) 10000 then go else Halt DepthReached state) few
          ∙ ap (λ (b : Bool). if b then go else Halt DepthReached state) deep;
      frames = sym (ap (λ (f : Activation). f ∷ callers') is ∙ ap (λ (fs : List Activation). at_entry callee function operands top ∷ fs) rest);
      heap_is = refl;
      input = refl;
      output = output_kept state.trace (call_event callee ∷ []) (no_output callee);
    }

-- a call of a function that lacks parameters, or that would be nested too deep
module _ (callee : ℕ) (found : Option Function) (function : Function) (operands : List ℕ) (top : Activation) (callers : List Activation) (state : State) (there : found ≡ Some function) where
  abbrev goes : Move State
  goes = resumed (at_entry callee function operands top ∷ advanced top (drop function.parameters operands) ∷ callers) (entered callee state)

  chosen : (short : Bool) → nat_lt (length operands) function.parameters ≡ short
      → called callee found operands top callers state ≡ (if short then trap traps.StackEmpty state else if nat_lt (length callers) 10000 then goes else Halt DepthReached state)
  chosen short e =
      ap (λ f. called callee f operands top callers state) there
      ∙ ap (λ (b : Bool). if b then trap traps.StackEmpty state else if nat_lt (length callers) 10000 then goes else Halt DepthReached state) e

  pub called_short : length operands < function.parameters → called callee found operands top callers state ≡ Halt (Trapped traps.StackEmpty) state
  called_short few = chosen true (grind (arith, nat_tests))

  pub called_deep : function.parameters ≤ length operands → 10000 ≤ length callers → called callee found operands top callers state ≡ Halt DepthReached state
  called_deep enough deep =
      let many : nat_lt (length callers) 10000 ≡ false = grind (arith, nat_tests) in
      chosen false (grind (arith, nat_tests)) ∙ ap (λ (b : Bool). if b then goes else Halt DepthReached state) many

-- a state in which a function has returned to these activations
pub goes_left : (move : Move State) (activations : List Activation) (state : State) → move ≡ resumed activations (left state) → GoesInside move state activations state.heap
goes_left move activations state e = record {
  next = record (left state) { activations = activations };
  goes = e;
  frames = refl;
  heap_is = refl;
  input = refl;
  output = output_kept state.trace (Returned ∷ []) refl;
}

pub returns_on : (callers : List Activation) (caller : Activation) (outer : List Activation) (state : State) → callers ≡ caller ∷ outer → GoesInside (returned callers state) state (caller ∷ outer) state.heap
returns_on callers caller outer state e = goes_left (returned callers state) (caller ∷ outer) state (ap (λ cs. returned cs state) e)

-- a call of the function that the last operand names
pub called_from : (signature : ℕ) (functions : List Function) (word callee : ℕ) (function : Function) (top innermost : Activation) (callers callers' : List Activation) (state : State)
    → top.operands ≡ word ∷ drop 1 top.operands → callee ≡ word - function_word → named_by functions signature word ≡ Some function → function.parameters ≤ length (drop 1 top.operands) → length callers < 10000
    → innermost ≡ at_entry callee function (drop 1 top.operands) top → callers' ≡ advanced top (drop function.parameters (drop 1 top.operands)) ∷ callers
    → GoesInside (with_one top.operands state (λ w rest. called (w - function_word) (named_by functions signature w) rest top callers state)) state (innermost ∷ callers') state.heap
called_from signature functions word callee function top innermost callers callers' state last number there enough shallow is rest =
    let go : ℕ → List ℕ → Move State = λ (w : ℕ) (os : List ℕ). called (w - function_word) (named_by functions signature w) os top callers state in
    subst (λ os. GoesInside (with_one os state go) state (innermost ∷ callers') state.heap) (sym last)
    (subst (λ n. GoesInside (called n (named_by functions signature word) (drop 1 top.operands) top callers state) state (innermost ∷ callers') state.heap) number
    (called_on callee (named_by functions signature word) function (drop 1 top.operands) top innermost callers callers' state there enough shallow is rest))
