-- A return of a value, by what the caller's function allows.
use Rattle.std.proofs.Common.{◌≡◌, ℕ, ◌-◌, ◌<◌, ◌≤◌, List, ◌∷◌, Bool, true, false, Some, None, length, get_or, drop, map, reverse, set, refl, sym, ap, ◌∙◌, arith}
use Rattle.std.specs.Prelude.{slice_get, nat_lt}
use Rattle.std.specs.Option.{option_map}
use Rattle.std.proofs.lemmas.Option.{slice_get-map, slice_get_read, slice_get_past}
use Rattle.std.specs.Bool.{if◌then◌else◌}
use Rattle.std.proofs.lemmas.Bool.Decides.{nat_tests}
use Rattle.std.proofs.lemmas.List.{set-get_or}
use Rattle.run_theory.specs.declared.ends.TrapKind.TheVariants as traps
use Rattle.run_theory.specs.Runs.{Move, Halt, Trapped}
use Rattle.image_form.specs.declared.image.Function as image
use Rattle.image_form.specs.Form.{function_of}
use Rattle.pool_isa.specs.Machine.{Function, Activation, State, left, with_one, given, returned_value, resumed, trap}
use Rattle.machine.specs.Steps.{GoesInside}
use Rattle.machine.proofs.Lists.{reverse-set_last}
use Rattle.machine.proofs.Calling.{goes_left}

-- the last caller stands first
pub reverse-last : (xs : List Activation) (k : ℕ) (x : Activation) → 0 < length xs → k ≡ length xs - 1 → x ≡ get_or xs k x → reverse xs ≡ x ∷ drop 1 (reverse xs)
reverse-last xs k x lt e is =
    let same : set xs (length xs - 1) x ≡ xs = ap (λ y. set xs (length xs - 1) y) (is ∙ ap (λ n. get_or xs n x) e) ∙ set-get_or xs (length xs - 1) x in
    ap reverse (sym same) ∙ reverse-set_last xs x lt

module _ (functions : List Function) (operands : List ℕ) (word : ℕ) (callers : List Activation) (caller : Activation) (state : State) (last : operands ≡ word ∷ drop 1 operands) (front : callers ≡ caller ∷ drop 1 callers) where
  abbrev Return : Move State
  Return = with_one operands state (λ w rest. returned_value functions w callers state)

  returns_to : Return ≡ given word caller (drop 1 callers) (slice_get functions caller.function) state
  returns_to = ap (λ os. with_one os state (λ w rest. returned_value functions w callers state)) last ∙ ap (λ cs. returned_value functions word cs state) front

  pub return_reached : slice_get functions caller.function ≡ None → Return ≡ Halt (Trapped traps.Reached) state
  return_reached e = returns_to ∙ ap (λ f. given word caller (drop 1 callers) f state) e

  choice : (function : Function) (b : Bool) → nat_lt (length caller.operands) function.height ≡ b → slice_get functions caller.function ≡ Some function → Return ≡ (if b then resumed (record caller { operands = word ∷ caller.operands } ∷ drop 1 callers) (left state) else trap traps.StackFull state)
  choice function b test e = returns_to ∙ ap (λ f. given word caller (drop 1 callers) f state) e ∙ ap (λ t. if t then resumed (record caller { operands = word ∷ caller.operands } ∷ drop 1 callers) (left state) else trap traps.StackFull state) test

  pub return_full : (function : Function) → slice_get functions caller.function ≡ Some function → function.height ≤ length caller.operands → Return ≡ Halt (Trapped traps.StackFull) state
  return_full function e le = choice function false (grind (arith, nat_tests)) e

  pub return_on : (function : Function) → slice_get functions caller.function ≡ Some function → length caller.operands < function.height → GoesInside Return state (record caller { operands = word ∷ caller.operands } ∷ drop 1 callers) state.heap
  return_on function e lt = goes_left Return (record caller { operands = word ∷ caller.operands } ∷ drop 1 callers) state (choice function true (grind (arith, nat_tests)) e)

-- the function of a number, as the meaning has it
pub function_there : (functions : List image.Function) (number : ℕ) (function : image.Function) → number < length functions → function ≡ get_or functions number function → slice_get (map function_of functions) number ≡ Some (function_of function)
function_there functions number function lt is = slice_get-map function_of functions number ∙ ap (option_map function_of) (slice_get_read functions (length functions) number function refl lt is)

pub function_missing : (functions : List image.Function) (number : ℕ) → length functions ≤ number → slice_get (map function_of functions) number ≡ None
function_missing functions number le = slice_get-map function_of functions number ∙ ap (option_map function_of) (slice_get_past functions number le)
