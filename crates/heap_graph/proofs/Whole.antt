-- What a function asks is what its formals ask and what its code asks.
use Rattle.std.proofs.Common.{◌≡◌, ℕ, zero, suc, ◌<◌, Bool, true, false, List, [], ◌∷◌, length, Some, inl, inr, refl, sym, ap, subst, ◌∙◌, arith}
use Rattle.std.specs.Prelude.{slice_get}
use Rattle.std.specs.List.{AllByRecursion}
use Rattle.std.proofs.lemmas.Bool.{and_parts, and_from, cases_lt}
use Rattle.std.proofs.lemmas.Option.{none-some, same_Some}
use Rattle.tac_ir.specs.declared.register.Register.{Register}
use Rattle.tac_ir.specs.Code as O
use Rattle.tac_ir.specs.Code.{Callee, Known, Through, Function, Op}
use Rattle.tac_ir.specs.States.{Owner, InFunction}
use Rattle.tac_ir.specs.Targets.{is_target}
use Rattle.heap_graph.specs.Targets.{implies}
use Rattle.heap_graph.specs.Closed.{Family, parameters_of, formals_closed, call_of, call_closed, FunctionClosed}
use Rattle.heap_graph.specs.Calls.{call_point_closed, calls_closed}
use Rattle.heap_graph.specs.Plain.{plain_closed}
use Rattle.heap_graph.proofs.Calls.{ops_split, ops_parts}
use Rattle.heap_graph.specs.Asked.{ClassAsked, CallAsked, OpAsked, AllAsked}
use Rattle.heap_graph.specs.Code.{CodeClosed}

-- ---- lists

pub each_at : {X : Type 0} (P : X → Type 0) (xs : List X) → ((at : ℕ) (x : X) → slice_get xs at ≡ Some x → P x) → AllByRecursion P xs
each_at P [] all = tt
each_at P (first ∷ others) all = (all 0 first refl, each_at P others (λ at. all (suc at)))

pub at_each : {X : Type 0} (P : X → Type 0) (xs : List X) → AllByRecursion P xs → (at : ℕ) (x : X) → slice_get xs at ≡ Some x → P x
at_each P [] all at x is = absurd (none-some x is)
at_each P (first ∷ others) all zero x is = subst P (same_Some first x is) all.0
at_each P (first ∷ others) all (suc at) x is = at_each P others all.1 at x is

module _ (family : Family) (owner : Owner) where
  -- ---- calls

  -- what a call asks of each function below a number
  counted : (count site : ℕ) (callee : Callee) (arguments : List Register) → CallAsked family owner site callee arguments → call_closed family owner count site callee arguments ≡ true
  counted zero site callee arguments asked = refl
  counted (suc count) site callee arguments asked = and_from _ _ (by (is_target family.tac callee count) refl) (counted count site callee arguments asked)
    where
      by : (test : Bool) → is_target family.tac callee count ≡ test → implies test (call_of family owner site arguments count) ≡ true
      by true is = (asked.targets count is).condition
      by false is = refl

  below : (count site : ℕ) (callee : Callee) (arguments : List Register) → call_closed family owner count site callee arguments ≡ true → (called : ℕ) → called < count
      → is_target family.tac callee called ≡ true → call_of family owner site arguments called ≡ true
  below zero site callee arguments closed called less is = absurd (omega (arith, less))
  below (suc count) site callee arguments closed called less is =
      elim (cases_lt called count) [
        | inl lt ↦ below count site callee arguments (and_parts _ _ closed).1 called lt is
        | inr le ↦ last (omega (arith, le, less))
      ]
    where
      last : called ≡ count → call_of family owner site arguments called ≡ true
      last same =
          sym (ap (λ test. implies test (call_of family owner site arguments called)) is)
          ∙ subst (λ other. implies (is_target family.tac callee other) (call_of family owner site arguments other) ≡ true) (sym same) (and_parts _ _ closed).0

  point_from : (op : Op) → OpAsked family owner op → call_point_closed family owner op ≡ true
  point_from O.Reserved asked = refl
  point_from (O.Jump to) asked = refl
  point_from (O.Branch int_type condition holds fails) asked = refl
  point_from (O.Assign to tree) asked = refl
  point_from (O.Null to) asked = refl
  point_from (O.FunctionAddress to function) asked = refl
  point_from (O.Copy to from) asked = refl
  point_from (O.Test to pointer) asked = refl
  point_from (O.Move to pointer element is_minus number) asked = refl
  point_from (O.Difference to element left right) asked = refl
  point_from (O.ComparePointers to relation left right) asked = refl
  point_from (O.Repoint to target from) asked = refl
  point_from (O.AddressOf to path) asked = refl
  point_from (O.Load to scalar path) asked = refl
  point_from (O.Store path scalar value) asked = refl
  point_from (O.Allocate site size) asked = refl
  point_from (O.Free site pointer) asked = refl
  point_from (O.Call site callee arguments) asked = counted (length family.tac.functions) site callee arguments asked
  point_from (O.GetChar site) asked = refl
  point_from (O.PutChar site value) asked = refl
  point_from (O.Exit status) asked = refl
  point_from (O.Return value) asked = refl

  points_from : (ops : List Op) → AllAsked family owner ops → calls_closed family owner ops ≡ true
  points_from [] asked = refl
  points_from (op ∷ ops) asked = and_from _ _ (point_from op asked.0) (points_from ops asked.1)

  point_at : (ops : List Op) → calls_closed family owner ops ≡ true → (at : ℕ) (op : Op) → slice_get ops at ≡ Some op → call_point_closed family owner op ≡ true
  point_at [] closed at op is = absurd (none-some op is)
  point_at (first ∷ ops) closed zero op is = subst (λ op. call_point_closed family owner op ≡ true) (same_Some first op is) (and_parts _ _ closed).0
  point_at (first ∷ ops) closed (suc at) op is = point_at ops (and_parts _ _ closed).1 at op is

  pub asked_from : (op : Op) → ((site : ℕ) (callee : Callee) (arguments : List Register) → op ≡ O.Call site callee arguments → CallAsked family owner site callee arguments) → OpAsked family owner op
  asked_from O.Reserved call = tt
  asked_from (O.Jump to) call = tt
  asked_from (O.Branch int_type condition holds fails) call = tt
  asked_from (O.Assign to tree) call = tt
  asked_from (O.Null to) call = tt
  asked_from (O.FunctionAddress to function) call = tt
  asked_from (O.Copy to from) call = tt
  asked_from (O.Test to pointer) call = tt
  asked_from (O.Move to pointer element is_minus number) call = tt
  asked_from (O.Difference to element left right) call = tt
  asked_from (O.ComparePointers to relation left right) call = tt
  asked_from (O.Repoint to target from) call = tt
  asked_from (O.AddressOf to path) call = tt
  asked_from (O.Load to scalar path) call = tt
  asked_from (O.Store path scalar value) call = tt
  asked_from (O.Allocate site size) call = tt
  asked_from (O.Free site pointer) call = tt
  asked_from (O.Call site callee arguments) call = call site callee arguments refl
  asked_from (O.GetChar site) call = tt
  asked_from (O.PutChar site value) call = tt
  asked_from (O.Exit status) call = tt
  asked_from (O.Return value) call = tt

  module _ (function : Function) where
    -- ---- code

    abbrev pub CallsWithin : Type 0
    CallsWithin = (at site : ℕ) (callee : Callee) (arguments : List Register) (called : ℕ) → slice_get function.points at ≡ Some (O.Call site callee arguments)
        → is_target family.tac callee called ≡ true → called < length family.tac.functions

    abbrev FormalsClosed : Type 0
    FormalsClosed = (number : ℕ) → owner ≡ InFunction number → formals_closed family owner number 0 (parameters_of function.c_type) ≡ true

    pub whole_closed : FormalsClosed → CodeClosed family owner function → FunctionClosed family owner function
    whole_closed formals code = record {
      formals = formals;
      locals = code.locals;
      points = ops_split family owner function.points code.points (points_from function.points code.calls);
      embeddings = λ site callee arguments at called is target outer. ((call site callee arguments at is).targets called target).embedding outer;
      classes = λ site pointer c_type arguments at a b is first second. (call site (Through pointer c_type) arguments at is).class a b first second;
    }
      where
        call : (site : ℕ) (callee : Callee) (arguments : List Register) (at : ℕ) → slice_get function.points at ≡ Some (O.Call site callee arguments) → CallAsked family owner site callee arguments
        call site callee arguments at is = at_each (OpAsked family owner) function.points code.calls at (O.Call site callee arguments) is

    pub code_from : CallsWithin → FunctionClosed family owner function → CodeClosed family owner function
    code_from within closed = record {
      locals = closed.locals;
      points = parts.0;
      calls = each_at (OpAsked family owner) function.points (λ at op is. asked_from op (λ site callee arguments same. call at site callee arguments (is ∙ ap Some same)));
    }
      where
        parts : (plain_closed family.tac family owner function.points ≡ true) × (calls_closed family owner function.points ≡ true)
        parts = ops_parts family owner function.points closed.points

        class : (callee : Callee) (site at : ℕ) (arguments : List Register) → slice_get function.points at ≡ Some (O.Call site callee arguments) → ClassAsked family callee
        class (Known called) site at arguments is = tt
        class (Through pointer c_type) site at arguments is = λ a b first second. closed.classes site pointer c_type arguments at a b is first second

        call : (at site : ℕ) (callee : Callee) (arguments : List Register) → slice_get function.points at ≡ Some (O.Call site callee arguments) → CallAsked family owner site callee arguments
        call at site callee arguments is = record {
          targets = λ called target. record {
            condition = below (length family.tac.functions) site callee arguments (point_at function.points parts.1 at (O.Call site callee arguments) is) called
                (within at site callee arguments called is target) target;
            embedding = λ outer. closed.embeddings site callee arguments at called is target outer;
          };
          class = class callee site at arguments is;
        }
