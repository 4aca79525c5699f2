-- The functions of a group are closed.
use Rattle.std.proofs.Common.{◌≡◌, ℕ, Bool, true, false, List, Some, refl, sym, ap, ◌∙◌}
use Rattle.std.specs.Prelude.{slice_get, if◌then◌else◌}
use Rattle.std.proofs.lemmas.Bool.{false≢true}
use Rattle.tac_ir.specs.declared.register.Register.{Register}
use Rattle.tac_ir.specs.Code as O
use Rattle.tac_ir.specs.Code.{Callee, Known, Through, Function}
use Rattle.tac_ir.specs.States.{Owner, InStart, InFunction, function_of}
use Rattle.tac_ir.specs.Targets.{is_target}
use Rattle.heap_graph.specs.Graphs.{Graph}
use Rattle.heap_graph.specs.Closed.{Family, same_group, inner_call, outer_call, call_of, FunctionClosed}
use Rattle.heap_graph.specs.Asked.{ClassAsked, CallAsked, OpAsked}
use Rattle.heap_graph.specs.Code.{CodeClosed}
use Rattle.heap_graph.proofs.Whole.{each_at, asked_from, whole_closed}
use Rattle.dsa_local.specs.Mentioned.{is_among}
use Rattle.dsa_local.specs.Joined.{IsJoined}
use Rattle.dsa_local.proofs.InnerCalls.Closing.{inner_closed}
use Rattle.dsa_bottom_up.specs.MadeGroups.Made.{IsGroup, AreOuterClosed, AreCalleesOne, IsMade}
use Rattle.dsa_bottom_up.proofs.Points.{points_hold, formals_hold, locals_hold}

module _ (family : Family) (owners : List Owner) (inside : ℕ → Bool) (made kept : Graph) (group : IsGroup family owners inside) (its : IsMade family owners inside made kept) (owner : Owner)
    (among : is_among owner owners ≡ true) (outer : AreOuterClosed family owner) (classes : AreCalleesOne family owner) (function : Function) (is : function_of family.tac owner ≡ Some function) where
  inner : (site called at : ℕ) (callee : Callee) (arguments : List Register) → slice_get function.points at ≡ Some (O.Call site callee arguments) → is_target family.tac callee called ≡ true
      → same_group family owner called ≡ true → inner_call family owner site arguments called ≡ true
  inner site called at callee arguments point target same =
      inner_closed family owner made kept its.restricts (λ name. ap (λ (graph : Graph). graph.targets name) (its.shown owner among)) site arguments called (joined owner is among same)
    where
      joined : (own : Owner) → function_of family.tac own ≡ Some function → is_among own owners ≡ true → same_group family own called ≡ true → IsJoined family.tac own site arguments called made
      joined InStart found there alike = absurd (false≢true alike)
      joined (InFunction caller) found there alike =
          its.calls caller (sym (group.own caller) ∙ there) function at (O.Call site callee arguments) found point site callee arguments called refl target (group.same (InFunction caller) called there alike)

  condition : (site called at : ℕ) (callee : Callee) (arguments : List Register) → slice_get function.points at ≡ Some (O.Call site callee arguments) → is_target family.tac callee called ≡ true
      → call_of family owner site arguments called ≡ true
  condition site called at callee arguments point target = by (same_group family owner called) refl
    where
      by : (b : Bool) → same_group family owner called ≡ b → (if b then inner_call family owner site arguments called else outer_call family owner site arguments called) ≡ true
      by true same = inner site called at callee arguments point target same
      by false same = (outer function at site callee arguments called is point target same).condition

  class : (callee : Callee) (site at : ℕ) (arguments : List Register) → slice_get function.points at ≡ Some (O.Call site callee arguments) → ClassAsked family callee
  class (Known called) site at arguments point = tt
  class (Through pointer c_type) site at arguments point = λ a b first second. classes function at site pointer c_type arguments a b is point first second

  asked : (at site : ℕ) (callee : Callee) (arguments : List Register) → slice_get function.points at ≡ Some (O.Call site callee arguments) → CallAsked family owner site callee arguments
  asked at site callee arguments point = record {
    targets = λ called target. record {
      condition = condition site called at callee arguments point target;
      embedding = λ other. (outer function at site callee arguments called is point target other).embedding;
    };
    class = class callee site at arguments point;
  }

  code : CodeClosed family owner function
  code = record {
    locals = locals_hold family owners inside made kept its owner among function is group;
    points = points_hold family owners inside made kept its owner among function is;
    calls = each_at (OpAsked family owner) function.points (λ at op point. asked_from family owner op (λ site callee arguments same. asked at site callee arguments (point ∙ ap Some same)));
  }

  pub function_closes : FunctionClosed family owner function
  function_closes = whole_closed family owner function (formals_hold family owners inside made kept its owner among function is) code
