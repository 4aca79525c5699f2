-- What calls within a group ask of the graphs of a program is asked of a graph that is completed: graphs that are being made are on the way
-- to it.
use Rattle.std.proofs.Common.{◌≡◌, ℕ, zero, suc, ◌+◌, ◌<◌, ◌&&◌, Bool, true, cond, List, [], ◌∷◌, length, Option, Some, None, inl, inr, refl, sym, ap, subst, ◌∙◌, arith}
use Rattle.std.specs.Prelude.{slice_get}
use Rattle.std.proofs.lemmas.Bool.{false≢true, and_parts, cases_lt}
use Rattle.std.proofs.lemmas.Option.{none-some, same_Some}
use Rattle.c_typed.specs.Types.{CType}
use Rattle.tac_ir.specs.declared.register.Register.{Register}
use Rattle.tac_ir.specs.declared.register.Register.TheVariants as R
use Rattle.tac_ir.specs.Code.{Callee, Function, Op}
use Rattle.tac_ir.specs.States.{Owner, InStart, InFunction, function_of}
use Rattle.tac_ir.specs.Targets.{is_target}
use Rattle.heap_graph.specs.Graphs.{Target, Name, OfRegister, OfResult, Graph}
use Rattle.heap_graph.specs.Targets.{same_target, has_target}
use Rattle.heap_graph.specs.Points.{is_data_pointer}
use Rattle.heap_graph.specs.Closed.{Family, graph_of, parameters_of, result_of, function_type, formal, arguments_closed, same_group, inner_call, outer_call, call_of, call_closed, op_closed, ops_closed, AreOne, FunctionClosed, Closed}
use Rattle.heap_graph.specs.Asks.{is_certain}
use Rattle.heap_graph.specs.Completed.{or_target, nothing_in, completed, HasNodes}
use Rattle.heap_graph.proofs.Certain.{same_eq, implies_holds}
use Rattle.heap_graph.proofs.CompletedNames.{name_same, name_certain}
use Rattle.dsa_local.specs.Joined.{HaveOne, IsPassed, IsJoined, CallsJoined, AreJoined, ClassesJoined}

module _ (bound : ℕ) (graph : Graph) where
  abbrev whole : Graph
  whole = completed bound graph

  -- what has one target or none has one
  one_completed : (a b : Name) → graph.targets a ≡ graph.targets b → HaveOne a b whole
  one_completed a b same = by (graph.targets b) refl
    where
      by : (found : Option Target) → graph.targets b ≡ found → HaveOne a b whole
      by None is = record { target = nothing_in graph; first = ap (or_target (nothing_in graph)) (same ∙ is); second = ap (or_target (nothing_in graph)) is }
      by (Some target) is = record { target = target; first = ap (or_target (nothing_in graph)) (same ∙ is); second = ap (or_target (nothing_in graph)) is }

  passed_completed : HasNodes graph → (argument formal : Name) → (has_target (graph.targets argument) && same_target (graph.targets argument) (graph.targets formal)) ≡ true → IsPassed argument formal whole
  passed_completed sound argument its both = by (graph.targets argument) refl
    where
      parts : (has_target (graph.targets argument) ≡ true) × (same_target (graph.targets argument) (graph.targets its) ≡ true)
      parts = and_parts _ _ both

      by : (found : Option Target) → graph.targets argument ≡ found → IsPassed argument its whole
      by None is = absurd (false≢true (sym (ap has_target is) ∙ parts.0))
      by (Some target) is = record {
        certain = ap (is_certain whole) (name_same bound graph sound argument target is) ∙ name_certain bound graph sound argument target is;
        one = one_completed argument its (same_eq (graph.targets argument) (graph.targets its) parts.1);
      }

-- a call of a closed family
module _ (bound : ℕ) (family : Family) (owner : Owner) (sound : HasNodes (graph_of family owner)) where
  abbrev own : Graph
  own = graph_of family owner

  arguments_completed : (called first : ℕ) (types : List CType) (arguments : List Register) → arguments_closed family owner (λ number. own.targets (formal called number)) first types arguments ≡ true
      → (number : ℕ) (c_type : CType) (argument : Register) → slice_get types number ≡ Some c_type → slice_get arguments number ≡ Some argument → is_data_pointer c_type ≡ true
      → IsPassed (OfRegister owner argument) (formal called (first + number)) (completed bound own)
  arguments_completed called first [] arguments closed number c_type argument at its is = absurd (none-some c_type at)
  arguments_completed called first (c ∷ types) [] closed number c_type argument at its is = absurd (none-some argument its)
  arguments_completed called first (c ∷ types) (a ∷ arguments) closed zero c_type argument at its is =
      let parts = and_parts _ _ closed in
      let here = implies_holds (is_data_pointer c) _ parts.0 (ap is_data_pointer (same_Some c c_type at) ∙ is) in
      let passed = passed_completed bound own sound (OfRegister owner a) (formal called first) here in
      subst (λ n. IsPassed (OfRegister owner argument) (formal called n) (completed bound own)) (omega arith)
      (subst (λ r. IsPassed (OfRegister owner r) (formal called first) (completed bound own)) (same_Some a argument its) passed)
  arguments_completed called first (c ∷ types) (a ∷ arguments) closed (suc number) c_type argument at its is =
      subst (λ n. IsPassed (OfRegister owner argument) (formal called n) (completed bound own)) (omega arith)
      (arguments_completed called (suc first) types arguments (and_parts _ _ closed).1 number c_type argument at its is)

  pub call_completed : (site : ℕ) (arguments : List Register) (called : ℕ) → inner_call family owner site arguments called ≡ true → IsJoined family.tac owner site arguments called (completed bound own)
  call_completed site arguments called closed =
      let parts = and_parts _ _ closed in
      record {
        passed = λ number c_type argument at its is.
            subst (λ n. IsPassed (OfRegister owner argument) (formal called n) (completed bound own)) (omega arith)
            (arguments_completed called 0 (parameters_of (function_type family.tac called)) arguments parts.0 number c_type argument at its is);
        taken = λ is.
            one_completed bound own (OfRegister owner (R.Call site)) (OfResult (InFunction called))
            (same_eq (own.targets (OfRegister owner (R.Call site))) (own.targets (OfResult (InFunction called)))
            (implies_holds (is_data_pointer (result_of (function_type family.tac called))) _ parts.1 is));
      }

-- functions of a class
pub one_joined : (bound : ℕ) (family : Family) (a b : ℕ) → AreOne family a b → AreJoined family.tac a b (completed bound (graph_of family (InFunction a)))
one_joined bound family a b one =
    let own = graph_of family (InFunction a) in
    record {
      formals = λ number less. one_completed bound own (formal a number) (formal b number) (one.formals number);
      result = one_completed bound own (OfResult (InFunction a)) (OfResult (InFunction b)) one.result;
    }

-- all classes of a group, where its functions have one graph
pub classes_completed : (bound : ℕ) (family : Family) → Closed family → (inside : ℕ → Bool) (graph : Graph) → ((function : ℕ) → inside function ≡ true → graph_of family (InFunction function) ≡ graph)
    → ClassesJoined family.tac inside (completed bound graph)
classes_completed bound family closed inside graph one = λ a b shared.
    let its = function_closed shared.called.caller shared.called.function shared.called.is in
    subst (λ g. AreJoined family.tac a b (completed bound g)) (one a (shared.within a shared.first))
    (one_joined bound family a b (its.classes shared.called.site shared.pointer shared.c_type shared.called.arguments shared.called.at a b shared.called.point shared.first shared.second))
  where
    function_closed : (caller : Owner) (function : Function) → function_of family.tac caller ≡ Some function → FunctionClosed family caller function
    function_closed InStart function is = subst (FunctionClosed family InStart) (same_Some family.tac.start function is) closed.start
    function_closed (InFunction number) function is = closed.functions number function is

-- ---- all calls of a function

called_closed : (family : Family) (owner : Owner) (site : ℕ) (callee : Callee) (arguments : List Register) (count : ℕ) → call_closed family owner count site callee arguments ≡ true → (called : ℕ) → called < count
    → is_target family.tac callee called ≡ true → call_of family owner site arguments called ≡ true
called_closed family owner site callee arguments zero closed called less target = absurd (omega (arith, less))
called_closed family owner site callee arguments (suc count) closed called less target = elim (cases_lt called count) [
  | inl before ↦ called_closed family owner site callee arguments count (and_parts _ _ closed).1 called before target
  | inr behind ↦ (let same : called ≡ count = omega (arith, less, behind) in
      subst (λ n. call_of family owner site arguments n ≡ true) (sym same)
      (implies_holds (is_target family.tac callee count) _ (and_parts _ _ closed).0 (subst (λ n. is_target family.tac callee n ≡ true) same target)))
]

point_at : (family : Family) (owner : Owner) (ops : List Op) → ops_closed family owner ops ≡ true → (at : ℕ) (op : Op) → slice_get ops at ≡ Some op → op_closed family owner op ≡ true
point_at family owner [] closed at op is = absurd (none-some op is)
point_at family owner (first ∷ ops) closed zero op is = subst (λ (o : Op). op_closed family owner o ≡ true) (same_Some first op is) (and_parts _ _ (and_parts _ _ closed).1).0
point_at family owner (first ∷ ops) closed (suc at) op is = point_at family owner ops (and_parts _ _ (and_parts _ _ closed).1).1 at op is

-- of a group whose functions have one graph
pub calls_completed : (bound : ℕ) (family : Family) → Closed family → (inside : ℕ → Bool) (graph : Graph) → HasNodes graph → ((function : ℕ) → inside function ≡ true → graph_of family (InFunction function) ≡ graph)
    → ((function : ℕ) → inside function ≡ true → function < length family.tac.functions) → ((a b : ℕ) → inside a ≡ true → inside b ≡ true → same_group family (InFunction a) b ≡ true)
    → (caller : ℕ) → inside caller ≡ true → CallsJoined family.tac inside caller (completed bound graph)
calls_completed bound family closed inside graph sound one there together caller within function at op is point site callee arguments called same target also =
    let owner = InFunction caller in
    let its = point_at family owner function.points (closed.functions caller function is).points at op point in
    let all : call_closed family owner (length family.tac.functions) site callee arguments ≡ true = subst (λ (o : Op). op_closed family owner o ≡ true) same its in
    let call = called_closed family owner site callee arguments (length family.tac.functions) all called (there called also) target in
    let inner : inner_call family owner site arguments called ≡ true =
    sym (ap (λ b. cond b (inner_call family owner site arguments called) (outer_call family owner site arguments called)) (together caller called within also)) ∙ call in
    subst (λ g. IsJoined family.tac owner site arguments called (completed bound g)) (one caller within)
    (call_completed bound family owner (subst HasNodes (sym (one caller within)) sound) site arguments called inner)
