-- What calls within a group ask is asked of its completed graph, where the group is closed and those before.
use Rattle.std.proofs.Common.{◌≡◌, ℕ, ◌<◌, true, cond, length, Some, sym, ap, subst, ◌∙◌, lt-ltb}
use Rattle.std.specs.Prelude.{Bool, slice_get}
use Rattle.tac_ir.specs.Code.{Function, Op}
use Rattle.tac_ir.specs.States.{InFunction}
use Rattle.heap_graph.specs.Graphs.{Graph}
use Rattle.heap_graph.specs.Closed.{Family, graph_of, group_of, same_group, inner_call, outer_call, call_closed, op_closed, FunctionClosed}
use Rattle.heap_graph.specs.Completed.{completed, HasNodes}
use Rattle.dsa_local.specs.Joined.{IsJoined, CallsJoined, AreJoined, ClassesJoined}
use Rattle.dsa_local.proofs.InnerCalls.Completing.{call_completed, one_joined}
use Rattle.dsa_bottom_up.specs.Below.{ClosedBelow}
use Rattle.dsa_bottom_up.proofs.OneGroup.{called_closed, point_at}

-- all classes of a group below the number
pub classes_below : (bound : ℕ) (family : Family) (number : ℕ) → ClosedBelow family number → (inside : ℕ → Bool) (graph : Graph) → ((function : ℕ) → inside function ≡ true → graph_of family (InFunction function) ≡ graph)
    → ((function : ℕ) → inside function ≡ true → group_of family function < number) → ClassesJoined family.tac inside (completed bound graph)
classes_below bound family number closed inside graph one below = λ a b shared.
    let within = shared.within a shared.first in
    subst (λ g. AreJoined family.tac a b (completed bound g)) (one a within)
    (one_joined bound family a b (closed.classes shared.pointer shared.c_type a b shared.called shared.first shared.second (lt-ltb (group_of family a) number (below a within))))

-- all calls of a function whose callee is of the group
pub calls_below : (bound : ℕ) (family : Family) (inside : ℕ → Bool)
    → ((caller : ℕ) (function : Function) → inside caller ≡ true → slice_get family.tac.functions caller ≡ Some function → FunctionClosed family (InFunction caller) function) → (graph : Graph) → HasNodes graph
    → ((function : ℕ) → inside function ≡ true → graph_of family (InFunction function) ≡ graph) → ((function : ℕ) → inside function ≡ true → function < length family.tac.functions)
    → ((a b : ℕ) → inside a ≡ true → inside b ≡ true → same_group family (InFunction a) b ≡ true) → (caller : ℕ) → inside caller ≡ true → CallsJoined family.tac inside caller (completed bound graph)
calls_below bound family inside closed graph sound one there together caller within function at op is point site callee arguments called same target also =
    let owner = InFunction caller in
    let its = point_at family owner function.points (closed caller function within is).points at op point in
    let all : call_closed family owner (length family.tac.functions) site callee arguments ≡ true = subst (λ (o : Op). op_closed family owner o ≡ true) same its in
    let call = called_closed family owner site callee arguments (length family.tac.functions) all called (there called also) target in
    let inner : inner_call family owner site arguments called ≡ true =
    sym (ap (λ b. cond b (inner_call family owner site arguments called) (outer_call family owner site arguments called)) (together caller called within also)) ∙ call in
    subst (λ g. IsJoined family.tac owner site arguments called (completed bound g)) (one caller within)
    (call_completed bound family owner (subst HasNodes (sym (one caller within)) sound) site arguments called inner)
