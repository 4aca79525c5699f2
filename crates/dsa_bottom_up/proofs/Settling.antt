-- What the points of functions ask of the graphs of a closed family is asked of the completed graph in which copies have targets, for a bound.
use Rattle.std.proofs.Common.{◌≡◌, ℕ, suc, ◌+◌, ◌≤◌, Bool, true, false, List, [], ◌∷◌, Option, Some, None, refl, sym, ap, subst, ◌∙◌, arith}
use Rattle.std.specs.Prelude.{◌&&◌, ◌||◌, slice_get}
use Rattle.std.proofs.lemmas.Bool.{and_parts}
use Rattle.tac_ir.specs.Code as O
use Rattle.tac_ir.specs.Code.{Function, Op}
use Rattle.tac_ir.specs.States.{Owner, InStart, InFunction, function_of, points_of}
use Rattle.std.proofs.Common.{eq-eqb}
use Rattle.heap_graph.specs.Graphs.{Target, Graph}
use Rattle.heap_graph.specs.Escaping.{same_owner}
use Rattle.heap_graph.specs.Points.{point_closed}
use Rattle.heap_graph.specs.Closed.{Family, graph_of, mentions_closed, op_closed, ops_closed, FunctionClosed}
use Rattle.heap_graph.specs.Completed.{completed, HasNodes}
use Rattle.heap_graph.specs.Within.{PathWithin}
use Rattle.heap_graph.proofs.CompletedPoints.{within_more, some_bound, point_completed}
use Rattle.graph_unification.specs.Applying.{AllAsked}
use Rattle.dsa_local.specs.Mentioned.{is_among}
use Rattle.dsa_local.specs.Rounds.{points_at, Settled}
use Rattle.dsa_bottom_up.proofs.SamePoints.{with_copies, point_same}

module _ (family : Family) (owner : Owner) where
  -- calls ask nothing that is looked at here
  closed_point : (op : Op) → op_closed family owner op ≡ true → point_closed family.tac (graph_of family owner) owner op ≡ true
  closed_point (O.Call site callee arguments) h = refl
  closed_point op h = h

  module _ (graph : Graph) (is : graph_of family owner ≡ graph) (at : ℕ → Option Target) (sound : HasNodes (with_copies graph at)) (bound : ℕ) where
    abbrev fuller : Graph
    fuller = with_copies graph at

    all_asked : (ops : List Op) → ops_closed family owner ops ≡ true → ((place : ℕ) (op : Op) → slice_get ops place ≡ Some op → PathWithin bound family.tac fuller owner op)
        → AllAsked family.tac owner ops (completed bound fuller)
    all_asked [] closed within = tt
    all_asked (op ∷ ops) closed within =
        let rest = (and_parts (mentions_closed family owner op) (op_closed family owner op && ops_closed family owner ops) closed).1 in
        let both = and_parts (op_closed family owner op) (ops_closed family owner ops) rest in (
          point_completed family.tac bound fuller owner sound op
              (point_same family.tac graph at owner op ∙ subst (λ g. point_closed family.tac g owner op ≡ true) is (closed_point op both.0)) (within 0 op refl),
          all_asked ops both.1 (λ place other there. within (suc place) other there),
        )

-- ---- all functions of a group

module _ (family : Family) (graph : Graph) (at : ℕ → Option Target) (sound : HasNodes (with_copies graph at)) where
  abbrev more : Graph
  more = with_copies graph at

  pub bound_of : List Owner → ℕ
  bound_of [] = 0
  bound_of (owner ∷ owners) = (some_bound family.tac more owner (points_at family.tac owner)).0 + bound_of owners

  same_itself : (owner : Owner) → same_owner owner owner ≡ true
  same_itself InStart = refl
  same_itself (InFunction number) = eq-eqb number number refl

  either : (b : Bool) {c : Bool} → c ≡ true → (b || c) ≡ true
  either true is = refl
  either false is = is

  module _ (bound : ℕ) where
    pub all_settled : (owners : List Owner) → bound_of owners ≤ bound → ((owner : Owner) → is_among owner owners ≡ true → graph_of family owner ≡ graph)
        → ((owner : Owner) (function : Function) → is_among owner owners ≡ true → function_of family.tac owner ≡ Some function → FunctionClosed family owner function) → Settled family.tac owners (completed bound more)
    unfolding bound_of
    all_settled [] less same closed = tt
    all_settled (owner ∷ owners) less same closed =
        let here = ap (λ b. b || is_among owner owners) (same_itself owner) in
        let its = some_bound family.tac more owner (points_at family.tac owner) in
        let enough : its.0 ≤ bound = omega (arith, less) in
        let rest : bound_of owners ≤ bound = omega (arith, less) in (
          by (function_of family.tac owner) refl (same owner here) (λ function there. closed owner function here there)
              (λ place op is. within_more family.tac more owner its.0 bound enough op (its.1 place op is)),
          all_settled owners rest (λ other is. same other (either (same_owner owner other) is)) (λ other function is there. closed other function (either (same_owner owner other) is) there),
        )
      where
        by : (found : Option Function) → function_of family.tac owner ≡ found → graph_of family owner ≡ graph → ((function : Function) → function_of family.tac owner ≡ Some function → FunctionClosed family owner function)
            → ((place : ℕ) (op : Op) → slice_get (points_at family.tac owner) place ≡ Some op → PathWithin bound family.tac more owner op) → AllAsked family.tac owner (points_at family.tac owner) (completed bound more)
        by None none is closed within = subst (λ f. AllAsked family.tac owner (points_of f) (completed bound more)) (sym none) tt
        by (Some function) there is closed within =
            let within : (place : ℕ) (op : Op) → slice_get function.points place ≡ Some op → PathWithin bound family.tac more owner op = λ place op at_place.
            within place op (ap (λ f. slice_get (points_of f) place) there ∙ at_place) in
            subst (λ f. AllAsked family.tac owner (points_of f) (completed bound more)) (sym there) (all_asked family owner graph is at sound bound function.points (closed function there).points within)
