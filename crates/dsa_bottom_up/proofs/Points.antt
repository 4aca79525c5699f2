-- What the points and the names of a function ask of a graph that was made.
use Rattle.std.proofs.Common.{◌≡◌, ℕ, zero, suc, Bool, true, false, ◌||◌, List, [], ◌∷◌, Some, refl, sym, ap, subst}
use Rattle.std.specs.Prelude.{slice_get}
use Rattle.std.specs.List.{AllByRecursion}
use Rattle.std.proofs.lemmas.Bool.{false≢true, and_parts, and_from}
use Rattle.tac_ir.specs.Code.{Function, Op}
use Rattle.tac_ir.specs.States.{Owner, InFunction, function_of, points_of}
use Rattle.heap_graph.specs.Escaping.{same_owner}
use Rattle.heap_graph.specs.Graphs.{Graph}
use Rattle.heap_graph.specs.Points.{point_closed}
use Rattle.heap_graph.specs.Closed.{Family, graph_of, parameters_of, formals_closed, locals_closed, globals_closed, literals_closed}
use Rattle.heap_graph.proofs.StepsCompose.{flags_itself}
use Rattle.heap_graph.specs.Plain.{plain_closed}
use Rattle.graph_unification.proofs.WholeFunction.{owner_eq}
use Rattle.graph_unification.specs.Named.{OpNamed}
use Rattle.dsa_local.specs.Mentioned.{is_among}
use Rattle.dsa_local.specs.Told.{FunctionTold}
use Rattle.dsa_local.specs.Shown.{Shows}
use Rattle.dsa_local.proofs.GroupBegins.Closing.{locals_close, formals_close, globals_close, literals_close, mentions_close}
use Rattle.dsa_local.proofs.GroupRounds.Closing.{group_kept}
use Rattle.dsa_bottom_up.specs.MadeGroups.Made.{IsGroup, IsMade}

-- where an owner stands among others
pub found_among : (owner : Owner) (owners : List Owner) → is_among owner owners ≡ true → (number : ℕ) × (slice_get owners number ≡ Some owner)
found_among owner [] is = absurd (false≢true is)
found_among owner (first ∷ others) is = by (same_owner first owner) refl is (λ among. found_among owner others among)
  where
    by : (b : Bool) → same_owner first owner ≡ b → (b || is_among owner others) ≡ true → (is_among owner others ≡ true → (number : ℕ) × (slice_get others number ≡ Some owner))
        → (number : ℕ) × (slice_get (first ∷ others) number ≡ Some owner)
    by true same h rest = (0, ap Some (owner_eq first owner same))
    by false same h rest = let found = rest h in (suc found.0, found.1)

module _ (family : Family) (owners : List Owner) (inside : ℕ → Bool) (made kept : Graph) (its : IsMade family owners inside made kept) (owner : Owner) (among : is_among owner owners ≡ true) where
  -- the family's graph is that of the certain nodes
  pub shows : Shows kept (graph_of family owner)
  shows = subst (Shows kept) (sym (its.shown owner among)) (record {
    names = λ name own. refl;
    nodes = λ number node is. record { now = node; is = is; element = refl; flags = (and_parts _ _ (flags_itself node.flags)).1 };
  })

  points_plain : (ops : List Op) → AllByRecursion (OpNamed family.tac made) ops → AllByRecursion (λ op. point_closed family.tac kept owner op ≡ true) ops → plain_closed family.tac family owner ops ≡ true
  points_plain [] named closed = refl
  points_plain (op ∷ ops) named closed =
      and_from _ _
      (and_from _ _ (mentions_close family made kept its.restricts owner shows owners its.told op named.0) (subst (λ graph. point_closed family.tac graph owner op ≡ true) (sym (its.shown owner among)) closed.0))
      (points_plain ops named.1 closed.1)

  pub globals_hold : globals_closed family owner 0 family.tac.globals ≡ true
  globals_hold = globals_close family made kept its.restricts owner shows owners its.told

  pub literals_hold : literals_closed family owner 0 family.tac.literals ≡ true
  literals_hold = literals_close family made kept its.restricts owner shows owners its.told

  module _ (function : Function) (is : function_of family.tac owner ≡ Some function) where
    told : FunctionTold family.tac made owner function
    told = its.told.functions owner function among is

    -- all points of a function that are no calls
    pub points_hold : plain_closed family.tac family owner function.points ≡ true
    points_hold =
        let place = found_among owner owners among in
        points_plain function.points told.names.outside
        (subst (λ ops. AllByRecursion (λ op. point_closed family.tac kept owner op ≡ true) ops) (ap points_of is)
        (group_kept family.tac made kept owners its.settled its.sizes its.restricts place.0 owner place.1))

    pub formals_hold : (number : ℕ) → owner ≡ InFunction number → formals_closed family owner number 0 (parameters_of function.c_type) ≡ true
    formals_hold = formals_close family made kept its.restricts owner shows function told

    pub locals_hold : IsGroup family owners inside → locals_closed family owner function.objects ≡ true
    locals_hold group = locals_close family made kept its.restricts owner shows function ((group.code.functions owner function is).apart) told
