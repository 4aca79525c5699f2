-- Where what all points ask of a graph that is being made holds, and sizes are told, the graph of its certain nodes is closed.
use Rattle.std.proofs.Common.{◌≡◌, ℕ, Bool, true, false, List, [], ◌∷◌, Some, refl, sym, ◌∙◌}
use Rattle.std.specs.Prelude.{◌||◌, slice_get}
use Rattle.std.specs.List.{AllByRecursion}
use Rattle.std.proofs.lemmas.Bool.{and_from}
use Rattle.tac_ir.specs.declared.register.Register.TheVariants as R
use Rattle.tac_ir.specs.Code.{Tree, Op, Tac}
use Rattle.tac_ir.specs.States.{Owner}
use Rattle.heap_graph.specs.Graphs.{OfRegister, Graph}
use Rattle.heap_graph.specs.Targets.{implies}
use Rattle.heap_graph.specs.Points.{point_closed}
use Rattle.heap_graph.specs.Closed.{Family, graph_of, mentions_closed}
use Rattle.heap_graph.specs.Plain.{plain_closed}
use Rattle.heap_graph.specs.Asks.{own, point_asked, size_told, sizes_told}
use Rattle.heap_graph.specs.Restricted.{Restricts}
use Rattle.heap_graph.proofs.RestrictedPoints.{at_kept, point_restricted}
use Rattle.dsa_local.specs.Sizes.{is_size_of}
use Rattle.graph_unification.specs.Applying.{AllAsked}
use Rattle.dsa_local.specs.Rounds.{points_at, Settled}
use Rattle.dsa_local.specs.Sizes.{AllSizesTold, SizesTold}
use Rattle.dsa_local.proofs.RoundSteps.{each_at}
use Rattle.dsa_local.proofs.SizeSteps.{size_as_named, sizes_by}

where_asked : (asked holds : Bool) → holds ≡ true → implies asked holds ≡ true
where_asked true holds h = h
where_asked false holds h = refl

module _ (tac : Tac) (graph kept : Graph) (owner : Owner) (restricts : Restricts graph kept) where
  size_restricted : (site : ℕ) (size : Tree) → size_told tac graph owner site size ≡ true → size_told tac kept owner site size ≡ true
  size_restricted site size h =
      size_as_named tac kept owner site size
      ∙ at_kept tac graph kept owner restricts (own tac graph owner (R.Call site)) (own tac kept owner (R.Call site)) (restricts.names (OfRegister owner (R.Call site)) refl)
      (λ node shift. is_size_of tac.structs size node.element || node.flags.array) (λ a b shift element flags. λ i. is_size_of tac.structs size (element i) || flags.array i)
      (where_asked _ _ (sym (size_as_named tac graph owner site size) ∙ h))

  -- a point, unless it is a call, of which nothing is said here
  pub point_kept : (op : Op) → point_asked tac graph owner op ≡ true → sizes_told tac graph owner op ≡ true → point_closed tac kept owner op ≡ true
  point_kept op asked told = point_restricted tac graph kept owner restricts op asked (sizes_by tac graph kept owner size_restricted op told)

  -- all points of a function
  pub points_kept : (ops : List Op) → AllAsked tac owner ops graph → AllSizesTold tac owner ops graph → AllByRecursion (λ op. point_closed tac kept owner op ≡ true) ops
  points_kept [] asked told = tt
  points_kept (op ∷ ops) asked told = (point_kept op asked.0 told.0, points_kept ops asked.1 told.1)

-- with what its paths begin with, all that its points ask that are no calls
pub plain_kept : (tac : Tac) (family : Family) (owner : Owner) (ops : List Op) → AllByRecursion (λ op. mentions_closed family owner op ≡ true) ops
    → AllByRecursion (λ op. point_closed tac (graph_of family owner) owner op ≡ true) ops → plain_closed tac family owner ops ≡ true
plain_kept tac family owner [] mentioned closed = refl
plain_kept tac family owner (op ∷ ops) mentioned closed = and_from _ _ (and_from _ _ mentioned.0 closed.0) (plain_kept tac family owner ops mentioned.1 closed.1)

-- ---- a function of several

pub settled_at : (tac : Tac) (graph : Graph) (owners : List Owner) (number : ℕ) (owner : Owner) → Settled tac owners graph → slice_get owners number ≡ Some owner → AllAsked tac owner (points_at tac owner) graph
settled_at tac graph owners number owner settled at = each_at (λ owner. AllAsked tac owner (points_at tac owner) graph) owners number owner settled at

pub sizes_at : (tac : Tac) (graph : Graph) (owners : List Owner) (number : ℕ) (owner : Owner) → SizesTold tac owners graph → slice_get owners number ≡ Some owner → AllSizesTold tac owner (points_at tac owner) graph
sizes_at tac graph owners number owner told at = each_at (λ owner. AllSizesTold tac owner (points_at tac owner) graph) owners number owner told at

-- Where the graph is settled and sizes are told, all that the points of one of the functions ask that are no calls holds in the graph of the certain nodes.
pub group_kept : (tac : Tac) (graph kept : Graph) (owners : List Owner) → Settled tac owners graph → SizesTold tac owners graph → Restricts graph kept → (number : ℕ) (owner : Owner) → slice_get owners number ≡ Some owner
    → AllByRecursion (λ op. point_closed tac kept owner op ≡ true) (points_at tac owner)
group_kept tac graph kept owners settled told restricts number owner at =
    points_kept tac graph kept owner restricts (points_at tac owner) (settled_at tac graph owners number owner settled at) (sizes_at tac graph owners number owner told at)

-- and so what the function's plain points ask of its group's graph, where that is this one
pub group_closed : (tac : Tac) (graph : Graph) (owners : List Owner) → Settled tac owners graph → SizesTold tac owners graph → (family : Family) (number : ℕ) (owner : Owner) → slice_get owners number ≡ Some owner
    → Restricts graph (graph_of family owner) → AllByRecursion (λ op. mentions_closed family owner op ≡ true) (points_at tac owner) → plain_closed tac family owner (points_at tac owner) ≡ true
group_closed tac graph owners settled told family number owner at restricts mentioned =
    plain_kept tac family owner (points_at tac owner) mentioned (group_kept tac graph (graph_of family owner) owners settled told restricts number owner at)
