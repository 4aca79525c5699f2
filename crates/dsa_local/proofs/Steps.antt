-- Points and functions one after the other.
use Rattle.std.proofs.Common.{◌≡◌, ℕ, ◌+◌, ◌<◌, ◌≤◌, true, List, length, drop, get_or, map, sym, ◌∙◌}
use Rattle.std.proofs.lemmas.Option.{same_Some, slice_get-get_or}
use Rattle.tac_ir.specs.Code.{Op, Tac}
use Rattle.tac_ir.specs.States.{Owner}
use Rattle.heap_graph.specs.Graphs.{Name, Graph}
use Rattle.heap_graph.specs.Targets.{has_target}
use Rattle.heap_graph.specs.Closed.{no_graph}
use Rattle.graph_unification.specs.GraphNames.First.{first_node}
use Rattle.graph_unification.specs.Changes.{IsBlank}
use Rattle.dsa_local.specs.Beginning.{Covers, HaveTargets, op_node, AddsOp, AddsOps, OpsGoOn, CoversOwner, OwnerHas, AddsOwner, AddsOwners, OwnersGoOn}
use Rattle.dsa_local.proofs.Covered.{have_stays, goes_on, ends}
use Rattle.dsa_local.proofs.GroupBegins.Beginning.{each_at, at_each}

module _ (tac : Tac) where
  abbrev Stays : Graph → Graph → Type 0
  Stays old new = (name : Name) → has_target (old.targets name) ≡ true → has_target (new.targets name) ≡ true

  op_stays : (op : Op) (old new : Graph) → Stays old new → HaveTargets (op_node tac op) old → HaveTargets (op_node tac op) new
  op_stays op old new stays has = have_stays (op_node tac op) old new stays has

  owner_stays : (owner : Owner) (old new : Graph) → Stays old new → OwnerHas tac owner old → OwnerHas tac owner new
  owner_stays owner old new stays has = λ function there.
      let its = has function there in
      record {
        own = have_stays (first_node owner function) old new stays its.own;
        outside = each_at (λ op. HaveTargets (op_node tac op) new) function.points
            (λ at op is. op_stays op old new stays (at_each (λ o. HaveTargets (op_node tac o) old) function.points its.outside at op is));
      }

  module _ {Y : Type 0} (f : Y → Op) (ys : List Y) (start : Graph) where
    pub ops_go_on : (i : ℕ) (y : Y) → y ≡ get_or ys i y → i < length ys → (graph after : Graph) → OpsGoOn tac (map f ys) start (map f (drop i ys)) graph → AddsOp tac (f y) graph after
        → OpsGoOn tac (map f ys) start (map f (drop (i + 1) ys)) after
    ops_go_on i y is within graph after goes its =
        goes_on (λ op first. Covers (op_node tac op) first) (λ op g. HaveTargets (op_node tac op) g) op_stays f ys start i y is within graph after goes its

    pub ops_end : (i : ℕ) → length ys ≤ i → (graph : Graph) → OpsGoOn tac (map f ys) start (map f (drop i ys)) graph → AddsOps tac (map f ys) start graph
    ops_end i out graph goes = ends (λ op first. Covers (op_node tac op) first) (λ op g. HaveTargets (op_node tac op) g) op_stays f ys start i out graph goes

  module _ {Y : Type 0} (f : Y → Owner) (ys : List Y) (start : Graph) where
    pub owners_go_on : (i : ℕ) (d : Y) → i < length ys → (graph after : Graph) → OwnersGoOn tac (map f ys) start (map f (drop i ys)) graph → AddsOwner tac (f (get_or ys i d)) graph after
        → OwnersGoOn tac (map f ys) start (map f (drop (i + 1) ys)) after
    owners_go_on i d within graph after goes its =
        goes_on (CoversOwner tac) (OwnerHas tac) owner_stays f ys start i (get_or ys i d)
        (same_Some _ _ (sym (slice_get-get_or ys i d within) ∙ slice_get-get_or ys i (get_or ys i d) within)) within graph after goes its

    pub owners_end : (i : ℕ) → length ys ≤ i → (graph : Graph) → OwnersGoOn tac (map f ys) start (map f (drop i ys)) graph → AddsOwners tac (map f ys) start graph
    owners_end i out graph goes = ends (CoversOwner tac) (OwnerHas tac) owner_stays f ys start i out graph goes

pub blank_is : (graph : Graph) → IsBlank graph → graph ≡ no_graph
blank_is graph blank = λ i. record { nodes = blank.nodes i; targets = λ name. blank.names name i }
