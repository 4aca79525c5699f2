-- When a group begins with more nodes than a graph may have.
use Rattle.std.specs.Prelude.{◌≡◌, ◌↔◌, ℕ, ◌<◌, ◌≤◌, Bool, false, not, List, length, map, slice_get, get_or, Contains, Some}
use Rattle.tac_ir.specs.Code.{Tac}
use Rattle.tac_ir.specs.States.{InFunction}
use Rattle.heap_graph.specs.Graphs.{Node, OfGlobal, OfLiteral, node_at}
use Rattle.heap_graph.specs.Targets.{has_target}
use Rattle.heap_graph.specs.Escaping.{Escapes}
use Rattle.heap_graph.specs.Closed.{Family, graph_of, group_of, is_in}
use Rattle.dsa_inlining.specs.Before.{Rises}
use Rattle.dsa_bottom_up.specs.Below.{ClosedBelow, LeastBelow}
use Rattle.dsa_inlining.specs.Counting.{total, Outside, group_count, start_count}

-- how many nodes a group may begin with
abbrev pub limit : ℕ
limit = 65536

module _ (family : Family) where
  -- these are the nodes that escape the function, each once
  pub record AreEscaping (called : ℕ) (numbers : List ℕ) : Type 0 where
    pub rises : Rises numbers
    pub exactly : (number : ℕ) → Contains numbers number ↔ ((node : Node) × (node_at (graph_of family (InFunction called)) number ≡ Some node) × Escapes (graph_of family (InFunction called)) (InFunction called) number)

  -- what is told of functions that aren't a group's own, where they are of groups below a number
  pub record IsOutsideOf (own : ℕ → Bool) (number : ℕ) (outside : Outside) : Type 0 where
    pub is_out : (called : ℕ) → called < length family.tac.functions → outside.is_out called ≡ not (own called)
    pub escaping : (called : ℕ) → called < length family.tac.functions → group_of family called < number → (numbers : List ℕ) × AreEscaping called numbers × (outside.escaping called ≡ length numbers)
    pub globals : (called place : ℕ) → called < length family.tac.functions → group_of family called < number
        → outside.tells called (OfGlobal place) ≡ has_target ((graph_of family (InFunction called)).targets (OfGlobal place))
    pub literals : (called place : ℕ) → called < length family.tac.functions → group_of family called < number
        → outside.tells called (OfLiteral place) ≡ has_target ((graph_of family (InFunction called)).targets (OfLiteral place))

  -- a group begins with so many nodes, where each function counts so many by itself
  pub record GroupCounts (counts : List ℕ) (number count : ℕ) : Type 0 where
    pub group : List ℕ
    pub is : slice_get family.groups number ≡ Some group
    pub outside : Outside
    pub told : IsOutsideOf (λ called. is_in called group) number outside
    pub so_many : count ≡ group_count family.tac outside (total (λ function. get_or counts function 0) group) (map InFunction group)

  pub record StartCounts (own count : ℕ) : Type 0 where
    pub outside : Outside
    pub told : IsOutsideOf (λ called. false) (length family.groups) outside
    pub so_many : count ≡ start_count family.tac outside own

  -- no group below the number begins with too many
  abbrev pub AreFew : List ℕ → ℕ → Type 0
  AreFew counts number = (at : ℕ) → at < number → (count : ℕ) × GroupCounts counts at count × (count ≤ limit)

-- The first group that begins with too many nodes, or `start`, where the graphs of the groups before are closed and the least.
pub data IsRefused (tac : Tac) (groups : List (List ℕ)) (counts : List ℕ) (own count : ℕ) : Type 0 where
  in_group : (family : Family) (number : ℕ) → family.tac ≡ tac → family.groups ≡ groups → ClosedBelow family number → LeastBelow family number → AreFew family counts number → GroupCounts family counts number count
      → limit < count → IsRefused tac groups counts own count
  in_start : (family : Family) → family.tac ≡ tac → family.groups ≡ groups → ClosedBelow family (length groups) → LeastBelow family (length groups) → AreFew family counts (length groups) → StartCounts family own count
      → limit < count → IsRefused tac groups counts own count
