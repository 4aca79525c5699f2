-- Groups before whose variables outside functions and literals are joined with copies in a graph that is made.
use Rattle.std.specs.Prelude.{◌≡◌, ℕ, List, slice_get, Contains, Option, Some}
use Rattle.heap_graph.specs.Graphs.{Graph}
use Rattle.dsa_inlining.specs.declared.told_statics.GroupStatics.{GroupStatics}
use Rattle.dsa_inlining.specs.Searched.{AreClosed}
use Rattle.dsa_inlining.specs.declared.crossed.Crossed.{Crossed}
use Rattle.dsa_inlining.specs.OuterCalls.Listed.{ListCome}
use Rattle.dsa_inlining.specs.declared.before.Before.{Before}
use Rattle.dsa_inlining.specs.declared.joined.JoinedGroups.{JoinedGroups}
use Rattle.dsa_inlining.specs.Before.{GraphsBefore, graphs_before}
use Rattle.dsa_inlining.specs.Bases.{IsAligned}

-- With each group whose variables and literals are joined those are of its bases, and they lie in the graph as far apart as in its own. The
-- groups that were called are among them.
pub record AreKnownJoined (before : GraphsBefore) (joined : JoinedGroups) (graph : Graph) : Type 0 where
  pub closed : AreClosed before.statics joined.told.keys
  pub aligned : (group : ℕ) → Contains joined.told.keys group → IsAligned before graph group
  pub bases : (group : ℕ) → Contains joined.bases.items group → Contains joined.told.keys group

-- the groups before, in the program of a call
abbrev pub groups_of : Crossed → Before → GraphsBefore
groups_of crossed before = record (graphs_before before) { tac = crossed.tac.now }

-- ---- what comes to copies

module _ (all : List GroupStatics) (callee : Graph) (copies : ℕ → Option ℕ) where
  -- those that stand for a group's
  abbrev pub RepresentativesCome : ℕ → Graph → Type 0
  RepresentativesCome group graph = (its : GroupStatics) → slice_get all group ≡ Some its → ListCome callee copies its.representatives graph

  -- those of each of these groups
  abbrev pub BasesCome : List ℕ → Graph → Type 0
  BasesCome bases graph = (base : ℕ) → Contains bases base → RepresentativesCome base graph

  -- those that functions of a group mention themselves, and those that stand for its bases'
  abbrev pub GroupComes : ℕ → Graph → Type 0
  GroupComes group graph = (its : GroupStatics) → slice_get all group ≡ Some its → ListCome callee copies its.own graph × BasesCome its.bases.items graph

  -- those of each of these groups
  abbrev pub GroupsCome : List ℕ → Graph → Type 0
  GroupsCome groups graph = (group : ℕ) → Contains groups group → GroupComes group graph
