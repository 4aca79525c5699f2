-- The graph of a group after its parts are joined.
use Rattle.std.proofs.Common.{◌≡◌, ℕ, ◌≤◌, List, length, Some, arith}
use Rattle.std.specs.Prelude.{slice_get}
use Rattle.std.proofs.lemmas.Option.{slice_get_within}
use Rattle.heap_graph.specs.Graphs.{Graph}
use Rattle.heap_graph.specs.Structures.{AreMade}
use Rattle.heap_graph.specs.Merging.{IsSound}
use Rattle.call_graph.proofs.RowLists.{has_at, at_has}
use Rattle.call_graph.specs.GroupViews.{groups_of, IsOf}
use Rattle.graph_unification.specs.Going.{AllNamed}
use Rattle.dsa_local.specs.Told.{NamesTold}
use Rattle.dsa_local.proofs.GroupBegins.Kept.{told_kept}
use Rattle.dsa_local.specs.declared.members.Group.{Group}
use Rattle.dsa_local.specs.Joined.{Joins, CallsJoined, ClassesJoined}
use Rattle.dsa_local.specs.Members.{code_of, is_inside}
use Rattle.dsa_local.proofs.Joining.{Below, AtEach, joins_for}
use Rattle.dsa_local.proofs.InnerCalls.Kept.{classes_joined_kept}
use Rattle.dsa_local.specs.Local.{owners_at, AllCallsJoined, IsJoinedGroup}
use Rattle.dsa_local.proofs.Owning.{inside_has}

module _ (group : Group) (made : AreMade (code_of group).structs) where
  -- calls of all functions of a list, one after the other
  pub members_joined : (list : List ℕ) (count : ℕ) → length list ≤ count → (old new : Graph) → Joins (code_of group).structs old new (Below (AtEach (CallsJoined (code_of group) (is_inside group)) list) count)
      → Joins (code_of group).structs old new (AllCallsJoined (code_of group) (is_inside group) list)
  members_joined list count long old new joins =
      joins_for (code_of group).structs made old new (Below (AtEach (CallsJoined (code_of group) (is_inside group)) list) count) (AllCallsJoined (code_of group) (is_inside group) list)
      (λ graph all k less function at. all function (has_at list k function at))
      (λ below function has.
      let place = at_has list function has in
      let less = slice_get_within list place.0 function place.1 in
      below place.0 (omega (arith, less, long)) function place.1)
      joins

  pub group_joined : IsOf group.tac.now group.groups.now → (list : List ℕ) → slice_get (groups_of group.groups.now) group.number ≡ Some list → (begun classed joined : Graph) → IsSound (code_of group).structs begun
      → IsSound (code_of group).structs classed → NamesTold (code_of group) (owners_at (groups_of group.groups.now) group.number) begun → AllNamed begun
      → Joins (code_of group).structs begun classed (ClassesJoined (code_of group) (is_inside group)) → Joins (code_of group).structs classed joined (AllCallsJoined (code_of group) (is_inside group) list)
      → IsJoinedGroup (code_of group) (owners_at (groups_of group.groups.now) group.number) (is_inside group) joined
  group_joined of list at begun classed joined sound fine told named x y =
      let owners = owners_at (groups_of group.groups.now) group.number in
      record {
        told = told_kept (code_of group) made classed joined fine y.goes owners (λ name own. y.leads.names name)
            (told_kept (code_of group) made begun classed sound x.goes owners (λ name own. x.leads.names name) told);
        named = y.goes.named (x.goes.named named);
        classes = classes_joined_kept (code_of group).structs made (code_of group) (is_inside group) classed joined fine y.goes x.joined;
        calls = λ caller is. y.joined caller (inside_has group of list at caller is);
      }
