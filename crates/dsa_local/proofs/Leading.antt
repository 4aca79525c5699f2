-- The graph of a group is on the way to each in which its names are and its calls are joined.
use Rattle.std.proofs.Common.{◌≡◌, ℕ, Bool, List, Some}
use Rattle.std.specs.Prelude.{slice_get}
use Rattle.tac_ir.specs.Code.{Tac}
use Rattle.tac_ir.specs.States.{Owner}
use Rattle.tac_ir.specs.Groups.{AreGroups}
use Rattle.heap_graph.specs.Graphs.{Graph}
use Rattle.call_graph.specs.GroupViews.{groups_of, IsOf}
use Rattle.dsa_local.specs.Beginning.{Begins}
use Rattle.dsa_local.proofs.GroupBegins.Leading.{group_fits, begins_leads}
use Rattle.dsa_local.specs.declared.members.Group.{Group}
use Rattle.dsa_local.specs.Joined.{Joins, ClassesJoined}
use Rattle.dsa_local.specs.Members.{code_of, is_inside}
use Rattle.dsa_local.specs.Local.{AllCallsJoined, LeadsJoined}
use Rattle.dsa_local.proofs.Owning.{has_inside}

-- that with which it begins
pub begun_leads : (tac : Tac) (owners : List Owner) (inside : ℕ → Bool) (graph : Graph) → Begins tac owners graph → LeadsJoined tac owners inside graph
begun_leads tac owners inside graph begins = λ other fits classes calls. begins_leads tac.structs tac owners graph other begins (group_fits tac owners other fits)

-- and so is that in which classes and calls are joined
pub group_leads : (group : Group) → IsOf group.tac.now group.groups.now → AreGroups (code_of group) (groups_of group.groups.now) → (list : List ℕ) → slice_get (groups_of group.groups.now) group.number ≡ Some list
    → (owners : List Owner) (begun classed joined : Graph) → Begins (code_of group) owners begun → Joins (code_of group).structs begun classed (ClassesJoined (code_of group) (is_inside group))
    → Joins (code_of group).structs classed joined (AllCallsJoined (code_of group) (is_inside group) list) → LeadsJoined (code_of group) owners (is_inside group) joined
group_leads group of groups list at owners begun classed joined begins x y = λ other fits classes calls.
    let first = begins_leads (code_of group).structs (code_of group) owners begun other begins (group_fits (code_of group) owners other fits) in
    let next = x.leads.least other first.0 first.1 classes in
    y.leads.least other next.0 next.1 (λ caller has. calls caller (has_inside group of groups list at caller has))
