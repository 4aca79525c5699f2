use Rattle.std.proofs.Common.{◌≡◌, false, map, None, [], ◌∷◌, ◌++◌, refl, sym, ap, subst, ◌∙◌}
use Rattle.tac_ir.specs.States.{InStart}
use Rattle.tac_ir.specs.Views.{tac_of}
use Rattle.graph_unification.specs.Memory.{owner_of, graph_in}
use Rattle.dsa_local.specs.Beginning.{Begins}
use Rattle.heap_graph.specs.Known.{owner_at}
use Rattle.dsa_local.specs.Local.{AreScopes}
use Rattle.dsa_local.proofs.Leading.{begun_leads}
use Rattle.dsa_local.proofs.Scoping.{scope_told}
use Rattle.dsa_local.proofs.graphs.joined_start.Goals as goal

pub returns-clause-scopes : goal.returns-clause-scopes
returns-clause-scopes c =
    let tac = c.args.tac.now in
    let scope = c.in_ok-scope_of.field-0 in
    subst (AreScopes tac) (sym (c.in_ok-push-2.ensures.items ∙ ap (λ l. l ++ scope ∷ []) c.new-scopes.ensures.items))
    (scope_told tac InStart tac.start scope refl (ap owner_at c.in_ok-scope_of.ensures.owner) (c.in_ok-scope_of.ensures.describes tac.types), tt)

pub returns-clause-leads : goal.returns-clause-leads
returns-clause-leads c =
    let tac = c.args.tac.now in
    let begun = graph_in tac.types c.in_ok-graph.graph in
    let same : map owner_of c.deref.result.now ≡ InStart ∷ [] = ap (map owner_of) (c.deref.ensures.value ∙ (c.in_ok-push.ensures.items ∙ ap (λ l. l ++ None ∷ []) c.new-owners.ensures.items)) in
    begun_leads (tac_of tac) (InStart ∷ []) (λ number. false) begun (subst (λ os. Begins (tac_of tac) os begun) same c.in_ok-graph.ensures.begins)
