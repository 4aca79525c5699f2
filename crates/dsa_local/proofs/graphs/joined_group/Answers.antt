use Rattle.std.proofs.Common.{◌≡◌, ℕ, ◌<◌, List, Vec, Global, [], map, get_or, length, option_map, Some, refl, sym, ap, subst, ◌∙◌}
use Rattle.std.specs.Prelude.{slice_get}
use Rattle.std.proofs.lemmas.Option.{slice_get-map, slice_get_read, get_or_from_slice_get}
use Rattle.tac_ir.specs.declared.register.FunctionId.{FunctionId}
use Rattle.tac_ir.specs.Views.{tac_of}
use Rattle.graph_unification.specs.Memory.{owner_of, graph_in}
use Rattle.call_graph.specs.ClassLists.{numbers_of}
use Rattle.call_graph.specs.GroupViews.{lists_of, groups_of}
use Rattle.dsa_local.specs.Beginning.{Begins}
use Rattle.dsa_local.specs.Told.{NamesTold}
use Rattle.dsa_local.specs.declared.members.Group.{Group}
use Rattle.dsa_local.specs.Members.{is_inside}
use Rattle.dsa_local.proofs.InnerCalls.Kept.{all_have_own}
use Rattle.dsa_local.specs.Local.{owners_in, owners_at}
use Rattle.dsa_local.proofs.Keeping.{copies_kept, have_own}
use Rattle.dsa_local.proofs.Owning.{inside_among, has_inside, listed_within}
use Rattle.dsa_local.proofs.Assembling.{group_joined}
use Rattle.dsa_local.proofs.Leading.{group_leads}
use Rattle.dsa_local.proofs.graphs.joined_group.Goals as goal

listed : (lists : List (Vec FunctionId Global)) (n : ℕ) (list : Vec FunctionId Global) (members : List FunctionId) → n < length lists → list ≡ get_or lists n list → members ≡ list.items
    → slice_get (lists_of lists) n ≡ Some (numbers_of members)
listed lists n list members less is same =
    slice_get-map (λ (l : Vec FunctionId Global). numbers_of l.items) lists n
    ∙ (ap (option_map (λ (l : Vec FunctionId Global). numbers_of l.items)) (slice_get_read lists (length lists) n list refl less is) ∙ ap (λ (l : List FunctionId). Some (numbers_of l)) (sym same))

pub join_classes-requires-clause-names : goal.join_classes-requires-clause-names
join_classes-requires-clause-names c =
    let tac = c.args.tac.now in
    let groups = c.args.groups.now in
    let n = c.args.number in
    let group : Group = record { tac = c.args.tac; groups = c.args.groups; number = n } in
    let lists = groups.members.items in
    let members = c.as_slice-members.result.now in
    let at : slice_get (groups_of groups) n ≡ Some (numbers_of members) =
    listed lists n c.index.result.now members c.requires.within c.index.ensures c.as_slice-members.ensures.value in
    let owners = owners_at (groups_of groups) n in
    let same : map owner_of c.deref.result.now ≡ owners =
    ap (map owner_of) c.deref.ensures.value ∙ (c.in_ok-owners.ensures ∙ sym (ap owners_in (get_or_from_slice_get (groups_of groups) n (numbers_of members) [] at))) in
    let begun = graph_in tac.types c.in_ok-graph.graph in
    let told : NamesTold (tac_of tac) owners begun = subst (λ os. NamesTold (tac_of tac) os begun) same c.in_ok-graph.ensures.told in
    have_own (tac_of tac) owners (is_inside group) begun told (inside_among group c.requires.of)

pub join_members-requires-clause-inside : goal.join_members-requires-clause-inside
join_members-requires-clause-inside c =
    let tac = c.args.tac.now in
    let groups = c.args.groups.now in
    let n = c.args.number in
    let group : Group = record { tac = c.args.tac; groups = c.args.groups; number = n } in
    let lists = groups.members.items in
    let members = c.as_slice-members.result.now in
    let at : slice_get (groups_of groups) n ≡ Some (numbers_of members) =
    listed lists n c.index.result.now members c.requires.within c.index.ensures c.as_slice-members.ensures.value in
    has_inside group c.requires.of c.requires.groups (numbers_of members) at

pub join_members-requires-clause-names : goal.join_members-requires-clause-names
join_members-requires-clause-names c =
    let tac = c.args.tac.now in
    let groups = c.args.groups.now in
    let n = c.args.number in
    let group : Group = record { tac = c.args.tac; groups = c.args.groups; number = n } in
    let lists = groups.members.items in
    let members = c.as_slice-members.result.now in
    let at : slice_get (groups_of groups) n ≡ Some (numbers_of members) =
    listed lists n c.index.result.now members c.requires.within c.index.ensures c.as_slice-members.ensures.value in
    let owners = owners_at (groups_of groups) n in
    let same : map owner_of c.deref.result.now ≡ owners =
    ap (map owner_of) c.deref.ensures.value ∙ (c.in_ok-owners.ensures ∙ sym (ap owners_in (get_or_from_slice_get (groups_of groups) n (numbers_of members) [] at))) in
    let begun = graph_in tac.types c.in_ok-graph.graph in
    let told : NamesTold (tac_of tac) owners begun = subst (λ os. NamesTold (tac_of tac) os begun) same c.in_ok-graph.ensures.told in
    all_have_own begun (graph_in tac.types c.join_classes.new.graph) c.in_ok-join_classes.ensures.joins.leads.names (tac_of tac) (is_inside group)
    (have_own (tac_of tac) owners (is_inside group) begun told (inside_among group c.requires.of))

pub scopes-requires : goal.scopes-requires
scopes-requires c =
    let tac = c.args.tac.now in
    let groups = c.args.groups.now in
    let n = c.args.number in
    let group : Group = record { tac = c.args.tac; groups = c.args.groups; number = n } in
    let lists = groups.members.items in
    let members = c.as_slice-members.result.now in
    let at : slice_get (groups_of groups) n ≡ Some (numbers_of members) =
    listed lists n c.index.result.now members c.requires.within c.index.ensures c.as_slice-members.ensures.value in
    record { within = listed_within group c.requires.of c.requires.groups (numbers_of members) at }

pub returns-clause-joined : goal.returns-clause-joined
returns-clause-joined c =
    let tac = c.args.tac.now in
    let groups = c.args.groups.now in
    let n = c.args.number in
    let group : Group = record { tac = c.args.tac; groups = c.args.groups; number = n } in
    let lists = groups.members.items in
    let members = c.as_slice-members.result.now in
    let at : slice_get (groups_of groups) n ≡ Some (numbers_of members) =
    listed lists n c.index.result.now members c.requires.within c.index.ensures c.as_slice-members.ensures.value in
    let owners = owners_at (groups_of groups) n in
    let same : map owner_of c.deref.result.now ≡ owners =
    ap (map owner_of) c.deref.ensures.value ∙ (c.in_ok-owners.ensures ∙ sym (ap owners_in (get_or_from_slice_get (groups_of groups) n (numbers_of members) [] at))) in
    let begun = graph_in tac.types c.in_ok-graph.graph in
    let told : NamesTold (tac_of tac) owners begun = subst (λ os. NamesTold (tac_of tac) os begun) same c.in_ok-graph.ensures.told in
    group_joined group c.requires.code.made c.requires.of (numbers_of members) at begun (graph_in tac.types c.join_classes.new.graph) (graph_in tac.types c.join_members.new.graph) c.in_ok-graph.ensures.graph.sound
    c.in_ok-join_classes.ensures.graph.sound told c.in_ok-graph.ensures.named c.in_ok-join_classes.ensures.joins c.in_ok-join_members.ensures.joins

pub returns-clause-leads : goal.returns-clause-leads
returns-clause-leads c =
    let tac = c.args.tac.now in
    let groups = c.args.groups.now in
    let n = c.args.number in
    let group : Group = record { tac = c.args.tac; groups = c.args.groups; number = n } in
    let lists = groups.members.items in
    let members = c.as_slice-members.result.now in
    let at : slice_get (groups_of groups) n ≡ Some (numbers_of members) =
    listed lists n c.index.result.now members c.requires.within c.index.ensures c.as_slice-members.ensures.value in
    let owners = owners_at (groups_of groups) n in
    let same : map owner_of c.deref.result.now ≡ owners =
    ap (map owner_of) c.deref.ensures.value ∙ (c.in_ok-owners.ensures ∙ sym (ap owners_in (get_or_from_slice_get (groups_of groups) n (numbers_of members) [] at))) in
    let begun = graph_in tac.types c.in_ok-graph.graph in
    group_leads group c.requires.of c.requires.groups (numbers_of members) at owners begun (graph_in tac.types c.join_classes.new.graph) (graph_in tac.types c.join_members.new.graph)
    (subst (λ os. Begins (tac_of tac) os begun) same c.in_ok-graph.ensures.begins) c.in_ok-join_classes.ensures.joins c.in_ok-join_members.ensures.joins

pub returns-clause-copies : goal.returns-clause-copies
returns-clause-copies c =
    let show = graph_in c.args.tac.now.types in
    copies_kept (show c.join_classes.new.graph) (show c.join_members.new.graph) c.in_ok-join_members.ensures.joins.leads.names
    (copies_kept (show c.in_ok-graph.graph) (show c.join_classes.new.graph) c.in_ok-join_classes.ensures.joins.leads.names c.in_ok-graph.ensures.copies)

pub returns-clause-owners : goal.returns-clause-owners
returns-clause-owners c =
    let tac = c.args.tac.now in
    let groups = c.args.groups.now in
    let n = c.args.number in
    let group : Group = record { tac = c.args.tac; groups = c.args.groups; number = n } in
    let lists = groups.members.items in
    let members = c.as_slice-members.result.now in
    let at : slice_get (groups_of groups) n ≡ Some (numbers_of members) =
    listed lists n c.index.result.now members c.requires.within c.index.ensures c.as_slice-members.ensures.value in
    c.in_ok-scopes.ensures.owners ∙ sym (ap owners_in (get_or_from_slice_get (groups_of groups) n (numbers_of members) [] at))
