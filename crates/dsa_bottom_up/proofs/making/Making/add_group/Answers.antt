use Rattle.std.proofs.Common.{◌≡◌, ◌<◌, ℕ, List, Vec, Global, length, map, All, get_or, option_map, Some, refl, sym, ap, ◌∙◌, subst}
use Rattle.std.specs.Prelude.{slice_get}
use Rattle.std.proofs.lemmas.Option.{slice_get-map, slice_get_read}
use Rattle.c_typed.specs.DefinitionViews.{LiteralsStand}
use Rattle.tac_ir.specs.declared.register.FunctionId.{FunctionId}
use Rattle.tac_ir.specs.Views.{tac_of}
use Rattle.graph_unification.specs.Memory.{graph_in}
use Rattle.call_graph.specs.ClassLists.{numbers_of}
use Rattle.call_graph.specs.GroupViews.{lists_of, groups_of, IsOf}
use Rattle.graph_unification.specs.Standing.{CodeStands}
use Rattle.heap_graph.specs.Frozen.{bare}
use Rattle.dsa_inlining.specs.Aligned.{AreAligned}
use Rattle.dsa_inlining.specs.GroupStatics.Groups.{HaveStatics}
use Rattle.dsa_inlining.specs.Owners.{IsFunctionOf}
use Rattle.dsa_local.specs.Local.{IsJoinedGroup, LeadsJoined, owners_at}
use Rattle.dsa_inlining.specs.Before.{GraphsBefore, graphs_before, is_inside}
use Rattle.dsa_inlining.specs.Crossings.{AllReached, owners_in}
use Rattle.dsa_inlining.specs.Live.{AreLive}
use Rattle.dsa_bottom_up.specs.Assembled.{IsAssembled}
use Rattle.dsa_bottom_up.proofs.Growing.{all_reached}
use Rattle.dsa_bottom_up.specs.Assembling.{HasBases}
use Rattle.dsa_bottom_up.specs.Making.{made_in}
use Rattle.dsa_bottom_up.proofs.FrozenBases.{self_aligned}
use Rattle.dsa_bottom_up.proofs.Keeping.{group_added, kept_added, least_added, bare_added, begins_still, members_are, members_apart, owners_are, members_below}
use Rattle.dsa_bottom_up.proofs.making.Making.add_group.Goals as goal

listed : (lists : List (Vec FunctionId Global)) (n : ℕ) (list : Vec FunctionId Global) (members : List FunctionId) → n < length lists → list ≡ get_or lists n list → members ≡ list.items
    → slice_get (lists_of lists) n ≡ Some (numbers_of members)
listed lists n list members less is same =
    slice_get-map (λ (l : Vec FunctionId Global). numbers_of l.items) lists n
    ∙ (ap (option_map (λ (l : Vec FunctionId Global). numbers_of l.items)) (slice_get_read lists (length lists) n list refl less is) ∙ ap (λ (l : List FunctionId). Some (numbers_of l)) (sym same))

pub assemble-requires-clause-known : goal.assemble-requires-clause-known
assemble-requires-clause-known c =
    let same = sym c.before-2.ensures in
    record {
      code = subst (λ (g : GraphsBefore). CodeStands (tac_of g.tac)) same c.requires.grouped.stands.code;
      literals = subst (λ (g : GraphsBefore). LiteralsStand g.tac.types g.tac.literals.items) same c.requires.grouped.literals;
      groups = subst (λ (g : GraphsBefore). IsOf g.tac g.groups) same c.requires.grouped.of;
      live = subst (λ (g : GraphsBefore). AreLive g.tac g.escaping g.live) same c.requires.kept.live;
      statics = subst (λ (g : GraphsBefore). HaveStatics g.tac.types g.graphs g.statics) same c.requires.kept.statics;
    }

pub assemble-requires-clause-owners : goal.assemble-requires-clause-owners
assemble-requires-clause-owners c =
    let tac = c.args.tac.now in
    let groups = c.args.groups.now in
    let n = c.args.number in
    let members = c.as_slice-members.result.now in
    let row : slice_get (groups_of groups) n ≡ Some (numbers_of members) =
    listed groups.members.items n c.index.result.now members c.requires.within c.index.ensures c.as_slice-members.ensures.value in
    let list : c.deref.result.now ≡ map Some members = c.deref.ensures.value ∙ c.in_ok-owners.ensures in
    subst (λ (g : GraphsBefore). All (IsFunctionOf g.tac) c.deref.result.now) (sym c.before-2.ensures)
    (subst (All (IsFunctionOf tac)) (sym list) (members_are tac groups n members c.requires.grouped row))

pub assemble-requires-clause-reached : goal.assemble-requires-clause-reached
assemble-requires-clause-reached c =
    let tac = c.args.tac.now in
    let groups = c.args.groups.now in
    let n = c.args.number in
    let members = c.as_slice-members.result.now in
    let row : slice_get (groups_of groups) n ≡ Some (numbers_of members) =
    listed groups.members.items n c.index.result.now members c.requires.within c.index.ensures c.as_slice-members.ensures.value in
    let list : c.deref.result.now ≡ map Some members = c.deref.ensures.value ∙ c.in_ok-owners.ensures in
    let before = made_in tac groups c.args.self.now in
    subst (λ (g : GraphsBefore). AllReached g (Some n) c.deref.result.now) (sym c.before-2.ensures)
    (subst (AllReached before (Some n)) (sym list) (all_reached before n members c.requires.grouped c.requires.making row))

pub assemble-requires-clause-joined : goal.assemble-requires-clause-joined
assemble-requires-clause-joined c =
    let tac = c.args.tac.now in
    let groups = c.args.groups.now in
    let n = c.args.number in
    let members = c.as_slice-members.result.now in
    let row : slice_get (groups_of groups) n ≡ Some (numbers_of members) =
    listed groups.members.items n c.index.result.now members c.requires.within c.index.ensures c.as_slice-members.ensures.value in
    let list : c.deref.result.now ≡ map Some members = c.deref.ensures.value ∙ c.in_ok-owners.ensures in
    let owners : owners_at (groups_of groups) n ≡ owners_in c.deref.result.now = owners_are tac groups n members c.requires.grouped row ∙ sym (ap owners_in list) in
    let graph = c.in_ok-local.local.graph in
    subst (λ (g : GraphsBefore). IsJoinedGroup (tac_of g.tac) (owners_in c.deref.result.now) (is_inside g.groups (Some n)) (graph_in g.tac.types graph)) (sym c.before-2.ensures)
    (subst (λ os. IsJoinedGroup (tac_of tac) os (is_inside groups (Some n)) (graph_in tac.types graph)) owners c.in_ok-local.ensures.joined)

pub assemble-requires-clause-owned : goal.assemble-requires-clause-owned
assemble-requires-clause-owned c =
    let tac = c.args.tac.now in
    let groups = c.args.groups.now in
    let n = c.args.number in
    let members = c.as_slice-members.result.now in
    let row : slice_get (groups_of groups) n ≡ Some (numbers_of members) =
    listed groups.members.items n c.index.result.now members c.requires.within c.index.ensures c.as_slice-members.ensures.value in
    let list : c.deref.result.now ≡ map Some members = c.deref.ensures.value ∙ c.in_ok-owners.ensures in
    c.in_ok-local.ensures.owners ∙ (owners_are tac groups n members c.requires.grouped row ∙ sym (ap owners_in list))

pub keep-requires-clause-functions : goal.keep-requires-clause-functions
keep-requires-clause-functions c =
    let tac = c.args.tac.now in
    let groups = c.args.groups.now in
    let n = c.args.number in
    let members = c.as_slice-members.result.now in
    let row : slice_get (groups_of groups) n ≡ Some (numbers_of members) =
    listed groups.members.items n c.index.result.now members c.requires.within c.index.ensures c.as_slice-members.ensures.value in
    members_below tac groups n members c.requires.grouped row c.args.self.now c.requires.making

pub keep-requires-clause-apart : goal.keep-requires-clause-apart
keep-requires-clause-apart c =
    let tac = c.args.tac.now in
    let groups = c.args.groups.now in
    let n = c.args.number in
    let members = c.as_slice-members.result.now in
    let row : slice_get (groups_of groups) n ≡ Some (numbers_of members) =
    listed groups.members.items n c.index.result.now members c.requires.within c.index.ensures c.as_slice-members.ensures.value in
    members_apart tac groups n members c.requires.grouped row

pub returns-in-Ok-push-clause-making : goal.returns-in-Ok-push-clause-making
returns-in-Ok-push-clause-making c =
    let tac = c.args.tac.now in
    let groups = c.args.groups.now in
    let n = c.args.number in
    let members = c.as_slice-members.result.now in
    let row : slice_get (groups_of groups) n ≡ Some (numbers_of members) =
    listed groups.members.items n c.index.result.now members c.requires.within c.index.ensures c.as_slice-members.ensures.value in
    let list : c.deref.result.now ≡ map Some members = c.deref.ensures.value ∙ c.in_ok-owners.ensures in
    let graph = c.in_ok-made.made.graph in
    let functions = c.in_ok-made.made.functions.items in
    let begun = graph_in c.before-2.result.tac.now.types c.in_ok-local.local.graph in
    let assembled =
    subst (λ (g : GraphsBefore). IsAssembled g (Some n) (map Some members) begun graph functions) c.before-2.ensures
    (subst (λ os. IsAssembled (graphs_before c.before-2.result) (Some n) os begun graph functions) list c.in_ok-made.ensures.assembled) in
    group_added tac groups n members c.requires.grouped row c.args.self.now c.keep.new.self c.push.new.self c.push-2.new.self begun graph functions c.requires.making assembled c.in_ok-keep.ensures c.in-Ok-push.ensures.items

pub returns-in-Ok-push-clause-kept : goal.returns-in-Ok-push-clause-kept
returns-in-Ok-push-clause-kept c =
    let tac = c.args.tac.now in
    let groups = c.args.groups.now in
    let n = c.args.number in
    let members = c.as_slice-members.result.now in
    let row : slice_get (groups_of groups) n ≡ Some (numbers_of members) =
    listed groups.members.items n c.index.result.now members c.requires.within c.index.ensures c.as_slice-members.ensures.value in
    let graph = c.in_ok-made.made.graph in
    let graphs = c.args.self.now.graphs.items in
    let same = c.as_slice.ensures.value in
    let bases = subst (λ (g : GraphsBefore). HasBases g c.in_ok-made.made.bases.items graph) c.before-2.ensures c.in_ok-made.ensures.bases in
    let self = subst (λ (g : GraphsBefore). AreAligned (bare g.tac.types graph) (bare g.tac.types graph)) c.before-2.ensures
    (self_aligned (graphs_before c.before-2.result) (Some n) c.deref.result.now (graph_in c.before-2.result.tac.now.types c.in_ok-local.local.graph) graph c.in_ok-made.made.functions.items c.in_ok-made.ensures.assembled) in
    let told = c.in_ok-statics.ensures tac.types graphs (sym c.requires.kept.many ∙ ap length (sym same)) (subst (HaveStatics tac.types graphs) (sym same) c.requires.kept.statics) self bases in
    kept_added tac groups n members c.requires.grouped row c.args.self.now c.keep.new.self c.push.new.self c.push-2.new.self graph c.in_ok-made.made.functions.items c.in_ok-statics.statics c.requires.kept c.in_ok-keep.ensures
    c.in-Ok.ensures.items c.in-Ok-push.ensures.items told

pub returns-in-Ok-push-clause-least : goal.returns-in-Ok-push-clause-least
returns-in-Ok-push-clause-least c = λ start.
    let tac = c.args.tac.now in
    let groups = c.args.groups.now in
    let n = c.args.number in
    let members = c.as_slice-members.result.now in
    let row : slice_get (groups_of groups) n ≡ Some (numbers_of members) =
    listed groups.members.items n c.index.result.now members c.requires.within c.index.ensures c.as_slice-members.ensures.value in
    let list : c.deref.result.now ≡ map Some members = c.deref.ensures.value ∙ c.in_ok-owners.ensures in
    let graph = c.in_ok-made.made.graph in
    let functions = c.in_ok-made.made.functions.items in
    let before = made_in tac groups c.args.self.now in
    let local = c.in_ok-local.local.graph in
    let begun = graph_in tac.types local in
    let assembled =
    subst (λ (g : GraphsBefore). IsAssembled g (Some n) (map Some members) (graph_in g.tac.types local) graph functions) c.before-2.ensures
    (subst (λ os. IsAssembled (graphs_before c.before-2.result) (Some n) os (graph_in c.before-2.result.tac.now.types local) graph functions) list c.in_ok-made.ensures.assembled) in
    least_added tac groups n members c.requires.grouped row c.args.self.now c.keep.new.self c.push.new.self c.push-2.new.self begun graph functions start c.requires.making assembled
    (record {
      leads = subst (λ os. LeadsJoined (tac_of tac) os (is_inside groups (Some n)) begun) (owners_are tac groups n members c.requires.grouped row) c.in_ok-local.ensures.leads;
      copies = c.in_ok-local.ensures.copies;
    })
    c.in_ok-keep.ensures c.in-Ok-push.ensures.items

pub returns-in-Ok-push-clause-bare : goal.returns-in-Ok-push-clause-bare
returns-in-Ok-push-clause-bare c = λ start.
    let tac = c.args.tac.now in
    let groups = c.args.groups.now in
    let n = c.args.number in
    let members = c.as_slice-members.result.now in
    let row : slice_get (groups_of groups) n ≡ Some (numbers_of members) =
    listed groups.members.items n c.index.result.now members c.requires.within c.index.ensures c.as_slice-members.ensures.value in
    let list : c.deref.result.now ≡ map Some members = c.deref.ensures.value ∙ c.in_ok-owners.ensures in
    let graph = c.in_ok-made.made.graph in
    let functions = c.in_ok-made.made.functions.items in
    let before = made_in tac groups c.args.self.now in
    let local = c.in_ok-local.local.graph in
    let begun = graph_in tac.types local in
    let assembled =
    subst (λ (g : GraphsBefore). IsAssembled g (Some n) (map Some members) (graph_in g.tac.types local) graph functions) c.before-2.ensures
    (subst (λ os. IsAssembled (graphs_before c.before-2.result) (Some n) os (graph_in c.before-2.result.tac.now.types local) graph functions) list c.in_ok-made.ensures.assembled) in
    bare_added tac groups n members c.requires.grouped row c.args.self.now c.keep.new.self c.push.new.self c.push-2.new.self begun graph functions start c.requires.making assembled
    (record {
      leads = subst (λ os. LeadsJoined (tac_of tac) os (is_inside groups (Some n)) begun) (owners_are tac groups n members c.requires.grouped row) c.in_ok-local.ensures.leads;
      copies = c.in_ok-local.ensures.copies;
    })
    c.in_ok-keep.ensures c.in-Ok-push.ensures.items

pub returns-in-Ok-push-clause-begins : goal.returns-in-Ok-push-clause-begins
returns-in-Ok-push-clause-begins c =
    let tac = c.args.tac.now in
    let groups = c.args.groups.now in
    let n = c.args.number in
    let members = c.as_slice-members.result.now in
    let row : slice_get (groups_of groups) n ≡ Some (numbers_of members) =
    listed groups.members.items n c.index.result.now members c.requires.within c.index.ensures c.as_slice-members.ensures.value in
    begins_still tac groups n members c.requires.grouped row c.args.self.now c.keep.new.self c.push.new.self c.push-2.new.self c.in_ok-made.made.graph c.in_ok-made.made.functions.items c.requires.making c.in_ok-keep.ensures c.in-Ok-push.ensures.items
