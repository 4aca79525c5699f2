use Rattle.std.proofs.Common.{◌≡◌, ℕ, List, get_or, Some, None, option_map, option_copied, sym, ap, ◌∙◌, arith}
use Rattle.std.specs.Prelude.{slice_get}
use Rattle.std.proofs.lemmas.List.{length-map}
use Rattle.std.proofs.lemmas.Option.{slice_get-map, slice_get-get_or}
use Rattle.c_typed.specs.Table.{structs_in}
use Rattle.tac_ir.specs.declared.register.FunctionId.{FunctionId}
use Rattle.call_graph.specs.ClassLists.{numbers_of}
use Rattle.call_graph.specs.GroupViews.{groups_of}
use Rattle.graph_unification.proofs.FoundStatics.{got}
use Rattle.dsa_local.specs.Joined.{ClassJoined, ClassesJoined}
use Rattle.dsa_local.specs.Members.{code_of, shown, is_inside}
use Rattle.dsa_local.proofs.Joining.{AtEach, joins_same, joins_none, joins_next}
use Rattle.dsa_local.proofs.InnerCalls.Kept.{class_joined_kept, all_have_own}
use Rattle.dsa_local.proofs.ClassSteps.{members_done, no_members}
use Rattle.dsa_local.proofs.members.Group.join_classes.Goals as goal

abbrev none : FunctionId
none = record { 0 = 0 }

abbrev number : FunctionId → ℕ
number function = function.0

pub returns-in_default-clause-joins : goal.returns-in_default-clause-joins
returns-in_default-clause-joins c =
    let own = c.args.self in
    let graph = shown own c.args.graph.now in
    let n = own.number in
    let lists = own.groups.now.members.items in
    let empty : slice_get lists n ≡ None = ap (λ items. slice_get items n) (sym c.deref.ensures.value) ∙ (got c.deref.result.now n c.get.result c.get.ensures.lookup ∙ ap option_copied c.in_default.is) in
    joins_same (structs_in own.tac.now.types) c.requires.stands.made graph c.requires.graph.sound (ClassesJoined (code_of own) (is_inside own))
    (no_members own c.requires.groups c.args.called.now c.requires.called (slice_get-map (λ members. numbers_of members.items) lists n ∙ ap (option_map (λ members. numbers_of members.items)) empty) graph)

pub loop-member-init : goal.loop-member-init
loop-member-init c =
    let own = c.args.self in
    record {
      graph = c.requires.graph;
      named = c.requires.names;
      joins = joins_none (structs_in own.tac.now.types) c.requires.stands.made (AtEach (ClassJoined (code_of own) (is_inside own)) (numbers_of c.as_slice-member-items.result.now)) (shown own c.args.graph.now) c.requires.graph.sound;
    }

pub join_class-requires-clause-graph : goal.join_class-requires-clause-graph
join_class-requires-clause-graph c = c.loop-member.invariant.graph

pub join_class-requires-clause-names : goal.join_class-requires-clause-names
join_class-requires-clause-names c = c.loop-member.invariant.named

pub loop-member-preserved : goal.loop-member-preserved
loop-member-preserved c =
    let own = c.args.self in
    let structs = structs_in own.tac.now.types in
    let made = c.requires.stands.made in
    let tac = code_of own in
    let inside = is_inside own in
    let members = c.as_slice-member-items.result.now in
    let i = c.loop-member.member-index in
    let first = (get_or members i none).0 in
    let at : slice_get (numbers_of members) i ≡ Some first = slice_get-map number members i ∙ ap (option_map number) (slice_get-get_or members i none c.loop-member-test.true) in
    let graph = shown own c.loop-member.graph in
    let next = shown own c.join_class.new.graph in
    let before = c.loop-member.invariant in
    let its = c.in_ok-join_class.ensures in
    record {
      graph = its.graph;
      named = all_have_own graph next its.joins.leads.names tac inside before.named;
      joins = joins_next structs made (ClassJoined tac inside) (numbers_of members) (class_joined_kept structs made tac inside) (shown own c.args.graph.now) graph next c.requires.graph.sound before.graph.sound i first at before.joins its.joins;
    }

pub returns-clause-graph : goal.returns-clause-graph
returns-clause-graph c = c.loop-member.invariant.graph

pub returns-clause-joins : goal.returns-clause-joins
returns-clause-joins c =
    let own = c.args.self in
    let n = own.number in
    let lists = own.groups.now.members.items in
    let members = c.as_slice-member-items.result.now in
    let there : slice_get lists n ≡ Some c.in-Some.members.now = ap (λ items. slice_get items n) (sym c.deref.ensures.value) ∙ (got c.deref.result.now n c.get.result c.get.ensures.lookup ∙ ap option_copied c.in-Some.is) in
    let listed : slice_get (groups_of own.groups.now) n ≡ Some (numbers_of members) =
    slice_get-map (λ members. numbers_of members.items) lists n ∙ (ap (option_map (λ members. numbers_of members.items)) there ∙ ap (λ (l : List FunctionId). Some (numbers_of l)) (sym c.as_slice-member-items.ensures.value)) in
    let long = length-map members number in
    members_done own c.requires.groups c.args.called.now c.requires.called (structs_in own.tac.now.types) c.requires.stands.made (numbers_of members) listed (shown own c.args.graph.now) (shown own c.loop-member.graph) c.loop-member.member-index
    (omega (arith, long, c.loop-member-test.false)) c.loop-member.invariant.joins
